-- Bytes: numbers, tags and floats as lists of bytes, and the few tests on lists that the rules use.
use Rattle.std.specs.Prelude.{if◌then◌else◌, ℕ, suc, ◌+◌, ◌-◌, ◌*◌, ◌/◌, ◌%◌, ◌^◌, Bool, true, false, not, ◌&&◌, leb, ltb, eqb, ℤ, pos, negsuc}
use Prim.Native.String.{String}
use Prim.Native.String as Str
use Prim.Native.Char.{code}
use mathlib.Core.List.{List, [], ◌∷◌, ◌++◌, foldl}
use Rattle.std.specs.Float.{binary32}
use Rattle.std.specs.Float.Ieee.{round, to_bits}

-- ---- numbers and tags

abbrev pub byte : ℕ → Bool
byte b = ltb b 256

-- "All integers and floats have the high byte first."
unfoldable pub number : List ℕ → ℕ
number = foldl (λ n b. n * 256 + b) 0

-- A tag is taken as the number that its four bytes make, and written here as text.
abbrev pub spelt : String → List ℕ
spelt Str.[] = []
spelt (Str.◌∷◌ c s) = code c ∷ spelt s

abbrev pub tag_number : String → ℕ
tag_number s = number (spelt s)

infix 50 ◌is◌
abbrev pub ◌is◌ : ℕ → String → Bool
t is s = eqb t (tag_number s)

abbrev pub between : ℕ → ℕ → ℕ → Bool
between least most n = leb least n && leb n most

-- An I2, as a whole number: "the absolute value is the surface number, and -32,768 stands for 32,768".
abbrev pub signed : ℕ → ℤ
signed n = if ltb n 32768 then pos n else negsuc (65535 - n)

abbrev pub absolute : ℤ → ℕ
absolute (pos n) = n
absolute (negsuc n) = suc n

abbrev pub negative : ℤ → Bool
negative (pos n) = false
negative (negsuc n) = true

-- ---- floats, by their bit patterns

-- An f32 has 32 bits, and is finite where its eight exponent bits are not all ones.
unfoldable pub finite : ℕ → Bool
finite bits = ltb bits (2 ^ 32) && not (eqb (bits / 2 ^ 23 % 256) 255)

-- "divided by 255, rounded once"
unfoldable pub over255 : ℕ → ℕ
unfolding round to_bits
over255 n = to_bits binary32 (round binary32 false n 255)

-- "n divided by 256, which is exact"
unfoldable pub over256 : ℤ → ℕ
unfolding round to_bits
over256 z = to_bits binary32 (round binary32 (negative z) (absolute z) 256)

abbrev pub f32_one : ℕ
f32_one = 0x3F80_0000

-- ---- lists

abbrev pub empty : {A : Type 0} → List A → Bool
empty [] = true
empty (x ∷ xs) = false

-- all of some tests pass
unfoldable pub every : List Bool → Bool
every [] = true
every (b ∷ bs) = b && every bs

unfoldable pub all : {A : Type 0} → (A → Bool) → List A → Bool
all p [] = true
all p (x ∷ xs) = p x && all p xs

unfoldable pub sum : List ℕ → ℕ
sum [] = 0
sum (n ∷ ns) = n + sum ns

unfoldable pub joined : {A : Type 0} → List (List A) → List A
joined [] = []
joined (xs ∷ xss) = xs ++ joined xss

unfoldable pub same : List ℕ → List ℕ → Bool
same [] [] = true
same [] (y ∷ ys) = false
same (x ∷ xs) [] = false
same (x ∷ xs) (y ∷ ys) = eqb x y && same xs ys

unfoldable pub amongst : List ℕ → List (List ℕ) → Bool
amongst x [] = false
amongst x (y ∷ ys) = if same x y then true else amongst x ys
