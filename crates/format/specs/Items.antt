-- Items: how a body is read, and a reader for each kind of item that a body holds.
use Rattle.std.specs.Prelude.{ℕ, zero, suc, ◌+◌, ◌-◌, ◌%◌, ◌^◌, List, [], ◌∷◌, Bool, false, ◌&&◌, length, take, drop, leb, eqb, ℤ, if◌then◌else◌}
use Rattle.format.specs.declared.Fault.{Fault}
use Rattle.format.specs.declared.Fault.TheVariants.{WrongLength, ItemCut, StringOpen, LongIndex, NotFinite}
use Rattle.format.specs.Bytes.{number, signed, finite, all, empty}

-- ---- readers

-- fine, or the first fault and the place of the header, item or string at fault
pub data Verdict (A : Type 0) : Type 0 where
  fine : A → Verdict A
  fault : (why : Fault) (at : ℕ) → Verdict A

infixl 10 ◌and_then◌
unfoldable pub ◌and_then◌ : {A B : Type 0} → Verdict A → (A → Verdict B) → Verdict B
fine a and_then f = f a
fault why at and_then f = fault why at

-- A reader is given a place and the bytes from there to the end of the body. It gets a value, and the place and the bytes after it.
-- Places count from the tag of the top-level chunk.
pub record Got (A : Type 0) : Type 0 where
  pub value : A
  pub next : ℕ
  pub left : List ℕ

abbrev pub Reader : Type 0 → Type 0
Reader A = (at : ℕ) (s : List ℕ) → Verdict (Got A)

abbrev pub give : {A : Type 0} → A → Reader A
give a at s = fine (record { value = a; next = at; left = s })

-- "bytes in order": one item, then what follows it, as in `do x ← r; ..`
infixl 10 ◌>>=◌
unfoldable pub ◌>>=◌ : {A B : Type 0} → Reader A → (A → Reader B) → Reader B
◌>>=◌ r f at s = r at s and_then λ g. f g.value g.next g.left

-- "an item that is cut (6) before its value is judged; where one item has several faults, the lower number": of two tests of one item that of the lower number
-- stands first, a detail's 14 and an index's 22 apart.
infixl 15 ◌or◌unless◌
unfoldable pub ◌or◌unless◌ : {A : Type 0} → Reader A → Fault → (A → Bool) → Reader A
◌or◌unless◌ r why ok at s = r at s and_then λ g. if ok g.value then fine g else fault why at

-- a body that has to be used up: "bytes left over" are its header's fault
unfoldable pub whole : {A : Type 0} → (header : ℕ) → Reader A → (at : ℕ) (body : List ℕ) → Verdict A
whole header r at body = r at body and_then λ g. if empty g.left then fine g.value else fault WrongLength header

-- an entry, and then more of them
infixl 12 ◌followed_by◌
abbrev pub ◌followed_by◌ : {A : Type 0} → Reader A → Reader (List A) → Reader (List A)
r followed_by more = do x ← r; xs ← more; give (x ∷ xs)

unfoldable pub times : {A : Type 0} → ℕ → Reader A → Reader (List A)
times zero r = give []
times (suc n) r = r followed_by times n r

-- as often as the body lasts; an entry takes a byte at least, so the body's length bounds their number
unfoldable pub up_to : {A : Type 0} → (most : ℕ) → Reader A → Reader (List A)
up_to zero r at s = give [] at s
up_to (suc most) r at [] = give [] at []
up_to (suc most) r at (b ∷ s) = (r followed_by up_to most r) at (b ∷ s)

unfoldable pub many : {A : Type 0} → Reader A → Reader (List A)
many r at s = up_to (length s) r at s

-- ---- the items: "Each type, number, float and string is an item."

unfoldable pub item : ℕ → Reader (List ℕ)
item n at s = if leb n (length s) then give (take n s) (at + n) (drop n s) else fault ItemCut at

unfoldable pub uint : ℕ → Reader ℕ
uint n = do bytes ← item n; give (number bytes)

abbrev pub u2 : Reader ℕ
u2 = uint 2

abbrev pub u4 : Reader ℕ
u4 = uint 4

unfoldable pub i2 : Reader ℤ
i2 = do n ← u2; give (signed n)

-- a coordinate or a level
unfoldable pub float : Reader ℕ
float = u4 or NotFinite unless finite

-- VX: "if the first byte is 255, four bytes, index in the low 24 bits; else two bytes. Reading goes on at the byte after the index."
abbrev pub long : List ℕ → Bool
long [] = false
long (b ∷ s) = eqb b 255

abbrev pub low24 : Reader ℕ
low24 = do n ← u4; give (n % 2 ^ 24)

-- #107: "LWO2 says an index below 65,280 is written in two bytes. Refuse the long form for such an index wherever a VX is read, envelopes included." It is told
-- "after an item that is cut and before 9 or 11 for the same item".
abbrev pub first_long : ℕ
first_long = 65280

abbrev pub long_form : Reader ℕ
long_form = low24 or LongIndex unless leb first_long

unfoldable pub vx : Reader ℕ
vx at s = (if long s then long_form else u2) at s

-- S0: "the name ends at its first zero byte, and one more zero follows if name and terminator together are odd"
unfoldable pub to_zero : List ℕ → ℕ
to_zero [] = 0
to_zero (b ∷ s) = if eqb b 0 then 0 else suc (to_zero s)

-- a name of n bytes with its one or two zeros
abbrev pub string_size : ℕ → ℕ
string_size n = n + 2 - n % 2

unfoldable pub string : Reader (List ℕ)
string at s =
    let n = to_zero s in
    let size = string_size n in
    if leb size (length s) && all (eqb 0) (take (size - n) (drop n s)) then give (take n s) (at + size) (drop size s) else fault StringOpen at
