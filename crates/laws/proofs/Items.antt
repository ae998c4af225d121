-- The items: each is read back from the bytes that it is written as, in front of any rest.
use Rattle.std.specs.Prelude.{if◌then◌else◌}
use Prim.Native.Nat.{ℕ, zero, suc, ◌+◌, ◌-◌, ◌/◌, ◌%◌, ◌^◌, ◌≤◌, ◌<◌}
use mathlib.Core.Path.{◌≡◌, refl, ap, ◌∙◌}
use mathlib.Core.List.{List, [], ◌∷◌, ◌++◌, map, append_assoc}
use mathlib.Core.Bool.{Bool, true, false}
use native.Mathlib.Omega.{arith}
use lib.Dec.{ltb, eqb}
use lib.ListN.{length, take, drop, replicate, length-append, length-replicate}
use lib.Seq.{take_at, drop_at, take-append_seam, drop-append_seam}
use borrow.Author.Tests.{le-leb, ne_eqb, eq-eqb, ltb-true, ltb-false, not-true}
use Rattle.format.specs.Bytes.{number, finite, all, joined}
use Rattle.format.specs.Items.{Reader, ◌and_then◌, ◌>>=◌, ◌or◌unless◌, item, uint, float, first_long, long, vx, to_zero, string_size, string}
use Rattle.format.specs.Canonical.{bytes, vx_bytes, string_bytes}
use Rattle.format.specs.Written.{has_no_zero}
use Rattle.format.proofs.Facts.{all_first, all_rest, finite_bits}
use Rattle.format.proofs.CanonicalLengths.{length_bytes}
use Rattle.laws.proofs.Numbers.{number_bytes}
use Rattle.laws.proofs.Reading.{ReadsAs, reads_then, reads_as, reads_unless}

-- ---- numbers

pub reads_item : (n : ℕ) (w : List ℕ) → length w ≡ n → ReadsAs (item n) w w
unfolding item
reads_item n w long = record {
  here = λ at rest.
      let enough : n ≤ length (w ++ rest) = omega (arith, length-append w rest) in
      rw (le-leb n (length (w ++ rest)) enough, take_at w rest n long, drop_at w rest n long, long);
}

pub reads_uint : (k n : ℕ) → n < 256 ^ k → ReadsAs (uint k) (bytes k n) n
unfolding uint
reads_uint k n small = record { here = rw (number_bytes k n small) at (reads_as number (reads_item k (bytes k n) (length_bytes k n))).here }

-- ---- floats

reads_float : (n : ℕ) → finite n ≡ true → ReadsAs float (bytes 4 n) n
unfolding float
reads_float n known = record { here = (reads_unless _ finite (reads_uint 4 n (finite_bits n known).0) known).here }

-- so many floats, and then what is read after them
unfoldable pub floats : {A : Type 0} → ℕ → (List ℕ → Reader A) → Reader A
floats zero f = f []
floats (suc n) f = float >>= λ x. floats n (λ xs. f (x ∷ xs))

pub reads_floats : {A : Type 0} (f : List ℕ → Reader A) {v : List ℕ} {y : A} (xs : List ℕ) → all finite xs ≡ true → ReadsAs (f xs) v y
    → ReadsAs (floats (length xs) f) (joined (map (bytes 4) xs) ++ v) y
unfolding floats joined
reads_floats f [] known h = h
reads_floats f (x ∷ xs) known h =
    rw append_assoc
    (reads_then _ (reads_float x (all_first _ x xs known))
    (reads_floats (λ xs. f (x ∷ xs)) xs (all_rest _ x xs known) h))

-- ---- VX

pub reads_vx : (n : ℕ) → n < 2 ^ 24 → ReadsAs vx (vx_bytes n) n
unfolding vx vx_bytes bytes ◌>>=◌ ◌and_then◌ ◌or◌unless◌
reads_vx n small = go (ltb n first_long) refl
  where
    go : (b : Bool) → ltb n first_long ≡ b → ReadsAs vx (if b then bytes 2 n else bytes 4 (0xFF00_0000 + n)) n
    go true e = record {
      here = λ at rest.
          let below : n < first_long = ltb-true _ _ e in
          let low : n / 256 % 256 ≡ 255 → ⊥ = omega arith in
          rw (ne_eqb (n / 256 % 256) 255 low) ((reads_uint 2 n (omega arith)).here at rest);
    }
    go false e = record {
      here = λ at rest.
          let high : (0xFF00_0000 + n) / 256 / 256 / 256 % 256 ≡ 255 = omega arith in
          let same : (0xFF00_0000 + n) % 2 ^ 24 ≡ n = omega arith in
          let large : first_long ≤ n = ltb-false n first_long e in
          rw (eq-eqb ((0xFF00_0000 + n) / 256 / 256 / 256 % 256) 255 high, (reads_uint 4 (0xFF00_0000 + n) (omega arith)).here at rest, same, le-leb first_long n large);
    }

-- ---- strings

pub zeros : (n : ℕ) → all (eqb 0) (replicate n 0) ≡ true
unfolding all
zeros zero = refl
zeros (suc n) = zeros n

to_zero_lem : (n rest : List ℕ) → has_no_zero n ≡ true → to_zero (n ++ 0 ∷ rest) ≡ length n
unfolding to_zero
to_zero_lem [] rest ok = refl
to_zero_lem (b ∷ n) rest ok = rw (not-true (eqb b 0) (all_first _ b n ok)) (ap suc (to_zero_lem n rest (all_rest _ b n ok)))

pub reads_string : (n : List ℕ) → has_no_zero n ≡ true → ReadsAs string (string_bytes n) n
unfolding string string_bytes
reads_string n ok = record {
  here = λ at rest.
      let l : ℕ = length n in
      let size : ℕ = string_size l in
      let zs : List ℕ = replicate (size - l) 0 in
      let one_more : size - l ≡ suc (1 - l % 2) = omega arith in
      let ends_at : to_zero (n ++ zs ++ rest) ≡ l = rw (append_assoc n zs rest, one_more) (to_zero_lem n (replicate (1 - l % 2) 0 ++ rest) ok) in
      let padding : length zs ≡ size - l = length-replicate (size - l) 0 in
      let long : length (n ++ zs) ≡ size = length-append n zs ∙ omega arith in
      let fits : size ≤ length (n ++ zs ++ rest) = omega (arith, length-append (n ++ zs) rest) in
      let behind : drop l (n ++ zs ++ rest) ≡ zs ++ rest = ap (drop l) (append_assoc n zs rest) ∙ drop-append_seam n (zs ++ rest) in
      let value : take l (n ++ zs ++ rest) ≡ n = ap (take l) (append_assoc n zs rest) ∙ take-append_seam n (zs ++ rest) in
      rw (ends_at, le-leb size (length (n ++ zs ++ rest)) fits, behind, take_at zs rest (size - l) padding, zeros (size - l), value, drop_at (n ++ zs) rest size long, long);
}
