-- How long the items of a canonical file are: each is as many bytes as its definition puts, whatever they say.
use Rattle.std.specs.Prelude.{if◌then◌else◌}
use Prim.Native.Nat.{ℕ, zero, suc, ◌+◌, ◌-◌, ◌/◌, ◌%◌, ◌≤◌, ◌<◌}
use Prim.Native.String.{String}
use mathlib.Core.Path.{◌≡◌, refl, ◌∙◌}
use mathlib.Core.List.{List, [], ◌∷◌}
use mathlib.Core.Bool.{Bool, true, false}
use native.Mathlib.Omega.{arith}
use lib.Dec.{ltb, eqb}
use lib.ListN.{length, replicate, length-append, length-replicate}
use borrow.Author.Tests.{lt-ltb, le-ltb}
use Rattle.format.specs.Bytes.{spelt, joined}
use Rattle.format.specs.Items.{first_long, string_size}
use Rattle.format.specs.Mesh.{Point, FACE, Name}
use Rattle.format.specs.Canonical.{bytes, vx_bytes, string_bytes, point_bytes, type_of, form_bytes}

pub length_bytes : (k n : ℕ) → length (bytes k n) ≡ k
unfolding bytes
length_bytes zero n = refl
length_bytes (suc k) n = length-append (bytes k (n / 256)) (n % 256 ∷ []) ∙ omega (arith, length_bytes k (n / 256))

pub length_vx : (n : ℕ) → 2 ≤ length (vx_bytes n)
unfolding vx_bytes
length_vx n = go (ltb n first_long)
  where
    go : (b : Bool) → 2 ≤ length (if b then bytes 2 n else bytes 4 (0xFF00_0000 + n))
    go true = omega (arith, length_bytes 2 n)
    go false = omega (arith, length_bytes 4 (0xFF00_0000 + n))

pub short_vx : (n : ℕ) → n < first_long → length (vx_bytes n) ≡ 2
unfolding vx_bytes
short_vx n small = rw (lt-ltb n first_long small) (length_bytes 2 n)

pub long_vx : (n : ℕ) → first_long ≤ n → length (vx_bytes n) ≡ 4
unfolding vx_bytes
long_vx n large = rw (le-ltb n first_long large) (length_bytes 4 (0xFF00_0000 + n))

pub length_string : (n : Name) → length (string_bytes n) ≡ string_size (length n)
unfolding string_bytes
length_string n =
    let zeros : ℕ = string_size (length n) - length n in
    let long : length (replicate {A = ℕ} zeros 0) ≡ zeros = length-replicate zeros 0 in
    omega (arith, length-append n (replicate zeros 0))

pub length_point : (p : Point) → length (point_bytes p) ≡ 12
unfolding joined bytes
length_point p = refl

-- the type of a POLS
pub length_type : (kind : ℕ) → length (spelt (type_of kind)) ≡ 4
length_type kind = go (eqb kind FACE)
  where
    go : (b : Bool) → length (spelt (if b then "FACE" else "PTCH")) ≡ 4
    go true = refl
    go false = refl

pub length_form : (type : String) (rest : List ℕ) → length (spelt type) ≡ 4 → length (form_bytes type rest) ≡ 12 + length rest
unfolding form_bytes bytes
length_form type rest four = omega (arith, length-append (spelt type) rest)
