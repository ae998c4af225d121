-- The pairs of a PTAG by the surface numbers, or the part names, of a run: the first number has the first pair, or none.
use Rattle.std.specs.Prelude.{if◌then◌else◌}
use Prim.Native.Nat.{ℕ, suc, ◌+◌, ◌-◌}
use mathlib.Core.Path.{◌≡◌, refl, ap, ◌∙◌}
use mathlib.Core.List.{List, [], ◌∷◌, ◌++◌, map}
use mathlib.Core.Bool.{Bool, true, false}
use native.Mathlib.Numerals.{add-one}
use native.Mathlib.Omega.{arith}
use lib.Dec.{eqb}
use lib.ListN.{length, length-append}
use borrow.Author.Tests.{eq-eqb, ne_eqb}
use Rattle.format.specs.Bytes.{joined}
use Rattle.format.specs.Mesh.{Polygon}
use Rattle.format.specs.Canonical.{bytes, vx_bytes, pairs_of, pair_bytes}
use Rattle.format.specs.Promises.{total}
use Rattle.format.proofs.CanonicalLengths.{length_vx}
use Rattle.mesh.specs.Polygons.{pair_of, pairs_from}

-- they are the specification's
module _ (number : Polygon → ℕ) where
  pub pairs_are : (i : ℕ) (ps : List Polygon) → joined (map pair_bytes (pairs_of number i ps)) ≡ pairs_from i (map number ps)
  unfolding pairs_of pairs_from joined
  pairs_are i [] = refl
  pairs_are i (p ∷ ps) = go (eqb (number p) 0) (pairs_are (suc i) ps)
    where
      go : (b : Bool) → joined (map pair_bytes (pairs_of number (suc i) ps)) ≡ pairs_from (suc i) (map number ps)
          → joined (map pair_bytes ((if b then [] else (i, number p) ∷ []) ++ pairs_of number (suc i) ps)) ≡ (if b then [] else pair_bytes (i, number p)) ++ pairs_from (suc i) (map number ps)
      go true later = later
      go false later = ap (λ (l : List ℕ). pair_bytes (i, number p) ++ l) later

module _ (i n : ℕ) (ns : List ℕ) where
  pub pairs_left : pairs_from i (n ∷ ns) ≡ pair_of i n ++ pairs_from (i + 1) ns
  unfolding pairs_from
  pairs_left = rw add-one

  pub pairs_more : length (pairs_from i (n ∷ ns)) ≡ length (pair_of i n) + length (pairs_from (i + 1) ns)
  pairs_more = ap length pairs_left ∙ length-append (pair_of i n) (pairs_from (i + 1) ns)

-- a pair has some bytes, so there are none where there are no bytes
pub some_pairs : (t : ℕ × ℕ) (ts : List (ℕ × ℕ)) → total pair_bytes (t ∷ ts) ≡ 0 → ⊥
unfolding joined pair_bytes
some_pairs t ts none =
    let one = bytes 2 (t.1 - 1) in
    omega (arith, none, length-append (vx_bytes t.0 ++ one) (joined (map pair_bytes ts)), length-append (vx_bytes t.0) one, length_vx t.0)

-- ---- one of them

module _ (i number : ℕ) where
  pub no_pair : number ≡ 0 → pair_of i number ≡ []
  no_pair e = rw (eq-eqb number 0 e)

  pub a_pair : (number ≡ 0 → ⊥) → pair_of i number ≡ vx_bytes i ++ bytes 2 (number - 1)
  unfolding pair_bytes
  a_pair e = rw (ne_eqb number 0 e)

  pub pair_parts : (number ≡ 0 → ⊥) → length (pair_of i number) ≡ length (vx_bytes i) + length (bytes 2 (number - 1))
  pair_parts e = ap length (a_pair e) ∙ length-append (vx_bytes i) (bytes 2 (number - 1))
