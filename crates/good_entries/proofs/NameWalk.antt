-- The names: each is a slice of the joined bytes, and is compared with those before it.
use Rattle.std.specs.Prelude.{if◌then◌else◌}
use Prim.Native.Nat.{ℕ, ◌+◌, ◌-◌, ◌<◌, ◌≤◌}
use mathlib.Core.Path.{◌≡◌, refl, sym, ◌∙◌}
use mathlib.Core.List.{List, [], ◌∷◌, ◌++◌}
use mathlib.Core.Bool.{Bool, true, false, ◌&&◌}
use native.Mathlib.Numerals.{add-one}
use native.Mathlib.Omega.{arith}
use lib.ListN.{length, get_or, take, drop}
use lib.Seq.{take-suc}
use Rattle.format.specs.Bytes.{sum, same, amongst}
use Rattle.format.specs.Mesh.{Name}
use Rattle.format.specs.Written.{pieces, good_names}
use Rattle.good_entries.specs.Entries.{good_name}
use Rattle.format.proofs.Indexed.{past_end, part, pieces_at, sum_index}
use Rattle.mesh.proofs.Entries.{pieces_snoc, sum_snoc}

-- ---- a name amongst others

pub record Searching (x : Name) (ns bytes : List ℕ) (i at : ℕ) : Type 0 where
  pub fits : at + sum (drop i ns) ≤ length bytes
  pub so : amongst x (pieces ns bytes) ≡ amongst x (pieces (drop i ns) (drop at bytes))

module _ {x : Name} {ns bytes : List ℕ} {i at : ℕ} (w : Searching x ns bytes i at) where
  pub not_there : length ns ≤ i → false ≡ amongst x (pieces ns bytes)
  unfolding pieces amongst
  not_there h = sym (rw (past_end ns i h) at w.so)

  module _ (some : i < length ns) where
    abbrev n : ℕ
    n = get_or ns i 0

    pub search_room : at + n ≤ length bytes
    search_room = omega (arith, w.fits, sum_index i ns some)

    module _ {b : Bool} (is : b ≡ same x (take (at + n - at) (drop at bytes))) where
      step : amongst x (pieces ns bytes) ≡ (if b then true else amongst x (pieces (drop (i + 1) ns) (drop (at + n) bytes)))
      unfolding amongst
      step = w.so ∙ rw (is, part at n bytes, pieces_at i at ns bytes some)

      pub found : b ≡ true → true ≡ amongst x (pieces ns bytes)
      found t = sym (rw t at step)

      pub search_turn : b ≡ false → Searching x ns bytes (i + 1) (at + n)
      search_turn f = record { fits = omega (arith, w.fits, sum_index i ns some); so = rw f at step }

-- ---- all names

pub record NameWalk (ns bytes : List ℕ) (i at : ℕ) : Type 0 where
  pub agree : at + sum (drop i ns) ≡ length bytes
  pub before : at ≡ sum (take i ns)
  pub so : good_names [] (pieces ns bytes) ≡ good_names (pieces (take i ns) bytes) (pieces (drop i ns) (drop at bytes))

pub begin : {ns bytes : List ℕ} → sum ns ≡ length bytes → NameWalk ns bytes 0 0
unfolding pieces sum
begin agree = record { agree = omega arith; before = refl; so = refl }

module _ {ns bytes : List ℕ} {i at : ℕ} (w : NameWalk ns bytes i at) where
  pub end : length ns ≤ i → true ≡ good_names [] (pieces ns bytes)
  unfolding pieces good_names
  end h = sym (rw (past_end ns i h) at w.so)

  -- the earlier names are in the bytes
  pub earlier_fit : sum (take i ns) ≤ length bytes
  earlier_fit = omega (arith, w.agree, w.before)

  module _ (some : i < length ns) where
    abbrev its_length : ℕ
    its_length = get_or ns i 0

    pub room : at + its_length ≤ length bytes
    room = omega (arith, w.agree, sum_index i ns some)

    one_more : take (i + 1) ns ≡ take i ns ++ (its_length ∷ [])
    one_more = rw add-one (take-suc ns i 0 some)

    with_it : pieces (take (i + 1) ns) bytes ≡ pieces (take i ns) bytes ++ (take its_length (drop at bytes) ∷ [])
    with_it = rw (one_more, pieces_snoc (take i ns) its_length bytes, ← w.before)

    module _ {b : Bool} (is : b ≡ good_name (pieces (take i ns) bytes) (take (at + its_length - at) (drop at bytes))) where
      judged : good_names [] (pieces ns bytes) ≡ (b && good_names (pieces (take (i + 1) ns) bytes) (pieces (drop (i + 1) ns) (drop (at + its_length) bytes)))
      unfolding good_names
      judged = w.so ∙ rw (with_it, is, part at its_length bytes, pieces_at i at ns bytes some)

      pub fails : b ≡ false → false ≡ good_names [] (pieces ns bytes)
      fails f = sym (rw f at judged)

      pub turn : b ≡ true → NameWalk ns bytes (i + 1) (at + its_length)
      turn t = record {
        agree = omega (arith, w.agree, sum_index i ns some);
        before = rw one_more (omega (arith, w.before, sum_snoc (take i ns) its_length));
        so = rw t at judged;
      }
