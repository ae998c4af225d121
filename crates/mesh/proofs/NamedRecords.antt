-- The names and their records walked together: there are as many, so both lists end at once.
use Prim.Native.Nat.{ℕ, ◌+◌, ◌*◌, ◌≤◌}
use mathlib.Core.Path.{◌≡◌, sym, ap}
use mathlib.Core.List.{List, [], ◌∷◌, ◌++◌}
use mathlib.Core.Logic.{◌⊎◌, inl, inr}
use native.Mathlib.Omega.{arith}
use lib.ListN.{length, length-append}
use Rattle.std.specs.declared.iter.Zip.{Zip}
use Rattle.std.specs.declared.slice.Iter.{Iter}
use Rattle.std.specs.declared.slice.ChunksExact.{ChunksExact}
use Rattle.std.specs.Slice.Iter.{iter_rest, chunks_exact_rest, chunks_exact_size}
use Rattle.std.specs.Iterator.Adapters.{zip_first, zip_second}
use Rattle.format.specs.Mesh.{record_size, surface_from}
use Rattle.format.proofs.Indexed.{no_elements}
use Rattle.mesh.specs.Lent.{mesh_surfaces}
use Rattle.mesh.proofs.ColumnWalk.{entries_next, NextEntry, NoEntry}

abbrev pub Both : Type 0
Both = Zip (Iter ℕ) (ChunksExact ℕ)

-- the names' words that are left, and those of the records
abbrev pub names_left : Both → List ℕ
names_left z = iter_rest (zip_first z)

abbrev pub words_left : Both → List ℕ
words_left z = chunks_exact_rest (zip_second z)

pub record NamedRecords (ns : List ℕ) (z : Both) : Type 0 where
  pub size_is : chunks_exact_size (zip_second z) ≡ record_size
  pub each : length (words_left z) ≡ record_size * length (names_left z)
  pub inside : length (names_left z) ≤ length ns

pub begin : {ns ws : List ℕ} {z : Both} → names_left z ≡ ns → words_left z ≡ ws → chunks_exact_size (zip_second z) ≡ record_size
    → length ws ≡ record_size * length ns → NamedRecords ns z
begin names words size each = record { size_is = size; each = rw (names, words) each; inside = rw names (omega arith) }

-- what the loop's call of `next` tells where one of the two lists has no more
abbrev pub NoneLeft : Both → Type 0
NoneLeft z = ((u : Iter ℕ) × ((length (names_left z) ≡ 0) × (u ≡ zip_first z))) ⊎ ((u : ChunksExact ℕ) × NoEntry (zip_second z) u)

pub end : {ns : List ℕ} {z : Both} → NamedRecords ns z → NoneLeft z → names_left z ≡ []
end w (inl h) = no_elements _ (sym h.1.0)
end w (inr h) = no_elements _ (omega (arith, h.1.1.0, w.size_is, w.each))

module _ {ns : List ℕ} {z : Both} (w : NamedRecords ns z) (t : Both) (n : ℕ) (x : List ℕ)
    (first : names_left z ≡ n ∷ names_left t) (step : NextEntry (zip_second z) (zip_second t) x) where
  pub long : length x ≡ record_size
  long = rw (← w.size_is) step.1.1

  pub fewer : length (names_left z) ≡ length (names_left t) + 1
  fewer = omega (arith, ap length first)

  pub turn : NamedRecords ns t
  turn = record {
    size_is = rw (← w.size_is) step.0;
    each = omega (arith, fewer, w.each, ap length step.1.0, length-append x (words_left t), long);
    inside = omega (arith, fewer, w.inside);
  }

pub surfaces_next : (x more : List ℕ) → length x ≡ record_size → mesh_surfaces (x ++ more) ≡ surface_from x ∷ mesh_surfaces more
unfolding mesh_surfaces
surfaces_next x more long = rw (entries_next record_size x more (omega arith) long)
