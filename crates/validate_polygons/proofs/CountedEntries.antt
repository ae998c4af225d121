-- The sums so far, and the sizes of the entries from the place on, are together the sizes of the body.
use mathlib.Core.Path.{◌≡◌, refl, sym, ap}
use mathlib.Core.List.{List, [], ◌∷◌}
use Prim.Native.Nat.{ℕ, ◌+◌, ◌≤◌, ◌<◌}
use native.Mathlib.Omega.{arith}
use native.Mathlib.Nat.{zero-add, add-zero}
use native.Mathlib.Numerals.{one-add}
use lib.ListN.{length, drop}
use Rattle.format.specs.declared.Fault.{Fault}
use Rattle.format.specs.Bytes.{sum}
use Rattle.format.specs.Items.{fine, fault}
use Rattle.format.specs.Rules.{added}
use Rattle.format.specs.Promises.{keep, got, Keeps, JudgedAt, polygons_listed}
use Rattle.format.proofs.ReaderSteps.{used_up, faulty}
use Rattle.format.proofs.Entries.{ManyLoop, many_begin, many_turn, many_stop, many_end}
use Rattle.polygon_layouts.specs.Layouts.{Layout, EntryOf, entry_of, part_of, entries_of}
use Rattle.validate_polygons.specs.declared.entries.Sizes.{Sizes}
use Rattle.validate_polygons.specs.Promises.{entry_sizes, entry_bytes, sizes_of}

-- more polygons, with their vertices and details
abbrev more : (p v d : ℕ) → Sizes → Sizes
more p v d z = record { polygons = p + z.polygons; vertices = v + z.vertices; details = d + z.details }

same : {p p' v v' d d' : ℕ} → p ≡ p' → v ≡ v' → d ≡ d' → ◌≡◌ {A = Sizes} (record { polygons = p; vertices = v; details = d })
    (record { polygons = p'; vertices = v'; details = d' })
same e f g = rw (e, f, g)

-- what no entry makes, and what one more adds
none : (l : Layout) → sizes_of (part_of l []) ≡ record { polygons = 0; vertices = 0; details = 0 }
unfolding sizes_of added polygons_listed sum
none Layout.Faces = refl
none Layout.Patches = refl
none (Layout.Polygons kind) = refl

adds : (l : Layout) (x : EntryOf l) (xs : List (EntryOf l))
    → sizes_of (part_of l (x ∷ xs)) ≡ more 1 (entry_sizes l x).0 (entry_sizes l x).1 (sizes_of (part_of l xs))
unfolding sizes_of added polygons_listed sum
adds Layout.Faces x xs = rw one-add
adds Layout.Patches x xs = rw one-add
adds (Layout.Polygons kind) x xs = rw one-add

-- from the place `from` on, p polygons with v vertices and d details are read, up to the place `at`
pub record EntriesCounted (l : Layout) (points names : ℕ) (s : List ℕ) (from at p v d : ℕ) : Type 0 where
  pub few : p + (v + d) ≤ at
  pub rest : ManyLoop (keep sizes_of (entries_of l points names from (drop from s))) (entry_of l points names) s at (λ xs. more p v d (sizes_of (part_of l xs)))

module _ {l : Layout} {points names : ℕ} {s : List ℕ} {from : ℕ} where
  pub begin : EntriesCounted l points names s from from 0 0 0
  begin = record {
    few = omega arith;
    rest = many_begin (part_of l) sizes_of (λ xs. more 0 0 0 (sizes_of (part_of l xs))) (λ xs. sym (same (zero-add _) (zero-add _) (zero-add _)));
  }

  module _ {at p v d : ℕ} (w : EntriesCounted l points names s from at p v d) where
    pub end : length s ≤ at → JudgedAt 0 from (entries_of l points names) sizes_of s (fine (record { polygons = p; vertices = v; details = d }))
    end h =
        let z : more p v d (sizes_of (part_of l [])) ≡ record { polygons = p; vertices = v; details = d }
        = rw (none l) (same (add-zero p) (add-zero v) (add-zero d)) in
        used_up (record { is = rw z at (many_end w.rest h) }) h

    module _ (some : at < length s) where
      pub turn : {v' d' next : ℕ} → Keeps (entry_of l points names) (entry_sizes l) entry_bytes s at (got s (v', d') next)
          → EntriesCounted l points names s from next (p + 1) (v + v') (d + d')
      turn {v'} {d'} {next} k = record { few = omega (arith, w.few, k.moves); rest = many_turn w.rest some k.says (omega (arith, k.moves)) plus }
        where
          plus : (x : EntryOf l) (xs : List (EntryOf l)) → entry_sizes l x ≡ (v', d')
              → more p v d (sizes_of (part_of l (x ∷ xs))) ≡ more (p + 1) (v + v') (d + d') (sizes_of (part_of l xs))
          plus x xs e =
              let a : (entry_sizes l x).0 ≡ v' = ap (λ y. y.0) e in
              let b : (entry_sizes l x).1 ≡ d' = ap (λ y. y.1) e in
              rw (adds l x xs) (same (omega arith) (omega arith) (omega arith))

      pub stop : {why : Fault} {q : ℕ} → Keeps (entry_of l points names) (entry_sizes l) entry_bytes s at (fault why q)
          → JudgedAt 0 from (entries_of l points names) sizes_of s (fault why q)
      stop k = faulty (record { is = many_stop w.rest some k.says })
