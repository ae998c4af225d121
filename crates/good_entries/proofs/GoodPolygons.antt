-- Polygons are good where all vertices are numbers of points and the words of each entry are good: the tests are the same, in another order.
use Prim.Native.Nat.{ℕ, ◌-◌}
use mathlib.Core.Path.{◌≡◌, refl, sym, ap, ◌∙◌}
use mathlib.Core.List.{List, [], ◌∷◌, ◌++◌, map}
use mathlib.Core.Bool.{Bool, true, false, ◌&&◌, and_assoc, and-false}
use native.Mathlib.Omega.{arith}
use lib.Dec.{ltb}
use lib.ListN.{length, take, drop, length-drop, take-append-drop}
use Rattle.format.specs.Bytes.{between, every, all, sum}
use Rattle.format.specs.Limits.{lwo2_vertex_limit}
use Rattle.format.specs.Mesh.{polygon_of, Polygon, FACE, PATCH, word, polygon_size, polygon_from}
use Rattle.format.specs.Written.{pieces, entries, polygons_from, vertex_counts, good_polygon}
use Rattle.format.proofs.Facts.{in_pairs}
use Rattle.mesh.specs.declared.polygons.Polygon as view
use Rattle.mesh.specs.Lent.{mesh_polygons}
use Rattle.mesh.specs.Polygons.{polygon_at}
use Rattle.std.specs.declared.slice.ChunksExact.{ChunksExact}
use Rattle.mesh.proofs.ColumnWalk.{NextEntry}
use Rattle.mesh.proofs.PolygonEntries.{PolygonEntries, own_length}
use Rattle.good_entries.specs.Entries.{good_entry}

abbrev pub good_words : (name_count : ℕ) → Polygon → Bool
good_words names p = good_entry names p.kind (length p.vertices) p.surface p.part_name

-- ---- tests in another order

third_first : (a b c d : Bool) → (a && (b && (c && d))) ≡ (c && (a && (b && d)))
third_first a b true d = refl
third_first a b false d = rw (and-false b, and-false a)

all_both : (p : ℕ → Bool) (xs ys : List ℕ) → all p (xs ++ ys) ≡ (all p xs && all p ys)
unfolding all
all_both p [] ys = refl
all_both p (x ∷ xs) ys = ap (λ (b : Bool). p x && b) (all_both p xs ys) ∙ sym (and_assoc (p x) (all p xs) (all p ys))

-- ---- polygons

module _ (points names : ℕ) where
  abbrev below : List ℕ → Bool
  below vs = all (λ v. ltb v points) vs

  one : (p : Polygon) → good_polygon points names p ≡ (below p.vertices && good_words names p)
  unfolding good_polygon every
  one p = third_first (between FACE PATCH p.kind) (between 1 lwo2_vertex_limit (length p.vertices)) (below p.vertices) _

  apart : (es : List (List ℕ)) (vs : List ℕ) → sum (map (word 1) es) ≡ length vs
      → all (good_polygon points names) (polygons_from es (pieces (map (word 1) es) vs)) ≡ (below vs && all (good_words names) (polygons_from es (pieces (map (word 1) es) vs)))
  unfolding polygons_from pieces sum all
  apart [] [] agree = refl
  apart [] (v ∷ vs) agree = absurd (omega arith)
  apart (e ∷ es) vs agree =
      let n : ℕ = word 1 e in
      let p : Polygon = polygon_from e (take n vs) in
      let others : List Polygon = polygons_from es (pieces (map (word 1) es) (drop n vs)) in
      let both : below vs ≡ (below (take n vs) && below (drop n vs)) = rw (take-append-drop n vs) at (all_both (λ v. ltb v points) (take n vs) (drop n vs)) in
      rw (one p, apart es (drop n vs) (omega (arith, length-drop n vs)), both)
      (in_pairs (below (take n vs)) (good_words names p) (below (drop n vs)) (all (good_words names) others))

  module _ (ws vs : List ℕ) (agree : sum (vertex_counts ws) ≡ length vs) {b : Bool} (is : b ≡ below vs) where
    so : all (good_polygon points names) (mesh_polygons ws vs) ≡ (b && all (good_words names) (mesh_polygons ws vs))
    unfolding mesh_polygons
    so = rw is (apart (entries polygon_size ws) vs agree)

    pub not_below : b ≡ false → false ≡ all (good_polygon points names) (mesh_polygons ws vs)
    not_below f = sym (rw f at so)

    pub by_words : b ≡ true → all (good_words names) (mesh_polygons ws vs) ≡ all (good_polygon points names) (mesh_polygons ws vs)
    by_words t = sym (rw t at so)

-- ---- the answer for an entry is that for its polygon

pub judged : (names : ℕ) {ws vs : List ℕ} {Left : List Polygon → Type 0} {s : ChunksExact ℕ} {first : ℕ} {b : Bool} {p : view.Polygon}
    → PolygonEntries ws vs Left s first → (t : ChunksExact ℕ) (x : List ℕ) → NextEntry s t x → p ≡ polygon_at x 0 first
    → b ≡ good_entry names p.kind (p.end - first) p.surface p.part_name
    → b ≡ good_words names (polygon_of p.kind p.surface p.part_name (take (p.end - first) (drop first vs)))
judged names {ws} {vs} {Left} {s} {first} {b} {p} w t x step is answer =
    let count : p.end - first ≡ length (take (p.end - first) (drop first vs)) = omega (arith, own_length w t x step is) in
    answer ∙ ap (λ (n : ℕ). good_entry names p.kind n p.surface p.part_name) count
