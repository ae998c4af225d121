-- A polygon of an LWO2 file is a count and vertices: it is put as they are.
use mathlib.Core.Path.{◌≡◌, refl, sym, ap, ◌∙◌}
use mathlib.Core.List.{List, [], ◌∷◌, map}
use Prim.Native.Nat.{ℕ, ◌+◌}
use native.Mathlib.Omega.{arith}
use lib.Dec.{leb}
use lib.ListN.{length, drop}
use Rattle.format.specs.Items.{fine, Got, give, u2, vx}
use Rattle.format.specs.Mesh.{polygon_of, Polygon}
use Rattle.format.specs.Bodies.{count_bits, lwo2_vertices, polygon}
use Rattle.format.specs.Promises.{got, itself, taking, ReadsAt, Succeeds, Put}
use Rattle.format.proofs.ReaderSteps.{on, given}
use Rattle.load_vertices.specs.declared.Lists.{Lists}
use Rattle.load_vertices.specs.declared.Ends.{Ends}
use Rattle.load_vertices.specs.Promises.{VerticesRoom, VerticesPut, EntryRoom, EntryPut}
use Rattle.load_vertices.proofs.PutVertices.{above_length, vertices_counted}
use Rattle.load_vertices.proofs.VerticesAfterCount.{counted_fine, run_room, run_says}

module _ (kind : ℕ) where
  abbrev bare : List ℕ → Polygon
  bare vs = polygon_of kind 0 0 vs

  bare_keeps : (vs : List ℕ) (at : ℕ) (t : List ℕ) (g : Got Polygon) → give (bare vs) at t ≡ fine g → g.value.vertices ≡ vs
  bare_keeps vs at t g e = let same : record { value = bare vs; next = at; left = t } ≡ g = cc in sym (ap (λ g. g.value.vertices) same)

  module _ {l : Lists} {e : Ends} {s : List ℕ} {at : ℕ} {words vertices : List ℕ}
      (r : EntryRoom (polygon l.points kind) itself l e s at words vertices) where
    pub polygon_counted : Succeeds (u2 at (drop at s))
    unfolding polygon lwo2_vertices
    polygon_counted = counted_fine count_bits (λ n. leb 1 (count_bits n)) vx (λ vs. give (bare vs)) itself bare_keeps r

    module _ {n next : ℕ} (w : ReadsAt u2 (taking 2) s at (got s n next)) where
      pub polygon_vertices : VerticesRoom vx (count_bits n) l.points l.base s next vertices e.vertices
      unfolding polygon lwo2_vertices
      polygon_vertices = run_room count_bits (λ n. leb 1 (count_bits n)) vx (λ vs. give (bare vs)) itself bare_keeps r w

      pub polygon_put : {words' vertices' : List ℕ} {end : ℕ} → Put words e.polygons (kind ∷ count_bits n ∷ 0 ∷ 0 ∷ []) words'
          → VerticesPut vx (count_bits n) l.points l.base s next vertices e.vertices vertices' end
          → EntryPut (polygon l.points kind) itself l e s at words words' vertices vertices' end (count_bits n)
      unfolding polygon lwo2_vertices
      polygon_put p q =
          let many = vertices_counted q in
          let placed : length (map (λ v. l.base + v) q.vertices) ≡ count_bits n = above_length l.base q.vertices ∙ many in
          record {
            entry = bare q.vertices;
            reads = record {
              says = on _ (run_says count_bits (λ n. leb 1 (count_bits n)) vx (λ vs. give (bare vs)) itself bare_keeps r w q.reads.says)
                  (given refl);
              moves = omega (arith, w.moves, q.reads.moves);
            };
            count = sym many;
            put_words = rw placed p;
            put_vertices = q.put;
          }
