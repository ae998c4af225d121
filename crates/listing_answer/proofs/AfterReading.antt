-- After a file was read the tables hold what the listing shows: the polygons of the mesh that the rules give it.
use Prim.Native.Nat.{ℕ, ◌+◌}
use mathlib.Core.Path.{◌≡◌, refl, ap, ◌∙◌}
use mathlib.Core.List.{List, [], ◌∷◌}
use mathlib.Core.Bool.{Bool, true, false}
use native.Mathlib.Omega.{arith}
use lib.ListN.{length, length-append}
use lib.Seq.{take_at}
use Rattle.format.specs.Bytes.{sum, joined}
use Rattle.format.specs.Mesh.{Polygon, Mesh, Tables, polygon_size, tables, needs}
use Rattle.format.specs.Written.{pieces, entries, polygons_from, vertex_counts, mesh_from}
use Rattle.format.specs.Rules.{Outcome, refused, gives, rules}
use Rattle.format.specs.Answer.{Answer, answer, fits, over, filled, tables_after, Reads}
use Rattle.format.specs.Promises.{polygons_words, polygons_vertices, vertex_total}
use Rattle.format.proofs.PolygonTables.{words_length, vertices_length}
use Rattle.laws.proofs.Tables.{mesh_from_tables}
use Rattle.mesh.specs.Lent.{mesh_polygons}
use Rattle.mesh.proofs.Entries.{first}
use Rattle.listing_answer.specs.Listing.{listing, polygons_given}
use Rattle.listing_answer.specs.Lent.{CountsHeld, polygons_front, vertices_front, counted_polygons}

-- ---- a mesh's polygons in the tables

counts_agree : (ps : List Polygon) → sum (vertex_counts (polygons_words ps)) ≡ vertex_total ps
unfolding joined sum entries pieces
counts_agree [] = refl
counts_agree (p ∷ ps) = rw (first polygon_size (polygons_words (p ∷ ps)) (omega arith) (omega arith)) (ap (λ n. length p.vertices + n) (counts_agree ps))

polygons_back : (m : Mesh) → mesh_polygons (polygons_words m.polygons) (polygons_vertices m.polygons) ≡ m.polygons
unfolding mesh_polygons mesh_from tables
polygons_back m = ap (λ (m : Mesh). m.polygons) (mesh_from_tables m)

-- ---- after the reading

-- the tables hold what an accepted answer counts, and those polygons are the mesh's
pub record ListsOutcome (a : Answer) (t t' : Tables) (o : Outcome) : Type 0 where
  pub counts_held : a.number ≡ 0 → CountsHeld a t'.polygons t'.vertices
  pub same : listing a (counted_polygons a t'.polygons t'.vertices) ≡ listing (answer o t) (polygons_given o)

module _ {a : Answer} {t t' : Tables} where
  after_refusal : (number place : ℕ) → a ≡ answer (refused number place) t → ListsOutcome a t t' (refused number place)
  unfolding answer polygons_given counted_polygons mesh_polygons polygons_from entries pieces sum
  after_refusal number place answers =
      let none : a.needs.polygons ≡ 0 = ap (λ r. r.needs.polygons) answers in
      let none_either : a.needs.vertices ≡ 0 = ap (λ r. r.needs.vertices) answers in
      let empty : counted_polygons a t'.polygons t'.vertices ≡ [] = rw none in
      record {
        counts_held = λ ok. record { enough = omega (arith, none); enough_vertices = omega (arith, none_either); agree = rw (none, none_either) };
        same = ap (λ ps. listing a ps) empty ∙ ap (λ r. listing r []) answers;
      }

  module _ (m : Mesh) (k d : ℕ) (answers : a ≡ answer (gives m k d) t) where
    no_room : fits (needs m) t ≡ false → ListsOutcome a t t' (gives m k d)
    unfolding answer listing polygons_given
    no_room full =
        let number : a.number ≡ 16 = ap (λ r. r.number) answers ∙ rw full in
        record {
          counts_held = λ ok. absurd (omega (arith, number, ok));
          same = ap (λ r. listing r (counted_polygons a t'.polygons t'.vertices)) answers ∙ rw full;
        }

    accepted : t' ≡ filled (tables m) t → ListsOutcome a t t' (gives m k d)
    unfolding answer needs filled tables polygons_given counted_polygons
    accepted leaves =
        let ps = m.polygons in
        let count : a.needs.polygons ≡ length ps = ap (λ r. r.needs.polygons) answers in
        let vertex_count : a.needs.vertices ≡ vertex_total ps = ap (λ r. r.needs.vertices) answers in
        let table : t'.polygons ≡ over (polygons_words ps) t.polygons = ap (λ (t : Tables). t.polygons) leaves in
        let vertex_table : t'.vertices ≡ over (polygons_vertices ps) t.vertices = ap (λ (t : Tables). t.vertices) leaves in
        let front : polygons_front a t'.polygons ≡ polygons_words ps = rw (count, table) (take_at (polygons_words ps) _ _ (words_length ps)) in
        let vertex_front : vertices_front a t'.vertices ≡ polygons_vertices ps = rw (vertex_count, vertex_table) (take_at (polygons_vertices ps) _ _ (vertices_length ps)) in
        let long = ap length table ∙ length-append (polygons_words ps) _ in
        let vertex_long = ap length vertex_table ∙ length-append (polygons_vertices ps) _ in
        record {
          counts_held = λ ok. record {
            enough = omega (arith, count, long, words_length ps);
            enough_vertices = omega (arith, vertex_count, vertex_long, vertices_length ps);
            agree = rw (front, vertex_count) (counts_agree ps);
          };
          same = ap (λ ps. listing a ps) (rw (front, vertex_front) (polygons_back m)) ∙ ap (λ r. listing r ps) answers;
        }

    after_mesh : (b : Bool) → fits (needs m) t ≡ b → t' ≡ tables_after (gives m k d) t → ListsOutcome a t t' (gives m k d)
    unfolding tables_after
    after_mesh true room leaves = accepted (rw room at leaves)
    after_mesh false full leaves = no_room full

  after : (o : Outcome) → a ≡ answer o t → t' ≡ tables_after o t → ListsOutcome a t t' o
  after (refused number place) answers leaves = after_refusal number place answers
  after (gives m k d) answers leaves = after_mesh m k d answers (fits (needs m) t) refl leaves

  pub after_reading : {file : List ℕ} → Reads file t a t' → ListsOutcome a t t' (rules file)
  after_reading {file} w = after (rules file) w.answers w.leaves
