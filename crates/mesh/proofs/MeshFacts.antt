-- What follows for tables that are a mesh from the tests that they pass.
use Prim.Native.Nat.{ℕ, ◌*◌, ◌/◌, ◌%◌, ◌≤◌}
use mathlib.Core.Path.{◌≡◌, refl, sym, ◌∙◌}
use mathlib.Core.List.{List, [], ◌∷◌, map}
use mathlib.Core.Bool.{true, and-eq-true_iff}
use native.Mathlib.Omega.{arith}
use lib.Dec.{eqb, leb, ltb}
use lib.ListN.{length, take, drop, length-map, length-drop, take-append-drop}
use borrow.Author.Tests.{eqb-true, leb-true}
use Rattle.format.specs.Bytes.{sum, all}
use Rattle.format.specs.Limits.{entry_limit}
use Rattle.format.specs.Mesh.{Polygon, word, point_size, polygon_size, record_size, point_from, polygon_from, surface_from, lent}
use Rattle.format.specs.Written.{pieces, entries, polygons_from, vertex_counts, whole_entries, good_polygon, mesh_from, good_mesh, is_mesh}
use Rattle.format.proofs.Facts.{every_at, all_first, all_rest, all_append_true}
use Rattle.mesh.proofs.Entries.{length_pieces, length_entries}

-- "part of an entry or over 16,777,216 entries"
pub limits : (n : ℕ) (ws : List ℕ) → whole_entries n ws ≡ true → (length ws % n ≡ 0) × (length ws / n ≤ entry_limit)
unfolding whole_entries
limits n ws e =
    let both = (and-eq-true_iff (eqb (length ws % n) 0) (leb (length ws / n) entry_limit)).0 e in
    (eqb-true _ _ both.0, leb-true _ _ both.1)

vertices_of : (points names : ℕ) (p : Polygon) → good_polygon points names p ≡ true → all (λ v. ltb v points) p.vertices ≡ true
unfolding good_polygon
vertices_of points names p good = every_at _ 2 good

-- the vertices of good polygons are all vertices
vertices_of_all : (points names : ℕ) (es : List (List ℕ)) (vs : List ℕ) → sum (map (word 1) es) ≡ length vs
    → all (good_polygon points names) (polygons_from es (pieces (map (word 1) es) vs)) ≡ true → all (λ v. ltb v points) vs ≡ true
unfolding polygons_from pieces sum all
vertices_of_all points names [] [] agree ok = refl
vertices_of_all points names [] (v ∷ vs) agree ok = absurd (omega arith)
vertices_of_all points names (e ∷ es) vs agree ok =
    let n : ℕ = word 1 e in
    let p = polygon_from e (take n vs) in
    let others = polygons_from es (pieces (map (word 1) es) (drop n vs)) in
    let own = vertices_of points names p (all_first (good_polygon points names) p others ok) in
    let rest = vertices_of_all points names es (drop n vs) (omega (arith, length-drop n vs)) (all_rest (good_polygon points names) p others ok) in
    rw (take-append-drop n vs) at (all_append_true (λ v. ltb v points) (take n vs) (drop n vs) own rest)

pub record MeshFacts (points polygons vertices names name_bytes records : List ℕ) : Type 0 where
  pub whole_points : length points % point_size ≡ 0
  pub few_points : length points / point_size ≤ entry_limit
  pub few_polygons : length polygons ≤ polygon_size * entry_limit
  pub few_vertices : length vertices ≤ entry_limit
  pub few_names : length names ≤ entry_limit
  pub vertices_agree : sum (vertex_counts polygons) ≡ length vertices
  pub bytes_agree : sum names ≡ length name_bytes
  pub a_record_each : length records ≡ record_size * length names
  pub vertices_below : all (λ v. ltb v (length points / point_size)) vertices ≡ true

pub mesh_facts : (points polygons vertices names name_bytes records : List ℕ) → is_mesh (lent points polygons vertices names name_bytes records) ≡ true
    → MeshFacts points polygons vertices names name_bytes records
unfolding is_mesh good_mesh mesh_from
mesh_facts points polygons vertices names name_bytes records ok =
    let whole = limits record_size records (every_at _ 5 ok) in
    let each : length records / record_size ≡ length names
    = sym (length-map (entries record_size records) surface_from ∙ length_entries record_size records) ∙ eqb-true _ _ (every_at _ 0 (every_at _ 8 ok)) ∙ length_pieces names name_bytes
    in
    record {
      whole_points = (limits point_size points (every_at _ 0 ok)).0;
      few_points = (limits point_size points (every_at _ 0 ok)).1;
      few_polygons = omega (arith, limits polygon_size polygons (every_at _ 1 ok));
      few_vertices = omega (arith, limits 1 vertices (every_at _ 2 ok));
      few_names = omega (arith, limits 1 names (every_at _ 3 ok));
      vertices_agree = eqb-true _ _ (every_at _ 6 ok);
      bytes_agree = eqb-true _ _ (every_at _ 7 ok);
      a_record_each = omega (arith, whole);
      vertices_below =
          rw (length-map (entries point_size points) point_from, length_entries point_size points)
          at (vertices_of_all _ _ (entries polygon_size polygons) vertices (eqb-true _ _ (every_at _ 6 ok)) (every_at _ 2 (every_at _ 8 ok)));
    }
