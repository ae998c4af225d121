-- A polygon is good where each of five facts holds of it: the test of the specification taken apart, and put together again. Two of them are one of a number.
use Prim.Native.Nat.{ℕ, ◌≤◌}
use mathlib.Core.Path.{◌≡◌}
use mathlib.Core.Bool.{true, and-eq-true_iff}
use lib.Dec.{leb, ltb}
use lib.ListN.{length}
use borrow.Author.Tests.{leb-true, le-leb}
use Rattle.format.specs.Bytes.{every, all}
use Rattle.format.specs.Limits.{lwo2_vertex_limit, tag_limit}
use Rattle.format.specs.Mesh.{Polygon, FACE, PATCH}
use Rattle.format.specs.Written.{good_tag, good_polygon}
use Rattle.format.proofs.Facts.{every_at, between_true}

-- a surface number or a part name
pub record GoodTag (name_count n : ℕ) : Type 0 where
  pub named : n ≤ name_count
  pub numbered : n ≤ tag_limit

good_tag_lem : (name_count n : ℕ) → good_tag name_count n ≡ true → GoodTag name_count n
good_tag_lem name_count n ok = let so = (and-eq-true_iff (leb n name_count) (leb n tag_limit)).0 ok in record { named = leb-true _ _ so.0; numbered = leb-true _ _ so.1 }

is_good_tag : {name_count n : ℕ} → GoodTag name_count n → good_tag name_count n ≡ true
is_good_tag {name_count} {n} g = rw (le-leb n name_count g.named, le-leb n tag_limit g.numbered)

pub record GoodPolygon (point_count name_count : ℕ) (p : Polygon) : Type 0 where
  pub kinds : (FACE ≤ p.kind) × (p.kind ≤ PATCH)
  pub count : (1 ≤ length p.vertices) × (length p.vertices ≤ lwo2_vertex_limit)
  pub vertices : all (λ v. ltb v point_count) p.vertices ≡ true
  pub surface : GoodTag name_count p.surface
  pub part_name : GoodTag name_count p.part_name

pub good_polygon_lem : (point_count name_count : ℕ) (p : Polygon) → good_polygon point_count name_count p ≡ true → GoodPolygon point_count name_count p
unfolding good_polygon
good_polygon_lem point_count name_count p ok = record {
  kinds = between_true _ _ _ (every_at _ 0 ok);
  count = between_true _ _ _ (every_at _ 1 ok);
  vertices = every_at _ 2 ok;
  surface = good_tag_lem _ _ (every_at _ 3 ok);
  part_name = good_tag_lem _ _ (every_at _ 4 ok);
}

pub is_good : {point_count name_count : ℕ} {p : Polygon} → GoodPolygon point_count name_count p → good_polygon point_count name_count p ≡ true
unfolding good_polygon every
is_good {point_count} {name_count} {p} g =
    rw (le-leb FACE p.kind g.kinds.0, le-leb p.kind PATCH g.kinds.1, le-leb 1 (length p.vertices) g.count.0, le-leb (length p.vertices) lwo2_vertex_limit g.count.1, g.vertices, is_good_tag g.surface, is_good_tag g.part_name)
