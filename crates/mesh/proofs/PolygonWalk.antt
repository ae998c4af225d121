-- The polygons table and the vertices walked together by places, as the walk over the runs does: what is left is the polygons from the place on.
use Prim.Native.Nat.{ℕ, ◌+◌, ◌-◌, ◌<◌, ◌≤◌}
use mathlib.Core.Path.{◌≡◌}
use mathlib.Core.List.{List, []}
use native.Mathlib.Omega.{arith}
use lib.ListN.{length, drop}
use Rattle.format.specs.Bytes.{sum}
use Rattle.format.specs.Mesh.{Polygon, polygon_size}
use Rattle.format.specs.Written.{vertex_counts}
use Rattle.mesh.specs.Lent.{mesh_polygons}
use Rattle.mesh.proofs.Entries.{polygons_past}

-- `Left` is what the walker's fold has of the polygons that are left
pub record PolygonWalk (ws vs : List ℕ) (Left : List Polygon → Type 0) (at first : ℕ) : Type 0 where
  pub inside : at ≤ length ws
  pub agree : first + sum (vertex_counts (drop at ws)) ≡ length vs
  pub left : Left (mesh_polygons (drop at ws) (drop first vs))

pub begin : {ws vs : List ℕ} {Left : List Polygon → Type 0} → sum (vertex_counts ws) ≡ length vs → Left (mesh_polygons ws vs) → PolygonWalk ws vs Left 0 0
begin agree left = record { inside = omega arith; agree = omega arith; left = left }

module _ {ws vs : List ℕ} {Left : List Polygon → Type 0} {at first : ℕ} (w : PolygonWalk ws vs Left at first) where
  pub end : length ws - at < polygon_size → Left []
  end short = rw (polygons_past at ws (drop first vs) short) at w.left
