-- One polygon of the tables as code sees it, the runs of polygons of one kind, and the pairs that a run is tagged by.
use Rattle.std.specs.Prelude.{ℕ, suc, ◌+◌, ◌*◌, ◌≤◌, ◌≡◌, List, [], ◌∷◌, ◌++◌, eqb, length, drop, if◌then◌else◌}
use Rattle.format.specs.Bytes.{sum}
use Rattle.format.specs.Limits.{entry_limit}
use Rattle.format.specs.Mesh.{word, polygon_size}
use Rattle.format.specs.Canonical.{pair_bytes}
use Rattle.format.specs.Written.{vertex_counts}
use Rattle.mesh.specs.Lent.{entry_at, column}
use Rattle.mesh.specs.declared.polygons.Polygon.{Polygon}

-- the polygon whose entry is at a place, and whose vertices begin at `first`
abbrev pub polygon_at : (polygons : List ℕ) → (at first : ℕ) → Polygon
polygon_at ws at first = record {
  kind = word 0 (entry_at polygon_size at ws);
  surface = word 2 (entry_at polygon_size at ws);
  part_name = word 3 (entry_at polygon_size at ws);
  first = first;
  end = first + word 1 (entry_at polygon_size at ws);
}

-- entries of the polygons table, and the vertices of their polygons
pub record PolygonsLent (polygons vertices : List ℕ) : Type 0 where
  pub few : length polygons ≤ polygon_size * entry_limit
  pub few_vertices : length vertices ≤ entry_limit
  pub agree : sum (vertex_counts polygons) ≡ length vertices

-- ---- runs

-- how many of the numbers in front are k
unfoldable pub leading : ℕ → List ℕ → ℕ
leading k [] = 0
leading k (n ∷ ns) = if eqb k n then suc (leading k ns) else 0

-- the place after the run that begins at a place: its first polygon, and as many of that kind as follow it
abbrev pub run_end : (polygons : List ℕ) → (at : ℕ) → ℕ
run_end ws at = at + polygon_size + leading (word 0 (entry_at polygon_size at ws)) (column polygon_size 0 (drop (at + polygon_size) ws)) * polygon_size

-- the pairs of a run as bytes, by the surface numbers of its polygons or by their part names: one for each that is not 0; i is the polygon's number in the run
abbrev pub pair_of : (i number : ℕ) → List ℕ
pair_of i number = if eqb number 0 then [] else pair_bytes (i, number)

unfoldable pub pairs_from : (i : ℕ) → (numbers : List ℕ) → List ℕ
pairs_from i [] = []
pairs_from i (n ∷ ns) = pair_of i n ++ pairs_from (suc i) ns
