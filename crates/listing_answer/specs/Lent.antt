-- What is lent for a listing: the tables after a file was read, and room in the output.
use Rattle.std.specs.Prelude.{ℕ, ◌+◌, ◌*◌, ◌≤◌, ◌≡◌, List, length, take}
use Rattle.format.specs.Bytes.{sum}
use Rattle.format.specs.Mesh.{Polygon, polygon_size}
use Rattle.format.specs.Answer.{Answer}
use Rattle.format.specs.Written.{vertex_counts}
use Rattle.mesh.specs.Lent.{mesh_polygons}
use Rattle.listing_text.specs.Prints.{Prints, lines_size}
use Rattle.listing_answer.specs.Listing.{listing}

-- ---- the most bytes that a text takes

-- the five lines of the needs, and all eight lines of counts
abbrev pub needs_size : ℕ
needs_size = 147

abbrev pub counts_size : ℕ
counts_size = 214

abbrev pub output_size : (polygons vertices : List ℕ) → ℕ
output_size polygons vertices = counts_size + lines_size polygons vertices

-- ---- what the tables hold

-- as much of the tables as an answer counts
abbrev pub polygons_front : Answer → (polygons : List ℕ) → List ℕ
polygons_front a polygons = take (a.needs.polygons * polygon_size) polygons

abbrev pub vertices_front : Answer → (vertices : List ℕ) → List ℕ
vertices_front a vertices = take a.needs.vertices vertices

-- and the polygons that stand there
unfoldable pub counted_polygons : Answer → (polygons vertices : List ℕ) → List Polygon
counted_polygons a polygons vertices = mesh_polygons (polygons_front a polygons) (vertices_front a vertices)

-- On an accepted file the tables hold as much as the answer counts.
pub record CountsHeld (a : Answer) (polygons vertices : List ℕ) : Type 0 where
  pub enough : a.needs.polygons * polygon_size ≤ length polygons
  pub enough_vertices : a.needs.vertices ≤ length vertices
  pub agree : sum (vertex_counts (polygons_front a polygons)) ≡ a.needs.vertices

-- the tables after a file was read, and room for the listing of whatever they can hold
pub record ListingLent (out : List ℕ) (a : Answer) (polygons vertices : List ℕ) : Type 0 where
  pub counts_held : a.number ≡ 0 → CountsHeld a polygons vertices
  pub room : output_size polygons vertices ≤ length out

-- the listing of an answer and of the polygons that it counts was put into the output from its start on
abbrev pub PrintsListing : (before : List ℕ) → Answer → (polygons vertices after : List ℕ) → (next : ℕ) → Type 0
PrintsListing before a polygons vertices after next =
    Prints before 0 (listing a (counted_polygons a polygons vertices)) after next (output_size polygons vertices)
