-- What the functions that print into the output promise and ask.
use Rattle.std.specs.Prelude.{ℕ, ◌+◌, ◌*◌, ◌/◌, ◌≤◌, ◌≡◌, List, length}
use Rattle.format.specs.Bytes.{sum}
use Rattle.format.specs.Mesh.{polygon_size}
use Rattle.format.specs.Written.{vertex_counts}
use Rattle.mesh.specs.Lent.{mesh_polygons}
use Rattle.output.specs.Outputs.{Wrote}
use Rattle.listing_text.specs.Text.{polygon_lines}

-- A text was put into the output from a place on, and takes at most so many bytes; `next` is the place after it.
pub record Prints (before : List ℕ) (at : ℕ) (text after : List ℕ) (next most : ℕ) : Type 0 where
  pub wrote : Wrote before at text after next
  pub few : next ≤ at + most

-- ---- the most bytes that a text takes: a number of 64 bits has at most 20 digits

abbrev pub number_size : ℕ
number_size = 20

-- a number behind a label, and a line feed
abbrev pub count_size : (label : List ℕ) → ℕ
count_size label = length label + 21

-- what stands before the vertices of a polygon; the vertices; and the whole line
abbrev pub heading_size : ℕ
heading_size = 118

abbrev pub vertices_size : (vertices : List ℕ) → ℕ
vertices_size vertices = 21 * length vertices

abbrev pub line_size : (vertices : List ℕ) → ℕ
line_size vertices = 119 + vertices_size vertices

-- the lines of all polygons
abbrev pub lines_size : (polygons vertices : List ℕ) → ℕ
lines_size polygons vertices = 119 * (length polygons / polygon_size) + vertices_size vertices

-- ---- the lines of polygons

-- entries of the polygons table and the vertices of their polygons, and room for their lines
pub record LinesLent (out : List ℕ) (at : ℕ) (polygons vertices : List ℕ) : Type 0 where
  pub agree : sum (vertex_counts polygons) ≡ length vertices
  pub room : at + lines_size polygons vertices ≤ length out

-- a line for each of them was put into the output
abbrev pub PrintsLines : (before : List ℕ) → (at : ℕ) → (polygons vertices after : List ℕ) → (next : ℕ) → Type 0
PrintsLines before at polygons vertices after next =
    Prints before at (polygon_lines 0 (mesh_polygons polygons vertices)) after next (lines_size polygons vertices)
