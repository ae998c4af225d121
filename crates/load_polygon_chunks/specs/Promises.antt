-- The polygons of a file, and the words that they are in the two tables.
use Rattle.std.specs.Prelude.{ℕ, ◌*◌, ◌≤◌, ◌≡◌, List, [], length}
use Rattle.format.specs.declared.Kind.{Kind}
use Rattle.format.specs.Limits.{file_limit}
use Rattle.format.specs.Items.{fine}
use Rattle.format.specs.Mesh.{Polygon, polygon_size}
use Rattle.format.specs.Bodies.{Part}
use Rattle.format.specs.Rules.{polygons_in}
use Rattle.format.specs.Promises.{file_parts, names_of_parts, polygons_words, polygons_vertices}

abbrev pub all_polygons : List Part → List Polygon
all_polygons parts = polygons_in 0 0 [] parts

abbrev pub file_polygons : List Part → List ℕ
file_polygons parts = polygons_words (all_polygons parts)

abbrev pub file_vertices : List Part → List ℕ
file_vertices parts = polygons_vertices (all_polygons parts)

-- the file was judged fine and has so many names, and the tables have room for its polygons
pub record FilePolygonsRoom (kind : Kind) (file : List ℕ) (name_count : ℕ) (words vertices : List ℕ) : Type 0 where
  pub parts : List Part
  pub sound : file_parts kind file ≡ fine parts
  pub names_are : name_count ≡ length (names_of_parts parts)
  pub few : length file ≤ file_limit
  pub words_fit : length (all_polygons parts) * polygon_size ≤ length words
  pub vertices_fit : length (file_vertices parts) ≤ length vertices
