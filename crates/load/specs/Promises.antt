-- What the second pass does with the six tables.
use Rattle.std.specs.Prelude.{ℕ, ◌≤◌, ◌≡◌, List, true, length}
use Rattle.format.specs.declared.Kind.{Kind}
use Rattle.format.specs.Limits.{file_limit}
use Rattle.format.specs.Items.{fine}
use Rattle.format.specs.Mesh.{Tables, tables, needs}
use Rattle.format.specs.Bodies.{Part}
use Rattle.format.specs.Rules.{mesh_of}
use Rattle.format.specs.Answer.{fits, filled}
use Rattle.format.specs.Promises.{file_parts, names_of_parts}

-- the file was judged fine and has so many names, and the tables have room for its mesh
pub record TablesRoom (kind : Kind) (file : List ℕ) (name_count : ℕ) (t : Tables) : Type 0 where
  pub parts : List Part
  pub sound : file_parts kind file ≡ fine parts
  pub few : length file ≤ file_limit
  pub names_are : name_count ≡ length (names_of_parts parts)
  pub roomy : fits (needs (mesh_of kind parts)) t ≡ true

-- the front of each table holds the mesh, and the rest is unchanged
pub record TablesPut (kind : Kind) (file : List ℕ) (t t' : Tables) : Type 0 where
  pub put : (parts : List Part) → file_parts kind file ≡ fine parts → t' ≡ filled (tables (mesh_of kind parts)) t
