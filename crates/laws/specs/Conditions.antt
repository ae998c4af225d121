-- What the theorems ask of tables and chunks.
use Rattle.std.specs.Prelude.{ℕ, ◌≤◌, ◌≡◌, List, true, length, take}
use Rattle.format.specs.declared.Kind.{Kind}
use Rattle.format.specs.Bytes.{number}
use Rattle.format.specs.Chunks.{size_of, length_of, well_formed}
use Rattle.format.specs.Mesh.{Tables}
use Rattle.format.specs.Rules.{unlisted_tag}

-- ---- room

-- each table of u is as long as t's at least; what stands in them is not looked at
pub record Longer (t u : Tables) : Type 0 where
  pub points : length t.points ≤ length u.points
  pub polygons : length t.polygons ≤ length u.polygons
  pub vertices : length t.vertices ≤ length u.vertices
  pub names : length t.names ≤ length u.names
  pub name_bytes : length t.name_bytes ≤ length u.name_bytes
  pub records : length t.records ≤ length u.records

-- ---- chunks

-- c is one whole chunk, whatever its body holds, and its tag is unlisted
pub record UnlistedChunk (kind : Kind) (c : List ℕ) : Type 0 where
  pub formed : well_formed 4 c ≡ true
  pub exact : length c ≡ size_of 4 (length_of 4 c)
  pub tag : unlisted_tag kind (number (take 4 c)) ≡ true
