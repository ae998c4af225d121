-- The parts of the chunks of a run as they are put into the output, and the room that they take.
use Rattle.std.specs.Prelude.{ℕ, ◌+◌, ◌≤◌, ◌^◌, ◌≡◌, List, [], ◌++◌, map, true, eqb, ltb, length, if◌then◌else◌}
use Rattle.format.specs.Bytes.{all, sum, joined}
use Rattle.format.specs.Mesh.{polygon_size}
use Rattle.format.specs.Canonical.{bytes, vx_bytes, chunk_bytes, polygon_bytes}
use Rattle.format.specs.Written.{vertex_counts}
use Rattle.mesh.specs.Lent.{mesh_polygons}
use Rattle.mesh.specs.Polygons.{PolygonsLent}
use Rattle.format.specs.Promises.{total}

-- a PTAG by the number of its type and by its pairs, left out where these have no bytes
abbrev pub tagging_bytes : (type : ℕ) → (pairs : List ℕ) → List ℕ
tagging_bytes type pairs = if eqb (length pairs) 0 then [] else chunk_bytes 4 "PTAG" (bytes 4 type ++ pairs)

-- a polygon of a POLS: its vertex count and its vertices
abbrev pub vertices_bytes : List ℕ → List ℕ
vertices_bytes vs = bytes 2 (length vs) ++ joined (map vx_bytes vs)

-- polygons with their vertices, whose indices have 24 bits
pub record Indexed (polygons vertices : List ℕ) : Type 0 where
  pub lent : PolygonsLent polygons vertices
  pub small : all (λ v. ltb v (2 ^ 24)) vertices ≡ true

-- one run of them, which is not empty
pub record RunLent (run vertices : List ℕ) : Type 0 where
  pub indexed : Indexed run vertices
  pub some : polygon_size ≤ length run

-- polygons with their vertices, whose indices have 24 bits, and room for what they are written as
pub record PolsRoom (out : List ℕ) (at : ℕ) (polygons vertices : List ℕ) : Type 0 where
  pub agree : sum (vertex_counts polygons) ≡ length vertices
  pub small : all (λ v. ltb v (2 ^ 24)) vertices ≡ true
  pub room : at + total polygon_bytes (mesh_polygons polygons vertices) ≤ length out
