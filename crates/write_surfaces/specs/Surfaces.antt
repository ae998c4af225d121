-- The parts of SURF chunks as they are put into the output, and the room that they take.
use Rattle.std.specs.Prelude.{ℕ, ◌+◌, ◌*◌, ◌≤◌, ◌≡◌, List, [], ◌++◌, map, eqb, length, if◌then◌else◌}
use Rattle.format.specs.Bytes.{sum, joined}
use Rattle.format.specs.Mesh.{Name, Surface, record_size}
use Rattle.format.specs.Canonical.{bytes, vx_bytes, chunk_bytes, value_chunks, surface_bytes, surface_chunks}
use Rattle.format.specs.Written.{pieces}
use Rattle.mesh.specs.Lent.{mesh_surfaces}
use Rattle.output.specs.Outputs.{chunks_bytes, tagged_bytes}

-- `level_bytes` by the number of the tag
abbrev pub levels_bytes : (tag : ℕ) → List ℕ → List ℕ
levels_bytes tag levels = tagged_bytes 2 tag (joined (map (bytes 4) levels) ++ vx_bytes 0)

-- what stands behind the two strings of a SURF
unfoldable pub value_bytes : Surface → List ℕ
value_bytes s = joined (value_chunks s)

-- a SURF is put for a defined name
abbrev pub surface_chunk : Name → Surface → List ℕ
surface_chunk n s = if eqb s.defined 1 then chunk_bytes 4 "SURF" (surface_bytes n s) else []

-- names with their bytes and a record each, and room for their chunks
pub record SurfacesRoom (out : List ℕ) (at : ℕ) (names name_bytes records : List ℕ) : Type 0 where
  pub agree : sum names ≡ length name_bytes
  pub a_record_each : length records ≡ record_size * length names
  pub room : at + length (chunks_bytes (surface_chunks (pieces names name_bytes) (mesh_surfaces records))) ≤ length out
