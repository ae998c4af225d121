-- What the answers on what polygons start with say, in the specification's words. `s` is the lent slice, and `at` the place that was read at.
use Rattle.std.specs.Prelude.{ℕ, ◌+◌, ◌*◌, List, length, Result, Ok, Err}
use Rattle.format.specs.Items.{fault, ◌>>=◌, i2}
use Rattle.format.specs.Bodies.{lwob_vertices}
use Rattle.format.specs.Promises.{got, nothing, taking, Says, Keeps}
use Rattle.wire.specs.declared.Refusal.{Refusal}
use Rattle.wire.specs.Promises.{signed_surface_of}
use Rattle.polygon_vertices.specs.declared.lwob_entry.LwobEntry.{LwobEntry}

-- ---- vertices

-- a count, and vertices
abbrev pub vertex_bytes : ℕ → ℕ
vertex_bytes n = 2 + n * 2

-- ---- polygons of an LWOB file

pub record LwobEntryRead (point_count : ℕ) (s : List ℕ) (at : ℕ) (e : LwobEntry) : Type 0 where
  pub vertices : Keeps (lwob_vertices point_count) length vertex_bytes s at (got s e.vertices e.at)
  pub sign : Keeps i2 signed_surface_of (taking 2) s e.at (got s e.sign e.next.at)

abbrev pub LwobEntryAt : (point_count : ℕ) → List ℕ → ℕ → Result LwobEntry Refusal → Type 0
LwobEntryAt point_count s at (Ok e) = LwobEntryRead point_count s at e
LwobEntryAt point_count s at (Err f) = Says (lwob_vertices point_count >>= (λ vs. i2)) nothing s at (fault f.why f.at)
