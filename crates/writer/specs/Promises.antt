-- What putting a file asks.
use Rattle.std.specs.Prelude.{ℕ, ◌≤◌, ◌≡◌, List, true, length}
use Rattle.format.specs.Mesh.{Tables}
use Rattle.format.specs.Canonical.{canonical}
use Rattle.format.specs.Written.{mesh_from, is_mesh}

-- tables that are a mesh, and room for its file of n bytes
pub record OutputRoom (t : Tables) (out : List ℕ) (n : ℕ) : Type 0 where
  pub mesh : is_mesh t ≡ true
  pub long : n ≡ length (canonical (mesh_from t))
  pub room : n ≤ length out
