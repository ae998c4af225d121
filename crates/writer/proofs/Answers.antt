-- The answer by its tests, in their order.
use Prim.Native.Nat.{ℕ, ◌<◌, ◌≤◌}
use mathlib.Core.Path.{◌≡◌}
use mathlib.Core.Bool.{Bool, true, false}
use lib.ListN.{length}
use borrow.Author.Tests.{lt-ltb, le-ltb}
use Rattle.format.specs.Limits.{file_limit}
use Rattle.format.specs.Mesh.{Tables}
use Rattle.format.specs.Canonical.{canonical}
use Rattle.format.specs.Written.{mesh_from, is_mesh, says, written}
use Rattle.format.specs.Refusals.{no_room_number, not_mesh_number, too_long_number}
use Rattle.mesh.proofs.AllPass.{passed, failed}

module _ (t : Tables) (room : ℕ) {b : Bool} (mesh_is : b ≡ is_mesh t) where
  pub no_mesh : b ≡ false → says not_mesh_number 0 ≡ written t room
  unfolding written
  no_mesh bad = rw (failed mesh_is bad)

  module _ (ok : b ≡ true) where
    a_mesh : is_mesh t ≡ true
    a_mesh = passed mesh_is ok

    module _ {n : ℕ} (is : n ≡ length (canonical (mesh_from t))) where
      pub over_limit : file_limit < n → says too_long_number 0 ≡ written t room
      unfolding written
      over_limit long = rw (a_mesh, ← is, lt-ltb file_limit n long)

      pub out_of_room : n ≤ file_limit → room < n → says no_room_number n ≡ written t room
      unfolding written
      out_of_room short less = rw (a_mesh, ← is, le-ltb file_limit n short, lt-ltb room n less)

      pub there_is_room : n ≤ file_limit → n ≤ room → says 0 n ≡ written t room
      unfolding written
      there_is_room short fits = rw (a_mesh, ← is, le-ltb file_limit n short, le-ltb room n fits)
