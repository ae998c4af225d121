-- What `write` answers, as the specification's: each refusal has its number, and a length goes with "no room" and with a file that was written.
use Rattle.std.specs.Prelude.{ℕ, Result, Ok, Err}
use Rattle.format.specs.Refusals.{no_room_number, not_mesh_number, too_long_number}
use Rattle.format.specs.Written.{Written, says}
use Rattle.writer.specs.declared.WriteError.{WriteError}
use Rattle.writer.specs.declared.WriteError.TheVariants.{NotAMesh, OutTooLong, NoRoom}

abbrev pub answer_as : Result ℕ WriteError → Written
answer_as (Ok n) = says 0 n
answer_as (Err NotAMesh) = says not_mesh_number 0
answer_as (Err OutTooLong) = says too_long_number 0
answer_as (Err (NoRoom needed)) = says no_room_number needed
