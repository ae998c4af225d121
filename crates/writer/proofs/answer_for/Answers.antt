-- The tests in their order, each with its answer.
use Rattle.mesh.proofs.AllPass.{passed}
use Rattle.writer.proofs.Answers.{no_mesh, over_limit, out_of_room, there_is_room}
use Rattle.writer.proofs.answer_for.Goals as goal

pub returns-then-not-is_mesh : goal.returns-then-not-is_mesh
returns-then-not-is_mesh c = no_mesh _ _ c.is_mesh.ensures c.if-not-is_mesh.true

pub file_length-length-requires : goal.file_length-length-requires
file_length-length-requires c = passed c.is_mesh.ensures c.if-not-is_mesh.false

pub returns-then-length-gt16777216 : goal.returns-then-length-gt16777216
returns-then-length-gt16777216 c =
    over_limit _ _ c.is_mesh.ensures c.if-not-is_mesh.false c.file_length-length.ensures c.if-length-gt16777216.true

pub returns-then-room-length : goal.returns-then-room-length
returns-then-room-length c =
    out_of_room _ _ c.is_mesh.ensures c.if-not-is_mesh.false c.file_length-length.ensures c.if-length-gt16777216.false c.if-room-length.true

pub returns : goal.returns
returns c =
    there_is_room _ _ c.is_mesh.ensures c.if-not-is_mesh.false c.file_length-length.ensures c.if-length-gt16777216.false c.if-room-length.false
