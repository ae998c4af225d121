-- Each way out has its law in `ReadAnswers`, and the type of a lent byte says that it is one.
use native.Mathlib.Omega.{arith}
use Rattle.std.proofs.lemmas.Result.{err_from_is_err_and}
use Rattle.format.specs.Mesh.{lent}
use Rattle.format.proofs.Facts.{all_bytes}
use Rattle.reader.proofs.ReadAnswers.{read_refused, tables_room, read_accepted, read_no_room}
use Rattle.reader.proofs.read.Goals as goal

pub returns-in_err-kind : goal.returns-in_err-kind
returns-in_err-kind c =
    let told = err_from_is_err_and c.from_residual.result c.from_residual.ensures.1 in
    rw (told.1, told.2) (read_refused (all_bytes _ (λ i. omega (arith, c.type_inv.file i))) c.in_err-kind.ensures)

pub returns-then-not-has_room : goal.returns-then-not-has_room
returns-then-not-has_room c =
    let a = c.args in
    read_no_room c.in_ok-kind.ensures {t = lent a.points.now a.polygons.now a.vertices.now a.names.now a.name_bytes.now a.records.now} (all_bytes _ (λ i. omega (arith, c.type_inv.file i))) c.has_room.ensures c.if-not-has_room.true

pub fill_tables-requires : goal.fill_tables-requires
fill_tables-requires c =
    let a = c.args in
    tables_room c.in_ok-kind.ensures {t = lent a.points.now a.polygons.now a.vertices.now a.names.now a.name_bytes.now a.records.now} c.has_room.ensures c.if-not-has_room.false

pub returns : goal.returns
returns c =
    let a = c.args in
    read_accepted c.in_ok-kind.ensures {t = lent a.points.now a.polygons.now a.vertices.now a.names.now a.name_bytes.now a.records.now} (all_bytes _ (λ i. omega (arith, c.type_inv.file i))) c.has_room.ensures c.if-not-has_room.false
    c.fill_tables.ensures
