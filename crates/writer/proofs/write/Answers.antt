-- Where the answer is a refusal nothing is put, and else the file fits.
use borrow.Author.Rules.{rules}
use mathlib.Core.Path.{◌≡◌}
use Rattle.std.specs.Prelude.{Err}
use Rattle.writer.proofs.Outputs.{refused, accepted, written_out}
use Rattle.writer.proofs.write.Goals as goal

pub returns-in_err-length : goal.returns-in_err-length
returns-in_err-length c =
    let told : c.from_residual.result ≡ Err c.in_err-length.field-0.0 = search rules in
    rw told (refused _ _ _ c.in_err-length.ensures)

pub put_file-requires : goal.put_file-requires
put_file-requires c = accepted _ _ c.in_ok-length.ensures

pub returns : goal.returns
returns c = written_out _ _ c.in_ok-length.ensures c.put_file.ensures
