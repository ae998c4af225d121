-- The public entries of the library, each with its own answer: what the demands say of a reader or a writer holds of every call of them.
use Rattle.std.specs.Prelude.{ℕ, List, Result}
use Rattle.format.specs.Mesh.{Tables}
use Rattle.format.specs.Answer.{Reads}
use Rattle.format.specs.Written.{Writes}
use Rattle.validate.specs.declared.counts.Totals.{Totals}
use Rattle.read_answer.specs.declared.ReadError.{ReadError}
use Rattle.read_answer.specs.Reads.{answer_as as read_as}
use Rattle.writer.specs.declared.WriteError.{WriteError}
use Rattle.writer.specs.Writes.{answer_as as write_as}
use Rattle.lwo.specs.declared.LwoAnswer.{LwoAnswer}
use Rattle.lwo.specs.declared.LwoWritten.{LwoWritten}
use Rattle.lwo.specs.Exports.{answer_as as exported_as, written_as as exported_written_as}
use Rattle.demands.specs.Complete.{ReadDemands, WriteDemands}

-- From the contract in the source of each entry: `read` of crate reader, `write` of crate writer, `lwo_read` and `lwo_write` of crate lwo.
pub record Entries : Type 1 where
  pub read : {file : List ℕ} {t t' : Tables} (a : Result Totals ReadError) → Reads file t (read_as a) t' → ReadDemands file t (read_as a) t'
  pub write : {t : Tables} {out out' : List ℕ} (a : Result ℕ WriteError) → Writes t out (write_as a) out' → WriteDemands t out (write_as a) out'
  pub lwo_read : {file : List ℕ} {t t' : Tables} (a : LwoAnswer) → Reads file t (exported_as a) t' → ReadDemands file t (exported_as a) t'
  pub lwo_write : {t : Tables} {out out' : List ℕ} (a : LwoWritten) → Writes t out (exported_written_as a) out' → WriteDemands t out (exported_written_as a) out'
