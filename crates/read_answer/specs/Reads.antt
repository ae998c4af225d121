-- What `read` answers, as the specification's: a refusal other than 16 tells no needs.
use Rattle.std.specs.Prelude.{ℕ, Result, Ok, Err}
use Rattle.format.specs.Refusals.{number_of, no_room_number}
use Rattle.format.specs.Answer.{Answer, no_needs}
use Rattle.read_answer.specs.declared.ReadError.{ReadError}
use Rattle.read_answer.specs.declared.ReadError.TheVariants.{Refused, NoRoom}
use Rattle.validate.specs.declared.counts.Totals.{Totals}
use Rattle.validate.specs.Promises.{needs_in}

abbrev pub refused_with : (number place : ℕ) → Answer
refused_with number place = record { number = number; place = place; needs = no_needs; skipped = 0; details = 0 }

abbrev pub with_counts : (number : ℕ) → Totals → Answer
with_counts number t = record { number = number; place = 0; needs = needs_in t; skipped = t.skipped; details = t.details }

abbrev pub answer_as : Result Totals ReadError → Answer
answer_as (Ok t) = with_counts 0 t
answer_as (Err (Refused f)) = refused_with (number_of f.why) f.at
answer_as (Err (NoRoom t)) = with_counts no_room_number t
