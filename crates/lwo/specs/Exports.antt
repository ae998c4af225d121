-- The answers of the exported functions, field by field, as the specification's, and the library's version.
use Rattle.std.specs.Prelude.{ℕ, ◌+◌, ◌*◌}
use Rattle.format.specs.Answer.{Answer}
use Rattle.format.specs.Written.{Written}
use Rattle.lwo.specs.declared.LwoAnswer.{LwoAnswer}
use Rattle.lwo.specs.declared.LwoWritten.{LwoWritten}

abbrev pub answer_as : LwoAnswer → Answer
answer_as a = record {
  number = a.number;
  place = a.place;
  needs = record { points = a.points; polygons = a.polygons; vertices = a.vertices; names = a.names; name_bytes = a.name_bytes };
  skipped = a.skipped;
  details = a.details;
}

abbrev pub written_as : LwoWritten → Written
written_as w = record { number = w.number; place = w.place; length = w.length }

-- three numbers in one
abbrev pub version : (major minor patch : ℕ) → ℕ
version major minor patch = major * 65536 + minor * 256 + patch
