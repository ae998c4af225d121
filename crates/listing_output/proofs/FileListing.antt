-- What an answer is goes by the lengths of the tables alone, and after the reading the tables hold what the listing shows.
use Prim.Native.Nat.{ℕ, ◌*◌}
use mathlib.Core.Path.{◌≡◌, refl, ap, ◌∙◌}
use mathlib.Core.List.{List}
use lib.ListN.{length}
use Rattle.format.specs.Mesh.{Tables, point_size, polygon_size, record_size, Needs, needs}
use Rattle.format.specs.Rules.{Outcome, refused, gives, rules}
use Rattle.format.specs.Answer.{Answer, answer, fits, Reads}
use Rattle.output.specs.Outputs.{Wrote}
use Rattle.listing_answer.specs.Listing.{listing, polygons_given}
use Rattle.listing_answer.specs.Lent.{counted_polygons}
use Rattle.listing_answer.proofs.AfterReading.{after_reading}
use Rattle.listing_output.specs.Program.{program_tables, file_listing}

-- lent tables as long as the program's
pub record ProgramLengths (t : Tables) : Type 0 where
  pub points : length t.points ≡ 5461 * point_size
  pub polygons : length t.polygons ≡ 4096 * polygon_size
  pub vertices : length t.vertices ≡ 16384
  pub names : length t.names ≡ 256
  pub name_bytes : length t.name_bytes ≡ 8192
  pub records : length t.records ≡ 256 * record_size

same_room : (n : Needs) (t : Tables) → ProgramLengths t → fits n t ≡ fits n program_tables
unfolding fits program_tables
same_room n t h = rw (h.points, h.polygons, h.vertices, h.names, h.name_bytes, h.records)

same_answer : (o : Outcome) (t : Tables) → ProgramLengths t → answer o t ≡ answer o program_tables
unfolding answer
same_answer (refused number place) t h = refl
same_answer (gives m k d) t h = rw (same_room (needs m) t h)

module _ {file : List ℕ} {t t' : Tables} {a : Answer} (r : Reads file t a t') (lent : ProgramLengths t) where
  same_listing : listing a (counted_polygons a t'.polygons t'.vertices) ≡ file_listing file
  unfolding file_listing
  same_listing = (after_reading r).same ∙ ap (λ x. listing x (polygons_given (rules file))) (same_answer (rules file) t lent)

  pub wrote_file : {out out' : List ℕ} {next : ℕ} → Wrote out 0 (listing a (counted_polygons a t'.polygons t'.vertices)) out' next
      → Wrote out 0 (file_listing file) out' next
  wrote_file w = rw same_listing at w
