-- What the program prints for an input, as bytes.
use Rattle.std.specs.Prelude.{ℕ, ◌*◌, ◌≡◌, List, ◌++◌, ltb, length, take, replicate, if◌then◌else◌}
use Rattle.format.specs.Bytes.{spelt}
use Rattle.format.specs.Mesh.{point_size, polygon_size, record_size, Tables, lent}
use Rattle.format.specs.Rules.{rules}
use Rattle.format.specs.Answer.{answer}
use Rattle.output.specs.Outputs.{Wrote}
use Rattle.listing_text.specs.Text.{line_end}
use Rattle.listing_answer.specs.Listing.{listing, polygons_given}

-- "The program's input: at most 65,536 bytes."
abbrev pub input_limit : ℕ
input_limit = 65536

-- "Its tables hold 5,461 points, 4,096 polygons, 16,384 vertices, 256 names and 8,192 name bytes; a file that needs more prints `refused 16 at 0`." There is
-- a record for each name. The tables are empty before the reading.
abbrev pub zeros : ℕ → List ℕ
zeros n = replicate n 0

unfoldable pub program_tables : Tables
program_tables = lent (zeros (5461 * point_size)) (zeros (4096 * polygon_size)) (zeros 16384) (zeros 256) (zeros 8192) (zeros (256 * record_size))

abbrev pub not_read_text : List ℕ
not_read_text = spelt "not read" ++ line_end

-- the listing of a file that is read into those tables
unfoldable pub file_listing : (file : List ℕ) → List ℕ
file_listing file = listing (answer (rules file) program_tables) (polygons_given (rules file))

-- "input too long for the program prints `not read`"
unfoldable pub printed : (input : List ℕ) → List ℕ
printed input = if ltb input_limit (length input) then not_read_text else file_listing input

-- Whatever the input is of which `read` is as much as there was room for: what is to be printed for it was put into the output.
pub record PrintsInput (read : List ℕ) (room : ℕ) (out out' : List ℕ) (next : ℕ) : Type 0 where
  pub text : (input : List ℕ) → take room input ≡ read → Wrote out 0 (printed input) out' next
