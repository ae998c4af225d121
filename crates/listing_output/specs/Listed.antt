-- What demand 1 says of the listing program: "A refusal is a number from your table with the place of the chunk". What it prints goes by the input alone.
use Rattle.std.specs.Prelude.{ℕ, ◌<◌, ◌≤◌, ◌≡◌, List, ◌++◌, true, false, ◌↔◌, length}
use Rattle.format.specs.Refusals.{no_room_number}
use Rattle.format.specs.Mesh.{Mesh, needs}
use Rattle.format.specs.Rules.{refused, gives, rules}
use Rattle.format.specs.Answer.{fits, answer}
use Rattle.listing_text.specs.Text.{polygon_lines}
use Rattle.listing_answer.specs.Listing.{count_lines, refusal_line}
use Rattle.listing_output.specs.Program.{input_limit, program_tables, not_read_text}

-- the program prints `text` for an input
pub record Listed (input text : List ℕ) : Type 0 where
  -- "input too long for the program prints `not read`", and no other
  pub too_long : (text ≡ not_read_text) ↔ (input_limit < length input)
  -- the rules' own number and place, where they refuse
  pub refusal : length input ≤ input_limit → {number place : ℕ} → rules input ≡ refused number place → text ≡ refusal_line number place
  -- "a file that needs more prints `refused 16 at 0`"
  pub no_room : length input ≤ input_limit → {m : Mesh} {k d : ℕ} → rules input ≡ gives m k d → fits (needs m) program_tables ≡ false
      → text ≡ refusal_line no_room_number 0
  -- and otherwise the counts and the polygons of the mesh that the rules give
  pub accepted : length input ≤ input_limit → {m : Mesh} {k d : ℕ} → rules input ≡ gives m k d → fits (needs m) program_tables ≡ true
      → text ≡ count_lines (answer (gives m k d) program_tables) ++ polygon_lines 0 m.polygons
