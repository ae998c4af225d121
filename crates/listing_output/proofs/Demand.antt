-- What demand 1 says of the listing program: the text is the listing of an answer, which goes by the rules and by the program's room; each line has its own
-- first byte.
use Rattle.std.specs.Prelude.{if◌then◌else◌}
use Prim.Native.Nat.{ℕ, ◌<◌, ◌≤◌}
use mathlib.Core.Path.{◌≡◌, refl, ap, ◌∙◌, sym}
use mathlib.Core.List.{List, ◌++◌}
use mathlib.Core.Bool.{Bool, true, false, false≢true}
use mathlib.Core.Logic.{◌≢◌}
use native.Mathlib.Omega.{arith}
use lib.Dec.{ltb, eqb}
use lib.ListN.{length, get_or}
use borrow.Author.Tests.{ne_eqb, ltb-true, lt-ltb, le-ltb}
use Rattle.format.specs.Refusals.{is_of_reader}
use Rattle.format.specs.Mesh.{Polygon}
use Rattle.format.specs.Rules.{rules}
use Rattle.format.specs.Answer.{Answer, answer}
use Rattle.laws.proofs.Room.{refused_range}
use Rattle.listing_text.specs.Text.{polygon_lines}
use Rattle.listing_answer.specs.Listing.{count_lines, refusal_line, listing, polygons_given}
use Rattle.listing_output.specs.Program.{input_limit, program_tables, not_read_text, file_listing, printed}
use Rattle.listing_output.specs.Listed.{Listed}

-- no listing begins as `not read` does
other : (a : Answer) (ps : List Polygon) → listing a ps ≡ not_read_text → ⊥
unfolding listing count_lines refusal_line
other a ps e = by (eqb a.number 0) e
  where
    by : (t : Bool) → (if t then count_lines a ++ polygon_lines 0 ps else refusal_line a.number a.place) ≡ not_read_text → ⊥
    by true e = let first : ◌≡◌ {A = ℕ} 97 110 = ap (λ (l : List ℕ). get_or l 0 0) e in omega arith
    by false e = let first : ◌≡◌ {A = ℕ} 114 110 = ap (λ (l : List ℕ). get_or l 0 0) e in omega arith

within : (input : List ℕ) → length input ≤ input_limit → printed input ≡ listing (answer (rules input) program_tables) (polygons_given (rules input))
unfolding printed file_listing
within input few = rw (le-ltb input_limit (length input) few)

long_only : (input : List ℕ) (t : Bool) → ltb input_limit (length input) ≡ t → printed input ≡ not_read_text → input_limit < length input
unfolding printed file_listing
long_only input true long e = ltb-true input_limit (length input) long
long_only input false few e = absurd (other (answer (rules input) program_tables) (polygons_given (rules input)) (rw few at e))

pub listed : (input : List ℕ) → Listed input (printed input)
unfolding answer listing polygons_given
listed input = record {
  too_long = (long_only input (ltb input_limit (length input)) refl, λ long. unfold printed in rw (lt-ltb input_limit (length input) long));
  refusal = λ few {number} {place} e. let some : number ≢ 0 = λ zero. false≢true (sym (ap is_of_reader zero) ∙ refused_range input e) in within input few ∙ rw (e, ne_eqb number 0 some);
  no_room = λ few e short. within input few ∙ rw (e, short);
  accepted = λ few e room. within input few ∙ rw (e, room);
}
