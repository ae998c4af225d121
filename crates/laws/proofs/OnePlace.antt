-- There is one place where what has a fault starts, and it is the place that the reader tells: each way to come to a fault computes to that fault.
use Prim.Native.Nat.{ℕ, ◌+◌}
use mathlib.Core.Path.{◌≡◌, refl}
use mathlib.Core.List.{List}
use mathlib.Core.Bool.{Bool, true, false}
use native.Mathlib.Omega.{arith}
use lib.ListN.{length, take, drop}
use borrow.Author.Tests.{lt-leb, eq-eqb, ne_eqb}
use Rattle.format.specs.declared.Fault.{Fault}
use Rattle.format.specs.declared.Fault.TheVariants.{StringOpen}
use Rattle.format.specs.Items.{Verdict, fine, fault, Got, Reader, ◌>>=◌, ◌and_then◌, ◌or◌unless◌, whole, up_to, many, item, vx, string, to_zero, string_size}
use Rattle.format.specs.Chunks.{header_of, chunk_of, reader_of_length, sub}
use Rattle.format.specs.Mesh.{Name}
use Rattle.format.specs.Surfaces.{block_header, block, held}
use Rattle.format.specs.Bodies.{Part, names_after, names_body}
use Rattle.format.specs.Rules.{when◌read◌}
use Rattle.laws.specs.FaultStarts.{FaultStarts, BodyFaultStarts}
use Rattle.laws.specs.FaultStarts.FaultStarts.{item_cut, string_open, not_allowed, bad_header, left_over, wrong_length, empty_block, other_first, first, second, asked, index, entry, entries, next_name, names, of_length, in_sub_chunk, in_block, first_sub, later_sub}
use Rattle.laws.specs.FaultStarts.BodyFaultStarts.{out_of_order, left_over as bytes_over, in_body}
use Rattle.laws.proofs.Readers.{closed}

-- a string that is not read is open
open_string : (at : ℕ) (s : List ℕ) → ((g : Got Name) → string at s ≡ fine g → ⊥) → string at s ≡ fault StringOpen at
unfolding string
open_string at s none = by (closed s) refl
  where
    by : (t : Bool) → closed s ≡ t → string at s ≡ fault StringOpen at
    by true e = absurd (none (record { value = take (to_zero s) s; next = at + string_size (to_zero s); left = drop (string_size (to_zero s)) s }) (rw e))
    by false e = rw e

pub told : (A : Type 0) (r : Reader A) (at : ℕ) (s : List ℕ) (why : Fault) (p : ℕ) → FaultStarts A r at s why p → r at s ≡ fault why p
unfolding ◌>>=◌ ◌and_then◌ ◌or◌unless◌ whole up_to many item vx chunk_of reader_of_length sub block_header block held names_after names_body
told _ _ at s why p (item_cut n few) = rw (lt-leb n (length s) few)
told _ _ at s why p (string_open none) = open_string at s none
told _ _ at s why p (not_allowed A r _ ok g one got bad) = rw (got, bad)
told _ _ at s why p (bad_header A inside bad) = rw bad
told _ _ at s why p (left_over A inside c g header got more) = rw (header, got, more)
told _ _ at s why p (wrong_length A r width ok before bad) = let own : header_of width at ≡ p = omega arith in rw (bad, own)
told _ _ at s why p (empty_block inner before) = let own : header_of 2 at ≡ p = omega arith in rw own
told _ _ at s why p (other_first inner t before other) = rw (eq-eqb (header_of 2 at) (p + 6) (omega arith), other)
told _ _ at s why p (first C A r f starts) = rw (told C r at s why p starts)
told _ _ at s why p (second C A r f g got starts) = rw got (told A (f g.value) g.next g.left why p starts)
told _ _ at s why p (asked A r other ok starts) = rw (told A r at s why p starts)
told _ _ at s why p (index starts) = told ℕ _ at s why p starts
told _ _ at s why p (entry A r most starts) = told (List A) _ at s why p starts
told _ _ at s why p (entries A r starts) = told (List A) _ at s why p starts
told _ _ at s why p (next_name most earlier starts) = told (List Name) _ at s why p starts
told _ _ at s why p (names starts) = told Part _ at s why p starts
told _ _ at s why p (of_length A r width ok right starts) = rw right (told A r at s why p starts)
told _ _ at s why p (in_sub_chunk A inside c header starts) = rw (header, told A (inside c.value.tag) (at + 6) c.value.body why p starts)
told _ _ at s why p (in_block inner some starts) = rw some (told _ _ at s why p starts)
told _ _ at s why p (first_sub inner t header before starts) = rw (eq-eqb (header_of 2 at) (header + 6) (omega arith)) (told _ _ at s why p starts)
told _ _ at s why p (later_sub inner t header other starts) = rw (ne_eqb (header_of 2 at) (header + 6) (λ e. other (omega arith))) (told _ _ at s why p starts)

pub told_in_body : (judging : List ℕ → Verdict Part) (body : List ℕ) (why : Fault) (p : ℕ) → BodyFaultStarts judging body why p → judging body ≡ fault why p
unfolding when◌read◌ whole ◌and_then◌
told_in_body judging body why p (out_of_order r) = refl
told_in_body judging body why p (bytes_over r g got more) = rw (got, more)
told_in_body judging body why p (in_body r starts) = rw (told Part r 8 body why p starts)
