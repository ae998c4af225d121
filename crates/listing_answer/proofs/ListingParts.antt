-- The parts of a listing: a refusal's line, or the counts and the lines of the polygons.
use Prim.Native.Nat.{ℕ, ◌+◌, ◌*◌, ◌≤◌}
use mathlib.Core.Path.{◌≡◌, sym, ap, ◌∙◌}
use mathlib.Core.Bool.{false≢true}
use mathlib.Core.List.{List}
use native.Mathlib.Omega.{arith}
use lib.ListN.{length}
use lib.Seq.{length-take-le}
use borrow.Author.Tests.{eq-eqb, ne_eqb}
use Rattle.std.specs.Prelude.{Err}
use Rattle.format.specs.Refusals.{is_of_reader}
use Rattle.format.specs.Answer.{Answer}
use Rattle.laws.proofs.Room.{number_range}
use Rattle.read_answer.specs.declared.ReadError.{ReadError}
use Rattle.read_answer.specs.declared.ReadError.TheVariants.{Refused, NoRoom}
use Rattle.read_answer.specs.Reads.{answer_as}
use Rattle.format.specs.Mesh.{polygon_size}
use Rattle.listing_text.specs.Prints.{Prints, LinesLent, PrintsLines, lines_size}
use Rattle.listing_text.proofs.PrintedSoFar.{at_most, then_prints}
use Rattle.listing_answer.specs.Listing.{count_lines, refusal_line, listing}
use Rattle.listing_answer.specs.Lent.{ListingLent, CountsHeld, PrintsListing, counts_size, output_size, polygons_front, vertices_front, counted_polygons}

-- no refusal has the number 0
pub numbered : (e : ReadError) → (answer_as (Err e)).number ≡ 0 → ⊥
numbered (Refused f) z = false≢true (sym (ap is_of_reader z) ∙ number_range f.why)
numbered (NoRoom t) z = absurd (omega (arith, z))

module _ {out ps vs : List ℕ} {a : Answer} (w : ListingLent out a ps vs) where
  pub refused : {out' : List ℕ} {next n : ℕ} → (a.number ≡ 0 → ⊥) → n ≡ a.number → Prints out 0 (refusal_line n a.place) out' next counts_size
      → PrintsListing out a ps vs out' next
  unfolding listing
  refused not same p = rw (ne_eqb a.number 0 not) (at_most (rw same at p) (omega arith))

  module _ (ok : a.number ≡ 0) where
    enough_there : CountsHeld a ps vs
    enough_there = w.counts_held ok

    pub words_there : length (polygons_front a ps) ≡ a.needs.polygons * polygon_size
    words_there = length-take-le (a.needs.polygons * polygon_size) ps enough_there.enough

    pub vertices_there : length (vertices_front a vs) ≡ a.needs.vertices
    vertices_there = length-take-le a.needs.vertices vs enough_there.enough_vertices

    module _ {out' : List ℕ} {next : ℕ} (p : Prints out 0 (count_lines a) out' next counts_size) where
      pub lines_lent : LinesLent out' next (polygons_front a ps) (vertices_front a vs)
      lines_lent = record {
        agree = rw vertices_there enough_there.agree;
        room = omega (arith, words_there, vertices_there, enough_there.enough, enough_there.enough_vertices, w.room, p.few, p.wrote.kept);
      }

      pub accepted : {out'' : List ℕ} {last : ℕ} → PrintsLines out' next (polygons_front a ps) (vertices_front a vs) out'' last
          → PrintsListing out a ps vs out'' last
      unfolding listing counted_polygons
      accepted q =
          let few : counts_size + lines_size (polygons_front a ps) (vertices_front a vs) ≤ output_size ps vs =
          omega (arith, words_there, vertices_there, enough_there.enough, enough_there.enough_vertices) in
          rw (eq-eqb a.number 0 ok) (at_most (then_prints p q (omega (arith, few, w.room))) few)
