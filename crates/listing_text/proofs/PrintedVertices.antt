-- The vertices of a polygon put into the output, each behind a blank.
use Prim.Native.Nat.{ℕ, ◌+◌, ◌*◌, ◌<◌, ◌≤◌}
use mathlib.Core.Path.{◌≡◌}
use mathlib.Core.List.{List}
use native.Mathlib.Omega.{arith}
use lib.ListN.{length, get_or, drop}
use Rattle.format.specs.Bytes.{spelt}
use Rattle.output.proofs.PutSoFar.{joined_more, joined_none}
use Rattle.listing_text.specs.Text.{labelled, vertex_texts}
use Rattle.listing_text.specs.Prints.{Prints, vertices_size}
use Rattle.listing_text.proofs.PrintedSoFar as text
use Rattle.listing_text.proofs.PrintedSoFar.{PrintedSoFar}

pub record PrintedVertices (vs t : List ℕ) (at : ℕ) (t' : List ℕ) (next i : ℕ) : Type 0 where
  pub room : at + vertices_size vs ≤ length t
  pub inside : i ≤ length vs
  pub prints : PrintedSoFar (vertex_texts vs) (vertex_texts (drop i vs)) t at t' next (21 * i)

module _ {vs t t' : List ℕ} {at next i : ℕ} (w : PrintedVertices vs t at t' next i) where
  pub end : length vs ≤ i → Prints t at (vertex_texts vs) t' next (vertices_size vs)
  unfolding vertex_texts
  end outside = text.at_most (text.end w.prints (joined_none (labelled (spelt " ")) vs i outside)) (omega (arith, w.inside))

  pub turn : {n : ℕ} {t'' : List ℕ} {last : ℕ} → i < length vs → n ≡ get_or vs i 0 → Prints t' next (labelled (spelt " ") n) t'' last 21
      → PrintedVertices vs t at t'' last (i + 1)
  unfolding vertex_texts
  turn {n} inside n_is v = record {
    room = w.room;
    inside = omega arith;
    prints =
        text.more_room (text.turn w.prints (joined_more (labelled (spelt " ")) vs i inside).is (rw n_is at v) (omega (arith, w.room))) (omega arith);
  }
