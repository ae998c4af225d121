-- What was read of an input that is not too long is all of it; where more was read than may be, the input is too long.
use Prim.Native.Nat.{ℕ, ◌<◌, ◌≤◌, min}
use mathlib.Core.Path.{◌≡◌, sym, ap, ◌∙◌}
use mathlib.Core.List.{List}
use native.Mathlib.Omega.{arith}
use lib.ListN.{length, take, length-take}
use lib.Seq.{take_all, length-take-le}
use borrow.Author.Tests.{lt-ltb, le-ltb}
use Rattle.io.specs.Counts.{IsPrefixLen}
use Rattle.output.specs.Outputs.{Wrote}
use Rattle.listing_text.specs.Prints.{Prints}
use Rattle.listing_output.specs.Program.{input_limit, not_read_text, file_listing, printed, PrintsInput}

module _ (part input : List ℕ) (room : ℕ) (read : take room input ≡ part) where
  least : min room (length input) ≡ length part
  least = sym (length-take room input) ∙ ap (λ (l : List ℕ). length l) read

  too_long : input_limit < length part → input_limit < length input
  too_long more = omega (arith, least)

  all_read : input_limit < room → length part ≤ input_limit → input ≡ part
  all_read enough few = sym (take_all room input (omega (arith, least))) ∙ read

module _ {out out' : List ℕ} {next : ℕ} where
  module _ {part : List ℕ} {room : ℕ} where
    pub not_read : input_limit < length part → Wrote out 0 not_read_text out' next → PrintsInput part room out out' next
    unfolding printed
    not_read more w = record { text = λ input read. rw (lt-ltb input_limit (length input) (too_long part input room read more)) w }

    pub was_read : input_limit < room → length part ≤ input_limit → Wrote out 0 (file_listing part) out' next → PrintsInput part room out out' next
    unfolding printed
    was_read enough few w = record { text = λ input read. rw (all_read part input room read enough few, le-ltb input_limit (length part) few) w }

  pub counts : {text : List ℕ} {most : ℕ} → Prints out 0 text out' next most → most ≤ length out → IsPrefixLen next out'
  counts p room =
      let inside : next ≤ length out' = omega (arith, p.few, p.wrote.kept) in
      (inside, sym (length-take-le next out' inside))
