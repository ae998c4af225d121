-- One chunk more: it adds what its counts say, and that is no more than it has bytes.
use mathlib.Core.Path.{◌≡◌, ap}
use mathlib.Core.List.{List}
use Prim.Native.Nat.{ℕ, ◌≤◌}
use native.Mathlib.Omega.{arith}
use Rattle.std.specs.Prelude.{Ok, Err}
use lib.ListN.{length, drop, length-drop}
use Rattle.format.specs.Items.{◌and_then◌}
use Rattle.format.specs.declared.Kind.{Kind}
use Rattle.format.specs.Rules.{judge}
use Rattle.format.proofs.Verdicts.{FineWith, fine_with, stopped}
use Rattle.format.proofs.SizeBound.{chunk_bound}
use Rattle.wire.specs.declared.Refusal.{Refusal}
use Rattle.validate_chunk.specs.declared.chunk.Counted.{Counted}
use Rattle.validate_chunk.specs.Promises.{counted_of, before_of, CountsOf}
use Rattle.validate.specs.declared.counts.Seen.{Seen}
use Rattle.validate.specs.Promises.{seen_with, weight, OneMoreSeen}
use Rattle.validate.proofs.FileCounts.{weight_is, totals_grow}

module _ (kind : Kind) (tag : ℕ) (seen : Seen) {s : List ℕ} where
  pub step_stop : {f : Refusal} → CountsOf (judge kind (before_of seen.lengths) tag) s (Err f) → OneMoreSeen kind tag seen s (Err f)
  unfolding ◌and_then◌
  step_stop w = record { is = rw (stopped (judge kind (before_of seen.lengths) tag (drop 8 s)) counted_of w.is); grown = tt }

  module _ {c : Counted} (w : CountsOf (judge kind (before_of seen.lengths) tag) s (Ok c)) (long : 8 ≤ length s) where
    part : FineWith (judge kind (before_of seen.lengths) tag (drop 8 s)) counted_of c
    part = fine_with _ counted_of w.is

    pub few : weight c ≤ length s
    few = omega (arith, (chunk_bound kind _ tag).each (drop 8 s) part.value part.is, weight_is part.value, ap weight part.shows, length-drop 8 s)

    pub step_go : {later : Seen} → later ≡ seen_with seen c → OneMoreSeen kind tag seen s (Ok later)
    unfolding ◌and_then◌
    step_go e = record { is = rw (part.is, part.shows, e); grown = rw e (omega (arith, few, totals_grow seen.totals c)) }
