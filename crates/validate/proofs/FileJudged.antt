-- A file is judged by its header and then by its chunks, and the first fault of the two is its fault.
use mathlib.Core.Path.{◌≡◌, sym}
use mathlib.Core.List.{List}
use Rattle.std.specs.Prelude.{Ok, Err}
use Prim.Native.Nat.{ℕ}
use lib.ListN.{drop}
use Rattle.format.specs.declared.Kind.{Kind}
use Rattle.format.specs.declared.Fault.{Fault}
use Rattle.format.specs.Items.{fine, fault, ◌and_then◌}
use Rattle.format.specs.Chunks.{chunks}
use Rattle.format.specs.Rules.{start, form, walk, judged, parts_of}
use Rattle.format.specs.Promises.{walk_parts, file_parts}
use Rattle.format.proofs.Verdicts.{fine_with, stopped}
use Rattle.wire.specs.declared.Refusal.{Refusal}
use Rattle.validate.specs.declared.counts.Totals.{Totals}
use Rattle.validate.specs.Promises.{totals_of, ChunksJudged, FileJudged}

module _ {s : List ℕ} where
  pub no_file : {why : Fault} → fault why 0 ≡ form s → FileJudged s (Err (record { why = why; at = 0 }))
  unfolding judged ◌and_then◌
  no_file e = record { is = rw (← e) }

  module _ {kind : Kind} (headed : fine kind ≡ form s) where
    pub refused : {f : Refusal} → ChunksJudged kind s (Err f) → FileJudged s (Err f)
    unfolding judged walk_parts ◌and_then◌
    refused {f} w =
        let none : fault f.why f.at ≡ file_parts kind s = sym (stopped (file_parts kind s) (totals_of kind) w.is) in
        record { is = rw (← headed, stopped (walk kind start 12 (chunks (drop 12 s))) parts_of none) }

    pub counted : {t : Totals} → ChunksJudged kind s (Ok t) → FileJudged s (Ok (kind, t))
    unfolding judged walk_parts ◌and_then◌
    counted w =
        let k = fine_with (file_parts kind s) (totals_of kind) w.is in
        let l = fine_with (walk kind start 12 (chunks (drop 12 s))) parts_of (sym k.is) in
        record { is = rw (← headed, l.is, l.shows, k.shows) }
