-- A SURF body that was judged fine has its strings and its sub-chunks, and the last values of these make its record.
use Rattle.std.specs.Prelude.{Ok, Err}
use mathlib.Core.List.{List}
use Prim.Native.Nat.{ℕ}
use lib.ListN.{drop}
use Rattle.format.specs.declared.Kind.{Kind}
use Rattle.format.specs.declared.Container.TheVariants.{Surf}
use Rattle.format.specs.Items.{◌and_then◌, ◌>>=◌, whole}
use Rattle.format.specs.Surfaces.{nested, surface_depth}
use Rattle.format.specs.Bodies.{surface_body}
use Rattle.format.specs.Promises.{nothing, Succeeds}
use Rattle.format.proofs.ReaderSteps.{met, judged_part}
use Rattle.format.proofs.Verdicts.{stopped}
use Rattle.format.proofs.Inversion.{sound_then, sound_not, sound_whole}
use Rattle.wire.specs.declared.Refusal.{Refusal}
use Rattle.wire.specs.declared.cursor.Cursor.{Cursor}
use Rattle.surface_values.specs.Promises.{StringsAt}
use Rattle.surface_values.proofs.SurfaceBody.{no_strings, body_judged}
use Rattle.load_values.specs.declared.last_values.LastValues.{LastValues}
use Rattle.load_records.specs.declared.record.Record.{Record}
use Rattle.load_values.specs.LastValues.{taken_of, LastAt}
use Rattle.load_records.specs.Promises.{record_from, RecordIs, RecordAt}
use Rattle.load_records.proofs.SettledRecord.{record_from_lem}

module _ {kind : Kind} {s : List ℕ} where
  module _ (w : Succeeds (whole 0 (surface_body kind) 8 (drop 8 s))) where
    pub never_open : {f : Refusal} → StringsAt kind s (Err f) → ⊥
    never_open n = sound_not w (stopped (whole 0 (surface_body kind) 8 (drop 8 s)) nothing (no_strings n).is)

    pub sound_nested : {c : Cursor} → StringsAt kind s (Ok c) → Succeeds (nested surface_depth (Surf kind) c.at (drop c.at s))
    unfolding surface_body ◌>>=◌ ◌and_then◌
    sound_nested {c} n =
        let u = sound_whole (surface_body kind) 0 8 (drop 8 s) w in
        let v : Succeeds (surface_body kind 8 (drop 8 s)) = record { value = u.got; is = u.is } in
        (sound_then (nested surface_depth (Surf kind) c.at (drop c.at s)) _ (rw (met n.reads.says).is at v)).0

  pub record_at : {c : Cursor} {v : LastValues} {r : Record} → StringsAt kind s (Ok c) → LastAt kind s c.at v
      → RecordIs (record_from kind (taken_of v)) r → RecordAt kind s r
  unfolding ◌and_then◌
  record_at n l q = record {
    judged = body_judged n (λ name. rw q.is (judged_part (record_from kind) (record_from_lem kind) l.judged));
    has_bits = q.has_bits;
  }
