-- The answer and the output together: nothing is written where the answer is a refusal, and else the file is.
use Rattle.std.specs.Prelude.{if◌then◌else◌, Err}
use Prim.Native.Nat.{ℕ, ◌+◌}
use mathlib.Core.Path.{◌≡◌, refl, sym, ap, ◌∙◌}
use mathlib.Core.List.{List}
use mathlib.Core.Bool.{Bool, true, false, not}
use native.Mathlib.Omega.{arith}
use lib.Dec.{ltb}
use lib.ListN.{length}
use borrow.Author.Tests.{eq-eqb, ne_eqb, ltb-false}
use Rattle.format.specs.Limits.{file_limit}
use Rattle.format.specs.Refusals.{no_room_number, not_mesh_number, too_long_number}
use Rattle.format.specs.Mesh.{Tables}
use Rattle.format.specs.Canonical.{canonical}
use Rattle.format.specs.Written.{mesh_from, is_mesh, Written, says, written, output_after, Writes}
use Rattle.writer.specs.declared.WriteError.{WriteError}
use Rattle.writer.specs.declared.WriteError.TheVariants.{NotAMesh, OutTooLong, NoRoom}
use Rattle.writer.specs.Writes.{answer_as}
use Rattle.output.specs.Outputs.{Wrote}
use Rattle.writer.specs.Promises.{OutputRoom}

not_zero : (e : WriteError) → (answer_as (Err e)).number ≡ 0 → ⊥
not_zero NotAMesh zero = omega arith
not_zero OutTooLong zero = omega arith
not_zero (NoRoom needed) zero = omega arith

module _ (t : Tables) (out : List ℕ) where
  abbrev file : List ℕ
  file = canonical (mesh_from t)

  pub refused : (e : WriteError) → answer_as (Err e) ≡ written t (length out) → Writes t out (answer_as (Err e)) out
  unfolding output_after
  refused e is = record { answers = is; leaves = rw (ne_eqb (written t (length out)).number 0 (λ zero. not_zero e (ap (λ (w : Written). w.number) is ∙ zero))) }

  module _ {n : ℕ} (is : says 0 n ≡ written t (length out)) where
    pub accepted : OutputRoom t out n
    unfolding written
    accepted = let r = go (is_mesh t) (ltb file_limit (length file)) (ltb (length out) (length file)) is in record { mesh = r.0; long = r.2; room = omega (arith, ltb-false (length out) (length file) r.1, r.2) }
      where
        go : (mesh long short : Bool)
            → says 0 n ≡ (if not mesh then says not_mesh_number 0 else if long then says too_long_number 0 else if short then says no_room_number (length file) else says 0 (length file))
            → (mesh ≡ true) × (short ≡ false) × (n ≡ length file)
        go false long short e = absurd (omega (arith, ap (λ (w : Written). w.number) e))
        go true true short e = absurd (omega (arith, ap (λ (w : Written). w.number) e))
        go true false true e = absurd (omega (arith, ap (λ (w : Written). w.number) e))
        go true false false e = (refl, refl, ap (λ (w : Written). w.length) e)

    pub written_out : {out' : List ℕ} {next : ℕ} → Wrote out 0 file out' next → Writes t out (says 0 next) out'
    unfolding output_after
    written_out {out'} {next} w =
        let from : 0 + length file ≡ length file = omega arith in
        let all : next ≡ n = omega (arith, w.next_is, accepted.long) in
        record { answers = rw all is; leaves = w.put.put ∙ rw (from, eq-eqb (written t (length out)).number 0 (sym (ap (λ (w : Written). w.number) is))) }
