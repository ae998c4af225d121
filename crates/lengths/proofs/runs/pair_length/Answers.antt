-- A polygon whose number is 0 has no pair; a pair is an index and two bytes.
use Prim.Native.Nat.{ℕ, ◌+◌, ◌-◌}
use mathlib.Core.Path.{◌∙◌, ap, sym}
use native.Mathlib.Omega.{arith}
use lib.ListN.{length}
use Rattle.format.specs.Canonical.{vx_bytes}
use Rattle.format.proofs.CanonicalLengths.{length_bytes}
use Rattle.mesh.proofs.Pairs.{pair_parts}
use Rattle.lengths.proofs.runs.pair_length.Goals as goal

pub returns-else-number-eq0 : goal.returns-else-number-eq0
returns-else-number-eq0 c =
    let s = c.args in
    record { size_is = ap (λ (n : ℕ). n + 2) c.vx_length.ensures.size_is ∙ sym (pair_parts s.i s.number c.if-number-eq0.false ∙ ap (λ (n : ℕ). length (vx_bytes s.i) + n) (length_bytes 2 (s.number - 1))); few = omega (arith, c.vx_length.ensures.few) }
