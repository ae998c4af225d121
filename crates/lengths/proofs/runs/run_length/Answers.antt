-- A run is a POLS and, where it has pairs of surfaces or of parts, a PTAG of each.
use mathlib.Core.Path.{sym}
use native.Mathlib.Omega.{arith}
use Rattle.lengths.proofs.RunLengths.{run_size}
use Rattle.lengths.proofs.runs.run_length.Goals as goal

pub returns : goal.returns
returns c =
    record {
      size_is =
          rw (c.unless_empty.ensures.size_is, c.unless_empty-2.ensures.size_is, c.unless_empty-3.ensures.size_is, c.vertices_length.ensures.size_is, c.pairs_length-surfaces.ensures.size_is, c.pairs_length-parts.ensures.size_is)
          (sym (run_size _ _ c.requires.0.agree c.requires.1));
      few = omega (arith, c.unless_empty.ensures.few, c.unless_empty-2.ensures.few, c.unless_empty-3.ensures.few, c.vertices_length.ensures.few, c.pairs_length-surfaces.ensures.few, c.pairs_length-parts.ensures.few, c.requires.1);
    }
