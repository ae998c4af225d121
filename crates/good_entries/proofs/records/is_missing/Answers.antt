-- The ten words of the missing record are compared by bits; those of the missing colour are computed.
use mathlib.Core.Path.{◌∙◌}
use lib.Ieee.{of_bits, to_bits}
use Rattle.format.proofs.SameLists.{pointwise_same}
use Rattle.good_entries.proofs.records.is_missing.Goals as goal

pub returns : goal.returns
unfolding to_bits of_bits
returns c = rw c.as_slice.ensures at c.eq.ensures ∙ pointwise_same _ _
