-- The floats that are written have the bits of the missing values.
use Rattle.load_values.proofs.TakenValues.{no_levels_is, none_met_lem}
use Rattle.load_values.proofs.last_values.LastValues.none.Goals as goal

pub returns : goal.returns
returns c = rw (no_levels_is c.default-2.ensures, no_levels_is c.default.ensures) none_met_lem
