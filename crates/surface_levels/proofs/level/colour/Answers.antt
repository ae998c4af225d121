-- The quotient is rounded once.
use Rattle.surface_levels.proofs.RoundedQuotient.{colour_of}
use Rattle.surface_levels.proofs.level.colour.Goals as goal

pub returns : goal.returns
returns c = colour_of c.args.b c.ranges.b.fits
