-- The quotient is rounded once, and by 256 it is exact.
use mir.Facts.{to_z-of_z}
use Rattle.surface_levels.proofs.RoundedQuotient.{level_of}
use Rattle.surface_levels.proofs.level.level.Goals as goal

pub returns : goal.returns
returns c = rw (to_z-of_z c.ranges.n) (level_of c.args.n c.ranges.n)
