-- One test for each kind of file.
use Rattle.format.specs.Bodies.{whole_points}
use Rattle.validate_lists.proofs.points.whole_points.Goals as goal

pub returns-in-LWOB : goal.returns-in-LWOB
unfolding whole_points
returns-in-LWOB c = rw c.in-LWOB.is

pub returns-in-LWO2 : goal.returns-in-LWO2
unfolding whole_points
returns-in-LWO2 c = rw c.in-LWO2.is
