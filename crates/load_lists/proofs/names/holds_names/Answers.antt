-- Each kind of file has one tag for its names, and the test compares with that one.
use Rattle.format.specs.Bytes.{number}
use Rattle.load_lists.proofs.names.holds_names.Goals as goal

pub returns-in-LWOB : goal.returns-in-LWOB
unfolding number
returns-in-LWOB c = rw c.in-LWOB.is

pub returns-in-LWO2 : goal.returns-in-LWO2
unfolding number
returns-in-LWO2 c = rw c.in-LWO2.is
