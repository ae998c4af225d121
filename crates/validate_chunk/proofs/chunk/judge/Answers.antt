-- Each kind of file has its own listed tags, and its own function.
use Rattle.validate_chunk.proofs.chunk.judge.Goals as goal

pub returns-in-LWOB : goal.returns-in-LWOB
returns-in-LWOB c = rw c.in-LWOB.is c.lwob_chunk.ensures

pub returns-in-LWO2 : goal.returns-in-LWO2
returns-in-LWO2 c = rw c.in-LWO2.is c.lwo2_chunk.ensures
