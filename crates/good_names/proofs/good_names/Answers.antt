-- Names are good where each is good by itself, and none is equal to an earlier one.
use Rattle.mesh.proofs.AllPass.{passed, failed}
use Rattle.good_names.proofs.AllNew.{all_own_and_new}
use Rattle.good_names.proofs.good_names.Goals as goal

pub returns-then-own_names : goal.returns-then-own_names
returns-then-own_names c = rw (all_own_and_new, passed c.own_names.ensures c.if-own_names.true) c.all_new.ensures

pub returns-else-own_names : goal.returns-else-own_names
returns-else-own_names c = rw (all_own_and_new, failed c.own_names.ensures c.if-own_names.false) c.if-own_names.false
