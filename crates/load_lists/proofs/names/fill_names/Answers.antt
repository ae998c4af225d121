-- The walk passes chunks without names up to the one that holds them all (`NamesWalk`).
use mathlib.Core.Path.{sym, ◌∙◌}
use Rattle.headers.proofs.FileWalk.{never_bad, chunk_here}
use Rattle.load_lists.proofs.NamesWalk.{none_at_start, unlisted, other, names_room, found}
use Rattle.load_lists.proofs.names.fill_names.Goals as goal

pub loop-at-init : goal.loop-at-init
loop-at-init c = none_at_start c.requires

pub returns-in_default : goal.returns-in_default
returns-in_default c = absurd (never_bad c.loop-at.invariant.walked c.loop-at-test.true c.in_default.ensures)

pub put_names-requires : goal.put_names-requires
put_names-requires c = names_room c.loop-at.invariant (chunk_here c.loop-at.invariant.walked c.in-Ok.ensures) (sym c.holds_names.ensures ∙ c.if-holds_names.true)

pub returns-then-holds_names : goal.returns-then-holds_names
returns-then-holds_names c = found c.loop-at.invariant (chunk_here c.loop-at.invariant.walked c.in-Ok.ensures) (sym c.holds_names.ensures ∙ c.if-holds_names.true) c.put_names.ensures

pub loop-at-preserved : goal.loop-at-preserved
loop-at-preserved c = other c.loop-at.invariant (chunk_here c.loop-at.invariant.walked c.in-Ok.ensures) (sym c.holds_names.ensures ∙ c.if-holds_names.false)

pub returns : goal.returns
returns c = unlisted c.loop-at.invariant c.loop-at-test.false
