-- As long as the next polygon has the kind of the first, the run goes on: the end so far and those that follow make the run's end.
use Prim.Native.Nat.{◌+◌}
use Rattle.mesh.proofs.Runs.{from_place, run_begin, run_turn, run_other, run_past}
use Rattle.mesh.proofs.polygons.run_end.Goals as goal

pub loop-entry-init : goal.loop-entry-init
loop-entry-init c =
    let ws = c.args.polygons.now in
    run_begin (rw (from_place c.args.at ws) at c.kind-first.ensures) c.requires (rw (← from_place (c.args.at + 4) ws) (cc)) (cc)

pub returns-then-first-kind : goal.returns-then-first-kind
returns-then-first-kind c =
    run_other c.loop-entry.invariant c.next.new.self _ c.in-Some.ensures.steps c.kind.ensures c.if-first-kind.true

pub loop-entry-preserved : goal.loop-entry-preserved
loop-entry-preserved c =
    run_turn c.loop-entry.invariant c.next.new.self _ c.in-Some.ensures.steps c.kind.ensures c.if-first-kind.false

pub returns : goal.returns
returns c = run_past c.loop-entry.invariant c.next.new.self c.in-None.ensures.steps
