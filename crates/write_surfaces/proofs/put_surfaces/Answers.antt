-- The names and their records walked together, each with its chunk.
use native.Mathlib.Omega.{arith}
use Rattle.write_surfaces.proofs.Surfaces.{end, name_there, surface_room, turn}
use Rattle.write_surfaces.proofs.put_surfaces.Goals as goal

pub overflow_add-end : goal.overflow_add-end
overflow_add-end c = let step = c.in-Some.ensures.steps in omega (arith, name_there c.loop-length.invariant c.next.new.self _ _ step.0 step.1)

pub slice_bounds-put_surface-end : goal.slice_bounds-put_surface-end
slice_bounds-put_surface-end c = let step = c.in-Some.ensures.steps in name_there c.loop-length.invariant c.next.new.self _ _ step.0 step.1

pub put_surface-next-requires : goal.put_surface-next-requires
put_surface-next-requires c = let step = c.in-Some.ensures.steps in surface_room c.loop-length.invariant c.next.new.self _ _ step.0 step.1

pub loop-length-preserved : goal.loop-length-preserved
loop-length-preserved c = let step = c.in-Some.ensures.steps in turn c.loop-length.invariant c.next.new.self _ _ step.0 step.1 c.put_surface-next.ensures

pub returns : goal.returns
returns c = end c.loop-length.invariant c.in-None.ensures.steps
