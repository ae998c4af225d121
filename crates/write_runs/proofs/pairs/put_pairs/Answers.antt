-- A walk over one word of a run's polygons: each pair is put behind those before it.
use Prim.Native.Nat.{ℕ, ◌+◌}
use mathlib.Core.Path.{refl}
use mathlib.Core.List.{List, ◌∷◌}
use native.Mathlib.Omega.{arith}
use Rattle.std.specs.Iterator.Adapters.{enumerate_source}
use Rattle.mesh.proofs.ColumnWalk as numbers
use Rattle.mesh.specs.Polygons.{pair_of, pairs_from}
use Rattle.output.proofs.PutSoFar.{NextPart, room, turn, end}
use Rattle.mesh.proofs.Pairs.{pairs_left}
use Rattle.write_runs.proofs.pairs.put_pairs.Goals as goal

next_pair : (i n : ℕ) (ns : List ℕ) → NextPart (pairs_from i (n ∷ ns)) (pair_of i n) (pairs_from (i + 1) ns)
next_pair i n ns = record { is = pairs_left i n ns }

-- a polygon's number has 24 bits
pub put_pair-next-requires : goal.put_pair-next-requires
put_pair-next-requires c =
    let w = c.loop-i.invariant in
    let step = c.in-Some.ensures.steps in
    let h = numbers.here w.walk (enumerate_source c.next.new.self) _ step.0 (omega arith) in
    rw step.1 (omega (arith, w.numbered, numbers.more w.walk (enumerate_source c.next.new.self) _ step.0, c.requires.0), room h (next_pair _ _ _))

pub loop-i-preserved : goal.loop-i-preserved
loop-i-preserved c =
    let w = c.loop-i.invariant in
    let t = enumerate_source c.next.new.self in
    let step = c.in-Some.ensures.steps in
    let h = numbers.here w.walk t _ step.0 (omega arith) in
    let puts = turn h (next_pair _ _ _) (rw step.1 at c.put_pair-next.ensures) in
    rw step.2 (record { numbered = omega (arith, w.numbered, numbers.more w.walk t _ step.0); walk = numbers.turn w.walk t _ step.0 puts })

pub returns : goal.returns
unfolding pairs_from
returns c = end (numbers.end c.loop-i.invariant.walk (enumerate_source c.next.new.self) c.in-None.ensures.steps.0) refl
