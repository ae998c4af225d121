-- The count is read and judged, and then so many vertices are read.
use native.Mathlib.Omega.{arith}
use borrow.Author.Rules.{rules}
use mathlib.Core.Path.{◌≡◌}
use Rattle.std.specs.Prelude.{Err}
use Rattle.format.specs.Bodies.{lwob_vertices}
use Rattle.format.proofs.ReaderSteps.{on, off, cut, good, bad, nearer}
use Rattle.polygon_vertices.specs.Promises.{vertex_bytes}
use Rattle.polygon_vertices.proofs.vertices.lwob_vertices.Goals as goal

pub returns-in_err-n : goal.returns-in_err-n
unfolding lwob_vertices
returns-in_err-n c =
    let told : c.from_residual.result ≡ Err c.in_err-n.field-0.0 = search rules in
    rw told (record { says = off _ (cut _ _ c.in_err-n.ensures.says); moves = tt })

pub returns-then-n : goal.returns-then-n
unfolding lwob_vertices
returns-then-n c =
    let w = c.in_ok-n.ensures in
    let z = c.vertices.ensures in
    record { says = on _ (good _ _ w.says c.if-n.true) z.says; moves = nearer vertex_bytes w z (λ y. omega arith) }

pub returns-else-n : goal.returns-else-n
unfolding lwob_vertices
returns-else-n c = record { says = off _ (bad _ _ c.in_ok-n.ensures.says c.if-n.false); moves = tt }
