-- The count's low ten bits are read and judged, and then so many vertices are read.
use native.Mathlib.Omega.{arith}
use borrow.Author.Rules.{rules}
use borrow.Author.Tests.{le-leb, lt-leb}
use mathlib.Core.Path.{◌≡◌}
use Rattle.std.specs.Prelude.{Err}
use Rattle.format.specs.Bodies.{lwo2_vertices}
use Rattle.format.proofs.ReaderSteps.{on, off, cut, good, bad, nearer}
use Rattle.polygon_vertices.specs.Promises.{vertex_bytes}
use Rattle.polygon_vertices.proofs.vertices.lwo2_vertices.Goals as goal

pub returns-in_err-n : goal.returns-in_err-n
unfolding lwo2_vertices
returns-in_err-n c =
    let told : c.from_residual.result ≡ Err c.in_err-n.field-0.0 = search rules in
    rw told (record { says = off _ (cut _ _ c.in_err-n.ensures.says); moves = tt })

pub returns-then-count-ge1 : goal.returns-then-count-ge1
unfolding lwo2_vertices
returns-then-count-ge1 c =
    let w = c.in_ok-n.ensures in
    let z = c.vertices.ensures in
    record { says = on _ (good _ _ w.says (le-leb _ _ c.if-count-ge1.true)) z.says; moves = nearer vertex_bytes w z (λ y. omega arith) }

pub returns-else-count-ge1 : goal.returns-else-count-ge1
unfolding lwo2_vertices
returns-else-count-ge1 c = record { says = off _ (bad _ _ c.in_ok-n.ensures.says (lt-leb _ _ c.if-count-ge1.false)); moves = tt }
