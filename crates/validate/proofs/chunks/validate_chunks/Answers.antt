-- What the file comes to is what was seen and what the chunks from here on add; each turn moves one chunk over (`ChunksWalk`).
use borrow.Author.Rules.{rules}
use mathlib.Core.Path.{◌≡◌}
use native.Mathlib.Omega.{arith}
use Rattle.std.specs.Prelude.{Err}
use Rattle.headers.proofs.ChunkInFile.{long}
use Rattle.validate.specs.Promises.{nothing_seen}
use Rattle.validate.proofs.ChunksWalk.{begin, end, no_header, in_file, stop, turn}
use Rattle.validate.proofs.chunks.validate_chunks.Goals as goal

pub loop-at-init : goal.loop-at-init
loop-at-init c =
    let d = c.default-seen.ensures in
    let none : c.default-seen.result ≡ nothing_seen = search (rules, d) in
    begin none

pub returns-in_err-tag : goal.returns-in_err-tag
returns-in_err-tag c =
    let told : c.from_residual.result ≡ Err c.in_err-tag.field-0.0 = search rules in
    rw told (no_header c.loop-at.invariant c.loop-at-test.true c.in_err-tag.ensures)

pub step-requires : goal.step-requires
step-requires c =
    let head = c.in_ok-tag.ensures in
    let l = long head in
    (rw l (omega (arith, head.inside)), rw l (omega (arith, head.inside, c.loop-at.invariant.few, c.type_inv)))

pub place-requires : goal.place-requires
place-requires c =
    let told = in_file c.loop-at.invariant c.loop-at-test.true c.in_ok-tag.ensures c.in-Err.ensures in
    omega (arith, told, c.type_inv)

pub returns-in-Err : goal.returns-in-Err
returns-in-Err c = stop c.loop-at.invariant c.loop-at-test.true c.in_ok-tag.ensures c.in-Err.ensures c.place.ensures

pub loop-at-smaller : goal.loop-at-smaller
loop-at-smaller c =
    let head = c.in_ok-tag.ensures in
    omega (arith, head.inside, c.loop-at-test.true)

pub loop-at-preserved : goal.loop-at-preserved
loop-at-preserved c = turn c.loop-at.invariant c.loop-at-test.true c.in_ok-tag.ensures c.in-Ok.ensures

pub returns : goal.returns
returns c = end c.loop-at.invariant c.loop-at-test.false
