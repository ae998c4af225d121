-- The upper half of sixteen bits is moved down by 65,536.
use mathlib.Core.Path.{◌∙◌}
use mir.Facts.{to_z-of_z}
use Rattle.wire.proofs.Halves as halves
use Rattle.wire.proofs.cursor.signed16.Goals as goal

pub overflow_sub-result : goal.overflow_sub-result
overflow_sub-result c =
    let n = c.args.n in
    rw (halves.moved n c.if-n-lt32768.false c.ranges.n.fits) (halves.fits32 n c.if-n-lt32768.false c.ranges.n.fits)

pub overflow_cast-result-else-n-lt32768-2 : goal.overflow_cast-result-else-n-lt32768-2
overflow_cast-result-else-n-lt32768-2 c =
    let n = c.args.n in
    rw (halves.back n c.if-n-lt32768.false c.ranges.n.fits) (halves.fits16 n c.if-n-lt32768.false c.ranges.n.fits)

pub returns-then-n-lt32768 : goal.returns-then-n-lt32768
returns-then-n-lt32768 c = halves.is_same c.args.n c.if-n-lt32768.true

pub returns-else-n-lt32768 : goal.returns-else-n-lt32768
returns-else-n-lt32768 c =
    let n = c.args.n in
    rw (halves.back n c.if-n-lt32768.false c.ranges.n.fits)
    (to_z-of_z (halves.fits16 n c.if-n-lt32768.false c.ranges.n.fits) ∙ halves.is_signed n c.if-n-lt32768.false c.ranges.n.fits)
