-- The digits that the library puts are the fewest that hold the number, which for 64 bits are at most 20.
use mathlib.Core.Path.{◌∙◌}
use native.Mathlib.Omega.{arith}
use Rattle.listing_text.proofs.Decimal.{decimal_is, few_digits}
use Rattle.listing_text.proofs.numbers.put_decimal.Goals as goal

pub returns : goal.returns
returns c =
    let d = c.decimal-count.ensures in
    let w = c.put_bytes.ensures in
    record { wrote = rw (d.digits ∙ decimal_is _ _ d.len) at w; few = omega (arith, w.next_is, d.in_bounds.1, few_digits _ _ (omega arith) d.len) }
