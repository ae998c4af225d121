-- One or two of two zeros follow the name.
use mathlib.Core.Path.{refl, sym}
use native.Mathlib.Omega.{arith}
use lib.Seq.{length-take-le}
use Rattle.output.proofs.PutSoFar.{then_wrote, string_is, string_parts}
use Rattle.output.proofs.items.put_string.Goals as goal

pub put_bytes-next-requires : goal.put_bytes-next-requires
put_bytes-next-requires c =
    omega (arith, c.requires, string_parts c.args.name.now _ refl)

pub slice_bounds-put_bytes-end : goal.slice_bounds-put_bytes-end
slice_bounds-put_bytes-end c = sym (length-take-le _ _ (omega arith))

pub put_bytes-requires : goal.put_bytes-requires
put_bytes-requires c =
    omega (arith, c.requires, string_parts c.args.name.now _ refl, c.put_bytes-next.ensures.next_is, c.put_bytes-next.ensures.kept)

pub returns : goal.returns
returns c =
    let name = c.args.name.now in
    rw (string_is name _ refl) (then_wrote c.put_bytes-next.ensures c.put_bytes.ensures (omega (arith, c.requires, string_parts name _ refl)))
