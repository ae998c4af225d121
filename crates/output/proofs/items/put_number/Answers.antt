-- The library gives the eight bytes of the number, of which the last are put.
use mathlib.Core.Path.{◌≡◌, ◌∙◌}
use Rattle.format.specs.Canonical.{bytes}
use Rattle.format.proofs.CanonicalLengths.{length_bytes}
use Rattle.output.proofs.PutSoFar.{wrote_part, whole, low_bytes}
use Rattle.output.proofs.items.put_number.Goals as goal

pub returns : goal.returns
returns g c =
    let n = g.row.N in
    let all : c.to_be_bytes-all.result ≡ bytes 8 c.args.n = c.to_be_bytes-all.ensures ∙ whole c.args.n in
    let last : c.copy_from_slice.new.self ≡ bytes n c.args.n = c.copy_from_slice.ensures.after ∙ rw (all, low_bytes n c.args.n c.requires.0) in
    rw last (wrote_part c.args.at n c.requires.1 (length_bytes n c.args.n))
