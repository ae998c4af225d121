-- The tag and the low bytes of the length are put one after the other.
use Rattle.format.specs.Canonical.{bytes}
use Rattle.format.proofs.CanonicalLengths.{length_bytes}
use Rattle.output.proofs.Parts.{begin, in_two, room, turn, end}
use Rattle.output.proofs.heads.put_tag.Goals as goal

pub put_u4-next-requires : goal.put_u4-next-requires
put_u4-next-requires g c =
    let a = c.args in
    rw length_bytes at (room (begin (in_two (bytes 4 a.tag) (bytes g.row.N a.n)) c.requires.1))

pub put_number-requires : goal.put_number-requires
put_number-requires g c =
    let a = c.args in
    (c.requires.0, rw length_bytes at (room (turn (begin (in_two (bytes 4 a.tag) (bytes g.row.N a.n)) c.requires.1) c.put_u4-next.ensures)))

pub returns : goal.returns
returns g c =
    let a = c.args in
    end (turn (turn (begin (in_two (bytes 4 a.tag) (bytes g.row.N a.n)) c.requires.1) c.put_u4-next.ensures) c.put_number.ensures)
