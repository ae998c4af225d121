-- Its type is judged first, then its string; what follows the string is the level below.
use borrow.Author.Rules.{rules}
use mathlib.Core.Path.{◌≡◌, sym, ◌∙◌}
use Rattle.std.specs.Prelude.{Err}
use Rattle.validate_surfaces.proofs.SubChunks.{other_type, no_string, header_holds}
use Rattle.validate_surfaces.proofs.nesting.block_header.Goals as goal

pub returns-then-not-is_block_type : goal.returns-then-not-is_block_type
returns-then-not-is_block_type c = other_type _ _ (sym c.is_block_type.ensures ∙ c.if-not-is_block_type.true)

pub returns-in_err-next : goal.returns-in_err-next
returns-in_err-next c =
    let told : c.from_residual.result ≡ Err c.in_err-next.field-0.0 = search rules in
    rw told (no_string _ _ (sym c.is_block_type.ensures ∙ c.if-not-is_block_type.false) (rw c.body-c.ensures at c.in_err-next.ensures))

pub returns : goal.returns
returns c = header_holds _ _ (sym c.is_block_type.ensures ∙ c.if-not-is_block_type.false) (rw c.body-c.ensures at c.in_ok-next.ensures)
