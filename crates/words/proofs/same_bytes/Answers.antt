-- Lists of two lengths, or with one place where they differ, are not the same; and where no test tells, the library's comparison decides.
use mathlib.Core.Path.{◌∙◌}
use Rattle.format.proofs.SameLists.{pointwise_same}
use Rattle.words.proofs.SameBytes.{different, differ_at}
use Rattle.words.proofs.same_bytes.Goals as goal

pub returns-then-n-b : goal.returns-then-n-b
returns-then-n-b c = different _ _ c.if-n-b.true

pub returns-then-a-n : goal.returns-then-a-n
returns-then-a-n c = differ_at _ _ _ c.if-a-n.true

pub returns-then-a-i : goal.returns-then-a-i
returns-then-a-i c = differ_at _ _ _ c.if-a-i.true

pub returns : goal.returns
returns c = c.eq.ensures ∙ pointwise_same _ _
