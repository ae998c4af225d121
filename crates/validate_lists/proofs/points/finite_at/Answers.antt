-- The float's bits are judged, and none of it is cut.
use mathlib.Core.Path.{refl, sym, ◌∙◌}
use Rattle.format.proofs.Places.{uint_whole, float_is, float_bad}
use Rattle.format.proofs.ReaderSteps.{part, fails}
use Rattle.validate_lists.proofs.points.finite_at.Goals as goal

pub returns-then-is_finite_at : goal.returns-then-is_finite_at
returns-then-is_finite_at c =
    part (float_is (uint_whole 4 c.requires refl) (sym c.is_finite_at.ensures ∙ c.if-is_finite_at.true)).says (λ bits e. refl)

pub returns-else-is_finite_at : goal.returns-else-is_finite_at
returns-else-is_finite_at c =
    fails (float_bad (uint_whole 4 c.requires refl) (sym c.is_finite_at.ensures ∙ c.if-is_finite_at.false)).says
