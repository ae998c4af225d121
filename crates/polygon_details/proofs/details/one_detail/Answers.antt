-- Vertices and surface number are read, and the number is judged by its sign first.
use borrow.Author.Rules.{rules}
use mathlib.Core.Path.{◌≡◌, refl}
use native.Mathlib.Omega.{arith}
use Rattle.std.specs.Prelude.{Err}
use Rattle.format.specs.Bodies.{detail}
use Rattle.format.specs.Items.{◌and_then◌, ◌or◌unless◌}
use Rattle.format.proofs.ReaderSteps.{on_some, part, fails, cut, good_some, bad_some}
use Rattle.polygon_vertices.proofs.SignedSurfaces.{not_sign, names_one, lwob_entry_stops}
use Rattle.polygon_details.proofs.details.one_detail.Goals as goal

pub returns-in_err-entry : goal.returns-in_err-entry
unfolding detail ◌or◌unless◌ ◌and_then◌
returns-in_err-entry c =
    let told : c.from_residual.result ≡ Err c.in_err-entry.field-0.0 = search rules in
    rw told (record { says = lwob_entry_stops _ _ (λ vs next t e. rw e) c.in_err-entry.ensures; moves = tt })

pub returns-then-entry : goal.returns-then-entry
unfolding detail
returns-then-entry c =
    let o = c.in_ok-entry.ensures in
    record { says = on_some _ o.vertices.says (λ vs q. fails (cut _ _ (bad_some _ _ o.sign.says (λ z e. not_sign z e c.if-entry.true)))); moves = tt }

pub returns-then-in_name_list : goal.returns-then-in_name_list
unfolding detail
returns-then-in_name_list c =
    let o = c.in_ok-entry.ensures in
    record {
      says = on_some _ o.vertices.says (λ vs q. part (good_some _ _ (good_some _ _ o.sign.says (λ z e. not_sign z e c.if-entry.false))
          (λ z e. names_one z e _ c.in_name_list.ensures c.if-in_name_list.true)) (λ z e. refl));
      moves = omega (arith, o.vertices.moves, o.sign.moves);
    }

pub returns-else-in_name_list : goal.returns-else-in_name_list
unfolding detail
returns-else-in_name_list c =
    let o = c.in_ok-entry.ensures in
    record {
      says = on_some _ o.vertices.says (λ vs q. fails (bad_some _ _ (good_some _ _ o.sign.says (λ z e. not_sign z e c.if-entry.false))
          (λ z e. names_one z e _ c.in_name_list.ensures c.if-in_name_list.false)));
      moves = tt;
    }
