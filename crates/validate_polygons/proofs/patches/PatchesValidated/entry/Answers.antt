-- Vertices and surface number are read, and the number is judged.
use borrow.Author.Rules.{rules}
use mathlib.Core.Path.{◌≡◌}
use native.Mathlib.Omega.{arith}
use Rattle.std.specs.Prelude.{Err}
use Rattle.format.specs.Bodies.{patch}
use Rattle.format.specs.Items.{◌and_then◌, ◌>>=◌, ◌or◌unless◌}
use Rattle.format.proofs.ReaderSteps.{on_some, off, given, good_some, bad_some}
use Rattle.polygon_vertices.proofs.SignedSurfaces.{plain_one, lwob_entry_stops}
use Rattle.validate_polygons.proofs.patches.PatchesValidated.entry.Goals as goal

pub returns-in_err-head : goal.returns-in_err-head
unfolding patch ◌>>=◌ ◌or◌unless◌ ◌and_then◌
returns-in_err-head c =
    let told : c.from_residual.result ≡ Err c.in_err-head.field-0.0 = search rules in
    rw told (record { says = lwob_entry_stops _ _ (λ vs next t e. rw e) c.in_err-head.ensures; moves = tt })

pub returns-then-sign-in_name_list : goal.returns-then-sign-in_name_list
unfolding patch
returns-then-sign-in_name_list c =
    let o = c.in_ok-head.ensures in
    record {
      says = on_some _ o.vertices.says (λ vs q. on_some _
          (good_some _ _ o.sign.says (λ z e. plain_one z e _ c.in_name_list.ensures c.if-sign-in_name_list.true)) (λ z e. given (rw q)));
      moves = omega (arith, o.vertices.moves, o.sign.moves);
    }

pub returns-else-sign-in_name_list : goal.returns-else-sign-in_name_list
unfolding patch
returns-else-sign-in_name_list c =
    let o = c.in_ok-head.ensures in
    record {
      says = on_some _ o.vertices.says (λ vs q. off _ (bad_some _ _ o.sign.says
          (λ z e. plain_one z e _ c.in_name_list.ensures c.if-sign-in_name_list.false)));
      moves = tt;
    }
