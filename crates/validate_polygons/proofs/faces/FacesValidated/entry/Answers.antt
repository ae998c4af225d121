-- Vertices, surface number and details are read and judged in this order.
use borrow.Author.Rules.{rules}
use mathlib.Core.Path.{◌≡◌}
use native.Mathlib.Omega.{arith}
use Rattle.std.specs.Prelude.{Err}
use Rattle.format.specs.Bodies.{face}
use Rattle.format.specs.Items.{◌and_then◌, ◌>>=◌, ◌or◌unless◌}
use Rattle.format.proofs.ReaderSteps.{on, on_some, off, given, good_some, bad_some}
use Rattle.polygon_vertices.proofs.SignedSurfaces.{names_one, lwob_entry_stops}
use Rattle.polygon_details.proofs.DetailsBySign.{by_sign}
use Rattle.validate_polygons.proofs.faces.FacesValidated.entry.Goals as goal

pub returns-in_err-head : goal.returns-in_err-head
unfolding face ◌>>=◌ ◌or◌unless◌ ◌and_then◌
returns-in_err-head c =
    let told : c.from_residual.result ≡ Err c.in_err-head.field-0.0 = search rules in
    rw told (record { says = lwob_entry_stops _ _ (λ vs next t e. rw e) c.in_err-head.ensures; moves = tt })

pub returns-then-not-in_name_list : goal.returns-then-not-in_name_list
unfolding face
returns-then-not-in_name_list c =
    let o = c.in_ok-head.ensures in
    record {
      says = on_some _ o.vertices.says (λ vs q. off _ (bad_some _ _ o.sign.says
          (λ z e. names_one z e _ c.in_name_list.ensures c.if-not-in_name_list.true)));
      moves = tt;
    }

pub returns-in_err-details : goal.returns-in_err-details
unfolding face
returns-in_err-details c =
    let told : c.from_residual-in_err-details.result ≡ Err c.in_err-details.field-0.0 = search rules in
    let o = c.in_ok-head.ensures in
    let d = c.in_err-details.ensures in
    rw told (record {
      says = on_some _ o.vertices.says (λ vs q. on_some _
          (good_some _ _ o.sign.says (λ z e. names_one z e _ c.in_name_list.ensures c.if-not-in_name_list.false))
          (λ z e. off _ (by_sign _ _ z e d.says)));
      moves = tt;
    })

pub returns : goal.returns
unfolding face
returns c =
    let o = c.in_ok-head.ensures in
    let d = c.in_ok-details.ensures in
    record {
      says = on_some _ o.vertices.says (λ vs q. on_some _
          (good_some _ _ o.sign.says (λ z e. names_one z e _ c.in_name_list.ensures c.if-not-in_name_list.false))
          (λ z e. on _ (by_sign _ _ z e d.says) (given (rw q))));
      moves = omega (arith, o.vertices.moves, o.sign.moves, d.moves);
    }
