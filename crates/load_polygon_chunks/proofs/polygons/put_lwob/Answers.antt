-- Each tag has its law in `PolygonsChunk`, and a chunk of any other tag changes nothing. A tag's arm is named by its number.
use borrow.Author.Rules.{rules}
use borrow.Author.Tests.{eq-eqb, ne_eqb}
use mathlib.Core.Path.{◌≡◌}
use Rattle.format.specs.Bytes.{number}
use Rattle.format.specs.Bodies.{faces_body, patches_body}
use Rattle.format.proofs.PartByTag.{holds_names, holds_faces, holds_patches}
use Rattle.load_polygon_chunks.proofs.PolygonsChunk.{points_fit, points_put, names_put, polygons_room, polygons_put, nothing_new, lwob_rest}
use Rattle.load_polygon_chunks.proofs.polygons.put_lwob.Goals as goal

pub with_points-requires : goal.with_points-requires
unfolding number
with_points-requires c = points_fit (eq-eqb _ _ c.in-1347310675.is) c.requires

-- PNTS
pub returns-in-1347310675 : goal.returns-in-1347310675
unfolding number
returns-in-1347310675 c = points_put (eq-eqb _ _ c.in-1347310675.is) (rw c.left.ensures at c.with_points.ensures)

-- SRFS
pub returns-in-1397900883 : goal.returns-in-1397900883
unfolding number
returns-in-1397900883 c = names_put (holds_names _ (eq-eqb _ _ c.in-1397900883.is)) c.with_names.ensures

pub put_faces-requires : goal.put_faces-requires
unfolding number
put_faces-requires c = polygons_room faces_body (holds_faces (eq-eqb _ _ c.in-1347374163.is)) c.requires

-- POLS
pub returns-in-1347374163 : goal.returns-in-1347374163
unfolding number
returns-in-1347374163 c =
    polygons_put faces_body (holds_faces (eq-eqb _ _ c.in-1347374163.is)) c.put_faces.ensures c.with_polygons.ensures

pub put_patches-requires : goal.put_patches-requires
unfolding number
put_patches-requires c = polygons_room patches_body (holds_patches (eq-eqb _ _ c.in-1346586707.is)) c.requires

-- PCHS
pub returns-in-1346586707 : goal.returns-in-1346586707
unfolding number
returns-in-1346586707 c =
    polygons_put patches_body (holds_patches (eq-eqb _ _ c.in-1346586707.is)) c.put_patches.ensures c.with_polygons-in-1346586707.ensures

pub returns-in_default : goal.returns-in_default
unfolding number
returns-in_default c =
    let not_points : c.args.tag ≡ 1347310675 → ⊥ = search rules in
    let not_names : c.args.tag ≡ 1397900883 → ⊥ = search rules in
    let not_polygons : c.args.tag ≡ 1347374163 → ⊥ = search rules in
    let not_patches : c.args.tag ≡ 1346586707 → ⊥ = search rules in
    nothing_new (λ b. lwob_rest b _ (ne_eqb _ _ not_points) (ne_eqb _ _ not_polygons) (ne_eqb _ _ not_names) (ne_eqb _ _ not_patches))
