-- Each tag has its law in `PolygonsChunk`, and a chunk of any other tag changes nothing. A tag's arm is named by its number.
use borrow.Author.Rules.{rules}
use borrow.Author.Tests.{eq-eqb, ne_eqb}
use mathlib.Core.Path.{◌≡◌}
use Rattle.format.specs.Bytes.{number}
use Rattle.format.specs.Bodies.{polygons_body}
use Rattle.format.proofs.PartByTag.{holds_names, holds_polygons, holds_tagging}
use Rattle.load_polygon_chunks.proofs.PolygonsChunk.{points_fit, points_put, names_put, polygons_room, polygons_put, tags_room, tags_put, layer_fits, layer_put, nothing_new, lwo2_rest}
use Rattle.load_polygon_chunks.proofs.polygons.put_lwo2.Goals as goal

pub with_points-requires : goal.with_points-requires
unfolding number
with_points-requires c = points_fit (eq-eqb _ _ c.in-1347310675.is) c.requires

-- PNTS
pub returns-in-1347310675 : goal.returns-in-1347310675
unfolding number
returns-in-1347310675 c = points_put (eq-eqb _ _ c.in-1347310675.is) (rw c.left.ensures at c.with_points.ensures)

-- TAGS
pub returns-in-1413564243 : goal.returns-in-1413564243
unfolding number
returns-in-1413564243 c = names_put (holds_names _ (eq-eqb _ _ c.in-1413564243.is)) c.with_names.ensures

pub put_polygons-requires : goal.put_polygons-requires
unfolding number
put_polygons-requires c =
    polygons_room (λ points names. polygons_body points) (holds_polygons (eq-eqb _ _ c.in-1347374163.is)) c.requires

-- POLS
pub returns-in-1347374163 : goal.returns-in-1347374163
unfolding number
returns-in-1347374163 c =
    polygons_put (λ points names. polygons_body points) (holds_polygons (eq-eqb _ _ c.in-1347374163.is)) c.put_polygons.ensures c.with_polygons.ensures

pub put_taggings-requires : goal.put_taggings-requires
unfolding number
put_taggings-requires c = tags_room (holds_tagging (eq-eqb _ _ c.in-1347699015.is)) c.requires

-- PTAG
pub returns-in-1347699015 : goal.returns-in-1347699015
unfolding number
returns-in-1347699015 c = tags_put (holds_tagging (eq-eqb _ _ c.in-1347699015.is)) c.put_taggings.ensures

pub with_layer-requires : goal.with_layer-requires
unfolding number
with_layer-requires c = layer_fits (eq-eqb _ _ c.in-1279351122.is) c.requires

-- LAYR
pub returns-in-1279351122 : goal.returns-in-1279351122
unfolding number
returns-in-1279351122 c = layer_put (eq-eqb _ _ c.in-1279351122.is) c.with_layer.ensures

pub returns-in_default : goal.returns-in_default
unfolding number
returns-in_default c =
    let not_points : c.args.tag ≡ 1347310675 → ⊥ = search rules in
    let not_names : c.args.tag ≡ 1413564243 → ⊥ = search rules in
    let not_polygons : c.args.tag ≡ 1347374163 → ⊥ = search rules in
    let not_tags : c.args.tag ≡ 1347699015 → ⊥ = search rules in
    let not_layer : c.args.tag ≡ 1279351122 → ⊥ = search rules in
    nothing_new (λ b. lwo2_rest b _ (ne_eqb _ _ not_points) (ne_eqb _ _ not_polygons) (ne_eqb _ _ not_names) (ne_eqb _ _ not_tags) (ne_eqb _ _ not_layer))
