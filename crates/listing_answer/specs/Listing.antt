-- The listing of an answer, as bytes: an accepted file's counts and polygons, or a refusal's line.
use Rattle.std.specs.Prelude.{ℕ, List, [], ◌++◌, eqb, if◌then◌else◌}
use Rattle.format.specs.Bytes.{spelt}
use Rattle.format.specs.Mesh.{Polygon, Needs}
use Rattle.format.specs.Rules.{Outcome, refused, gives}
use Rattle.format.specs.Answer.{Answer}
use Rattle.listing_text.specs.Text.{labelled, line_end, count_line, polygon_lines}

-- the five needs, a line each
unfoldable pub need_lines : Needs → List ℕ
need_lines n =
    count_line (spelt "points ") n.points
    ++ count_line (spelt "polygons ") n.polygons
    ++ count_line (spelt "vertices ") n.vertices
    ++ count_line (spelt "names ") n.names
    ++ count_line (spelt "name-bytes ") n.name_bytes

-- "accepted", the needs, and the two counts, a line each
unfoldable pub count_lines : Answer → List ℕ
count_lines a = (spelt "accepted" ++ line_end) ++ need_lines a.needs ++ count_line (spelt "skipped ") a.skipped ++ count_line (spelt "details ") a.details

-- "A refusal prints one line, as `refused 6 at 12`"
unfoldable pub refusal_line : (number place : ℕ) → List ℕ
refusal_line number place = labelled (spelt "refused ") number ++ labelled (spelt " at ") place ++ line_end

unfoldable pub listing : Answer → List Polygon → List ℕ
listing a ps = if eqb a.number 0 then count_lines a ++ polygon_lines 0 ps else refusal_line a.number a.place

-- the polygons of the mesh that the rules give a file
unfoldable pub polygons_given : Outcome → List Polygon
polygons_given (refused number place) = []
polygons_given (gives mesh skipped details) = mesh.polygons
