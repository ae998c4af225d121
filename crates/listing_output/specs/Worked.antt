-- What document 01 shows of the listing, computed: what the program prints for the file of case l, for case k and for an empty input, and a number.
use Rattle.std.specs.Prelude.{ℕ, ◌≡◌, refl, List, [], ◌∷◌, ◌++◌, map}
use Prim.Native.String.{String}
use Rattle.format.specs.Bytes.{spelt, number, finite, over255, over256, every, all, sum, joined, same, amongst}
use Rattle.format.specs.Refusals.{number_of}
use Rattle.format.specs.Items.{◌and_then◌, ◌>>=◌, ◌or◌unless◌, whole, times, up_to, many, item, uint, i2, float, vx, to_zero, string}
use Rattle.format.specs.Chunks.{size_of, length_of, well_formed, chunk_of, reader_of_length, link, split, chunks, sub, unjudged}
use Rattle.format.specs.Surfaces.{lwob_value, lwo2_value, attribute, block_header, block, held, nested, last_of, record_of}
use Rattle.format.specs.Bodies.{point, whole_points, points_body, name, names_after, names_body, lwob_vertices, detail, details, details_after, face, faces_body, patch, patches_body, lwo2_vertices, polygon, polygons_body, pair, tagging_body, surface_strings, surface_body}
use Rattle.format.specs.Rules.{after, when◌read◌, judge, located, walk, kind_of, form, judged, added, standing, retag, polygons_in, mesh_of, outcome, rules}
use Rattle.format.specs.Mesh.{needs}
use Rattle.format.specs.Answer.{fits, answer}
use Rattle.format.specs.Worked.{digit, pairs, hex, case_l}
use Rattle.listing_text.specs.Text.{line_end, digits, decimal, heading, vertex_texts, polygon_line, polygon_lines}
use Rattle.listing_answer.specs.Listing.{need_lines, count_lines, refusal_line, listing, polygons_given}
use Rattle.listing_output.specs.Program.{program_tables, file_listing, printed}

lines : List String → List ℕ
lines texts = joined (map (λ text. spelt text ++ line_end) texts)

table : List (List ℕ × List String)
table =
    (printed case_l, "accepted" ∷ "points 3" ∷ "polygons 1" ∷ "vertices 3" ∷ "names 1" ∷ "name-bytes 3" ∷ "skipped 0" ∷ "details 0" ∷ "polygon 0 kind 1 surface 1 part 0 vertices 0 1 2" ∷ [])
    ∷ (printed (hex "464f524d0000001a4c574f32504e54530000000d0000000000000000000000000000"), "refused 6 at 12" ∷ [])
    ∷ (printed [], "refused 2 at 0" ∷ [])
    ∷ (decimal 65280 ++ line_end, "65280" ∷ [])
    ∷ []

worked : map (λ c. c.0) table ≡ map (λ c. lines c.1) table
unfolding lines table digit pairs hex case_l number finite over255 over256 every all sum joined same amongst number_of ◌and_then◌ ◌>>=◌ ◌or◌unless◌ whole times up_to many item uint i2 float vx to_zero string size_of length_of well_formed chunk_of reader_of_length link split chunks sub unjudged lwob_value lwo2_value attribute block_header block held nested last_of record_of point whole_points points_body name names_after names_body lwob_vertices detail details details_after face faces_body patch patches_body lwo2_vertices polygon polygons_body pair tagging_body surface_strings surface_body after when◌read◌ judge located walk kind_of form judged added standing retag polygons_in mesh_of outcome rules needs fits answer digits decimal need_lines count_lines heading vertex_texts polygon_line polygon_lines refusal_line listing polygons_given program_tables file_listing printed
worked = refl
