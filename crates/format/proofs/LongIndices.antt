-- The long form of an index below 65,280 is refused in every body that has an index: after a cut, and before 9, 11 and bytes left over. Bodies begin at 8.
use mathlib.Core.Path.{◌≡◌, refl}
use mathlib.Core.List.{[], ◌∷◌, map}
use Rattle.format.specs.declared.Fault.TheVariants.{ItemCut, LongIndex, VertexNumber, PolygonNumber}
use Rattle.format.specs.Bytes.{tag_number, number, finite, all, joined}
use Rattle.format.specs.Items.{fine, fault, ◌and_then◌, ◌>>=◌, ◌or◌unless◌, whole, times, up_to, many, item, uint, float, vx}
use Rattle.format.specs.Chunks.{unjudged}
use Rattle.format.specs.Surfaces.{lwo2_value}
use Rattle.format.specs.Bodies.{tagging, lwo2_vertices, polygon, polygons_body, pair, tagging_body}
use Rattle.format.specs.Worked.{digit, pairs, hex}

-- POLS, where there is one point: a vertex that is cut, the points 7 and 0, the second of two vertices of a patch, and 65,280
pub vertices_judged : map (λ s. whole 0 (polygons_body 1) 8 (hex s))
    ("464143450001ff00" ∷ "464143450001ff000007" ∷ "464143450001ff000000" ∷ "5054434800020000ff000000" ∷ "464143450001ff00ff00" ∷ [])
    ≡ fault ItemCut 14 ∷ fault LongIndex 14 ∷ fault LongIndex 14 ∷ fault LongIndex 16 ∷ fault VertexNumber 14 ∷ []
unfolding digit pairs hex number ◌and_then◌ ◌>>=◌ ◌or◌unless◌ whole times up_to many item uint vx lwo2_vertices polygon polygons_body
vertices_judged = refl

-- PTAG, where there is one polygon and one name: a polygon that is cut, the polygons 7 and 0, the second of two, and 65,280; and a PTAG of another type
pub taggings_judged : map (λ s. whole 0 (tagging_body 1 1) 8 (hex s))
    ("53555246ff0000" ∷ "53555246ff0000070000" ∷ "53555246ff0000000000" ∷ "5355524600000000ff0000000000" ∷ "53555246ff00ff000000" ∷ "534d4750ff0000000000" ∷ [])
    ≡ fault ItemCut 12 ∷ fault LongIndex 12 ∷ fault LongIndex 12 ∷ fault LongIndex 16 ∷ fault PolygonNumber 12 ∷ fine (tagging (tag_number "SMGP") []) ∷ []
unfolding digit pairs hex number all joined ◌and_then◌ ◌>>=◌ ◌or◌unless◌ whole up_to many item uint vx unjudged pair tagging_body
taggings_judged = refl

-- the envelope of each level of a SURF, behind a float that begins at 18
pub levels_judged : map (λ tag. whole 12 (lwo2_value (tag_number tag)) 18 (hex "00000000ff000000")) ("DIFF" ∷ "LUMI" ∷ "SPEC" ∷ "REFL" ∷ "TRAN" ∷ [])
    ≡ fault LongIndex 22 ∷ fault LongIndex 22 ∷ fault LongIndex 22 ∷ fault LongIndex 22 ∷ fault LongIndex 22 ∷ []
unfolding digit pairs hex number finite all ◌and_then◌ ◌>>=◌ ◌or◌unless◌ whole item uint float vx lwo2_value
levels_judged = refl

-- the envelope of a colour: 65,279, with and without bytes left over, and one that is cut
pub colours_judged : map (λ s. whole 12 (lwo2_value (tag_number "COLR")) 18 (hex s))
    ("000000000000000000000000ff00feff" ∷ "000000000000000000000000ff00feff0000" ∷ "000000000000000000000000ff00" ∷ [])
    ≡ fault LongIndex 30 ∷ fault LongIndex 30 ∷ fault ItemCut 30 ∷ []
unfolding digit pairs hex number finite all ◌and_then◌ ◌>>=◌ ◌or◌unless◌ whole item uint float vx lwo2_value
colours_judged = refl
