-- The text of numbers, of counts and of polygons, as bytes.
use Rattle.std.specs.Prelude.{ℕ, zero, suc, ◌+◌, ◌/◌, ◌%◌, List, [], ◌∷◌, ◌++◌, map, ltb, if◌then◌else◌}
use Rattle.format.specs.Bytes.{spelt, joined}
use Rattle.format.specs.Mesh.{polygon_of, Polygon}

-- ---- numbers and lines

-- the decimal digits of a number, the most significant first, without zeros in front; no more than the last `most` of them
unfoldable pub digits : (most : ℕ) → ℕ → List ℕ
digits zero n = []
digits (suc most) n = (if ltb n 10 then [] else digits most (n / 10)) ++ ((48 + n % 10) ∷ [])

-- A number n has at most n + 1 digits, so that none is left out.
unfoldable pub decimal : ℕ → List ℕ
decimal n = digits (suc n) n

-- a number behind a label
abbrev pub labelled : (label : List ℕ) → ℕ → List ℕ
labelled label n = label ++ decimal n

-- Every line ends with a line feed.
abbrev pub line_end : List ℕ
line_end = 10 ∷ []

abbrev pub count_line : (label : List ℕ) → ℕ → List ℕ
count_line label n = labelled label n ++ line_end

-- ---- polygons

-- "polygon 0 kind 1 surface 1 vertices"; #111: "The listing adds ` part N` before ` vertices`"
unfoldable pub heading : (number kind surface part_name : ℕ) → List ℕ
heading number kind surface part_name =
    labelled (spelt "polygon ") number ++ labelled (spelt " kind ") kind ++ labelled (spelt " surface ") surface ++ labelled (spelt " part ") part_name ++ spelt " vertices"

-- "0 1 2", a blank before each
unfoldable pub vertex_texts : List ℕ → List ℕ
vertex_texts vs = joined (map (labelled (spelt " ")) vs)

unfoldable pub polygon_line : (number : ℕ) → Polygon → List ℕ
polygon_line number p = heading number p.kind p.surface p.part_name ++ vertex_texts p.vertices ++ line_end

-- the line of a polygon by its kind, its surface, its part name and its vertices
abbrev pub line_of : (number kind surface part_name : ℕ) → (vertices : List ℕ) → List ℕ
line_of number kind surface part_name vertices = polygon_line number (polygon_of kind surface part_name vertices)

-- a line a polygon, in order, counted from a number on
unfoldable pub polygon_lines : (number : ℕ) → List Polygon → List ℕ
polygon_lines number [] = []
polygon_lines number (p ∷ ps) = polygon_line number p ++ polygon_lines (suc number) ps
