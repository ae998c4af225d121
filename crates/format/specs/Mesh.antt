-- "What the mesh is", and the six tables of words that hold it.
use Rattle.std.specs.Prelude.{ℕ, List, [], ◌∷◌, ◌++◌, map, length, get_or}
use Rattle.format.specs.Bytes.{joined, sum, f32_one}

-- "three f32 bit patterns each, in file order"
pub record Point : Type 0 where
  pub x : ℕ
  pub y : ℕ
  pub z : ℕ

-- "kind (1 face, 2 patch), vertex count, surface number (0 none, else 1 for the first name)"; the vertices are numbers of points. #111: "A polygon gains a fourth
-- number: part name, 0 for none, else counted from 1 in TAGS."
pub record Polygon : Type 0 where
  pub kind : ℕ
  pub surface : ℕ
  pub part_name : ℕ
  pub vertices : List ℕ

-- a polygon is made here alone
abbrev pub polygon_of : (kind surface part_name : ℕ) (vertices : List ℕ) → Polygon
polygon_of kind surface part_name vertices = record { kind = kind; surface = surface; part_name = part_name; vertices = vertices }

abbrev pub FACE : ℕ
FACE = 1

abbrev pub PATCH : ℕ
PATCH = 2

abbrev pub Name : Type 0
Name = List ℕ

-- "One surface record for each name: defined (0 or 1), three colour levels, diffuse, luminosity, specular, reflection, transparency, and sides (1 or 3).
-- The eight levels are f32."
pub record Surface : Type 0 where
  pub defined : ℕ
  pub red : ℕ
  pub green : ℕ
  pub blue : ℕ
  pub diffuse : ℕ
  pub luminosity : ℕ
  pub specular : ℕ
  pub reflection : ℕ
  pub transparency : ℕ
  pub sides : ℕ

pub record Mesh : Type 0 where
  pub points : List Point
  pub polygons : List Polygon
  pub names : List Name
  pub surfaces : List Surface

-- ---- the words of an entry, and the entry that some words are

abbrev pub point_words : Point → List ℕ
point_words p = p.x ∷ p.y ∷ p.z ∷ []

abbrev pub polygon_words : Polygon → List ℕ
polygon_words p = p.kind ∷ length p.vertices ∷ p.surface ∷ p.part_name ∷ []

abbrev pub levels : Surface → List ℕ
levels s = s.red ∷ s.green ∷ s.blue ∷ s.diffuse ∷ s.luminosity ∷ s.specular ∷ s.reflection ∷ s.transparency ∷ []

abbrev pub surface_words : Surface → List ℕ
surface_words s = (s.defined ∷ levels s) ++ (s.sides ∷ [])

-- so many words each
abbrev pub point_size : ℕ
point_size = 3

abbrev pub polygon_size : ℕ
polygon_size = 4

abbrev pub record_size : ℕ
record_size = 10

abbrev pub word : ℕ → List ℕ → ℕ
word i ws = get_or ws i 0

abbrev pub point_from : List ℕ → Point
point_from w = record { x = word 0 w; y = word 1 w; z = word 2 w }

abbrev pub polygon_from : List ℕ → (vertices : List ℕ) → Polygon
polygon_from w vertices = polygon_of (word 0 w) (word 2 w) (word 3 w) vertices

abbrev pub surface_from : List ℕ → Surface
surface_from w = record {
  defined = word 0 w;
  red = word 1 w;
  green = word 2 w;
  blue = word 3 w;
  diffuse = word 4 w;
  luminosity = word 5 w;
  specular = word 6 w;
  reflection = word 7 w;
  transparency = word 8 w;
  sides = word 9 w;
}

-- #105: "The missing colour becomes 1.0, 1.0, 1.0, for SURF chunks without COLR and for names without SURF."
abbrev pub missing_colour : ℕ
missing_colour = f32_one

-- "A name with no SURF has defined 0 and LWO2's missing values", which are "diffuse 1.0, other levels but colour 0, sides 1".
abbrev pub missing : Surface
missing = record {
  defined = 0;
  red = missing_colour;
  green = missing_colour;
  blue = missing_colour;
  diffuse = f32_one;
  luminosity = 0;
  specular = 0;
  reflection = 0;
  transparency = 0;
  sides = 1;
}

-- ---- the tables

pub record Tables : Type 0 where
  pub points : List ℕ
  pub polygons : List ℕ
  pub vertices : List ℕ
  pub names : List ℕ
  pub name_bytes : List ℕ
  pub records : List ℕ

-- six lists taken as the tables
abbrev pub lent : (points polygons vertices names name_bytes records : List ℕ) → Tables
lent points polygons vertices names name_bytes records =
    record { points = points; polygons = polygons; vertices = vertices; names = names; name_bytes = name_bytes; records = records }

-- "Vertices: all polygons' point numbers, joined, counted from the file's first point." "Names: a length each, and their bytes joined, no terminators."
unfoldable pub tables : Mesh → Tables
tables m = record {
  points = joined (map point_words m.points);
  polygons = joined (map polygon_words m.polygons);
  vertices = joined (map (λ p. p.vertices) m.polygons);
  names = map length m.names;
  name_bytes = joined m.names;
  records = joined (map surface_words m.surfaces);
}

-- "five needs (points, polygons, vertices, names, name bytes)": "that mesh's own counts, vertices and name bytes summed over its polygons and names"
pub record Needs : Type 0 where
  pub points : ℕ
  pub polygons : ℕ
  pub vertices : ℕ
  pub names : ℕ
  pub name_bytes : ℕ

unfoldable pub needs : Mesh → Needs
needs m = record {
  points = length m.points;
  polygons = length m.polygons;
  vertices = sum (map (λ p. length p.vertices) m.polygons);
  names = length m.names;
  name_bytes = sum (map length m.names);
}
