-- What a body that is fine, and a file that was judged fine, put into the tables of points and names.
use Rattle.std.specs.Prelude.{ℕ, ◌+◌, ◌≤◌, ◌≡◌, List, map, length, drop}
use Rattle.format.specs.declared.Kind.{Kind}
use Rattle.format.specs.Bytes.{joined}
use Rattle.format.specs.Items.{fine, whole}
use Rattle.format.specs.Mesh.{Point, point_words, Name}
use Rattle.format.specs.Bodies.{Part, point_list, name_list, points_body, names_body}
use Rattle.format.specs.Rules.{Before, judge, points_of}
use Rattle.format.specs.Promises.{Put, names_of_parts}

-- ---- points

-- the body is fine in a file of some kind, and the table has room for its points
pub record PointsRoom (s table : List ℕ) (m : ℕ) : Type 0 where
  pub kind : Kind
  pub listed : List Point
  pub sound : whole 0 (points_body kind) 8 (drop 8 s) ≡ fine (point_list listed)
  pub fits : m + length (joined (map point_words listed)) ≤ length table

-- the points of the body, whatever the kind of file, stand in the table from the index m on
pub record PointsPut (s table : List ℕ) (m : ℕ) (table' : List ℕ) : Type 0 where
  pub put : (kind : Kind) (ps : List Point) → whole 0 (points_body kind) 8 (drop 8 s) ≡ fine (point_list ps) → Put table m (joined (map point_words ps)) table'

-- the words of the points of a part, and of a file
abbrev pub part_points : Part → List ℕ
part_points part = joined (map point_words (points_of part))

abbrev pub file_points : List Part → List ℕ
file_points parts = joined (map part_points parts)

-- a chunk was judged fine, and the table has room for its points
pub record ChunkRoom (kind : Kind) (tag : ℕ) (s table : List ℕ) (m : ℕ) : Type 0 where
  pub before : Before
  pub part : Part
  pub sound : judge kind before tag (drop 8 s) ≡ fine part
  pub fits : m + length (part_points part) ≤ length table

-- they stand in the table from the index m on, up to the index `next`
pub record ChunkPut (kind : Kind) (tag : ℕ) (s table : List ℕ) (m : ℕ) (table' : List ℕ) (next : ℕ) : Type 0 where
  pub put : (before : Before) (part : Part) → judge kind before tag (drop 8 s) ≡ fine part → Put table m (part_points part) table'
  pub next_is : (before : Before) (part : Part) → judge kind before tag (drop 8 s) ≡ fine part → next ≡ m + length (part_points part)

-- ---- names

-- the lengths of a file's names, and their bytes
abbrev pub file_name_lengths : List Part → List ℕ
file_name_lengths parts = map length (names_of_parts parts)

abbrev pub file_name_bytes : List Part → List ℕ
file_name_bytes parts = joined (names_of_parts parts)

-- the body is fine, and the tables have room for its names
pub record NamesRoom (s lengths : List ℕ) (k : ℕ) (bytes : List ℕ) (b : ℕ) : Type 0 where
  pub listed : List Name
  pub sound : whole 0 names_body 8 (drop 8 s) ≡ fine (name_list listed)
  pub lengths_fit : k + length listed ≤ length lengths
  pub bytes_fit : b + length (joined listed) ≤ length bytes

-- a length each from the index k on, and the bytes joined from the index b on
pub record NamesPut (s lengths : List ℕ) (k : ℕ) (lengths' bytes : List ℕ) (b : ℕ) (bytes' : List ℕ) : Type 0 where
  pub put_lengths : (ns : List Name) → whole 0 names_body 8 (drop 8 s) ≡ fine (name_list ns) → Put lengths k (map length ns) lengths'
  pub put_bytes : (ns : List Name) → whole 0 names_body 8 (drop 8 s) ≡ fine (name_list ns) → Put bytes b (joined ns) bytes'
