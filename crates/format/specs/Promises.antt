-- How a contract cites the specification: what a reader says at a place of a slice, what a whole body is judged to be, what a table holds after words were
-- put into it, what polygons are in the tables, and what the parts of a file are. The slice is a chunk's bytes from its tag on, so that an index of it is a
-- place.
use Rattle.std.specs.Prelude.{ℕ, ◌+◌, ◌*◌, ◌≤◌, ◌≡◌, Bool, List, [], ◌++◌, map, eqb, length, take, drop, Result, Ok, Err}
use Rattle.format.specs.declared.Fault.{Fault}
use Rattle.format.specs.declared.Kind.{Kind}
use Rattle.format.specs.declared.Kind.TheVariants.{LWOB, LWO2}
use Rattle.format.specs.Bytes.{tag_number, sum, joined}
use Rattle.format.specs.Items.{Verdict, fine, fault, ◌and_then◌, Got, Reader, give, whole}
use Rattle.format.specs.Chunks.{Chunks, chunks}
use Rattle.format.specs.Mesh.{Polygon, polygon_words, Name}
use Rattle.format.specs.Bodies.{Part, point_list, name_list, polygon_list, tagging, surface, layer, skipped_chunk}
use Rattle.format.specs.Rules.{Before, start, walk, parts_of, names_of}

-- ---- the file's first bytes

-- What an answer on them says. A fault there is at the file's start, so that no place is told with it.
abbrev pub form_as : Result Kind Fault → Verdict Kind
form_as (Ok kind) = fine kind
form_as (Err why) = fault why 0

-- ---- readers

-- read up to the place `next` of `s`
abbrev pub got : {A : Type 0} → (s : List ℕ) → A → (next : ℕ) → Verdict (Got A)
got s a next = fine (record { value = a; next = next; left = drop next s })

-- what a verdict says of a part of the value: the part that the code keeps
abbrev pub keep : {A B : Type 0} → (A → B) → Verdict (Got A) → Verdict (Got B)
keep h v = v and_then λ g. give (h g.value) g.next g.left

abbrev pub itself : {A : Type 0} → A → A
itself a = a

abbrev pub nothing : {A : Type 0} → A → Unit {0}
nothing a = tt

-- `answer` is what the reader says at a place of `s`, of the part `h` of what it reads.
pub record Says {A B : Type 0} (r : Reader A) (h : A → B) (s : List ℕ) (at : ℕ) (answer : Verdict (Got B)) : Type 0 where
  pub is : answer ≡ keep h (r at (drop at s))

-- What was read takes `size` bytes at least: so loops end, and what they count is below the slice's length.
abbrev pub Moves : {A : Type 0} → (size : A → ℕ) → (at : ℕ) → Verdict (Got A) → Type 0
Moves size at (fine g) = at + size g.value ≤ g.next
Moves size at (fault why p) = Unit

abbrev pub taking : {A : Type 0} → ℕ → A → ℕ
taking n a = n

-- so many entries of k bytes
abbrev pub each : (k n : ℕ) → ℕ
each k n = n * k

-- a name and its terminator
abbrev pub name_size : List ℕ → ℕ
name_size n = length n + 1

pub record Keeps {A B : Type 0} (r : Reader A) (h : A → B) (size : B → ℕ) (s : List ℕ) (at : ℕ) (answer : Verdict (Got B)) : Type 0 where
  pub says : Says r h s at answer
  pub moves : Moves size at answer

-- all of the value is kept
abbrev pub ReadsAt : {A : Type 0} → Reader A → (size : A → ℕ) → List ℕ → ℕ → Verdict (Got A) → Type 0
ReadsAt r size s at answer = Keeps r itself size s at answer

-- ---- bodies

-- `answer` is what a body, from the place `start` of `s` to its end, is judged to be, of the part `h` of what it holds. Its header's place is `header`.
pub record JudgedAt {A B : Type 0} (header start : ℕ) (r : Reader A) (h : A → B) (s : List ℕ) (answer : Verdict B) : Type 0 where
  pub is : answer ≡ (whole header r start (drop start s) and_then λ a. fine (h a))

-- a top-level chunk's body
abbrev pub Judged : {A B : Type 0} → Reader A → (A → B) → List ℕ → Verdict B → Type 0
Judged r h s answer = JudgedAt 0 8 r h s answer

-- the polygons that a part lists; their vertices count from the first of the latest points
unfoldable pub polygons_listed : Part → List Polygon
polygons_listed (point_list ps) = []
polygons_listed (name_list ns) = []
polygons_listed (polygon_list ps n) = ps
polygons_listed (tagging t ts) = []
polygons_listed (surface s) = []
polygons_listed layer = []
polygons_listed skipped_chunk = []

-- a verdict that is fine
pub record Succeeds {A : Type 0} (v : Verdict A) : Type 0 where
  pub value : A
  pub is : v ≡ fine value

-- ---- tables

-- the words ws stand in the table from the index m on, and the rest of it is unchanged
pub record Put (table : List ℕ) (m : ℕ) (ws table' : List ℕ) : Type 0 where
  pub put : table' ≡ take m table ++ ws ++ drop (m + length ws) table

-- polygons as the tables of polygons and of vertices hold them, and how many vertices they have
abbrev pub polygons_words : List Polygon → List ℕ
polygons_words ps = joined (map polygon_words ps)

abbrev pub polygons_vertices : List Polygon → List ℕ
polygons_vertices ps = joined (map (λ p. p.vertices) ps)

abbrev pub vertex_total : List Polygon → ℕ
vertex_total ps = sum (map (λ p. length p.vertices) ps)

-- ---- bytes

-- how many bytes some elements are written as
abbrev pub total : {A B : Type 0} → (A → List B) → List A → ℕ
total f xs = length (joined (map f xs))

-- ---- files

-- the parts of some chunks, without their places
unfoldable pub walk_parts : Kind → Before → (place : ℕ) → Chunks → Verdict (List Part)
walk_parts kind b place cs = walk kind b place cs and_then λ ps. fine (parts_of ps)

-- the parts of a file, whose first chunk follows its twelve bytes of header
abbrev pub file_parts : Kind → (file : List ℕ) → Verdict (List Part)
file_parts kind file = walk_parts kind start 12 (chunks (drop 12 file))

-- the file was judged fine, and a table has room for the words of its parts
pub record FileRoom (words : List Part → List ℕ) (kind : Kind) (file table : List ℕ) : Type 0 where
  pub parts : List Part
  pub sound : file_parts kind file ≡ fine parts
  pub fits : length (words parts) ≤ length table

-- these words stand in the table from its front on, and the rest of it is unchanged
pub record FilePut (words : List Part → List ℕ) (kind : Kind) (file table table' : List ℕ) : Type 0 where
  pub put : (parts : List Part) → file_parts kind file ≡ fine parts → Put table 0 (words parts) table'

-- the tag of the chunk that holds the names: SRFS in LWOB, TAGS in LWO2
abbrev pub names_tag : Kind → (tag : ℕ) → Bool
names_tag LWOB t = eqb t (tag_number "SRFS")
names_tag LWO2 t = eqb t (tag_number "TAGS")

-- the names of a file
abbrev pub names_of_parts : List Part → List Name
names_of_parts parts = joined (map names_of parts)
