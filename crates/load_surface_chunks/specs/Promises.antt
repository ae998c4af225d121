-- SURFs stored at the listed names that are equal to theirs.
use Rattle.std.specs.Prelude.{ℕ, ◌*◌, ◌≤◌, ◌≡◌, Option, Some, None, length, take, drop, if◌then◌else◌}
use Rattle.std.specs.Borrow.{Bor}
use mathlib.Core.List.{List, [], ◌∷◌, ◌++◌, map, foldl}
use Rattle.format.specs.declared.Kind.{Kind}
use Rattle.format.specs.Bytes.{sum, joined, same}
use Rattle.format.specs.Items.{fine}
use Rattle.format.specs.Mesh.{Name, Surface, surface_words, record_size}
use Rattle.format.specs.Surfaces.{record_of}
use Rattle.format.specs.Bodies.{Part, SurfaceChunk}
use Rattle.format.specs.Rules.{Before, judge, surfaces_of}
use Rattle.format.specs.Written.{pieces}
use Rattle.format.specs.Promises.{file_parts}
use Rattle.name_index.specs.declared.NameIndex.{NameIndex}
use Rattle.name_index.specs.Index.{Different}
use Rattle.name_index.specs.NameIndex.{IsIndex, names_in}

-- ---- the records, one for each listed name

-- the table with a surface as the record of each listed name that is equal to `name`
unfoldable pub with_record : (name : Name) → Surface → (listed : List Name) → List ℕ → List ℕ
with_record name s [] table = table
with_record name s (n ∷ ns) table = (if same n name then surface_words s else take record_size table) ++ with_record name s ns (drop record_size table)

-- the table after some SURFs, of which the last of a name stands
abbrev pub with_surfaces : Kind → (listed : List Name) → List SurfaceChunk → List ℕ → List ℕ
with_surfaces kind listed ss table = foldl (λ now s. with_record s.name (record_of kind s.values) listed now) table ss

-- the lengths cut names from the bytes, and there is a record for each
pub record ListedRoom (lengths bytes records : List ℕ) : Type 0 where
  pub inside : sum lengths ≤ length bytes
  pub fits : length lengths * record_size ≤ length records

-- an index of the listed names, which are all different
pub record Indexed (lengths bytes : List ℕ) (x : NameIndex) : Type 0 where
  pub index : IsIndex x
  pub are : names_in x ≡ pieces lengths bytes
  pub different : Different (pieces lengths bytes)

abbrev pub MayBeIndexed : (lengths bytes : List ℕ) → Option (Bor NameIndex) → Type 0
MayBeIndexed lengths bytes (Some x) = Indexed lengths bytes x.now
MayBeIndexed lengths bytes None = Unit

-- the chunk was judged fine
pub record ChunkSound (kind : Kind) (tag : ℕ) (s : List ℕ) : Type 0 where
  pub before : Before
  pub part : Part
  pub sound : judge kind before tag (drop 8 s) ≡ fine part

-- the records after it
pub record SurfacesPut (kind : Kind) (tag : ℕ) (s lengths bytes records records' : List ℕ) : Type 0 where
  pub put : (before : Before) (part : Part) → judge kind before tag (drop 8 s) ≡ fine part
      → records' ≡ with_surfaces kind (pieces lengths bytes) (surfaces_of part) records

-- ---- the file

-- the records after all SURFs of the file
pub record AllPut (kind : Kind) (file lengths bytes records records' : List ℕ) : Type 0 where
  pub put : (parts : List Part) → file_parts kind file ≡ fine parts
      → records' ≡ with_surfaces kind (pieces lengths bytes) (joined (map surfaces_of parts)) records
