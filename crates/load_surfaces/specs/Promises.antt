-- The surface records that stand at the listed names of a file.
use Rattle.std.specs.Prelude.{ℕ, ◌*◌, ◌≤◌, ◌≡◌, length}
use mathlib.Core.List.{List, ◌++◌, map}
use Rattle.std.proofs.Math.Option.{none}
use Rattle.format.specs.declared.Kind.{Kind}
use Rattle.format.specs.Bytes.{joined}
use Rattle.format.specs.Items.{fine}
use Rattle.format.specs.Mesh.{Surface, surface_words, record_size}
use Rattle.format.specs.Bodies.{Part}
use Rattle.format.specs.Rules.{surfaces_of, standing, record_for}
use Rattle.format.specs.Promises.{file_parts, names_of_parts}

-- ---- the file

-- for each name, the record of the SURF that stands for it
abbrev pub all_surfaces : Kind → List Part → List Surface
all_surfaces kind parts = map (λ n. record_for kind (standing n none (joined (map surfaces_of parts)))) (names_of_parts parts)

abbrev pub file_records : Kind → List Part → List ℕ
file_records kind parts = joined (map surface_words (all_surfaces kind parts))

-- the file was judged fine, its names stand at the front of their two tables, and there is a record for each
pub record RecordsRoom (kind : Kind) (file : List ℕ) (name_count : ℕ) (lengths bytes records : List ℕ) : Type 0 where
  pub parts : List Part
  pub sound : file_parts kind file ≡ fine parts
  pub names_are : name_count ≡ length (names_of_parts parts)
  pub more_lengths : List ℕ
  pub lengths_hold : lengths ≡ map length (names_of_parts parts) ++ more_lengths
  pub more_bytes : List ℕ
  pub bytes_hold : bytes ≡ joined (names_of_parts parts) ++ more_bytes
  pub fits : name_count * record_size ≤ length records
