-- The tests of `is_mesh` that a function of this crate answers.
use Rattle.std.specs.Prelude.{ℕ, ◌/◌, ◌%◌, List, [], ◌∷◌, Bool, ◌&&◌, leb, eqb, length}
use Rattle.format.specs.Bytes.{every, sum}
use Rattle.format.specs.Limits.{entry_limit}
use Rattle.format.specs.Mesh.{Tables, point_size, polygon_size, record_size}
use Rattle.format.specs.Written.{vertex_counts, whole_entries}

-- `whole_entries`, of which a table's length decides
abbrev pub whole_length : (n length : ℕ) → Bool
whole_length n length = eqb (length % n) 0 && leb (length / n) entry_limit

-- "a table with part of an entry or over 16,777,216 entries"
unfoldable pub whole_tables : Tables → Bool
whole_tables t =
    every
    (whole_entries point_size t.points
    ∷ whole_entries polygon_size t.polygons
    ∷ whole_entries 1 t.vertices
    ∷ whole_entries 1 t.names
    ∷ whole_entries 1 t.name_bytes
    ∷ whole_entries record_size t.records
    ∷ [])

-- "counts that don't agree"
unfoldable pub counts_agree : (polygons vertices names name_bytes records : List ℕ) → Bool
counts_agree polygons vertices names name_bytes records =
    every
    (eqb (sum (vertex_counts polygons)) (length vertices)
    ∷ eqb (sum names) (length name_bytes)
    ∷ eqb (length records / record_size) (length names)
    ∷ [])
