-- The tests of one entry that a function of this crate answers.
use Rattle.std.specs.Prelude.{ℕ, List, [], ◌∷◌, Bool, ◌&&◌, leb, length}
use Rattle.format.specs.Bytes.{between, every}
use Rattle.format.specs.Limits.{lwo2_vertex_limit, name_limit}
use Rattle.format.specs.Mesh.{Name, FACE, PATCH}
use Rattle.format.specs.Bodies.{new_name}
use Rattle.format.specs.Written.{good_tag, has_no_zero}

-- what `good_polygon` asks of the words of an entry
abbrev pub good_entry : (name_count kind count surface part_name : ℕ) → Bool
good_entry name_count kind count surface part_name =
    every (between FACE PATCH kind ∷ between 1 lwo2_vertex_limit count ∷ good_tag name_count surface ∷ good_tag name_count part_name ∷ [])

-- what is asked of a name whatever the others are
abbrev pub own_name : Name → Bool
own_name n = leb (length n) name_limit && has_no_zero n

-- one name's part of `good_names`
abbrev pub good_name : (earlier : List Name) → Name → Bool
good_name earlier n = new_name earlier n && has_no_zero n
