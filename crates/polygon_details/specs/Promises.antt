-- The details of a face, by the sign of its surface number.
use Rattle.std.specs.Prelude.{ℕ, Bool, if◌then◌else◌}
use Rattle.format.specs.Items.{Reader, give}
use Rattle.format.specs.Bodies.{details}

-- the details that follow a surface number, by its sign alone
abbrev pub details_if : (negative : Bool) (point_count name_count : ℕ) → Reader ℕ
details_if negative point_count name_count = if negative then details point_count name_count else give 0
