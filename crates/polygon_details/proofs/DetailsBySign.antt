-- The sign of a surface number alone tells of details, and their count is the one that was read.
use mathlib.Core.Path.{◌≡◌, refl}
use mathlib.Core.List.{List}
use Prim.Native.Nat.{ℕ}
use lib.IntN.{ℤ}
use lib.ListN.{length}
use Rattle.format.specs.Items.{Verdict, Got, Reader, ◌>>=◌, give, times}
use Rattle.format.specs.Bodies.{details_after}
use Rattle.format.specs.Promises.{itself, each, Says, Keeps, ReadsAt}
use Rattle.format.proofs.ReaderSteps.{on_some, off, given}
use Rattle.format.proofs.Entries.{how_many}
use Rattle.std.specs.Prelude.{Result, Ok, Err}
use Rattle.wire.specs.declared.Refusal.{Refusal}
use Rattle.wire.specs.declared.cursor.Cursor.{Cursor}
use Rattle.wire.specs.declared.cursor.SignedSurface.{SignedSurface}
use Rattle.wire.specs.Promises.{signed_surface_of, read_as}
use Rattle.polygon_vertices.proofs.SignedSurfaces.{has_sign}
use Rattle.polygon_details.specs.Promises.{details_if}

-- so many entries, of which the number is what was asked for
pub asked : {A : Type 0} (r : Reader A) (n k : ℕ) {s : List ℕ} {at : ℕ} (answer : Result (ℕ × Cursor) Refusal) → Keeps (times n r) length (each k) s at (read_as s answer)
    → ReadsAt (times n r >>= (λ xs. give n)) (each k) s at (read_as s answer)
asked r n k (Ok got) w = record { says = on_some _ w.says (λ xs e. given (how_many r n w.says)); moves = w.moves }
asked r n k (Err f) w = record { says = off _ w.says; moves = tt }

-- the details that follow a surface number are those that its sign tells of
pub by_sign : (point_count name_count : ℕ) {x : SignedSurface} {s : List ℕ} {at : ℕ} {answer : Verdict (Got ℕ)} (z : ℤ) → signed_surface_of z ≡ x
    → Says (details_if x.negative point_count name_count) itself s at answer
    → Says (details_after point_count name_count z) itself s at answer
unfolding details_after
by_sign point_count name_count z e w = rw (has_sign z e refl) w
