-- "The missing colour becomes 1.0, 1.0, 1.0", of every SURF without COLR, of every name without SURF, and of every record that a mesh may have for one: a last
-- value that is not there leaves what stood before.
use Prim.Native.Nat.{ℕ}
use Prim.Native.String.{String}
use mathlib.Core.Path.{◌≡◌, refl, sym, ap}
use mathlib.Core.List.{List, [], ◌∷◌, map}
use mathlib.Core.Option.{none}
use mathlib.Core.Bool.{Bool, true, false, not}
use lib.Dec.{eqb}
use borrow.Author.Tests.{not-true}
use Rattle.format.specs.declared.Kind.{Kind}
use Rattle.format.specs.declared.Kind.TheVariants.{LWOB, LWO2}
use Rattle.format.specs.Bytes.{◌is◌, all, same}
use Rattle.format.specs.Mesh.{Surface, missing_colour, missing, surface_words, surface_from}
use Rattle.format.specs.Surfaces.{Value, last_of, record_of}
use Rattle.format.specs.Rules.{record_for}
use Rattle.format.specs.Written.{good_surface}
use Rattle.format.proofs.Facts.{every_at, all_first, all_rest}
use Rattle.format.proofs.SameLists.{same_eq}

abbrev colour : Surface → List ℕ
colour s = s.red ∷ s.green ∷ s.blue ∷ []

-- the bits of 1.0
abbrev ones : List ℕ
ones = 0x3F80_0000 ∷ 0x3F80_0000 ∷ 0x3F80_0000 ∷ []

abbrev without : (tag : String) → Value → Bool
without tag v = not (v.tag is tag)

last_without : (tag : String) (vs : List Value) (i now : ℕ) → all (without tag) vs ≡ true → last_of vs tag i now ≡ now
unfolding last_of
last_without tag [] i now e = refl
last_without tag (v ∷ vs) i now e =
    rw (not-true (v.tag is tag) (all_first (without tag) v vs e)) (last_without tag vs i now (all_rest (without tag) v vs e))

levels_without : (vs : List Value) → all (without "COLR") vs ≡ true → map (λ i. last_of vs "COLR" i missing_colour) (0 ∷ 1 ∷ 2 ∷ []) ≡ ones
levels_without vs e = rw (last_without "COLR" vs 0 missing_colour e, last_without "COLR" vs 1 missing_colour e, last_without "COLR" vs 2 missing_colour e)

-- "for SURF chunks without COLR", of either kind of file
pub colour_without_colr : (kind : Kind) (vs : List Value) → all (without "COLR") vs ≡ true → colour (record_of kind vs) ≡ ones
unfolding record_of
colour_without_colr LWOB vs e = levels_without vs e
colour_without_colr LWO2 vs e = levels_without vs e

-- "and for names without SURF"
pub colour_without_surf : (kind : Kind) → colour (record_for kind none) ≡ ones
colour_without_surf kind = refl

-- a record that is not defined is the missing one
pub undefined_missing : (s : Surface) → good_surface s ≡ true → eqb s.defined 1 ≡ false → missing ≡ s
unfolding good_surface
undefined_missing s ok e =
    let words : same (surface_words s) (surface_words missing) ≡ true = rw e at (every_at _ 3 ok) in
    sym (ap surface_from (same_eq (surface_words s) (surface_words missing) words))

-- the writer "now takes 1.0, so a kept table with the old one is 17"
pub colour_undefined : (s : Surface) → good_surface s ≡ true → eqb s.defined 1 ≡ false → colour s ≡ ones
colour_undefined s ok e = ap colour (sym (undefined_missing s ok e))
