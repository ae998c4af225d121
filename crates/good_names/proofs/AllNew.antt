-- Names that are new: after others they are new where none is one of these, and they are new by themselves.
use mathlib.Core.Path.{◌≡◌, refl}
use mathlib.Core.List.{List, [], ◌∷◌, ◌++◌, append_assoc, append-nil}
use mathlib.Core.Bool.{Bool, true, false, not, ◌&&◌, ◌||◌, and_comm}
use lib.Dec.{leb}
use lib.ListN.{length}
use Rattle.format.specs.Bytes.{all, amongst}
use Rattle.format.specs.Limits.{name_limit}
use Rattle.format.specs.Mesh.{Name}
use Rattle.format.specs.Written.{has_no_zero, good_names}
use Rattle.format.proofs.AmongstNames.{amongst_append}
use Rattle.format.proofs.Facts.{in_pairs}
use Rattle.name_index.specs.Index.{new_to, all_new}
use Rattle.good_entries.specs.Entries.{own_name, good_name}

-- ---- good names are good each by itself, and new

pub own_and_new : (es : List Name) (x : Name) → good_name es x ≡ (own_name x && new_to es x)
own_and_new es x = go (leb (length x) name_limit) (new_to es x) (has_no_zero x)
  where
    go : (a b c : Bool) → ((a && b) && c) ≡ ((a && c) && b)
    go true b c = and_comm b c
    go false b c = refl

pub all_own_and_new : (es xs : List Name) → good_names es xs ≡ (all own_name xs && all_new es xs)
unfolding good_names all all_new
all_own_and_new es [] = refl
all_own_and_new es (x ∷ xs) =
    rw (own_and_new es x, all_own_and_new (es ++ (x ∷ [])) xs) (in_pairs (own_name x) (new_to es x) (all own_name xs) (all_new (es ++ (x ∷ [])) xs))

-- ---- names after others

new_to_both : (es ds : List Name) (x : Name) → new_to (es ++ ds) x ≡ (new_to es x && new_to ds x)
new_to_both es ds x = rw (amongst_append x es ds) (go (amongst x es) (amongst x ds))
  where
    go : (a b : Bool) → not (a || b) ≡ (not a && not b)
    go true b = refl
    go false b = refl

after_both : (es ds xs : List Name) → all_new (es ++ ds) xs ≡ (all (new_to es) xs && all_new ds xs)
unfolding all_new all
after_both es ds [] = refl
after_both es ds (x ∷ xs) =
    rw (new_to_both es ds x, append_assoc es ds (x ∷ []), after_both es (ds ++ (x ∷ [])) xs)
    (in_pairs (new_to es x) (new_to ds x) (all (new_to es) xs) (all_new (ds ++ (x ∷ [])) xs))

pub after_others : (es xs : List Name) → all_new es xs ≡ (all (new_to es) xs && all_new [] xs)
after_others es xs = rw append-nil at (after_both es [] xs)
