-- Names of which each is new after those before it are all different, and so are those at their front and those after them.
use Rattle.std.specs.Prelude.{if◌then◌else◌}
use mathlib.Core.Path.{◌≡◌, refl}
use mathlib.Core.List.{List, [], ◌∷◌, ◌++◌}
use mathlib.Core.Bool.{Bool, true, false, false≢true, and-eq-true_iff}
use Rattle.format.specs.Bytes.{same, amongst}
use Rattle.format.specs.Mesh.{Name}
use Rattle.format.proofs.AmongstNames.{first_there, later_there, neither_first}
use Rattle.format.proofs.SameLists.{same_eq, same_refl}
use Rattle.name_index.specs.Index.{new_to, all_new, Different, no_name, and_name}

apart : (earlier ns : List Name) (x : Name) → all_new earlier ns ≡ true → amongst x earlier ≡ true → amongst x ns ≡ false
unfolding all_new amongst
apart earlier [] x e there = refl
apart earlier (n ∷ ns) x e there =
    let two = (and-eq-true_iff (new_to earlier n) (all_new (earlier ++ (n ∷ [])) ns)).0 e in
    go (same x n) refl two.0 (apart (earlier ++ (n ∷ [])) ns x two.1 (first_there x earlier (n ∷ []) there))
  where
    go : (b : Bool) → same x n ≡ b → new_to earlier n ≡ true → amongst x ns ≡ false → (if b then true else amongst x ns) ≡ false
    go true s new later = absurd (false≢true (rw (← same_eq x n s, there) at new))
    go false s new later = later

pub different : (earlier ns : List Name) → all_new earlier ns ≡ true → Different ns
unfolding all_new
different earlier [] e = no_name
different earlier (n ∷ ns) e =
    let rest = ((and-eq-true_iff (new_to earlier n) (all_new (earlier ++ (n ∷ [])) ns)).0 e).1 in
    and_name (apart (earlier ++ (n ∷ [])) ns n rest (later_there n earlier (n ∷ []) own)) (different (earlier ++ (n ∷ [])) ns rest)
  where
    own : amongst n (n ∷ []) ≡ true
    own = unfold amongst in rw (same_refl n)

-- those at the front, and those after them
pub front_different : (xs ys : List Name) → Different (xs ++ ys) → Different xs
front_different [] ys d = no_name
front_different (x ∷ xs) ys (and_name new d) = and_name (neither_first x xs ys new) (front_different xs ys d)

pub rest_different : (xs ys : List Name) → Different (xs ++ ys) → Different ys
rest_different [] ys d = d
rest_different (x ∷ xs) ys (and_name new d) = rest_different xs ys d
