-- A name amongst others: they may be taken in two parts, or by their numbers.
use Rattle.std.specs.Prelude.{if◌then◌else◌}
use Prim.Native.Nat.{ℕ, zero, suc, ◌<◌}
use mathlib.Core.Path.{◌≡◌, refl, sym, ◌∙◌}
use mathlib.Core.List.{List, [], ◌∷◌, ◌++◌}
use mathlib.Core.Bool.{Bool, true, false, ◌||◌}
use native.Mathlib.Omega.{arith}
use lib.ListN.{length, get_or}
use Rattle.format.specs.Bytes.{same, amongst}
use Rattle.format.specs.Mesh.{Name}
use Rattle.format.proofs.SameLists.{same_eq, same_refl}

-- ---- in two parts

pub amongst_append : (x : Name) (ys zs : List Name) → amongst x (ys ++ zs) ≡ (amongst x ys || amongst x zs)
unfolding amongst
amongst_append x [] zs = refl
amongst_append x (y ∷ ys) zs = go (same x y) (amongst_append x ys zs)
  where
    go : (b : Bool) → amongst x (ys ++ zs) ≡ (amongst x ys || amongst x zs)
        → (if b then true else amongst x (ys ++ zs)) ≡ ((if b then true else amongst x ys) || amongst x zs)
    go true later = refl
    go false later = later

pub neither : (x : Name) (ys zs : List Name) → amongst x ys ≡ false → amongst x zs ≡ false → amongst x (ys ++ zs) ≡ false
neither x ys zs f g = rw (amongst_append x ys zs, f) g

pub neither_first : (x : Name) (ys zs : List Name) → amongst x (ys ++ zs) ≡ false → amongst x ys ≡ false
neither_first x ys zs f = go (amongst x ys) (sym (amongst_append x ys zs) ∙ f)
  where
    go : (b : Bool) → (b || amongst x zs) ≡ false → b ≡ false
    go true e = e
    go false e = refl

pub first_there : (x : Name) (ys zs : List Name) → amongst x ys ≡ true → amongst x (ys ++ zs) ≡ true
first_there x ys zs t = rw (amongst_append x ys zs, t)

pub later_there : (x : Name) (ys zs : List Name) → amongst x zs ≡ true → amongst x (ys ++ zs) ≡ true
later_there x ys zs t = rw (amongst_append x ys zs, t) (go (amongst x ys))
  where
    go : (b : Bool) → (b || true) ≡ true
    go true = refl
    go false = refl

-- ---- by their numbers

pub not_amongst : (x : Name) (ns : List Name) → ((k : ℕ) → k < length ns → get_or ns k [] ≡ x → ⊥) → amongst x ns ≡ false
unfolding amongst
not_amongst x [] h = refl
not_amongst x (y ∷ ys) h = go (same x y) refl (not_amongst x ys (λ k l. h (suc k) (omega arith)))
  where
    go : (b : Bool) → same x y ≡ b → amongst x ys ≡ false → (if b then true else amongst x ys) ≡ false
    go true e f = absurd (h 0 (omega arith) (sym (same_eq x y e)))
    go false e f = f

pub is_amongst : (x : Name) (ns : List Name) (k : ℕ) → k < length ns → get_or ns k [] ≡ x → amongst x ns ≡ true
unfolding amongst
is_amongst x [] k l e = absurd (omega arith)
is_amongst x (y ∷ ys) zero l e = rw (e, same_refl x)
is_amongst x (y ∷ ys) (suc k) l e = go (same x y) (is_amongst x ys k (omega arith) e)
  where
    go : (b : Bool) → amongst x ys ≡ true → (if b then true else amongst x ys) ≡ true
    go true t = refl
    go false t = t
