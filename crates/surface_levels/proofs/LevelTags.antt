-- Of five tags in a table, the first that is equal names its level, and a tag that is none of them names no level.
use mathlib.Core.Path.{◌≡◌, refl, sym}
use mathlib.Core.Bool.{Bool, true, false, cond}
use mathlib.Core.List.{List, [], ◌∷◌, map}
use Prim.Native.Nat.{ℕ}
use lib.Dec.{eqb}
use borrow.Author.Tests.{eqb-true, eqb-false}
use Rattle.std.specs.Prelude.{Option, Some}
use Rattle.std.specs.List.{find}
use Rattle.std.specs.Option.{option_map}
use Rattle.surface_levels.specs.declared.shading.Shading.{Shading}
use Rattle.surface_levels.specs.Promises.{NamedBy}

none : {tag : ℕ} (tag_of : Shading → ℕ) → (tag ≡ tag_of Shading.Luminosity → ⊥) → (tag ≡ tag_of Shading.Diffuse → ⊥) → (tag ≡ tag_of Shading.Specular → ⊥)
    → (tag ≡ tag_of Shading.Reflection → ⊥) → (tag ≡ tag_of Shading.Transparency → ⊥) → (w : Shading) → tag ≡ tag_of w → ⊥
none tag_of l d s r t Shading.Luminosity = l
none tag_of l d s r t Shading.Diffuse = d
none tag_of l d s r t Shading.Specular = s
none tag_of l d s r t Shading.Reflection = r
none tag_of l d s r t Shading.Transparency = t

-- what stands in a table
abbrev entry : (Shading → ℕ) → Shading → ℕ × Shading
entry tag_of w = (tag_of w, w)

abbrev among : ℕ → List (ℕ × Shading) → Option Shading
among tag table = option_map (λ e. e.1) (find (λ e. eqb e.0 tag) table)

module _ (tag : ℕ) (tag_of : Shading → ℕ) where
  first : (w : Shading) (others : List (ℕ × Shading)) → ((tag ≡ tag_of w → ⊥) → NamedBy tag_of tag (among tag others)) → NamedBy tag_of tag (among tag (entry tag_of w ∷ others))
  first w others past = go (eqb (tag_of w) tag) refl
    where
      go : (b : Bool) → eqb (tag_of w) tag ≡ b → NamedBy tag_of tag (option_map (λ (e : ℕ × Shading). e.1) (cond b (Some (entry tag_of w)) (find (λ e. eqb e.0 tag) others)))
      go true e = sym (eqb-true (tag_of w) tag e)
      go false e = past (λ q. eqb-false (tag_of w) tag e (sym q))

  pub named : NamedBy tag_of tag (among tag (map (entry tag_of)
      (Shading.Luminosity ∷ Shading.Diffuse ∷ Shading.Specular ∷ Shading.Reflection ∷ Shading.Transparency ∷ [])))
  named =
      let r = Shading.Reflection ∷ Shading.Transparency ∷ [] in
      first Shading.Luminosity (map (entry tag_of) (Shading.Diffuse ∷ Shading.Specular ∷ r)) (λ l.
      first Shading.Diffuse (map (entry tag_of) (Shading.Specular ∷ r)) (λ d.
      first Shading.Specular (map (entry tag_of) r) (λ s.
      first Shading.Reflection (map (entry tag_of) (Shading.Transparency ∷ [])) (λ r.
      first Shading.Transparency [] (λ t. none tag_of l d s r t)))))
