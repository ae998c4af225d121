-- What a tag keeps of one polygon, the tags of a PTAG keep of all: each changes one number of one polygon. New point numbers keep how many there are.
use Rattle.std.specs.Prelude.{if◌then◌else◌}
use Prim.Native.Nat.{ℕ, zero, suc, ◌+◌}
use mathlib.Core.Path.{◌≡◌, refl, sym, ap, ◌∙◌}
use mathlib.Core.List.{List, [], ◌∷◌, map}
use mathlib.Core.Bool.{Bool, true, false}
use native.Mathlib.Omega.{arith}
use lib.ListN.{length, length-map}
use Rattle.format.specs.Bytes.{◌is◌, sum}
use Rattle.format.specs.Mesh.{Polygon, polygon_of}
use Rattle.format.specs.Rules.{with_tag, retag, tagged, from}

-- A tag gives a polygon another surface, another part name, or nothing: what is true in each case is true with the tag.
pub tag_cases : (P : Polygon → Type 0) (type n : ℕ) (p : Polygon) → P (polygon_of p.kind n p.part_name p.vertices)
    → P (polygon_of p.kind p.surface n p.vertices) → P p → P (with_tag type n p)
tag_cases P type n p of_surface of_part of_others = by (type is "SURF") (type is "PART")
  where
    by : (a b : Bool) → P (if a then polygon_of p.kind n p.part_name p.vertices else if b then polygon_of p.kind p.surface n p.vertices else p)
    by true b = of_surface
    by false true = of_part
    by false false = of_others

pub tag_vertices : (type n : ℕ) (p : Polygon) → (with_tag type n p).vertices ≡ p.vertices
tag_vertices type n p = tag_cases (λ q. q.vertices ≡ p.vertices) type n p refl refl refl

module _ {A : Type 0} (f : Polygon → A) (type : ℕ) (kept : (n : ℕ) (p : Polygon) → f (with_tag type n p) ≡ f p) where
  retag_keeps : (i n : ℕ) (ps : List Polygon) → map f (retag type i n ps) ≡ map f ps
  unfolding retag
  retag_keeps i n [] = refl
  retag_keeps zero n (p ∷ ps) = ap (λ x. x ∷ map f ps) (kept n p)
  retag_keeps (suc i) n (p ∷ ps) = ap (λ xs. f p ∷ xs) (retag_keeps i n ps)

  pub tagged_keeps : (ts : List (ℕ × ℕ)) (ps : List Polygon) → map f (tagged ps type ts) ≡ map f ps
  tagged_keeps [] ps = refl
  tagged_keeps (t ∷ ts) ps = tagged_keeps ts (retag type t.0 t.1 ps) ∙ retag_keeps t.0 t.1 ps

pub tagged_vertices : (type : ℕ) (ts : List (ℕ × ℕ)) (ps : List Polygon) → map (λ p. p.vertices) (tagged ps type ts) ≡ map (λ p. p.vertices) ps
tagged_vertices type ts ps = tagged_keeps (λ p. p.vertices) type (tag_vertices type) ts ps

-- how many vertices each has
pub tagged_counts : (type : ℕ) (ts : List (ℕ × ℕ)) (ps : List Polygon)
    → map (λ p. length p.vertices) (tagged ps type ts) ≡ map (λ p. length p.vertices) ps
tagged_counts type ts ps = tagged_keeps (λ p. length p.vertices) type (λ n p. ap length (tag_vertices type n p)) ts ps

pub tagged_length : (type : ℕ) (ts : List (ℕ × ℕ)) (ps : List Polygon) → length (tagged ps type ts) ≡ length ps
tagged_length type ts ps = sym (length-map (tagged ps type ts) (λ p. p.vertices)) ∙ ap length (tagged_vertices type ts ps) ∙ length-map ps (λ p. p.vertices)

-- ---- new point numbers

pub from_counts : (base : ℕ) (ps : List Polygon) → sum (map (λ p. length p.vertices) (map (from base) ps)) ≡ sum (map (λ p. length p.vertices) ps)
unfolding sum
from_counts base [] = refl
from_counts base (p ∷ ps) = omega (arith, length-map p.vertices (λ v. base + v), from_counts base ps)
