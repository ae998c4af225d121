-- "LWOB gives 0": no polygon of an LWOB file has a part name, since its faces and patches have none and no chunk of it is a PTAG.
use Prim.Native.Nat.{ℕ, ◌+◌}
use mathlib.Core.Path.{◌≡◌, refl, sym, ◌∙◌}
use mathlib.Core.List.{List, [], map}
use mathlib.Core.Bool.{Bool, true}
use lib.Dec.{eqb}
use lib.ListN.{length}
use Rattle.format.specs.declared.Kind.TheVariants.{LWOB}
use Rattle.format.specs.Bytes.{◌is◌, all}
use Rattle.format.specs.Items.{fine}
use Rattle.format.specs.Mesh.{Polygon, Mesh}
use Rattle.format.specs.Bodies.{Part, point_list, name_list, polygon_list, tagging, surface, layer, skipped_chunk, face, faces_body, patch, patches_body}
use Rattle.format.specs.Rules.{Before, judge, form, from, polygons_in, mesh_of, gives, rules}
use Rattle.format.proofs.Facts.{all_map, all_append_true}
use Rattle.format.proofs.Verdicts.{same_fine}
use Rattle.format.proofs.ChunkWalk.{EachPart, any_body, walk_each, accepted}
use Rattle.format.proofs.ChunkWalk.EachPart.{no_more, one_more}
use Rattle.format.proofs.PartByTag.{Makes, makes_give, makes_on, makes_then, makes_many, makes_points, makes_names, makes_surface, Always, always_when, always_if, always_skipped}

abbrev pub no_part_name : Polygon → Bool
no_part_name p = eqb p.part_name 0

-- what a chunk contributes has no part names
abbrev Bare : Part → Type 0
Bare (point_list ps) = Unit
Bare (name_list ns) = Unit
Bare (polygon_list ps n) = all no_part_name ps ≡ true
Bare (tagging t ts) = ⊥
Bare (surface s) = Unit
Bare layer = Unit
Bare skipped_chunk = Unit

module _ (point_count name_count : ℕ) where
  faces : Makes Bare (faces_body point_count name_count)
  unfolding faces_body face
  faces =
      makes_on _ _ (makes_many (λ f. no_part_name f.0) (makes_then _ _ _ (λ vs. makes_then _ _ _ (λ z. makes_then _ _ _ (λ n. makes_give _ _ refl)))))
      (λ fs none. makes_give _ _ (all_map no_part_name (λ f. f.0) fs none))

  patches : Makes Bare (patches_body point_count name_count)
  unfolding patches_body patch
  patches = makes_on _ _ (makes_many no_part_name (makes_then _ _ _ (λ vs. makes_then _ _ _ (λ z. makes_give _ _ refl)))) (λ ps none. makes_give _ _ none)

each_chunk : (b : Before) (t : ℕ) → Always Bare (judge LWOB b t)
unfolding judge
each_chunk b t =
    always_if Bare (t is "PNTS") (λ e. always_when Bare _ (λ ok. makes_points Bare LWOB (λ ps. tt)))
    (always_if Bare (t is "SRFS") (λ e. always_when Bare _ (λ ok. makes_names Bare (λ ns. tt)))
    (always_if Bare (t is "POLS") (λ e. always_when Bare _ (λ ok. faces _ _))
    (always_if Bare (t is "PCHS") (λ e. always_when Bare _ (λ ok. patches _ _))
    (always_if Bare (t is "SURF") (λ e. always_when Bare _ (λ ok. makes_surface Bare LWOB (λ s. tt))) (always_skipped Bare tt)))))

no_part_names : {b : Before} {parts : List Part} → EachPart (λ b part. Bare part) b parts → (base end : ℕ) (latest : List Polygon) → all no_part_name latest ≡ true
    → all no_part_name (polygons_in base end latest parts) ≡ true
unfolding polygons_in all
no_part_names no_more base end latest none = none
no_part_names (one_more {part = point_list ps} h hs) base end latest none = no_part_names hs end (end + length ps) latest none
no_part_names (one_more {part = name_list ns} h hs) base end latest none = no_part_names hs base end latest none
no_part_names (one_more {part = polygon_list ps n} h hs) base end latest none =
    all_append_true no_part_name latest _ none (no_part_names hs base end (map (from base) ps) (all_map no_part_name (from base) ps h))
no_part_names (one_more {part = tagging t ts} h hs) base end latest none = absurd h
no_part_names (one_more {part = surface s} h hs) base end latest none = no_part_names hs base end latest none
no_part_names (one_more {part = layer} h hs) base end latest none = all_append_true no_part_name latest _ none (no_part_names hs end end [] refl)
no_part_names (one_more {part = skipped_chunk} h hs) base end latest none = no_part_names hs base end latest none

pub lwob_gives_none : (file : List ℕ) {m : Mesh} {k d : ℕ} → form file ≡ fine LWOB → rules file ≡ gives m k d → all no_part_name m.polygons ≡ true
unfolding mesh_of all
lwob_gives_none file old e =
    let a = accepted e in
    let kind : a.kind ≡ LWOB = same_fine (sym a.formed ∙ old) in
    let parts = walk_each LWOB (λ b part. Bare part) _ (λ b t body part any j. (each_chunk b t).each body part j) _ 12 (any_body _) a.parts (rw kind at a.walked) in
    rw (← a.mesh) (no_part_names parts 0 0 [] refl)
