-- The parts of a canonical file make the mesh again, with nothing skipped and no details.
use Rattle.std.specs.Prelude.{if◌then◌else◌}
use Prim.Native.Nat.{ℕ}
use Prim.Native.String.{String}
use mathlib.Core.Path.{◌≡◌, refl, sym, ap, ◌∙◌}
use mathlib.Core.List.{List, [], ◌∷◌, ◌++◌, map, append_assoc, append-nil}
use mathlib.Core.Option.{Option, none, some}
use mathlib.Core.Bool.{Bool, true, false, not, and-eq-true_iff, or-true}
use native.Mathlib.Omega.{arith}
use lib.Dec.{leb, eqb}
use lib.ListN.{length}
use borrow.Author.Tests.{eqb-true, not-true}
use Rattle.format.specs.Bytes.{finite, all, sum, joined, same, amongst}
use Rattle.format.specs.Limits.{name_limit}
use Rattle.format.specs.Mesh.{Point, point_words, Polygon, Name, Surface, Mesh}
use Rattle.format.specs.Items.{fine}
use Rattle.format.specs.declared.Kind.TheVariants.{LWO2}
use Rattle.format.specs.Bodies.{Part, SurfaceChunk, point_list, name_list, polygon_list, surface, new_name}
use Rattle.format.specs.Rules.{added, points_of, names_of, details_of, skipped_of, surfaces_of, standing, record_for, mesh_of, gives}
use Rattle.format.specs.Canonical.{pairs_of, runs}
use Rattle.format.specs.Written.{good_polygon, good_names, good_surface, good_mesh}
use Rattle.format.proofs.Facts.{every_at, all_first, all_rest}
use Rattle.format.proofs.MissingColour.{undefined_missing}
use Rattle.format.proofs.SameLists.{same_eq, same_refl}
use Rattle.format.proofs.AmongstNames.{amongst_append}
use Rattle.laws.proofs.Bodies.{bare, tagging_of, written, good_name, record_back}
use Rattle.laws.proofs.Form.{told}
use Rattle.laws.proofs.Polygons.{polygons_back}
use Rattle.laws.proofs.Walk.{canonical_parts, unless, surface_tags, part_tags, run_parts, surface_parts}

-- ---- what parts add to the lists

-- parts, and the points, names and surfaces that they add, where none was skipped and there are no details
record Adds (ps : List Part) (pts : List Point) (ns : List Name) (ss : List SurfaceChunk) : Type 0 where
  points_are : joined (map points_of ps) ≡ pts
  names_are : joined (map names_of ps) ≡ ns
  surfaces_are : joined (map surfaces_of ps) ≡ ss
  none_skipped : sum (map skipped_of ps) ≡ 0
  no_details : sum (map details_of ps) ≡ 0

adds_none : Adds [] [] [] []
unfolding joined sum
adds_none = record { points_are = refl; names_are = refl; surfaces_are = refl; none_skipped = refl; no_details = refl }

adds_more : {ps : List Part} {pts : List Point} {ns : List Name} {ss : List SurfaceChunk} (p : Part) → skipped_of p ≡ 0 → details_of p ≡ 0 → Adds ps pts ns ss
    → Adds (p ∷ ps) (points_of p ++ pts) (names_of p ++ ns) (surfaces_of p ++ ss)
unfolding joined sum
adds_more {ps} {pts} {ns} {ss} p skips details a = record {
  points_are = rw a.points_are;
  names_are = rw a.names_are;
  surfaces_are = rw a.surfaces_are;
  none_skipped = rw (skips, a.none_skipped);
  no_details = rw (details, a.no_details);
}

-- the same with the lists that it adds written out
adds_names : {ps : List Part} {pts : List Point} {ns : List Name} {ss : List SurfaceChunk} (new : List Name) → Adds ps pts ns ss
    → Adds (unless name_list new ++ ps) pts (new ++ ns) ss
unfolding added
adds_names [] a = a
adds_names (n ∷ new) a = adds_more (name_list (n ∷ new)) refl refl a

adds_points : {ps : List Part} {pts : List Point} {ns : List Name} {ss : List SurfaceChunk} (new : List Point) → Adds ps pts ns ss
    → Adds (unless point_list new ++ ps) (new ++ pts) ns ss
unfolding added
adds_points [] a = a
adds_points (p ∷ new) a = adds_more (point_list (p ∷ new)) refl refl a

adds_tags : {ps : List Part} {pts : List Point} {ns : List Name} {ss : List SurfaceChunk} (type : String) (ts : List (ℕ × ℕ)) → Adds ps pts ns ss
    → Adds (unless (tagging_of type) ts ++ ps) pts ns ss
unfolding added
adds_tags type [] a = a
adds_tags type (t ∷ ts) a = adds_more (tagging_of type (t ∷ ts)) refl refl a

adds_run : {ps : List Part} {pts : List Point} {ns : List Name} {ss : List SurfaceChunk} (r : List Polygon) → Adds ps pts ns ss
    → Adds (run_parts r ++ ps) pts ns ss
unfolding run_parts added
adds_run [] a = a
adds_run {ps} (p ∷ r) a =
    adds_more (polygon_list (map (bare p.kind) (p ∷ r)) 0) refl refl
    (rw (append_assoc (surface_tags (p ∷ r)) (part_tags (p ∷ r)) ps) (adds_tags "SURF" (pairs_of (λ p. p.surface) 0 (p ∷ r)) (adds_tags "PART" (pairs_of (λ p. p.part_name) 0 (p ∷ r)) a)))

adds_runs : {ps : List Part} {pts : List Point} {ns : List Name} {ss : List SurfaceChunk} (rs : List (List Polygon)) → Adds ps pts ns ss
    → Adds (joined (map run_parts rs) ++ ps) pts ns ss
unfolding joined
adds_runs [] a = a
adds_runs {ps} (r ∷ rs) a = rw (append_assoc (run_parts r) (joined (map run_parts rs)) ps) (adds_run r (adds_runs rs a))

-- the surfaces that a file defines
unfoldable defined_in : List Name → List Surface → List SurfaceChunk
defined_in [] ss = []
defined_in (n ∷ ns) [] = []
defined_in (n ∷ ns) (s ∷ ss) = (if eqb s.defined 1 then written n s ∷ [] else []) ++ defined_in ns ss

adds_surfaces : (ns : List Name) (ss : List Surface) → Adds (surface_parts ns ss) [] [] (defined_in ns ss)
unfolding surface_parts defined_in added
adds_surfaces [] ss = adds_none
adds_surfaces (n ∷ ns) [] = adds_none
adds_surfaces (n ∷ ns) (s ∷ ss) = go (eqb s.defined 1) (adds_surfaces ns ss)
  where
    go : (b : Bool) → Adds (surface_parts ns ss) [] [] (defined_in ns ss)
        → Adds ((if b then surface (written n s) ∷ [] else []) ++ surface_parts ns ss) [] [] ((if b then written n s ∷ [] else []) ++ defined_in ns ss)
    go true a = adds_more (surface (written n s)) refl refl a
    go false a = a

adds_parts : (m : Mesh) → Adds (canonical_parts m) m.points m.names (defined_in m.names m.surfaces)
adds_parts m =
    rw append-nil at (adds_names m.names (rw append-nil at (adds_points m.points (adds_runs (runs m.polygons) (adds_surfaces m.names m.surfaces)))))

-- ---- surfaces

-- a name is not the same as any of these
abbrev apart : Name → List Name → Bool
apart n ns = all (λ k. not (same n k)) ns

-- names that are good after some are apart from each of those
all_apart : (n : Name) (earlier ns : List Name) → amongst n earlier ≡ true → good_names earlier ns ≡ true → apart n ns ≡ true
unfolding all
all_apart n earlier [] there ok = refl
all_apart n earlier (k ∷ ns) there ok =
    let g = good_name earlier k ns ok in
    rw (go (same n k) refl g.new) (all_apart n (earlier ++ (k ∷ [])) ns (rw (amongst_append n earlier (k ∷ []), there)) g.rest)
  where
    go : (b : Bool) → same n k ≡ b → new_name earlier k ≡ true → not b ≡ true
    go true e new =
        let fresh : not (amongst k earlier) ≡ true = ((and-eq-true_iff (leb (length k) name_limit) (not (amongst k earlier))).0 new).1 in
        rw (← same_eq n k e, there) at fresh
    go false e new = refl

apart_first : (n k : Name) (ns : List Name) → apart n (k ∷ ns) ≡ true → (same n k ≡ false) × (same k n ≡ false)
apart_first n k ns ok = (other, go (same k n) refl)
  where
    other : same n k ≡ false
    other = not-true (same n k) (all_first _ k ns ok)

    go : (b : Bool) → same k n ≡ b → b ≡ false
    go true e = sym (same_refl n) ∙ rw (same_eq k n e) at other
    go false e = refl

-- the first SURF stands if it is of that name
standing_first : (n : Name) (now : Option SurfaceChunk) (s : SurfaceChunk) (rest : List SurfaceChunk) (b : Bool) → same n s.name ≡ b
    → standing n now (s ∷ rest) ≡ standing n (if b then some s else now) rest
unfolding standing
standing_first n now s rest b e = ap (λ (b : Bool). standing n (if b then some s else now) rest) e

-- surfaces of other names change nothing
standing_none : (n : Name) (now : Option SurfaceChunk) (ns : List Name) (ss : List Surface) → apart n ns ≡ true → standing n now (defined_in ns ss) ≡ now
unfolding standing defined_in
standing_none n now [] ss ok = refl
standing_none n now (k ∷ ns) [] ok = refl
standing_none n now (k ∷ ns) (s ∷ ss) ok =
    go (eqb s.defined 1) (apart_first n k ns ok).0 (standing_none n now ns ss (all_rest _ k ns ok))
  where
    go : (b : Bool) → same n k ≡ false → standing n now (defined_in ns ss) ≡ now
        → standing n now ((if b then written k s ∷ [] else []) ++ defined_in ns ss) ≡ now
    go true other later = standing_first n now (written k s) (defined_in ns ss) false other ∙ later
    go false other later = later

-- nor does the surface of one name change what stands for the others
skip_first : (b : Bool) (s : SurfaceChunk) (rest : List SurfaceChunk) (ks : List Name) → apart s.name ks ≡ true
    → map (λ k. record_for LWO2 (standing k none ((if b then s ∷ [] else []) ++ rest))) ks ≡ map (λ k. record_for LWO2 (standing k none rest)) ks
skip_first false s rest ks ok = refl
skip_first true s rest [] ok = refl
skip_first true s rest (k ∷ ks) ok =
    rw (standing_first k none s rest false (apart_first s.name k ks ok).1, skip_first true s rest ks (all_rest _ k ks ok))

surfaces_back : (earlier ns : List Name) (ss : List Surface) → good_names earlier ns ≡ true → all good_surface ss ≡ true → length ss ≡ length ns
    → map (λ n. record_for LWO2 (standing n none (defined_in ns ss))) ns ≡ ss
unfolding defined_in
surfaces_back earlier [] [] names_ok ok long = refl
surfaces_back earlier [] (s ∷ ss) names_ok ok long = absurd (omega arith)
surfaces_back earlier (n ∷ ns) [] names_ok ok long = absurd (omega arith)
surfaces_back earlier (n ∷ ns) (s ∷ ss) names_ok ok long =
    let g = good_name earlier n ns names_ok in
    let others : apart n ns ≡ true = all_apart n (earlier ++ (n ∷ [])) ns own g.rest in
    let later = surfaces_back (earlier ++ (n ∷ [])) ns ss g.rest (all_rest good_surface s ss ok) (omega arith) in
    rw (first (eqb s.defined 1) refl (all_first good_surface s ss ok) others, skip_first (eqb s.defined 1) (written n s) (defined_in ns ss) ns others, later)
  where
    own : amongst n (earlier ++ (n ∷ [])) ≡ true
    own = unfold amongst in rw (amongst_append n earlier (n ∷ []), same_refl n) (or-true (amongst n earlier))

    first : (b : Bool) → eqb s.defined 1 ≡ b → good_surface s ≡ true → apart n ns ≡ true
        → record_for LWO2 (standing n none ((if b then written n s ∷ [] else []) ++ defined_in ns ss)) ≡ s
    first true e good others =
        ap (record_for LWO2) (standing_first n none (written n s) (defined_in ns ss) true (same_refl n) ∙ standing_none n (some (written n s)) ns ss others) ∙ record_back s (eqb-true s.defined 1 e)
    first false e good others = ap (record_for LWO2) (standing_none n none ns ss others) ∙ undefined_missing s good e

-- what `good_mesh` says
pub record Good (m : Mesh) : Type 0 where
  pub counts : length m.surfaces ≡ length m.names
  pub points : all (λ p. all finite (point_words p)) m.points ≡ true
  pub polygons : all (good_polygon (length m.points) (length m.names)) m.polygons ≡ true
  pub names : good_names [] m.names ≡ true
  pub surfaces : all good_surface m.surfaces ≡ true

pub good : (m : Mesh) → good_mesh m ≡ true → Good m
unfolding good_mesh
good m ok = record { counts = eqb-true _ _ (every_at _ 0 ok); points = every_at _ 1 ok; polygons = every_at _ 2 ok; names = every_at _ 3 ok; surfaces = every_at _ 4 ok }

-- ---- the mesh

mesh_back : (m : Mesh) → Good m → mesh_of LWO2 (canonical_parts m) ≡ m
unfolding mesh_of
mesh_back m g = λ i. record { points = a.points_are i; polygons = polygons_back m i; names = a.names_are i; surfaces = stand i }
  where
    a : Adds (canonical_parts m) m.points m.names (defined_in m.names m.surfaces)
    a = adds_parts m

    stand : map (λ n. record_for LWO2 (standing n none (joined (map surfaces_of (canonical_parts m))))) (joined (map names_of (canonical_parts m))) ≡ m.surfaces
    stand = rw (a.names_are, a.surfaces_are) (surfaces_back [] m.names m.surfaces g.names g.surfaces g.counts)

pub outcome_back : (m : Mesh) → Good m → told LWO2 (fine (canonical_parts m)) ≡ gives m 0 0
unfolding told
outcome_back m g = let a = adds_parts m in rw (mesh_back m g, a.none_skipped, a.no_details)
