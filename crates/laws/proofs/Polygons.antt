-- The runs that a canonical file cuts the polygons into: their parts make the polygons again, with their kinds and tags.
use Rattle.std.specs.Prelude.{if◌then◌else◌}
use Prim.Native.Nat.{ℕ, suc, ◌+◌}
use Prim.Native.String.{String}
use mathlib.Core.Path.{◌≡◌, refl, sym, ap, subst, ◌∙◌}
use mathlib.Core.List.{List, [], ◌∷◌, ◌++◌, map, append_assoc, append-nil, map-id}
use mathlib.Core.Bool.{Bool, true, false, ◌&&◌}
use native.Mathlib.Omega.{arith}
use native.Mathlib.Nat.{zero-add}
use lib.Dec.{eqb}
use lib.ListN.{length, length-append}
use lib.Seq.{append_snoc}
use borrow.Author.Tests.{eqb-true, eq-eqb}
use Rattle.format.specs.Bytes.{spelt, number, all, joined}
use Rattle.format.specs.Mesh.{Point, Polygon, polygon_of, Name, Surface, Mesh}
use Rattle.format.specs.Bodies.{Part, point_list, name_list, surface}
use Rattle.format.specs.Rules.{from, with_tag, retag, tagged, polygons_in}
use Rattle.format.specs.Canonical.{pairs_of, ahead, runs}
use Rattle.format.proofs.Facts.{all_first, all_rest}
use Rattle.laws.proofs.Bodies.{bare, tagging_of, written}
use Rattle.laws.proofs.Walk.{canonical_parts, unless, surface_tags, part_tags, run_parts, surface_parts}

-- ---- runs

joined_ahead : (p : Polygon) (rs : List (List Polygon)) → joined (ahead p rs) ≡ p ∷ joined rs
unfolding ahead joined
joined_ahead p [] = refl
joined_ahead p ([] ∷ rs) = refl
joined_ahead p ((q ∷ r) ∷ rs) = go (eqb p.kind q.kind)
  where
    go : (b : Bool) → joined (if b then (p ∷ q ∷ r) ∷ rs else (p ∷ []) ∷ (q ∷ r) ∷ rs) ≡ p ∷ (q ∷ r ++ joined rs)
    go true = refl
    go false = refl

pub joined_runs : (ps : List Polygon) → joined (runs ps) ≡ ps
unfolding runs joined
joined_runs [] = refl
joined_runs (p ∷ ps) = joined_ahead p (runs ps) ∙ ap (λ (l : List Polygon). p ∷ l) (joined_runs ps)

-- a run's polygons are of one kind
unfoldable one_kind : List Polygon → Bool
one_kind [] = true
one_kind (p ∷ r) = all (λ q. eqb q.kind p.kind) r

kind_ahead : (p : Polygon) (rs : List (List Polygon)) → all one_kind rs ≡ true → all one_kind (ahead p rs) ≡ true
unfolding ahead all one_kind
kind_ahead p [] ok = refl
kind_ahead p ([] ∷ rs) ok = ok
kind_ahead p ((q ∷ r) ∷ rs) ok = go (eqb p.kind q.kind) refl
  where
    go : (b : Bool) → eqb p.kind q.kind ≡ b → all one_kind (if b then (p ∷ q ∷ r) ∷ rs else (p ∷ []) ∷ (q ∷ r) ∷ rs) ≡ true
    go true e = let same : p.kind ≡ q.kind = eqb-true p.kind q.kind e in
        let Of : ℕ → Type 0 = λ k. ((eqb q.kind k && all (λ x. eqb x.kind k) r) && all one_kind rs) ≡ true in
        subst Of (sym same) (rw (eq-eqb q.kind q.kind refl) ok)
    go false e = ok

kind_runs : (ps : List Polygon) → all one_kind (runs ps) ≡ true
unfolding runs all
kind_runs [] = refl
kind_runs (p ∷ ps) = kind_ahead p (runs ps) (kind_runs ps)

-- ---- tags

retag_at : (type n : ℕ) (before : List Polygon) (p : Polygon) (later : List Polygon)
    → retag type (length before) n (before ++ p ∷ later) ≡ before ++ with_tag type n p ∷ later
unfolding retag
retag_at type n [] p later = refl
retag_at type n (q ∷ before) p later = ap (λ (l : List Polygon). q ∷ l) (retag_at type n before p later)

-- Tags of a type give each polygon the number that it lacks: with its tag it is what it was to be, and without one it is so already.
module _ (type : ℕ) (number_of_lem : Polygon → ℕ) (lacks has : Polygon → Polygon) (given : (p : Polygon) → with_tag type (number_of_lem p) (lacks p) ≡ has p)
    (no_need : (p : Polygon) → number_of_lem p ≡ 0 → lacks p ≡ has p) where
  -- the polygons before are done
  tagged_after : (before ps : List Polygon) → tagged (before ++ map lacks ps) type (pairs_of number_of_lem (length before) ps) ≡ before ++ map has ps
  unfolding pairs_of
  tagged_after before [] = refl
  tagged_after before (p ∷ ps) = go (eqb (number_of_lem p) 0) refl (tagged_after (before ++ has p ∷ []) ps)
    where
      long : length (before ++ has p ∷ []) ≡ suc (length before)
      long = length-append before (has p ∷ []) ∙ omega arith

      step : tagged (before ++ has p ∷ [] ++ map lacks ps) type (pairs_of number_of_lem (length (before ++ has p ∷ [])) ps) ≡ before ++ has p ∷ [] ++ map has ps
          → tagged (before ++ has p ∷ map lacks ps) type (pairs_of number_of_lem (suc (length before)) ps) ≡ before ++ has p ∷ map has ps
      step later = rw (append_snoc before (has p) (map lacks ps), append_snoc before (has p) (map has ps), long) at later

      go : (b : Bool) → eqb (number_of_lem p) 0 ≡ b → tagged (before ++ has p ∷ [] ++ map lacks ps) type (pairs_of number_of_lem (length (before ++ has p ∷ [])) ps) ≡ before ++ has p ∷ [] ++ map has ps
          → tagged (before ++ lacks p ∷ map lacks ps) type ((if b then [] else (length before, number_of_lem p) ∷ []) ++ pairs_of number_of_lem (suc (length before)) ps) ≡ before ++ has p ∷ map has ps
      go true e later = rw (no_need p (eqb-true (number_of_lem p) 0 e)) (step later)
      go false e later =
          ap (λ (l : List Polygon). tagged l type (pairs_of number_of_lem (suc (length before)) ps)) (retag_at type (number_of_lem p) before (lacks p) (map lacks ps) ∙ rw (given p)) ∙ step later

-- a polygon of a run of kind k, as it is after the tags of its surface, and then of its part name
abbrev surfaced : ℕ → Polygon → Polygon
surfaced k p = polygon_of k p.surface 0 p.vertices

abbrev restored : ℕ → Polygon → Polygon
restored k p = polygon_of k p.surface p.part_name p.vertices

with_surfaces : (k : ℕ) (ps : List Polygon) → tagged (map (bare k) ps) (number (spelt "SURF")) (pairs_of (λ p. p.surface) 0 ps) ≡ map (surfaced k) ps
unfolding number
with_surfaces k ps = tagged_after (number (spelt "SURF")) (λ p. p.surface) (bare k) (surfaced k) (λ p. refl) (λ p e. rw e) [] ps

with_parts : (k : ℕ) (ps : List Polygon) → tagged (map (surfaced k) ps) (number (spelt "PART")) (pairs_of (λ p. p.part_name) 0 ps) ≡ map (restored k) ps
unfolding number
with_parts k ps = tagged_after (number (spelt "PART")) (λ p. p.part_name) (surfaced k) (restored k) (λ p. refl) (λ p e. rw e) [] ps

of_kind : (k : ℕ) (ps : List Polygon) → all (λ q. eqb q.kind k) ps ≡ true → map (restored k) ps ≡ ps
of_kind k [] ok = refl
of_kind k (p ∷ ps) ok =
    let here : restored k p ≡ p = rw (← eqb-true p.kind k (all_first _ p ps ok)) in
    rw (here, of_kind k ps (all_rest _ p ps ok))

same_vertices : (vs : List ℕ) → map (λ v. 0 + v) vs ≡ vs
same_vertices vs = simp zero-add (map-id vs)

from_zero : (ps : List Polygon) → map (from 0) ps ≡ ps
from_zero [] = refl
from_zero (p ∷ ps) = rw (same_vertices p.vertices, from_zero ps)

-- a run's parts put its polygons behind the latest, with their tags
run_parts_lem : (end : ℕ) (latest : List Polygon) (p : Polygon) (r : List Polygon) (rest : List Part) → one_kind (p ∷ r) ≡ true
    → polygons_in 0 end latest (run_parts (p ∷ r) ++ rest) ≡ latest ++ polygons_in 0 end (p ∷ r) rest
unfolding run_parts polygons_in one_kind
run_parts_lem end latest p r rest ok =
    ap (λ (l : List Polygon). latest ++ l)
    (rw (append_assoc (surface_tags (p ∷ r)) (part_tags (p ∷ r)) rest, from_zero (map (bare p.kind) (p ∷ r)))
    (tags "SURF" (pairs_of (λ p. p.surface) 0 (p ∷ r)) (map (bare p.kind) (p ∷ r)) (part_tags (p ∷ r) ++ rest)
    ∙ rw (with_surfaces p.kind (p ∷ r)) (tags "PART" (pairs_of (λ p. p.part_name) 0 (p ∷ r)) (map (surfaced p.kind) (p ∷ r)) rest ∙ rw (with_parts p.kind (p ∷ r), of_kind p.kind (p ∷ r) kinds))))
  where
    kinds : all (λ q. eqb q.kind p.kind) (p ∷ r) ≡ true
    kinds = unfold all in rw (eq-eqb p.kind p.kind refl) ok

    tags : (type : String) (ts : List (ℕ × ℕ)) (now : List Polygon) (rest : List Part)
        → polygons_in 0 end now (unless (tagging_of type) ts ++ rest) ≡ polygons_in 0 end (tagged now (number (spelt type)) ts) rest
    tags type [] now rest = refl
    tags type (t ∷ ts) now rest = refl

surface_parts_lem : (base end : ℕ) (latest : List Polygon) (ns : List Name) (ss : List Surface) → polygons_in base end latest (surface_parts ns ss) ≡ latest
unfolding polygons_in surface_parts
surface_parts_lem base end latest [] ss = refl
surface_parts_lem base end latest (n ∷ ns) [] = refl
surface_parts_lem base end latest (n ∷ ns) (s ∷ ss) = go (eqb s.defined 1) (surface_parts_lem base end latest ns ss)
  where
    go : (b : Bool) → polygons_in base end latest (surface_parts ns ss) ≡ latest
        → polygons_in base end latest ((if b then surface (written n s) ∷ [] else []) ++ surface_parts ns ss) ≡ latest
    go true later = later
    go false later = later

runs_parts : (end : ℕ) (latest : List Polygon) (rs : List (List Polygon)) (rest : List Part) → ((latest : List Polygon) → polygons_in 0 end latest rest ≡ latest)
    → all one_kind rs ≡ true → polygons_in 0 end latest (joined (map run_parts rs) ++ rest) ≡ latest ++ joined rs
unfolding joined run_parts
runs_parts end latest [] rest keeps ok = keeps latest ∙ sym (append-nil latest)
runs_parts end latest ([] ∷ rs) rest keeps ok = runs_parts end latest rs rest keeps (all_rest one_kind [] rs ok)
runs_parts end latest ((p ∷ r) ∷ rs) rest keeps ok =
    ap (polygons_in 0 end latest) (append_assoc (run_parts (p ∷ r)) (joined (map run_parts rs)) rest)
    ∙ run_parts_lem end latest p r (joined (map run_parts rs) ++ rest) (all_first one_kind (p ∷ r) rs ok)
    ∙ ap (λ (l : List Polygon). latest ++ l) (runs_parts end (p ∷ r) rs rest keeps (all_rest one_kind (p ∷ r) rs ok))

pub polygons_back : (m : Mesh) → polygons_in 0 0 [] (canonical_parts m) ≡ m.polygons
polygons_back m = past_names m.names ∙ past_points m.points
  where
    rest : List Part
    rest = joined (map run_parts (runs m.polygons)) ++ surface_parts m.names m.surfaces

    all_runs : (end : ℕ) → polygons_in 0 end [] rest ≡ m.polygons
    all_runs end =
        runs_parts end [] (runs m.polygons) (surface_parts m.names m.surfaces) (λ latest. surface_parts_lem 0 end latest m.names m.surfaces) (kind_runs m.polygons)
        ∙ joined_runs m.polygons

    past_names : (ns : List Name)
        → polygons_in 0 0 [] (unless name_list ns ++ (unless point_list m.points ++ rest)) ≡ polygons_in 0 0 [] (unless point_list m.points ++ rest)
    past_names [] = refl
    past_names (n ∷ ns) = unfold polygons_in in refl

    past_points : (ps : List Point) → polygons_in 0 0 [] (unless point_list ps ++ rest) ≡ m.polygons
    past_points [] = all_runs 0
    past_points (p ∷ ps) = unfold polygons_in in all_runs (0 + suc (length ps))
