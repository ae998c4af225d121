-- A whole chunk with an unlisted tag, put in between two chunks of a file that the rules give a mesh, changes only the skipped count. One
-- argument serves LWOB and LWO2.
use Prim.Native.Nat.{ℕ, ◌+◌}
use mathlib.Core.Path.{◌≡◌, refl, sym, ap, ◌∙◌}
use mathlib.Core.List.{List, [], ◌∷◌, ◌++◌, map}
use mathlib.Core.Bool.{true}
use native.Mathlib.Omega.{arith}
use native.Mathlib.Nat.{zero-add}
use lib.ListN.{length}
use Rattle.format.specs.Bytes.{sum, joined}
use Rattle.format.specs.Items.{fine}
use Rattle.format.specs.declared.Kind.{Kind}
use Rattle.format.specs.Chunks.{Chunk, size_of, Chunks, finished, broken, chunk}
use Rattle.format.specs.Mesh.{Mesh, Polygon}
use Rattle.format.specs.Bodies.{Part, point_list, name_list, polygon_list, tagging, surface, layer, skipped_chunk}
use Rattle.format.specs.Rules.{added, unlisted_tag, Before, start, after, points_of, names_of, surfaces_of, skipped_of, details_of, from, tagged, polygons_in, mesh_of, gives}
use Rattle.format.proofs.Facts.{impossible}
use Rattle.format.proofs.ListedTags.{skips}
use Rattle.format.specs.Promises.{walk_parts}
use Rattle.format.proofs.ChunkWalk.{parts_finished, parts_broken, next}
use Rattle.laws.proofs.Tiles.{in_front}
use Rattle.laws.proofs.Walk.{walk_on}
use Rattle.laws.proofs.Form.{told, outcome_of, was_fine}

-- ---- the walk with one chunk more

-- whether chunks are fine does not depend on their place
moved : (kind : Kind) (b : Before) (p q : ℕ) (cs : Chunks) (parts : List Part) → walk_parts kind b p cs ≡ fine parts → walk_parts kind b q cs ≡ fine parts
moved kind b p q finished parts e = parts_finished kind b q ∙ sym (parts_finished kind b p) ∙ e
moved kind b p q broken parts e = let bad = sym (parts_broken kind b p) ∙ e in impossible (cc)
moved kind b p q (chunk t body rest) parts e =
    let s = next kind b p t body rest parts e in
    walk_on kind b q t body rest s.here (moved kind (after b s.part) _ _ rest s.later s.onward) ∙ ap fine s.both

-- the parts before and after the chunk that was put in
record Inserted (kind : Kind) (b : Before) (place : ℕ) (cs : Chunks) (parts : List Part) : Type 0 where
  front : List Part
  back : List Part
  whole : front ++ back ≡ parts
  walks : walk_parts kind b place cs ≡ fine (front ++ skipped_chunk ∷ back)

put_in : (kind : Kind) (b : Before) (p q t : ℕ) (body : List ℕ) (cs : List Chunk) (rest : Chunks) (parts : List Part) → unlisted_tag kind t ≡ true
    → walk_parts kind b p (in_front cs rest) ≡ fine parts → Inserted kind b q (in_front cs (chunk t body rest)) parts
unfolding in_front after
put_in kind b p q t body [] rest parts u e =
    record { front = []; back = parts; whole = refl; walks = walk_on kind b q t body rest (skips kind b t body u) (moved kind b p _ rest parts e) }
put_in kind b p q t body (c ∷ cs) rest parts u e =
    let s = next kind b p c.tag c.body (in_front cs rest) parts e in
    let i = put_in kind (after b s.part) _ (q + size_of 4 (length c.body)) t body cs rest s.later u s.onward in
    record {
      front = s.part ∷ i.front;
      back = i.back;
      whole = ap (λ (l : List Part). s.part ∷ l) i.whole ∙ s.both;
      walks = walk_on kind b q c.tag c.body (in_front cs (chunk t body rest)) s.here i.walks;
    }

-- ---- the mesh with one part more

module _ {A : Type 0} (f : Part → List A) (none : f skipped_chunk ≡ []) where
  lists : (ps qs : List Part) → joined (map f (ps ++ skipped_chunk ∷ qs)) ≡ joined (map f (ps ++ qs))
  unfolding joined
  lists [] qs = rw none
  lists (p ∷ ps) qs = ap (λ (l : List A). f p ++ l) (lists ps qs)

sums : (f : Part → ℕ) (ps qs : List Part) → sum (map f (ps ++ skipped_chunk ∷ qs)) ≡ f skipped_chunk + sum (map f (ps ++ qs))
unfolding sum
sums f [] qs = refl
sums f (p ∷ ps) qs = omega (arith, sums f ps qs)

polygons_same : (base end : ℕ) (latest : List Polygon) (ps qs : List Part)
    → polygons_in base end latest (ps ++ skipped_chunk ∷ qs) ≡ polygons_in base end latest (ps ++ qs)
unfolding polygons_in
polygons_same base end latest [] qs = refl
polygons_same base end latest (point_list pts ∷ ps) qs = polygons_same end (end + length pts) latest ps qs
polygons_same base end latest (name_list ns ∷ ps) qs = polygons_same base end latest ps qs
polygons_same base end latest (polygon_list gs n ∷ ps) qs = ap (λ (l : List Polygon). latest ++ l) (polygons_same base end (map (from base) gs) ps qs)
polygons_same base end latest (tagging t ts ∷ ps) qs = polygons_same base end (tagged latest t ts) ps qs
polygons_same base end latest (surface s ∷ ps) qs = polygons_same base end latest ps qs
polygons_same base end latest (layer ∷ ps) qs = ap (λ (l : List Polygon). latest ++ l) (polygons_same end end [] ps qs)
polygons_same base end latest (skipped_chunk ∷ ps) qs = polygons_same base end latest ps qs

mesh_same : (kind : Kind) (ps qs : List Part) → mesh_of kind (ps ++ skipped_chunk ∷ qs) ≡ mesh_of kind (ps ++ qs)
unfolding mesh_of added
mesh_same kind ps qs = rw (lists points_of refl ps qs, lists names_of refl ps qs, lists surfaces_of refl ps qs, polygons_same 0 0 [] ps qs)

-- ---- over chunks

-- chunks cs in front of others, and the same with one chunk more between them
pub inserted_chunk : (kind : Kind) (cs : List Chunk) (t : ℕ) (body : List ℕ) (rest : Chunks) (m : Mesh) (k d : ℕ) → unlisted_tag kind t ≡ true
    → outcome_of kind (in_front cs rest) ≡ gives m k d → outcome_of kind (in_front cs (chunk t body rest)) ≡ gives m (1 + k) d
unfolding told added
inserted_chunk kind cs t body rest m k d u e =
    let read = was_fine kind _ e in
    let i = put_in kind start 12 12 t body cs rest read.0 u read.1 in
    let given = rw (read.1, ← i.whole) at e in
    rw (i.walks, mesh_same kind i.front i.back, sums skipped_of i.front i.back, sums details_of i.front i.back, zero-add) (cc (given))
