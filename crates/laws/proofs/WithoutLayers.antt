-- Some layers of an accepted file taken out: every other chunk is judged by the names and by lists of its own layer, and these are the latest then too.
use Rattle.std.specs.Prelude.{if◌then◌else◌}
use Prim.Native.Nat.{ℕ, ◌+◌}
use mathlib.Core.Path.{◌≡◌, refl, sym, subst, ◌∙◌}
use mathlib.Core.List.{List, [], ◌∷◌}
use mathlib.Core.Bool.{Bool, true, false, not}
use mathlib.Core.Option.{Option, none, some}
use lib.ListN.{length}
use Rattle.format.specs.declared.Kind.TheVariants.{LWO2}
use Rattle.format.specs.Bytes.{◌is◌}
use Rattle.format.specs.Items.{Verdict, fine, Reader}
use Rattle.format.specs.Chunks.{size_of, Chunks, finished, broken, chunk}
use Rattle.format.specs.Mesh.{Mesh}
use Rattle.format.specs.Bodies.{Part, point_list, name_list, polygon_list, tagging, surface, layer, skipped_chunk, names_body, polygons_body, tagging_body}
use Rattle.format.specs.Rules.{Before, start, after, there, count, when◌read◌, judge, added, skipped_of, details_of, gives}
use Rattle.format.specs.Promises.{walk_parts}
use Rattle.format.proofs.Facts.{impossible}
use Rattle.format.proofs.Verdicts.{same_fine}
use Rattle.format.proofs.ChunkWalk.{parts_finished, parts_broken, next}
use Rattle.format.proofs.PartByTag.{holds_layer}
use Rattle.format.proofs.Layers.{LayersOut, same_sums, layers_not_kept}
use Rattle.format.proofs.Layers.LayersOut.{none_left, kept as kept_part, out as out_part}
use Rattle.laws.proofs.Walk.{walk_on}
use Rattle.laws.proofs.Form.{told, outcome_of, was_fine}

-- ---- what a chunk is judged by

-- every list that is there stays as it is; one that is missing may be there
record NoLess (b b' : Before) : Type 0 where
  points : there b.points ≡ true → b.points ≡ b'.points
  polygons : there b.polygons ≡ true → b.polygons ≡ b'.polygons
  names : b.names ≡ b'.names

module _ {b b' : Before} (l : NoLess b b') where
  no_less_after : (part : Part) → NoLess (after b part) (after b' part)
  unfolding after
  no_less_after (point_list ps) = record { points = λ e. refl; polygons = l.polygons; names = l.names }
  no_less_after (name_list ns) = record { points = l.points; polygons = l.polygons; names = refl }
  no_less_after (polygon_list ps n) = record { points = l.points; polygons = λ e. refl; names = l.names }
  no_less_after (tagging t ts) = l
  no_less_after (surface s) = l
  no_less_after layer = record { points = λ e. refl; polygons = λ e. refl; names = l.names }
  no_less_after skipped_chunk = l

  -- a layer takes lists away
  no_less_layer : NoLess (after b layer) b'
  unfolding after
  no_less_layer = record { points = λ e. impossible cc; polygons = λ e. impossible cc; names = l.names }

-- ---- what is fine by some lists is so by more

record Alike (judging judging' : List ℕ → Verdict Part) : Type 0 where
  each : (body : List ℕ) (part : Part) → judging body ≡ fine part → judging' body ≡ fine part

alike_same : {f : List ℕ → Verdict Part} → Alike f f
alike_same = record { each = λ body part e. e }

alike_if : (t : Bool) {f f' g g' : List ℕ → Verdict Part} → Alike f f' → Alike g g' → Alike (if t then f else g) (if t then f' else g')
alike_if true a b = a
alike_if false a b = b

alike_list : (list list' : Option ℕ) → (there list ≡ true → list ≡ list') → (r : ℕ → Reader Part)
    → Alike (when there list read r (count list)) (when there list' read r (count list'))
unfolding when◌read◌
alike_list none list' same r = record { each = λ body part e. impossible cc }
alike_list (some n) list' same r = subst (λ o. Alike (when true read r n) (when there o read r (count o))) (same refl) alike_same

judge_alike : {b b' : Before} → NoLess b b' → (t : ℕ) → Alike (judge LWO2 b t) (judge LWO2 b' t)
unfolding judge
judge_alike {b} {b'} l t =
    let names : Alike (when not (there b.names) read names_body) (when not (there b'.names) read names_body) = rw l.names alike_same in
    let tags : Alike (when there b.polygons read tagging_body (count b.polygons) (count b.names)) (when there b'.polygons read tagging_body (count b'.polygons) (count b'.names)) =
    rw l.names (alike_list b.polygons b'.polygons l.polygons (λ p. tagging_body p (count b'.names))) in
    alike_if (t is "PNTS") alike_same
    (alike_if (t is "TAGS") names
    (alike_if (t is "POLS") (alike_list b.points b'.points l.points polygons_body)
    (alike_if (t is "PTAG") tags (alike_if (t is "SURF") alike_same (alike_if (t is "LAYR") alike_same alike_same)))))

-- ---- the chunks without some of the layers

pub data LayerChunksOut : Chunks → Chunks → Type 0 where
  at_end : LayerChunksOut finished finished
  no_chunk : LayerChunksOut broken broken
  kept : {t : ℕ} {body : List ℕ} {rest rest' : Chunks} → LayerChunksOut rest rest' → LayerChunksOut (chunk t body rest) (chunk t body rest')
  out : {t : ℕ} {body : List ℕ} {rest rest' : Chunks} → t is "LAYR" ≡ true → LayerChunksOut rest rest' → LayerChunksOut (chunk t body rest) rest'

-- they are fine, and have the same parts but for these layers
record FineWithout (b : Before) (place : ℕ) (cs : Chunks) (parts : List Part) : Type 0 where
  fewer : List Part
  walked : walk_parts LWO2 b place cs ≡ fine fewer
  left_out : LayersOut parts fewer

taken_out : {b b' : Before} → NoLess b b' → (p q : ℕ) {cs cs' : Chunks} → LayerChunksOut cs cs' → (parts : List Part) → walk_parts LWO2 b p cs ≡ fine parts
    → FineWithout b' q cs' parts
taken_out {b} {b'} l p q at_end parts e =
    rw (← same_fine (sym (parts_finished LWO2 b p) ∙ e)) (record { fewer = []; walked = parts_finished LWO2 b' q; left_out = none_left })
taken_out {b} l p q no_chunk parts e = let bad = sym (parts_broken LWO2 b p) ∙ e in impossible cc
taken_out {b} {b'} l p q (kept {t = t} {body = body} {rest = rest} {rest' = rest'} r) parts e =
    let x = next LWO2 b p t body rest parts e in
    let later = taken_out {b = after b x.part} {b' = after b' x.part} (no_less_after l x.part) (p + size_of 4 (length body)) (q + size_of 4 (length body)) r x.later x.onward in
    rw (← x.both)
    (record {
      fewer = x.part ∷ later.fewer;
      walked = walk_on LWO2 b' q t body rest' ((judge_alike l t).each body x.part x.here) later.walked;
      left_out = kept_part later.left_out;
    })
taken_out {b} {b'} l p q (out {t = t} {body = body} {rest = rest} i r) parts e =
    let x = next LWO2 b p t body rest parts e in
    let same : x.part ≡ layer = ((holds_layer i).each b body x.part x.here).part_is in
    let later = taken_out {b = after b layer} {b' = b'} (no_less_layer l) (p + size_of 4 (length body)) q r x.later (rw same at x.onward) in
    rw (← x.both, same) (record { fewer = later.fewer; walked = later.walked; left_out = out_part later.left_out })

-- "The mesh doesn't keep the layer": with some of its layers left out, or all, an accepted file has the same mesh and the same counts
pub layers_taken_out : {cs cs' : Chunks} → LayerChunksOut cs cs' → (m : Mesh) (k d : ℕ) → outcome_of LWO2 cs ≡ gives m k d → outcome_of LWO2 cs' ≡ gives m k d
unfolding told added
layers_taken_out {cs} r m k d e =
    let w = was_fine LWO2 (walk_parts LWO2 start 12 cs) e in
    let t = taken_out {b = start} {b' = start} (record { points = λ e. refl; polygons = λ e. refl; names = refl }) 12 12 r w.0 w.1 in
    let given = rw w.1 at e in
    rw (t.walked, ← layers_not_kept LWO2 start 12 cs w.1 t.left_out, ← same_sums skipped_of refl t.left_out, ← same_sums details_of refl t.left_out) given
