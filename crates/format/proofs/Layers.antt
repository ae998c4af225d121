-- A layer: how its chunk is judged, what may not follow it, and that nothing of it is kept: an accepted file's layers change no mesh, since polygons come after
-- points of their own layer, and tags after polygons of it.
use Prim.Native.Nat.{ℕ, ◌+◌}
use mathlib.Core.Path.{◌≡◌, refl, sym, ap, ◌∙◌}
use mathlib.Core.List.{List, [], ◌∷◌, ◌++◌, map, foldl, append_assoc, append-nil}
use mathlib.Core.Option.{Option, none}
use mathlib.Core.Bool.{Bool, true, false, not}
use native.Mathlib.Omega.{arith}
use lib.ListN.{length}
use Rattle.format.specs.declared.Kind.{Kind}
use Rattle.format.specs.declared.Kind.TheVariants.{LWOB, LWO2}
use Rattle.format.specs.declared.Fault.TheVariants.{OutOfOrder, WrongLength, ItemCut, StringOpen, NotFinite}
use Rattle.format.specs.Bytes.{tag_number, number, finite, all, sum, joined}
use Rattle.format.specs.Items.{fine, fault, ◌and_then◌, ◌>>=◌, ◌or◌unless◌, whole, up_to, item, uint, float, to_zero, string}
use Rattle.format.specs.Chunks.{Chunks}
use Rattle.format.specs.Mesh.{Polygon}
use Rattle.format.specs.Bodies.{Part, point_list, name_list, polygon_list, tagging, surface, layer, skipped_chunk, point, layer_body}
use Rattle.format.specs.Rules.{Before, after, there, when◌read◌, unlisted_tag, judge, added, points_of, names_of, surfaces_of, polygons_in, mesh_of}
use Rattle.format.specs.Promises.{walk_parts}
use Rattle.format.specs.Worked.{digit, pairs, hex}
use Rattle.format.proofs.Facts.{impossible, all_first, all_rest}
use Rattle.format.proofs.ChunkWalk.{EachPart, any_body, walk_each}
use Rattle.format.proofs.ChunkWalk.EachPart.{no_more, one_more}
use Rattle.format.proofs.PartByTag.{always}

-- ---- the chunk

-- "In LWO2 LAYR is no longer skipped, nor an unlisted chunk for demand 3; in LWOB it stays both."
pub layr_listed : unlisted_tag LWO2 (tag_number "LAYR") ≡ false
unfolding number all
layr_listed = refl

pub layr_unlisted : unlisted_tag LWOB (tag_number "LAYR") ≡ true
unfolding number all
layr_unlisted = refl

-- a body of zeros up to an empty name, and of a parent no byte, one, two and three; then with a pivot that is not finite in x, in y and in z, and with a name
-- that does not end
abbrev bodies : List (List ℕ)
bodies =
    hex "000000000000000000000000000000000000"
    ∷ hex "00000000000000000000000000000000000000"
    ∷ hex "0000000000000000000000000000000000000000"
    ∷ hex "000000000000000000000000000000000000000000"
    ∷ hex "000000007f80000000000000000000000000"
    ∷ hex "0000000000000000ff800000000000000000"
    ∷ hex "0000000000000000000000007fc000000000"
    ∷ hex "000000000000000000000000000000006162"
    ∷ []

pub bodies_judged : map (whole 0 layer_body 8) bodies
    ≡ fine layer ∷ fault ItemCut 26 ∷ fine layer ∷ fault WrongLength 0 ∷ fault NotFinite 12 ∷ fault NotFinite 16 ∷ fault NotFinite 20 ∷ fault StringOpen 24 ∷ []
unfolding digit pairs hex number finite all ◌and_then◌ ◌>>=◌ ◌or◌unless◌ whole up_to item uint float to_zero string point layer_body
bodies_judged = refl

-- ---- what may not follow it

-- whether a part is a new point list, and whether it is a new polygon list
abbrev new_lists : Part → Bool × Bool
new_lists (point_list ps) = (true, false)
new_lists (name_list ns) = (false, false)
new_lists (polygon_list ps n) = (false, true)
new_lists (tagging t ts) = (false, false)
new_lists (surface s) = (false, false)
new_lists layer = (false, false)
new_lists skipped_chunk = (false, false)

abbrev no_points : Part → Bool
no_points part = not (new_lists part).0

abbrev no_polygons : Part → Bool
no_polygons part = not (new_lists part).1

-- a list that is missing stays so, up to the next one
one_part : (b : Before) (part : Part)
    → (no_points part ≡ true → b.points ≡ none → (after b part).points ≡ none) × (no_polygons part ≡ true → b.polygons ≡ none → (after b part).polygons ≡ none)
unfolding after
one_part b (point_list ps) = (λ e missing. impossible cc, λ e missing. missing)
one_part b (name_list ns) = (λ e missing. missing, λ e missing. missing)
one_part b (polygon_list ps n) = (λ e missing. missing, λ e missing. impossible cc)
one_part b (tagging t ts) = (λ e missing. missing, λ e missing. missing)
one_part b (surface s) = (λ e missing. missing, λ e missing. missing)
one_part b layer = (λ e missing. refl, λ e missing. refl)
one_part b skipped_chunk = (λ e missing. missing, λ e missing. missing)

module _ (list : Before → Option ℕ) (no_new : Part → Bool) (one : (b : Before) (part : Part) → no_new part ≡ true → list b ≡ none → list (after b part) ≡ none) where
  still_missing : (b : Before) (parts : List Part) → all no_new parts ≡ true → list b ≡ none → list (foldl after b parts) ≡ none
  still_missing b [] e missing = missing
  still_missing b (p ∷ ps) e missing = still_missing (after b p) ps (all_rest no_new p ps e) (one b p (all_first no_new p ps e) missing)

-- "POLS with no PNTS since it": any parts but point lists come between
pub polygons_of_another_layer : (b : Before) (parts : List Part) (body : List ℕ) → all no_points parts ≡ true
    → judge LWO2 (foldl after (after b layer) parts) (tag_number "POLS") body ≡ fault OutOfOrder 0
unfolding judge when◌read◌ number
polygons_of_another_layer b parts body e =
    rw (still_missing (λ b. b.points) no_points (λ b part. (one_part b part).0) (after b layer) parts e (unfold after in refl))

-- "or PTAG with no POLS since it, is 5", of any type
pub tags_of_another_layer : (b : Before) (parts : List Part) (body : List ℕ) → all no_polygons parts ≡ true
    → judge LWO2 (foldl after (after b layer) parts) (tag_number "PTAG") body ≡ fault OutOfOrder 0
unfolding judge when◌read◌ number
tags_of_another_layer b parts body e =
    rw (still_missing (λ b. b.polygons) no_polygons (λ b part. (one_part b part).1) (after b layer) parts e (unfold after in refl))

-- names are the file's
pub names_outlive : (b : Before) → (after b layer).names ≡ b.names
unfolding after
names_outlive b = refl

-- ---- "The mesh doesn't keep the layer."

-- parts, and the same with some of the layers left out
pub data LayersOut : List Part → List Part → Type 0 where
  none_left : LayersOut [] []
  kept : {part : Part} {parts parts' : List Part} → LayersOut parts parts' → LayersOut (part ∷ parts) (part ∷ parts')
  out : {parts parts' : List Part} → LayersOut parts parts' → LayersOut (layer ∷ parts) parts'

-- what 5 asks of a part
abbrev InOrder : Before → Part → Type 0
InOrder b (point_list ps) = Unit
InOrder b (name_list ns) = Unit
InOrder b (polygon_list ps n) = there b.points ≡ true
InOrder b (tagging t ts) = there b.polygons ≡ true
InOrder b (surface s) = Unit
InOrder b layer = Unit
InOrder b skipped_chunk = Unit

chunk_in_order : (kind : Kind) (b : Before) (t : ℕ) (body : List ℕ) (part : Part) → judge kind b t body ≡ fine part → InOrder b part
chunk_in_order kind b t body part j =
    (always (InOrder b) kind b t
    (record {
      of_points = λ e ps. tt;
      of_names = λ e missing ns. tt;
      of_polygons = λ ok ps n. ok;
      of_tagging = λ ok type ts. ok;
      of_surface = λ e s. tt;
      of_layer = tt;
      of_skipped = tt;
    })
    ).each body part j

walk_in_order : (kind : Kind) (b : Before) (place : ℕ) (cs : Chunks) (parts : List Part) → walk_parts kind b place cs ≡ fine parts → EachPart InOrder b parts
walk_in_order kind b place cs parts e = walk_each kind InOrder _ (λ b t body part has j. chunk_in_order kind b t body part j) b place (any_body cs) parts e

-- the latest polygons come out, and then others
all_out : (early latest : List Polygon) {latest' now now' : List Polygon} → early ++ latest ≡ latest' → now ≡ now'
    → early ++ (latest ++ now) ≡ latest' ++ now'
all_out early latest {latest'} {now} {now'} both same =
    sym (append_assoc early latest now) ∙ ap (λ (l : List Polygon). l ++ now) both ∙ ap (λ (l : List Polygon). latest' ++ l) same

-- With the layers the polygons `early` came out earlier, and the latest list may start elsewhere while it is missing.
same_polygons : {b : Before} {parts parts' : List Part} → EachPart InOrder b parts → LayersOut parts parts' → (base base' end : ℕ) (early latest latest' : List Polygon)
    → (there b.points ≡ true → base ≡ base')
    → (there b.polygons ≡ true → early ≡ []) → early ++ latest ≡ latest'
    → early ++ polygons_in base end latest parts ≡ polygons_in base' end latest' parts'
unfolding polygons_in after
same_polygons no_more none_left base base' end early latest latest' bases none_early both = both
same_polygons (one_more {part = point_list ps} o os) (kept r) base base' end early latest latest' bases none_early both =
    same_polygons os r end end (end + length ps) early latest latest' (λ e. refl) none_early both
same_polygons (one_more {part = name_list ns} o os) (kept r) base base' end early latest latest' bases none_early both =
    same_polygons os r base base' end early latest latest' bases none_early both
same_polygons (one_more {part = polygon_list ps n} o os) (kept r) base base' end early latest latest' bases none_early both =
    rw (← bases o) (all_out early latest both (same_polygons os r base base end [] _ _ (λ e. refl) (λ e. refl) refl))
same_polygons (one_more {part = tagging t ts} o os) (kept r) base base' end early latest latest' bases none_early both =
    rw (← both, none_early o) (same_polygons os r base base' end [] _ _ bases (λ e. refl) refl)
same_polygons (one_more {part = surface s} o os) (kept r) base base' end early latest latest' bases none_early both =
    same_polygons os r base base' end early latest latest' bases none_early both
same_polygons (one_more {part = layer} o os) (kept r) base base' end early latest latest' bases none_early both =
    all_out early latest both (same_polygons os r end end end [] [] [] (λ e. refl) (λ e. refl) refl)
same_polygons (one_more {part = layer} o os) (out r) base base' end early latest latest' bases none_early both =
    sym (append_assoc early latest _) ∙ same_polygons os r end base' end (early ++ latest) [] latest' (λ e. impossible cc) (λ e. impossible cc) (append-nil (early ++ latest) ∙ both)
same_polygons (one_more {part = skipped_chunk} o os) (kept r) base base' end early latest latest' bases none_early both =
    same_polygons os r base base' end early latest latest' bases none_early both

-- what is added up over the parts, where a layer adds nothing
module _ {A : Type 0} (total : List Part → A) (with : Part → A → A) (step : (p : Part) (ps : List Part) → total (p ∷ ps) ≡ with p (total ps)) (none_in : (x : A) → with layer x ≡ x) where
  same_total : {parts parts' : List Part} → LayersOut parts parts' → total parts ≡ total parts'
  same_total none_left = refl
  same_total (kept {part = p} {parts = ps} {parts' = qs} r) = step p ps ∙ ap (with p) (same_total r) ∙ sym (step p qs)
  same_total (out {parts = ps} r) = step layer ps ∙ none_in (total ps) ∙ same_total r

same_lists : {A : Type 0} (f : Part → List A) → f layer ≡ [] → {parts parts' : List Part} → LayersOut parts parts' → joined (map f parts) ≡ joined (map f parts')
unfolding joined
same_lists f none_in r = same_total (λ ps. joined (map f ps)) (λ p l. f p ++ l) (λ p ps. refl) (λ l. rw none_in) r

pub same_sums : (f : Part → ℕ) → f layer ≡ 0 → {parts parts' : List Part} → LayersOut parts parts' → sum (map f parts) ≡ sum (map f parts')
unfolding sum
same_sums f none_in r = same_total (λ ps. sum (map f ps)) (λ p n. f p + n) (λ p ps. refl) (λ n. omega (arith, none_in)) r

pub layers_not_kept : (kind : Kind) (b : Before) (place : ℕ) (cs : Chunks) {parts parts' : List Part} → walk_parts kind b place cs ≡ fine parts
    → LayersOut parts parts' → mesh_of kind parts ≡ mesh_of kind parts'
unfolding mesh_of added
layers_not_kept kind b place cs e r =
    rw (same_lists points_of refl r, same_lists names_of refl r, same_lists surfaces_of refl r, same_polygons (walk_in_order kind b place cs _ e) r 0 0 0 [] [] [] (λ e. refl) (λ e. refl) refl)
