-- The walk over the chunks of a canonical file: each is judged fine, and what each contributes.
use Rattle.std.specs.Prelude.{if◌then◌else◌}
use Prim.Native.Nat.{ℕ, suc, ◌+◌, ◌^◌, ◌≤◌, ◌<◌}
use Prim.Native.String.{String}
use mathlib.Core.Path.{◌≡◌, refl, ◌∙◌}
use mathlib.Core.List.{List, [], ◌∷◌, ◌++◌, map, append_assoc}
use mathlib.Core.Bool.{Bool, true, false}
use mathlib.Core.Option.{Option, none, some}
use native.Mathlib.Omega.{arith}
use lib.Dec.{ltb, eqb}
use lib.ListN.{length, length-append, length-map}
use borrow.Author.Tests.{ltb-true}
use Rattle.format.specs.Bytes.{number, spelt, all, joined}
use Rattle.format.specs.Items.{fine, ◌and_then◌}
use Rattle.format.specs.declared.Kind.{Kind}
use Rattle.format.specs.declared.Kind.TheVariants.{LWO2}
use Rattle.format.specs.Chunks.{Chunk, size_of, chunk_of, Chunks, finished, chunk}
use Rattle.format.specs.Mesh.{Point, Polygon, Name, Surface, Mesh}
use Rattle.format.specs.Bodies.{Part, point_list, name_list, polygon_list, surface}
use Rattle.format.specs.Rules.{Before, start, after, count, when◌read◌, judge, located}
use Rattle.format.specs.Promises.{walk_parts}
use Rattle.format.specs.Canonical.{string_bytes, point_bytes, polygon_bytes, type_of, pairs_of, pair_bytes, surface_bytes, runs, unless_empty, tagging_chunk, run_chunks, surface_chunks, encoded}
use Rattle.format.specs.Written.{good_polygon, good_names, good_surface}
use Rattle.format.proofs.Facts.{every_at, all_first, all_rest, all_append}
use Rattle.format.proofs.ChunkWalk.{parts_finished, parts_chunk}
use Rattle.laws.proofs.Reading.{wholly, Row, none, more}
use Rattle.laws.proofs.Chunks.{is_tag, shorter, reads_chunk}
use Rattle.laws.proofs.Tiles.{in_front}
use Rattle.laws.proofs.GoodPolygons.{good_polygon_lem}
use Rattle.laws.proofs.Bodies.{good_point, ends_points, good_name, ends_names, bare, ends_run, TagType, surface_type, part_type, tagging_of, ends_pairs, written, ends_surface}

-- ---- chunks judged one after the other

-- one chunk that is judged fine, and then the chunks after it
pub walk_on : (kind : Kind) (b : Before) (place t : ℕ) (body : List ℕ) (rest : Chunks) {part : Part} {parts : List Part} → judge kind b t body ≡ fine part
    → walk_parts kind (after b part) (place + size_of 4 (length body)) rest ≡ fine parts → walk_parts kind b place (chunk t body rest) ≡ fine (part ∷ parts)
unfolding located ◌and_then◌
walk_on kind b place t body rest judged later = parts_chunk kind b place t body rest ∙ rw (judged, later)

-- chunks, as they are written, that are judged fine one after the other, and what they contribute
pub data WalkedAs : Before → List (String × List ℕ) → List Part → Type 0 where
  over : {b : Before} → WalkedAs b [] []
  on : {b : Before} {c : String × List ℕ} {cs : List (String × List ℕ)} {p : Part} {ps : List Part} → is_tag c.0 ≡ true
      → judge LWO2 b (number (spelt c.0)) c.1 ≡ fine p → WalkedAs (after b p) cs ps → WalkedAs b (c ∷ cs) (p ∷ ps)

-- such a chunk, as it is read
abbrev pub as_read : String × List ℕ → Chunk
as_read c = record { tag = number (spelt c.0); body = c.1 }

pub row_judged : {b : Before} {cs : List (String × List ℕ)} {ps : List Part} → WalkedAs b cs ps → length (joined (map encoded cs)) < 256 ^ 4
    → Row (chunk_of 4) (map encoded cs) (map as_read cs)
unfolding joined
row_judged over small = none
row_judged (on {c = c} {cs = cs} good judged later) small =
    let long = length-append (encoded c) (joined (map encoded cs)) in
    let less = shorter 4 c.0 c.1 good in
    more (reads_chunk 4 c.0 c.1 good (omega arith)) (omega arith) (row_judged later (omega arith))

pub walk_judged : {b : Before} {cs : List (String × List ℕ)} {ps : List Part} (place : ℕ) → WalkedAs b cs ps
    → walk_parts LWO2 b place (in_front (map as_read cs) finished) ≡ fine ps
unfolding in_front
walk_judged {b} place over = parts_finished LWO2 b place
walk_judged place (on {c = c} {cs = cs} good judged later) =
    walk_on LWO2 _ place _ c.1 (in_front (map as_read cs) finished) judged (walk_judged (place + size_of 4 (length c.1)) later)

-- ---- each kind of chunk

-- how long the latest point list, the latest POLS and the name list are, where there are such
abbrev pub state : Option ℕ → Option ℕ → Option ℕ → Before
state ps gs ns = record { points = ps; polygons = gs; names = ns }

judged_names : (ns : List Name) → good_names [] ns ≡ true → judge LWO2 start (number (spelt "TAGS")) (joined (map string_bytes ns)) ≡ fine (name_list ns)
unfolding judge when◌read◌ number
judged_names ns ok = wholly 0 8 (ends_names ns ok)

judged_points : (b : Before) (ps : List Point) → all good_point ps ≡ true
    → judge LWO2 b (number (spelt "PNTS")) (joined (map point_bytes ps)) ≡ fine (point_list ps)
unfolding judge when◌read◌ number
judged_points b ps ok = wholly 0 8 (ends_points ps ok)

judged_run : (point_count name_count : ℕ) (gs ns : Option ℕ) → point_count ≤ 2 ^ 24 → (p : Polygon) (r : List Polygon)
    → all (good_polygon point_count name_count) (p ∷ r) ≡ true
    → judge LWO2 (state (some point_count) gs ns) (number (spelt "POLS")) (spelt (type_of p.kind) ++ joined (map polygon_bytes (p ∷ r))) ≡ fine (polygon_list (map (bare p.kind) (p ∷ r)) 0)
unfolding judge when◌read◌ number
judged_run point_count name_count gs ns few p r ok =
    wholly 0 8 (ends_run point_count name_count p.kind few (good_polygon_lem point_count name_count p (all_first _ p r ok)).kinds (p ∷ r) ok)

judged_pairs : {type : String} {number_of_lem : Polygon → ℕ} → TagType type number_of_lem
    → (point_count polygon_count : ℕ) (pts ns : Option ℕ) → polygon_count ≤ 2 ^ 24 → (ps : List Polygon) → length ps ≤ polygon_count
    → all (good_polygon point_count (count ns)) ps ≡ true
    → judge LWO2 (state pts (some polygon_count) ns) (number (spelt "PTAG")) (spelt type ++ joined (map pair_bytes (pairs_of number_of_lem 0 ps))) ≡ fine (tagging_of type (pairs_of number_of_lem 0 ps))
unfolding judge when◌read◌ number
judged_pairs tag point_count polygon_count pts ns few ps fits ok = wholly 0 8 (ends_pairs tag point_count polygon_count (count ns) few ps fits ok)

judged_surface : (b : Before) (earlier : List Name) (n : Name) (ns : List Name) (s : Surface) → good_names earlier (n ∷ ns) ≡ true → good_surface s ≡ true
    → judge LWO2 b (number (spelt "SURF")) (surface_bytes n s) ≡ fine (surface (written n s))
unfolding judge when◌read◌ number good_surface
judged_surface b earlier n ns s names_ok ok = wholly 0 8 (ends_surface n s (good_name earlier n ns names_ok).no_zero (every_at _ 2 ok) (every_at _ 1 ok))

-- ---- the chunks of a canonical file, in front of any that follow

-- how many there are, where there are any
abbrev pub counted : {A : Type 0} → List A → Option ℕ
counted [] = none
counted (x ∷ xs) = some (suc (length xs))

count_counted : {A : Type 0} (xs : List A) → count (counted xs) ≡ length xs
count_counted [] = refl
count_counted (x ∷ xs) = refl

-- what a chunk that is left out where it is empty contributes
abbrev pub unless : {A : Type 0} → (List A → Part) → List A → List Part
unless part [] = []
unless part (x ∷ xs) = part (x ∷ xs) ∷ []

-- `next xs` is the state after the chunk of xs, and `next []` the one before it
on_unless : {A : Type 0} {cs : List (String × List ℕ)} {ps : List Part} (tag type : String) (bytes_of : A → List ℕ) (part : List A → Part) (next : List A → Before) (xs : List A)
    → is_tag tag ≡ true → ((x : A) (xs : List A) → next (x ∷ xs) ≡ after (next []) (part (x ∷ xs)))
    → judge LWO2 (next []) (number (spelt tag)) (spelt type ++ joined (map bytes_of xs)) ≡ fine (part xs)
    → WalkedAs (next xs) cs ps → WalkedAs (next []) (unless_empty tag type bytes_of xs ++ cs) (unless part xs ++ ps)
unfolding unless_empty
on_unless tag type bytes_of part next [] good step judged later = later
on_unless tag type bytes_of part next (x ∷ xs) good step judged later = on good judged (rw (step x xs) at later)

pub on_names : {cs : List (String × List ℕ)} {ps : List Part} (ns : List Name) → good_names [] ns ≡ true → WalkedAs (state none none (counted ns)) cs ps
    → WalkedAs start (unless_empty "TAGS" "" string_bytes ns ++ cs) (unless name_list ns ++ ps)
unfolding all after
on_names ns ok later = on_unless "TAGS" "" string_bytes name_list (λ ns. state none none (counted ns)) ns refl (λ n ns. refl) (judged_names ns ok) later

pub on_points : {cs : List (String × List ℕ)} {ps : List Part} (nms : Option ℕ) (pts : List Point) → all good_point pts ≡ true
    → WalkedAs (state (counted pts) none nms) cs ps
    → WalkedAs (state none none nms) (unless_empty "PNTS" "" point_bytes pts ++ cs) (unless point_list pts ++ ps)
unfolding all after
on_points nms pts ok later = on_unless "PNTS" "" point_bytes point_list (λ pts. state (counted pts) none nms) pts refl (λ p ps. refl) (judged_points _ pts ok) later

on_pairs : {type : String} {number_of_lem : Polygon → ℕ} → TagType type number_of_lem
    → {cs : List (String × List ℕ)} {ps : List Part} (pts : Option ℕ) (point_count polygon_count : ℕ) (ns : List Name) (r : List Polygon)
    → length r ≤ polygon_count → polygon_count ≤ 2 ^ 24 → all (good_polygon point_count (length ns)) r ≡ true
    → WalkedAs (state pts (some polygon_count) (counted ns)) cs ps
    → WalkedAs (state pts (some polygon_count) (counted ns)) (tagging_chunk type number_of_lem r ++ cs) (unless (tagging_of type) (pairs_of number_of_lem 0 r) ++ ps)
unfolding all after
on_pairs {type} {number_of_lem} tag pts point_count polygon_count ns r fits few ok later =
    on_unless "PTAG" type pair_bytes (tagging_of type) (λ ts. state pts (some polygon_count) (counted ns)) (pairs_of number_of_lem 0 r) refl (λ t ts. refl)
    (judged_pairs tag point_count polygon_count pts (counted ns) few r fits (rw (count_counted ns) ok)) later

-- what a run's polygons are tagged by: their surfaces, and then their part names
abbrev pub surface_tags : List Polygon → List Part
surface_tags r = unless (tagging_of "SURF") (pairs_of (λ p. p.surface) 0 r)

abbrev pub part_tags : List Polygon → List Part
part_tags r = unless (tagging_of "PART") (pairs_of (λ p. p.part_name) 0 r)

-- what a run contributes
unfoldable pub run_parts : List Polygon → List Part
run_parts [] = []
run_parts (p ∷ r) = polygon_list (map (bare p.kind) (p ∷ r)) 0 ∷ (surface_tags (p ∷ r) ++ part_tags (p ∷ r))

some_point : (point_count name_count : ℕ) (p : Polygon) → good_polygon point_count name_count p ≡ true → 0 < point_count
some_point point_count name_count p ok = let g = good_polygon_lem point_count name_count p ok in go p.vertices g.count.0 g.vertices
  where
    go : (vs : List ℕ) → 1 ≤ length vs → all (λ v. ltb v point_count) vs ≡ true → 0 < point_count
    go [] long ok = absurd (omega arith)
    go (v ∷ vs) long ok = omega (arith, ltb-true v point_count (all_first _ v vs ok))

on_run : {cs : List (String × List ℕ)} {ps : List Part} (gs : Option ℕ) (pts : List Point) (ns : List Name) → length pts ≤ 2 ^ 24 → (r : List Polygon)
    → length r ≤ 2 ^ 24
    → all (good_polygon (length pts) (length ns)) r ≡ true → ((gs : Option ℕ) → WalkedAs (state (counted pts) gs (counted ns)) cs ps)
    → WalkedAs (state (counted pts) gs (counted ns)) (run_chunks r ++ cs) (run_parts r ++ ps)
unfolding run_chunks run_parts unless_empty after all
on_run gs pts ns few [] short ok later = later gs
on_run gs [] ns few (p ∷ r) short ok later = absurd (omega (arith, some_point 0 (length ns) p (all_first (good_polygon 0 (length ns)) p r ok)))
on_run {cs} {ps} gs (pt ∷ pts) ns few (p ∷ r) short ok later =
    let n : ℕ = suc (length pts) in
    let same : length (map (bare p.kind) (p ∷ r)) ≡ suc (length r) = length-map (p ∷ r) (bare p.kind) in
    let surfaces = tagging_chunk "SURF" (λ p. p.surface) (p ∷ r) in
    let parts = tagging_chunk "PART" (λ p. p.part_name) (p ∷ r) in
    on {cs = (surfaces ++ parts) ++ cs} {ps = (surface_tags (p ∷ r) ++ part_tags (p ∷ r)) ++ ps} refl (judged_run n (length ns) gs (counted ns) few p r ok)
    (rw (append_assoc surfaces parts cs, append_assoc (surface_tags (p ∷ r)) (part_tags (p ∷ r)) ps)
    (on_pairs surface_type (some n) n _ ns (p ∷ r) (omega arith) (omega arith) ok (on_pairs part_type (some n) n _ ns (p ∷ r) (omega arith) (omega arith) ok (later _))))

pub on_runs : {cs : List (String × List ℕ)} {ps : List Part} (gs : Option ℕ) (pts : List Point) (ns : List Name) → length pts ≤ 2 ^ 24
    → (rs : List (List Polygon))
    → length (joined rs) ≤ 2 ^ 24 → all (good_polygon (length pts) (length ns)) (joined rs) ≡ true
    → ((gs : Option ℕ) → WalkedAs (state (counted pts) gs (counted ns)) cs ps)
    → WalkedAs (state (counted pts) gs (counted ns)) (joined (map run_chunks rs) ++ cs) (joined (map run_parts rs) ++ ps)
unfolding joined
on_runs gs pts ns few [] short ok later = later gs
on_runs {cs} {ps} gs pts ns few (r ∷ rs) short ok later =
    let both = all_append _ r (joined rs) ok in
    let long = length-append r (joined rs) in
    rw (append_assoc (run_chunks r) (joined (map run_chunks rs)) cs, append_assoc (run_parts r) (joined (map run_parts rs)) ps)
    (on_run gs pts ns few r (omega arith) both.0 (λ gs. on_runs gs pts ns few rs (omega arith) both.1 later))

-- what the surfaces contribute
unfoldable pub surface_parts : List Name → List Surface → List Part
surface_parts [] ss = []
surface_parts (n ∷ ns) [] = []
surface_parts (n ∷ ns) (s ∷ ss) = (if eqb s.defined 1 then surface (written n s) ∷ [] else []) ++ surface_parts ns ss

pub on_surfaces : (b : Before) (earlier ns : List Name) (ss : List Surface) → good_names earlier ns ≡ true → all good_surface ss ≡ true
    → WalkedAs b (surface_chunks ns ss) (surface_parts ns ss)
unfolding surface_chunks surface_parts
on_surfaces b earlier [] ss names_ok ok = over
on_surfaces b earlier (n ∷ ns) [] names_ok ok = over
on_surfaces b earlier (n ∷ ns) (s ∷ ss) names_ok ok =
    go (eqb s.defined 1) (judged_surface b earlier n ns s names_ok (all_first _ s ss ok))
    (on_surfaces b (earlier ++ (n ∷ [])) ns ss (good_name earlier n ns names_ok).rest (all_rest _ s ss ok))
  where
    go : (d : Bool) → judge LWO2 b (number (spelt "SURF")) (surface_bytes n s) ≡ fine (surface (written n s))
        → WalkedAs b (surface_chunks ns ss) (surface_parts ns ss)
        → WalkedAs b ((if d then ("SURF", surface_bytes n s) ∷ [] else []) ++ surface_chunks ns ss) ((if d then surface (written n s) ∷ [] else []) ++ surface_parts ns ss)
    go true judged later = unfold all after in on refl judged later
    go false judged later = later

-- what the chunks of a canonical file contribute
abbrev pub canonical_parts : Mesh → List Part
canonical_parts m = unless name_list m.names ++ (unless point_list m.points ++ (joined (map run_parts (runs m.polygons)) ++ surface_parts m.names m.surfaces))
