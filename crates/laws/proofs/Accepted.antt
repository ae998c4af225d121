-- What is accepted is a mesh: each chunk of bytes contributes what is good, the numbers of points and names only grow, and names come once.
use Rattle.std.specs.Prelude.{if◌then◌else◌}
use Prim.Native.Nat.{ℕ, zero, suc, ◌+◌, ◌≤◌}
use Prim.Native.String.{String}
use mathlib.Core.Path.{◌≡◌, refl, sym, ap, ◌∙◌}
use mathlib.Core.List.{List, [], ◌∷◌, map, append-nil}
use mathlib.Core.Option.{Option, none, some}
use mathlib.Core.Bool.{Bool, true, false, not, ◌&&◌, true≢false, and-eq-true_iff}
use native.Mathlib.Omega.{arith}
use lib.Dec.{leb, ltb}
use lib.ListN.{length, take, drop, get_or, length-append, length-map}
use borrow.Author.Tests.{leb-true, lt-ltb, ltb-true, eq-eqb, eqb-true, not-true}
use Rattle.format.specs.declared.Kind.{Kind}
use Rattle.format.specs.declared.Kind.TheVariants.{LWOB, LWO2}
use Rattle.format.specs.declared.Fault.TheVariants.{BadHeader}
use Rattle.format.specs.Bytes.{◌is◌, spelt, number, f32_one, byte, between, finite, every, all, joined, same}
use Rattle.format.specs.Limits.{tag_limit}
use Rattle.format.specs.Items.{Verdict, fine, fault, Got}
use Rattle.format.specs.Chunks.{Chunk, size_of, length_of, well_formed, chunk_of, Chunks, link, split, chunks}
use Rattle.format.specs.Mesh.{point_words, Polygon, Name, Surface, missing, levels, Mesh}
use Rattle.format.specs.Surfaces.{Value, side_number, last_of, bit, record_of}
use Rattle.format.specs.Bodies.{Part, SurfaceChunk, point_list, name_list, polygon_list, tagging, surface, layer, skipped_chunk}
use Rattle.format.specs.Rules.{added, Before, start, after, there, count, points_of, names_of, surfaces_of, standing, record_for, from, with_tag, retag, tagged, polygons_in, mesh_of, gives, rules}
use Rattle.format.specs.Written.{good_polygon, good_names, good_surface, good_mesh}
use Rattle.format.proofs.Facts.{both, all_first, all_rest, all_append_true, all_drop, all_part, between_true}
use Rattle.format.proofs.Tagging.{tag_cases}
use Rattle.format.proofs.ChunkWalk.{EachPart, EachBody, walk_each, accepted}
use Rattle.format.proofs.ChunkWalk.EachPart.{no_more, one_more}
use Rattle.format.proofs.ChunkWalk.EachBody.{at_end, no_chunk, more}
use Rattle.laws.proofs.GoodPolygons.{GoodTag, good_polygon_lem, is_good}
use Rattle.laws.proofs.Readers.{good_value, good_part, part_good}

-- ---- chunks of bytes

abbrev ByteChunks : Chunks → Type 0
ByteChunks cs = EachBody (λ body. all byte body ≡ true) cs

abbrev InBytes : Verdict (Got Chunk) → Type 0
InBytes (fine c) = (all byte c.value.body ≡ true) × (all byte c.left ≡ true)
InBytes (fault why at) = Unit

chunk_bytes : (s : List ℕ) → all byte s ≡ true → InBytes (chunk_of 4 0 s)
unfolding chunk_of
chunk_bytes s e = by (well_formed 4 s)
  where
    by : (t : Bool)
        → InBytes (if t then fine (record { value = record { tag = number (take 4 s); body = take (length_of 4 s) (drop 8 s) }; next = 0 + size_of 4 (length_of 4 s); left = drop (size_of 4 (length_of 4 s)) s }) else fault BadHeader 0)
    by true = (all_part byte s 8 (length_of 4 s) e, all_drop byte s (size_of 4 (length_of 4 s)) e)
    by false = tt

split_bytes : (n : ℕ) (s : List ℕ) → all byte s ≡ true → ByteChunks (split n s)
unfolding split link
split_bytes zero s e = at_end
split_bytes (suc n) [] e = at_end
split_bytes (suc n) (b ∷ s) e = by (chunk_of 4 0 (b ∷ s)) (chunk_bytes (b ∷ s) e) (λ left w. split_bytes n left w)
  where
    by : (v : Verdict (Got Chunk)) → InBytes v → ((left : List ℕ) → all byte left ≡ true → ByteChunks (split n left)) → ByteChunks (link (split n) v)
    by (fine c) w later = more w.0 (later c.left w.1)
    by (fault why at) w later = no_chunk

-- ---- the parts of a file

abbrev GoodParts : Kind → Before → List Part → Type 0
GoodParts kind b parts = EachPart (λ b part. good_part kind b part ≡ true) b parts

-- ---- points and names

points_good : (kind : Kind) {b : Before} {parts : List Part} → GoodParts kind b parts
    → all (λ p. all finite (point_words p)) (joined (map points_of parts)) ≡ true
unfolding joined added all
points_good kind no_more = refl
points_good kind (one_more {part = point_list ps} g gs) = all_append_true _ ps _ g (points_good kind gs)
points_good kind (one_more {part = name_list ns} g gs) = points_good kind gs
points_good kind (one_more {part = polygon_list ps n} g gs) = points_good kind gs
points_good kind (one_more {part = tagging t ts} g gs) = points_good kind gs
points_good kind (one_more {part = surface s} g gs) = points_good kind gs
points_good kind (one_more {part = layer} g gs) = points_good kind gs
points_good kind (one_more {part = skipped_chunk} g gs) = points_good kind gs

-- names come once
no_more_names : (kind : Kind) {b : Before} {parts : List Part} → GoodParts kind b parts → there b.names ≡ true → joined (map names_of parts) ≡ []
unfolding joined added after
no_more_names kind no_more e = refl
no_more_names kind (one_more {part = point_list ps} g gs) e = no_more_names kind gs e
no_more_names kind (one_more {b = b} {part = name_list ns} g gs) e = absurd (true≢false (sym e ∙ not-true (there b.names) ((and-eq-true_iff (not (there b.names)) (good_names [] ns)).0 g).0))
no_more_names kind (one_more {part = polygon_list ps n} g gs) e = no_more_names kind gs e
no_more_names kind (one_more {part = tagging t ts} g gs) e = no_more_names kind gs e
no_more_names kind (one_more {part = surface s} g gs) e = no_more_names kind gs e
no_more_names kind (one_more {part = layer} g gs) e = no_more_names kind gs e
no_more_names kind (one_more {part = skipped_chunk} g gs) e = no_more_names kind gs e

names_good : (kind : Kind) {b : Before} {parts : List Part} → GoodParts kind b parts → good_names [] (joined (map names_of parts)) ≡ true
unfolding joined added good_names after
names_good kind no_more = refl
names_good kind (one_more {part = point_list ps} g gs) = names_good kind gs
names_good kind (one_more {b = b} {part = name_list ns} g gs) = rw (no_more_names kind gs refl, append-nil ns) ((and-eq-true_iff (not (there b.names)) (good_names [] ns)).0 g).1
names_good kind (one_more {part = polygon_list ps n} g gs) = names_good kind gs
names_good kind (one_more {part = tagging t ts} g gs) = names_good kind gs
names_good kind (one_more {part = surface s} g gs) = names_good kind gs
names_good kind (one_more {part = layer} g gs) = names_good kind gs
names_good kind (one_more {part = skipped_chunk} g gs) = names_good kind gs

-- ---- polygons

module _ (P N : ℕ) where
  moved_vertices : (base point_count : ℕ) (vs : List ℕ) → base + point_count ≤ P → all (λ v. ltb v point_count) vs ≡ true
      → all (λ v. ltb v P) (map (λ v. base + v) vs) ≡ true
  unfolding all
  moved_vertices base point_count [] l e = refl
  moved_vertices base point_count (v ∷ vs) l e =
      let below = ltb-true v point_count (all_first (λ v. ltb v point_count) v vs e) in
      both (lt-ltb (base + v) P (omega arith)) (moved_vertices base point_count vs l (all_rest (λ v. ltb v point_count) v vs e))

  tag_moved : {name_count n : ℕ} → name_count ≤ N → GoodTag name_count n → GoodTag N n
  tag_moved few g = record { named = omega (arith, g.named); numbered = g.numbered }

  moved : (base point_count name_count : ℕ) (p : Polygon) → base + point_count ≤ P → name_count ≤ N → good_polygon point_count name_count p ≡ true
      → good_polygon P N (from base p) ≡ true
  moved base point_count name_count p l few e =
      let g = good_polygon_lem point_count name_count p e in
      let long : length (map (λ v. base + v) p.vertices) ≡ length p.vertices = length-map p.vertices (λ v. base + v) in
      is_good (record {
        kinds = g.kinds;
        count = (omega (arith, g.count.0), omega (arith, g.count.1));
        vertices = moved_vertices base point_count p.vertices l g.vertices;
        surface = tag_moved few g.surface;
        part_name = tag_moved few g.part_name;
      })

  all_moved : (base point_count name_count : ℕ) (ps : List Polygon) → base + point_count ≤ P → name_count ≤ N → all (good_polygon point_count name_count) ps ≡ true
      → all (good_polygon P N) (map (from base) ps) ≡ true
  unfolding all
  all_moved base point_count name_count [] l few e = refl
  all_moved base point_count name_count (p ∷ ps) l few e =
      both (moved base point_count name_count p l few (all_first (good_polygon point_count name_count) p ps e)) (all_moved base point_count name_count ps l few (all_rest (good_polygon point_count name_count) p ps e))

  tag_good : (type n : ℕ) (p : Polygon) → n ≤ N → n ≤ tag_limit → good_polygon P N p ≡ true → good_polygon P N (with_tag type n p) ≡ true
  tag_good type n p few small e =
      let g = good_polygon_lem P N p e in
      let tag : GoodTag N n = record { named = few; numbered = small } in
      tag_cases (λ q. good_polygon P N q ≡ true) type n p
      (is_good (record { kinds = g.kinds; count = g.count; vertices = g.vertices; surface = tag; part_name = g.part_name }))
      (is_good (record { kinds = g.kinds; count = g.count; vertices = g.vertices; surface = g.surface; part_name = tag }))
      e

  retag_good : (type i n : ℕ) (ps : List Polygon) → n ≤ N → n ≤ tag_limit → all (good_polygon P N) ps ≡ true
      → all (good_polygon P N) (retag type i n ps) ≡ true
  unfolding retag all
  retag_good type i n [] few small e = refl
  retag_good type zero n (p ∷ ps) few small e = both (tag_good type n p few small (all_first (good_polygon P N) p ps e)) (all_rest (good_polygon P N) p ps e)
  retag_good type (suc i) n (p ∷ ps) few small e = both (all_first (good_polygon P N) p ps e) (retag_good type i n ps few small (all_rest (good_polygon P N) p ps e))

  tagged_good : (type name_count : ℕ) (ts : List (ℕ × ℕ)) (ps : List Polygon) → name_count ≤ N
      → all (λ t. between 1 name_count t.1 && leb t.1 tag_limit) ts ≡ true → all (good_polygon P N) ps ≡ true
      → all (good_polygon P N) (tagged ps type ts) ≡ true
  tagged_good type name_count [] ps few e g = g
  tagged_good type name_count (t ∷ ts) ps few e g =
      let here = (and-eq-true_iff (between 1 name_count t.1) (leb t.1 tag_limit)).0 (all_first (λ (t : ℕ × ℕ). between 1 name_count t.1 && leb t.1 tag_limit) t ts e) in
      let range = between_true 1 name_count t.1 here.0 in
      tagged_good type name_count ts (retag type t.0 t.1 ps) few (all_rest (λ (t : ℕ × ℕ). between 1 name_count t.1 && leb t.1 tag_limit) t ts e)
      (retag_good type t.0 t.1 ps (omega arith) (leb-true t.1 tag_limit here.1) g)

  -- The latest points start after `base` others and are all before `end`; what the later parts add comes behind.
  polygons_good : (kind : Kind) {b : Before} {parts : List Part} → GoodParts kind b parts → (base end : ℕ) (latest : List Polygon)
      → base + count b.points ≤ end
      → end + length (joined (map points_of parts)) ≤ P → count b.names + length (joined (map names_of parts)) ≤ N → all (good_polygon P N) latest ≡ true
      → all (good_polygon P N) (polygons_in base end latest parts) ≡ true
  unfolding polygons_in joined added after all
  polygons_good kind no_more base end latest l points_in names_in g = g
  polygons_good kind (one_more {part = point_list ps} {parts = parts} h gs) base end latest l points_in names_in g =
      polygons_good kind gs end (end + length ps) latest (omega arith) (omega (arith, length-append ps (joined (map points_of parts)))) names_in g
  polygons_good kind (one_more {part = name_list ns} {parts = parts} h gs) base end latest l points_in names_in g =
      polygons_good kind gs base end latest l points_in (omega (arith, length-append ns (joined (map names_of parts)))) g
  polygons_good kind (one_more {b = b} {part = polygon_list ps n} h gs) base end latest l points_in names_in g =
      all_append_true (good_polygon P N) latest _ g
      (polygons_good kind gs base end (map (from base) ps) l points_in names_in (all_moved base (count b.points) (count b.names) ps (omega arith) (omega arith) h))
  polygons_good kind (one_more {b = b} {part = tagging t ts} h gs) base end latest l points_in names_in g =
      polygons_good kind gs base end (tagged latest t ts) l points_in names_in (tagged_good t (count b.names) ts latest (omega arith) h g)
  polygons_good kind (one_more {part = surface s} h gs) base end latest l points_in names_in g = polygons_good kind gs base end latest l points_in names_in g
  polygons_good kind (one_more {part = layer} h gs) base end latest l points_in names_in g =
      all_append_true (good_polygon P N) latest _ g (polygons_good kind gs end end [] (omega arith) points_in names_in refl)
  polygons_good kind (one_more {part = skipped_chunk} h gs) base end latest l points_in names_in g = polygons_good kind gs base end latest l points_in names_in g

-- ---- surfaces

get_d_good : (p : ℕ → Bool) (ws : List ℕ) (i now : ℕ) → all p ws ≡ true → p now ≡ true → p (get_or ws i now) ≡ true
get_d_good p [] i now e g = g
get_d_good p (w ∷ ws) zero now e g = all_first p w ws e
get_d_good p (w ∷ ws) (suc i) now e g = get_d_good p ws i now (all_rest p w ws e) g

-- the last value with a tag passes a test that all values with that tag pass
last_good : (kind : Kind) (p : ℕ → Bool) (tag : String) → ((v : Value) → v.tag is tag ≡ true → good_value kind v ≡ true → all p v.words ≡ true)
    → (vs : List Value) (i now : ℕ) → all (good_value kind) vs ≡ true → p now ≡ true → p (last_of vs tag i now) ≡ true
unfolding last_of
last_good kind p tag passes [] i now e g = g
last_good kind p tag passes (v ∷ vs) i now e g = last_good kind p tag passes vs i (if v.tag is tag then get_or v.words i now else now) (all_rest (good_value kind) v vs e) (by (v.tag is tag) refl)
  where
    by : (x : Bool) → v.tag is tag ≡ x → p (if x then get_or v.words i now else now) ≡ true
    by true q = get_d_good p v.words i now (passes v q (all_first (good_value kind) v vs e)) g
    by false q = g

-- all values with a tag pass a test where the specification's test of such a value is that one
by_tag : (kind : Kind) (p : ℕ → Bool) (tag : String) → ((ws : List ℕ) → good_value kind (record { tag = number (spelt tag); words = ws }) ≡ all p ws)
    → (v : Value) → v.tag is tag ≡ true → good_value kind v ≡ true → all p v.words ≡ true
unfolding number
by_tag kind p tag same v q e = sym (same v.words) ∙ ap (λ (t : ℕ). good_value kind (record { tag = t; words = v.words })) (sym (eqb-true v.tag (number (spelt tag)) q)) ∙ e

-- eight finite levels, a number of sides, and defined
good_record : (s : Surface) → s.defined ≡ 1 → all finite (levels s) ≡ true → side_number s.sides ≡ true → good_surface s ≡ true
unfolding good_surface every
good_record s defined floats sides = rw (defined, sides, floats)

module _ (vs : List Value) where
  module _ (e : all (good_value LWO2) vs ≡ true) where
    lwo2_level : (tag : String) → ((ws : List ℕ) → good_value LWO2 (record { tag = number (spelt tag); words = ws }) ≡ all finite ws) → (i now : ℕ) → finite now ≡ true → finite (last_of vs tag i now) ≡ true
    lwo2_level tag same i now g = last_good LWO2 finite tag (by_tag LWO2 finite tag same) vs i now e g

    lwo2_record : good_surface (record_of LWO2 vs) ≡ true
    unfolding record_of number finite all
    lwo2_record =
        good_record (record_of LWO2 vs) refl
        (both (lwo2_level "COLR" (λ ws. refl) 0 missing.red refl)
        (both (lwo2_level "COLR" (λ ws. refl) 1 missing.green refl)
        (both (lwo2_level "COLR" (λ ws. refl) 2 missing.blue refl)
        (both (lwo2_level "DIFF" (λ ws. refl) 0 missing.diffuse refl)
        (both (lwo2_level "LUMI" (λ ws. refl) 0 missing.luminosity refl)
        (both (lwo2_level "SPEC" (λ ws. refl) 0 missing.specular refl)
        (both (lwo2_level "REFL" (λ ws. refl) 0 missing.reflection refl)
        (both (lwo2_level "TRAN" (λ ws. refl) 0 missing.transparency refl) refl))))))))
        (last_good LWO2 side_number "SIDE" (by_tag LWO2 side_number "SIDE" (λ ws. refl)) vs 0 missing.sides e refl)

  module _ (e : all (good_value LWOB) vs ≡ true) where
    lwob_level : (tag : String) → ((ws : List ℕ) → good_value LWOB (record { tag = number (spelt tag); words = ws }) ≡ all finite ws) → (i now : ℕ) → finite now ≡ true → finite (last_of vs tag i now) ≡ true
    lwob_level tag same i now g = last_good LWOB finite tag (by_tag LWOB finite tag same) vs i now e g

    lit : (x : Bool) → finite (if x then f32_one else 0) ≡ true
    unfolding finite
    lit true = refl
    lit false = refl

    two_sides : (x : Bool) → side_number (if x then 3 else 1) ≡ true
    two_sides true = refl
    two_sides false = refl

    lwob_record : good_surface (record_of LWOB vs) ≡ true
    unfolding record_of number finite all
    lwob_record =
        good_record (record_of LWOB vs) refl
        (both (lwob_level "COLR" (λ ws. refl) 0 missing.red refl)
        (both (lwob_level "COLR" (λ ws. refl) 1 missing.green refl)
        (both (lwob_level "COLR" (λ ws. refl) 2 missing.blue refl)
        (both (lwob_level "VDIF" (λ ws. refl) 0 _ (lwob_level "DIFF" (λ ws. refl) 0 0 refl))
        (both (lwob_level "VLUM" (λ ws. refl) 0 _ (lwob_level "LUMI" (λ ws. refl) 0 _ (lit (bit 0 (last_of vs "FLAG" 0 0)))))
        (both (lwob_level "VSPC" (λ ws. refl) 0 _ (lwob_level "SPEC" (λ ws. refl) 0 0 refl))
        (both (lwob_level "VRFL" (λ ws. refl) 0 _ (lwob_level "REFL" (λ ws. refl) 0 0 refl))
        (both (lwob_level "VTRN" (λ ws. refl) 0 _ (lwob_level "TRAN" (λ ws. refl) 0 0 refl)) refl))))))))
        (two_sides (bit 8 (last_of vs "FLAG" 0 0)))

record_good : (kind : Kind) (vs : List Value) → all (good_value kind) vs ≡ true → good_surface (record_of kind vs) ≡ true
record_good LWOB vs e = lwob_record vs e
record_good LWO2 vs e = lwo2_record vs e

-- ---- the surfaces of a file

surfaces_good : (kind : Kind) {b : Before} {parts : List Part} → GoodParts kind b parts
    → all (λ s. all (good_value kind) s.values) (joined (map surfaces_of parts)) ≡ true
unfolding joined added all
surfaces_good kind no_more = refl
surfaces_good kind (one_more {part = point_list ps} g gs) = surfaces_good kind gs
surfaces_good kind (one_more {part = name_list ns} g gs) = surfaces_good kind gs
surfaces_good kind (one_more {part = polygon_list ps n} g gs) = surfaces_good kind gs
surfaces_good kind (one_more {part = tagging t ts} g gs) = surfaces_good kind gs
surfaces_good kind (one_more {part = surface s} g gs) = both g (surfaces_good kind gs)
surfaces_good kind (one_more {part = layer} g gs) = surfaces_good kind gs
surfaces_good kind (one_more {part = skipped_chunk} g gs) = surfaces_good kind gs

standing_good : (kind : Kind) (n : Name) (now : Option SurfaceChunk) (ss : List SurfaceChunk) → all (λ s. all (good_value kind) s.values) ss ≡ true
    → good_surface (record_for kind now) ≡ true
    → good_surface (record_for kind (standing n now ss)) ≡ true
unfolding standing
standing_good kind n now [] e g = g
standing_good kind n now (s ∷ ss) e g =
    standing_good kind n (if same n s.name then some s else now) ss (all_rest (λ (s : SurfaceChunk). all (good_value kind) s.values) s ss e) (by (same n s.name))
  where
    by : (x : Bool) → good_surface (record_for kind (if x then some s else now)) ≡ true
    by true = record_good kind s.values (all_first (λ (s : SurfaceChunk). all (good_value kind) s.values) s ss e)
    by false = g

missing_good : good_surface missing ≡ true
unfolding good_surface every all finite same
missing_good = refl

all_standing : (kind : Kind) (ns : List Name) (ss : List SurfaceChunk) → all (λ s. all (good_value kind) s.values) ss ≡ true
    → all good_surface (map (λ n. record_for kind (standing n none ss)) ns) ≡ true
unfolding all
all_standing kind [] ss e = refl
all_standing kind (n ∷ ns) ss e = both (standing_good kind n none ss e missing_good) (all_standing kind ns ss e)

-- ---- the mesh

mesh_good : (kind : Kind) (parts : List Part) → GoodParts kind start parts → good_mesh (mesh_of kind parts) ≡ true
unfolding good_mesh every mesh_of all
mesh_good kind parts g =
    let ns : List Name = joined (map names_of parts) in
    let ss : List SurfaceChunk = joined (map surfaces_of parts) in
    let P : ℕ = length (joined (map points_of parts)) in
    let found : Name → Surface = λ n. record_for kind (standing n none ss) in
    rw (eq-eqb (length (map found ns)) (length ns) (length-map ns found), points_good kind g, names_good kind g, all_standing kind ns ss (surfaces_good kind g))
    (rw (polygons_good P (length ns) kind g 0 0 [] (omega arith) (omega arith) (omega arith) refl) refl)

-- what the rules give a file of bytes is a mesh
pub accepted_good : (file : List ℕ) {m : Mesh} {k d : ℕ} → all byte file ≡ true → rules file ≡ gives m k d → good_mesh m ≡ true
unfolding chunks
accepted_good file bytes e =
    let a = accepted e in
    let parts = walk_each a.kind _ _ (λ b t body part bytes j. part_good a.kind b t body bytes j) start 12 (split_bytes (length (drop 12 file)) (drop 12 file) (all_drop byte file 12 bytes)) a.parts a.walked in
    rw (← a.mesh) (mesh_good a.kind a.parts parts)
