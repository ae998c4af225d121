-- A chunk that was judged fine has a byte at least for each thing that it adds to the mesh and the counts, and the chunks of a file do not overlap.
use Rattle.std.specs.Prelude.{if◌then◌else◌}
use mathlib.Core.Path.{◌≡◌, refl, sym, ◌∙◌}
use mathlib.Core.List.{List, [], ◌∷◌, ◌++◌, map}
use mathlib.Core.Bool.{Bool, true, false, ◌&&◌}
use Prim.Native.Nat.{ℕ, zero, suc, ◌+◌, ◌-◌, ◌≤◌}
use native.Mathlib.Omega.{arith}
use lib.Dec.{leb, eqb}
use lib.ListN.{length, take, drop, length-take, length-drop}
use lib.IntN.{ℤ}
use borrow.Author.Tests.{leb-true}
use Rattle.format.specs.declared.Kind.{Kind}
use Rattle.format.specs.declared.Fault.{Fault}
use Rattle.format.specs.declared.Fault.TheVariants.{WrongLength, ItemCut, StringOpen}
use Rattle.format.specs.Bytes.{all, sum, negative}
use Rattle.format.specs.Items.{Verdict, fine, fault, Got, Reader, ◌>>=◌, ◌and_then◌, give, ◌or◌unless◌, ◌followed_by◌, times, up_to, many, item, uint, i2, float, vx, long, string, to_zero, string_size}
use Rattle.format.specs.Chunks.{header_of, reader_of_length, Chunk, chunk_of, Chunks, finished, broken, chunk, link, split, chunks}
use Rattle.format.specs.Mesh.{Name, Polygon}
use Rattle.format.specs.Bodies.{Part, point_list, name_list, polygon_list, tagging, surface, layer, skipped_chunk, point, points_body, name, names_after, names_body, lwob_vertices, detail, details, details_after, face, faces_body, patch, patches_body, lwo2_vertices, polygon, polygons_body}
use Rattle.format.specs.Rules.{Before, after, when◌read◌, judge}
use Rattle.format.specs.Promises.{walk_parts}
use Rattle.format.proofs.Facts.{impossible}
use Rattle.format.proofs.ListedTags.{judge_cases}
use Rattle.format.proofs.Inversion.{sound_whole}
use Rattle.format.proofs.Verdicts.{same_fine}
use Rattle.format.proofs.ChunkWalk.{parts_finished, parts_broken, next}
use Rattle.format.proofs.Tiling.{framed}
use Rattle.format.proofs.PartByTag.{Makes, makes_tagging, makes_surface, makes_layer}

-- How many points, names and their bytes, polygons and their vertices and details, or skipped chunks a part adds.
unfoldable pub things : Part → ℕ
things (point_list ps) = length ps
things (name_list ns) = length ns + sum (map length ns)
things (polygon_list ps n) = length ps + sum (map (λ p. length p.vertices) ps) + n
things (tagging t ts) = 0
things (surface s) = 0
things layer = 0
things skipped_chunk = 1

-- ---- readers

-- what was read and what is left come to no more than so many bytes
abbrev Spent : {A : Type 0} → (size : A → ℕ) → ℕ → Verdict (Got A) → Type 0
Spent size n (fine g) = size g.value + length g.left ≤ n
Spent size n (fault why p) = Unit

spent : {A : Type 0} (size size' : A → ℕ) (n n' : ℕ) (v : Verdict (Got A)) → Spent size n v → ((x : A) → size' x + n ≤ size x + n') → Spent size' n' v
spent size size' n n' (fine g) w l = let m = l g.value in omega arith
spent size size' n n' (fault why p) w l = tt

-- What is read takes `size` bytes at least, of which `paid` were read before.
record Uses {A : Type 0} (r : Reader A) (size : A → ℕ) (paid : ℕ) : Type 0 where
  each : (at : ℕ) (b : List ℕ) → Spent size (length b + paid) (r at b)

module _ {A : Type 0} where
  uses_give : (x : A) {size : A → ℕ} {paid : ℕ} → size x ≤ paid → Uses (give x) size paid
  uses_give x l = record { each = λ at b. omega arith }

  less : {r : Reader A} {size size' : A → ℕ} {paid : ℕ} → Uses r size paid → ((x : A) → size' x ≤ size x) → Uses r size' paid
  less {r} {size} {size'} {paid} w l = record { each = λ at b. spent size size' (length b + paid) (length b + paid) (r at b) (w.each at b) (λ x. let m = l x in omega arith) }

  more : {r : Reader A} {size : A → ℕ} (paid : ℕ) → Uses r size 0 → Uses r (λ x. size x + paid) paid
  more {r} {size} paid w = record { each = λ at b. spent size (λ x. size x + paid) (length b + 0) (length b + paid) (r at b) (w.each at b) (λ x. omega arith) }

  -- its own bytes are not counted
  same : {r : Reader A} {size : A → ℕ} (paid : ℕ) → Uses r size 0 → Uses r (λ x. paid) paid
  same {r} {size} paid w = record { each = λ at b. spent size (λ x. paid) (length b + 0) (length b + paid) (r at b) (w.each at b) (λ x. omega arith) }

  uses_unless : {r : Reader A} {size : A → ℕ} {paid : ℕ} (why : Fault) (ok : A → Bool) → Uses r size paid → Uses (r or why unless ok) size paid
  unfolding ◌or◌unless◌ ◌and_then◌
  uses_unless {r} {size} {paid} why ok w = record { each = λ at b. by at (length b + paid) (r at b) (w.each at b) }
    where
      yes : (at n : ℕ) (g : Got A) (t : Bool) → Spent size n (fine g) → Spent size n (if t then fine g else fault why at)
      yes at n g true l = l
      yes at n g false l = tt

      by : (at n : ℕ) (v : Verdict (Got A)) → Spent size n v → Spent size n (v and_then λ y. if ok y.value then fine y else fault why at)
      by at n (fault w p) l = tt
      by at n (fine g) l = yes at n g (ok g.value) l

  uses_length : {r : Reader A} {size : A → ℕ} {paid : ℕ} (width : ℕ) (ok : ℕ → Bool) → Uses r size paid → Uses (reader_of_length width ok r) size paid
  unfolding reader_of_length
  uses_length {r} {size} {paid} width ok w = record { each = λ at b. by at b (ok (length b)) }
    where
      by : (at : ℕ) (b : List ℕ) (t : Bool) → Spent size (length b + paid) (if t then r at b else fault WrongLength (header_of width at))
      by at b true = w.each at b
      by at b false = tt

  uses_if : (t : Bool) {r q : Reader A} {size : A → ℕ} {paid : ℕ} → Uses r size paid → Uses q size paid → Uses (if t then r else q) size paid
  uses_if true w v = w
  uses_if false w v = v

uses_then : {A B : Type 0} {r : Reader A} {f : A → ℕ} {size : B → ℕ} {paid : ℕ} (k : A → Reader B) → Uses r f paid → ((x : A) → Uses (k x) size (f x))
    → Uses (r >>= k) size paid
unfolding ◌>>=◌ ◌and_then◌
uses_then {r} {f} {size} {paid} k w later = record { each = λ at b. by (length b + paid) (r at b) (w.each at b) }
  where
    by : (n : ℕ) (v : Verdict (Got _)) → Spent f n v → Spent size n (v and_then λ y. k y.value y.next y.left)
    by n (fault why p) l = tt
    by n (fine y) l = spent size size (length y.left + f y.value) n (k y.value y.next y.left) ((later y.value).each y.next y.left) (λ x. omega arith)

-- ---- items

uses_item : (n : ℕ) → Uses (item n) (λ x. n) 0
unfolding item
uses_item n = record { each = λ at b. by at b (leb n (length b)) refl }
  where
    by : (at : ℕ) (b : List ℕ) (t : Bool) → leb n (length b) ≡ t
        → Spent (λ x. n) (length b + 0) (if t then give (take n b) (at + n) (drop n b) else fault ItemCut at)
    by at b true l = omega (arith, leb-true n (length b) l, length-drop n b)
    by at b false l = tt

uses_uint : (n : ℕ) → Uses (uint n) (λ x. n) 0
unfolding uint
uses_uint n = uses_then _ (uses_item n) (λ bytes. uses_give _ (omega arith))

uses_i2 : Uses i2 (λ z. 2) 0
unfolding i2
uses_i2 = uses_then _ (uses_uint 2) (λ n. uses_give _ (omega arith))

uses_vx : Uses vx (λ v. 2) 0
unfolding vx
uses_vx = record { each = λ at b. (uses_if (long b) (uses_unless _ _ (uses_then _ (uses_uint 4) (λ n. uses_give _ (omega arith)))) (uses_uint 2)).each at b }

uses_string : Uses string (λ n. length n + 1) 0
unfolding string
uses_string = record { each = λ at b. by at b (to_zero b) (leb (string_size (to_zero b)) (length b)) (all (eqb 0) (take (string_size (to_zero b) - to_zero b) (drop (to_zero b) b))) refl }
  where
    by : (at : ℕ) (b : List ℕ) (n : ℕ) (t u : Bool) → leb (string_size n) (length b) ≡ t
        → Spent (λ n. length n + 1) (length b + 0) (if t && u then give (take n b) (at + string_size n) (drop (string_size n) b) else fault StringOpen at)
    by at b n true true l = omega (arith, leb-true (string_size n) (length b) l, length-take n b, length-drop (string_size n) b)
    by at b n true false l = tt
    by at b n false true l = tt
    by at b n false false l = tt

-- ---- many of them

module _ {A : Type 0} {r : Reader A} {f : A → ℕ} (w : Uses r f 0) where
  uses_and : {all : Reader (List A)} {size size' : List A → ℕ} → Uses all size 0 → ((x : A) (xs : List A) → size' (x ∷ xs) ≤ f x + size xs)
      → Uses (r followed_by all) size' 0
  uses_and v l = uses_then _ w (λ x. uses_then _ (more (f x) v) (λ xs. uses_give _ (omega (arith, l x xs))))

  module _ (size : List A → ℕ) (none : size [] ≡ 0) (one : (x : A) (xs : List A) → size (x ∷ xs) ≤ f x + size xs) where
    uses_up_to : (n at : ℕ) (b : List ℕ) → Spent size (length b + 0) (up_to n r at b)
    unfolding up_to
    uses_up_to zero at b = omega arith
    uses_up_to (suc n) at [] = omega arith
    uses_up_to (suc n) at (c ∷ b) = (uses_and {size' = size} (record { each = uses_up_to n }) one).each at (c ∷ b)

    uses_many : Uses (many r) size 0
    unfolding many
    uses_many = record { each = λ at b. uses_up_to (length b) at b }

-- so many entries of two bytes each at least
uses_times : {A : Type 0} {r : Reader A} → Uses r (λ x. 2) 0 → (n : ℕ) → Uses (times n r) (λ xs. n + length xs) 0
unfolding times
uses_times w zero = uses_give _ (omega arith)
uses_times w (suc n) = uses_and w (uses_times w n) (λ x xs. omega arith)

-- ---- entries

uses_point : Uses point (λ p. 1) 0
unfolding point float
uses_point =
    let float_uses : Uses float (λ x. 4) 0 = uses_unless _ _ (uses_uint 4) in
    uses_then _ float_uses (λ x. uses_then _ (same 4 float_uses) (λ y. uses_then _ (same 4 float_uses) (λ z. uses_give _ (omega arith))))

abbrev name_things : List Name → ℕ
name_things ns = length ns + sum (map length ns)

uses_names : (k : ℕ) (earlier : List Name) (at : ℕ) (b : List ℕ) → Spent name_things (length b + 0) (names_after k earlier at b)
unfolding names_after name sum
uses_names zero earlier at b = omega arith
uses_names (suc k) earlier at [] = omega arith
uses_names (suc k) earlier at (c ∷ b) =
    (uses_then {size = name_things} _ (uses_unless _ _ uses_string)
    (λ n. uses_then _ (more {size = name_things} (length n + 1) (record { each = uses_names k (earlier ++ (n ∷ [])) })) (λ ns. uses_give (n ∷ ns) (omega arith)))).each at (c ∷ b)

module _ (point_count name_count : ℕ) where
  uses_lwob_vertices : Uses (lwob_vertices point_count) (λ vs. 2 + length vs) 0
  unfolding lwob_vertices
  uses_lwob_vertices = uses_then _ (uses_unless _ _ (uses_uint 2)) (λ n. less (more 2 (uses_times (uses_unless _ _ (uses_uint 2)) n)) (λ vs. omega arith))

  uses_detail : Uses (detail point_count name_count) (λ z. 2) 0
  unfolding detail
  uses_detail = uses_then _ uses_lwob_vertices (λ vs. less (same (2 + length vs) (uses_unless _ _ (uses_unless _ _ uses_i2))) (λ z. omega arith))

  uses_details : Uses (details point_count name_count) (λ n. n) 0
  unfolding details
  uses_details = uses_then _ (uses_uint 2) (λ n. uses_then _ (more 2 (uses_times uses_detail n)) (λ ds. uses_give _ (omega arith)))

  uses_after : (z : ℤ) → Uses (details_after point_count name_count z) (λ n. n) 0
  unfolding details_after
  uses_after z = uses_if (negative z) uses_details (uses_give _ (omega arith))

  uses_face : Uses (face point_count name_count) (λ f. 1 + length f.0.vertices + f.1) 0
  unfolding face
  uses_face =
      uses_then _ uses_lwob_vertices
      (λ vs. uses_then _ (same (2 + length vs) (uses_unless _ _ uses_i2)) (λ z. uses_then _ (more (2 + length vs) (uses_after z)) (λ n. uses_give _ (omega arith))))

  uses_patch : Uses (patch point_count name_count) (λ p. 1 + length p.vertices) 0
  unfolding patch
  uses_patch = uses_then _ uses_lwob_vertices (λ vs. uses_then _ (same (2 + length vs) (uses_unless _ _ uses_i2)) (λ z. uses_give _ (omega arith)))

uses_polygon : (point_count kind : ℕ) → Uses (polygon point_count kind) (λ p. 1 + length p.vertices) 0
unfolding polygon lwo2_vertices
uses_polygon point_count kind =
    let vertices : Uses (lwo2_vertices point_count) (λ vs. 2 + length vs) 0 =
    uses_then _ (uses_unless _ _ (uses_uint 2)) (λ n. less (more 2 (uses_times (uses_unless _ _ uses_vx) _)) (λ vs. omega arith)) in
    uses_then _ vertices (λ vs. uses_give _ (omega arith))

-- ---- chunks

uses_points : (kind : Kind) → Uses (points_body kind) things 0
unfolding points_body things
uses_points kind = uses_length _ _ (uses_then _ (uses_many uses_point length refl (λ x xs. omega arith)) (λ ps. uses_give _ (omega arith)))

uses_names_body : Uses names_body things 0
unfolding names_body things
uses_names_body = record { each = λ at b. (uses_then {f = name_things} {size = things} _ (record { each = uses_names (length b) [] }) (λ ns. uses_give (name_list ns) (omega arith))).each at b }

abbrev polygon_things : List Polygon → ℕ
polygon_things ps = length ps + sum (map (λ p. length p.vertices) ps)

module _ (point_count name_count : ℕ) where
  uses_faces : Uses (faces_body point_count name_count) things 0
  unfolding faces_body things sum
  uses_faces = uses_then _ (uses_many (uses_face point_count name_count) (λ fs. polygon_things (map (λ f. f.0) fs) + sum (map (λ f. f.1) fs)) refl (λ x xs. omega arith)) (λ fs. uses_give _ (omega arith))

  uses_patches : Uses (patches_body point_count name_count) things 0
  unfolding patches_body things sum
  uses_patches = uses_then _ (uses_many (uses_patch point_count name_count) polygon_things refl (λ x xs. omega arith)) (λ ps. uses_give _ (omega arith))

  uses_polygons : Uses (polygons_body point_count) things 0
  unfolding polygons_body things sum
  uses_polygons =
      uses_then _ (same 0 (uses_unless _ _ (uses_uint 4))) (λ t. uses_then _ (uses_many (uses_polygon point_count _) polygon_things refl (λ x xs. omega arith)) (λ ps. uses_give _ (omega arith)))

-- a chunk's judgement: what is judged fine adds no more than the header and the body have bytes
pub record Bounded (judged : List ℕ → Verdict Part) : Type 0 where
  pub each : (b : List ℕ) (p : Part) → judged b ≡ fine p → things p ≤ 8 + length b

module _ (r : Reader Part) where
  bound_body : ((b : List ℕ) (g : Got Part) → r 8 b ≡ fine g → things g.value ≤ length b) → (ok : Bool) → Bounded (when ok read r)
  unfolding when◌read◌
  bound_body few false = record { each = λ b p e. impossible cc }
  bound_body few true = record { each = λ b p e. let u = sound_whole r 0 8 b (record { value = p; is = e }) in let same : p ≡ u.got.value = cc in rw same (omega (arith, few b u.got u.is)) }

  bound_uses : (ok : Bool) → Uses r things 0 → Bounded (when ok read r)
  bound_uses ok w = bound_body (λ b g e. omega (arith, rw e at (w.each 8 b))) ok

  -- a body that adds nothing
  bound_nothing : (ok : Bool) → Makes (λ part. things part ≡ 0) r → Bounded (when ok read r)
  bound_nothing ok a = bound_body (λ b g e. rw (a.each 8 b g e) (omega arith)) ok

bound_skipped : Bounded (λ body. fine skipped_chunk)
unfolding things
bound_skipped = record { each = λ b p e. let same : p ≡ skipped_chunk = cc in rw same (omega arith) }

pub chunk_bound : (kind : Kind) (b : Before) (t : ℕ) → Bounded (judge kind b t)
unfolding things
chunk_bound kind b t =
    judge_cases Bounded kind b t
    (record {
      of_points = λ ok e. bound_uses _ _ (uses_points kind);
      of_names = λ e. bound_uses _ _ uses_names_body;
      of_faces = λ e. bound_uses _ _ (uses_faces _ _);
      of_patches = λ e. bound_uses _ _ (uses_patches _ _);
      of_polygons = λ e. bound_uses _ _ (uses_polygons _ 0);
      of_tagging = λ e. bound_nothing _ _ (makes_tagging _ (λ type ts. refl) _ _);
      of_surface = λ e. bound_nothing _ _ (makes_surface _ kind (λ s. refl));
      of_layer = λ e. bound_nothing _ _ (makes_layer _ refl);
      of_skipped = bound_skipped;
    })

-- ---- files

-- the bytes of some chunks, their pads apart
unfoldable bytes_of : Chunks → ℕ
bytes_of finished = 0
bytes_of broken = 0
bytes_of (chunk t body rest) = 8 + length body + bytes_of rest

split_long : (n : ℕ) (s : List ℕ) → bytes_of (split n s) ≤ length s
unfolding split link bytes_of
split_long zero s = omega arith
split_long (suc n) [] = omega arith
split_long (suc n) (b ∷ s) = by (chunk_of 4 0 (b ∷ s)) refl (λ left. split_long n left)
  where
    by : (v : Verdict (Got Chunk)) → chunk_of 4 0 (b ∷ s) ≡ v → ((left : List ℕ) → bytes_of (split n left) ≤ length left)
        → bytes_of (link (split n) v) ≤ length (b ∷ s)
    by (fault why at) e later = omega arith
    by (fine c) e later = omega (arith, later c.left, (framed 0 (b ∷ s) c e).whole)

walk_bound : (kind : Kind) (b : Before) (place : ℕ) (cs : Chunks) (parts : List Part) → walk_parts kind b place cs ≡ fine parts
    → sum (map things parts) ≤ bytes_of cs
unfolding sum bytes_of
walk_bound kind b place finished parts e = rw (← same_fine (sym (parts_finished kind b place) ∙ e)) (omega arith)
walk_bound kind b place broken parts e = let bad = sym (parts_broken kind b place) ∙ e in impossible cc
walk_bound kind b place (chunk t body rest) parts e =
    let x = next kind b place t body rest parts e in
    let here = (chunk_bound kind b t).each body x.part x.here in
    let later = walk_bound kind (after b x.part) _ rest x.later x.onward in
    rw (← x.both) (omega arith)

pub file_bound : (kind : Kind) (b : Before) (place : ℕ) (s : List ℕ) (parts : List Part) → walk_parts kind b place (chunks s) ≡ fine parts
    → sum (map things parts) ≤ length s
unfolding chunks
file_bound kind b place s parts e = omega (arith, walk_bound kind b place (split (length s) s) parts e, split_long (length s) s)
