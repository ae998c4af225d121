-- A tag stored in a polygon's word is what the specification's retagging changes in the words of the polygons, where that word is the type's.
use mathlib.Core.Path.{◌≡◌, refl, sym, ap, ◌∙◌}
use mathlib.Core.Bool.{true, false}
use mathlib.Core.List.{List, [], ◌∷◌, ◌++◌, foldl-append, append_assoc, append-nil}
use Prim.Native.Nat.{ℕ, zero, suc, ◌+◌, ◌*◌, ◌≤◌, ◌<◌}
use native.Mathlib.Omega.{arith}
use lib.ListN.{length, take, drop, set, length-append, length-take, length-set}
use lib.Seq.{set-append_left}
use lib.Dec.{ltb}
use borrow.Author.Tests.{ltb-true}
use Rattle.format.specs.declared.Fault.{Fault}
use Rattle.format.specs.declared.Fault.TheVariants.{PolygonNumber, SurfaceNumber}
use Rattle.format.specs.Bytes.{tag_number, joined, number}
use Rattle.format.specs.Items.{Verdict, fine, fault, ◌and_then◌, Reader, ◌>>=◌, ◌or◌unless◌, whole, many, u2, u4, vx}
use Rattle.format.specs.Chunks.{unjudged}
use Rattle.format.specs.Mesh.{polygon_size, Polygon, polygon_words}
use Rattle.format.specs.Bodies.{tagging, pair, pairs_type, tagging_body}
use Rattle.format.specs.Rules.{retag, tagged}
use Rattle.format.specs.Promises.{Put, Says, ReadsAt, JudgedAt, Succeeds, keep, itself, taking, got, polygons_words}
use Rattle.format.proofs.ReaderSteps.{on, given, exact, exactly, was_good, used_up, judged_on, judged_as}
use Rattle.format.proofs.Entries.{ManyLoop, many_alone, many_turn, many_end}
use Rattle.format.proofs.Inversion.{sound_first, sound_next, sound_good, sound_whole, many_sound}
use Rattle.format.proofs.Verdicts.{same_fine, then_fine}
use Rattle.format.proofs.Tagging.{tagged_length}
use Rattle.format.proofs.PolygonTables.{words_length}
use Rattle.load_taggings.specs.Promises.{TagsRoom, TagsPut, TagWord, PairsPut}
use Rattle.wire.proofs.ReadAgain.{never, sound_item}

-- ---- a store amongst words that were put

set_after : (xs ys : List ℕ) (n v : ℕ) → set (xs ++ ys) (length xs + n) v ≡ xs ++ set ys n v
set_after [] ys n v = let e : 0 + n ≡ n = omega arith in rw e
set_after (x ∷ xs) ys n v = let e : suc (length xs) + n ≡ suc (length xs + n) = omega arith in rw e (ap (λ l. x ∷ l) (set_after xs ys n v))

put_over : {t t' ws : List ℕ} {m : ℕ} → Put t m ws t' → (k v : ℕ) → k < length ws → m + length ws ≤ length t → Put t m (set ws k v) (set t' (m + k) v)
put_over {t} {t'} {ws} {m} p k v inside room =
    let front : length (take m t) ≡ m = simp length-take (omega arith) in
    let near : m + k < length (take m t ++ ws) = simp (length-append, length-take) (omega arith) in
    let over : set (take m t ++ ws) (m + k) v ≡ take m t ++ set ws k v = rw front at (set_after (take m t) ws k v) in
    record { put = rw (p.put, length-set ws k v, set-append_left (take m t ++ ws) (drop (m + length ws) t) (m + k) v near, over) }

-- ---- polygons

-- each polygon's words stand behind those of the one before it, and a tag is one of them
module _ {type index : ℕ} (word_is : TagWord type index) (inside : index < polygon_size) where
  retag_words : (p n : ℕ) (qs : List Polygon) → p < length qs → set (polygons_words qs) (p * polygon_size + index) n ≡ polygons_words (retag type p n qs)
  unfolding joined retag
  retag_words p n [] h = absurd (omega arith)
  retag_words zero n (q ∷ qs) h =
      let e : 0 * polygon_size + index ≡ index = omega arith in
      rw e (set-append_left (polygon_words q) (polygons_words qs) index n (omega arith) ∙ ap (λ l. l ++ polygons_words qs) (sym (word_is.set_word n q)))
  retag_words (suc p) n (q ∷ qs) h =
      let e : suc p * polygon_size + index ≡ length (polygon_words q) + (p * polygon_size + index) = omega arith in
      rw e (set_after (polygon_words q) (polygons_words qs) (p * polygon_size + index) n ∙ ap (λ l. polygon_words q ++ l) (retag_words p n qs (omega arith)))

  put_tag : {t t' : List ℕ} {i : ℕ} (qs : List Polygon) (ts : List (ℕ × ℕ)) (p n : ℕ) → Put t i (polygons_words (tagged qs type ts)) t' → p < length qs
      → i + length qs * polygon_size ≤ length t
      → Put t i (polygons_words (tagged qs type (ts ++ ((p, n) ∷ [])))) (set t' (i + (p * polygon_size + index)) n)
  put_tag qs ts p n w h room =
      let now = tagged qs type ts in
      let l : length now ≡ length qs = tagged_length type ts qs in
      let z : length (polygons_words now) ≡ length now * polygon_size = words_length now in
      let e : tagged qs type (ts ++ ((p, n) ∷ [])) ≡ retag type p n now = foldl-append (λ now t. retag type t.0 t.1 now) qs ts ((p, n) ∷ []) in
      rw (e, ← retag_words p n now (omega (arith, l))) (put_over w (p * polygon_size + index) n (omega (arith, l, z)) (omega (arith, l, z)))

-- "surface number" and "part name": the third and the fourth of a polygon's words
pub surface_word : TagWord (tag_number "SURF") 2
unfolding number
surface_word = record { set_word = λ n p. refl }

pub part_word : TagWord (tag_number "PART") 3
unfolding number
part_word = record { set_word = λ n p. refl }

-- ---- the pairs of a body

-- a body that is fine was judged so
judged_fine : {A : Type 0} {header at : ℕ} {r : Reader A} {s : List ℕ} {v : Verdict A} {x : A} → JudgedAt header at r itself s v → whole header r at (drop at s) ≡ fine x → v ≡ fine x
unfolding ◌and_then◌
judged_fine j e = rw e at j.is

-- the pairs `done` are put, and those that follow are read from here on
pub record TagsStored (s : List ℕ) (from polygons names : ℕ) (table₀ : List ℕ) (i index at : ℕ) (table : List ℕ) : Type 0 where
  pub room : TagsRoom (whole 0 (many (pair polygons names)) from (drop from s)) polygons table₀ i
  pub inside : index < polygon_size
  pub done : List (ℕ × ℕ)
  pub rest : ManyLoop (keep itself (many (pair polygons names) from (drop from s))) (pair polygons names) s at (λ ts. done ++ ts)
  pub kept : length table ≡ length table₀
  pub put : {type : ℕ} → TagWord type index → (qs : List Polygon) → length qs ≡ polygons → Put table₀ i (polygons_words qs) table₀
      → Put table₀ i (polygons_words (tagged qs type done)) table

pub tags_begin : {s : List ℕ} {from polygons names : ℕ} {table : List ℕ} {i index : ℕ}
    → TagsRoom (whole 0 (many (pair polygons names)) from (drop from s)) polygons table i × (index < polygon_size)
    → TagsStored s from polygons names table i index from table
tags_begin r = record {
  room = r.0;
  inside = r.1;
  done = [];
  rest = many_alone itself (λ ts. [] ++ ts) (λ ts. refl);
  kept = refl;
  put = λ word_is qs l w. w;
}

module _ {s : List ℕ} {from polygons names : ℕ} {table₀ : List ℕ} {i index at : ℕ} {table : List ℕ} (f : TagsStored s from polygons names table₀ i index at table) where
  module _ (some : at < length s) where
    pair_sound : Succeeds (pair polygons names at (drop at s))
    pair_sound =
        let u = sound_whole (many (pair polygons names)) 0 from (drop from s) f.room.sound in
        let same : Says (many (pair polygons names)) itself s from (many (pair polygons names) from (drop from s)) = exact refl in
        let e = many_sound f.rest some (record { value = u.got; is = sym same.is ∙ u.is }) in
        record { value = e.first; is = e.is }

    polygon_sound : Succeeds ((vx or PolygonNumber unless (λ p. ltb p polygons)) at (drop at s))
    unfolding pair
    polygon_sound = sound_first _ _ at (drop at s) pair_sound

    pub polygon_fine : Succeeds (vx at (drop at s))
    polygon_fine = sound_item vx PolygonNumber (λ p. ltb p polygons) at (drop at s) polygon_sound

    module _ {p next : ℕ} (w : ReadsAt vx (taking 2) s at (got s p next)) where
      polygon_says : Says (vx or PolygonNumber unless (λ p. ltb p polygons)) itself s at (got s p next)
      polygon_says = sound_good PolygonNumber (λ p. ltb p polygons) w.says polygon_sound

      below : p < polygons
      below = ltb-true p polygons (was_good vx PolygonNumber (λ p. ltb p polygons) polygon_says)

      -- the polygon's word stands in the table
      pub stored : i + (p * polygon_size + index) < length table
      stored = omega (arith, below, f.inside, f.kept, f.room.fits)

      tag_sound : Succeeds ((u2 or SurfaceNumber unless (λ t. ltb t names)) next (drop next s))
      unfolding pair
      tag_sound = sound_first _ _ next (drop next s) (sound_next _ _ polygon_says pair_sound)

      pub tag_fine : Succeeds (u2 next (drop next s))
      tag_fine = sound_item u2 SurfaceNumber (λ t. ltb t names) next (drop next s) tag_sound

      module _ {t last : ℕ} (v : ReadsAt u2 (taking 2) s next (got s t last)) where
        pair_says : Says (pair polygons names) itself s at (got s (p, suc t) last)
        unfolding pair
        pair_says = on _ polygon_says (on _ (sound_good SurfaceNumber (λ t. ltb t names) v.says tag_sound) (given refl))

        pub tags_turn : TagsStored s from polygons names table₀ i index last (set table (i + (p * polygon_size + index)) (t + 1))
        tags_turn =
            let e : t + 1 ≡ suc t = omega arith in
            rw e
            (record {
              room = f.room;
              inside = f.inside;
              done = f.done ++ ((p, suc t) ∷ []);
              rest = many_turn f.rest some pair_says (omega (arith, w.moves, v.moves)) (λ x xs same. rw same (sym (append_assoc f.done ((p, suc t) ∷ []) xs)));
              kept = length-set table (i + (p * polygon_size + index)) (suc t) ∙ f.kept;
              put = λ word_is qs l h. put_tag word_is f.inside qs f.done p (suc t) (f.put word_is qs l h) (omega (arith, l, below)) (omega (arith, l, f.room.fits));
            })

  pub tags_end : length s ≤ at → PairsPut (whole 0 (many (pair polygons names)) from (drop from s)) polygons index table₀ i table
  tags_end end =
      let j : JudgedAt 0 from (many (pair polygons names)) itself s (fine (f.done ++ [])) = used_up (record { is = many_end f.rest end }) end in
      record { put = λ word_is qs ts l e h. rw (← same_fine (judged_fine j e), append-nil f.done) (f.put word_is qs l h) }

-- ---- the type of a body

module _ (polygons names : ℕ) {s : List ℕ} where
  pub type_never_cut : {table : List ℕ} {i : ℕ} {why : Fault} {p : ℕ} → TagsRoom (whole 0 (tagging_body polygons names) 8 (drop 8 s)) polygons table i
      → ReadsAt u4 (taking 4) s 8 (fault why p) → ⊥
  unfolding tagging_body
  type_never_cut r w =
      let u = sound_whole (tagging_body polygons names) 0 8 (drop 8 s) r.sound in
      never (sound_first u4 _ 8 (drop 8 s) (record { value = u.got; is = u.is })) w.says

  module _ {t next : ℕ} (w : ReadsAt u4 (taking 4) s 8 (got s t next)) where
    module _ (e : pairs_type t ≡ true) where
      -- what is judged of the pairs is what is judged of the body
      by_pairs : JudgedAt 0 8 (tagging_body polygons names) itself s (whole 0 (many (pair polygons names)) next (drop next s) and_then λ ts. fine (tagging t ts))
      unfolding tagging_body
      by_pairs = judged_on _ w.says (rw e (judged_as (tagging t) (record { is = refl })))

      pub pairs_room : {table : List ℕ} {i : ℕ} → TagsRoom (whole 0 (tagging_body polygons names) 8 (drop 8 s)) polygons table i
          → TagsRoom (whole 0 (many (pair polygons names)) next (drop next s)) polygons table i
      pairs_room r = record { sound = listed; fits = r.fits }
        where
          listed : Succeeds (whole 0 (many (pair polygons names)) next (drop next s))
          listed = let one = then_fine _ (λ ts. fine (tagging t ts)) (judged_fine by_pairs r.sound.is) in record { value = one.0; is = one.1 }

      pub pairs_put : {index : ℕ} {table : List ℕ} {i : ℕ} {table' : List ℕ} → TagWord t index
          → PairsPut (whole 0 (many (pair polygons names)) next (drop next s)) polygons index table i table'
          → TagsPut (whole 0 (tagging_body polygons names) 8 (drop 8 s)) polygons table i table'
      pairs_put word_is w = record {
        put = λ qs type ts l v h.
            let one = then_fine _ (λ ts. fine (tagging t ts)) (judged_fine by_pairs v) in
            let same = same_fine one.2 in
            let types : t ≡ type = cc in
            let lists : one.0 ≡ ts = cc in
            rw (← types) (w.put word_is qs ts l (rw lists at one.1) h);
      }

    pub of_others : {table : List ℕ} {i : ℕ} → pairs_type t ≡ false → TagsPut (whole 0 (tagging_body polygons names) 8 (drop 8 s)) polygons table i table
    unfolding tagging_body unjudged whole number ◌>>=◌ ◌and_then◌
    of_others e =
        let empty : whole 0 (tagging_body polygons names) 8 (drop 8 s) ≡ fine (tagging t []) = rw (exactly w.says, e) in
        record { put = λ qs type ts l f h. let none : ts ≡ [] = cc (empty, f) in rw none h }
