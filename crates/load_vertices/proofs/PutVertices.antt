-- The vertices before the place are in the table, and the one at it was judged fine, so that it is not cut and its sum with the base fits.
use mathlib.Core.Path.{◌≡◌, refl, sym, ap, ◌∙◌}
use mathlib.Core.List.{List, [], ◌∷◌, ◌++◌, map-append, append_assoc, append-nil}
use Prim.Native.Nat.{ℕ, ◌+◌, ◌-◌, ◌*◌, ◌^◌, ◌≤◌, ◌<◌}
use native.Mathlib.Omega.{arith}
use lib.Dec.{ltb}
use lib.ListN.{length, take, drop, set, length-append, length-map, length-take, length-drop, drop_of_length-le}
use lib.Seq.{drop-drop}
use borrow.Author.Tests.{ltb-true}
use Rattle.format.specs.declared.Fault.{Fault}
use Rattle.format.specs.declared.Fault.TheVariants.{VertexNumber}
use Rattle.format.specs.Items.{Verdict, fine, fault, Got, Reader, times}
use Rattle.format.specs.Bodies.{vertex}
use Rattle.format.specs.Promises.{got, itself, keep, taking, Says, ReadsAt, Succeeds, Put}
use Rattle.format.proofs.ReaderSteps.{exact, exactly, was_good}
use Rattle.format.proofs.Entries.{TimesLoop, times_begin, times_turn, times_stop, times_end, times_length}
use Rattle.format.proofs.Inversion.{sound_good}
use Rattle.format.proofs.Puts.{put_none, put_snoc}
use Rattle.load_vertices.specs.Promises.{above, VerticesRoom, VerticesPut}
use Rattle.wire.proofs.ReadAgain.{never, sound_item}

pub above_length : (base : ℕ) (vs : List ℕ) → length (above base vs) ≡ length vs
above_length base vs = length-map vs (λ v. base + v)

-- there are as many as were asked for
pub vertices_counted : {item : Reader ℕ} {n points base : ℕ} {s : List ℕ} {from : ℕ} {table : List ℕ} {m : ℕ} {table' : List ℕ} {next : ℕ}
    (p : VerticesPut item n points base s from table m table' next) → length p.vertices ≡ n
vertices_counted {item} {n} {points} {s = s} {from} p = times_length (vertex item points) n from (drop from s) _ (exactly p.reads.says)

-- the first i of the n vertices are put from the front of these words on, and those that follow are read from here on
pub record VerticesStored (item : Reader ℕ) (n points base : ℕ) (s : List ℕ) (from : ℕ) (words₀ words : List ℕ) (at i : ℕ) : Type 0 where
  pub room : VerticesRoom item n points base s from words₀ 0
  pub few : i ≤ n
  pub far : from + i * 2 ≤ at
  pub done : List ℕ
  pub count : length done ≡ i
  pub put : Put words₀ 0 (above base done) words
  pub rest : TimesLoop (keep itself (times n (vertex item points) from (drop from s))) (vertex item points) s at (n - i) (λ vs. done ++ vs)

module _ {item : Reader ℕ} {n points base : ℕ} {s : List ℕ} {from : ℕ} {words₀ : List ℕ} where
  pub vertices_begin : VerticesRoom item n points base s from words₀ 0 → VerticesStored item n points base s from words₀ words₀ from 0
  vertices_begin r =
      let all : n - 0 ≡ n = omega arith in
      record {
        room = r;
        few = omega arith;
        far = omega arith;
        done = [];
        count = refl;
        put = put_none words₀ 0;
        rest = rw all (times_begin itself (λ vs. vs) (λ vs. refl));
      }

  module _ {words : List ℕ} {at i : ℕ} (f : VerticesStored item n points base s from words₀ words at i) where
    pub vertices_end : n ≤ i → VerticesPut item n points base s from words₀ 0 words at
    vertices_end h =
        let none : n - i ≤ 0 = omega arith in
        record {
          vertices = f.done;
          reads = record { says = record { is = rw (← append-nil f.done) (times_end f.rest none) }; moves = omega (arith, f.far, f.few) };
          put = f.put;
        }

    module _ (some : i < n) where
      left : 0 < n - i
      left = omega arith

      never_stopped : {why : Fault} {p : ℕ} → Says (vertex item points) itself s at (fault why p) → ⊥
      never_stopped w = never {r = times n (vertex item points)} {h = itself} f.room.sound (record { is = times_stop f.rest left w })

      vertex_sound : Succeeds (vertex item points at (drop at s))
      vertex_sound = by (vertex item points at (drop at s)) refl
        where
          by : (v : Verdict (Got ℕ)) → vertex item points at (drop at s) ≡ v → Succeeds (vertex item points at (drop at s))
          by (fine g) e = record { value = g; is = e }
          by (fault why p) e = absurd (never_stopped (exact (sym e)))

      -- no item is cut
      pub item_sound : Succeeds (item at (drop at s))
      item_sound = sound_item item VertexNumber (λ v. ltb v points) at (drop at s) vertex_sound

      module _ {v next : ℕ} (r : ReadsAt item (taking 2) s at (got s v next)) where
        w : ReadsAt (vertex item points) (taking 2) s at (got s v next)
        w = record { says = sound_good VertexNumber (λ v. ltb v points) r.says vertex_sound; moves = r.moves }

        pub vertex_fits : base + v < 2 ^ 32
        vertex_fits = omega (arith, ltb-true v points (was_good _ _ _ w.says), f.room.small)

        pub vertices_turn : VerticesStored item n points base s from words₀ (set words i (base + v)) next (i + 1)
        vertices_turn =
            let one : n - i - 1 ≡ n - (i + 1) = omega arith in
            let same : (y : ℕ) (ys : List ℕ) → y ≡ v → f.done ++ (y ∷ ys) ≡ f.done ++ (v ∷ []) ++ ys
            = λ y ys e. rw e (sym (append_assoc f.done (v ∷ []) ys)) in
            let place : 0 + length (above base f.done) ≡ i = omega (arith, above_length base f.done, f.count) in
            record {
              room = f.room;
              few = omega arith;
              far = omega (arith, f.far, w.moves);
              done = f.done ++ (v ∷ []);
              count = length-append f.done (v ∷ []) ∙ omega (arith, f.count);
              put = rw (map-append (λ v. base + v) f.done (v ∷ []), ← place) (put_snoc f.put (base + v) (omega (arith, place, f.room.room)));
              rest = rw one at (times_turn f.rest left w.says same);
            }

-- ---- the part of a table that is lent for the vertices

module _ {item : Reader ℕ} {n points base : ℕ} {s : List ℕ} {from : ℕ} {table : List ℕ} {m : ℕ} (r : VerticesRoom item n points base s from table m) where
  abbrev part : List ℕ
  part = take (m + n - m) (drop m table)

  part_length : length part ≡ n
  part_length = rw (length-take (m + n - m) (drop m table), length-drop m table) (omega (arith, r.room))

  pub part_room : VerticesRoom item (length part) points base s from part 0
  part_room = rw part_length (record { sound = r.sound; room = omega (arith, part_length); small = r.small })

  pub part_put : {words : List ℕ} {next : ℕ} → VerticesPut item (length part) points base s from part 0 words next
      → VerticesPut item n points base s from table m (take m table ++ (words ++ drop (m + n - m) (drop m table))) next
  part_put {words} {next} w =
      let p : VerticesPut item n points base s from part 0 words next = rw part_length at w in
      let many : length (above base p.vertices) ≡ n = above_length base p.vertices ∙ vertices_counted p in
      let no_more : drop (0 + length (above base p.vertices)) part ≡ [] = drop_of_length-le part (omega (arith, many, part_length)) in
      let all : words ≡ above base p.vertices = p.put.put ∙ rw no_more (append-nil (above base p.vertices)) in
      let after : drop (m + n - m) (drop m table) ≡ drop (m + length (above base p.vertices)) table
      = drop-drop (m + n - m) m table ∙ ap (λ k. drop k table) (omega (arith, many)) in
      record { vertices = p.vertices; reads = p.reads; put = record { put = rw (all, after) (sym (append_assoc (take m table) (above base p.vertices) _)) } }
