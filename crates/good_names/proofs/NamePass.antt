-- A pass: the names of the block are new and at hand, and those after it that were looked up are none of them, so that those after the block decide.
use Prim.Native.Nat.{ℕ, ◌+◌, ◌-◌, ◌*◌, ◌<◌, ◌≤◌}
use mathlib.Core.Path.{◌≡◌, refl, sym, ap, ◌∙◌}
use Rattle.std.specs.Prelude.{Option, Some, None}
use Rattle.std.specs.Option.{is_some}
use mathlib.Core.List.{List, [], ◌∷◌, ◌++◌}
use mathlib.Core.Bool.{Bool, true, false, not, ◌&&◌, false≢true, and-eq-true_iff}
use native.Mathlib.Omega.{arith}
use lib.Dec.{leb, eqb}
use lib.ListN.{length, get_or, take, drop, length-drop}
use lib.Seq.{length-take-le}
use borrow.Author.Tests.{leb-true, leb-false, lt-leb, eqb-true, eqb-false, eq-eqb, not-true}
use Rattle.format.specs.Bytes.{all}
use Rattle.format.specs.Limits.{name_limit}
use Rattle.format.specs.Mesh.{Name}
use Rattle.format.specs.Written.{pieces, has_no_zero}
use Rattle.format.proofs.Indexed.{past_end, part, sum_index}
use Rattle.name_index.specs.declared.NameIndex.{NameIndex}
use Rattle.name_index.specs.Index.{Found, new_to, all_new}
use Rattle.name_index.specs.NameIndex.{IsIndex, IsEmptyIndex, RoomForName, with_name, WithName, words_in, names_in}
use Rattle.name_index.proofs.HeldNames.{one_name_more}
use Rattle.name_index.proofs.Links.{found_amongst}
use Rattle.mesh.proofs.AllPass as all_pass
use Rattle.mesh.proofs.AllPass.{AllPass}
use Rattle.good_entries.specs.Entries.{own_name}
use Rattle.good_names.specs.Repeats.{names_from, OwnNamesFrom, BlockNew}
use Rattle.good_names.proofs.AllNew.{after_others}
use Rattle.good_names.proofs.NameWalk.{first_name}

-- ---- the first of the names that are left

module _ {ns bytes : List ℕ} {i at : ℕ} (w : OwnNamesFrom ns bytes i at) (some : i < length ns) {n : ℕ} (long : n ≡ get_or ns i 0) where
  pub room : at + n ≤ length bytes
  room = omega (arith, w.fits, sum_index i ns some)

  own : (own_name (take n (drop at bytes)) ≡ true) × (all own_name (names_from ns bytes (i + 1) (at + n)) ≡ true)
  unfolding all
  own =
      let x : Name = take n (drop at bytes) in
      (and-eq-true_iff (own_name x) (all own_name (names_from ns bytes (i + 1) (at + n)))).0 (rw (first_name ns bytes i at some long) at w.own)

  pub short : n ≤ name_limit
  short =
      let x : Name = take n (drop at bytes) in
      let few = leb-true (length x) name_limit ((and-eq-true_iff (leb (length x) name_limit) (has_no_zero x)).0 own.0).0 in
      omega (arith, length-take-le n (drop at bytes) (omega (arith, room, length-drop at bytes)))

  later : OwnNamesFrom ns bytes (i + 1) (at + n)
  later = record { fits = omega (arith, w.fits, sum_index i ns some); own = own.1 }

-- ---- a pass

pub record Block (ns bytes : List ℕ) (from base i at next place : ℕ) (x : NameIndex) : Type 0 where
  pub index : IsIndex x
  pub over : (x.bytes.now ≡ bytes) × (x.base ≡ base)
  pub left : OwnNamesFrom ns bytes i at
  pub after : OwnNamesFrom ns bytes next place
  pub order : (base ≤ at) × (from ≤ next) × (next ≤ i)
  pub here : next ≡ i → place ≡ at
  pub near : place ≤ base + 255 * x.count
  pub begun : from ≡ next → (i ≡ from) × (at ≡ base) × (x.count ≡ 0)
  pub so : all_new [] (names_from ns bytes from base) ≡ all_new (names_in x) (names_from ns bytes next place)
  pub new : AllPass (new_to (names_in x)) (names_from ns bytes next place) (names_from ns bytes i at)

pub begin : {ns bytes : List ℕ} {from base multiplier : ℕ} {x : NameIndex} → OwnNamesFrom ns bytes from base → IsEmptyIndex bytes base multiplier x
    → Block ns bytes from base from base from base x
begin {ns} {bytes} {from} {base} {x} w e = record {
  index = e.index;
  over = (e.over.0, e.over.1);
  left = w;
  after = w;
  order = (omega arith, omega arith, omega arith);
  here = λ e. refl;
  near = omega arith;
  begun = λ q. (refl, refl, e.none);
  so = rw e.none;
  new = all_pass.begin;
}

module _ {ns bytes : List ℕ} {from base i at next place : ℕ} {x : NameIndex} (w : Block ns bytes from base i at next place x) where
  told : {b : Bool} → b ≡ all (new_to (names_in x)) (names_from ns bytes next place)
      → all_new [] (names_from ns bytes from base) ≡ (b && all_new [] (names_from ns bytes next place))
  told e = w.so ∙ rw e (after_others (names_in x) (names_from ns bytes next place))

  pub end : length ns ≤ i → BlockNew ns bytes from base next place
  unfolding pieces
  end l = record {
    after = w.after;
    ahead = λ some. ahead some (eqb from next) refl;
    so = told (all_pass.end w.new (rw (past_end ns i l)));
  }
    where
      ahead : from < length ns → (t : Bool) → eqb from next ≡ t → from < next
      ahead some true t = absurd (omega (arith, (w.begun (eqb-true from next t)).0))
      ahead some false t = let n = eqb-false from next t in omega (arith, w.order)

  module _ (some : i < length ns) where
    pub name_room : at + get_or ns i 0 ≤ length bytes
    name_room = room w.left some refl

    -- its name, as the code cuts it out
    cut : take (get_or ns i 0) (drop at x.bytes.now) ≡ take (get_or ns i 0) (drop at bytes)
    cut = ap (λ b. take (get_or ns i 0) (drop at b)) w.over.0

    pub repeated : (o : Option ℕ) → Found (take (at + get_or ns i 0 - at) (drop at bytes)) x.bytes.now x.base (words_in x) o → true ≡ is_some o
        → all_new [] (names_from ns bytes from base) ≡ false
    repeated None f e = absurd (false≢true (sym e))
    repeated (Some k) f e =
        told (all_pass.fails w.new (first_name ns bytes i at some refl) (ap not (found_amongst _ x.bytes.now x.base (words_in x) k (rw part at f))))

    pub is_new : (o : Option ℕ) → Found (take (at + get_or ns i 0 - at) (drop at bytes)) x.bytes.now x.base (words_in x) o → false ≡ is_some o
        → new_to (names_in x) (take (get_or ns i 0) (drop at bytes)) ≡ true
    is_new None f e = ap not (rw part at f)
    is_new (Some k) f e = absurd (false≢true e)

    pub name_fits : next ≡ i → x.count < 8192 → RoomForName x at (get_or ns i 0)
    name_fits here free = record {
      free = free;
      inside = rw w.over.0 name_room;
      near = (omega (arith, w.over.1, w.order), omega (arith, w.over.1, w.near, w.here here, free));
      short = short w.left some refl;
    }

    module _ (is_new : new_to (names_in x) (take (get_or ns i 0) (drop at bytes)) ≡ true) where
      -- the name stands after the block
      pub go_on : (from ≡ next → ⊥) → Block ns bytes from base (i + 1) (at + get_or ns i 0) next place x
      go_on moved = record {
        index = w.index;
        over = w.over;
        left = later w.left some refl;
        after = w.after;
        order = (omega (arith, w.order), w.order.1, omega (arith, w.order));
        here = λ e. absurd (omega (arith, w.order));
        near = w.near;
        begun = λ e. absurd (moved e);
        so = w.so;
        new = all_pass.turn w.new (first_name ns bytes i at some refl) is_new;
      }

      -- the name is one more of the block
      module _ (here : next ≡ i) where
        taken_in : {y : NameIndex} → WithName x (take (get_or ns i 0) (drop at x.bytes.now)) y
            → Block ns bytes from base (i + 1) (at + get_or ns i 0) (i + 1) (at + get_or ns i 0) y
        unfolding all_new
        taken_in {y} more =
            record {
              index = more.index;
              over = (more.over.0 ∙ w.over.0, more.over.1 ∙ w.over.1);
              left = later w.left some refl;
              after = later w.left some refl;
              order = (omega (arith, w.order), omega (arith, w.order), omega arith);
              here = λ e. refl;
              near = omega (arith, w.near, w.here here, short w.left some refl, more.more);
              begun = λ e. absurd (omega (arith, w.order));
              so =
                  w.so ∙ rw (here, w.here here, first_name ns bytes i at some refl, is_new)
                  (ap (λ ns'. all_new ns' (names_from ns bytes (i + 1) (at + get_or ns i 0))) (sym (more.names ∙ ap (λ n. names_in x ++ (n ∷ [])) cut)));
              new = all_pass.begin;
            }

        pub take_in : {y : NameIndex} → x.count < 8192 → y ≡ with_name x at (get_or ns i 0)
            → Block ns bytes from base (i + 1) (at + get_or ns i 0) (i + 1) (at + get_or ns i 0) y
        take_in free e = taken_in (one_name_more w.index (name_fits here free) e)

-- ---- whether a name is taken in: the block goes on where the search stands, and there is room

module _ (next p m : ℕ) {full : Bool} (is : full ≡ leb 8192 m) where
  pub next_taken : (eqb next p && not full) ≡ true → (next ≡ p) × (m < 8192)
  next_taken t =
      let a = (and-eq-true_iff (eqb next p) (not full)).0 t in
      (eqb-true next p a.0, leb-false 8192 m (sym is ∙ not-true full a.1))

  pub next_left : (eqb next p && not full) ≡ false → next ≡ p → m < 8192 → ⊥
  next_left f a b = false≢true (sym f ∙ rw (eq-eqb next p a, is, lt-leb 8192 m b))

-- ---- all passes: the names that no block has had yet decide

pub record AllPasses (ns bytes : List ℕ) (from base : ℕ) : Type 0 where
  pub left : OwnNamesFrom ns bytes from base
  pub so : all_new [] (pieces ns bytes) ≡ all_new [] (names_from ns bytes from base)

pub first_pass : {ns bytes : List ℕ} → OwnNamesFrom ns bytes 0 0 → AllPasses ns bytes 0 0
first_pass w = record { left = w; so = refl }

module _ {ns bytes : List ℕ} {from base : ℕ} (w : AllPasses ns bytes from base) where
  pub last_pass : length ns ≤ from → true ≡ all_new [] (pieces ns bytes)
  unfolding pieces all_new
  last_pass l = sym (rw (past_end ns from l) at w.so)

  pub next_pass : {next place : ℕ} → BlockNew ns bytes from base next place → AllPasses ns bytes next place
  next_pass p = record { left = p.after; so = w.so ∙ p.so }

  pub not_new : all_new [] (names_from ns bytes from base) ≡ false → false ≡ all_new [] (pieces ns bytes)
  not_new f = sym (w.so ∙ f)
