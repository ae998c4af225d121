-- The names of a table taken in one after another: those before the index are at hand, and with those from it on they are all.
use Prim.Native.Nat.{ℕ, ◌+◌, ◌*◌, ◌<◌, ◌≤◌}
use mathlib.Core.Path.{◌≡◌, sym, ap, ◌∙◌}
use mathlib.Core.Bool.{true}
use mathlib.Core.List.{List, [], ◌∷◌, ◌++◌, append_assoc, append-nil}
use native.Mathlib.Omega.{arith}
use lib.Dec.{leb}
use lib.ListN.{length, get_or, take, drop}
use borrow.Author.Tests.{leb-true}
use Rattle.format.specs.Bytes.{all, sum}
use Rattle.format.specs.Limits.{name_limit}
use Rattle.format.specs.Written.{pieces}
use Rattle.format.proofs.Facts.{all_first, all_rest}
use Rattle.format.proofs.Indexed.{at_index, past_end, pieces_at, sum_index}
use Rattle.name_index.specs.declared.NameIndex.{NameIndex}
use Rattle.name_index.specs.NameIndex.{IsIndex, IsEmptyIndex, RoomForName, with_name, name_there, WithName, names_in}
use Rattle.name_index.specs.Listed.{ShortNames, AllHeld}
use Rattle.name_index.proofs.HeldNames.{one_name_more}

pub record Holding (multiplier : ℕ) (lengths bytes : List ℕ) (i at : ℕ) (x : NameIndex) : Type 0 where
  pub few : length lengths ≤ 8192
  pub so_far : (x.count ≡ i) × (i ≤ length lengths)
  pub fits : at + sum (drop i lengths) ≤ length bytes
  pub near : at ≤ 255 * i
  pub short : all (λ n. leb n name_limit) (drop i lengths) ≡ true
  pub index : IsIndex x
  pub over : (x.bytes.now ≡ bytes) × (x.base ≡ 0) × (x.multiplier ≡ multiplier)
  pub are : names_in x ++ pieces (drop i lengths) (drop at bytes) ≡ pieces lengths bytes

pub none_held : {multiplier : ℕ} {lengths bytes : List ℕ} {x : NameIndex} → ShortNames lengths bytes → IsEmptyIndex bytes 0 multiplier x
    → Holding multiplier lengths bytes 0 0 x
none_held {x = x} s e = record {
  few = s.few;
  so_far = (e.none, omega arith);
  fits = omega (arith, s.inside);
  near = omega arith;
  short = s.short;
  index = e.index;
  over = e.over;
  are = rw e.none;
}

module _ {multiplier : ℕ} {lengths bytes : List ℕ} {i at : ℕ} {x : NameIndex} (w : Holding multiplier lengths bytes i at x) where
  pub all_held : length lengths ≤ i → AllHeld multiplier lengths bytes x
  unfolding pieces
  all_held l = record {
    index = w.index;
    over = w.over;
    count = omega (arith, w.so_far);
    are = sym (append-nil (names_in x)) ∙ rw (past_end lengths i l) at w.are;
  }

  module _ (some : i < length lengths) where
    pub name_fits : at + get_or lengths i 0 ≤ length bytes
    name_fits = omega (arith, w.fits, sum_index i lengths some)

    rest_short : all (λ n. leb n name_limit) (get_or lengths i 0 ∷ drop (i + 1) lengths) ≡ true
    rest_short = rw (← at_index lengths i some) w.short

    name_short : get_or lengths i 0 ≤ name_limit
    name_short = leb-true _ _ (all_first (λ n. leb n name_limit) (get_or lengths i 0) (drop (i + 1) lengths) rest_short)

    pub name_room : RoomForName x at (get_or lengths i 0)
    name_room = record {
      free = omega (arith, w.so_far, w.few);
      inside = rw w.over.0 name_fits;
      near = (omega (arith, w.over.1), omega (arith, w.near, w.few));
      short = name_short;
    }

    held : {y : NameIndex} → WithName x (name_there x at (get_or lengths i 0)) y → Holding multiplier lengths bytes (i + 1) (at + get_or lengths i 0) y
    held {y} more = record {
      few = w.few;
      so_far = (omega (arith, more.more, w.so_far), omega (arith, some));
      fits = omega (arith, w.fits, sum_index i lengths some);
      near = omega (arith, w.near, name_short);
      short = all_rest (λ n. leb n name_limit) (get_or lengths i 0) (drop (i + 1) lengths) rest_short;
      index = more.index;
      over = (more.over.0 ∙ w.over.0, more.over.1 ∙ w.over.1, more.over.2 ∙ w.over.2);
      are =
          let over = ap (λ b. names_in x ++ (take (get_or lengths i 0) (drop at b) ∷ [])) w.over.0 in
          ap (λ ns. ns ++ pieces (drop (i + 1) lengths) (drop (at + get_or lengths i 0) bytes)) (more.names ∙ over)
          ∙ append_assoc (names_in x) (take (get_or lengths i 0) (drop at bytes) ∷ []) (pieces (drop (i + 1) lengths) (drop (at + get_or lengths i 0) bytes))
          ∙ rw (← pieces_at i at lengths bytes some) w.are;
    }

    pub one_held : {y : NameIndex} → y ≡ with_name x at (get_or lengths i 0) → Holding multiplier lengths bytes (i + 1) (at + get_or lengths i 0) y
    one_held e = held (one_name_more w.index name_room e)
