-- The items of a body by their place: what each reader says there, from the bytes that stand there.
use mathlib.Core.Path.{◌≡◌, refl, sym, ◌∙◌}
use mathlib.Core.List.{List}
use mathlib.Core.Bool.{Bool, true, false}
use Prim.Native.Nat.{ℕ, suc, ◌+◌, ◌-◌, ◌*◌, ◌%◌, ◌≤◌, ◌<◌}
use native.Mathlib.Numerals.{add-one}
use native.Mathlib.Omega.{arith}
use lib.Dec.{leb, ltb, eqb}
use lib.IntN.{ℤ}
use lib.ListN.{length, get_or, take, drop, length-drop, drop_of_length-le, get_or-eq_default}
use lib.Seq.{drop-cons, drop-drop}
use borrow.Author.Tests.{le-leb, lt-leb, eq-eqb, ne_eqb, ltb-true, ltb-false}
use Rattle.format.specs.declared.Fault.{Fault}
use Rattle.format.specs.declared.Fault.TheVariants.{ItemCut, LongIndex, NotFinite}
use Rattle.format.specs.Bytes.{number, signed, finite}
use Rattle.format.specs.Items.{Verdict, Got, fault, ◌and_then◌, ◌>>=◌, item, uint, u2, u4, i2, float, first_long, long, low24, long_form, vx}
use Rattle.format.specs.Promises.{itself, Says, ReadsAt, taking, got}
use Rattle.format.proofs.ReaderSteps.{exact, exactly, further, on, off, given, good, bad, cut}

-- ---- numbers of any width

module _ (n : ℕ) {s : List ℕ} {at : ℕ} where
  pub uint_cut : length s - at < n → ReadsAt (uint n) (taking n) s at (fault ItemCut at)
  unfolding uint item ◌and_then◌ ◌>>=◌
  uint_cut h =
      let short : length (drop at s) < n = rw length-drop (omega arith) in
      record { says = exact (rw (lt-leb n (length (drop at s)) short)); moves = tt }

  pub uint_whole : {v : ℕ} → at + n ≤ length s → v ≡ number (take n (drop at s)) → ReadsAt (uint n) (taking n) s at (got s v (at + n))
  unfolding uint item ◌and_then◌ ◌>>=◌
  uint_whole h is =
      let long : n ≤ length (drop at s) = rw length-drop (omega arith) in
      record { says = exact (rw (le-leb n (length (drop at s)) long, drop-drop n at s, is)); moves = omega arith }

-- the bytes of a number, the high one first
pub two_is : (s : List ℕ) (at : ℕ) → at + 2 ≤ length s → number (take 2 (drop at s)) ≡ get_or s at 0 * 256 + get_or s (at + 1) 0
unfolding number
two_is s at h =
    let a : at < length s = omega arith in
    let b : suc at < length s = omega arith in
    rw (drop-cons s at 0 a, drop-cons s (suc at) 0 b, add-one) (omega arith)

pub four_is : (s : List ℕ) (at : ℕ) → at + 4 ≤ length s → number (take 4 (drop at s)) ≡ number (take 2 (drop at s)) * 65536 + number (take 2 (drop (at + 2) s))
unfolding number
four_is s at h =
    let a : at < length s = omega arith in
    let b : suc at < length s = omega arith in
    let c : suc (suc at) < length s = omega arith in
    let d : suc (suc (suc at)) < length s = omega arith in
    let e : at + 2 ≡ suc (suc at) = omega arith in
    rw (e, drop-cons s at 0 a, drop-cons s (suc at) 0 b, drop-cons s (suc (suc at)) 0 c, drop-cons s (suc (suc (suc at))) 0 d) (omega arith)

-- ---- the other items, from the numbers that they are

-- which of the two forms a VX has, by its first byte
is_long : (s : List ℕ) (at b : ℕ) → b ≡ get_or s at 0 → long (drop at s) ≡ eqb b 255
is_long s at b e = by (ltb at (length s)) refl
  where
    by : (t : Bool) → ltb at (length s) ≡ t → long (drop at s) ≡ eqb b 255
    by true h = rw (drop-cons s at 0 (ltb-true at (length s) h), e)
    by false h =
        let past : length s ≤ at = ltb-false at (length s) h in
        let z : b ≡ 0 = e ∙ get_or-eq_default s 0 past in
        rw (drop_of_length-le s {i = at} past, z)

module _ {s : List ℕ} {at : ℕ} where
  pub i2_cut : {why : Fault} {p : ℕ} → ReadsAt u2 (taking 2) s at (fault why p) → ReadsAt i2 (taking 2) s at (fault why p)
  unfolding i2 ◌and_then◌ ◌>>=◌
  i2_cut r = record { says = exact (rw (exactly r.says)); moves = tt }

  pub i2_whole : {v nx : ℕ} {z : ℤ} → ReadsAt u2 (taking 2) s at (got s v nx) → z ≡ signed v → ReadsAt i2 (taking 2) s at (got s z nx)
  unfolding i2 ◌and_then◌ ◌>>=◌
  i2_whole r f = record { says = exact (rw (exactly r.says, f)); moves = r.moves }

  pub float_cut : {why : Fault} {p : ℕ} → ReadsAt u4 (taking 4) s at (fault why p) → ReadsAt float (taking 4) s at (fault why p)
  unfolding float
  float_cut r = record { says = cut NotFinite finite r.says; moves = tt }

  pub float_is : {v nx : ℕ} → ReadsAt u4 (taking 4) s at (got s v nx) → finite v ≡ true → ReadsAt float (taking 4) s at (got s v nx)
  unfolding float
  float_is r e = record { says = good NotFinite finite r.says e; moves = r.moves }

  pub float_bad : {v nx : ℕ} → ReadsAt u4 (taking 4) s at (got s v nx) → finite v ≡ false → ReadsAt float (taking 4) s at (fault NotFinite at)
  unfolding float
  float_bad r e = record { says = bad NotFinite finite r.says e; moves = tt }

  -- the long form of an index
  low24_is : {v nx : ℕ} → ReadsAt u4 (taking 4) s at (got s v nx) → Says low24 itself s at (got s (v % 16777216) nx)
  low24_is r = on _ r.says (given refl)

  pub long_cut : {why : Fault} {p : ℕ} → ReadsAt u4 (taking 4) s at (fault why p) → ReadsAt long_form (taking 4) s at (fault why p)
  long_cut r = record { says = cut LongIndex (leb first_long) (off _ r.says); moves = tt }

  pub long_is : {v nx : ℕ} → ReadsAt u4 (taking 4) s at (got s v nx) → first_long ≤ v % 16777216 → ReadsAt long_form (taking 4) s at (got s (v % 16777216) nx)
  long_is r large = record { says = good LongIndex (leb first_long) (low24_is r) (le-leb first_long _ large); moves = r.moves }

  pub long_bad : {v nx : ℕ} → ReadsAt u4 (taking 4) s at (got s v nx) → v % 16777216 < first_long → ReadsAt long_form (taking 4) s at (fault LongIndex at)
  long_bad r small = record { says = bad LongIndex (leb first_long) (low24_is r) (lt-leb first_long _ small); moves = tt }

  -- an index, by the form that its first byte tells
  module _ {b : ℕ} {answer : Verdict (Got ℕ)} where
    pub vx_long : b ≡ get_or s at 0 → b ≡ 255 → ReadsAt long_form (taking 4) s at answer → ReadsAt vx (taking 2) s at answer
    unfolding vx
    vx_long e f r = record {
      says = exact (rw (is_long s at _ e, eq-eqb _ 255 f) (sym (exactly r.says)));
      moves = further (taking 4) (taking 2) at at answer (λ v. omega arith) r.moves;
    }

    pub vx_short : b ≡ get_or s at 0 → (b ≡ 255 → ⊥) → ReadsAt u2 (taking 2) s at answer → ReadsAt vx (taking 2) s at answer
    unfolding vx
    vx_short e f r = record { says = exact (rw (is_long s at _ e, ne_eqb _ 255 f) (sym (exactly r.says))); moves = r.moves }
