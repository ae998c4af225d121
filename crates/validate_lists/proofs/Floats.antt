-- A PNTS body's length is judged first, so that no float is cut, and the first one that is not finite is the fault.
use mathlib.Core.Path.{◌≡◌, refl, sym, ◌∙◌, ap}
use mathlib.Core.Bool.{Bool, true, false, not, ◌&&◌}
use mathlib.Core.List.{List}
use Prim.Native.Nat.{ℕ, ◌+◌, ◌-◌, ◌*◌, ◌/◌, ◌%◌, ◌^◌, ◌≤◌, ◌<◌}
use native.Mathlib.Omega.{arith}
use lib.Dec.{eqb, leb}
use lib.ListN.{length, get_or, take, drop}
use mir.Syntax.{w8}
use mir.Val.{Fits}
use borrow.Author.Tests.{eqb-true, eq-eqb, ne_eqb, lt-ltb}
use Rattle.std.specs.Int.Bits.{bit_and}
use Rattle.std.proofs.lemmas.Bool.{eqb-false}
use Rattle.std.proofs.lemmas.Nat.{and_mod, and_shr, and_mask}
use Rattle.std.proofs.lemmas.Nat.Bits.{and_pow}
use Rattle.format.specs.declared.Kind.{Kind}
use Rattle.format.specs.declared.Kind.TheVariants.{LWOB, LWO2}
use Rattle.format.specs.declared.Fault.{Fault}
use Rattle.format.specs.Bytes.{number, finite}
use Rattle.format.specs.Limits.{lwob_point_limit}
use Rattle.format.specs.Items.{fine, fault, ◌>>=◌, give, many}
use Rattle.format.specs.Bodies.{point_list, point, whole_points, points_body}
use Rattle.format.specs.Rules.{added}
use Rattle.format.specs.Promises.{keep, nothing, got, Says, Judged}
use Rattle.format.proofs.Places.{two_is, four_is}
use Rattle.format.proofs.ReaderSteps.{right_length, used_up, faulty}
use Rattle.format.proofs.Entries.{ManyLoop, many_begin, many_turn, many_stop, many_end}
use Rattle.validate_lists.specs.Promises.{point_count}

-- ---- one float

-- the exponent is in the high half
pub high_half : (high low : ℕ) → high < 65536 → low < 65536 → not (eqb (high / 128 % 256) 255) ≡ finite (high * 65536 + low)
unfolding finite
high_half high low few h =
    let e : high / 128 % 256 ≡ (high * 65536 + low) / 8388608 % 256 = omega arith in
    let narrow : high * 65536 + low < 2 ^ 32 = omega arith in
    rw (lt-ltb _ _ narrow, e)

-- of a number of sixteen bits the high one and the low seven
high_and_low : (n : ℕ) → n < 65536 → bit_and n 32895 ≡ n / 32768 * 32768 + n % 128
high_and_low n h =
    let low : bit_and n 32895 % 128 ≡ n % 128 % 128 = and_mod n 32895 7 ∙ and_mask (n % 128) 7 in
    let high : bit_and n 32895 / 128 ≡ n / 128 / 256 % 2 * 256 = and_shr n 32895 7 ∙ and_pow (n / 128) 8 in
    omega (arith, low, high)

-- they are the exponent, where the low byte is the first
low_first : (a b : ℕ) → a < 256 → b < 256 → not (eqb (bit_and (a + b * 256) 32895) 32895) ≡ not (eqb ((a * 256 + b) / 128 % 256) 255)
low_first a b one two = by (eqb ((a * 256 + b) / 128 % 256) 255) refl
  where
    is : bit_and (a + b * 256) 32895 ≡ b / 128 * 32768 + a % 128
    is = let e = high_and_low (a + b * 256) (omega arith) in omega (arith, e)

    by : (t : Bool) → eqb ((a * 256 + b) / 128 % 256) 255 ≡ t → not (eqb (bit_and (a + b * 256) 32895) 32895) ≡ not t
    by true e = ap not (eq-eqb (bit_and (a + b * 256) 32895) 32895 (omega (arith, is, eqb-true ((a * 256 + b) / 128 % 256) 255 e)))
    by false e = ap not (ne_eqb (bit_and (a + b * 256) 32895) 32895 (omega (arith, is, eqb-false ((a * 256 + b) / 128 % 256) 255 e)))

-- the float at a place
module _ (s : List ℕ) (at : ℕ) (room : at + 4 ≤ length s) where
  pub exponent : ((i : ℕ) → Fits w8 (get_or s i 0)) → not (eqb (bit_and (get_or s at 0 + get_or s (at + 1) 0 * 256) 32895) 32895)
      ≡ finite (number (take 4 (drop at s)))
  exponent bytes =
      let a = (bytes at).fits in
      let b = (bytes (at + 1)).fits in
      let c = (bytes (at + 2)).fits in
      let d = (bytes (at + 2 + 1)).fits in
      let first = two_is s at (omega arith) in
      let second = two_is s (at + 2) (omega arith) in
      rw (four_is s at room, first, second) (low_first _ _ (omega (arith, a)) (omega (arith, b)) ∙ high_half _ _ (omega (arith, a, b)) (omega (arith, c, d)))

-- ---- all of them

whole_twelves : (kind : Kind) (n : ℕ) → whole_points kind n ≡ true → n % 12 ≡ 0
unfolding whole_points
whole_twelves LWOB n e = by (eqb (n % 12) 0) refl e
  where
    by : (b : Bool) → eqb (n % 12) 0 ≡ b → (b && leb (n / 12) lwob_point_limit) ≡ true → n % 12 ≡ 0
    by true is h = eqb-true (n % 12) 0 is
    by false is h = absurd (let z : ◌≡◌ {A = ℕ} 0 1 = cc in omega arith)
whole_twelves LWO2 n e = eqb-true (n % 12) 0 e

-- the first i points are read
abbrev pub PointsRead : (s : List ℕ) (i : ℕ) → Type 0
PointsRead s i = ManyLoop (keep point_count ((many point >>= (λ ps. give (point_list ps))) 8 (drop 8 s))) point s (8 + i * 12) (λ ps. i + length ps)

pub begin : {s : List ℕ} → PointsRead s 0
unfolding added
begin = many_begin point_list point_count _ (λ ps. omega arith)

long : (kind : Kind) (s : List ℕ) {n : ℕ} {b : Bool} → n ≡ length s - 8 → b ≡ whole_points kind n → b ≡ true → whole_points kind (length s - 8) ≡ true
long kind s size is e = rw size at (sym is ∙ e)

-- n bytes of points
module _ (kind : Kind) {s : List ℕ} {n : ℕ} {b : Bool} (size : n ≡ length s - 8) (is : b ≡ whole_points kind n) (e : b ≡ true) where
  module _ {i : ℕ} (w : PointsRead s i) where
    pub end : i ≤ n / 12 → n / 12 ≤ i → Judged (points_body kind) point_count s (fine (n / 12))
    unfolding points_body
    end few l =
        let last : length s ≤ 8 + i * 12 = omega (arith, size, whole_twelves kind n (sym is ∙ e)) in
        let all : i + 0 ≡ n / 12 = omega arith in
        used_up (right_length 4 _ _ (long kind s size is e) (record { is = rw all at (many_end w last) })) last

    module _ (some : i < n / 12) where
      begun : 8 + i * 12 < length s
      begun = omega (arith, size)

      pub stop : {why : Fault} {p : ℕ} → Says point nothing s (8 + i * 12) (fault why p) → Judged (points_body kind) point_count s (fault why p)
      unfolding points_body
      stop f = faulty (right_length 4 _ _ (long kind s size is e) (record { is = many_stop w begun f }))

      pub turn : Says point nothing s (8 + i * 12) (got s tt (8 + i * 12 + 12)) → PointsRead s (i + 1)
      turn p =
          let next : 8 + i * 12 + 12 ≡ 8 + (i + 1) * 12 = omega arith in
          rw next at (many_turn w begun {f' = λ ps. i + 1 + length ps} p (omega arith) (λ x xs q. omega arith))
