-- Each index has one form: what is written is read, and is never 22; what is read is what is written.
use Rattle.std.specs.Prelude.{if◌then◌else◌}
use Prim.Native.Nat.{ℕ, ◌+◌, ◌/◌, ◌%◌, ◌^◌, ◌≤◌, ◌<◌}
use mathlib.Core.Path.{◌≡◌, refl, sym, ap, ◌∙◌}
use mathlib.Core.List.{List, ◌++◌}
use mathlib.Core.Bool.{Bool, true, false}
use native.Mathlib.Omega.{arith}
use lib.Dec.{leb}
use lib.ListN.{length, take, drop, length-take, take-append-drop}
use borrow.Author.Tests.{lt-ltb, le-ltb, leb-true, eqb-true, eqb-false}
use Rattle.format.specs.declared.Fault.{Fault}
use Rattle.format.specs.declared.Fault.TheVariants.{ItemCut, LongIndex}
use Rattle.format.specs.Bytes.{byte, number, all}
use Rattle.format.specs.Items.{Verdict, fine, fault, Got, ◌and_then◌, ◌>>=◌, give, ◌or◌unless◌, item, uint, u2, first_long, long, long_form, vx}
use Rattle.format.specs.Canonical.{bytes, vx_bytes}
use Rattle.format.proofs.Facts.{impossible, all_part}
use Rattle.format.proofs.Verdicts.{same_fine}
use Rattle.laws.proofs.Numbers.{digits}
use Rattle.laws.proofs.Items.{reads_vx}

-- an index that is written is read back, whatever follows it, and so has no fault
pub written_not_refused : (n : ℕ) → n < 2 ^ 24 → (at : ℕ) (rest : List ℕ) {why : Fault} {p : ℕ} → vx at (vx_bytes n ++ rest) ≡ fault why p → ⊥
written_not_refused n small at rest e = let reads = (reads_vx n small).here at rest in impossible cc

-- a number that was read: the bytes that it is written as, in front of what is left
record Read (width : ℕ) (s : List ℕ) (g : Got ℕ) : Type 0 where
  is : s ≡ bytes width g.value ++ g.left
  small : g.value < 256 ^ width

uint_read : (width at : ℕ) (s : List ℕ) (g : Got ℕ) → all byte s ≡ true → uint width at s ≡ fine g → Read width s g
unfolding uint item ◌>>=◌ ◌and_then◌
uint_read width at s g ok e = by (leb width (length s)) refl e
  where
    by : (t : Bool) → leb width (length s) ≡ t
        → ((if t then give (take width s) (at + width) (drop width s) else fault ItemCut at) and_then λ g. give (number g.value) g.next g.left) ≡ fine g → Read width s g
    by true enough e =
        let d = digits (take width s) (all_part byte s 0 width ok) in
        let l : length (take width s) ≡ width = length-take width s ∙ omega (arith, leb-true width (length s) enough) in
        let here : Got ℕ = record { value = number (take width s); next = at + width; left = drop width s } in
        let w : Read width s here = record { is = sym (take-append-drop width s) ∙ ap (λ w. w ++ drop width s) (sym (rw l at d.is)); small = rw l at d.small } in
        rw (sym (same_fine e)) w
    by false enough e = impossible cc

-- by its form, the bytes that an index is written as
module _ (s : List ℕ) (h : Got ℕ) where
  short_written : long s ≡ false → Read 2 s h → s ≡ vx_bytes h.value ++ h.left
  unfolding vx_bytes bytes
  short_written short r =
      let first : h.value / 256 % 256 ≡ 255 → ⊥ = eqb-false (h.value / 256 % 256) 255 (sym (ap long r.is) ∙ short) in
      let below : h.value < first_long = omega (arith, r.small) in
      rw (lt-ltb h.value first_long below) r.is

  long_written : long s ≡ true → Read 4 s h → first_long ≤ h.value % 2 ^ 24 → s ≡ vx_bytes (h.value % 2 ^ 24) ++ h.left
  unfolding vx_bytes bytes
  long_written by_four r large =
      let first : h.value / 256 / 256 / 256 % 256 ≡ 255 = eqb-true (h.value / 256 / 256 / 256 % 256) 255 (sym (ap long r.is) ∙ by_four) in
      let whole : 0xFF00_0000 + h.value % 2 ^ 24 ≡ h.value = omega (arith, r.small) in
      rw (le-ltb (h.value % 2 ^ 24) first_long large, whole) r.is

-- what is read is the bytes that its index is written as
pub read_as_written : (at : ℕ) (s : List ℕ) (g : Got ℕ) → all byte s ≡ true → vx at s ≡ fine g → s ≡ vx_bytes g.value ++ g.left
unfolding vx ◌>>=◌ ◌and_then◌ ◌or◌unless◌
read_as_written at s g ok e = by (long s) refl e
  where
    judged : (h : Got ℕ) → long s ≡ true → Read 4 s h → (t : Bool) → leb first_long (h.value % 2 ^ 24) ≡ t
        → (if t then give (h.value % 2 ^ 24) h.next h.left else fault LongIndex at) ≡ fine g → s ≡ vx_bytes g.value ++ g.left
    judged h by_four r true large e = long_written s h by_four r (leb-true first_long (h.value % 2 ^ 24) large) ∙ ap (λ g. vx_bytes g.value ++ g.left) (same_fine e)
    judged h by_four r false large e = impossible cc

    four : long s ≡ true → (v : Verdict (Got ℕ)) → uint 4 at s ≡ v
        → ((v and_then λ h. give (h.value % 2 ^ 24) h.next h.left) and_then λ h. if leb first_long h.value then fine h else fault LongIndex at) ≡ fine g
        → s ≡ vx_bytes g.value ++ g.left
    four by_four (fine h) is e = judged h by_four (uint_read 4 at s h ok is) (leb first_long (h.value % 2 ^ 24)) refl e
    four by_four (fault why p) is e = impossible cc

    by : (t : Bool) → long s ≡ t → (if t then long_form else u2) at s ≡ fine g → s ≡ vx_bytes g.value ++ g.left
    by true by_four e = four by_four (uint 4 at s) refl e
    by false short e = short_written s g short (uint_read 2 at s g ok e)
