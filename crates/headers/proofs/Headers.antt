-- A chunk's header at a place, whatever the width of its length.
use mathlib.Core.Path.{◌≡◌, refl, sym}
use mathlib.Core.List.{List}
use mathlib.Core.Bool.{Bool, true, false, ◌&&◌}
use Prim.Native.Nat.{ℕ, zero, suc, ◌+◌, ◌-◌, ◌%◌, ◌≤◌, ◌<◌}
use native.Mathlib.Omega.{arith}
use Rattle.std.specs.Prelude.{Ok, Err, if◌then◌else◌}
use Rattle.std.specs.List.{list_all}
use lib.Dec.{leb, eqb, eqb-suc-zero, eqb-zero-suc}
use lib.ListN.{length, take, drop, length-drop}
use lib.Seq.{drop-drop}
use borrow.Author.Tests.{le-leb, lt-leb}
use Rattle.format.specs.Bytes.{between, number, every, all}
use Rattle.format.specs.declared.Fault.{Fault}
use Rattle.format.specs.declared.Fault.TheVariants.{BadHeader}
use Rattle.format.specs.Items.{Verdict, Got, fine, fault, ◌and_then◌, Reader, give, whole}
use Rattle.format.specs.Chunks.{Chunk, chunk_of, well_formed, length_of, size_of, sub}
use Rattle.format.specs.Promises.{keep, Says, JudgedAt, got}
use Rattle.format.proofs.Facts.{impossible}
use Rattle.format.proofs.Indexed.{part_of_front}
use Rattle.format.proofs.ReaderSteps.{exact, exactly}
use Rattle.format.proofs.SameLists.{all_same}
use Rattle.wire.specs.declared.Refusal.{Refusal}
use Rattle.headers.specs.declared.Header.{Header}
use Rattle.headers.specs.Promises.{HeaderAt}

pub good_tag : (s : List ℕ) (at : ℕ) {r : Bool} → r ≡ list_all (between 32 126) (take (at + 4 - at) (drop at s)) → r ≡ all (between 32 126) (take 4 (drop at s))
good_tag s at is =
    let four : at + 4 - at ≡ 4 = omega arith in
    rw (is, four) (all_same (between 32 126) (between 32 126) (λ a. refl) (take 4 (drop at s)))

pub good_pad : (s : List ℕ) (end odd : ℕ) {r : Bool} → r ≡ list_all (λ b. eqb b 0) (take (end + odd - end) (drop end s)) → r ≡ all (eqb 0) (take odd (drop end s))
good_pad s end odd is =
    let one : end + odd - end ≡ odd = omega arith in
    rw (is, one) (all_same (λ b. eqb b 0) (eqb 0) turned (take odd (drop end s)))
  where
    turned : (x : ℕ) → eqb x 0 ≡ eqb 0 x
    turned zero = refl
    turned (suc x) = rw (eqb-suc-zero, eqb-zero-suc)

-- the tag at a place is good, and its chunk's length is n
pub record HeadRead (width : ℕ) (s : List ℕ) (at n : ℕ) : Type 0 where
  pub there : at + (4 + width) ≤ length s
  pub tag : all (between 32 126) (take 4 (drop at s)) ≡ true
  pub is : length_of width (drop at s) ≡ n

-- ---- the header

module _ (width : ℕ) {s : List ℕ} {at : ℕ} where
  bad : well_formed width (drop at s) ≡ false → HeaderAt width s at (Err (record { why = BadHeader; at = at }))
  unfolding chunk_of
  bad e = record { reads = record { says = exact (rw e); moves = tt }; inside = tt }

  pub cut : length s - at < 4 + width → HeaderAt width s at (Err (record { why = BadHeader; at = at }))
  unfolding well_formed every
  cut h =
      let few : length (drop at s) < 4 + width = rw length-drop h in
      bad (rw (lt-leb (4 + width) (length (drop at s)) few))

  pub no_tag : {r : Bool} → at + (4 + width) ≤ length s → r ≡ all (between 32 126) (take 4 (drop at s)) → r ≡ false → HeaderAt width s at (Err (record { why = BadHeader; at = at }))
  unfolding well_formed every
  no_tag fits is e =
      let some : 4 + width ≤ length (drop at s) = rw length-drop (omega arith) in
      bad (rw (le-leb (4 + width) (length (drop at s)) some, ← is, e))

  module _ {n : ℕ} (h : HeadRead width s at n) where
    some : leb (4 + width) (length (drop at s)) ≡ true
    some = le-leb (4 + width) (length (drop at s)) (rw length-drop (omega (arith, h.there)))

    pub too_long : length s - at < 4 + width + n + n % 2 → HeaderAt width s at (Err (record { why = BadHeader; at = at }))
    unfolding well_formed size_of every
    too_long l =
        let few : length (drop at s) < 4 + width + n + n % 2 = rw length-drop l in
        bad (rw (some, h.tag, h.is, lt-leb _ _ few))

    module _ (room : 4 + width + n + n % 2 ≤ length s - at) {p : Bool} (pad : p ≡ all (eqb 0) (take (n % 2) (drop (at + (4 + width) + n) s))) where
      formed : (b : Bool) → p ≡ b → well_formed width (drop at s) ≡ b
      unfolding well_formed size_of every
      formed b e =
          let many : 4 + width + n + n % 2 ≤ length (drop at s) = rw length-drop room in
          let place : at + (4 + width + n) ≡ at + (4 + width) + n = omega arith in
          let past : drop (4 + width + n) (drop at s) ≡ drop (at + (4 + width) + n) s = rw place at (drop-drop (4 + width + n) at s) in
          rw (some, h.tag, h.is, le-leb _ _ many, past, ← pad, e) (alone b)
        where
          alone : (b : Bool) → (b && true) ≡ b
          alone true = refl
          alone false = refl

      pub no_pad : p ≡ false → HeaderAt width s at (Err (record { why = BadHeader; at = at }))
      no_pad e = bad (formed false e)

      pub found : {t : ℕ} → t ≡ number (take 4 (drop at s)) → p ≡ true → HeaderAt width s at (Ok (record { tag = t; end = at + (4 + width) + n; next = record { at = at + (4 + width) + n + n % 2 } }))
      unfolding chunk_of size_of
      found is e =
          let body : take n (drop (4 + width) (drop at s)) ≡ drop (at + (4 + width)) (take (at + (4 + width) + n) s) =
          rw (drop-drop (4 + width) at s) (sym (part_of_front (at + (4 + width)) n s h.there)) in
          let next : at + (4 + width + n + n % 2) ≡ at + (4 + width) + n + n % 2 = omega arith in
          record {
            reads = record { says = exact (rw (formed true e, h.is, is, ← body, drop-drop (4 + width + n + n % 2) at s, next)); moves = omega arith };
            inside = (omega arith, omega arith, omega (arith, h.there));
          }

-- whatever is wrong with a header is one fault at its place
pub header_fault : (width : ℕ) {s : List ℕ} {at : ℕ} {f : Refusal} → HeaderAt width s at (Err f) → f ≡ record { why = BadHeader; at = at }
unfolding chunk_of
header_fault width {s} {at} {f} h = by _ (well_formed width (drop at s)) (exactly h.reads.says)
  where
    by : (g : Got Chunk) (t : Bool) → (if t then fine g else fault BadHeader at) ≡ fault f.why f.at → f ≡ record { why = BadHeader; at = at }
    by g true e = impossible cc
    by g false e =
        let what : f.why ≡ BadHeader = cc in
        let place : f.at ≡ at = cc in
        rw (← what, ← place) refl

pub length_is : (width : ℕ) (s : List ℕ) (at : ℕ) {v : ℕ} → v ≡ number (take width (drop (at + 4) s)) → length_of width (drop at s) ≡ v
unfolding length_of
length_is width s at is = rw (drop-drop 4 at s) (sym is)

-- ---- a sub-chunk whose body is judged, as a prefix of the same bytes

judged : {A B : Type 0} (h : A → B) (v : Verdict A) {answer : Verdict B} (left : List ℕ) (p : ℕ) → answer ≡ (v and_then λ a. fine (h a))
    → keep h (v and_then λ a. give a p left) ≡ (answer and_then λ b. give b p left)
unfolding ◌and_then◌
judged h (fine a) left p e = rw e
judged h (fault why q) left p e = rw e

module _ {A B : Type 0} (inside : ℕ → Reader A) {h : A → B} {s : List ℕ} {at : ℕ} where
  pub sub_bad : {f : Refusal} → HeaderAt 2 s at (Err f) → Says (sub inside) h s at (fault f.why f.at)
  unfolding sub ◌and_then◌
  sub_bad w = record { is = rw (exactly w.reads.says) }

  module _ {head : Header} (w : HeaderAt 2 s at (Ok head)) where
    sub_says : {answer : Verdict B} → JudgedAt at (at + 6) (inside head.tag) h (take head.end s) answer
        → Says (sub inside) h s at (answer and_then λ b. give b head.next.at (drop head.next.at s))
    unfolding sub ◌and_then◌
    sub_says j = record { is = rw (exactly w.reads.says) (sym (judged h (whole at (inside head.tag) (at + 6) (drop (at + 6) (take head.end s))) (drop head.next.at s) head.next.at j.is)) }

    pub sub_fine : {y : B} → JudgedAt at (at + 6) (inside head.tag) h (take head.end s) (fine y) → Says (sub inside) h s at (got s y head.next.at)
    unfolding ◌and_then◌
    sub_fine j = sub_says j

    pub sub_stop : {why : Fault} {p : ℕ} → JudgedAt at (at + 6) (inside head.tag) h (take head.end s) (fault why p) → Says (sub inside) h s at (fault why p)
    unfolding ◌and_then◌
    sub_stop j = sub_says j
