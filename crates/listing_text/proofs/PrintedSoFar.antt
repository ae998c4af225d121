-- Text put into the output, one part after another: what was put so far, and what is left.
use Prim.Native.Nat.{ℕ, ◌+◌, ◌≤◌}
use mathlib.Core.Path.{◌≡◌, refl, sym, ◌∙◌}
use mathlib.Core.List.{List, [], ◌++◌, append_assoc, append-nil}
use native.Mathlib.Omega.{arith}
use lib.ListN.{length}
use Rattle.output.specs.Outputs.{Wrote}
use Rattle.output.proofs.PutSoFar.{wrote_none, then_wrote}
use Rattle.listing_text.specs.Prints.{Prints}

-- a text that was put takes its length
pub wrote_all : {t t' ws : List ℕ} {at next : ℕ} → Wrote t at ws t' next → Prints t at ws t' next (length ws)
wrote_all w = record { wrote = w; few = omega (arith, w.next_is) }

module _ {t t' ws : List ℕ} {at next most : ℕ} (w : Prints t at ws t' next most) where
  pub at_most : {more : ℕ} → most ≤ more → Prints t at ws t' next more
  at_most h = record { wrote = w.wrote; few = omega (arith, w.few) }

  -- a second text behind the first
  pub then_prints : {us t'' : List ℕ} {last more : ℕ} → Prints t' next us t'' last more → at + (most + more) ≤ length t
      → Prints t at (ws ++ us) t'' last (most + more)
  then_prints {us} {t''} {last} {more} v room = record {
    wrote = then_wrote w.wrote v.wrote (omega (arith, w.few, v.few, w.wrote.next_is, v.wrote.next_is));
    few = omega (arith, w.few, v.few);
  }

-- three texts, one behind the other, and four, and five
module _ {t₁ t₂ t₃ t₄ a b c : List ℕ} {n₁ n₂ n₃ n₄ k l m : ℕ} (p : Prints t₁ n₁ a t₂ n₂ k) (q : Prints t₂ n₂ b t₃ n₃ l) (r : Prints t₃ n₃ c t₄ n₄ m) where
  pub three_print : n₁ + (k + l + m) ≤ length t₁ → Prints t₁ n₁ (a ++ b ++ c) t₄ n₄ (k + l + m)
  three_print room = then_prints (then_prints p q (omega arith)) r room

  module _ {t₅ d : List ℕ} {n₅ o : ℕ} (s : Prints t₄ n₄ d t₅ n₅ o) where
    pub four_print : n₁ + (k + l + m + o) ≤ length t₁ → Prints t₁ n₁ (a ++ b ++ c ++ d) t₅ n₅ (k + l + m + o)
    four_print room = then_prints (three_print (omega arith)) s room

    pub five_print : {t₆ e : List ℕ} {n₆ u : ℕ} → Prints t₅ n₅ e t₆ n₆ u → n₁ + (k + l + m + o + u) ≤ length t₁
        → Prints t₁ n₁ (a ++ b ++ c ++ d ++ e) t₆ n₆ (k + l + m + o + u)
    five_print v room = then_prints (four_print (omega arith)) v room

-- ---- a loop that puts part after part

pub record PrintedSoFar (goal rest t : List ℕ) (at : ℕ) (t' : List ℕ) (next most : ℕ) : Type 0 where
  pub so_far : List ℕ
  pub prints : Prints t at so_far t' next most
  pub so : goal ≡ so_far ++ rest

pub begin : {goal t : List ℕ} {at : ℕ} → PrintedSoFar goal goal t at t at 0
begin = record { so_far = []; prints = wrote_all wrote_none; so = refl }

module _ {goal rest t t' : List ℕ} {at next most : ℕ} (w : PrintedSoFar goal rest t at t' next most) where
  pub end : rest ≡ [] → Prints t at goal t' next most
  end none =
      let all_of : w.so_far ≡ goal = sym (w.so ∙ rw (none, append-nil w.so_far)) in
      rw all_of at w.prints

  pub turn : {x more t'' : List ℕ} {last size : ℕ} → rest ≡ x ++ more → Prints t' next x t'' last size → at + (most + size) ≤ length t
      → PrintedSoFar goal more t at t'' last (most + size)
  turn {x} {more} first v room = record {
    so_far = w.so_far ++ x;
    prints = then_prints w.prints v room;
    so = w.so ∙ rw (first, append_assoc w.so_far x more);
  }

  -- a looser bound
  pub more_room : {more : ℕ} → most ≤ more → PrintedSoFar goal rest t at t' next more
  more_room h = record { so_far = w.so_far; prints = at_most w.prints h; so = w.so }
