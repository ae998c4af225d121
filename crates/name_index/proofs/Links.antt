-- A name that is looked for: each name at hand that is equal to it lies on the links from where the search stands, so that where they end there is none.
use Rattle.std.specs.Prelude.{Some, None}
use Prim.Native.Nat.{ℕ, zero, suc, ◌+◌, ◌-◌, ◌<◌, ◌≤◌}
use mathlib.Core.Path.{◌≡◌, refl, sym, ◌∙◌}
use mathlib.Core.List.{List, [], ◌∷◌}
use mathlib.Core.Bool.{Bool, true, false}
use native.Mathlib.Omega.{arith}
use borrow.Author.Count.{below_more}
use lib.ListN.{length, get_or, length-map}
use Rattle.format.specs.Bytes.{same, amongst}
use Rattle.format.proofs.AmongstNames.{not_amongst, is_amongst}
use Rattle.format.proofs.SameLists.{same_eq, not_same}
use Rattle.name_index.specs.Index.{bucket_of, name_of, names_of, Reach, here, there, Index, Found}
use Rattle.name_index.proofs.HashLoop.{bucket_less}

-- the name of number k
pub name_at : (bytes : List ℕ) (base : ℕ) (words : List ℕ) (k : ℕ) → k < length words → get_or (names_of bytes base words) k [] ≡ name_of bytes base (get_or words k 0)
name_at bytes base [] k l = absurd (omega arith)
name_at bytes base (w ∷ words) zero l = refl
name_at bytes base (w ∷ words) (suc k) l = name_at bytes base words k (omega arith)

-- ---- an answer

module _ (x bytes : List ℕ) (base : ℕ) (words : List ℕ) where
  pub nowhere : ((k : ℕ) → k < length words → name_of bytes base (get_or words k 0) ≡ x → ⊥) → amongst x (names_of bytes base words) ≡ false
  nowhere h =
      let m = length-map words (name_of bytes base) in
      not_amongst x (names_of bytes base words) (λ k l e. h k (omega (arith, m)) (sym (name_at bytes base words k (omega (arith, m))) ∙ e))

-- a name that was found is amongst them
pub found_amongst : (x bytes : List ℕ) (base : ℕ) (words : List ℕ) (k : ℕ) → Found x bytes base words (Some k) → amongst x (names_of bytes base words) ≡ true
found_amongst x bytes base words k f =
    let m = length-map words (name_of bytes base) in
    is_amongst x (names_of bytes base words) k (omega (arith, m, f.0)) (name_at bytes base words k f.0 ∙ f.1)

-- ---- by the links

-- each name like x that is at hand lies from number k on
pub record Seeking (x bytes : List ℕ) (base : ℕ) (words links : List ℕ) (k : ℕ) : Type 0 where
  pub few : k ≤ length words
  pub each : (j : ℕ) → j < length words → name_of bytes base (get_or words j 0) ≡ x → Reach links j k

module _ {multiplier : ℕ} {x bytes : List ℕ} {base : ℕ} {words heads links : List ℕ} (w : Index multiplier bytes base words heads links) where
  pub from_head : {b : ℕ} → b ≡ bucket_of multiplier x → Seeking x bytes base words links (get_or heads b 0)
  from_head {b} e = record {
    few = w.tops b (rw e (bucket_less multiplier x));
    each = λ j l n. rw (n, ← e) at (w.reached j l);
  }

  module _ {k : ℕ} (v : Seeking x bytes base words links k) where
    pub not_found : k ≡ 0 → Found x bytes base words None
    not_found z = nowhere x bytes base words (λ j l n. go (v.each j l n))
      where
        go : {j : ℕ} → Reach links j k → ⊥
        go (here e) = omega arith
        go (there p r) = omega arith

    module _ (some : k ≡ 0 → ⊥) where
      pub found : true ≡ same x (name_of bytes base (get_or words (k - 1) 0)) → Found x bytes base words (Some (k - 1))
      found t = (omega (arith, v.few), sym (same_eq x (name_of bytes base (get_or words (k - 1) 0)) (sym t)))

      pub falls : get_or links (k - 1) 0 < k
      falls = omega (arith, w.down (k - 1) (omega (arith, v.few)))

      pub onward : false ≡ same x (name_of bytes base (get_or words (k - 1) 0)) → Seeking x bytes base words links (get_or links (k - 1) 0)
      onward f = record {
        few = omega (arith, falls, v.few);
        each = λ j l n. go j n (v.each j l n);
      }
        where
          go : (j : ℕ) → name_of bytes base (get_or words j 0) ≡ x → Reach links j k → Reach links j (get_or links (k - 1) 0)
          go j n (here e) =
              let q : k - 1 ≡ j = omega arith in
              absurd (not_same (sym f) (rw q n))
          go j n (there p r) = r

-- ---- one by one

-- of the names at hand, those from number k on are left to be compared with x
pub record OneByOne (x bytes : List ℕ) (base : ℕ) (words : List ℕ) (k : ℕ) : Type 0 where
  pub none_yet : (j : ℕ) → j < k → name_of bytes base (get_or words j 0) ≡ x → ⊥

pub begin : {x bytes words : List ℕ} {base : ℕ} → OneByOne x bytes base words 0
begin = record { none_yet = λ j l. absurd (omega arith) }

module _ {x bytes words : List ℕ} {base k : ℕ} (w : OneByOne x bytes base words k) where
  pub none_there : length words ≤ k → false ≡ amongst x (names_of bytes base words)
  none_there h = sym (nowhere x bytes base words (λ j l. w.none_yet j (omega arith)))

  module _ (inside : k < length words) {b : Bool} (is : b ≡ same x (name_of bytes base (get_or words k 0))) where
    pub one_there : b ≡ true → true ≡ amongst x (names_of bytes base words)
    one_there t =
        let m = length-map words (name_of bytes base) in
        let e = same_eq x (name_of bytes base (get_or words k 0)) (sym is ∙ t) in
        sym (is_amongst x (names_of bytes base words) k (omega (arith, m)) (name_at bytes base words k inside ∙ sym e))

    pub next_one : b ≡ false → OneByOne x bytes base words (k + 1)
    next_one f = record { none_yet = below_more _ _ w.none_yet (not_same (sym is ∙ f)) }
