-- Loops over entries: a number of times, and as long as the body lasts. Each law is a step of a loop: how it begins, one turn, a fault, the end. And an entry
-- that may be missing, at the body's end.
use mathlib.Core.Path.{◌≡◌, refl, sym, ap, ◌∙◌}
use mathlib.Core.List.{List, [], ◌∷◌}
use Prim.Native.Nat.{ℕ, zero, suc, ◌+◌, ◌-◌, ◌≤◌, ◌<◌}
use native.Mathlib.Omega.{arith}
use lib.ListN.{length, drop, length-drop, drop_of_length-le}
use lib.Seq.{drop-cons}
use Rattle.format.specs.declared.Fault.{Fault}
use Rattle.format.specs.Items.{Verdict, fine, fault, Got, ◌and_then◌, Reader, ◌>>=◌, give, ◌followed_by◌, times, up_to, many}
use Rattle.format.specs.Promises.{keep, itself, Says, got}
use Rattle.format.proofs.ReaderSteps.{keep_same, keep_keep, met, met_in, stopped, exact, exactly, on, off, given}

-- ---- an entry and more

module _ {A B C : Type 0} {r : Reader A} {h : A → C} {s : List ℕ} {at : ℕ} (f : List A → B) (more : Reader (List A)) where
  step : (f' : List A → B) {y : C} {next : ℕ} → Says r h s at (got s y next) → ((x : A) (xs : List A) → h x ≡ y → f (x ∷ xs) ≡ f' xs)
      → keep f ((r followed_by more) at (drop at s)) ≡ keep f' (more next (drop next s))
  unfolding ◌and_then◌ ◌>>=◌
  step f' w same =
      let m = met w in
      rw m.is (keep_keep f (λ xs. m.value ∷ xs) (more _ _) ∙ keep_same (λ xs. f (m.value ∷ xs)) f' (more _ _) (λ xs. same m.value xs m.shows))

  halt : {why : Fault} {p : ℕ} → Says r h s at (fault why p) → keep f ((r followed_by more) at (drop at s)) ≡ fault why p
  unfolding ◌and_then◌ ◌>>=◌
  halt w = rw (stopped w)

-- ---- a number of times

pub record TimesLoop {A B : Type 0} (goal : Verdict (Got B)) (r : Reader A) (s : List ℕ) (at left : ℕ) (f : List A → B) : Type 0 where
  pub rest : goal ≡ keep f (times left r at (drop at s))

pub times_begin : {A B : Type 0} {r : Reader A} {s : List ℕ} {at n : ℕ} (h f : List A → B) → ((xs : List A) → h xs ≡ f xs)
    → TimesLoop (keep h (times n r at (drop at s))) r s at n f
times_begin h f e = record { rest = keep_same h f _ e }

module _ {A B : Type 0} {goal : Verdict (Got B)} {r : Reader A} {s : List ℕ} {at left : ℕ} {f : List A → B} (t : TimesLoop goal r s at left f) where
  pub times_end : left ≤ 0 → got s (f []) at ≡ goal
  unfolding times ◌and_then◌
  times_end h = by left h (sym t.rest)
    where
      by : (n : ℕ) → n ≤ 0 → keep f (times n r at (drop at s)) ≡ goal → got s (f []) at ≡ goal
      by zero l e = e
      by (suc n) l e = absurd (omega arith)

  again : 0 < left → times left r ≡ r followed_by times (left - 1) r
  unfolding times
  again h = by left h
    where
      by : (n : ℕ) → 0 < n → times n r ≡ r followed_by times (n - 1) r
      by zero l = absurd (omega arith)
      by (suc n) l = let e : suc n - 1 ≡ n = omega arith in rw e

  module _ {C : Type 0} {h : A → C} (some : 0 < left) where
    pub times_turn : {f' : List A → B} {y : C} {next : ℕ} → Says r h s at (got s y next) → ((x : A) (xs : List A) → h x ≡ y → f (x ∷ xs) ≡ f' xs)
        → TimesLoop goal r s next (left - 1) f'
    times_turn {f'} w same = record { rest = t.rest ∙ rw (again some) (step f (times (left - 1) r) f' w same) }

    pub times_stop : {why : Fault} {p : ℕ} → Says r h s at (fault why p) → fault why p ≡ goal
    times_stop w = sym (t.rest ∙ rw (again some) (halt f (times (left - 1) r) w))

-- there are as many entries as were asked for
module _ {A : Type 0} (r : Reader A) where
  counted : (n at : ℕ) (t : List ℕ) → keep length (times n r at t) ≡ keep (λ xs. n) (times n r at t)
  unfolding times ◌and_then◌ ◌>>=◌
  counted zero at t = refl
  counted (suc n) at t = by (counted n) (r at t)
    where
      by : ((p : ℕ) (u : List ℕ) → keep length (times n r p u) ≡ keep (λ xs. n) (times n r p u)) → (v : Verdict (Got A))
          → keep length (v and_then λ g. keep (λ xs. g.value ∷ xs) (times n r g.next g.left)) ≡ keep (λ xs. suc n) (v and_then λ g. keep (λ xs. g.value ∷ xs) (times n r g.next g.left))
      by rest (fault why p) = refl
      by rest (fine g) =
          let v = times n r g.next g.left in
          keep_keep length (λ xs. g.value ∷ xs) v ∙ sym (keep_keep suc length v) ∙ ap (keep suc) (rest g.next g.left) ∙ keep_keep suc (λ xs. n) v ∙ sym (keep_keep (λ xs. suc n) (λ xs. g.value ∷ xs) v)

  pub times_length : (n at : ℕ) (t : List ℕ) (g : Got (List A)) → times n r at t ≡ fine g → length g.value ≡ n
  unfolding ◌and_then◌
  times_length n at t g e =
      let two = rw e at (counted n at t) in
      let same : ◌≡◌ {A = Got ℕ} (record { value = length g.value; next = g.next; left = g.left }) (record { value = n; next = g.next; left = g.left }) = cc in
      ap (λ y. y.value) same

  pub how_many : (n : ℕ) {s : List ℕ} {at y next : ℕ} → Says (times n r) length s at (got s y next) → n ≡ y
  how_many n {s} {at} w = (met_in (λ xs. n) (times n r at (drop at s)) (w.is ∙ counted n at (drop at s))).shows

-- ---- as long as the body lasts

-- where bytes are left, an entry begins
begun : {A : Type 0} (r : Reader A) (s : List ℕ) {at : ℕ} → at < length s → (n : ℕ) → up_to (suc n) r at (drop at s) ≡ (r followed_by up_to n r) at (drop at s)
unfolding up_to
begun r s {at} some n = rw (drop-cons s at (length s) some)

-- `fuel` is not held by the code: enough for what is left of the body
pub record ManyLoop {A B : Type 0} (goal : Verdict (Got B)) (r : Reader A) (s : List ℕ) (at : ℕ) (f : List A → B) : Type 0 where
  pub fuel : ℕ
  pub enough : length s ≤ at + fuel
  pub rest : goal ≡ keep f (up_to fuel r at (drop at s))

-- what is kept of the entries
pub many_alone : {A B : Type 0} {r : Reader A} {s : List ℕ} {at : ℕ} (h f : List A → B) → ((xs : List A) → h xs ≡ f xs)
    → ManyLoop (keep h (many r at (drop at s))) r s at f
unfolding many
many_alone {r} {s} {at} h f e = record { fuel = length (drop at s); enough = rw length-drop (omega arith); rest = keep_same h f _ e }

-- what is made of them, and what is kept of that
pub many_begin : {A B C : Type 0} {r : Reader A} {s : List ℕ} {at : ℕ} (k : List A → C) (h : C → B) (f : List A → B) → ((xs : List A) → h (k xs) ≡ f xs)
    → ManyLoop (keep h ((many r >>= (λ xs. give (k xs))) at (drop at s))) r s at f
unfolding ◌>>=◌
many_begin {r} {s} {at} k h f e =
    let alone = many_alone {r = r} {s = s} {at = at} (λ xs. h (k xs)) f e in
    record { fuel = alone.fuel; enough = alone.enough; rest = keep_keep h k (many r at (drop at s)) ∙ alone.rest }

module _ {A B : Type 0} {goal : Verdict (Got B)} {r : Reader A} {s : List ℕ} {at : ℕ} {f : List A → B} (t : ManyLoop goal r s at f) where
  pub many_end : length s ≤ at → got s (f []) at ≡ goal
  unfolding up_to ◌and_then◌
  many_end h = by t.fuel (sym t.rest)
    where
      none : drop at s ≡ []
      none = drop_of_length-le s {i = at} h

      by : (n : ℕ) → keep f (up_to n r at (drop at s)) ≡ goal → got s (f []) at ≡ goal
      by zero e = e
      by (suc n) e = rw none (rw none at e)

  module _ (some : at < length s) where
    burnt : (n : ℕ) → length s ≤ at + n → up_to n r at (drop at s) ≡ (r followed_by up_to (n - 1) r) at (drop at s)
    burnt zero l = absurd (omega arith)
    burnt (suc n) l = let e : suc n - 1 ≡ n = omega arith in rw e (begun r s some n)

    pub once : up_to t.fuel r at (drop at s) ≡ (r followed_by up_to (t.fuel - 1) r) at (drop at s)
    once = burnt t.fuel t.enough

    module _ {C : Type 0} {h : A → C} where
      pub many_turn : {f' : List A → B} {y : C} {next : ℕ} → Says r h s at (got s y next) → at < next → ((x : A) (xs : List A) → h x ≡ y → f (x ∷ xs) ≡ f' xs)
          → ManyLoop goal r s next f'
      many_turn {f'} w onward same = record {
        fuel = t.fuel - 1;
        enough = omega (arith, t.enough);
        rest = t.rest ∙ rw once (step f (up_to (t.fuel - 1) r) f' w same);
      }

      pub many_stop : {why : Fault} {p : ℕ} → Says r h s at (fault why p) → fault why p ≡ goal
      many_stop w = sym (t.rest ∙ rw once (halt f (up_to (t.fuel - 1) r) w))

-- ---- one entry, or none

module _ {A : Type 0} (r : Reader A) {s : List ℕ} {at : ℕ} where
  pub no_entry : length s ≤ at → Says (up_to 1 r) itself s at (got s [] at)
  unfolding up_to
  no_entry h = exact (rw (drop_of_length-le s {i = at} h))

  module _ (some : at < length s) where
    pub one_entry : {x : A} {next : ℕ} → Says r itself s at (got s x next) → Says (up_to 1 r) itself s at (got s (x ∷ []) next)
    unfolding up_to
    one_entry w = exact (sym (begun r s some 0 ∙ exactly (on _ w (on _ (given refl) (given refl)))))

    pub entry_stops : {why : Fault} {p : ℕ} → Says r itself s at (fault why p) → Says (up_to 1 r) itself s at (fault why p)
    entry_stops w = exact (sym (begun r s some 0 ∙ exactly (off _ w)))
