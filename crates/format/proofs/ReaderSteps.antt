-- What readers say at a place of a body, one after another, and of a whole body. Each answer of the code is shown by an expression that follows its path
-- through the reader's `do`.
use Rattle.std.specs.Prelude.{if◌then◌else◌}
use mathlib.Core.Path.{◌≡◌, refl, sym, ap, ◌∙◌}
use mathlib.Core.List.{List}
use mathlib.Core.Bool.{Bool, true, false}
use Prim.Native.Nat.{ℕ, ◌+◌, ◌-◌, ◌≤◌, ◌<◌}
use native.Mathlib.Omega.{arith}
use lib.ListN.{length, drop, length-drop, drop_of_length-le}
use lib.Seq.{drop-cons, drop-length}
use Rattle.format.specs.Bytes.{empty}
use Rattle.format.specs.declared.Fault.{Fault}
use Rattle.format.specs.declared.Fault.TheVariants.{WrongLength}
use Rattle.format.specs.Items.{Verdict, fine, fault, Got, ◌and_then◌, Reader, ◌>>=◌, give, ◌or◌unless◌, whole}
use Rattle.format.specs.Chunks.{header_of, reader_of_length, unjudged}
use Rattle.format.specs.Promises.{keep, itself, Says, Moves, Keeps, JudgedAt, got}
use Rattle.format.proofs.Facts.{impossible}
use Rattle.format.proofs.Verdicts.{then_then, then_same}

-- ---- what is kept

module _ {A B : Type 0} where
  pub keep_same : (f g : A → B) (v : Verdict (Got A)) → ((x : A) → f x ≡ g x) → keep f v ≡ keep g v
  unfolding ◌and_then◌
  keep_same f g (fine a) e = rw (e a.value)
  keep_same f g (fault why at) e = refl

  pub keep_keep : {C : Type 0} (f : B → C) (h : A → B) (v : Verdict (Got A)) → keep f (keep h v) ≡ keep (λ x. f (h x)) v
  unfolding ◌and_then◌
  keep_keep f h (fine a) = refl
  keep_keep f h (fault why at) = refl

  -- what was read, where a part of it was kept
  pub record Met (h : A → B) (v : Verdict (Got A)) (s : List ℕ) (y : B) (next : ℕ) : Type 0 where
    pub value : A
    pub is : v ≡ got s value next
    pub shows : h value ≡ y

  pub met_in : (h : A → B) (v : Verdict (Got A)) {s : List ℕ} {y : B} {next : ℕ} → got s y next ≡ keep h v → Met h v s y next
  unfolding ◌and_then◌
  met_in h (fine a) {s} {y} {next} e =
      let same : ◌≡◌ {A = Got B} (record { value = y; next = next; left = drop next s }) (record { value = h a.value; next = a.next; left = a.left }) = cc in
      let place : next ≡ a.next = ap (λ g. g.next) same in
      let rest : drop next s ≡ a.left = ap (λ g. g.left) same in
      record { value = a.value; is = rw (rest, place); shows = sym (ap (λ g. g.value) same) }
  met_in h (fault why at) e = impossible cc

  stopped_in : (h : A → B) (v : Verdict (Got A)) {why : Fault} {p : ℕ} → fault why p ≡ keep h v → v ≡ fault why p
  unfolding ◌and_then◌
  stopped_in h (fine a) e = impossible cc
  stopped_in h (fault why at) e = cc

keep_itself : {A : Type 0} (v : Verdict (Got A)) → v ≡ keep itself v
unfolding ◌and_then◌
keep_itself (fine a) = refl
keep_itself (fault why at) = refl

module _ {A : Type 0} {r : Reader A} {s : List ℕ} {at : ℕ} where
  module _ {B : Type 0} {h : A → B} where
    pub met : {y : B} {next : ℕ} → Says r h s at (got s y next) → Met h (r at (drop at s)) s y next
    met w = met_in h (r at (drop at s)) w.is

    pub stopped : {why : Fault} {p : ℕ} → Says r h s at (fault why p) → r at (drop at s) ≡ fault why p
    stopped w = stopped_in h (r at (drop at s)) w.is

  pub exact : {answer : Verdict (Got A)} → answer ≡ r at (drop at s) → Says r itself s at answer
  exact e = record { is = e ∙ keep_itself _ }

  pub exactly : {answer : Verdict (Got A)} → Says r itself s at answer → r at (drop at s) ≡ answer
  exactly w = keep_itself _ ∙ sym w.is

-- from further back
pub further : {A : Type 0} (size size' : A → ℕ) (at next : ℕ) (v : Verdict (Got A)) → ((y : A) → at + size' y ≤ next + size y) → Moves size next v
    → Moves size' at v
further size size' at next (fine g) h m = let l = h g.value in omega arith
further size size' at next (fault why p) h m = tt

pub nearer : {A B C D : Type 0} {r : Reader A} {h : A → B} {least : B → ℕ} {q : Reader C} {g : C → D} {size : D → ℕ} {s : List ℕ} {at next : ℕ} {x : B} {v : Verdict (Got D)} (size' : D → ℕ)
    → Keeps r h least s at (got s x next) → Keeps q g size s next v → ((y : D) → size' y ≤ least x + size y) → Moves size' at v
nearer {least} {size} {at} {next} {x} {v} size' w z more = further size size' at next v (λ y. let m = more y in omega (arith, w.moves)) z.moves

-- ---- one reader after another

module _ {A B C : Type 0} {r : Reader A} (k : A → Reader B) {h : B → C} {s : List ℕ} {at : ℕ} where
  pub on : {answer : Verdict (Got C)} {x : A} {next : ℕ} → Says r itself s at (got s x next) → Says (k x) h s next answer → Says (r >>= k) h s at answer
  unfolding ◌and_then◌ ◌>>=◌
  on w v = record { is = rw (exactly w) v.is }

  module _ {D : Type 0} {g : A → D} where
    pub on_some : {answer : Verdict (Got C)} {y : D} {next : ℕ} → Says r g s at (got s y next) → ((x : A) → g x ≡ y → Says (k x) h s next answer)
        → Says (r >>= k) h s at answer
    unfolding ◌and_then◌ ◌>>=◌
    on_some w v = let m = met w in record { is = rw m.is (v m.value m.shows).is }

    pub off : {why : Fault} {p : ℕ} → Says r g s at (fault why p) → Says (r >>= k) h s at (fault why p)
    unfolding ◌and_then◌ ◌>>=◌
    off w = record { is = rw (stopped w) }

-- what is made of what was read
pub made_of : {A B C : Type 0} {r : Reader A} (k : A → B) {h : B → C} {s : List ℕ} {at : ℕ} {answer : Verdict (Got C)} → Says r (λ a. h (k a)) s at answer
    → Says (r >>= λ a. give (k a)) h s at answer
unfolding ◌>>=◌
made_of {r} k {h} {s} {at} w = record { is = w.is ∙ sym (keep_keep h k (r at (drop at s))) }

pub given : {A B : Type 0} {h : A → B} {x : A} {y : B} {s : List ℕ} {at : ℕ} → h x ≡ y → Says (give x) h s at (got s y at)
unfolding ◌and_then◌
given e = record { is = rw e }

-- another part of what was read
module _ {A B C : Type 0} {r : Reader A} {h : A → B} {g : A → C} {s : List ℕ} {at : ℕ} where
  pub part : {y : B} {z : C} {next : ℕ} → Says r h s at (got s y next) → ((x : A) → h x ≡ y → g x ≡ z) → Says r g s at (got s z next)
  unfolding ◌and_then◌
  part w same = let m = met w in record { is = rw (m.is, same m.value m.shows) }

  pub fails : {why : Fault} {p : ℕ} → Says r h s at (fault why p) → Says r g s at (fault why p)
  unfolding ◌and_then◌
  fails w = record { is = rw (stopped w) }

-- an item that is judged
module _ {A : Type 0} {r : Reader A} (why : Fault) (ok : A → Bool) {s : List ℕ} {at : ℕ} where
  pub good : {x : A} {next : ℕ} → Says r itself s at (got s x next) → ok x ≡ true → Says (r or why unless ok) itself s at (got s x next)
  unfolding ◌and_then◌ ◌or◌unless◌
  good w e = exact (rw (exactly w, e))

  pub bad : {x : A} {next : ℕ} → Says r itself s at (got s x next) → ok x ≡ false → Says (r or why unless ok) itself s at (fault why at)
  unfolding ◌and_then◌ ◌or◌unless◌
  bad w e = exact (rw (exactly w, e))

  module _ {B : Type 0} {h : A → B} where
    pub good_some : {y : B} {next : ℕ} → Says r h s at (got s y next) → ((x : A) → h x ≡ y → ok x ≡ true) → Says (r or why unless ok) h s at (got s y next)
    unfolding ◌and_then◌ ◌or◌unless◌
    good_some w e = let m = met w in record { is = rw (m.is, e m.value m.shows, m.shows) }

    pub bad_some : {y : B} {next : ℕ} → Says r h s at (got s y next) → ((x : A) → h x ≡ y → ok x ≡ false) → Says (r or why unless ok) h s at (fault why at)
    unfolding ◌and_then◌ ◌or◌unless◌
    bad_some w e = let m = met w in record { is = rw (m.is, e m.value m.shows) }

    pub cut : {w : Fault} {p : ℕ} → Says r h s at (fault w p) → Says (r or why unless ok) h s at (fault w p)
    unfolding ◌and_then◌ ◌or◌unless◌
    cut w = record { is = rw (stopped w) }

-- a judged item that was read
pub was_good : {A : Type 0} (r : Reader A) (why : Fault) (ok : A → Bool) {s : List ℕ} {at : ℕ} {x : A} {next : ℕ}
    → Says (r or why unless ok) itself s at (got s x next) → ok x ≡ true
unfolding ◌or◌unless◌ ◌and_then◌
was_good r why ok {s} {at} {x} {next} w = by (r at (drop at s)) (exactly w)
  where
    by : (v : Verdict (Got _)) → (v and_then λ g. if ok g.value then fine g else fault why at) ≡ got s x next → ok x ≡ true
    by (fault w p) e = impossible cc
    by (fine g) e = yes (ok g.value) refl e
      where
        yes : (b : Bool) → ok g.value ≡ b → (if b then fine g else fault why at) ≡ got s x next → ok x ≡ true
        yes true is q =
            let same : g ≡ record { value = x; next = next; left = drop next s } = cc in
            sym (ap (λ y. ok y.value) same) ∙ is
        yes false is q = impossible cc

-- ---- a whole body

module _ {A B : Type 0} {header start : ℕ} {r : Reader A} {h : A → B} {s : List ℕ} where
  pub used_up : {y : B} {at : ℕ} → Says r h s start (got s y at) → length s ≤ at → JudgedAt header start r h s (fine y)
  unfolding whole ◌and_then◌
  used_up {y} {at} w l = let m = met w in record { is = rw (m.is, drop_of_length-le s {i = at} l, m.shows) }

  pub left_over : {y : B} {at : ℕ} → Says r h s start (got s y at) → at < length s → JudgedAt header start r h s (fault WrongLength header)
  unfolding whole ◌and_then◌
  left_over {y} {at} w l = let m = met w in record { is = rw (m.is, drop-cons s at (length s) l) }

  pub faulty : {why : Fault} {p : ℕ} → Says r h s start (fault why p) → JudgedAt header start r h s (fault why p)
  unfolding whole ◌and_then◌
  faulty w = record { is = rw (stopped w) }

-- ---- a body whose length is judged first, and one that is not judged

module _ {A B : Type 0} (width : ℕ) (ok : ℕ → Bool) (r : Reader A) {h : A → B} {s : List ℕ} {at : ℕ} where
  pub wrong_length : ok (length s - at) ≡ false → Says (reader_of_length width ok r) h s at (fault WrongLength (header_of width at))
  unfolding reader_of_length ◌and_then◌
  wrong_length e = record { is = rw (length-drop at s, e) }

  pub right_length : {answer : Verdict (Got B)} → ok (length s - at) ≡ true → Says r h s at answer → Says (reader_of_length width ok r) h s at answer
  unfolding reader_of_length
  right_length e w = record { is = rw (length-drop at s, e) w.is }

pub not_judged : {A : Type 0} (a : A) {s : List ℕ} {at : ℕ} → at ≤ length s → Says (unjudged a) itself s at (got s a (length s))
unfolding unjudged ◌and_then◌
not_judged a {s} {at} h =
    let end : at + (length s - at) ≡ length s = omega arith in
    record { is = rw (length-drop at s, end, drop-length s) }

-- whatever stands from a place on, beyond the end too
pub rest_unjudged : {A B C : Type 0} {header : ℕ} (a : A) (k : A → B) (h : B → C) {s : List ℕ} {at : ℕ}
    → JudgedAt header at (unjudged a >>= (λ x. give (k x))) h s (fine (h (k a)))
unfolding unjudged whole ◌>>=◌ ◌and_then◌
rest_unjudged a k h = record { is = refl }

-- ---- a whole body, item by item

module _ {A B C : Type 0} {header : ℕ} {r : Reader A} (k : A → Reader B) {h : B → C} {s : List ℕ} {at : ℕ} where
  pub judged_on : {answer : Verdict C} {x : A} {next : ℕ} → Says r itself s at (got s x next) → JudgedAt header next (k x) h s answer
      → JudgedAt header at (r >>= k) h s answer
  unfolding whole ◌and_then◌ ◌>>=◌
  judged_on w j = record { is = rw (exactly w) j.is }

  pub judged_off : {D : Type 0} {g : A → D} {why : Fault} {p : ℕ} → Says r g s at (fault why p) → JudgedAt header at (r >>= k) h s (fault why p)
  judged_off w = faulty (off k w)

  pub judged_some : {D : Type 0} {g : A → D} {answer : Verdict C} {y : D} {next : ℕ} → Says r g s at (got s y next)
      → ((x : A) → g x ≡ y → JudgedAt header next (k x) h s answer) → JudgedAt header at (r >>= k) h s answer
  unfolding whole ◌and_then◌ ◌>>=◌
  judged_some w j = let m = met w in record { is = rw m.is (j m.value m.shows).is }

module _ {A B : Type 0} {header : ℕ} (width : ℕ) (ok : ℕ → Bool) (r : Reader A) {h : A → B} {s : List ℕ} {at : ℕ} where
  pub judged_length : {answer : Verdict B} → ok (length s - at) ≡ true → JudgedAt header at r h s answer → JudgedAt header at (reader_of_length width ok r) h s answer
  unfolding reader_of_length whole
  judged_length e j = record { is = rw (length-drop at s, e) j.is }

-- what is made of a body, and a part of what was judged
module _ {A B C : Type 0} {header at : ℕ} {r : Reader A} {h : B → C} {s : List ℕ} where
  pub judged_as : (k : A → B) {answer : Verdict C} → JudgedAt header at r (λ a. h (k a)) s answer → JudgedAt header at (r >>= λ a. give (k a)) h s answer
  unfolding whole ◌and_then◌ ◌>>=◌
  judged_as k {answer} j = record { is = by (r at (drop at s)) j.is }
    where
      yes : (b : Bool) (a : A)
          → ((if b then fine a else fault WrongLength header) and_then λ a. fine (h (k a))) ≡ ((if b then fine (k a) else fault WrongLength header) and_then λ b. fine (h b))
      yes true a = refl
      yes false a = refl

      by : (v : Verdict (Got A)) → answer ≡ ((v and_then λ g. if empty g.left then fine g.value else fault WrongLength header) and_then λ a. fine (h (k a)))
          → answer ≡ (((v and_then λ g. give (k g.value) g.next g.left) and_then λ g. if empty g.left then fine g.value else fault WrongLength header) and_then λ b. fine (h b))
      by (fine g) e = e ∙ yes (empty g.left) g.value
      by (fault why p) e = e

pub judged_part : {A B C : Type 0} {header at : ℕ} {r : Reader A} {h : A → B} {s : List ℕ} (g : B → C) {f : A → C} {v : Verdict B} → ((a : A) → g (h a) ≡ f a)
    → JudgedAt header at r h s v → JudgedAt header at r f s (v and_then λ b. fine (g b))
judged_part {h} g {f} same j = record { is = rw j.is (then_then _ h g ∙ then_same _ (λ a. g (h a)) f same) }
