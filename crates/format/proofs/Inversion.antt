-- What is known to be fine, taken apart: the second pass reads again what the first one has judged.
use Rattle.std.specs.Prelude.{if◌then◌else◌}
use mathlib.Core.Path.{◌≡◌, refl, sym, ap, ◌∙◌}
use mathlib.Core.List.{List, ◌∷◌}
use mathlib.Core.Bool.{Bool, true, false}
use Prim.Native.Nat.{ℕ, ◌-◌, ◌<◌}
use lib.ListN.{length, drop}
use Rattle.format.specs.Bytes.{empty}
use Rattle.format.specs.declared.Fault.{Fault}
use Rattle.format.specs.declared.Fault.TheVariants.{WrongLength}
use Rattle.format.specs.Items.{Verdict, fine, fault, Got, ◌and_then◌, Reader, ◌>>=◌, give, ◌or◌unless◌, up_to, whole}
use Rattle.format.specs.Promises.{keep, itself, Says, Succeeds, got}
use Rattle.format.proofs.Facts.{impossible}
use Rattle.format.proofs.ReaderSteps.{exactly, good, bad}
use Rattle.format.proofs.Entries.{ManyLoop, once}

pub sound_then : {A B : Type 0} (v : Verdict A) (f : A → Verdict B) → Succeeds (v and_then f) → (x : Succeeds v) × Succeeds (f x.value)
unfolding ◌and_then◌
sound_then (fine a) f w = (record { value = a; is = refl }, w)
sound_then (fault why p) f w = impossible (cc w.is)

pub sound_not : {A : Type 0} {v : Verdict A} {why : Fault} {p : ℕ} → Succeeds v → v ≡ fault why p → ⊥
sound_not w e = impossible (cc w.is)

-- the first of two readers, and the second
module _ {A B : Type 0} (r : Reader A) (k : A → Reader B) where
  pub sound_first : (at : ℕ) (t : List ℕ) → Succeeds ((r >>= k) at t) → Succeeds (r at t)
  unfolding ◌>>=◌
  sound_first at t w = (sound_then (r at t) _ w).0

  pub then_at : {s : List ℕ} {at : ℕ} {x : A} {next : ℕ} → Says r itself s at (got s x next) → (r >>= k) at (drop at s) ≡ k x next (drop next s)
  unfolding ◌>>=◌ ◌and_then◌
  then_at w = rw (exactly w)

  pub sound_next : {s : List ℕ} {at : ℕ} {x : A} {next : ℕ} → Says r itself s at (got s x next) → Succeeds ((r >>= k) at (drop at s))
      → Succeeds (k x next (drop next s))
  sound_next w v = rw (then_at w) at v

module _ {A : Type 0} {r : Reader A} (why : Fault) (ok : A → Bool) {s : List ℕ} {at : ℕ} where
  good_if : (b : Bool) {x : A} {next : ℕ} → Says r itself s at (got s x next) → Succeeds ((r or why unless ok) at (drop at s)) → ok x ≡ b
      → Says (r or why unless ok) itself s at (got s x next)
  good_if true w v e = good why ok w e
  good_if false w v e = absurd (sound_not v (exactly (bad why ok w e)))

  pub sound_good : {x : A} {next : ℕ} → Says r itself s at (got s x next) → Succeeds ((r or why unless ok) at (drop at s))
      → Says (r or why unless ok) itself s at (got s x next)
  sound_good {x} w v = good_if (ok x) w v refl

pub record Used {A : Type 0} (r : Reader A) (header at : ℕ) (b : List ℕ) : Type 0 where
  pub got : Got A
  pub is : r at b ≡ fine got
  pub so : whole header r at b ≡ fine got.value

pub sound_whole : {A : Type 0} (r : Reader A) (header at : ℕ) (b : List ℕ) → Succeeds (whole header r at b) → Used r header at b
unfolding whole ◌and_then◌
sound_whole r header at b w = by (r at b) refl w
  where
    by : (v : Verdict (Got _)) → r at b ≡ v → Succeeds (v and_then λ g. if empty g.left then fine g.value else fault WrongLength header)
        → Used r header at b
    by (fault why p) e u = absurd (sound_not u refl)
    by (fine g) e u = yes (empty g.left) refl u
      where
        yes : (t : Bool) → empty g.left ≡ t → Succeeds (if t then fine g.value else fault WrongLength header) → Used r header at b
        yes true q u = record { got = g; is = e; so = rw (e, q) }
        yes false q u = absurd (sound_not u refl)

-- the entry that stands at a place, where all of them are fine, with those that follow
pub record Entry {A B : Type 0} (r : Reader A) (s : List ℕ) (at : ℕ) (f : List A → B) (whole : B) : Type 0 where
  pub first : Got A
  pub is : r at (drop at s) ≡ fine first
  pub more : List A
  pub so : f (first.value ∷ more) ≡ whole

pub many_sound : {A B : Type 0} {goal : Verdict (Got B)} {r : Reader A} {s : List ℕ} {at : ℕ} {f : List A → B} → ManyLoop goal r s at f → at < length s
    → (w : Succeeds goal) → Entry r s at f w.value.value
unfolding ◌and_then◌ ◌>>=◌
many_sound {goal} {r} {s} {at} {f} t some w = by (r at (drop at s)) refl (sym (t.rest ∙ ap (keep f) (once t some)) ∙ w.is)
  where
    by : (v : Verdict (Got _)) → r at (drop at s) ≡ v
        → keep f (v and_then λ g. (up_to (t.fuel - 1) r g.next g.left and_then λ h. give (g.value ∷ h.value) h.next h.left)) ≡ fine w.value
        → Entry r s at f w.value.value
    by (fault why p) is e = impossible cc
    by (fine g) is e = rest (up_to (t.fuel - 1) r g.next g.left) e
      where
        rest : (u : Verdict (Got (List _))) → keep f (u and_then λ h. give (g.value ∷ h.value) h.next h.left) ≡ fine w.value
            → Entry r s at f w.value.value
        rest (fault why p) q = impossible cc
        rest (fine h) q =
            let same : record { value = f (g.value ∷ h.value); next = h.next; left = h.left } ≡ w.value = cc in
            record { first = g; is = is; more = h.value; so = ap (λ y. y.value) same }
