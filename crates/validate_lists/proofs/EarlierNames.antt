-- Names are not kept: the earlier ones are read again, from the body's first on, wherever a later one is compared with them.
use Rattle.std.specs.Prelude.{if◌then◌else◌, Ok, Err}
use mathlib.Core.Path.{◌≡◌, refl, sym, ap, ◌∙◌}
use mathlib.Core.List.{List, [], ◌∷◌, ◌++◌}
use mathlib.Core.Bool.{Bool, true, false, not}
use Prim.Native.Nat.{ℕ, ◌+◌, ◌-◌, ◌≤◌, ◌<◌}
use native.Mathlib.Omega.{arith}
use lib.ListN.{length, take, drop, length-take, length-drop}
use borrow.Author.Tests.{le-leb, lt-leb}
use Rattle.format.specs.Bytes.{same, amongst}
use Rattle.format.specs.Items.{Got, string}
use Rattle.format.specs.Mesh.{Name}
use Rattle.format.specs.Promises.{itself, got, Says}
use Rattle.format.proofs.Facts.{impossible}
use Rattle.format.proofs.ReaderSteps.{exactly}
use Rattle.wire.specs.declared.Refusal.{Refusal}
use Rattle.wire.specs.declared.cursor.Cursor.{Cursor}
use Rattle.wire.specs.Promises.{TextAt}
use Rattle.validate_lists.specs.Promises.{Chain, done, link, Amongst, NewName}

-- ---- chains

ends : {s : List ℕ} {to at : ℕ} {ns : List Name} → Chain s to at ns → at ≤ to
ends done = omega arith
ends (link lt e rest) = let l = ends rest in omega arith

pub snoc : {s : List ℕ} {to at next : ℕ} {n : Name} {ns : List Name} → Chain s to at ns → to < next → Says string itself s to (got s n next)
    → Chain s next at (ns ++ (n ∷ []))
snoc done lt e = link lt e done
snoc (link l f rest) lt e = link l f (snoc rest lt e)

record Link (s : List ℕ) (to at : ℕ) (ns : List Name) : Type 0 where
  name : Name
  more : List Name
  next : ℕ
  are : ns ≡ name ∷ more
  read : Says string itself s at (got s name next)
  rest : Chain s to next more

linked : {s : List ℕ} {to at : ℕ} {ns : List Name} → Chain s to at ns → at < to → Link s to at ns
linked done h = absurd (omega arith)
linked (link lt e rest) h = record { name = _; more = _; next = _; are = refl; read = e; rest = rest }

empty : {s : List ℕ} {to at : ℕ} {ns : List Name} → Chain s to at ns → to ≤ at → ns ≡ []
empty done h = refl
empty (link lt e rest) h = let l = ends rest in absurd (omega arith)

-- ---- a name amongst the earlier ones

-- of the names before `to`, those from p on are left to be compared with x
pub record Left (s : List ℕ) (to p : ℕ) (x : Name) (ns : List Name) : Type 0 where
  pub left : List Name
  pub chain : Chain s to p left
  pub so : amongst x ns ≡ amongst x left

-- the names are not held by the code
pub record LeftToCompare (s : List ℕ) (to n p : ℕ) : Type 0 where
  pub each : (ns : List Name) → Chain s to 8 ns → Left s to p (take n (drop to s)) ns

pub from_first : {s : List ℕ} {to n : ℕ} → LeftToCompare s to n 8
from_first = record { each = λ ns chain. record { left = ns; chain = chain; so = refl } }

module _ {s : List ℕ} {to n p : ℕ} (w : LeftToCompare s to n p) where
  pub not_there : to ≤ p → Amongst s to n false
  unfolding amongst
  not_there h = record { is = λ ns chain. let l = w.each ns chain in sym (l.so ∙ ap (amongst (take n (drop to s))) (empty l.chain h)) }

  module _ (some : p < to) where
    pub never : {f : Refusal} → TextAt s p (Err f) → Amongst s to n false
    never r = record {
      is = λ ns chain. let l = linked (w.each ns chain).chain some in impossible (cc (exactly l.read, exactly r.reads.says));
    }

    module _ {m : ℕ} {next : Cursor} (r : TextAt s p (Ok (m, next))) where
      -- the first of those that are left is the name at p
      record First (ns : List Name) : Type 0 where
        more : List Name
        chain : Chain s to next.at more
        so : amongst (take n (drop to s)) ns ≡ (if same (take n (drop to s)) (take m (drop p s)) then true else amongst (take n (drop to s)) more)

      first : (ns : List Name) → Chain s to 8 ns → First ns
      unfolding amongst
      first ns chain =
          let k = w.each ns chain in
          let l = linked k.chain some in
          let two : ◌≡◌ {A = Got Name} (record { value = l.name; next = l.next; left = drop l.next s })
          (record { value = take m (drop p s); next = next.at; left = drop next.at s }) = cc (exactly l.read, exactly r.reads.says) in
          let name : l.name ≡ take m (drop p s) = ap (λ g. g.value) two in
          let place : l.next ≡ next.at = ap (λ g. g.next) two in
          record {
            more = l.more;
            chain = rw place at l.rest;
            so = k.so ∙ ap (amongst (take n (drop to s))) l.are
                ∙ ap (λ y. if same (take n (drop to s)) y then true else amongst (take n (drop to s)) l.more) name;
          }

      -- the two names were compared, each as the bytes from its first to its end
      module _ {b : Bool} (is : b ≡ same (take (to + n - to) (drop to s)) (take (p + m - p) (drop p s))) where
        compared : b ≡ same (take n (drop to s)) (take m (drop p s))
        compared =
            let x : to + n - to ≡ n = omega arith in
            let y : p + m - p ≡ m = omega arith in
            rw (x, y) at is

        pub found : b ≡ true → Amongst s to n true
        found t = record { is = λ ns chain. sym ((first ns chain).so ∙ rw (← compared, t)) }

        pub onward : b ≡ false → LeftToCompare s to n next.at
        onward f = record { each = λ ns chain. let l = first ns chain in record { left = l.more; chain = l.chain; so = l.so ∙ rw (← compared, f) } }

-- ---- the test of a name

module _ (s : List ℕ) (at n : ℕ) (room : at + n ≤ length s) where
  size : length (take n (drop at s)) ≡ n
  size = rw (length-take n (drop at s), length-drop at s) (omega arith)

  pub too_long : 255 < n → NewName s at n false
  too_long h = record { is = λ ns chain. rw (size, lt-leb _ _ h) }

  pub unless_there : {b : Bool} → n ≤ 255 → Amongst s at n b → NewName s at n (not b)
  unless_there h a = record { is = λ ns chain. rw (size, le-leb _ _ h, a.is ns chain) }
