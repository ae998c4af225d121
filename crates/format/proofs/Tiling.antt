-- The chunks of some bytes: the one that stands at their front, and those of the rest.
use Rattle.std.specs.Prelude.{if◌then◌else◌}
use mathlib.Core.Path.{◌≡◌, refl, ap, subst}
use mathlib.Core.List.{List, [], ◌∷◌}
use mathlib.Core.Bool.{Bool, true, false, ◌&&◌, and-eq-true_iff}
use Prim.Native.Nat.{ℕ, zero, suc, ◌+◌, ◌≤◌, ◌<◌}
use native.Mathlib.Omega.{arith}
use lib.Dec.{leb}
use lib.ListN.{length, take, drop, length-take, length-drop}
use borrow.Author.Tests.{leb-true}
use Rattle.format.specs.declared.Fault.{Fault}
use Rattle.format.specs.declared.Fault.TheVariants.{BadHeader}
use Rattle.format.specs.Bytes.{between, number, every, all}
use Rattle.format.specs.Items.{Verdict, fine, fault, Got}
use Rattle.format.specs.Chunks.{Chunk, size_of, length_of, well_formed, chunk_of, Chunks, finished, broken, chunk, link, split, chunks}
use Rattle.format.proofs.Facts.{impossible}

fits : (a b c d : Bool) → every (a ∷ b ∷ c ∷ d ∷ []) ≡ true → c ≡ true
unfolding every
fits a b c d e = ((and-eq-true_iff c (d && true)).0 ((and-eq-true_iff b (c && (d && true))).0 ((and-eq-true_iff a (b && (c && (d && true)))).0 e).1).1).0

-- A chunk that is read at any place: its size, and what is read of the same bytes elsewhere.
pub record Framed (at : ℕ) (b : List ℕ) (g : Got Chunk) : Type 0 where
  pub size : g.next ≡ at + size_of 4 (length g.value.body)
  pub whole : 8 + length g.value.body + length g.left ≤ length b
  pub less : length g.left < length b
  pub next : ℕ
  pub first : chunk_of 4 0 b ≡ fine (record { value = g.value; next = next; left = g.left })

pub framed : (at : ℕ) (b : List ℕ) (g : Got Chunk) → chunk_of 4 at b ≡ fine g → Framed at b g
unfolding chunk_of well_formed size_of
framed at b g e = by (well_formed 4 b) refl e
  where
    n : ℕ
    n = length_of 4 b

    read : ℕ → Got Chunk
    read at = record { value = record { tag = number (take 4 b); body = take n (drop 8 b) }; next = at + size_of 4 n; left = drop (size_of 4 n) b }

    by : (t : Bool) → well_formed 4 b ≡ t → (if t then fine (read at) else fault BadHeader at) ≡ fine g → Framed at b g
    by false ok e = impossible cc
    by true ok e =
        let room : size_of 4 n ≤ length b = leb-true _ _ (fits (leb 8 (length b)) (all (between 32 126) (take 4 b)) (leb (size_of 4 n) (length b)) _ ok) in
        let long : length (take n (drop 8 b)) ≡ n = rw (length-take n (drop 8 b), length-drop 8 b) (omega arith) in
        let whole : read at ≡ g = cc in
        subst (Framed at b) whole (record { size = rw long; whole = rw (long, length-drop (size_of 4 n) b) (omega arith); less = rw (length-drop (size_of 4 n) b) (omega arith); next = 0 + size_of 4 n; first = rw ok })

pub unframed : (at : ℕ) (b : List ℕ) {why : Fault} {p : ℕ} → chunk_of 4 at b ≡ fault why p → chunk_of 4 0 b ≡ fault BadHeader 0
unfolding chunk_of
unframed at b {why} {p} e = by (well_formed 4 b) _ _ e
  where
    by : (t : Bool) (g g' : Got Chunk) → (if t then fine g else fault BadHeader at) ≡ fault why p
        → (if t then fine g' else fault BadHeader 0) ≡ fault BadHeader 0
    by false g g' e = refl
    by true g g' e = impossible cc

-- ---- the bound of their number

link_same : (f g : List ℕ → Chunks) (b : List ℕ) → ((t : List ℕ) → length t < length b → f t ≡ g t) → (v : Verdict (Got Chunk)) → chunk_of 4 0 b ≡ v
    → link f v ≡ link g v
unfolding link
link_same f g b same (fine c) e = ap (chunk c.value.tag c.value.body) (same c.left (framed 0 b c e).less)
link_same f g b same (fault why at) e = refl

-- any bound that is large enough finds the same chunks
split_same : (n m : ℕ) (b : List ℕ) → length b ≤ n → length b ≤ m → split n b ≡ split m b
unfolding split
split_same zero zero b h k = refl
split_same zero (suc m) [] h k = refl
split_same zero (suc m) (x ∷ b) h k = absurd (omega arith)
split_same (suc n) zero [] h k = refl
split_same (suc n) zero (x ∷ b) h k = absurd (omega arith)
split_same (suc n) (suc m) [] h k = refl
split_same (suc n) (suc m) (x ∷ b) h k = link_same (split n) (split m) (x ∷ b) (λ t less. split_same n m t (omega arith) (omega arith)) (chunk_of 4 0 (x ∷ b)) refl

-- ---- what stands at the front

pub none : chunks [] ≡ finished
unfolding chunks split
none = refl

pub next_chunk : (at : ℕ) (b : List ℕ) (g : Got Chunk) → chunk_of 4 at b ≡ fine g → chunks b ≡ chunk g.value.tag g.value.body (chunks g.left)
unfolding chunks split link
next_chunk at [] g e = absurd (omega (arith, (framed at [] g e).less))
next_chunk at (x ∷ b) g e =
    let f = framed at (x ∷ b) g e in
    rw (f.first, split_same (length b) (length g.left) g.left (omega (arith, f.less)) (omega arith))

pub no_chunk : (at : ℕ) (b : List ℕ) {why : Fault} {p : ℕ} → 0 < length b → chunk_of 4 at b ≡ fault why p → chunks b ≡ broken
unfolding chunks split link
no_chunk at [] some e = absurd (omega arith)
no_chunk at (x ∷ b) some e = rw (unframed at (x ∷ b) e)
