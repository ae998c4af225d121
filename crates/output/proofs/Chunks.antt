-- A chunk is a head, its body and its pad: put in this order, or the body first and the rest around it.
use Prim.Native.Nat.{ℕ, ◌+◌, ◌-◌, ◌%◌, ◌≤◌}
use Prim.Native.String.{String}
use mathlib.Core.Path.{◌≡◌, refl, sym, ap, ◌∙◌}
use mathlib.Core.List.{List, [], ◌∷◌, ◌++◌, map, append_assoc, append-nil}
use native.Mathlib.Omega.{arith}
use lib.ListN.{length, take, drop, replicate, length-append, length-replicate, length-drop, take-append-drop}
use lib.Seq.{take_at, drop_at, take-add, take-take, drop-drop, take-append-le, drop-append-add, length-take-le}
use Rattle.format.specs.Bytes.{spelt, joined}
use Rattle.format.specs.Canonical.{bytes, chunk_bytes, unless_empty}
use Rattle.format.proofs.CanonicalLengths.{length_bytes}
use Rattle.output.specs.Outputs.{Wrote, chunks_bytes, head_bytes, tagged_bytes}
use Rattle.output.proofs.PutSoFar.{wrote_none, then_wrote}
use Rattle.output.proofs.Parts.{PartsLeft, begin, room, turn, end}

-- ---- the head first, where the length of the body is known

pub record Chunk (goal : List ℕ) (width tag n : ℕ) (body t : List ℕ) (at : ℕ) : Type 0 where
  pub is : goal ≡ head_bytes width tag n ++ (body ++ replicate (n % 2) 0)
  pub fits : at + length goal ≤ length t

module _ {goal body t : List ℕ} {width tag n at : ℕ} (w : Chunk goal width tag n body t at) where
  started : PartsLeft goal (head_bytes width tag n ∷ body ∷ replicate (n % 2) 0 ∷ []) t at t at
  unfolding joined
  started = begin (rw append-nil w.is) w.fits

  pub head_room : at + length (head_bytes width tag n) ≤ length t
  head_room = room started

  module _ {t₁ : List ℕ} {a₁ : ℕ} (h : Wrote t at (head_bytes width tag n) t₁ a₁) where
    pub body_room : a₁ + length body ≤ length t₁
    body_room = room (turn started h)

    module _ {t₂ : List ℕ} {a₂ : ℕ} (b : Wrote t₁ a₁ body t₂ a₂) where
      padding : PartsLeft goal (replicate (n % 2) 0 ∷ []) t at t₂ a₂
      padding = turn (turn started h) b

      pub pad_room : a₂ + n % 2 ≤ length t₂
      pad_room = let long : length (replicate {A = ℕ} (n % 2) 0) ≡ n % 2 = length-replicate (n % 2) 0 in omega (arith, room padding)

      pub chunk : {t₃ : List ℕ} {a₃ : ℕ} → Wrote t₂ a₂ (replicate (n % 2) 0) t₃ a₃ → Wrote t at goal t₃ a₃
      chunk p = end (turn padding p)

      -- an even body has no pad
      pub unpadded : n % 2 ≡ 0 → Wrote t at goal t₂ a₂
      unpadded even = chunk (rw even wrote_none)

module _ (width tag : ℕ) (s : String) (body : List ℕ) (spells : bytes 4 tag ≡ spelt s) where
  pub chunk_is : chunk_bytes width s body ≡ tagged_bytes width tag body
  unfolding chunk_bytes
  chunk_is = rw (← spells) (sym (append_assoc (bytes 4 tag) (bytes width (length body)) (body ++ replicate (length body % 2) 0)))

-- ---- what was put, in the output

module _ {t t' ws : List ℕ} {at next : ℕ} (w : Wrote t at ws t' next) (fits : at + length ws ≤ length t) where
  abbrev after_it : List ℕ
  after_it = drop (at + length ws) t

  front : length (take at t) ≡ at
  front = length-take-le at t (omega arith)

  -- it stands there
  stands : take (length ws) (drop at t') ≡ ws
  stands = rw (w.put.put, append_assoc (take at t) ws after_it, drop_at (take at t) (ws ++ after_it) at front) (take_at ws after_it (length ws) refl)

  -- and on both sides the output is as it was
  same_before : (k : ℕ) → k ≤ at → take k t' ≡ take k t
  same_before k less = rw (w.put.put, append_assoc (take at t) ws after_it, take-append-le k (take at t) (ws ++ after_it) (omega (arith, front))) (take-take k at t less)

  same_after : (k : ℕ) → at + length ws ≤ k → drop k t' ≡ drop k t
  same_after k more =
      let j : ℕ = k - (at + length ws) in
      let long : length (take at t ++ ws) ≡ at + length ws = omega (arith, length-append (take at t) ws, front) in
      let k_is : length (take at t ++ ws) + j ≡ k = omega (arith, long) in
      let far : at + length ws + j ≡ k = omega arith in
      rw w.put.put (rw k_is at (drop-append-add (take at t ++ ws) after_it j) ∙ drop-drop j (at + length ws) t ∙ ap (λ (m : ℕ). drop m t) far)

  -- more is put over it
  over : {us t'' : List ℕ} {m last : ℕ} → Wrote t' m us t'' last → m ≤ at → at + length ws ≤ m + length us → Wrote t m us t'' last
  over {us} {t''} {m} {last} v less more = record {
    put = record { put = v.put.put ∙ rw (same_before m less, same_after (m + length us) more) };
    next_is = v.next_is;
    kept = v.kept ∙ w.kept;
  }

-- what stands there already
already : (t : List ℕ) (at n : ℕ) → at + n ≤ length t → Wrote t at (take n (drop at t)) t (at + n)
already t at n fits =
    let long : length (take n (drop at t)) ≡ n = length-take-le n (drop at t) (omega (arith, length-drop at t)) in
    record {
      put = record { put = rw (long, ← take-add at n t) (sym (take-append-drop (at + n) t)) };
      next_is = rw long;
      kept = refl;
    }

-- ---- the body first, so that where it ends tells its length

length_head : (tag n : ℕ) → length (head_bytes 4 tag n) ≡ 8
length_head tag n = omega (arith, length-append (bytes 4 tag) (bytes 4 n), length_bytes 4 tag, length_bytes 4 n)

length_tagged : (tag : ℕ) (body : List ℕ) → length (tagged_bytes 4 tag body) ≡ 8 + length body + length body % 2
length_tagged tag body =
    let n : ℕ = length body in
    let pad : List ℕ = replicate (n % 2) 0 in
    let padding : length pad ≡ n % 2 = length-replicate (n % 2) 0 in
    omega (arith, length-append (head_bytes 4 tag n) (body ++ pad), length_head tag n, length-append body pad)

-- a head and a pad put around what stands between them
module _ (t : List ℕ) (at tag end : ℕ) (room : (at + 8 ≤ end) × (end + (end - (at + 8)) % 2 ≤ length t)) where
  abbrev held : List ℕ
  held = take (end - (at + 8)) (drop (at + 8) t)

  held_long : length held ≡ end - (at + 8)
  held_long = length-take-le (end - (at + 8)) (drop (at + 8) t) (omega (arith, room, length-drop (at + 8) t))

  pub around_head : at + length (head_bytes 4 tag (end - (at + 8))) ≤ length t
  around_head = omega (arith, room, length_head tag (end - (at + 8)))

  module _ {t₁ : List ℕ} {a₁ : ℕ} (h : Wrote t at (head_bytes 4 tag (end - (at + 8))) t₁ a₁) where
    pub around_pad : end + (end - (at + 8)) % 2 ≤ length t₁
    around_pad = omega (arith, room, h.kept)

    pub around : {t₂ : List ℕ} {r : ℕ} → Wrote t₁ end (replicate ((end - (at + 8)) % 2) 0) t₂ r → Wrote t at (tagged_bytes 4 tag held) t₂ r
    around {t₂} {r} p =
        let n : ℕ = end - (at + 8) in
        let padding : length (replicate {A = ℕ} (n % 2) 0) ≡ n % 2 = length-replicate (n % 2) 0 in
        let eight = length_head tag n in
        let next : a₁ ≡ at + 8 = omega (arith, h.next_is, eight) in
        let to : at + 8 + n ≡ end = omega (arith, room) in
        let same : drop (at + 8) t₁ ≡ drop (at + 8) t = same_after h around_head (at + 8) (omega (arith, eight)) in
        let b : Wrote t₁ a₁ held t₁ end = rw next (rw (same, to) at (already t₁ (at + 8) n (omega (arith, room, h.kept)))) in
        rw held_long (rw (append_assoc (head_bytes 4 tag n) held (replicate (n % 2) 0))
        at (then_wrote (then_wrote h b (omega (arith, room, eight, held_long))) p (omega (arith, room, eight, held_long, padding, length-append (head_bytes 4 tag n) held))))

-- a chunk and room for it, whose body is put first
pub record BodyFirst (goal : List ℕ) (tag : ℕ) (body t : List ℕ) (at : ℕ) : Type 0 where
  pub is : goal ≡ tagged_bytes 4 tag body
  pub fits : at + length goal ≤ length t

module _ {goal body t : List ℕ} {tag at : ℕ} (w : BodyFirst goal tag body t at) where
  long : at + (8 + length body + length body % 2) ≤ length t
  long = omega (arith, w.fits, ap length w.is, length_tagged tag body)

  pub first_room : at + 8 + length body ≤ length t
  first_room = omega (arith, long)

  module _ {t₁ : List ℕ} {end : ℕ} (b : Wrote t (at + 8) body t₁ end) where
    size : end - (at + 8) ≡ length body
    size = omega (arith, b.next_is)

    pub close_room : (at + 8 ≤ end) × (end + (end - (at + 8)) % 2 ≤ length t₁)
    close_room = (omega (arith, b.next_is), omega (arith, b.next_is, b.kept, long))

    pub closed : {t₂ : List ℕ} {r : ℕ} → Wrote t₁ at (tagged_bytes 4 tag (take (end - (at + 8)) (drop (at + 8) t₁))) t₂ r → Wrote t at goal t₂ r
    closed {t₂} {r} c =
        let body_there : take (end - (at + 8)) (drop (at + 8) t₁) ≡ body = rw size (stands b first_room) in
        let whole : Wrote t₁ at (tagged_bytes 4 tag body) t₂ r = rw body_there at c in
        rw w.is (over b first_room whole (omega arith) (omega (arith, length_tagged tag body)))

-- ---- chunks that are left out where they have no entries

module _ {A : Type 0} (tag type : String) (f : A → List ℕ) where
  pub left_out : (xs : List A) → length xs ≡ 0 → chunks_bytes (unless_empty tag type f xs) ≡ []
  unfolding unless_empty joined
  left_out [] none = refl
  left_out (x ∷ xs) none = absurd (omega arith)

  pub put_in : (xs : List A) → (length xs ≡ 0 → ⊥) → chunks_bytes (unless_empty tag type f xs) ≡ chunk_bytes 4 tag (spelt type ++ joined (map f xs))
  unfolding unless_empty joined
  put_in [] some = absurd (some refl)
  put_in (x ∷ xs) some = append-nil (chunk_bytes 4 tag (spelt type ++ joined (map f (x ∷ xs))))
