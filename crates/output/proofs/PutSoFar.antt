-- Bytes put into the output, one part after another: what was put so far, and what is left.
use Prim.Native.Nat.{ℕ, zero, suc, ◌+◌, ◌-◌, ◌/◌, ◌%◌, ◌<◌, ◌≤◌}
use mathlib.Core.Path.{◌≡◌, refl, sym, ap, ◌∙◌}
use mathlib.Core.List.{List, [], ◌∷◌, ◌++◌, map, append_assoc, append-nil}
use mathlib.Core.Bool.{Bool, true}
use native.Mathlib.Omega.{arith}
use borrow.Rule.Slice.PartMut.{put_mid}
use lib.ListN.{length, get_or, take, drop, set, replicate, length-append, length-set}
use lib.Seq.{drop-drop}
use Rattle.std.specs.Int.{bytes_high_first}
use Rattle.format.specs.Bytes.{joined, all}
use Rattle.format.specs.Items.{string_size}
use Rattle.format.specs.Canonical.{bytes, string_bytes}
use Rattle.format.specs.Written.{pieces}
use Rattle.format.specs.Promises.{Put}
use Rattle.format.proofs.Puts.{put_none, put_length, put_snoc, put_append}
use Rattle.format.proofs.Facts.{all_first, all_drop}
use Rattle.format.proofs.Indexed.{at_index, past_end}
use Rattle.format.proofs.Indexed.{part, pieces_at}
use Rattle.output.specs.Outputs.{Wrote}

pub wrote_none : {t : List ℕ} {at : ℕ} → Wrote t at [] t at
wrote_none {t} {at} = record { put = put_none t at; next_is = omega arith; kept = refl }

module _ {t t' ws : List ℕ} {at next : ℕ} (w : Wrote t at ws t' next) where
  -- one byte more
  pub a_byte : {to : ℕ} (v : ℕ) → at + length ws < length t → next + 1 ≡ to → Wrote t at (ws ++ (v ∷ [])) (set t' next v) to
  a_byte v room to_is =
      let e : next ≡ at + length ws = w.next_is in
      record {
        put = rw e (put_snoc w.put v room);
        next_is = rw (length-append ws (v ∷ [])) (omega arith);
        kept = length-set t' next v ∙ w.kept;
      }

  pub then_wrote : {us t'' : List ℕ} {last : ℕ} → Wrote t' next us t'' last → at + length ws + length us ≤ length t → Wrote t at (ws ++ us) t'' last
  then_wrote {us} {t''} {last} v room =
      record {
        put = put_append w.put (rw w.next_is at v.put) room;
        next_is = rw (length-append ws us) (omega (arith, v.next_is, w.next_is));
        kept = v.kept ∙ w.kept;
      }

-- a part of the output as a whole, whose length stays
pub wrote_part : {t : List ℕ} (at n : ℕ) {ws : List ℕ} → at + n ≤ length t → length ws ≡ n → Wrote t at ws (put_mid at (at + n - at) t ws) (at + n)
wrote_part {t} at n {ws} room long =
    let wide : at + n - at ≡ n = omega arith in
    let p : Put t at ws (put_mid at (at + n - at) t ws)
    = record { put = rw (wide, long) (sym (append_assoc (take at t) ws (drop n (drop at t))) ∙ ap (λ z. take at t ++ ws ++ z) (drop-drop n at t)) } in
    record { put = p; next_is = omega (arith, long); kept = put_length p (omega (arith, room, long)) }

-- ---- a loop that puts part after part

-- a part comes first in what is left
pub record NextPart (rest x more : List ℕ) : Type 0 where
  pub is : rest ≡ x ++ more

pub record PutSoFar (goal rest t : List ℕ) (at : ℕ) (t' : List ℕ) (next : ℕ) : Type 0 where
  pub fits : at + length goal ≤ length t
  pub so_far : List ℕ
  pub wrote : Wrote t at so_far t' next
  pub so : goal ≡ so_far ++ rest

pub begin : {goal t : List ℕ} {at : ℕ} → at + length goal ≤ length t → PutSoFar goal goal t at t at
begin fits = record { fits = fits; so_far = []; wrote = wrote_none; so = refl }

module _ {goal rest t t' : List ℕ} {at next : ℕ} (w : PutSoFar goal rest t at t' next) where
  pub end : rest ≡ [] → Wrote t at goal t' next
  end none =
      let all_of : w.so_far ≡ goal = sym (w.so ∙ rw (none, append-nil w.so_far)) in
      rw all_of at w.wrote

  module _ {x more : List ℕ} (one : NextPart rest x more) where
    long : length goal ≡ length w.so_far + (length x + length more)
    long = ap length w.so ∙ rw (length-append w.so_far rest, one.is, length-append x more)

    pub room : next + length x ≤ length t'
    room = omega (arith, w.fits, long, w.wrote.next_is, w.wrote.kept)

    pub turn : {t'' : List ℕ} {last : ℕ} → Wrote t' next x t'' last → PutSoFar goal more t at t'' last
    turn v = record {
      fits = w.fits;
      so_far = w.so_far ++ x;
      wrote = then_wrote w.wrote v (omega (arith, w.fits, long));
      so = w.so ∙ rw (one.is, append_assoc w.so_far x more);
    }

-- ---- what is left, by an index or a place

module _ (f : ℕ → List ℕ) (xs : List ℕ) (i : ℕ) where
  pub joined_more : i < length xs → NextPart (joined (map f (drop i xs))) (f (get_or xs i 0)) (joined (map f (drop (i + 1) xs)))
  unfolding joined
  joined_more inside = record { is = rw (at_index xs i inside) }

  pub joined_none : length xs ≤ i → joined (map f (drop i xs)) ≡ []
  unfolding joined
  joined_none outside = rw (past_end xs i outside)

pub byte_more : (xs : List ℕ) (i : ℕ) → i < length xs → NextPart (drop i xs) (get_or xs i 0 ∷ []) (drop (i + 1) xs)
byte_more xs i inside = record { is = at_index xs i inside }

module _ (ns bs : List ℕ) (i from : ℕ) where
  pub strings_more : {n : ℕ} → n ≡ get_or ns i 0 → i < length ns
      → NextPart (joined (map string_bytes (pieces (drop i ns) (drop from bs)))) (string_bytes (take (from + n - from) (drop from bs))) (joined (map string_bytes (pieces (drop (i + 1) ns) (drop (from + n) bs))))
  unfolding joined
  strings_more {n} long inside = record { is = rw (part from n bs, long, pieces_at i from ns bs inside) }

  pub strings_none : length ns ≤ i → joined (map string_bytes (pieces (drop i ns) (drop from bs))) ≡ []
  unfolding joined pieces
  strings_none outside = rw (past_end ns i outside)

-- where all numbers pass a test, the i-th does
pub holds_at : (p : ℕ → Bool) (xs : List ℕ) (i : ℕ) → all p xs ≡ true → i < length xs → p (get_or xs i 0) ≡ true
holds_at p xs i ok inside = all_first p (get_or xs i 0) (drop (i + 1) xs) (rw (at_index xs i inside) at (all_drop p xs i ok))

pub no_test : (xs : List ℕ) → all (λ x. true) xs ≡ true
unfolding all
no_test [] = refl
no_test (x ∷ xs) = no_test xs

-- ---- numbers and strings

-- the library's bytes of a number are the specification's
pub whole : (n : ℕ) → bytes_high_first 8 n ≡ bytes 8 n
unfolding bytes
whole n =
    let b : n / 65536 ≡ n / 256 / 256 = omega arith in
    let c : n / 16777216 ≡ n / 65536 / 256 = omega arith in
    let d : n / 4294967296 ≡ n / 16777216 / 256 = omega arith in
    let e : n / 1099511627776 ≡ n / 4294967296 / 256 = omega arith in
    let f : n / 281474976710656 ≡ n / 1099511627776 / 256 = omega arith in
    let g : n / 72057594037927936 ≡ n / 281474976710656 / 256 = omega arith in
    rw (g, f, e, d, c, b)

-- the last of the eight bytes of a number
pub low_bytes : (k n : ℕ) → k ≤ 8 → take (8 - (8 - k)) (drop (8 - k) (bytes 8 n)) ≡ bytes k n
unfolding bytes
low_bytes zero n h = refl
low_bytes (suc zero) n h = refl
low_bytes (suc (suc zero)) n h = refl
low_bytes (suc (suc (suc zero))) n h = refl
low_bytes (suc (suc (suc (suc zero)))) n h = refl
low_bytes (suc (suc (suc (suc (suc zero))))) n h = refl
low_bytes (suc (suc (suc (suc (suc (suc zero)))))) n h = refl
low_bytes (suc (suc (suc (suc (suc (suc (suc zero))))))) n h = refl
low_bytes (suc (suc (suc (suc (suc (suc (suc (suc zero)))))))) n h = refl
low_bytes (suc (suc (suc (suc (suc (suc (suc (suc (suc k))))))))) n h = absurd (omega arith)

-- the zeros of a string
pub zeros : (k : ℕ) → k ≤ 2 → take {A = ℕ} k (0 ∷ 0 ∷ []) ≡ replicate k 0
zeros zero h = refl
zeros (suc zero) h = refl
zeros (suc (suc zero)) h = refl
zeros (suc (suc (suc k))) h = absurd (omega arith)

pub string_is : (name : List ℕ) (k : ℕ) → k ≡ 2 - length name % 2 → string_bytes name ≡ name ++ take {A = ℕ} k (0 ∷ 0 ∷ [])
unfolding string_bytes
string_is name k e =
    let count : string_size (length name) - length name ≡ k = omega arith in
    rw (count, zeros k (omega arith))

pub string_parts : (name : List ℕ) (k : ℕ) → k ≡ 2 - length name % 2 → length (string_bytes name) ≡ length name + length (take {A = ℕ} k (0 ∷ 0 ∷ []))
string_parts name k e = ap length (string_is name k e) ∙ length-append name (take {A = ℕ} k (0 ∷ 0 ∷ []))
