-- Chunks and sub-chunks: bytes that are one whole chunk are read as that chunk, in front of any rest, and so are the bytes that a chunk is written as.
--
use Rattle.std.specs.Prelude.{if◌then◌else◌}
use Prim.Native.Nat.{ℕ, ◌+◌, ◌%◌, ◌^◌, ◌≤◌, ◌<◌}
use Prim.Native.String.{String}
use mathlib.Core.Path.{◌≡◌, refl, sym, ap, ◌∙◌}
use mathlib.Core.List.{List, [], ◌∷◌, ◌++◌, append-nil}
use mathlib.Core.Bool.{Bool, true, ◌&&◌, and-eq-true_iff}
use native.Mathlib.Omega.{arith}
use lib.Dec.{eqb}
use lib.ListN.{length, take, drop, replicate, length-append, length-drop, length-replicate, take-append-drop}
use lib.Seq.{take_at, drop_at, drop-drop, take-append-le, drop-append-le, length-take-le}
use borrow.Author.Tests.{le-leb, leb-true, eqb-true}
use Rattle.format.specs.declared.Fault.TheVariants.{BadHeader}
use Rattle.format.specs.Bytes.{number, spelt, between, every, all}
use Rattle.format.specs.Items.{fine, fault, Got, Reader, ◌and_then◌}
use Rattle.format.specs.Chunks.{Chunk, size_of, length_of, well_formed, chunk_of, sub, reader_of_length}
use Rattle.format.specs.Canonical.{bytes, chunk_bytes}
use Rattle.format.proofs.Facts.{every_at}
use Rattle.format.proofs.Verdicts.{chosen}
use Rattle.laws.proofs.Reading.{got, ReadsAs, Ends, wholly, Row, more}
use Rattle.format.proofs.CanonicalLengths.{length_bytes}
use Rattle.laws.proofs.Numbers.{number_bytes}
use Rattle.laws.proofs.Items.{zeros}

-- ---- one whole chunk

-- the chunk at the front of some bytes
abbrev pub chunk_in : (width : ℕ) → List ℕ → Chunk
chunk_in width w = record { tag = number (take 4 w); body = take (length_of width w) (drop (4 + width) w) }

-- the length in the header is that of the front alone
length_same : (width : ℕ) (w rest : List ℕ) → 4 + width ≤ length w → length_of width (w ++ rest) ≡ length_of width w
unfolding length_of
length_same width w rest head =
    let tag : 4 ≤ length w = omega arith in
    let rest_long : width ≤ length (drop 4 w) = simp length-drop (omega arith) in
    rw (drop-append-le 4 w rest tag, take-append-le width (drop 4 w) rest rest_long)

-- bytes exactly as long as the header at their front says decide alone whether, and as what, they are read
chunk_alone : (width : ℕ) (w : List ℕ) → length w ≡ size_of width (length_of width w) → (at : ℕ) (rest : List ℕ)
    → chunk_of width at (w ++ rest) ≡ (if well_formed width w then got (chunk_in width w) (at + length w) rest else fault BadHeader at)
unfolding chunk_of well_formed size_of every
chunk_alone width w size at rest =
    let n : ℕ = length_of width w in
    let long : length w ≤ length (w ++ rest) = omega (arith, length-append w rest) in
    let tag : 4 ≤ length w = omega arith in
    let head : 4 + width ≤ length w = omega arith in
    let body : n ≤ length (drop (4 + width) w) = simp length-drop (omega arith) in
    let padded : 4 + width + n ≤ length w = omega arith in
    let pad : n % 2 ≤ length (drop (4 + width + n) w) = simp length-drop (omega arith) in
    rw (length_same width w rest head, take-append-le 4 w rest tag, drop-append-le (4 + width) w rest head, take-append-le n (drop (4 + width) w) rest body)
    (rw (drop-append-le (4 + width + n) w rest padded, take-append-le (n % 2) (drop (4 + width + n) w) rest pad, drop_at w rest (4 + width + n + n % 2) size, ← size)
    (rw (le-leb (4 + width) (length w) head, le-leb (4 + width) (length (w ++ rest)) (omega arith), le-leb (length w) (length w) (omega arith), le-leb (length w) (length (w ++ rest)) long)))

pub reads_whole : (width : ℕ) (w : List ℕ) → well_formed width w ≡ true → length w ≡ size_of width (length_of width w)
    → ReadsAs (chunk_of width) w (chunk_in width w)
reads_whole width w ok size = record { here = λ at rest. rw (chunk_alone width w size at rest, ok) }

-- where a chunk is read, it stands at the front as one whole chunk
pub record Front (width : ℕ) (s : List ℕ) (c : Got Chunk) : Type 0 where
  pub bytes_of : List ℕ
  pub parts : s ≡ bytes_of ++ c.left
  pub some : 0 < length bytes_of
  pub reads : ReadsAs (chunk_of width) bytes_of c.value

pub front : (width at : ℕ) (s : List ℕ) (c : Got Chunk) → chunk_of width at s ≡ fine c → Front width s c
unfolding chunk_of well_formed size_of
front width at s c e =
    let size : ℕ = size_of width (length_of width s) in
    let fits : size ≤ length s = leb-true _ _ (every_at _ 2 (chosen (well_formed width s) _ _ _ e).0) in
    let w : List ℕ = take size s in
    let rest : List ℕ = drop size s in
    let whole : w ++ rest ≡ s = take-append-drop size s in
    let long : length w ≡ size = length-take-le size s fits in
    let head : 4 + width ≤ length w = omega arith in
    let same : length_of width w ≡ length_of width s = sym (length_same width w rest head) ∙ ap (length_of width) whole in
    let exact : length w ≡ size_of width (length_of width w) = rw same long in
    let read = chosen (well_formed width w) _ _ _ (sym (chunk_alone width w exact at rest) ∙ ap (chunk_of width at) whole ∙ e) in
    let value : chunk_in width w ≡ c.value = cc read.1 in
    let left : rest ≡ c.left = cc read.1 in
    record { bytes_of = w; parts = cc; some = omega arith; reads = rw value at (reads_whole width w read.0 exact) }

-- ---- a chunk as it is written

-- a tag is four bytes that can be printed
abbrev pub is_tag : String → Bool
is_tag t = eqb (length (spelt t)) 4 && all (between 32 126) (spelt t)

length_chunk : (width : ℕ) (t : String) (body : List ℕ) → is_tag t ≡ true → length (chunk_bytes width t body) ≡ size_of width (length body)
unfolding chunk_bytes size_of
length_chunk width t body good =
    let n : ℕ = length body in
    let pad : List ℕ = replicate (n % 2) 0 in
    let four : length (spelt t) ≡ 4 = eqb-true _ _ ((and-eq-true_iff (eqb (length (spelt t)) 4) _).0 good).0 in
    let padding : length pad ≡ n % 2 = length-replicate (n % 2) 0 in
    omega (arith, length-append (spelt t) (bytes width n ++ (body ++ pad)), length-append (bytes width n) (body ++ pad), length_bytes width n, length-append body pad)

pub shorter : (width : ℕ) (t : String) (body : List ℕ) → is_tag t ≡ true → length body < length (chunk_bytes width t body)
unfolding size_of
shorter width t body good = omega (arith, length_chunk width t body good)

pub reads_chunk : (width : ℕ) (t : String) (body : List ℕ) → is_tag t ≡ true → length body < 256 ^ width
    → ReadsAs (chunk_of width) (chunk_bytes width t body) (record { tag = number (spelt t); body = body })
unfolding chunk_bytes well_formed length_of size_of every
reads_chunk width t body good small =
    let n : ℕ = length body in
    let l : List ℕ = bytes width n in
    let pad : List ℕ = replicate (n % 2) 0 in
    let w : List ℕ = spelt t ++ (l ++ (body ++ pad)) in
    let is_tag_lem = (and-eq-true_iff (eqb (length (spelt t)) 4) (all (between 32 126) (spelt t))).0 good in
    let four : length (spelt t) ≡ 4 = eqb-true _ _ is_tag_lem.0 in
    let tag : take 4 w ≡ spelt t = take_at (spelt t) (l ++ (body ++ pad)) 4 four in
    let after_tag : drop 4 w ≡ l ++ (body ++ pad) = drop_at (spelt t) (l ++ (body ++ pad)) 4 four in
    let size : length_of width w ≡ n = rw (after_tag, take_at l (body ++ pad) width (length_bytes width n)) (number_bytes width n small) in
    let after_head : drop (4 + width) w ≡ body ++ pad = rw (← drop-drop width 4 w, after_tag) (drop_at l (body ++ pad) width (length_bytes width n)) in
    let after_body : drop (4 + width + n) w ≡ pad = rw (← drop-drop n (4 + width) w, after_head) (drop_at body pad n refl) in
    let padding : take (n % 2) pad ≡ pad = rw append-nil at (take_at pad [] (n % 2) (length-replicate (n % 2) 0)) in
    let long : length w ≡ size_of width n = length_chunk width t body good in
    let head : 4 + width ≤ length w = omega arith in
    let ok : well_formed width w ≡ true =
    rw (size, tag, is_tag_lem.1, after_body, padding, zeros (n % 2), le-leb (4 + width) (length w) head, le-leb (size_of width n) (length w) (omega arith)) in
    let read = reads_whole width w ok (rw size long) in
    rw (size, tag, after_head, take_at body pad n refl) at read

-- ---- sub-chunks

-- one more sub-chunk in a row of them
pub more_sub : {A : Type 0} (inside : (tag : ℕ) → Reader A) (t : String) (body : List ℕ) {a : A} {ws : List (List ℕ)} {xs : List A} → is_tag t ≡ true
    → length body < 65536
    → Ends (inside (number (spelt t))) body a → Row (sub inside) ws xs → Row (sub inside) (chunk_bytes 2 t body ∷ ws) (a ∷ xs)
unfolding sub ◌and_then◌
more_sub inside t body {a} good small h row =
    let read : ReadsAs (sub inside) (chunk_bytes 2 t body) a = record { here = λ at rest. rw ((reads_chunk 2 t body good small).here at rest, wholly at (at + 6) h) } in
    more read (omega (arith, shorter 2 t body good)) row

pub ends_of_length : {A : Type 0} {r : Reader A} {w : List ℕ} {x : A} (width : ℕ) (ok : ℕ → Bool) → ok (length w) ≡ true → Ends r w x
    → Ends (reader_of_length width ok r) w x
unfolding reader_of_length
ends_of_length width ok long h = record { here = λ at. rw long (h.here at) }
