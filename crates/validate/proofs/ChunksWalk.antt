-- The walk over a file's chunks: what the whole file comes to is what was seen so far and what the chunks that follow add.
use mathlib.Core.Path.{◌≡◌, sym, ap, ◌∙◌}
use mathlib.Core.List.{List, ◌∷◌}
use Prim.Native.Nat.{ℕ, ◌+◌, ◌-◌, ◌≤◌, ◌<◌}
use native.Mathlib.Omega.{arith}
use Rattle.std.specs.Prelude.{Ok, Err}
use lib.ListN.{length, take, drop, length-drop, drop_of_length-le}
use Rattle.format.specs.declared.Kind.{Kind}
use Rattle.format.specs.declared.Fault.{Fault}
use Rattle.format.specs.Refusals.{place_of}
use Rattle.format.specs.Items.{Verdict, fine, fault, ◌and_then◌}
use Rattle.format.specs.Chunks.{size_of, Chunks, chunk, chunks}
use Rattle.format.specs.Bodies.{Part}
use Rattle.format.specs.Rules.{Before, after, judge, located}
use Rattle.format.specs.Promises.{walk_parts, file_parts}
use Rattle.format.proofs.ChunkWalk.{parts_finished, parts_broken, parts_chunk}
use Rattle.format.proofs.ReaderSteps.{exactly}
use Rattle.format.proofs.Verdicts.{fine_with, stopped, then_same, then_then}
use Rattle.format.proofs.Tiling.{none, no_chunk}
use Rattle.laws.proofs.Readers.{fault_in_chunk}
use Rattle.wire.specs.declared.Refusal.{Refusal}
use Rattle.headers.specs.declared.Header.{Header}
use Rattle.headers.specs.Promises.{HeaderAt}
use Rattle.headers.proofs.Headers.{header_fault}
use Rattle.headers.proofs.ChunkInFile.{body, front, size, long}
use Rattle.validate_chunk.specs.Promises.{counted_of, before_of}
use Rattle.validate.specs.declared.counts.Totals.{Totals}
use Rattle.validate.specs.declared.counts.Seen.{Seen}
use Rattle.validate.specs.Promises.{seen_with, nothing_seen, all_of, OneMoreSeen, totals_of, ChunksJudged}
use Rattle.validate.proofs.FileCounts.{seen_after, same_before, totals_are}

-- ---- the walk

module _ (kind : Kind) (b : Before) (place tag : ℕ) (body : List ℕ) (more : Chunks) {B : Type 0} (f : List Part → B) where
  walk_on : {part : Part} → judge kind b tag body ≡ fine part
      → (walk_parts kind b place (chunk tag body more) and_then λ parts. fine (f parts)) ≡ (walk_parts kind (after b part) (place + size_of 4 (length body)) more and_then λ parts. fine (f (part ∷ parts)))
  unfolding located ◌and_then◌
  walk_on {part} e = rw (parts_chunk kind b place tag body more, e) (then_then (walk_parts kind (after b part) (place + size_of 4 (length body)) more) (λ parts. part ∷ parts) f)

  walk_stops : {why : Fault} {at : ℕ} → judge kind b tag body ≡ fault why at
      → (walk_parts kind b place (chunk tag body more) and_then λ parts. fine (f parts)) ≡ fault why (place_of place at)
  unfolding located ◌and_then◌
  walk_stops e = rw (parts_chunk kind b place tag body more, e)

-- what the whole file is, and what is left of it from a place on
abbrev goal : Kind → List ℕ → Verdict Totals
goal kind file = file_parts kind file and_then λ parts. fine (totals_of kind parts)

abbrev rest : Kind → List ℕ → ℕ → Seen → Verdict Totals
rest kind file at seen = walk_parts kind (before_of seen.lengths) at (chunks (drop at file)) and_then λ parts. fine (seen_after seen parts).totals

-- All that was added up is no more than the bytes that were passed.
pub record CountedTo (kind : Kind) (file : List ℕ) (at : ℕ) (seen : Seen) : Type 0 where
  pub few : all_of seen.totals ≤ at
  pub is : goal kind file ≡ rest kind file at seen

pub begin : {kind : Kind} {file : List ℕ} {seen : Seen} → seen ≡ nothing_seen → CountedTo kind file 12 seen
begin {kind} {file} e = rw e (record { few = omega arith; is = then_same (file_parts kind file) (totals_of kind) (λ parts. (seen_after nothing_seen parts).totals) (totals_are kind) })

module _ {kind : Kind} {file : List ℕ} {at : ℕ} {seen : Seen} (w : CountedTo kind file at seen) where
  abbrev before : Before
  before = before_of seen.lengths

  pub end : length file ≤ at → ChunksJudged kind file (Ok seen.totals)
  unfolding ◌and_then◌ seen_after
  end h = record { is = sym (w.is ∙ rw (drop_of_length-le file {i = at} h, none, parts_finished kind before at)) }

  module _ (some : at < length file) where
    pub no_header : {f : Refusal} → HeaderAt 4 file at (Err f) → ChunksJudged kind file (Err f)
    unfolding ◌and_then◌
    no_header h =
        let long : 0 < length (drop at file) = rw (length-drop at file) (omega arith) in
        let own : at + 0 ≡ at = omega arith in
        record { is = sym (w.is ∙ rw (no_chunk at (drop at file) long (exactly h.reads.says), parts_broken kind before at, own, header_fault 4 h)) }

    module _ {head : Header} (h : HeaderAt 4 file at (Ok head)) where
      -- the chunk as it is lent, its body, and the chunks after it
      abbrev lent : List ℕ
      lent = take (head.end - at) (drop at file)

      abbrev inside : List ℕ
      inside = drop (at + 8) (take head.end file)

      abbrev later_chunks : Chunks
      later_chunks = chunks (drop head.next.at file)

      at_fault : {f : Refusal} → OneMoreSeen kind head.tag seen lent (Err f) → judge kind before head.tag (drop 8 lent) ≡ fault f.why f.at
      at_fault d = stopped (judge kind before head.tag (drop 8 lent)) (λ part. seen_with seen (counted_of part)) d.is

      -- a fault lies within its chunk, and so in the file
      pub in_file : {f : Refusal} → OneMoreSeen kind head.tag seen lent (Err f) → at + f.at ≤ length file
      in_file d = omega (arith, (fault_in_chunk kind before head.tag (drop 8 lent) (at_fault d)).within, length-drop 8 lent, long h, h.inside)

      pub stop : {f : Refusal} {p : ℕ} → OneMoreSeen kind head.tag seen lent (Err f) → p ≡ place_of at f.at
          → ChunksJudged kind file (Err (record { why = f.why; at = p }))
      stop {f} d place =
          let judged : judge kind before head.tag inside ≡ fault f.why f.at = rw (body h) (at_fault d) in
          record { is = sym (w.is ∙ rw (front h, place) (walk_stops kind before at head.tag inside later_chunks (λ parts. (seen_after seen parts).totals) judged)) }

      pub turn : {later : Seen} → OneMoreSeen kind head.tag seen lent (Ok later) → CountedTo kind file head.next.at later
      unfolding seen_after
      turn {later} d =
          let k = fine_with (judge kind before head.tag (drop 8 lent)) (λ part. seen_with seen (counted_of part)) d.is in
          let judged : judge kind before head.tag inside ≡ fine k.value = rw (body h) k.is in
          let on = walk_on kind before at head.tag inside later_chunks (λ parts. (seen_after seen parts).totals) judged in
          let onward : rest kind file at seen ≡ rest kind file head.next.at (seen_with seen (counted_of k.value)) =
          rw (front h) (on ∙ rw (size h, same_before seen.lengths k.value)) in
          record { few = omega (arith, w.few, d.grown, long h, h.inside); is = w.is ∙ onward ∙ ap (rest kind file head.next.at) k.shows }
