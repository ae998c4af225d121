-- Chunks that were judged fine, one after the other: a verdict that is fine is one at each step.
use mathlib.Core.Path.{◌≡◌, refl, sym, ap, ◌∙◌}
use mathlib.Core.List.{List, [], ◌∷◌, map}
use Prim.Native.Nat.{ℕ, ◌+◌, ◌≤◌}
use lib.Dec.{ltb}
use lib.ListN.{length, drop}
use borrow.Author.Tests.{ltb-false}
use Rattle.format.specs.declared.Kind.{Kind}
use Rattle.format.specs.declared.Fault.TheVariants.{BadHeader}
use Rattle.format.specs.Bytes.{sum}
use Rattle.format.specs.Limits.{file_limit}
use Rattle.format.specs.Refusals.{place_of}
use Rattle.format.specs.Items.{Verdict, fine, fault, ◌and_then◌}
use Rattle.format.specs.Chunks.{size_of, Chunks, finished, broken, chunk, chunks}
use Rattle.format.specs.Mesh.{Mesh}
use Rattle.format.specs.Bodies.{Part}
use Rattle.format.specs.Rules.{Before, start, after, judge, located, PartAt, walk, form, judged, mesh_of, skipped_of, details_of, parts_of, gives, outcome, rules}
use Rattle.format.specs.Promises.{walk_parts}
use Rattle.format.proofs.Facts.{impossible}
use Rattle.format.proofs.Verdicts.{same_fine, then_fine, passed}

-- what a chunk that was judged fine and the chunks after it contribute
pub record Next (kind : Kind) (b : Before) (place t : ℕ) (body : List ℕ) (rest : Chunks) (parts : List Part) : Type 0 where
  pub part : Part
  pub later : List Part
  pub here : judge kind b t body ≡ fine part
  pub onward : walk_parts kind (after b part) (place + size_of 4 (length body)) rest ≡ fine later
  pub both : part ∷ later ≡ parts

located_fine : (place : ℕ) (v : Verdict Part) {a : Part} → located place v ≡ fine a → v ≡ fine a
unfolding located
located_fine place (fine b) e = e
located_fine place (fault why at) e = impossible cc

module _ (kind : Kind) (b : Before) (place : ℕ) where
  pub parts_finished : walk_parts kind b place finished ≡ fine []
  unfolding walk_parts walk ◌and_then◌
  parts_finished = refl

  pub parts_broken : walk_parts kind b place broken ≡ fault BadHeader (place_of place 0)
  unfolding walk_parts walk ◌and_then◌
  parts_broken = refl

  -- a chunk and those after it
  pub parts_chunk : (t : ℕ) (body : List ℕ) (rest : Chunks)
      → walk_parts kind b place (chunk t body rest)
      ≡ (located place (judge kind b t body) and_then λ part. walk_parts kind (after b part) (place + size_of 4 (length body)) rest and_then λ parts. fine (part ∷ parts))
  unfolding walk_parts walk ◌and_then◌
  parts_chunk t body rest = by (located place (judge kind b t body))
    where
      more : (part : Part) (w : Verdict (List PartAt))
          → ((w and_then λ ps. fine (record { place = place; part = part } ∷ ps)) and_then λ ps. fine (parts_of ps)) ≡ ((w and_then λ ps. fine (parts_of ps)) and_then λ parts. fine (part ∷ parts))
      more part (fine ps) = refl
      more part (fault why at) = refl

      by : (v : Verdict Part)
          → ((v and_then λ part. walk kind (after b part) (place + size_of 4 (length body)) rest and_then λ ps. fine (record { place = place; part = part } ∷ ps)) and_then λ ps. fine (parts_of ps))
          ≡ (v and_then λ part. walk_parts kind (after b part) (place + size_of 4 (length body)) rest and_then λ parts. fine (part ∷ parts))
      by (fine part) = more part (walk kind (after b part) (place + size_of 4 (length body)) rest)
      by (fault why at) = refl

pub next : (kind : Kind) (b : Before) (place t : ℕ) (body : List ℕ) (rest : Chunks) (parts : List Part)
    → walk_parts kind b place (chunk t body rest) ≡ fine parts
    → Next kind b place t body rest parts
next kind b place t body rest parts e =
    let x = then_fine (located place (judge kind b t body)) _ (sym (parts_chunk kind b place t body rest) ∙ e) in
    let y = then_fine (walk_parts kind (after b x.0) (place + size_of 4 (length body)) rest) _ x.2 in
    record { part = x.0; later = y.0; here = located_fine place (judge kind b t body) x.1; onward = y.1; both = same_fine y.2 }

-- ---- what is true of each part

-- P is true of each part, after those before it
pub data EachPart (P : Before → Part → Type 0) : Before → List Part → Type 0 where
  no_more : {b : Before} → EachPart P b []
  one_more : {b : Before} {part : Part} {parts : List Part} → P b part → EachPart P (after b part) parts → EachPart P b (part ∷ parts)

-- B is true of each chunk's body
pub data EachBody (B : List ℕ → Type 0) : Chunks → Type 0 where
  at_end : EachBody B finished
  no_chunk : EachBody B broken
  more : {t : ℕ} {body : List ℕ} {rest : Chunks} → B body → EachBody B rest → EachBody B (chunk t body rest)

pub any_body : (cs : Chunks) → EachBody (λ body. Unit {0}) cs
any_body finished = at_end
any_body broken = no_chunk
any_body (chunk t body rest) = more tt (any_body rest)

module _ (kind : Kind) (P : Before → Part → Type 0) (B : List ℕ → Type 0) (one : (b : Before) (t : ℕ) (body : List ℕ) (part : Part) → B body → judge kind b t body ≡ fine part → P b part) where
  pub walk_each : (b : Before) (place : ℕ) {cs : Chunks} → EachBody B cs → (parts : List Part) → walk_parts kind b place cs ≡ fine parts → EachPart P b parts
  walk_each b place at_end parts e = rw (← same_fine (sym (parts_finished kind b place) ∙ e)) no_more
  walk_each b place no_chunk parts e = let bad = sym (parts_broken kind b place) ∙ e in impossible cc
  walk_each b place (more {t = t} {body = body} {rest = rest} has later) parts e =
      let x = next kind b place t body rest parts e in
      rw (← x.both) (one_more (one b t body x.part has x.here) (walk_each (after b x.part) _ later x.later x.onward))

-- with places or without
pub parts_fine : (kind : Kind) (b : Before) (place : ℕ) (cs : Chunks) {ps : List PartAt} → walk kind b place cs ≡ fine ps
    → walk_parts kind b place cs ≡ fine (parts_of ps)
unfolding walk_parts ◌and_then◌
parts_fine kind b place cs e = rw e

-- ---- the file

-- a file that has a kind is within the limit
pub within_limit : (file : List ℕ) {kind : Kind} → form file ≡ fine kind → length file ≤ file_limit
unfolding form
within_limit file e = ltb-false _ _ (passed (ltb file_limit (length file)) _ _ _ e).0

-- A file to which the rules give a mesh: its first twelve bytes and its chunks are fine, and their parts make that mesh.
pub record Accepted (file : List ℕ) (m : Mesh) (k d : ℕ) : Type 0 where
  pub kind : Kind
  pub parts : List Part
  pub formed : form file ≡ fine kind
  pub walked : walk_parts kind start 12 (chunks (drop 12 file)) ≡ fine parts
  pub mesh : mesh_of kind parts ≡ m
  pub skipped : sum (map skipped_of parts) ≡ k
  pub details : sum (map details_of parts) ≡ d

outcome_fine : (v : Verdict (Kind × List PartAt)) {m : Mesh} {k d : ℕ} → outcome v ≡ gives m k d
    → (f : Kind × List PartAt) × (v ≡ fine f) × (mesh_of f.0 (parts_of f.1) ≡ m) × (sum (map skipped_of (parts_of f.1)) ≡ k) × (sum (map details_of (parts_of f.1)) ≡ d)
unfolding outcome
outcome_fine (fine f) e = (f, refl, cc, cc, cc)
outcome_fine (fault why at) e = impossible (cc)

pub accepted : {file : List ℕ} {m : Mesh} {k d : ℕ} → rules file ≡ gives m k d → Accepted file m k d
unfolding rules judged
accepted {file} e =
    let o = outcome_fine (judged file) e in
    let found = then_fine (form file) _ o.1 in
    let read = then_fine (walk found.0 start 12 (chunks (drop 12 file))) _ found.2 in
    let which : ◌≡◌ {A = Kind × List PartAt} (found.0, read.0) o.0 = same_fine read.2 in
    record {
      kind = found.0;
      parts = parts_of read.0;
      formed = found.1;
      walked = parts_fine found.0 start 12 _ read.1;
      mesh = ap (λ (f : Kind × List PartAt). mesh_of f.0 (parts_of f.1)) which ∙ o.2;
      skipped = ap (λ (f : Kind × List PartAt). sum (map skipped_of (parts_of f.1))) which ∙ o.3;
      details = ap (λ (f : Kind × List PartAt). sum (map details_of (parts_of f.1))) which ∙ o.4;
    }
