-- A walk over a file that was judged fine, whatever is done with its chunks: at each place some parts were passed, and the others are judged from there on.
use mathlib.Core.Path.{◌≡◌, refl, sym, ap, ◌∙◌}
use mathlib.Core.List.{List, [], ◌∷◌, ◌++◌, append_assoc, append-nil}
use Prim.Native.Nat.{ℕ, ◌-◌, ◌≤◌, ◌<◌}
use native.Mathlib.Omega.{arith}
use Rattle.std.specs.Prelude.{Ok, Err}
use lib.ListN.{length, take, drop, length-drop, drop_of_length-le}
use Rattle.format.specs.declared.Kind.{Kind}
use Rattle.format.specs.Items.{fine}
use Rattle.format.specs.Chunks.{chunks}
use Rattle.format.specs.Bodies.{Part}
use Rattle.format.specs.Rules.{Before, start, after, judge}
use Rattle.format.specs.Promises.{walk_parts}
use Rattle.format.proofs.Facts.{impossible}
use Rattle.format.proofs.ReaderSteps.{exactly}
use Rattle.format.proofs.Verdicts.{same_fine}
use Rattle.format.proofs.ChunkWalk.{parts_finished, parts_broken, next}
use Rattle.format.proofs.Tiling.{none, no_chunk}
use Rattle.wire.specs.declared.Refusal.{Refusal}
use Rattle.headers.specs.declared.Header.{Header}
use Rattle.headers.specs.Promises.{HeaderAt}
use Rattle.headers.proofs.ChunkInFile.{body, front, size}

-- of the file's parts, `done` were passed, and those that follow are judged from here on
pub record WalkedTo (kind : Kind) (file : List ℕ) (parts done : List Part) (at : ℕ) : Type 0 where
  pub more : List Part
  pub all : done ++ more ≡ parts
  pub before : Before
  pub judged : walk_parts kind before at (chunks (drop at file)) ≡ fine more

unfoldable pub begin : {kind : Kind} {file : List ℕ} {parts : List Part} → walk_parts kind start 12 (chunks (drop 12 file)) ≡ fine parts
    → WalkedTo kind file parts [] 12
begin {parts = parts} e = record { more = parts; all = refl; before = start; judged = e }

module _ {kind : Kind} {file : List ℕ} {parts done : List Part} {at : ℕ} (w : WalkedTo kind file parts done at) where
  pub none_left : length file ≤ at → w.more ≡ []
  none_left h = sym (same_fine (rw (drop_of_length-le file {i = at} h, none, parts_finished kind w.before at) at w.judged))

  pub end : length file ≤ at → done ≡ parts
  end h = sym (append-nil done) ∙ ap (λ z. done ++ z) (sym (none_left h)) ∙ w.all

  pub never_bad : {f : Refusal} → at < length file → HeaderAt 4 file at (Err f) → ⊥
  never_bad some h =
      let long : 0 < length (drop at file) = rw (length-drop at file) (omega arith) in
      impossible (cc (rw (no_chunk at (drop at file) long (exactly h.reads.says), parts_broken kind w.before at) at w.judged))

  -- the chunk `s` at this place, after which the next one starts at `onto`
  pub record ChunkHere (tag : ℕ) (s : List ℕ) (onto : ℕ) : Type 0 where
    pub part : Part
    pub later : List Part
    pub here : judge kind w.before tag (drop 8 s) ≡ fine part
    pub both : part ∷ later ≡ w.more
    pub onward : walk_parts kind (after w.before part) onto (chunks (drop onto file)) ≡ fine later

  pub chunk_here : {head : Header} → HeaderAt 4 file at (Ok head) → ChunkHere head.tag (take (head.end - at) (drop at file)) head.next.at
  chunk_here {head} h =
      let this = next kind w.before at head.tag _ _ w.more (rw (front h) at w.judged) in
      record {
        part = this.part;
        later = this.later;
        here = rw (← body h) this.here;
        both = this.both;
        onward = ap (λ k. walk_parts kind (after w.before this.part) k (chunks (drop head.next.at file))) (sym (size h)) ∙ this.onward;
      }

  module _ {tag : ℕ} {s : List ℕ} {onto : ℕ} (t : ChunkHere tag s onto) where
    pub all_parts : done ++ (t.part ∷ t.later) ≡ parts
    all_parts = ap (λ z. done ++ z) t.both ∙ w.all

    unfoldable pub after_chunk : WalkedTo kind file parts (done ++ (t.part ∷ [])) onto
    after_chunk = record { more = t.later; all = append_assoc done (t.part ∷ []) t.later ∙ all_parts; before = after w.before t.part; judged = t.onward }
