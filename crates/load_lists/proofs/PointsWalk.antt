-- The walk that puts the points: those of the parts that were passed stand at the front of the table, and the next chunk's are put behind them.
use Rattle.std.specs.Prelude.{Ok, Err}
use mathlib.Core.Path.{◌≡◌, refl, sym, ap, subst, ◌∙◌}
use mathlib.Core.List.{List, [], ◌∷◌, ◌++◌, append-nil}
use Prim.Native.Nat.{ℕ, ◌+◌, ◌-◌, ◌≤◌, ◌<◌}
use native.Mathlib.Omega.{arith}
use lib.ListN.{length, take, drop, length-append}
use Rattle.format.specs.declared.Kind.{Kind}
use Rattle.format.specs.Bytes.{joined}
use Rattle.format.specs.Bodies.{Part}
use Rattle.format.specs.Promises.{Put, FileRoom, FilePut}
use Rattle.format.proofs.Verdicts.{same_fine}
use Rattle.format.proofs.Puts.{joined_map_append, put_none, put_length, put_append}
use Rattle.wire.specs.declared.Refusal.{Refusal}
use Rattle.headers.specs.declared.Header.{Header}
use Rattle.headers.specs.Promises.{HeaderAt}
use Rattle.headers.proofs.FileWalk as walk
use Rattle.headers.proofs.FileWalk.{WalkedTo, ChunkHere}
use Rattle.load_lists.specs.Promises.{part_points, file_points, ChunkRoom, ChunkPut}

-- the points of one part more
one_more : (done : List Part) (part : Part) → file_points (done ++ (part ∷ [])) ≡ file_points done ++ part_points part
unfolding joined
one_more done part = joined_map_append part_points done (part ∷ []) ∙ ap (λ z. file_points done ++ z) (append-nil (part_points part))

-- the points of the parts `done` are put
pub record PointsPutTo (kind : Kind) (file table₀ : List ℕ) (at m : ℕ) (table : List ℕ) : Type 0 where
  pub room : FileRoom file_points kind file table₀
  pub done : List Part
  pub walked : WalkedTo kind file room.parts done at
  pub here : m ≡ length (file_points done)
  pub kept : length table ≡ length table₀
  pub put : Put table₀ 0 (file_points done) table

pub begin : {kind : Kind} {file table : List ℕ} → FileRoom file_points kind file table → PointsPutTo kind file table 12 0 table
unfolding joined
begin {table = table} r = record { room = r; done = []; walked = walk.begin r.sound; here = refl; kept = refl; put = put_none table 0 }

module _ {kind : Kind} {file table₀ : List ℕ} {at m : ℕ} {table : List ℕ} (f : PointsPutTo kind file table₀ at m table) where
  pub end : length file ≤ at → FilePut file_points kind file table₀ table
  end h = record { put = λ parts e. let same : parts ≡ f.room.parts = same_fine (sym e ∙ f.room.sound) in rw (same, ← walk.end f.walked h) f.put }

  module _ (some : at < length file) where
    pub never_bad : {e : Refusal} → HeaderAt 4 file at (Err e) → ⊥
    never_bad h = walk.never_bad f.walked some h

    module _ {head : Header} (h : HeaderAt 4 file at (Ok head)) where
      abbrev lent : List ℕ
      lent = take (head.end - at) (drop at file)

      this : ChunkHere f.walked head.tag lent head.next.at
      this = walk.chunk_here f.walked h

      fits : m + length (part_points this.part) ≤ length table₀
      unfolding joined
      fits =
          let l = ap (λ z. length (file_points z)) (walk.all_parts f.walked this) in
          let j = simp length-append at (rw (joined_map_append part_points f.done (this.part ∷ this.later)) at l) in
          omega (arith, j, f.here, f.room.fits)

      pub chunk_room : ChunkRoom kind head.tag lent table m
      chunk_room = record { before = f.walked.before; part = this.part; sound = this.here; fits = omega (arith, fits, f.kept) }

      pub turn : {table' : List ℕ} {m' : ℕ} → ChunkPut kind head.tag lent table m table' m' → PointsPutTo kind file table₀ head.next.at m' table'
      turn {table'} {m'} w =
          let p = w.put f.walked.before this.part this.here in
          let n = w.next_is f.walked.before this.part this.here in
          let new = part_points this.part in
          let one = one_more f.done this.part in
          let place : m ≡ 0 + length (file_points f.done) = omega (arith, f.here) in
          let count = ap length one ∙ length-append (file_points f.done) new in
          record {
            room = f.room;
            done = f.done ++ (this.part ∷ []);
            walked = walk.after_chunk f.walked this;
            here = omega (arith, n, count, f.here);
            kept = put_length p (omega (arith, fits, f.kept)) ∙ f.kept;
            put = rw one (put_append f.put (subst (λ k. Put table k new table') place p) (omega (arith, fits, f.here)));
          }
