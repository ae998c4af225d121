-- The walk that stores the SURFs: the records are as the SURFs that were passed leave them.
use Rattle.std.specs.Prelude.{if◌then◌else◌}
use Prim.Native.Nat.{ℕ, ◌*◌, ◌≤◌}
use mathlib.Core.Path.{◌≡◌, refl, sym, ap, ◌∙◌}
use mathlib.Core.List.{List, [], ◌∷◌, ◌++◌, map, foldl-append, append-nil}
use mathlib.Core.Bool.{Bool, true, false}
use native.Mathlib.Omega.{arith}
use lib.ListN.{length, take, drop, length-append, length-take, length-drop}
use Rattle.format.specs.declared.Kind.{Kind}
use Rattle.format.specs.Bytes.{joined, same}
use Rattle.format.specs.Items.{fine}
use Rattle.format.specs.Mesh.{Name, Surface, surface_words, record_size}
use Rattle.format.specs.Surfaces.{record_of}
use Rattle.format.specs.Bodies.{Part, SurfaceChunk}
use Rattle.format.specs.Rules.{surfaces_of}
use Rattle.format.specs.Written.{pieces}
use Rattle.format.specs.Promises.{Succeeds, file_parts}
use Rattle.format.proofs.Puts.{joined_map_append}
use Rattle.format.proofs.Verdicts.{same_fine}
use Rattle.headers.proofs.FileWalk.{WalkedTo, ChunkHere, begin, end, after_chunk}
use Rattle.load_surface_chunks.specs.Promises.{with_record, with_surfaces, ListedRoom, SurfacesPut, AllPut}
use Rattle.load_surface_chunks.proofs.RecordAtOne.{pieces_count}

-- ---- one walk

entry_length : (b : Bool) (s : Surface) (t : List ℕ) → record_size ≤ length t → length (if b then surface_words s else take record_size t) ≡ record_size
entry_length true s t l = refl
entry_length false s t l = rw (length-take record_size t) (omega arith)

-- a table stays as long as it is
record_length : (x : Name) (s : Surface) (ns : List Name) (t : List ℕ) → length ns * record_size ≤ length t → length (with_record x s ns t) ≡ length t
unfolding with_record
record_length x s [] t l = refl
record_length x s (n ∷ ns) t l =
    let d = length-drop record_size t in
    let more = record_length x s ns (drop record_size t) (omega arith) in
    let here = entry_length (same n x) s t (omega arith) in
    rw length-append (omega arith)

surfaces_length : (kind : Kind) (ns : List Name) (ss : List SurfaceChunk) (t : List ℕ) → length ns * record_size ≤ length t
    → length (with_surfaces kind ns ss t) ≡ length t
surfaces_length kind ns [] t l = refl
surfaces_length kind ns (s ∷ ss) t l =
    let e = record_length s.name (record_of kind s.values) ns t l in
    surfaces_length kind ns ss (with_record s.name (record_of kind s.values) ns t) (omega arith) ∙ e

-- the records are as the SURFs that were passed leave them
pub record RecordsTo (kind : Kind) (file lengths bytes records₀ : List ℕ) (at : ℕ) (records : List ℕ) : Type 0 where
  pub parts : List Part
  pub sound : file_parts kind file ≡ fine parts
  pub done : List Part
  pub walked : WalkedTo kind file parts done at
  pub room : ListedRoom lengths bytes records₀
  pub held : records ≡ with_surfaces kind (pieces lengths bytes) (joined (map surfaces_of done)) records₀

pub walk_begin : {kind : Kind} {file lengths bytes records : List ℕ} → Succeeds (file_parts kind file) → ListedRoom lengths bytes records
    → RecordsTo kind file lengths bytes records 12 records
unfolding joined
walk_begin f r = record { parts = f.value; sound = f.is; done = []; walked = begin f.is; room = r; held = refl }

module _ {kind : Kind} {file lengths bytes records₀ : List ℕ} {at : ℕ} {records : List ℕ} (k : RecordsTo kind file lengths bytes records₀ at records) where
  pub kept : length records ≡ length records₀
  kept = ap length k.held ∙ surfaces_length kind (pieces lengths bytes) (joined (map surfaces_of k.done)) records₀ (omega (arith, pieces_count lengths bytes, k.room.fits))

  pub listed_room : ListedRoom lengths bytes records
  listed_room = record { inside = k.room.inside; fits = omega (arith, k.room.fits, kept) }

  pub turn : {tag : ℕ} {s : List ℕ} {onto : ℕ} → ChunkHere k.walked tag s onto → {records' : List ℕ}
      → SurfacesPut kind tag s lengths bytes records records' → RecordsTo kind file lengths bytes records₀ onto records'
  unfolding joined
  turn t p = record {
    parts = k.parts;
    sound = k.sound;
    done = k.done ++ (t.part ∷ []);
    walked = after_chunk k.walked t;
    room = k.room;
    held =
        let so_far = joined (map surfaces_of k.done) in
        let all : joined (map surfaces_of (k.done ++ (t.part ∷ []))) ≡ so_far ++ surfaces_of t.part =
        joined_map_append surfaces_of k.done (t.part ∷ []) ∙ ap (λ z. so_far ++ z) (append-nil (surfaces_of t.part)) in
        p.put k.walked.before t.part t.here ∙ ap (with_surfaces kind (pieces lengths bytes) (surfaces_of t.part)) k.held
        ∙ sym (rw all (foldl-append (λ now s. with_record s.name (record_of kind s.values) (pieces lengths bytes) now) records₀ so_far (surfaces_of t.part)));
  }

  pub all_put : length file ≤ at → AllPut kind file lengths bytes records₀ records
  all_put h = record { put = λ parts e. rw (same_fine (sym e ∙ k.sound), ← end k.walked h) k.held }
