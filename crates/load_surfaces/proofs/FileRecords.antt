-- The records of all listed names are as the SURFs of the file leave them, from those of names with no SURF on.
use Rattle.std.specs.Prelude.{if◌then◌else◌}
use Prim.Native.Nat.{ℕ, ◌+◌, ◌*◌, ◌≤◌}
use mathlib.Core.Path.{◌≡◌, refl, sym, ap, ◌∙◌}
use mathlib.Core.List.{List, [], ◌∷◌, ◌++◌, map}
use mathlib.Core.Option.{Option, none, some}
use mathlib.Core.Bool.{Bool, true, false}
use native.Mathlib.Omega.{arith}
use lib.ListN.{length, take, drop, replicate, length-append, length-take, length-map}
use lib.Seq.{take_at}
use Rattle.format.specs.declared.Kind.{Kind}
use Rattle.format.specs.Bytes.{sum, joined, same}
use Rattle.format.specs.Mesh.{Name, Surface, missing, surface_words, record_size}
use Rattle.format.specs.Surfaces.{record_of}
use Rattle.format.specs.Bodies.{Part, SurfaceChunk}
use Rattle.format.specs.Rules.{surfaces_of, standing, record_for}
use Rattle.format.specs.Written.{pieces}
use Rattle.format.specs.Promises.{Put, FilePut, names_of_parts}
use Rattle.format.proofs.Facts.{length_each, length_joined}
use Rattle.format.proofs.Indexed.{pieces_back}
use Rattle.format.proofs.Verdicts.{same_fine}
use Rattle.load_surface_chunks.specs.Promises.{with_record, with_surfaces, ListedRoom, AllPut}
use Rattle.load_surfaces.specs.Promises.{file_records, RecordsRoom}

-- ---- the names in their tables

-- the first `count` lengths cut the names from the bytes
pub record Named (count : ℕ) (lengths bytes : List ℕ) (ns : List Name) : Type 0 where
  pub few : count ≤ length lengths
  pub many : count ≡ length ns
  pub cut : pieces (take count lengths) bytes ≡ ns
  pub inside : sum (take count lengths) ≤ length bytes

module _ {kind : Kind} {file : List ℕ} {count : ℕ} {lengths bytes records : List ℕ} (r : RecordsRoom kind file count lengths bytes records) where
  listed : take count lengths ≡ map length (names_of_parts r.parts)
  listed = rw r.lengths_hold (take_at (map length (names_of_parts r.parts)) r.more_lengths count (length-map (names_of_parts r.parts) length ∙ sym r.names_are))

  named : Named count lengths bytes (names_of_parts r.parts)
  named =
      let ns = names_of_parts r.parts in
      record {
        few = omega (arith, r.names_are, ap length r.lengths_hold, length-append (map length ns) r.more_lengths, length-map ns length);
        many = r.names_are;
        cut = rw (listed, r.bytes_hold) (pieces_back ns r.more_bytes);
        inside = omega (arith, ap sum listed, length_joined ns, ap length r.bytes_hold, length-append (joined ns) r.more_bytes);
      }

-- ---- the records of some names

abbrev record_words : (Name → Surface) → List Name → List ℕ
record_words of ns = joined (map surface_words (map of ns))

words_length : (of : Name → Surface) (ns : List Name) → length (record_words of ns) ≡ length ns * record_size
words_length of ns = length_each record_size surface_words (λ s. refl) (map of ns) ∙ ap (λ n. n * record_size) (length-map ns of)

words_put : (of : Name → Surface) (ns : List Name) {count : ℕ} {table table' : List ℕ} → count ≡ length ns
    → table' ≡ record_words of ns ++ drop (count * record_size) table
    → Put table 0 (record_words of ns) table'
words_put of ns {count} many e =
    let l : 0 + length (record_words of ns) ≡ count * record_size = omega (arith, words_length of ns, many) in
    record { put = e ∙ rw l refl }

words_same : {f g : Name → Surface} → ((n : Name) → f n ≡ g n) → (ns : List Name) → record_words f ns ≡ record_words g ns
unfolding joined
words_same e [] = refl
words_same e (n ∷ ns) = rw (e n, words_same e ns)

words_missing : (ns : List Name) → joined (map surface_words (replicate (length ns) missing)) ≡ record_words (λ n. missing) ns
unfolding joined
words_missing [] = refl
words_missing (n ∷ ns) = ap (λ ws. surface_words missing ++ ws) (words_missing ns)

-- one surface stored
abbrev given : Name → Surface → (Name → Surface) → Name → Surface
given name s of n = if same n name then s else of n

record_words_lem : (name : Name) (s : Surface) (of : Name → Surface) (ns : List Name) (rest : List ℕ) → with_record name s ns (record_words of ns ++ rest) ≡ record_words (given name s of) ns ++ rest
unfolding with_record joined
record_words_lem name s of [] rest = refl
record_words_lem name s of (n ∷ ns) rest = rw (record_words_lem name s of ns rest) (by (same n name) (record_words (given name s of) ns))
  where
    by : (b : Bool) (more : List ℕ)
        → (if b then surface_words s else surface_words (of n)) ++ (more ++ rest) ≡ (surface_words (if b then s else of n) ++ more) ++ rest
    by true more = refl
    by false more = refl

-- the SURFs of a chunk, and those of one chunk after another
found_record : (kind : Kind) (s : SurfaceChunk) (now : Name → Option SurfaceChunk) (n : Name)
    → given s.name (record_of kind s.values) (λ n. record_for kind (now n)) n ≡ record_for kind (if same n s.name then some s else now n)
found_record kind s now n = by (same n s.name)
  where
    by : (b : Bool) → (if b then record_of kind s.values else record_for kind (now n)) ≡ record_for kind (if b then some s else now n)
    by true = refl
    by false = refl

surface_words_lem : (kind : Kind) (ns : List Name) (rest : List ℕ) (now : Name → Option SurfaceChunk) (ss : List SurfaceChunk)
    → with_surfaces kind ns ss (record_words (λ n. record_for kind (now n)) ns ++ rest) ≡ record_words (λ n. record_for kind (standing n (now n) ss)) ns ++ rest
unfolding standing
surface_words_lem kind ns rest now [] = refl
surface_words_lem kind ns rest now (s ∷ ss) =
    rw (record_words_lem s.name (record_of kind s.values) (λ n. record_for kind (now n)) ns rest, words_same (found_record kind s now) ns)
    (surface_words_lem kind ns rest (λ n. if same n s.name then some s else now n) ss)

-- the SURF that stands for each name, and its record
abbrev after : Kind → List Part → Name → Surface
after kind parts n = record_for kind (standing n none (joined (map surfaces_of parts)))

-- ---- the records before the first SURF

module _ (ns : List Name) {count : ℕ} {entry records : List ℕ} (many : count ≡ length ns) (p : Put entry 0 (joined (map surface_words (replicate count missing))) records) where
  long : length (record_words (λ n. missing) ns) ≡ count * record_size
  long = omega (arith, words_length (λ n. missing) ns, many)

  all_missing : records ≡ record_words (λ n. missing) ns ++ drop (count * record_size) entry
  all_missing =
      let w : joined (map surface_words (replicate count missing)) ≡ record_words (λ n. missing) ns = rw many (words_missing ns) in
      let l : 0 + length (record_words (λ n. missing) ns) ≡ count * record_size = omega (arith, long) in
      p.put ∙ rw (w, l)

-- ---- the file

module _ {kind : Kind} {file : List ℕ} {count : ℕ} {lengths bytes entry : List ℕ} (r : RecordsRoom kind file count lengths bytes entry) where
  pub few : count ≤ length lengths
  few = (named r).few

  module _ {first : List ℕ} (p : Put entry 0 (joined (map surface_words (replicate count missing))) first) where
    pub listed_room : length first ≡ length entry → ListedRoom (take count lengths) bytes first
    listed_room kept = record { inside = (named r).inside; fits = omega (arith, length-take count lengths, r.fits, kept) }

    pub all_stored : {records : List ℕ} → AllPut kind file (take count lengths) bytes first records → FilePut (file_records kind) kind file entry records
    all_stored {records} a =
        let ns = names_of_parts r.parts in
        let rest = drop (count * record_size) entry in
        let is : records ≡ record_words (after kind r.parts) ns ++ rest =
        a.put r.parts r.sound
        ∙ rw ((named r).cut, all_missing ns r.names_are p) (surface_words_lem kind ns rest (λ n. none) (joined (map surfaces_of r.parts))) in
        record { put = λ parts e. rw (same_fine (sym e ∙ r.sound)) (words_put (after kind r.parts) ns r.names_are is) }
