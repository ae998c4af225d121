-- The walk over a file's chunks, boundary by boundary: the first chunk that has a fault is the one that is told, and a file without one ends at a boundary.
use Prim.Native.Nat.{ℕ, zero, suc, ◌+◌, ◌-◌, ◌≤◌, ◌<◌}
use mathlib.Core.Path.{◌≡◌, refl, sym, ap, subst, ◌∙◌}
use mathlib.Core.List.{List, ◌∷◌}
use mathlib.Core.Bool.{Bool, true, false, not, ◌||◌, true≢false}
use native.Mathlib.Omega.{arith}
use lib.Dec.{ltb}
use lib.ListN.{length, take, drop, length-take, length-drop, drop_of_length-le}
use lib.Seq.{drop-drop}
use borrow.Author.Tests.{leb-true, ltb-true, ltb-false}
use Rattle.format.specs.declared.Kind.{Kind}
use Rattle.format.specs.declared.Fault.{Fault}
use Rattle.format.specs.declared.Fault.TheVariants.{BadHeader}
use Rattle.format.specs.Bytes.{◌is◌, number}
use Rattle.format.specs.Limits.{file_limit}
use Rattle.format.specs.Refusals.{number_of, place_of, is_of_chunk}
use Rattle.format.specs.Items.{Verdict, fine, fault, Got, ◌and_then◌}
use Rattle.format.specs.Chunks.{Chunk, size_of, length_of, well_formed, chunk_of, Chunks, finished, broken, chunk, chunks}
use Rattle.format.specs.Bodies.{Part}
use Rattle.format.specs.Mesh.{Mesh}
use Rattle.format.specs.Rules.{Before, start, after, judge, located, PartAt, walk, form, parts_of, gives, rules}
use Rattle.format.specs.Promises.{walk_parts}
use Rattle.format.proofs.Verdicts.{fine_with, passed}
use Rattle.format.proofs.ChunkWalk.{accepted}
use Rattle.format.proofs.Tiling as tiling
use Rattle.format.proofs.Facts.{every_at}
use Rattle.laws.proofs.Chunks.{chunk_in}
use Rattle.laws.proofs.Readers.{fault_in_chunk}
use Rattle.demands.specs.Places.{Boundary, first, next, chunk_judged, FineUpTo, StartsAt, end_of, AtFault}
use Rattle.demands.specs.Places as places

-- ---- one chunk, by its place in the file

abbrev pub size_at : (file : List ℕ) (place : ℕ) → ℕ
size_at file place = size_of 4 (length_of 4 (drop place file))

-- a well-formed chunk at a place
pub record Whole (file : List ℕ) (place : ℕ) : Type 0 where
  pub got : Got Chunk
  pub reads : chunk_of 4 place (drop place file) ≡ fine got
  pub by_itself : chunk_of 4 0 (drop place file) ≡ fine (record { value = got.value; next = 0 + size_at file place; left = got.left })
  pub left : got.left ≡ drop (place + size_at file place) file
  pub size : size_of 4 (length got.value.body) ≡ size_at file place
  pub ends : place + size_at file place ≤ length file
  pub some : 0 < size_at file place
  pub long : length got.value.body ≡ length_of 4 (drop place file)
  pub body_ends : place + 8 + length_of 4 (drop place file) ≤ length file
  pub judged : (kind : Kind) (b : Before) → chunk_judged kind b (drop place file) ≡ judge kind b got.value.tag got.value.body

pub whole : (file : List ℕ) (place : ℕ) → well_formed 4 (drop place file) ≡ true → Whole file place
unfolding chunk_of well_formed size_of chunk_judged ◌and_then◌
whole file place ok =
    let b : List ℕ = drop place file in
    let got : Got Chunk = record { value = chunk_in 4 b; next = place + size_at file place; left = drop (size_at file place) b } in
    let reads : chunk_of 4 place b ≡ fine got = rw ok in
    let fits : size_at file place ≤ length b = leb-true _ _ (every_at _ 2 ok) in
    let long : length (drop place file) ≡ length file - place = length-drop place file in
    record {
      got = got;
      reads = reads;
      by_itself = rw ok;
      left = drop-drop (size_at file place) place file;
      size = omega (arith, (tiling.framed place b got reads).size);
      ends = omega arith;
      some = omega arith;
      long = omega (arith, length-take (length_of 4 b) (drop 8 b), length-drop 8 b);
      body_ends = omega arith;
      judged = λ kind b. rw ok;
    }

-- what stands at a place: the file's end, no chunk, or a chunk and then the chunks after it
data NextChunk (file : List ℕ) (place : ℕ) : Type 0 where
  end : length file ≤ place → chunks (drop place file) ≡ finished → NextChunk file place
  none : place < length file → chunks (drop place file) ≡ broken → well_formed 4 (drop place file) ≡ false → NextChunk file place
  one : place < length file → well_formed 4 (drop place file) ≡ true → (w : Whole file place)
      → chunks (drop place file) ≡ chunk w.got.value.tag w.got.value.body (chunks (drop (place + size_at file place) file)) → NextChunk file place

next_chunk_at : (file : List ℕ) (place : ℕ) → NextChunk file place
unfolding chunk_of
next_chunk_at file place = by (ltb place (length file)) (well_formed 4 (drop place file)) refl refl
  where
    by : (t u : Bool) → ltb place (length file) ≡ t → well_formed 4 (drop place file) ≡ u → NextChunk file place
    by false u past ok = let over : length file ≤ place = ltb-false _ _ past in end over (ap chunks (drop_of_length-le file {i = place} over) ∙ tiling.none)
    by true false some ok =
        let inside : place < length file = ltb-true _ _ some in
        let unread : chunk_of 4 place (drop place file) ≡ fault BadHeader place = rw ok in
        none inside (tiling.no_chunk place (drop place file) (rw length-drop (omega arith)) unread) ok
    by true true some ok =
        let w = whole file place ok in
        one (ltb-true _ _ some) ok w (rw w.left at (tiling.next_chunk place (drop place file) w.got w.reads))

-- ---- the walk over the chunks

-- a fault of a chunk is the first one, of the chunk at a boundary
pub record FaultAt (file : List ℕ) (why : Fault) (place : ℕ) : Type 1 where
  pub of_chunk : is_of_chunk (number_of why) ≡ true
  pub told : AtFault file (number_of why) place

-- a file that ends at a boundary
pub record Ends (file : List ℕ) : Type 1 where
  pub last : Boundary file (length file)

-- and where there is none, the file ends at a boundary
abbrev pub Walked : {A : Type 0} → (file : List ℕ) → Verdict A → Type 1
Walked file (fine parts) = Ends file
Walked file (fault why place) = FaultAt file why place

-- where the walk stands
record Here (kind : Kind) (file : List ℕ) (place : ℕ) (b : Before) : Type 0 where
  boundary : Boundary file place
  earlier : FineUpTo kind file place b
  most : place ≤ length file

module _ (file : List ℕ) (kind : Kind) (of_kind : form file ≡ fine kind) where
  first_fault : (b : Before) (place : ℕ) (why : Fault) (at : ℕ) → Here kind file place b → place < length file → is_of_chunk (number_of why) ≡ true
      → chunk_judged kind b (drop place file) ≡ fault why at → place_of place at ≤ end_of file place → end_of file place ≤ length file
      → StartsAt kind b (drop place file) why at → FaultAt file why (place_of place at)
  first_fault b place why at here inside of_chunk faulty to_end in_file starts = record {
    of_chunk = of_chunk;
    told = record {
      kind = kind;
      of_kind = of_kind;
      chunk = place;
      inside = inside;
      before = b;
      earlier = here.earlier;
      why = why;
      at = at;
      faulty = faulty;
      number_is = refl;
      place_is = refl;
      from_tag = omega arith;
      to_end = to_end;
      in_file = in_file;
      starts = starts;
    };
  }

  no_header : (b : Before) (place : ℕ) → Here kind file place b → place < length file → well_formed 4 (drop place file) ≡ false
      → FaultAt file BadHeader (place_of place 0)
  unfolding number_of chunk_judged chunk_of ◌and_then◌
  no_header b place here inside ok = first_fault b place BadHeader 0 here inside refl (rw ok) (rw ok (omega arith)) (rw ok (omega arith)) (places.StartsAt.header ok)

  walk_chunk : (b : Before) (place : ℕ) (rest : Chunks) → Here kind file place b → place < length file → (ok : well_formed 4 (drop place file) ≡ true)
      → (w : Whole file place)
      → ((part : Part) → Here kind file (place + size_at file place) (after b part) → Walked file (walk kind (after b part) (place + size_of 4 (length w.got.value.body)) rest))
      → Walked file (walk kind b place (chunk w.got.value.tag w.got.value.body rest))
  unfolding walk located ◌and_then◌
  walk_chunk b place rest here inside ok w later = by (judge kind b w.got.value.tag w.got.value.body) refl
    where
      on : (part : Part) (v : Verdict (List PartAt)) → Walked file v → Walked file (v and_then λ parts. fine (record { place = place; part = part } ∷ parts))
      on part (fine parts) x = x
      on part (fault why at) x = x

      by : (v : Verdict Part) → judge kind b w.got.value.tag w.got.value.body ≡ v
          → Walked file (located place v and_then λ part. walk kind (after b part) (place + size_of 4 (length w.got.value.body)) rest and_then λ parts. fine (record { place = place; part = part } ∷ parts))
      by (fine part) e =
          let there : Here kind file (place + size_at file place) (after b part) = record { boundary = next here.boundary ok; earlier = places.FineUpTo.next here.earlier (w.judged kind b ∙ e); most = w.ends } in
          on part (walk kind (after b part) (place + size_of 4 (length w.got.value.body)) rest) (later part there)
      by (fault why at) e =
          let f = fault_in_chunk kind b w.got.value.tag w.got.value.body e in
          first_fault b place why at here inside f.of_chunk (w.judged kind b ∙ e) (rw ok (omega (arith, f.within, w.long))) (rw ok w.body_ends)
          (places.StartsAt.inside _ w.by_itself f.starts)

  walk_here : (b : Before) (place : ℕ) → Here kind file place b → NextChunk file place
      → (place < length file → (ok : well_formed 4 (drop place file) ≡ true) (part : Part) → Here kind file (place + size_at file place) (after b part)
      → Walked file (walk kind (after b part) (place + size_at file place) (chunks (drop (place + size_at file place) file))))
      → Walked file (walk kind b place (chunks (drop place file)))
  unfolding walk
  walk_here b place here (end past cs) later = let ends : place ≡ length file = omega (arith, here.most) in rw cs (record { last = subst (Boundary file) ends here.boundary })
  walk_here b place here (none inside cs ok) later = rw cs (no_header b place here inside ok)
  walk_here b place here (one inside ok w cs) later =
      rw cs (walk_chunk b place (chunks (drop (place + size_at file place) file)) here inside ok w (λ part there. rw w.size (later inside ok part there)))

  walked : (n : ℕ) (b : Before) (place : ℕ) → Here kind file place b → length file ≤ place + n → Walked file (walk kind b place (chunks (drop place file)))
  walked zero b place here few = walk_here b place here (next_chunk_at file place) (λ inside ok part there. absurd (omega arith))
  walked (suc n) b place here few =
      walk_here b place here (next_chunk_at file place) (λ inside ok part there. walked n (after b part) (place + size_at file place) there (omega (arith, (whole file place ok).some)))

-- ---- the file

pub neither : (a b : Bool) → a || b ≡ false → (a ≡ false) × (b ≡ false)
neither true b e = absurd (true≢false e)
neither false b e = (refl, e)

-- a file whose first twelve bytes are right has them
pub headed : (s : List ℕ) (kind : Kind) → form s ≡ fine kind → 12 ≤ length s
unfolding form
headed s kind e =
    let short = passed (ltb file_limit (length s)) _ _ _ e in
    let known = passed (ltb (length s) 12 || not (number (take 4 s) is "FORM")) _ _ _ short.1 in
    ltb-false (length s) 12 (neither (ltb (length s) 12) (not (number (take 4 s) is "FORM")) known.0).0

-- the walk over all chunks starts at the first boundary
pub walked_file : (file : List ℕ) (kind : Kind) → form file ≡ fine kind → Walked file (walk kind start 12 (chunks (drop 12 file)))
walked_file file kind e = walked file kind e (length file) start 12 (record { boundary = first; earlier = places.FineUpTo.first; most = headed file kind e }) (omega arith)

-- the end of a file that the rules give a mesh
pub last : {file : List ℕ} {m : Mesh} {k d : ℕ} → rules file ≡ gives m k d → Boundary file (length file)
unfolding walk_parts
last {file} e =
    let a = accepted e in
    let k = fine_with (walk a.kind start 12 (chunks (drop 12 file))) parts_of (sym a.walked) in
    let ends : Walked file (fine k.value) = rw k.is at (walked_file file a.kind a.formed) in
    ends.last
