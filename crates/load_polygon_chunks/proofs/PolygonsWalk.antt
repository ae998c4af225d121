-- The walk that puts the polygons: those of the parts that were passed stand in the tables, and with those of the parts that follow they are all polygons.
use mathlib.Core.Path.{◌≡◌, refl, sym, ap, ◌∙◌}
use mathlib.Core.List.{List, [], ◌∷◌, ◌++◌, map, append_assoc}
use mathlib.Core.Option.{none, some}
use Prim.Native.Nat.{ℕ, ◌+◌, ◌-◌, ◌≤◌, ◌<◌}
use native.Mathlib.Omega.{arith}
use lib.ListN.{length, take, drop, length-append, length-drop}
use Rattle.std.specs.Prelude.{Result, Ok, Err}
use Rattle.std.specs.Result.{IsOk}
use Rattle.format.specs.declared.Kind.{Kind}
use Rattle.format.specs.Bytes.{joined}
use Rattle.format.specs.Items.{fine}
use Rattle.format.specs.Chunks.{chunks}
use Rattle.format.specs.Mesh.{Polygon, Name}
use Rattle.format.specs.Bodies.{Part, point_list, name_list, polygon_list, tagging, surface, layer, skipped_chunk}
use Rattle.format.specs.Rules.{added, Before, after, judge, count, from, polygons_in}
use Rattle.format.specs.Promises.{FilePut, names_of_parts, polygons_vertices}
use Rattle.format.proofs.Verdicts.{same_fine}
use Rattle.format.proofs.SizeBound.{things, chunk_bound}
use Rattle.format.proofs.OneNameList.{no_more_names, first_names}
use Rattle.format.proofs.Puts.{total_append}
use Rattle.wire.specs.declared.Refusal.{Refusal}
use Rattle.headers.specs.declared.Header.{Header}
use Rattle.headers.specs.Promises.{HeaderAt}
use Rattle.headers.proofs.ChunkInFile.{long}
use Rattle.headers.proofs.FileWalk as walk
use Rattle.headers.proofs.FileWalk.{WalkedTo, ChunkHere, none_left, never_bad, after_chunk}
use Rattle.load_polygon_chunks.specs.declared.polygons.Latest.{Latest}
use Rattle.load_polygon_chunks.specs.Promises.{all_polygons, file_polygons, file_vertices, FilePolygonsRoom}
use Rattle.load_polygon_chunks.specs.Held.{Held, nothing_held, end_of, held_polygons, held_after, nothing_latest, HeldStored, PartRoom, PartPut}
use Rattle.load_polygon_chunks.proofs.PolygonsInTables.{same_vertices, same_length, stored_none}

-- ---- the polygons of the file, from what is held and the parts that follow

abbrev all_from : Held → List Part → List Polygon
all_from h more = h.earlier ++ polygons_in h.base (end_of h) h.latest more

one_part : (h : Held) (part : Part) (more : List Part) → all_from (held_after h part) more ≡ all_from h (part ∷ more)
unfolding held_after after polygons_in
one_part h (point_list ps) more = refl
one_part h (name_list ns) more = refl
one_part h (polygon_list ps n) more = append_assoc h.earlier h.latest _
one_part h (tagging t ts) more = refl
one_part h (surface s) more = refl
one_part h layer more = let same : end_of h + 0 ≡ end_of h = omega arith in rw same (append_assoc h.earlier h.latest _)
one_part h skipped_chunk more = refl

same_before : (h : Held) (part : Part) → (held_after h part).before ≡ after h.before part
unfolding held_after after
same_before h (point_list ps) = refl
same_before h (name_list ns) = refl
same_before h (polygon_list ps n) = refl
same_before h (tagging t ts) = refl
same_before h (surface s) = refl
same_before h layer = refl
same_before h skipped_chunk = refl

-- ---- what is held fits where all polygons do

record Fewer (ps qs : List Polygon) : Type 0 where
  polygons : length ps ≤ length qs
  vertices : length (polygons_vertices ps) ≤ length (polygons_vertices qs)

fewer_before : (h : Held) (new : List Polygon) → Fewer (held_polygons h) (held_polygons h ++ new)
fewer_before h new = record {
  polygons = omega (arith, length-append (held_polygons h) new);
  vertices = omega (arith, total_append (λ (p : Polygon). p.vertices) (held_polygons h) new);
}

fewer_part : (h : Held) (part : Part) → Fewer (held_polygons h) (held_polygons (held_after h part))
unfolding held_after
fewer_part h (point_list ps) = record { polygons = omega arith; vertices = omega arith }
fewer_part h (name_list ns) = record { polygons = omega arith; vertices = omega arith }
fewer_part h (polygon_list ps n) = fewer_before h (map (from h.base) ps)
fewer_part h (tagging t ts) = record {
  polygons = omega (arith, same_length h.earlier h.latest t ts);
  vertices = omega (arith, ap length (same_vertices h.earlier h.latest t ts));
}
fewer_part h (surface s) = record { polygons = omega arith; vertices = omega arith }
fewer_part h layer = fewer_before h []
fewer_part h skipped_chunk = record { polygons = omega arith; vertices = omega arith }

fewer : (more : List Part) (h : Held) → Fewer (held_polygons h) (all_from h more)
unfolding polygons_in
fewer [] h = record { polygons = omega arith; vertices = omega arith }
fewer (part ∷ more) h =
    let f = fewer_part h part in
    let g = fewer more (held_after h part) in
    let e = one_part h part more in
    record { polygons = omega (arith, f.polygons, g.polygons, ap length e); vertices = omega (arith, f.vertices, g.vertices, ap (λ ps. length (polygons_vertices ps)) e) }

-- ---- points and names

-- a point list ends after no more points than those before it and those that it adds to the counts
end_after : (h : Held) (part : Part) → end_of (held_after h part) ≤ end_of h + things part
unfolding held_after after things
end_after h (point_list ps) = omega arith
end_after h (name_list ns) = omega arith
end_after h (polygon_list ps n) = omega arith
end_after h (tagging t ts) = omega arith
end_after h (surface s) = omega arith
end_after h layer = omega arith
end_after h skipped_chunk = omega arith

-- the names so far and those that follow are all names
names_after : (b : Before) (part : Part) (more : List Part) → ((ns : List Name) → part ≡ name_list ns → b.names ≡ none)
    → count (after b part).names + length (names_of_parts more) ≡ count b.names + length (names_of_parts (part ∷ more))
unfolding after added joined
names_after b (point_list ps) more first = refl
names_after b (name_list ns) more first = rw (first ns refl) (omega (arith, length-append ns (names_of_parts more)))
names_after b (polygon_list ps n) more first = refl
names_after b (tagging t ts) more first = refl
names_after b (surface s) more first = refl
names_after b layer more first = refl
names_after b skipped_chunk more first = refl

-- ---- the walk

-- the parts `done` come to `held`, by which the next chunk is judged; the points are no more than the bytes that were passed
pub record PolygonsTo (kind : Kind) (file : List ℕ) (name_count : ℕ) (words₀ vertices₀ words vertices : List ℕ) (at : ℕ) (l : Latest) : Type 0 where
  pub room : FilePolygonsRoom kind file name_count words₀ vertices₀
  pub done : List Part
  pub walked : WalkedTo kind file room.parts done at
  pub held : Held
  pub judged_by : held.before ≡ walked.before
  pub all : all_from held walked.more ≡ all_polygons room.parts
  pub named : count held.before.names + length (names_of_parts walked.more) ≡ name_count
  pub few : end_of held ≤ at
  pub held_stored : HeldStored held l words₀ words vertices₀ vertices

pub begin : {kind : Kind} {file : List ℕ} {name_count : ℕ} {words vertices : List ℕ} {l : Latest} → FilePolygonsRoom kind file name_count words vertices
    → l ≡ nothing_latest
    → PolygonsTo kind file name_count words vertices words vertices 12 l
unfolding walk.begin
begin {words = words} {vertices} r e = record {
  room = r;
  done = [];
  walked = walk.begin r.sound;
  held = nothing_held;
  judged_by = refl;
  all = refl;
  named = omega (arith, r.names_are);
  few = omega arith;
  held_stored = rw e (record { base_is = refl; points_are = refl; names_are = refl; polygons_are = refl; stored = stored_none words vertices });
}

module _ {kind : Kind} {file : List ℕ} {name_count : ℕ} {words₀ vertices₀ words vertices : List ℕ} {at : ℕ} {l : Latest} (f : PolygonsTo kind file name_count words₀ vertices₀ words vertices at l) where
  pub end : length file ≤ at → FilePut file_polygons kind file words₀ words × FilePut file_vertices kind file vertices₀ vertices
  unfolding polygons_in
  end h =
      let whole_list : held_polygons f.held ≡ all_polygons f.room.parts = rw (none_left f.walked h) at f.all in (
        record { put = λ parts e. rw (same_fine (sym e ∙ f.room.sound), ← whole_list) f.held_stored.stored.put_words },
        record { put = λ parts e. rw (same_fine (sym e ∙ f.room.sound), ← whole_list) f.held_stored.stored.put_vertices },
      )

  -- its header was judged to be good
  pub header_there : at < length file → (answer : Result Header Refusal) → HeaderAt 4 file at answer → IsOk answer
  header_there more (Ok head) h = refl
  header_there more (Err e) h = absurd (never_bad f.walked more h)

  module _ {head : Header} (h : HeaderAt 4 file at (Ok head)) where
    abbrev lent : List ℕ
    lent = take (head.end - at) (drop at file)

    this : ChunkHere f.walked head.tag lent head.next.at
    this = walk.chunk_here f.walked h

    sound : judge kind f.held.before head.tag (drop 8 lent) ≡ fine this.part
    sound = ap (λ b. judge kind b head.tag (drop 8 lent)) f.judged_by ∙ this.here

    abbrev later : Held
    later = held_after f.held this.part

    later_judged : later.before ≡ after f.walked.before this.part
    later_judged = same_before f.held this.part ∙ ap (λ b. after b this.part) f.judged_by

    later_all : all_from later this.later ≡ all_polygons f.room.parts
    later_all = one_part f.held this.part this.later ∙ ap (all_from f.held) this.both ∙ f.all

    later_named : count later.before.names + length (names_of_parts this.later) ≡ name_count
    later_named =
        let first : (ns : List Name) → this.part ≡ name_list ns → f.held.before.names ≡ none = λ ns e. first_names kind f.held.before head.tag _ ns (sound ∙ ap fine e) in
        let parts : length (names_of_parts (this.part ∷ this.later)) ≡ length (names_of_parts f.walked.more) = ap (λ ps. length (names_of_parts ps)) this.both in
        rw (same_before f.held this.part) (omega (arith, names_after f.held.before this.part this.later first, parts, f.named))

    later_few : end_of later ≤ head.next.at
    later_few =
        let w = (chunk_bound kind f.held.before head.tag).each _ this.part sound in
        omega (arith, f.few, w, end_after f.held this.part, length-drop 8 lent, long h, h.inside)

    -- a file lists its names once at most, so that none follow
    all_names : (n : ℕ) → later.before.names ≡ some n → n ≡ name_count
    all_names n e =
        let none_follow = no_more_names kind later.before n head.next.at (chunks (drop head.next.at file)) this.later e (rw later_judged this.onward) in
        omega (arith, rw (e, none_follow) at later_named)

    pub part_room : PartRoom kind head.tag lent name_count l words vertices
    part_room =
        let w = fewer this.later later in
        record {
          held = f.held;
          part = this.part;
          sound = sound;
          words₀ = words₀;
          vertices₀ = vertices₀;
          held_stored = f.held_stored;
          all_names = all_names;
          few = omega (arith, later_few, h.inside, f.room.few);
          words_fit = omega (arith, w.polygons, ap length later_all, f.room.words_fit, f.held_stored.stored.kept_words);
          vertices_fit = omega (arith, w.vertices, ap (λ ps. length (polygons_vertices ps)) later_all, f.room.vertices_fit, f.held_stored.stored.kept_vertices);
        }

    pub turn : {words' vertices' : List ℕ} {l' : Latest} → PartPut kind head.tag lent name_count l words words' vertices vertices' l'
        → PolygonsTo kind file name_count words₀ vertices₀ words' vertices' head.next.at l'
    unfolding part_room after_chunk
    turn w = record {
      room = f.room;
      done = f.done ++ (this.part ∷ []);
      walked = after_chunk f.walked this;
      held = later;
      judged_by = later_judged;
      all = later_all;
      named = later_named;
      few = later_few;
      held_stored = w.put part_room;
    }
