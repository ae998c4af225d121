-- The polygons before the place are in the tables, and the entry at it was judged fine with all that follow, so that it has room.
use mathlib.Core.Path.{◌≡◌, refl, sym, ap, ◌∙◌}
use mathlib.Core.List.{List, [], ◌∷◌, ◌++◌, map, map-id, map-append, append_assoc, append-nil}
use Prim.Native.Nat.{ℕ, ◌+◌, ◌≤◌, ◌<◌}
use native.Mathlib.Omega.{arith}
use lib.ListN.{length, drop, length-append}
use Rattle.format.specs.declared.Fault.TheVariants.{PolygonType}
use Rattle.format.specs.Bytes.{sum, joined}
use Rattle.format.specs.Items.{◌and_then◌, Verdict, Got, whole, u4}
use Rattle.format.specs.Mesh.{Polygon, polygon_words, polygon_size}
use Rattle.format.specs.Bodies.{polygon_list, polygon_kind, polygon_type, polygons_body}
use Rattle.format.specs.Rules.{from}
use Rattle.format.specs.Promises.{keep, got, itself, Says, Succeeds, Put, polygons_listed, vertex_total}
use Rattle.format.proofs.ReaderSteps.{exactly}
use Rattle.format.proofs.Entries.{ManyLoop, many_begin, many_turn, many_end}
use Rattle.format.proofs.Inversion.{Entry, many_sound, sound_whole, sound_first, sound_good, then_at}
use Rattle.format.proofs.Facts.{sum_map_append}
use Rattle.format.proofs.PolygonTables.{words_from, vertices_from}
use Rattle.format.proofs.Puts.{joined_append, put_none, put_length, put_append}
use Rattle.polygon_layouts.specs.Layouts.{Layout, EntryOf, entry_of, part_of, entries_of}
use Rattle.wire.proofs.ReadAgain.{sound_item}
use Rattle.load_vertices.specs.declared.Lists.{Lists}
use Rattle.load_vertices.specs.declared.Ends.{Ends}
use Rattle.load_vertices.specs.Promises.{EntryPut}
use Rattle.load_polygons.specs.Promises.{held_by, RoomIn, PolygonsRoom, PolygonsStored, PolygonsPut, BodyRoom, BodyPut}
use Rattle.load_vertices.proofs.PutVertices.{above_length}
use Rattle.format.proofs.Verdicts.{same_fine}

-- ---- polygons that stand in the tables, and one more

module _ (base : ℕ) where
  joined_more : (f : Polygon → List ℕ) (ps : List Polygon) (p : Polygon)
      → joined (map f (map (from base) ps)) ++ f (from base p) ≡ joined (map f (map (from base) (ps ++ (p ∷ []))))
  unfolding joined
  joined_more f ps p = rw (
    map-append (from base) ps (p ∷ []),
    map-append f (map (from base) ps) (from base p ∷ []),
    joined_append (map f (map (from base) ps)) (f (from base p) ∷ []),
    append-nil (f (from base p)),
  )

stored_none : {base : ℕ} (words vertices : List ℕ) (e : Ends) → PolygonsStored base [] words e.polygons words vertices e.vertices vertices e
unfolding joined sum
stored_none words vertices e = record {
  put_words = put_none words e.polygons;
  put_vertices = put_none vertices e.vertices;
  words_end = omega arith;
  vertices_end = omega arith;
}

module _ {base : ℕ} {ps : List Polygon} {words₀ : List ℕ} {i₀ : ℕ} {words vertices₀ : List ℕ} {m₀ : ℕ} {vertices : List ℕ} {e : Ends}
    (w : PolygonsStored base ps words₀ i₀ words vertices₀ m₀ vertices e) where
  stored_more : (p : Polygon) {words' vertices' : List ℕ} {many : ℕ} → Put words e.polygons (polygon_words (from base p)) words'
      → Put vertices e.vertices (from base p).vertices vertices' → many ≡ length p.vertices
      → e.polygons + polygon_size ≤ length words₀ → e.vertices + many ≤ length vertices₀
      → PolygonsStored base (ps ++ (p ∷ [])) words₀ i₀ words' vertices₀ m₀ vertices' (record { polygons = e.polygons + polygon_size; vertices = e.vertices + many })
  unfolding sum
  stored_more p {many = many} q r count room room' =
      let here : e.polygons ≡ i₀ + length (joined (map polygon_words (map (from base) ps))) = w.words_end ∙ ap (λ k. i₀ + k) (sym (words_from base ps)) in
      let there : e.vertices ≡ m₀ + length (joined (map (λ p. p.vertices) (map (from base) ps)))
      = w.vertices_end ∙ ap (λ k. m₀ + k) (sym (vertices_from base ps)) in
      record {
        put_words = rw (← joined_more base polygon_words ps p) (put_append w.put_words (rw here at q) (omega (arith, here)));
        put_vertices = rw (← joined_more base (λ p. p.vertices) ps p)
            (put_append w.put_vertices (rw there at r) (omega (arith, there, above_length base p.vertices)));
        words_end = omega (arith, w.words_end, length-append ps (p ∷ []));
        vertices_end = omega (arith, w.vertices_end, sum_map_append (λ (p : Polygon). length p.vertices) ps (p ∷ []));
      }

-- ---- the entries of a body

listed_held : (l : Layout) (xs : List (EntryOf l)) → polygons_listed (part_of l xs) ≡ map (held_by l) xs
unfolding polygons_listed
listed_held Layout.Faces xs = refl
listed_held Layout.Patches xs = sym (map-id xs)
listed_held (Layout.Polygons kind) xs = sym (map-id xs)

-- the polygons `done` stand in the tables, and those that follow are read from here on
pub record EntriesStored (layout : Layout) (l : Lists) (e₀ : Ends) (s : List ℕ) (from : ℕ) (words₀ vertices₀ words vertices : List ℕ) (at : ℕ)
    (e : Ends) : Type 0 where
  pub room : BodyRoom (entries_of layout l.points l.names) l e₀ s from words₀ vertices₀
  pub done : List Polygon
  pub goal : Verdict (Got (List Polygon))
  pub sound : Succeeds goal
  pub all : sound.value.value ≡ room.listed
  pub rest : ManyLoop goal (entry_of layout l.points l.names) s at (λ xs. done ++ map (held_by layout) xs)
  pub kept_words : length words ≡ length words₀
  pub kept_vertices : length vertices ≡ length vertices₀
  pub stored : PolygonsStored l.base done words₀ e₀.polygons words vertices₀ e₀.vertices vertices e

module _ (layout : Layout) (l : Lists) {e₀ : Ends} {s : List ℕ} {from : ℕ} {words₀ vertices₀ : List ℕ} where
  pub entries_begin : BodyRoom (entries_of layout l.points l.names) l e₀ s from words₀ vertices₀
      → EntriesStored layout l e₀ s from words₀ vertices₀ words₀ vertices₀ from e₀
  unfolding ◌and_then◌ polygons_listed
  entries_begin r =
      let u = sound_whole (entries_of layout l.points l.names) 0 from (drop from s) (record { value = _; is = r.sound }) in
      let part : u.got.value ≡ polygon_list r.listed r.details = same_fine (sym u.so ∙ r.sound) in
      record {
        room = r;
        done = [];
        goal = keep polygons_listed (entries_of layout l.points l.names from (drop from s));
        sound = record { value = record { value = polygons_listed u.got.value; next = u.got.next; left = u.got.left }; is = rw u.is };
        all = ap polygons_listed part;
        rest = many_begin (part_of layout) polygons_listed (λ xs. map (held_by layout) xs) (listed_held layout);
        kept_words = refl;
        kept_vertices = refl;
        stored = stored_none words₀ vertices₀ e₀;
      }

module _ {layout : Layout} {l : Lists} {e₀ : Ends} {s : List ℕ} {from : ℕ} {words₀ vertices₀ words vertices : List ℕ} {at : ℕ} {e : Ends}
    (f : EntriesStored layout l e₀ s from words₀ vertices₀ words vertices at e) where
  pub entries_end : length s ≤ at → BodyPut (entries_of layout l.points l.names) l e₀ s from words₀ words vertices₀ vertices e
  entries_end h =
      let last : ◌≡◌ {A = Got (List Polygon)} (record { value = f.done ++ []; next = at; left = drop at s }) f.sound.value
      = same_fine (many_end f.rest h ∙ f.sound.is) in
      let whole_list : f.done ≡ f.room.listed = sym (append-nil f.done) ∙ ap (λ g. g.value) last ∙ f.all in
      record {
        put = λ ps n e.
            let part : polygon_list ps n ≡ polygon_list f.room.listed f.room.details = same_fine (sym e ∙ f.room.sound) in
            let same : ps ≡ f.done = cc (part, whole_list) in
            rw same f.stored;
      }

  module _ (some : at < length s) where
    entry : Entry (entry_of layout l.points l.names) s at (λ xs. f.done ++ map (held_by layout) xs) f.sound.value.value
    entry = many_sound f.rest some f.sound

    -- it has room
    pub entry_room : RoomIn layout l e s at words vertices
    unfolding sum
    entry_room =
        let p = held_by layout entry.first.value in
        let later = map (held_by layout) entry.more in
        let parts : f.done ++ (p ∷ later) ≡ f.room.listed = entry.so ∙ f.all in
        record {
          sound = record { value = entry.first; is = entry.is };
          words_fit = omega (arith, ap length parts, length-append f.done (p ∷ later), f.stored.words_end, f.room.words_fit, f.kept_words);
          vertices_fit = omega (
            arith,
            ap vertex_total parts,
            sum_map_append (λ (p : Polygon). length p.vertices) f.done (p ∷ later),
            f.stored.vertices_end,
            f.room.vertices_fit,
            f.kept_vertices,
          );
          small = f.room.small;
        }

    module _ {words' vertices' : List ℕ} {next many : ℕ}
        (q : EntryPut (entry_of layout l.points l.names) (held_by layout) l e s at words words' vertices vertices' next many) where
      -- the indices after it are within the tables
      pub entry_fits : (e.polygons + polygon_size ≤ length words) × (e.vertices + many ≤ length vertices)
      entry_fits =
          let r = entry_room in
          let one : ◌≡◌ {A = Got (EntryOf layout)} r.sound.value (record { value = q.entry; next = next; left = drop next s })
          = same_fine (sym r.sound.is ∙ exactly q.reads.says) in
          let count : length (held_by layout r.sound.value.value).vertices ≡ many
          = ap (λ g. length (held_by layout g.value).vertices) one ∙ sym q.count in
          (r.words_fit, omega (arith, r.vertices_fit, count))

      pub entries_turn : EntriesStored layout l e₀ s from words₀ vertices₀ words' vertices' next
          (record { polygons = e.polygons + polygon_size; vertices = e.vertices + many })
      entries_turn =
          let p = held_by layout q.entry in
          let longer : (x : EntryOf layout) (xs : List (EntryOf layout)) → x ≡ q.entry
          → f.done ++ map (held_by layout) (x ∷ xs) ≡ f.done ++ (p ∷ []) ++ map (held_by layout) xs
          = λ x xs e. rw e (sym (append_assoc f.done (p ∷ []) (map (held_by layout) xs))) in
          record {
            room = f.room;
            done = f.done ++ (p ∷ []);
            goal = f.goal;
            sound = f.sound;
            all = f.all;
            rest = many_turn f.rest some q.reads.says (omega (arith, q.reads.moves)) longer;
            kept_words = put_length q.put_words entry_fits.0 ∙ f.kept_words;
            kept_vertices = put_length q.put_vertices (omega (arith, entry_fits.1, q.count, above_length l.base p.vertices)) ∙ f.kept_vertices;
            stored = stored_more f.stored p q.put_words q.put_vertices q.count (omega (arith, entry_fits.0, f.kept_words))
                (omega (arith, entry_fits.1, f.kept_vertices));
          }

-- ---- a body that starts with a type

module _ {points base : ℕ} {s words : List ℕ} {i : ℕ} {vertices : List ℕ} {m : ℕ}
    (r : PolygonsRoom (polygons_body points) points base s 8 words i vertices m) where
  read : Succeeds (polygons_body points 8 (drop 8 s))
  read = let u = sound_whole (polygons_body points) 0 8 (drop 8 s) (record { value = _; is = r.sound }) in record { value = u.got; is = u.is }

  pub type_fine : Succeeds (u4 8 (drop 8 s))
  unfolding polygons_body
  type_fine = sound_item u4 PolygonType polygon_type 8 (drop 8 s) (sound_first _ _ 8 (drop 8 s) read)

  module _ {t next : ℕ} (w : Says u4 itself s 8 (got s t next)) where
    after_type : whole 0 (polygons_body points) 8 (drop 8 s) ≡ whole 0 (entries_of (Layout.Polygons (polygon_kind t)) points 0) next (drop next s)
    unfolding polygons_body whole
    after_type = rw (then_at _ _ (sound_good _ _ w (sound_first _ _ 8 (drop 8 s) read)))

    pub typed_room : PolygonsRoom (entries_of (Layout.Polygons (polygon_kind t)) points 0) points base s next words i vertices m
    typed_room = record {
      listed = r.listed;
      details = r.details;
      sound = sym after_type ∙ r.sound;
      words_fit = r.words_fit;
      vertices_fit = r.vertices_fit;
      small = r.small;
    }

    pub typed_put : {words' vertices' : List ℕ} {ends : Ends}
        → PolygonsPut (entries_of (Layout.Polygons (polygon_kind t)) points 0) base s next words i words' vertices m vertices' ends
        → PolygonsPut (polygons_body points) base s 8 words i words' vertices m vertices' ends
    typed_put q = record { put = λ ps n e. q.put ps n (sym after_type ∙ e) }
