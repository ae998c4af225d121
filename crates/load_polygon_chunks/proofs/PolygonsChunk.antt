-- One chunk after those whose polygons stand in the tables, by its tag: it is points, names, polygons, tags, a layer, or none of them, and then changes nothing.
use Rattle.std.specs.Prelude.{if◌then◌else◌}
use mathlib.Core.Path.{◌≡◌, refl, sym, subst, ◌∙◌}
use mathlib.Core.List.{List, map}
use mathlib.Core.Bool.{true, false}
use Prim.Native.Nat.{ℕ, ◌+◌, ◌-◌, ◌*◌, ◌/◌, ◌≤◌, ◌<◌, ◌^◌}
use native.Mathlib.Omega.{arith}
use lib.ListN.{length, drop, length-append, length-map}
use Rattle.format.specs.declared.Kind.{Kind}
use Rattle.format.specs.declared.Kind.TheVariants.{LWOB, LWO2}
use Rattle.format.specs.Bytes.{◌is◌}
use Rattle.format.specs.Items.{fine, Reader, whole}
use Rattle.format.specs.Mesh.{Polygon, point_words, point_size, polygon_size}
use Rattle.format.specs.Bodies.{Part, point_list, name_list, layer, skipped_chunk, points_body, names_body, tagging_body, surface_body}
use Rattle.format.specs.Rules.{added, Before, after, count, when◌read◌, judge, from}
use Rattle.format.specs.Promises.{vertex_total}
use Rattle.format.proofs.Facts.{length_each}
use Rattle.format.proofs.Puts.{total_append}
use Rattle.load_vertices.specs.declared.Ends.{Ends}
use Rattle.load_polygons.specs.Promises as body
use Rattle.load_taggings.specs.Promises.{TagsRoom, TagsPut}
use Rattle.load_polygon_chunks.specs.declared.polygons.Latest.{Latest}
use Rattle.load_polygon_chunks.specs.Held.{Held, held_polygons, held_after, with_points, with_names, with_polygons, with_layer, HeldStored, PartRoom, PartPut}
use Rattle.format.proofs.Tagging.{tagged_length}
use Rattle.format.proofs.PolygonTables.{vertices_from}
use Rattle.load_lists.proofs.PointsChunk.{chunk_length}
use Rattle.format.proofs.PartByTag.{makes_surface, Always, always_when, always_if, always_skipped, Made, Holds, polygons_from, tagging_from, holds_points, holds_layer}
use Rattle.load_polygon_chunks.proofs.PolygonsInTables.{same_length, stored_more, stored_tagged, stored_before}

-- ---- chunks that change none of the lists

abbrev Idle : Part → Type 0
Idle part = (h : Held) → held_after h part ≡ h

-- a SURF, or an unlisted tag
idle_rest : (kind : Kind) (t : ℕ) → Always Idle (if t is "SURF" then when true read surface_body kind else (λ body. fine skipped_chunk))
unfolding held_after
idle_rest kind t = always_if Idle (t is "SURF") (λ e. always_when Idle true (λ yes. makes_surface Idle kind (λ s h. refl))) (always_skipped Idle (λ h. refl))

module _ (b : Before) (t : ℕ) (not_points : t is "PNTS" ≡ false) (not_polygons : t is "POLS" ≡ false) where
  pub lwob_rest : t is "SRFS" ≡ false → t is "PCHS" ≡ false → Always Idle (judge LWOB b t)
  unfolding judge
  lwob_rest not_names not_patches = rw (not_points, not_names, not_polygons, not_patches) (idle_rest LWOB t)

  pub lwo2_rest : t is "TAGS" ≡ false → t is "PTAG" ≡ false → t is "LAYR" ≡ false → Always Idle (judge LWO2 b t)
  unfolding judge
  lwo2_rest not_names not_tags not_layer = rw (not_points, not_names, not_polygons, not_tags, not_layer) (idle_rest LWO2 t)

-- ---- one chunk

-- the polygons of the latest POLS, as the code counts them
abbrev latest_count : Latest → ℕ
latest_count l = (l.ends.polygons - l.start) / polygon_size

module _ {kind : Kind} {t : ℕ} {s : List ℕ} {name_count : ℕ} {l : Latest} {words vertices : List ℕ} where
  pub nothing_new : ((b : Before) → Always Idle (judge kind b t)) → PartPut kind t s name_count l words words vertices vertices l
  nothing_new idle = record {
    put = λ r. subst (λ h. HeldStored h l r.words₀ words r.vertices₀ vertices) (sym ((idle r.held.before).each (drop 8 s) r.part r.sound r.held)) r.held_stored;
  }

  -- points
  module _ (e : t is "PNTS" ≡ true) where
    points_in : (r : PartRoom kind t s name_count l words vertices) → Made point_list (points_body kind) (drop 8 s) r.part
    points_in r = (holds_points kind e).each r.held.before (drop 8 s) r.part r.sound

    pub points_fit : PartRoom kind t s name_count l words vertices → l.lists.base + l.lists.points < 2 ^ 32
    unfolding held_after after
    points_fit r = omega (arith, rw (points_in r).part_is at r.few, r.held_stored.base_is, r.held_stored.points_are)

    pub points_put : {l' : Latest} → l' ≡ with_points l ((length s - 8) / 12) → PartPut kind t s name_count l words words vertices vertices l'
    unfolding held_after after added
    points_put same = record {
      put = λ r.
          let p = points_in r in
          let w = r.held_stored in
          let size = rw p.part_is at (chunk_length kind r.held.before t s r.part e r.sound) in
          rw (p.part_is, same)
          (record {
            base_is = omega (arith, w.base_is, w.points_are);
            points_are = omega (arith, size, length_each point_size point_words (λ q. refl) p.of);
            names_are = w.names_are;
            polygons_are = w.polygons_are;
            stored = w.stored;
          });
    }

  -- names
  pub names_put : Holds name_list (λ b. names_body) kind t → {l' : Latest} → l' ≡ with_names l name_count
      → PartPut kind t s name_count l words words vertices vertices l'
  unfolding held_after after
  names_put holds same = record {
    put = λ r.
        let p = holds.each r.held.before (drop 8 s) r.part r.sound in
        let w = r.held_stored in
        let all = rw p.part_is at r.all_names in
        rw (p.part_is, same)
        (record {
          base_is = w.base_is;
          points_are = w.points_are;
          names_are = sym (all (length p.of) refl);
          polygons_are = w.polygons_are;
          stored = w.stored;
        });
  }

  -- polygons, whose body is judged by the latest points and the names so far
  module _ (reader : (points names : ℕ) → Reader Part) (holds : Holds polygons_from (λ b. reader (count b.points) (count b.names)) kind t) where
    polygons_in : (r : PartRoom kind t s name_count l words vertices) → Made polygons_from (reader l.lists.points l.lists.names) (drop 8 s) r.part
    polygons_in r = rw (r.held_stored.points_are, r.held_stored.names_are) (holds.each r.held.before (drop 8 s) r.part r.sound)

    words_fit : (r : PartRoom kind t s name_count l words vertices) → l.ends.polygons + length (polygons_in r).of.0 * polygon_size ≤ length words
    unfolding held_after
    words_fit r =
        let ps = (polygons_in r).of.0 in
        let w = r.held_stored.stored in
        let new = map (from r.held.base) ps in
        let old = length-append r.held.earlier r.held.latest in
        omega (arith, rw (polygons_in r).part_is at r.words_fit, w.start_is, w.end_is, old, length-append (held_polygons r.held) new, length-map ps (from r.held.base))

    vertices_fit : (r : PartRoom kind t s name_count l words vertices) → l.ends.vertices + vertex_total (polygons_in r).of.0 ≤ length vertices
    unfolding held_after
    vertices_fit r =
        let ps = (polygons_in r).of.0 in
        let new = map (from r.held.base) ps in
        let both = total_append (λ (p : Polygon). p.vertices) (held_polygons r.held) new in
        omega (arith, rw (polygons_in r).part_is at r.vertices_fit, r.held_stored.stored.last_is, both, vertices_from r.held.base ps)

    pub polygons_room : PartRoom kind t s name_count l words vertices
        → body.PolygonsRoom (reader l.lists.points l.lists.names) l.lists.points l.lists.base s 8 words l.ends.polygons vertices l.ends.vertices
    unfolding held_after after
    polygons_room r =
        let p = polygons_in r in
        record {
          listed = p.of.0;
          details = p.of.1;
          sound = p.sound;
          words_fit = words_fit r;
          vertices_fit = vertices_fit r;
          small = omega (arith, rw p.part_is at r.few, r.held_stored.base_is, r.held_stored.points_are);
        }

    pub polygons_put : {words' vertices' : List ℕ} {ends : Ends} {l' : Latest}
        → body.PolygonsPut (reader l.lists.points l.lists.names) l.lists.base s 8 words l.ends.polygons words' vertices l.ends.vertices vertices' ends → l' ≡ with_polygons l ends
        → PartPut kind t s name_count l words words' vertices vertices' l'
    unfolding held_after after
    polygons_put {words'} {vertices'} {ends} q same = record {
      put = λ r.
          let p = polygons_in r in
          let ps = p.of.0 in
          let w = r.held_stored in
          let new = subst (λ base. body.PolygonsStored base ps words l.ends.polygons words' vertices l.ends.vertices vertices' ends) w.base_is (q.put ps p.of.1 p.sound) in
          rw (p.part_is, same)
          (record {
            base_is = w.base_is;
            points_are = w.points_are;
            names_are = w.names_are;
            polygons_are = length-map ps (from r.held.base);
            stored = stored_more w.stored ps new (words_fit r) (vertices_fit r);
          });
    }

  -- tags
  module _ (holds : Holds tagging_from (λ b. tagging_body (count b.polygons) (count b.names)) kind t) where
    -- the latest polygons stand from the one index to the other
    latest_count_lem : (r : PartRoom kind t s name_count l words vertices) → (l.ends.polygons - l.start) / polygon_size ≡ length r.held.latest
    latest_count_lem r = omega (arith, r.held_stored.stored.end_is)

    tags_in : (r : PartRoom kind t s name_count l words vertices) → Made tagging_from (tagging_body (length r.held.latest) l.lists.names) (drop 8 s) r.part
    tags_in r = rw (r.held_stored.polygons_are, r.held_stored.names_are) (holds.each r.held.before (drop 8 s) r.part r.sound)

    latest_fits : (r : PartRoom kind t s name_count l words vertices) → l.start + length r.held.latest * polygon_size ≤ length words
    unfolding held_after
    latest_fits r =
        let ts = (tags_in r).of in
        let same = same_length r.held.earlier r.held.latest ts.0 ts.1 in
        omega (arith, rw (tags_in r).part_is at r.words_fit, r.held_stored.stored.start_is, same, length-append r.held.earlier r.held.latest)

    pub tags_room : PartRoom kind t s name_count l words vertices
        → TagsRoom (whole 0 (tagging_body (latest_count l) l.lists.names) 8 (drop 8 s)) (latest_count l) words l.start
    tags_room r = rw (latest_count_lem r) (record { sound = record { value = _; is = (tags_in r).sound }; fits = latest_fits r })

    pub tags_put : {words' : List ℕ} → TagsPut (whole 0 (tagging_body (latest_count l) l.lists.names) 8 (drop 8 s)) (latest_count l) words l.start words'
        → PartPut kind t s name_count l words words' vertices vertices l
    unfolding held_after
    tags_put q = record {
      put = λ r.
          let p = tags_in r in
          let w = r.held_stored in
          rw p.part_is
          (record {
            base_is = w.base_is;
            points_are = w.points_are;
            names_are = w.names_are;
            polygons_are = tagged_length p.of.0 p.of.1 r.held.latest ∙ w.polygons_are;
            stored = stored_tagged w.stored p.of.0 p.of.1 (rw (latest_count_lem r) at q) p.sound (latest_fits r);
          });
    }

-- a layer
module _ {t : ℕ} {s : List ℕ} {name_count : ℕ} {l : Latest} {words vertices : List ℕ} (e : t is "LAYR" ≡ true) where
  layer_in : (r : PartRoom LWO2 t s name_count l words vertices) → r.part ≡ layer
  layer_in r = ((holds_layer e).each r.held.before (drop 8 s) r.part r.sound).part_is

  pub layer_fits : PartRoom LWO2 t s name_count l words vertices → l.lists.base + l.lists.points < 2 ^ 32
  unfolding held_after after
  layer_fits r = omega (arith, rw (layer_in r) at r.few, r.held_stored.base_is, r.held_stored.points_are)

  pub layer_put : {l' : Latest} → l' ≡ with_layer l → PartPut LWO2 t s name_count l words words vertices vertices l'
  unfolding held_after after
  layer_put same = record {
    put = λ r.
        let w = r.held_stored in
        rw (layer_in r, same)
        (record {
          base_is = omega (arith, w.base_is, w.points_are);
          points_are = refl;
          names_are = w.names_are;
          polygons_are = refl;
          stored = stored_before w.stored;
        });
  }
