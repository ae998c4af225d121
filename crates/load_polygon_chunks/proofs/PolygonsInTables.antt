-- Polygons that stand at the front of the tables: more of them are put behind, and tags over the latest change no vertices and no lengths.
use mathlib.Core.Path.{◌≡◌, refl, sym, ap, subst, ◌∙◌}
use mathlib.Core.List.{List, [], ◌++◌, map, append-nil}
use Prim.Native.Nat.{ℕ, ◌+◌, ◌*◌, ◌≤◌}
use native.Mathlib.Omega.{arith}
use lib.ListN.{length, length-append, length-map}
use Rattle.format.specs.Bytes.{joined}
use Rattle.format.specs.Items.{Verdict, fine}
use Rattle.format.specs.Mesh.{Polygon, polygon_words, polygon_size}
use Rattle.format.specs.Bodies.{Part, tagging}
use Rattle.format.specs.Rules.{from, tagged}
use Rattle.format.specs.Promises.{Put, polygons_words, polygons_vertices, vertex_total}
use Rattle.format.proofs.Puts.{joined_map_append, total_append, put_none, put_length, put_append}
use Rattle.load_vertices.specs.declared.Ends.{Ends}
use Rattle.load_polygons.specs.Promises.{PolygonsStored}
use Rattle.load_taggings.specs.Promises.{TagsPut}
use Rattle.load_polygon_chunks.specs.Held.{AllStored}
use Rattle.format.proofs.Tagging.{tagged_vertices, tagged_length}
use Rattle.format.proofs.PolygonTables.{words_length, words_from, vertices_from}
use Rattle.load_taggings.proofs.SplitPut.{tags_behind}

-- tags change no vertices, and no lengths
module _ (earlier latest : List Polygon) (type : ℕ) (ts : List (ℕ × ℕ)) where
  pub same_vertices : polygons_vertices (earlier ++ tagged latest type ts) ≡ polygons_vertices (earlier ++ latest)
  same_vertices =
      joined_map_append (λ p. p.vertices) earlier (tagged latest type ts)
      ∙ ap (λ vs. polygons_vertices earlier ++ joined vs) (tagged_vertices type ts latest)
      ∙ sym (joined_map_append (λ p. p.vertices) earlier latest)

  pub same_length : length (earlier ++ tagged latest type ts) ≡ length (earlier ++ latest)
  same_length = length-append earlier (tagged latest type ts) ∙ ap (λ n. length earlier + n) (tagged_length type ts latest) ∙ sym (length-append earlier latest)

-- ---- in the tables

-- what some entries are is put behind what others are
put_behind : {A : Type 0} (f : A → List ℕ) (xs ys : List A) {t t' t'' : List ℕ} {k : ℕ} → Put t 0 (joined (map f xs)) t' → k ≡ length (joined (map f xs))
    → Put t' k (joined (map f ys)) t'' → k + length (joined (map f ys)) ≤ length t → Put t 0 (joined (map f (xs ++ ys))) t''
put_behind f xs ys {t} {t'} {t''} {k} p here q room =
    let behind : k ≡ 0 + length (joined (map f xs)) = omega (arith, here) in
    rw (joined_map_append f xs ys) (put_append p (subst (λ k. Put t' k (joined (map f ys)) t'') behind q) (omega (arith, here, room)))

pub stored_none : (words vertices : List ℕ) → AllStored [] [] 0 0 0 words words vertices vertices
unfolding joined
stored_none words vertices = record {
  start_is = refl;
  end_is = refl;
  last_is = refl;
  put_words = put_none words 0;
  put_vertices = put_none vertices 0;
  kept_words = refl;
  kept_vertices = refl;
}

module _ {earlier latest : List Polygon} {start end last : ℕ} {words₀ words vertices₀ vertices : List ℕ} (w : AllStored earlier latest start end last words₀ words vertices₀ vertices) where
  -- the next ones start after all of these
  all_before : end ≡ length (earlier ++ latest) * polygon_size
  all_before = omega (arith, w.start_is, w.end_is, length-append earlier latest)

  -- all of these are earlier ones, and there are no latest yet
  pub stored_before : AllStored (earlier ++ latest) [] end end last words₀ words vertices₀ vertices
  stored_before =
      let same = append-nil (earlier ++ latest) in
      record {
        start_is = all_before;
        end_is = omega arith;
        last_is = rw same w.last_is;
        put_words = rw same w.put_words;
        put_vertices = rw same w.put_vertices;
        kept_words = w.kept_words;
        kept_vertices = w.kept_vertices;
      }

  pub stored_more : {base : ℕ} (ps : List Polygon) {words' vertices' : List ℕ} {ends : Ends}
      → PolygonsStored base ps words end words' vertices last vertices' ends
      → end + length ps * polygon_size ≤ length words → last + vertex_total ps ≤ length vertices
      → AllStored (earlier ++ latest) (map (from base) ps) end ends.polygons ends.vertices words₀ words' vertices₀ vertices'
  stored_more {base} ps {words'} {vertices'} q words_fit vertices_fit =
      let new = map (from base) ps in
      let many : length new ≡ length ps = length-map ps (from base) in
      let total : length (polygons_vertices new) ≡ vertex_total ps = vertices_from base ps in
      let long : length (polygons_words new) ≡ length ps * polygon_size = words_from base ps in
      let words_here : end ≡ length (polygons_words (earlier ++ latest)) = omega (arith, all_before, words_length (earlier ++ latest)) in
      record {
        start_is = all_before;
        end_is = omega (arith, q.words_end, many);
        last_is = omega (arith, q.vertices_end, w.last_is, total, total_append (λ (p : Polygon). p.vertices) (earlier ++ latest) new);
        put_words = put_behind polygon_words (earlier ++ latest) new w.put_words words_here q.put_words (omega (arith, words_fit, long, w.kept_words));
        put_vertices =
            put_behind (λ p. p.vertices) (earlier ++ latest) new w.put_vertices w.last_is q.put_vertices (omega (arith, vertices_fit, total, w.kept_vertices));
        kept_words = put_length q.put_words (omega (arith, words_fit, long)) ∙ w.kept_words;
        kept_vertices = put_length q.put_vertices (omega (arith, vertices_fit, total)) ∙ w.kept_vertices;
      }

  pub stored_tagged : (type : ℕ) (ts : List (ℕ × ℕ)) {v : Verdict Part} {words' : List ℕ} → TagsPut v (length latest) words start words'
      → v ≡ fine (tagging type ts) → start + length latest * polygon_size ≤ length words
      → AllStored earlier (tagged latest type ts) start end last words₀ words' vertices₀ vertices
  stored_tagged type ts {v} {words'} q e fits =
      let here : start ≡ 0 + length earlier * polygon_size = omega (arith, w.start_is) in
      let long : length (polygons_words (earlier ++ latest)) ≡ (length earlier + length latest) * polygon_size = words_length (earlier ++ latest) ∙ ap (λ n. n * polygon_size) (length-append earlier latest) in
      let room : 0 + length (polygons_words (earlier ++ latest)) ≤ length words₀ = omega (arith, long, here, fits, w.kept_words) in
      let put = tags_behind earlier latest type ts w.put_words room (subst (λ k. TagsPut v (length latest) words k words') here q) e in
      record {
        start_is = w.start_is;
        end_is = omega (arith, w.end_is, tagged_length type ts latest);
        last_is = rw (same_vertices earlier latest type ts) w.last_is;
        put_words = put;
        put_vertices = rw (same_vertices earlier latest type ts) w.put_vertices;
        kept_words = put_length put (omega (arith, room, words_length (earlier ++ latest), words_length (earlier ++ tagged latest type ts), same_length earlier latest type ts));
        kept_vertices = w.kept_vertices;
      }
