-- Tables and meshes: tables that are a mesh are the tables of that mesh, and every mesh is the mesh of its tables.
use Prim.Native.Nat.{ℕ, zero, suc, ◌*◌, ◌/◌, ◌%◌, ◌≤◌, ◌<◌}
use mathlib.Core.Path.{◌≡◌, refl, sym, ap, ◌∙◌}
use mathlib.Core.List.{List, [], ◌∷◌, map, map-map, map-id}
use mathlib.Core.Bool.{true, and-eq-true_iff}
use native.Mathlib.Omega.{arith}
use native.Mathlib.Nat.{div-add-mod', mul-div_cancel, mul-mod_left}
use lib.Dec.{leb, eqb}
use lib.ListN.{length, drop, replicate, length-drop, take-append-drop, length-map}
use lib.Seq.{take_all, length-take-le}
use borrow.Author.Tests.{le-leb, eq-eqb, eqb-true}
use Rattle.format.specs.Bytes.{every, sum, joined}
use Rattle.format.specs.Limits.{file_limit, entry_limit}
use Rattle.format.specs.Mesh.{point_words, point_from, point_size, Polygon, polygon_words, polygon_size, surface_words, surface_from, record_size, word, Mesh, Tables, tables}
use Rattle.format.specs.Canonical.{canonical}
use Rattle.format.specs.Written.{pieces, entries, polygons_from, vertex_counts, mesh_from, whole_entries, good_mesh, is_mesh}
use Rattle.format.proofs.Facts.{every_at, length_each, length_joined}
use Rattle.format.proofs.Indexed.{no_elements, elements, elements_are, pieces_lengths, pieces_joined}
use Rattle.laws.proofs.Meshes.{good}
use Rattle.laws.proofs.Lengths.{Counts, counts}

-- ---- pieces

joined_pieces : {A : Type 0} (ns : List ℕ) (xs : List A) → sum ns ≡ length xs → joined (pieces ns xs) ≡ xs
unfolding pieces sum joined
joined_pieces [] xs e = sym (no_elements xs e)
joined_pieces (n ∷ ns) xs e = rw (joined_pieces ns (drop n xs) (omega (arith, length-drop n xs))) (take-append-drop n xs)

-- ---- entries of n words

sum_replicate : (k n : ℕ) → sum (replicate k n) ≡ k * n
unfolding sum
sum_replicate zero n = omega arith
sum_replicate (suc k) n = omega (arith, sum_replicate k n)

-- lists that are all n long
data Even (n : ℕ) : List (List ℕ) → Type 0 where
  no_more : Even n []
  one_more : {e : List ℕ} {es : List (List ℕ)} → length e ≡ n → Even n es → Even n (e ∷ es)

even_pieces : (k n : ℕ) (ws : List ℕ) → k * n ≤ length ws → Even n (pieces (replicate k n) ws)
unfolding pieces
even_pieces zero n ws fits = no_more
even_pieces (suc k) n ws fits = one_more (length-take-le n ws (omega arith)) (even_pieces k n (drop n ws) (omega (arith, length-drop n ws)))

record Whole (n : ℕ) (ws : List ℕ) : Type 0 where
  even : Even n (entries n ws)
  back : joined (entries n ws) ≡ ws

whole : (n : ℕ) (ws : List ℕ) → whole_entries n ws ≡ true → Whole n ws
unfolding whole_entries entries
whole n ws ok =
    let k : ℕ = length ws / n in
    let no_part : length ws % n ≡ 0 = eqb-true _ _ ((and-eq-true_iff (eqb (length ws % n) 0) (leb k entry_limit)).0 ok).0 in
    let exact : k * n ≡ length ws = omega (arith, div-add-mod' (length ws) n) in
    record { even = even_pieces k n ws (omega arith); back = joined_pieces (replicate k n) ws (sum_replicate k n ∙ exact) }

even_map : {A : Type 0} (n : ℕ) (words : A → List ℕ) (from : List ℕ → A) → ((e : List ℕ) → length e ≡ n → words (from e) ≡ e)
    → {es : List (List ℕ)} → Even n es → map words (map from es) ≡ es
even_map n words from back no_more = refl
even_map n words from back (one_more {e = e} long even) = rw (back e long, even_map n words from back even)

-- whole entries are the words of what they are taken as
entries_back : {A : Type 0} (n : ℕ) (words : A → List ℕ) (from : List ℕ → A) → ((e : List ℕ) → length e ≡ n → words (from e) ≡ e)
    → (ws : List ℕ) → whole_entries n ws ≡ true → joined (map words (map from (entries n ws))) ≡ ws
entries_back n words from back ws ok = let w = whole n ws ok in ap joined (even_map n words from back w.even) ∙ w.back

-- an entry is its words, one by one
each_word : (n : ℕ) (e : List ℕ) → length e ≡ n → elements 0 n e ≡ e
each_word n e long = elements_are 0 n e (omega arith) ∙ take_all n e (omega arith)

point_words_lem : (e : List ℕ) → length e ≡ point_size → point_words (point_from e) ≡ e
unfolding elements
point_words_lem e long = each_word point_size e long

surface_words_lem : (e : List ℕ) → length e ≡ record_size → surface_words (surface_from e) ≡ e
unfolding elements
surface_words_lem e long = each_word record_size e long

-- ---- polygons

entry_words : (e : List ℕ) → length e ≡ polygon_size → word 0 e ∷ word 1 e ∷ word 2 e ∷ word 3 e ∷ [] ≡ e
unfolding elements
entry_words e long = each_word polygon_size e long

polygon_words_lem : {es : List (List ℕ)} → Even polygon_size es → (vs : List ℕ) → sum (map (word 1) es) ≡ length vs
    → map polygon_words (polygons_from es (pieces (map (word 1) es) vs)) ≡ es
unfolding polygons_from pieces sum
polygon_words_lem no_more vs agree = refl
polygon_words_lem (one_more {e = e} {es = es} long even) vs agree =
    rw (length-take-le (word 1 e) vs (omega arith), entry_words e long, polygon_words_lem even (drop (word 1 e) vs) (omega (arith, length-drop (word 1 e) vs)))

polygon_vertices : (es vs : List (List ℕ)) → length es ≡ length vs → map (λ p. p.vertices) (polygons_from es vs) ≡ vs
unfolding polygons_from
polygon_vertices [] [] same = refl
polygon_vertices [] (v ∷ vs) same = absurd (omega arith)
polygon_vertices (e ∷ es) [] same = absurd (omega arith)
polygon_vertices (e ∷ es) (v ∷ vs) same = ap (λ (l : List (List ℕ)). v ∷ l) (polygon_vertices es vs (omega arith))

-- ---- tables that are a mesh

pub good_tables : (t : Tables) → is_mesh t ≡ true → good_mesh (mesh_from t) ≡ true
unfolding is_mesh
good_tables t ok = every_at _ 8 ok

pub tables_back : (t : Tables) → is_mesh t ≡ true → tables (mesh_from t) ≡ t
unfolding tables mesh_from is_mesh
tables_back t ok = λ i. record {
  points = entries_back point_size point_words point_from point_words_lem t.points (every_at _ 0 ok) i;
  polygons = polygons_same i;
  vertices = vertices_same i;
  names = pieces_lengths t.names t.name_bytes bytes_agree i;
  name_bytes = joined_pieces t.names t.name_bytes bytes_agree i;
  records = entries_back record_size surface_words surface_from surface_words_lem t.records (every_at _ 5 ok) i;
}
  where
    ns : List ℕ
    ns = vertex_counts t.polygons

    es : List (List ℕ)
    es = entries polygon_size t.polygons

    bytes_agree : sum t.names ≡ length t.name_bytes
    bytes_agree = eqb-true _ _ (every_at _ 7 ok)

    vertices_agree : sum ns ≡ length t.vertices
    vertices_agree = eqb-true _ _ (every_at _ 6 ok)

    polygons_same : joined (map polygon_words (polygons_from es (pieces ns t.vertices))) ≡ t.polygons
    polygons_same = let w = whole polygon_size t.polygons (every_at _ 1 ok) in ap joined (polygon_words_lem w.even t.vertices vertices_agree) ∙ w.back

    vertices_same : joined (map (λ p. p.vertices) (polygons_from es (pieces ns t.vertices))) ≡ t.vertices
    vertices_same =
        let vs : List (List ℕ) = pieces ns t.vertices in
        ap joined (polygon_vertices es vs (omega (arith, length-map vs length, ap length (pieces_lengths ns t.vertices vertices_agree), length-map es (word 1))))
        ∙ joined_pieces ns t.vertices vertices_agree

-- ---- the tables of a mesh

same_lengths : {A : Type 0} (n : ℕ) (words : A → List ℕ) → ((x : A) → length (words x) ≡ n) → (xs : List A)
    → replicate (length xs) n ≡ map length (map words xs)
same_lengths n words long [] = refl
same_lengths n words long (x ∷ xs) = rw (long x, same_lengths n words long xs)

module _ {A : Type 0} (n : ℕ) (words : A → List ℕ) (some : 0 < n) (long : (x : A) → length (words x) ≡ n) (xs : List A) where
  many : length (joined (map words xs)) / n ≡ length xs
  many = rw (length_each n words long xs) (mul-div_cancel (length xs) some)

  entries_of : entries n (joined (map words xs)) ≡ map words xs
  unfolding entries
  entries_of = rw (many, same_lengths n words long xs) (pieces_joined (map words xs))

  whole_of : length xs ≤ entry_limit → whole_entries n (joined (map words xs)) ≡ true
  unfolding whole_entries
  whole_of few =
      rw (many, le-leb (length xs) entry_limit few, length_each n words long xs, mul-mod_left (length xs) n)

whole_words : (ws : List ℕ) → length ws ≤ entry_limit → whole_entries 1 ws ≡ true
unfolding whole_entries
whole_words ws few = rw (eq-eqb (length ws % 1) 0 (omega arith), le-leb (length ws / 1) entry_limit (omega arith))

polygons_from_lem : (ps : List Polygon) → polygons_from (map polygon_words ps) (map (λ p. p.vertices) ps) ≡ ps
unfolding polygons_from
polygons_from_lem [] = refl
polygons_from_lem (p ∷ ps) = ap (λ (l : List Polygon). p ∷ l) (polygons_from_lem ps)

counts_from : (ps : List Polygon) → vertex_counts (joined (map polygon_words ps)) ≡ map length (map (λ p. p.vertices) ps)
counts_from ps =
    rw (entries_of polygon_size polygon_words (omega arith) (λ p. refl) ps, map-map (word 1) polygon_words ps, map-map {C = ℕ} length (λ (p : Polygon). p.vertices) ps)

-- every mesh is the mesh of its tables
pub mesh_from_tables : (m : Mesh) → mesh_from (tables m) ≡ m
unfolding tables mesh_from
mesh_from_tables m = λ i. record {
  points = points_same i;
  polygons = polygons_same i;
  names = pieces_joined m.names i;
  surfaces = surfaces_same i;
}
  where
    points_same : map point_from (entries point_size (joined (map point_words m.points))) ≡ m.points
    points_same = rw (entries_of point_size point_words (omega arith) (λ p. refl) m.points, map-map point_from point_words m.points) (map-id m.points)

    surfaces_same : map surface_from (entries record_size (joined (map surface_words m.surfaces))) ≡ m.surfaces
    surfaces_same = rw (entries_of record_size surface_words (omega arith) (λ s. refl) m.surfaces, map-map surface_from surface_words m.surfaces) (map-id m.surfaces)

    polygons_same : polygons_from (entries polygon_size (joined (map polygon_words m.polygons))) (pieces (vertex_counts (joined (map polygon_words m.polygons))) (joined (map (λ p. p.vertices) m.polygons))) ≡ m.polygons
    polygons_same =
        rw (counts_from m.polygons, pieces_joined (map (λ p. p.vertices) m.polygons), entries_of polygon_size polygon_words (omega arith) (λ p. refl) m.polygons) (polygons_from_lem m.polygons)

-- and the tables of a good mesh whose counts are within the limit are a mesh
pub good_mesh_tables : (m : Mesh) → good_mesh m ≡ true → Counts m entry_limit → is_mesh (tables m) ≡ true
unfolding is_mesh tables every
good_mesh_tables m ok c =
    let vs : List (List ℕ) = map (λ p. p.vertices) m.polygons in
    let names : length (map length m.names) ≤ entry_limit = omega (arith, length-map m.names length, c.names) in
    let records : length m.surfaces ≤ entry_limit = omega (arith, c.names, (good m ok).counts) in
    rw (whole_of point_size point_words (omega arith) (λ p. refl) m.points c.points, whole_of polygon_size polygon_words (omega arith) (λ p. refl) m.polygons c.polygons)
    (rw (whole_words (joined vs) c.vertices, whole_words (map length m.names) names, whole_words (joined m.names) c.name_bytes)
    (rw (whole_of record_size surface_words (omega arith) (λ s. refl) m.surfaces records, counts_from m.polygons, eq-eqb _ _ (length_joined vs))
    (rw (eq-eqb _ _ (length_joined m.names), mesh_from_tables m, ok))))

-- so are those of one whose canonical file is
pub tables_of_mesh : (m : Mesh) → good_mesh m ≡ true → length (canonical m) ≤ file_limit → is_mesh (tables m) ≡ true
tables_of_mesh m ok short = good_mesh_tables m ok (counts m entry_limit short)
