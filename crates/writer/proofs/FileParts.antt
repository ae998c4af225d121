-- The file of tables that are a mesh is its parts joined; points have the bytes of their words, and vertices have 24 bits.
use Prim.Native.Nat.{ℕ, ◌+◌, ◌-◌, ◌/◌, ◌%◌, ◌≤◌, ◌^◌}
use mathlib.Core.Path.{◌≡◌, refl, sym, ap, ◌∙◌}
use mathlib.Core.List.{List, [], ◌∷◌, ◌++◌, map, append-nil}
use mathlib.Core.Bool.{true}
use native.Mathlib.Omega.{arith}
use lib.Dec.{ltb}
use lib.ListN.{length, length-map, length-append}
use borrow.Author.Tests.{ltb-true, lt-ltb}
use Rattle.format.specs.Bytes.{number, tag_number, all, joined}
use Rattle.format.specs.Mesh.{Point, point_size, point_from, Tables}
use Rattle.format.specs.Canonical.{bytes, string_bytes, point_bytes, runs, unless_empty, run_chunks, surface_chunks, canonical_chunks, form_bytes, encoded, canonical}
use Rattle.format.specs.Written.{pieces, entries, mesh_from, is_mesh}
use Rattle.format.proofs.Puts.{joined_map_append}
use Rattle.format.proofs.Facts.{all_first, all_rest}
use Rattle.format.proofs.CanonicalLengths.{length_bytes, length_form}
use Rattle.mesh.specs.Lent.{mesh_polygons, mesh_surfaces}
use Rattle.mesh.proofs.Entries.{first, length_entries}
use Rattle.mesh.proofs.MeshFacts.{MeshFacts, mesh_facts}
use Rattle.output.specs.Outputs.{chunks_bytes, head_bytes}

-- ---- points, whose bytes are those of their words

words_bytes : (ws : List ℕ) → length ws % point_size ≡ 0 → joined (map point_bytes (map point_from (entries point_size ws))) ≡ joined (map (bytes 4) ws)
unfolding entries pieces joined
words_bytes [] whole = refl
words_bytes (a ∷ []) whole = absurd (omega arith)
words_bytes (a ∷ b ∷ []) whole = absurd (omega arith)
words_bytes (a ∷ b ∷ c ∷ ws) whole =
    let one = first point_size (a ∷ b ∷ c ∷ ws) (omega arith) (omega arith) in
    rw (one, words_bytes ws (omega arith)) (sym (joined_map_append (bytes 4) (a ∷ b ∷ c ∷ []) ws))

nothing_of : (w : ℕ) (ws : List ℕ) → [] ≡ joined (map (bytes 4) (w ∷ ws)) → ⊥
unfolding joined
nothing_of w ws none = omega (arith, ap length none, length-append (bytes 4 w) (joined (map (bytes 4) ws)), length_bytes 4 w)

points_chunk : (ws : List ℕ) → length ws % point_size ≡ 0
    → chunks_bytes (unless_empty "PNTS" "" point_bytes (map point_from (entries point_size ws))) ≡ chunks_bytes (unless_empty "PNTS" "" (bytes 4) ws)
unfolding unless_empty joined
points_chunk ws whole = go ws (map point_from (entries point_size ws)) (length-map (entries point_size ws) point_from ∙ length_entries point_size ws) (words_bytes ws whole)
  where
    go : (ws : List ℕ) (ps : List Point) → length ps ≡ length ws / point_size → joined (map point_bytes ps) ≡ joined (map (bytes 4) ws)
        → chunks_bytes (unless_empty "PNTS" "" point_bytes ps) ≡ chunks_bytes (unless_empty "PNTS" "" (bytes 4) ws)
    go [] [] count same = refl
    go [] (p ∷ ps) count same = absurd (omega arith)
    go (w ∷ ws) [] count same = absurd (nothing_of w ws same)
    go (w ∷ ws) (p ∷ ps) count same = ap (λ (l : List ℕ). chunks_bytes (("PNTS", l) ∷ [])) same

-- ---- vertices, which are numbers of points

all_below : (k most : ℕ) → k ≤ most → (vs : List ℕ) → all (λ v. ltb v k) vs ≡ true → all (λ v. ltb v most) vs ≡ true
unfolding all
all_below k most less [] ok = refl
all_below k most less (v ∷ vs) ok =
    rw (lt-ltb v most (omega (arith, ltb-true v k (all_first (λ v. ltb v k) v vs ok)))) (all_below k most less vs (all_rest (λ v. ltb v k) v vs ok))

-- ---- the file

module _ (t : Tables) where
  abbrev tags : List ℕ
  tags = chunks_bytes (unless_empty "TAGS" "" string_bytes (pieces t.names t.name_bytes))

  abbrev coordinates : List ℕ
  coordinates = chunks_bytes (unless_empty "PNTS" "" (bytes 4) t.points)

  abbrev all_runs : List ℕ
  all_runs = chunks_bytes (joined (map run_chunks (runs (mesh_polygons t.polygons t.vertices))))

  abbrev surfaces : List ℕ
  surfaces = chunks_bytes (surface_chunks (pieces t.names t.name_bytes) (mesh_surfaces t.records))

  -- a file of n bytes
  abbrev pub file_parts : (n : ℕ) → List (List ℕ)
  file_parts n = head_bytes 4 (tag_number "FORM") (n - 8) ∷ bytes 4 (tag_number "LWO2") ∷ tags ∷ coordinates ∷ all_runs ∷ surfaces ∷ []

  abbrev all_chunks : List ℕ
  all_chunks = chunks_bytes (canonical_chunks (mesh_from t))

  pub head_long : {n : ℕ} → n ≡ length (canonical (mesh_from t)) → 12 ≤ n
  unfolding canonical
  head_long long = omega (arith, long, length_form "LWO2" all_chunks refl)

  module _ (ok : is_mesh t ≡ true) where
    pub facts : MeshFacts t.points t.polygons t.vertices t.names t.name_bytes t.records
    facts = mesh_facts t.points t.polygons t.vertices t.names t.name_bytes t.records ok

    pub small_vertices : all (λ v. ltb v (2 ^ 24)) t.vertices ≡ true
    small_vertices = all_below (length t.points / point_size) (2 ^ 24) (omega (arith, facts.few_points)) t.vertices facts.vertices_below

    same_points : chunks_bytes (unless_empty "PNTS" "" point_bytes (mesh_from t).points) ≡ coordinates
    unfolding mesh_from
    same_points = points_chunk t.points facts.whole_points

    chunks_are : all_chunks ≡ tags ++ (coordinates ++ (all_runs ++ surfaces))
    unfolding canonical_chunks mesh_from mesh_polygons mesh_surfaces
    chunks_are =
        let m = mesh_from t in
        let a = unless_empty "TAGS" "" string_bytes m.names in
        let b = unless_empty "PNTS" "" point_bytes m.points in
        let c = joined (map run_chunks (runs m.polygons)) in
        let d = surface_chunks m.names m.surfaces in
        joined_map_append encoded a (b ++ (c ++ d)) ∙ rw (joined_map_append encoded b (c ++ d), joined_map_append encoded c d, same_points)

    pub file_is : {n : ℕ} → n ≡ length (canonical (mesh_from t)) → canonical (mesh_from t) ≡ joined (file_parts n)
    unfolding canonical form_bytes bytes joined number
    file_is {n} long =
        let rest : 4 + length all_chunks ≡ n - 8 = omega (arith, long, length_form "LWO2" all_chunks refl) in
        rw (rest, chunks_are, append-nil surfaces)
