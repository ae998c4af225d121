-- The whole decision is its tests joined: one that fails decides, and one that passes leaves it to those after it.
use Prim.Native.Nat.{ℕ, ◌*◌, ◌/◌, ◌%◌, ◌≤◌}
use mathlib.Core.Path.{◌≡◌, refl, sym, ap, ◌∙◌}
use mathlib.Core.List.{List, [], ◌∷◌, ◌++◌, map}
use mathlib.Core.Bool.{Bool, true, false, ◌&&◌, and_assoc, and-true, and_comm}
use native.Mathlib.Omega.{arith}
use lib.Dec.{eqb}
use lib.ListN.{length, length-map}
use borrow.Author.Tests.{eqb-true}
use Rattle.format.specs.Bytes.{every, all, sum, finite}
use Rattle.format.specs.Limits.{entry_limit}
use Rattle.format.specs.Mesh.{point_words, point_from, point_size, polygon_size, record_size, surface_from, Tables}
use Rattle.format.specs.Written.{entries, pieces, vertex_counts, mesh_from, whole_entries, good_polygon, good_names, good_surface, good_mesh, is_mesh}
use Rattle.format.proofs.Facts.{every_at}
use Rattle.mesh.specs.Lent.{column, mesh_polygons, mesh_surfaces}
use Rattle.good_mesh.specs.Tests.{whole_tables, counts_agree}
use Rattle.mesh.proofs.AllPass.{passed, failed}
use Rattle.mesh.proofs.MeshFacts.{limits}
use Rattle.mesh.proofs.Entries.{first, length_pieces, length_entries}

-- ---- tables of whole entries

every_append : (xs ys : List Bool) → every (xs ++ ys) ≡ (every xs && every ys)
unfolding every
every_append [] ys = refl
every_append (x ∷ xs) ys = rw (every_append xs ys, and_assoc)

-- the code's tests are joined from the left
pub six : (a b c d e f : Bool) → (a && b && c && d && e && f) ≡ every (a ∷ b ∷ c ∷ d ∷ e ∷ f ∷ [])
unfolding every
six a b c d e f = simp (and_assoc, and-true)

-- entries of one word
pub single : (ws : List ℕ) → column 1 0 ws ≡ ws
unfolding entries pieces
single [] = refl
single (w ∷ ws) = rw (first 1 (w ∷ ws) (omega arith) (omega arith)) (ap (λ (l : List ℕ). w ∷ l) (single ws))

-- the points are finite where all words are
finite_points_lem : (ws : List ℕ) → length ws % point_size ≡ 0 → all (λ p. all finite (point_words p)) (map point_from (entries point_size ws)) ≡ all finite ws
unfolding entries pieces all
finite_points_lem [] whole = refl
finite_points_lem (a ∷ []) whole = absurd (omega arith)
finite_points_lem (a ∷ b ∷ []) whole = absurd (omega arith)
finite_points_lem (a ∷ b ∷ c ∷ ws) whole =
    rw (first point_size (a ∷ b ∷ c ∷ ws) (omega arith) (omega arith), finite_points_lem ws (omega arith)) (simp (and_assoc, and-true))

-- ---- the counts, where they agree

module _ (polygons vertices names name_bytes records : List ℕ) {b : Bool} (is : b ≡ counts_agree polygons vertices names name_bytes records) (pass : b ≡ true) where
  pub vertices_agree : sum (vertex_counts polygons) ≡ length vertices
  unfolding counts_agree
  vertices_agree = eqb-true _ _ (every_at _ 0 (passed is pass))

  pub bytes_agree : sum names ≡ length name_bytes
  unfolding counts_agree
  bytes_agree = eqb-true _ _ (every_at _ 1 (passed is pass))

-- ---- the order of the tests

ordered : (vertices bytes counts points polygons names surfaces : Bool)
    → (vertices && (bytes && ((counts && (points && (polygons && (names && (surfaces && true))))) && true)))
    ≡ ((vertices && (bytes && (counts && true))) && (points && (polygons && (surfaces && names))))
ordered vertices bytes counts points polygons names surfaces = simp (and_assoc, and-true) (rw (and_comm names surfaces))

module _ (t : Tables) where
  -- ---- the limits, where the tables are whole

  module _ (ok : whole_tables t ≡ true) where
    whole_points : length t.points % point_size ≡ 0
    unfolding whole_tables
    whole_points = (limits point_size t.points (every_at _ 0 ok)).0

    pub few_polygons : length t.polygons ≤ polygon_size * entry_limit
    unfolding whole_tables
    few_polygons = omega (arith, limits polygon_size t.polygons (every_at _ 1 ok))

    pub few_names : length t.names ≤ entry_limit
    unfolding whole_tables
    few_names = omega (arith, limits 1 t.names (every_at _ 3 ok))

  -- ---- the decision

  abbrev agreeing : Bool
  agreeing = counts_agree t.polygons t.vertices t.names t.name_bytes t.records

  abbrev finite_points : Bool
  finite_points = all finite t.points

  abbrev good_polygons : Bool
  good_polygons = all (good_polygon (length t.points / point_size) (length t.names)) (mesh_polygons t.polygons t.vertices)

  abbrev good_records : Bool
  good_records = all good_surface (mesh_surfaces t.records)

  abbrev names_pass : Bool
  names_pass = good_names [] (pieces t.names t.name_bytes)

  split : is_mesh t ≡ (whole_tables t && every (eqb (sum (vertex_counts t.polygons)) (length t.vertices) ∷ eqb (sum t.names) (length t.name_bytes) ∷ good_mesh (mesh_from t) ∷ []))
  unfolding is_mesh whole_tables
  split = every_append (whole_entries point_size t.points ∷ whole_entries polygon_size t.polygons ∷ whole_entries 1 t.vertices ∷ whole_entries 1 t.names ∷ whole_entries 1 t.name_bytes ∷ whole_entries record_size t.records ∷ []) _

  decided : whole_tables t ≡ true → is_mesh t ≡ (agreeing && (finite_points && (good_polygons && (good_records && names_pass))))
  unfolding counts_agree good_mesh mesh_from mesh_polygons mesh_surfaces every
  decided ok =
      split
      ∙ rw (ok, length-map (entries point_size t.points) point_from, length-map (entries record_size t.records) surface_from, length_entries point_size t.points, length_entries record_size t.records, length_pieces t.names t.name_bytes, finite_points_lem t.points (whole_points ok))
      (ordered
      (eqb (sum (vertex_counts t.polygons)) (length t.vertices))
      (eqb (sum t.names) (length t.name_bytes))
      (eqb (length t.records / record_size) (length t.names))
      finite_points
      good_polygons
      names_pass
      good_records)

  -- ---- the code's answers, one after the other: a test that failed decides, and one that passed leaves it to the later ones

  module _ (x rest : Bool) {b : Bool} (so : is_mesh t ≡ (x && rest)) (is : b ≡ x) where
    refused : b ≡ false → false ≡ is_mesh t
    refused no_pass = sym (so ∙ rw (failed is no_pass))

    onward : b ≡ true → is_mesh t ≡ rest
    onward pass = so ∙ rw (passed is pass)

  module _ {b₁ : Bool} (is₁ : b₁ ≡ whole_tables t) where
    pub not_whole : b₁ ≡ false → false ≡ is_mesh t
    not_whole = refused (whole_tables t) _ split is₁

    module _ (pass₁ : b₁ ≡ true) {b₂ : Bool} (is₂ : b₂ ≡ agreeing) where
      pub not_agreeing : b₂ ≡ false → false ≡ is_mesh t
      not_agreeing = refused agreeing _ (decided (passed is₁ pass₁)) is₂

      module _ (pass₂ : b₂ ≡ true) {b₃ : Bool} (is₃ : b₃ ≡ finite_points) where
        so₃ : is_mesh t ≡ (finite_points && (good_polygons && (good_records && names_pass)))
        so₃ = onward agreeing _ (decided (passed is₁ pass₁)) is₂ pass₂

        pub not_finite : b₃ ≡ false → false ≡ is_mesh t
        not_finite = refused finite_points _ so₃ is₃

        module _ (pass₃ : b₃ ≡ true) {b₄ : Bool} (is₄ : b₄ ≡ good_polygons) where
          so₄ : is_mesh t ≡ (good_polygons && (good_records && names_pass))
          so₄ = onward finite_points _ so₃ is₃ pass₃

          pub bad_polygon : b₄ ≡ false → false ≡ is_mesh t
          bad_polygon = refused good_polygons _ so₄ is₄

          module _ (pass₄ : b₄ ≡ true) {b₅ : Bool} (is₅ : b₅ ≡ good_records) where
            so₅ : is_mesh t ≡ (good_records && names_pass)
            so₅ = onward good_polygons _ so₄ is₄ pass₄

            pub bad_record : b₅ ≡ false → false ≡ is_mesh t
            bad_record = refused good_records _ so₅ is₅

            pub by_names : b₅ ≡ true → {b : Bool} → b ≡ names_pass → b ≡ is_mesh t
            by_names pass₅ is = is ∙ sym (onward good_records _ so₅ is₅ pass₅)
