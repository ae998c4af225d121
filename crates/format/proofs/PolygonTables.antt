-- How many words and vertices some polygons have in the tables: so many for each, whatever their points are numbered from.
use Prim.Native.Nat.{ℕ, ◌*◌}
use mathlib.Core.Path.{◌≡◌, refl, sym, ap, ◌∙◌}
use mathlib.Core.List.{List, map}
use lib.ListN.{length, length-map}
use Rattle.format.specs.Mesh.{Polygon, polygon_words, polygon_size}
use Rattle.format.specs.Rules.{from}
use Rattle.format.specs.Promises.{polygons_words, polygons_vertices, vertex_total}
use Rattle.format.proofs.Facts.{length_each, length_joined_map}
use Rattle.format.proofs.Tagging.{from_counts}

pub words_length : (ps : List Polygon) → length (polygons_words ps) ≡ length ps * polygon_size
words_length ps = length_each polygon_size polygon_words (λ p. refl) ps

pub vertices_length : (ps : List Polygon) → length (polygons_vertices ps) ≡ vertex_total ps
vertices_length ps = sym (length_joined_map (λ p. p.vertices) ps)

-- ---- with point numbers that count from the file's first point

pub words_from : (base : ℕ) (ps : List Polygon) → length (polygons_words (map (from base) ps)) ≡ length ps * polygon_size
words_from base ps = words_length (map (from base) ps) ∙ ap (λ n. n * polygon_size) (length-map ps (from base))

pub vertices_from : (base : ℕ) (ps : List Polygon) → length (polygons_vertices (map (from base) ps)) ≡ vertex_total ps
vertices_from base ps = vertices_length (map (from base) ps) ∙ from_counts base ps
