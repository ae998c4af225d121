-- How long a canonical file is at least: it has a byte for each name, byte of a name, polygon and vertex, and twelve for each point. So a file within the
-- limit bounds every count of its mesh.
use Prim.Native.Nat.{ℕ, ◌+◌, ◌*◌, ◌%◌, ◌≤◌}
use Prim.Native.String.{String}
use mathlib.Core.Path.{refl, ap}
use mathlib.Core.List.{List, [], ◌∷◌, ◌++◌, map, append-nil}
use native.Mathlib.Omega.{arith}
use lib.ListN.{length, replicate, length-append}
use Rattle.format.specs.Bytes.{spelt, joined}
use Rattle.format.specs.Mesh.{Polygon, Name, Mesh}
use Rattle.format.specs.Canonical.{bytes, vx_bytes, string_bytes, chunk_bytes, point_bytes, polygon_bytes, type_of, runs, unless_empty, tagging_chunk, run_chunks, surface_chunks, canonical_chunks, encoded, canonical}
use Rattle.format.specs.Promises.{total}
use Rattle.format.proofs.Puts.{total_append}
use Rattle.format.proofs.Facts.{length_each}
use Rattle.format.proofs.CanonicalLengths.{length_bytes, length_point, length_vx, length_form}
use Rattle.laws.proofs.Bodies.{string_longer}
use Rattle.laws.proofs.Polygons.{joined_runs}

-- a chunk is no shorter than what it holds
total_unless : {A : Type 0} (tag type : String) (bytes_of : A → List ℕ) (xs : List A) → total bytes_of xs ≤ total encoded (unless_empty tag type bytes_of xs)
unfolding unless_empty joined chunk_bytes
total_unless tag type bytes_of [] = omega arith
total_unless tag type bytes_of (x ∷ xs) =
    let entries : List ℕ = bytes_of x ++ joined (map bytes_of xs) in
    let held : List ℕ = spelt type ++ entries in
    let pad : List ℕ = replicate (length held % 2) 0 in
    let behind : List ℕ = bytes 4 (length held) ++ (held ++ pad) in
    let held_is = length-append (spelt type) entries in
    let behind_is = length-append (bytes 4 (length held)) (held ++ pad) in
    omega (arith, length-append held pad, length-append (spelt tag) behind, ap length (append-nil (spelt tag ++ behind)))

length_vertices : (vs : List ℕ) → length vs ≤ total vx_bytes vs
unfolding joined
length_vertices [] = omega arith
length_vertices (v ∷ vs) = omega (arith, length-append (vx_bytes v) (joined (map vx_bytes vs)), length_vx v, length_vertices vs)

abbrev vertices_of : Polygon → List ℕ
vertices_of p = p.vertices

length_polygons : (ps : List Polygon) → length ps + total vertices_of ps ≤ total polygon_bytes ps
unfolding joined polygon_bytes
length_polygons [] = omega arith
length_polygons (p ∷ ps) =
    let n = bytes 2 (length p.vertices) in
    let vs = joined (map vx_bytes p.vertices) in
    omega (arith, length-append (n ++ vs) (joined (map polygon_bytes ps)), length-append n vs, length_bytes 2 (length p.vertices), length_vertices p.vertices, length-append p.vertices (joined (map vertices_of ps)), length_polygons ps)

length_names : (ns : List Name) → length ns + length (joined ns) ≤ total string_bytes ns
unfolding joined
length_names [] = omega arith
length_names (n ∷ ns) = omega (arith, length-append (string_bytes n) (joined (map string_bytes ns)), string_longer n, length-append n (joined ns), length_names ns)

total_run : (r : List Polygon) → length r + total vertices_of r ≤ total encoded (run_chunks r)
unfolding run_chunks joined
total_run [] = omega arith
total_run (p ∷ r) =
    let pols = unless_empty "POLS" (type_of p.kind) polygon_bytes (p ∷ r) in
    let tags = tagging_chunk "SURF" (λ p. p.surface) (p ∷ r) ++ tagging_chunk "PART" (λ p. p.part_name) (p ∷ r) in
    omega (arith, total_append encoded pols tags, total_unless "POLS" (type_of p.kind) polygon_bytes (p ∷ r), length_polygons (p ∷ r))

total_runs : (rs : List (List Polygon)) → length (joined rs) + total vertices_of (joined rs) ≤ total encoded (joined (map run_chunks rs))
unfolding joined
total_runs [] = omega arith
total_runs (r ∷ rs) =
    omega (arith, length-append r (joined rs), total_append vertices_of r (joined rs), total_append encoded (run_chunks r) (joined (map run_chunks rs)), total_run r, total_runs rs)

-- what the file's chunks are at least together
total_mesh : (m : Mesh)
    → (length m.names + length (joined m.names)) + (length m.points * 12 + (length m.polygons + total vertices_of m.polygons)) ≤ total encoded (canonical_chunks m)
unfolding canonical_chunks
total_mesh m =
    let a = unless_empty "TAGS" "" string_bytes m.names in
    let b = unless_empty "PNTS" "" point_bytes m.points in
    let c = joined (map run_chunks (runs m.polygons)) in
    let d = surface_chunks m.names m.surfaces in
    let held : length m.polygons + total vertices_of m.polygons ≤ total encoded c = rw (joined_runs m.polygons) at (total_runs (runs m.polygons)) in
    omega (arith, total_append encoded a (b ++ (c ++ d)), total_append encoded b (c ++ d), total_append encoded c d, total_unless "TAGS" "" string_bytes m.names, length_names m.names, total_unless "PNTS" "" point_bytes m.points, length_each 12 point_bytes length_point m.points)

-- the counts of a mesh, as its tables have them, are at most so many
pub record Counts (m : Mesh) (most : ℕ) : Type 0 where
  pub points : length m.points ≤ most
  pub polygons : length m.polygons ≤ most
  pub vertices : length (joined (map (λ p. p.vertices) m.polygons)) ≤ most
  pub names : length m.names ≤ most
  pub name_bytes : length (joined m.names) ≤ most

-- and so are those of a mesh whose canonical file is within that many bytes
pub counts : (m : Mesh) (most : ℕ) → length (canonical m) ≤ most → Counts m most
unfolding canonical
counts m most short =
    let held = total_mesh m in
    let long = length_form "LWO2" (joined (map encoded (canonical_chunks m))) refl in
    record { points = omega arith; polygons = omega arith; vertices = omega arith; names = omega arith; name_bytes = omega arith }

pub chunks_within : (m : Mesh) (most : ℕ) → length (canonical m) ≤ most → 12 + length (joined (map encoded (canonical_chunks m))) ≤ most
unfolding canonical
chunks_within m most short = omega (arith, length_form "LWO2" (joined (map encoded (canonical_chunks m))) refl)
