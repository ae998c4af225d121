-- A run is a POLS and two PTAGs at most, whose lengths its words and vertices tell; all runs together are a walk that adds theirs.
use Prim.Native.Nat.{ℕ, ◌+◌, ◌-◌, ◌*◌, ◌/◌, ◌<◌, ◌≤◌}
use Prim.Native.String.{String}
use mathlib.Core.Path.{◌≡◌, refl, ◌∙◌}
use mathlib.Core.List.{List, [], ◌∷◌, ◌++◌, map}
use native.Mathlib.Omega.{arith}
use lib.ListN.{length, take, drop}
use Rattle.format.specs.Bytes.{spelt, sum, joined}
use Rattle.format.specs.Mesh.{Polygon, polygon_size}
use Rattle.format.specs.Canonical.{vx_bytes, polygon_bytes, type_of, pairs_of, pair_bytes, runs, unless_empty, tagging_chunk, run_chunks, encoded}
use Rattle.format.specs.Written.{vertex_counts}
use Rattle.mesh.specs.Lent.{column, mesh_polygons}
use Rattle.mesh.specs.Polygons.{run_end, pairs_from}
use Rattle.mesh.proofs.Runs.{surfaces, part_names, length_polygons}
use Rattle.mesh.proofs.RunWalk.{RunWalk, words, here, turn, end}
use Rattle.lengths.specs.Sizes.{Counted, unless_none}
use Rattle.lengths.proofs.SizeSum as sizes
use Rattle.lengths.proofs.SizeSum.{SizeSum}
use Rattle.format.specs.Promises.{total}
use Rattle.format.proofs.Puts.{total_append}
use Rattle.format.proofs.CanonicalLengths.{length_type}
use Rattle.lengths.proofs.ItemLengths.{unless_size, polygons_held, by_bytes}
use Rattle.mesh.proofs.Pairs.{pairs_are}

-- ---- one run

-- a PTAG by its pairs
abbrev tagging_size : (numbers : List ℕ) → ℕ
tagging_size ns = unless_none (length (pairs_from 0 ns)) (4 + length (pairs_from 0 ns))

tagging_size_lem : (type : String) (number : Polygon → ℕ) (ps : List Polygon) → length (spelt type) ≡ 4 → total encoded (tagging_chunk type number ps) ≡ tagging_size (map number ps)
tagging_size_lem type number ps four =
    let ts : List (ℕ × ℕ) = pairs_of number 0 ps in
    unless_size "PTAG" type pair_bytes ts refl ∙ rw (four, by_bytes ts (4 + total pair_bytes ts), pairs_are number 0 ps)

run_chunks_lem : (ps : List Polygon) → 0 < length ps
    → total encoded (run_chunks ps)
    ≡ unless_none (length ps) (4 + total polygon_bytes ps) + tagging_size (map (λ p. p.surface) ps) + tagging_size (map (λ p. p.part_name) ps)
unfolding run_chunks
run_chunks_lem [] some = absurd (omega arith)
run_chunks_lem (p ∷ r) some =
    let ps : List Polygon = p ∷ r in
    let surfaces = tagging_chunk "SURF" (λ p. p.surface) ps in
    let parts = tagging_chunk "PART" (λ p. p.part_name) ps in
    let pols = unless_size "POLS" (type_of p.kind) polygon_bytes ps refl in
    let All-three = total_append encoded (unless_empty "POLS" (type_of p.kind) polygon_bytes ps) (surfaces ++ parts) in
    let tags = total_append encoded surfaces parts in
    All-three ∙ rw (tags, pols, length_type p.kind, tagging_size_lem "SURF" (λ p. p.surface) ps refl, tagging_size_lem "PART" (λ p. p.part_name) ps refl) (omega arith)

pub run_size : (run vs : List ℕ) → sum (vertex_counts run) ≡ length vs → polygon_size ≤ length run
    → total encoded (run_chunks (mesh_polygons run vs))
    ≡ unless_none (length run / polygon_size) (4 + 2 * (length run / polygon_size) + total vx_bytes vs) + tagging_size (column polygon_size 2 run) + tagging_size (column polygon_size 3 run)
run_size run vs agree some =
    let n : ℕ = length run / polygon_size in
    let count : length (mesh_polygons run vs) ≡ n = length_polygons run vs in
    let held : 4 + total polygon_bytes (mesh_polygons run vs) ≡ 4 + 2 * n + total vx_bytes vs = omega (arith, polygons_held run vs agree) in
    run_chunks_lem (mesh_polygons run vs) (omega arith) ∙ rw (count, held, surfaces run vs, part_names run vs)

-- ---- all runs

-- the bytes of the runs that are left
abbrev pub RunsLeft : (ws vs : List ℕ) → (bytes at first : ℕ) → List (List Polygon) → Type 0
RunsLeft ws vs bytes at first rs =
    SizeSum (total encoded (joined (map run_chunks (runs (mesh_polygons ws vs))))) bytes (total encoded (joined (map run_chunks rs))) (16 * at + 4 * first)

module _ {ws vs : List ℕ} {bytes at first : ℕ} (w : RunWalk ws vs (RunsLeft ws vs bytes at first) at first) where
  pub runs_end : length ws - at < polygon_size
      → Counted bytes (total encoded (joined (map run_chunks (runs (mesh_polygons ws vs))))) (16 * length ws + 4 * length vs)
  unfolding joined
  runs_end short = sizes.end (end w short) refl (omega (arith, w.walk.inside, w.walk.agree))

  module _ (fits : polygon_size ≤ length ws - at) {to : ℕ} (to_is : (to ≡ run_end ws at) × (to ≤ length ws)) where
    abbrev run : List ℕ
    run = take (to - at) (drop at ws)

    pub runs_turn : {n r : ℕ} → n ≡ sum (vertex_counts run)
        → Counted r (total encoded (run_chunks (mesh_polygons run (take (first + n - first) (drop first vs))))) (16 * length run + 4 * length (take (first + n - first) (drop first vs)))
        → RunWalk ws vs (RunsLeft ws vs (bytes + r) to (first + n)) to (first + n)
    unfolding joined
    runs_turn {n} count s =
        let h = here w fits to_is count in
        let one = total_append encoded (run_chunks (mesh_polygons run (take (first + n - first) (drop first vs)))) _ in
        turn w fits to_is count (sizes.turn h one s.size_is (omega (arith, s.few, words w fits to_is count, h.few)))
