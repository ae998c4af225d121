-- A run is a POLS and, where some polygon has a surface or a part name, a PTAG of each; all runs are a walk that puts the chunks of each behind those before it.
use Rattle.std.specs.Prelude.{if◌then◌else◌}
use Prim.Native.Nat.{ℕ, suc, ◌+◌, ◌-◌, ◌<◌, ◌≤◌, ◌^◌}
use Prim.Native.String.{String}
use mathlib.Core.Path.{◌≡◌, refl, sym, ap, ◌∙◌}
use mathlib.Core.List.{List, [], ◌∷◌, ◌++◌, map, append-nil}
use mathlib.Core.Bool.{Bool, true, false, ◌&&◌, true≢false}
use native.Mathlib.Omega.{arith}
use lib.Dec.{eqb, ltb}
use lib.ListN.{length, take, drop, length-append}
use borrow.Author.Tests.{eq-eqb, ne_eqb}
use Rattle.format.specs.Bytes.{number, tag_number, spelt, all, sum, joined}
use Rattle.format.specs.Mesh.{Polygon, word, polygon_size}
use Rattle.format.specs.Canonical.{bytes, vx_bytes, chunk_bytes, polygon_bytes, type_of, pairs_of, pair_bytes, runs, unless_empty, tagging_chunk, run_chunks, encoded}
use Rattle.format.specs.Written.{vertex_counts}
use Rattle.format.proofs.Puts.{joined_map_append}
use Rattle.format.proofs.Facts.{all_part, all_first, all_rest}
use Rattle.format.proofs.CanonicalLengths.{length_bytes}
use Rattle.mesh.specs.Lent.{entry_at, column, mesh_polygons}
use Rattle.mesh.specs.Polygons.{run_end, pairs_from}
use Rattle.mesh.proofs.Entries.{polygons_at}
use Rattle.mesh.proofs.RunWalk as run_walk
use Rattle.mesh.proofs.RunWalk.{RunWalk}
use Rattle.output.specs.Outputs.{Wrote, chunks_bytes}
use Rattle.write_runs.specs.Runs.{tagging_bytes, RunLent}
use Rattle.output.proofs.PutSoFar as bytes_put
use Rattle.output.proofs.PutSoFar.{PutSoFar, NextPart}
use Rattle.output.proofs.Parts.{in_two}
use Rattle.output.proofs.Chunks.{BodyFirst, chunk_is}
use Rattle.mesh.proofs.Pairs.{some_pairs, pairs_are}
use Rattle.mesh.proofs.Runs.{surfaces, part_names}

-- ---- one run

abbrev pub pols_body : (run vs : List ℕ) → List ℕ
pols_body run vs = spelt (type_of (word 0 (entry_at polygon_size 0 run))) ++ joined (map polygon_bytes (mesh_polygons run vs))

pub pols : (run vs : List ℕ) {t : List ℕ} {at : ℕ} → at + length (chunk_bytes 4 "POLS" (pols_body run vs)) ≤ length t
    → BodyFirst (chunk_bytes 4 "POLS" (pols_body run vs)) (tag_number "POLS") (pols_body run vs) t at
unfolding bytes number
pols run vs fits = record { is = chunk_is 4 (tag_number "POLS") "POLS" (pols_body run vs) refl; fits = fits }

module _ (type : ℕ) (pairs : List ℕ) where
  pub no_ptag : length pairs ≡ 0 → tagging_bytes type pairs ≡ []
  no_ptag none = rw (eq-eqb (length pairs) 0 none)

  some_ptag : (length pairs ≡ 0 → ⊥) → tagging_bytes type pairs ≡ chunk_bytes 4 "PTAG" (bytes 4 type ++ pairs)
  some_ptag some = rw (ne_eqb (length pairs) 0 some)

  pub ptag : {t : List ℕ} {at : ℕ} → (length pairs ≡ 0 → ⊥) → at + length (tagging_bytes type pairs) ≤ length t
      → BodyFirst (tagging_bytes type pairs) (tag_number "PTAG") (bytes 4 type ++ pairs) t at
  unfolding bytes number
  ptag some fits = record { is = some_ptag some ∙ chunk_is 4 (tag_number "PTAG") "PTAG" (bytes 4 type ++ pairs) refl; fits = fits }

-- a run has pairs where some of its numbers are not 0
pub no_pairs : (i : ℕ) (ns : List ℕ) → all (λ n. eqb n 0) ns ≡ true → length (pairs_from i ns) ≡ 0
unfolding pairs_from
no_pairs i [] none = refl
no_pairs i (n ∷ ns) none = rw (all_first (λ n. eqb n 0) n ns none) (no_pairs (suc i) ns (all_rest (λ n. eqb n 0) n ns none))

pub a_pair_there : (i : ℕ) (ns : List ℕ) → all (λ n. eqb n 0) ns ≡ false → length (pairs_from i ns) ≡ 0 → ⊥
unfolding all pairs_from pair_bytes
a_pair_there i [] some none = true≢false some
a_pair_there i (n ∷ ns) some none = go (eqb n 0) (a_pair_there (suc i) ns) some none
  where
    go : (b : Bool) → (all (λ n. eqb n 0) ns ≡ false → length (pairs_from (suc i) ns) ≡ 0 → ⊥)
        → (b && all (λ n. eqb n 0) ns) ≡ false → length ((if b then [] else pair_bytes (i, n)) ++ pairs_from (suc i) ns) ≡ 0 → ⊥
    go true later some none = later some none
    go false later some none =
        let tag = bytes 2 (n - 1) in
        omega (arith, none, length-append (vx_bytes i ++ tag) (pairs_from (suc i) ns), length-append (vx_bytes i) tag, length_bytes 2 (n - 1))

module _ (type : String) (n : ℕ) (spells : spelt type ≡ bytes 4 n) where
  by_pairs : (ts : List (ℕ × ℕ)) → chunks_bytes (unless_empty "PTAG" type pair_bytes ts) ≡ tagging_bytes n (joined (map pair_bytes ts))
  unfolding unless_empty joined
  by_pairs [] = refl
  by_pairs (t ∷ ts) =
      rw spells (append-nil (chunk_bytes 4 "PTAG" (bytes 4 n ++ joined (map pair_bytes (t ∷ ts)))) ∙ sym (some_ptag n (joined (map pair_bytes (t ∷ ts))) (some_pairs t ts)))

  by_numbers : (number : Polygon → ℕ) (ps : List Polygon) → chunks_bytes (tagging_chunk type number ps) ≡ tagging_bytes n (pairs_from 0 (map number ps))
  by_numbers number ps = by_pairs (pairs_of number 0 ps) ∙ rw (pairs_are number 0 ps)

abbrev pub surface_tagging : List ℕ → List ℕ
surface_tagging ns = tagging_bytes (tag_number "SURF") (pairs_from 0 ns)

abbrev pub part_tagging : List ℕ → List ℕ
part_tagging ns = tagging_bytes (tag_number "PART") (pairs_from 0 ns)

all_chunks : (ps : List Polygon) (p : Polygon) (r : List Polygon) → ps ≡ p ∷ r
    → chunks_bytes (run_chunks ps)
    ≡ chunk_bytes 4 "POLS" (spelt (type_of p.kind) ++ joined (map polygon_bytes ps)) ++ (surface_tagging (map (λ p. p.surface) ps) ++ part_tagging (map (λ p. p.part_name) ps))
unfolding run_chunks unless_empty joined bytes number
all_chunks ps p r are =
    let surfaces = tagging_chunk "SURF" (λ p. p.surface) (p ∷ r) in
    let parts = tagging_chunk "PART" (λ p. p.part_name) (p ∷ r) in
    rw are
    (joined_map_append encoded (unless_empty "POLS" (type_of p.kind) polygon_bytes (p ∷ r)) (surfaces ++ parts)
    ∙ rw (append-nil (chunk_bytes 4 "POLS" (spelt (type_of p.kind) ++ joined (map polygon_bytes (p ∷ r)))), joined_map_append encoded surfaces parts, by_numbers "SURF" (tag_number "SURF") refl (λ p. p.surface) (p ∷ r), by_numbers "PART" (tag_number "PART") refl (λ p. p.part_name) (p ∷ r)))

pub run_chunks_are : (run vs : List ℕ) → polygon_size ≤ length run
    → chunks_bytes (run_chunks (mesh_polygons run vs))
    ≡ joined (chunk_bytes 4 "POLS" (pols_body run vs) ∷ surface_tagging (column polygon_size 2 run) ∷ part_tagging (column polygon_size 3 run) ∷ [])
unfolding joined
run_chunks_are run vs some =
    rw (surfaces run vs, part_names run vs) at (all_chunks (mesh_polygons run vs) _ _ (polygons_at 0 0 run vs (omega arith)))
    ∙ ap (λ l. chunk_bytes 4 "POLS" (pols_body run vs) ++ l) (in_two (surface_tagging (column polygon_size 2 run)) (part_tagging (column polygon_size 3 run)))

-- ---- all runs

abbrev chunks_of : List (List Polygon) → List ℕ
chunks_of rs = chunks_bytes (joined (map run_chunks rs))

pub record RunsPut (ws vs t : List ℕ) (at : ℕ) (t' : List ℕ) (next entry first : ℕ) : Type 0 where
  pub small : all (λ v. ltb v (2 ^ 24)) vs ≡ true
  pub walk : RunWalk ws vs (λ rs. PutSoFar (chunks_of (runs (mesh_polygons ws vs))) (chunks_of rs) t at t' next) entry first

module _ {ws vs t t' : List ℕ} {at next entry first : ℕ} (w : RunsPut ws vs t at t' next entry first) where
  pub end : length ws - entry < polygon_size → Wrote t at (chunks_of (runs (mesh_polygons ws vs))) t' next
  unfolding joined
  end short = bytes_put.end (run_walk.end w.walk short) refl

  module _ (fits : polygon_size ≤ length ws - entry) {to : ℕ} (to_is : (to ≡ run_end ws entry) × (to ≤ length ws))
      {n : ℕ} (count : n ≡ sum (vertex_counts (take (to - entry) (drop entry ws)))) where
    abbrev run : List ℕ
    run = take (to - entry) (drop entry ws)

    abbrev own : List ℕ
    own = take (first + n - first) (drop first vs)

    abbrev others : List (List Polygon)
    others = runs (mesh_polygons (drop to ws) (drop (first + n) vs))

    one : NextPart (chunks_of (mesh_polygons run own ∷ others)) (chunks_bytes (run_chunks (mesh_polygons run own))) (chunks_of others)
    unfolding joined
    one = record { is = joined_map_append encoded (run_chunks (mesh_polygons run own)) _ }

    pub run_room : RunLent run own × (next + length (chunks_bytes (run_chunks (mesh_polygons run own))) ≤ length t')
    run_room =
        let l = run_walk.run_lent w.walk fits to_is count in
        let small = all_part (λ v. ltb v (2 ^ 24)) vs first (first + n - first) w.small in
        (record { indexed = record { lent = l.0; small = small }; some = l.1 }, bytes_put.room (run_walk.here w.walk fits to_is count) one)

    pub turn : {t'' : List ℕ} {last : ℕ} → Wrote t' next (chunks_bytes (run_chunks (mesh_polygons run own))) t'' last → RunsPut ws vs t at t'' last to (first + n)
    turn v = record { small = w.small; walk = run_walk.turn w.walk fits to_is count (bytes_put.turn (run_walk.here w.walk fits to_is count) one v) }
