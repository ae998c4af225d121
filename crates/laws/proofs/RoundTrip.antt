-- The round trip: the rules give the canonical file of a mesh that mesh again, with nothing skipped and no details.
use Prim.Native.Nat.{ℕ, ◌≤◌}
use mathlib.Core.Path.{◌≡◌, ◌∙◌}
use mathlib.Core.List.{List, [], map, append-nil}
use mathlib.Core.Bool.{true}
use mathlib.Core.Option.{none}
use native.Mathlib.Omega.{arith}
use lib.ListN.{length}
use Rattle.format.specs.Bytes.{joined}
use Rattle.format.specs.Limits.{file_limit}
use Rattle.format.specs.declared.Kind.TheVariants.{LWO2}
use Rattle.format.specs.Chunks.{finished, split, chunks}
use Rattle.format.specs.Mesh.{Mesh}
use Rattle.format.specs.Rules.{start, gives, rules}
use Rattle.format.specs.Canonical.{runs, canonical_chunks, encoded, canonical}
use Rattle.format.specs.Written.{good_mesh}
use Rattle.laws.proofs.Tiles.{in_front, chunks_row}
use Rattle.laws.proofs.Walk.{canonical_parts, WalkedAs, row_judged, walk_judged, as_read, on_names, on_points, on_runs, on_surfaces, counted}
use Rattle.laws.proofs.Polygons.{joined_runs}
use Rattle.laws.proofs.Meshes.{Good, good, outcome_back}
use Rattle.laws.proofs.Form.{rules_form}
use Rattle.laws.proofs.Lengths.{Counts, counts, chunks_within}

-- the chunks of its canonical file are judged fine, one after the other
judged_chunks : (m : Mesh) → Good m → Counts m file_limit → WalkedAs start (canonical_chunks m) (canonical_parts m)
unfolding canonical_chunks
judged_chunks m g c =
    on_names m.names g.names
    (on_points (counted m.names) m.points g.points
    (on_runs none m.points m.names c.points (runs m.polygons) (rw (joined_runs m.polygons) c.polygons) (rw (joined_runs m.polygons) g.polygons)
    (λ gs. on_surfaces _ [] m.names m.surfaces g.names g.surfaces)))

-- every good mesh whose canonical file is within the limit is given back by the rules
pub round_trip : (m : Mesh) → good_mesh m ≡ true → length (canonical m) ≤ file_limit → rules (canonical m) ≡ gives m 0 0
unfolding canonical
round_trip m ok short =
    let g : Good m = good m ok in
    let c : Counts m file_limit = counts m file_limit short in
    let within = chunks_within m file_limit short in
    let all_judged : WalkedAs start (canonical_chunks m) (canonical_parts m) = judged_chunks m g c in
    let rest : List ℕ = joined (map encoded (canonical_chunks m)) in
    let found : chunks rest ≡ in_front (map as_read (canonical_chunks m)) finished = unfold chunks split in rw append-nil at (chunks_row (row_judged all_judged (omega arith)) []) in
    rules_form LWO2 rest within ∙ rw (found, walk_judged 12 all_judged) (outcome_back m g)
