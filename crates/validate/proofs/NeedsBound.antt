-- No need or count of a file is above the file's length, since all of them together are the things that its chunks add.
use Prim.Native.Nat.{ℕ, ◌+◌, ◌≤◌}
use mathlib.Core.Path.{◌≡◌, ap}
use mathlib.Core.List.{List, [], ◌∷◌, map}
use native.Mathlib.Omega.{arith}
use lib.ListN.{length, drop, length-drop}
use Rattle.format.specs.Bytes.{sum}
use Rattle.format.specs.Mesh.{Mesh, Needs, needs}
use Rattle.format.specs.Bodies.{Part}
use Rattle.format.specs.Rules.{start, mesh_of, gives, rules}
use Rattle.format.proofs.ChunkWalk.{accepted}
use Rattle.format.proofs.SizeBound.{things, file_bound}
use Rattle.validate_chunk.specs.Promises.{counted_of}
use Rattle.validate.specs.declared.counts.Totals.{Totals}
use Rattle.validate.specs.declared.counts.Seen.{Seen}
use Rattle.validate.specs.Promises.{seen_with, nothing_seen, all_of, totals_of}
use Rattle.validate.proofs.FileCounts.{seen_after, weight_is, totals_grow, totals_are}

all_added : (seen : Seen) (parts : List Part) → all_of (seen_after seen parts).totals ≡ all_of seen.totals + sum (map things parts)
unfolding seen_after sum
all_added seen [] = omega arith
all_added seen (part ∷ parts) = omega (arith, all_added (seen_with seen (counted_of part)) parts, totals_grow seen.totals (counted_of part), weight_is part)

-- all needs and counts together
pub few_needs : (file : List ℕ) {m : Mesh} {k d : ℕ} → rules file ≡ gives m k d
    → (needs m).points + (needs m).polygons + (needs m).vertices + (needs m).names + (needs m).name_bytes + k + d ≤ length file
unfolding totals_of
few_needs file {m} {k} {d} e =
    let a = accepted e in
    let bound = file_bound a.kind start 12 (drop 12 file) a.parts a.walked in
    let sums = all_added nothing_seen a.parts in
    let total : all_of (totals_of a.kind a.parts) ≡ all_of (seen_after nothing_seen a.parts).totals = ap (λ (t : Totals). all_of t) (totals_are a.kind a.parts) in
    let few : all_of (totals_of a.kind a.parts) ≤ length file = omega (arith, length-drop 12 file) in
    let same : needs (mesh_of a.kind a.parts) ≡ needs m = ap needs a.mesh in
    omega
    (arith, few, a.skipped, a.details, ap (λ (n : Needs). n.points) same, ap (λ (n : Needs). n.polygons) same, ap (λ (n : Needs). n.vertices) same, ap (λ (n : Needs). n.names) same, ap (λ (n : Needs). n.name_bytes) same)
