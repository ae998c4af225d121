-- The POLS is put, the PTAG of its surfaces behind it, and that of its parts behind both.
use mathlib.Core.List.{[], ◌∷◌}
use native.Mathlib.Omega.{arith}
use Rattle.format.specs.Bytes.{number}
use Rattle.format.specs.Canonical.{chunk_bytes, run_chunks}
use Rattle.format.specs.Mesh.{polygon_size}
use Rattle.mesh.specs.Lent.{column, mesh_polygons}
use Rattle.output.specs.Outputs.{chunks_bytes}
use Rattle.output.proofs.Parts.{PartsLeft, begin, room, turn, end}
use Rattle.write_runs.proofs.Runs.{pols_body, surface_tagging, part_tagging, run_chunks_are}
use Rattle.write_runs.proofs.put_run.Goals.{Start}
use Rattle.write_runs.proofs.put_run.Goals as goal

started : (s : Start)
    → let run = s.args.run.now in
    let vertices = s.args.vertices.now in
    PartsLeft (chunks_bytes (run_chunks (mesh_polygons run vertices))) (chunk_bytes 4 "POLS" (pols_body run vertices) ∷ surface_tagging (column polygon_size 2 run) ∷ part_tagging (column polygon_size 3 run) ∷ []) s.args.out.now s.args.at s.args.out.now s.args.at
started s = begin (run_chunks_are s.args.run.now s.args.vertices.now s.requires.0.some) s.requires.1

pub put_pols-surfaces-requires : goal.put_pols-surfaces-requires
put_pols-surfaces-requires c =
    (c.requires.0, room (started (goal.at.put_pols-surfaces-requires c).Start))

pub put_ptag-parts-requires : goal.put_ptag-parts-requires
unfolding number
put_ptag-parts-requires c =
    (c.requires.0.indexed.lent.few, omega arith, room (turn (started (goal.at.put_ptag-parts-requires c).Start) c.put_pols-surfaces.ensures))

pub put_ptag-requires : goal.put_ptag-requires
unfolding number
put_ptag-requires c =
    (c.requires.0.indexed.lent.few, omega arith, room (turn (turn (started (goal.at.put_ptag-requires c).Start) c.put_pols-surfaces.ensures) c.put_ptag-parts.ensures))

pub returns : goal.returns
unfolding number
returns c =
    end (turn (turn (turn (started (goal.at.returns c).Start) c.put_pols-surfaces.ensures) c.put_ptag-parts.ensures) c.put_ptag.ensures)
