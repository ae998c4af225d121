-- The parts of the file are put one after another, and there is room for each since there is for all.
use Prim.Native.Nat.{ℕ}
use mathlib.Core.List.{List}
use native.Mathlib.Omega.{arith}
use lib.ListN.{drop}
use Rattle.format.specs.Bytes.{number}
use Rattle.format.specs.Mesh.{Tables}
use Rattle.format.specs.Canonical.{canonical}
use Rattle.format.specs.Written.{mesh_from}
use Rattle.format.proofs.CanonicalLengths.{length_bytes}
use Rattle.output.proofs.Parts.{PartsLeft, begin, room, turn, end}
use Rattle.writer.specs.Promises.{OutputRoom}
use Rattle.writer.proofs.FileParts.{file_parts, facts, small_vertices, head_long, file_is}
use Rattle.writer.proofs.put_file.Goals as goal

-- before the first of the parts
started : {t : Tables} {out : List ℕ} {n : ℕ} → OutputRoom t out n → PartsLeft (canonical (mesh_from t)) (drop 0 (file_parts t n)) out 0 out 0
started {t} fits = begin (file_is t fits.mesh fits.long) (omega (arith, fits.long, fits.room))

pub overflow_sub-n : goal.overflow_sub-n
overflow_sub-n c = omega (arith, head_long _ c.requires.long)

pub put_head-kind-requires : goal.put_head-kind-requires
unfolding number
put_head-kind-requires c = room (started c.requires)

pub put_u4-tags-requires : goal.put_u4-tags-requires
unfolding number
put_u4-tags-requires c = rw length_bytes at (room (turn (started c.requires) c.put_head-kind.ensures))

pub put_names_chunk-coordinates-requires : goal.put_names_chunk-coordinates-requires
unfolding number
put_names_chunk-coordinates-requires c =
    ((facts _ c.requires.mesh).bytes_agree, room (turn (turn (started c.requires) c.put_head-kind.ensures) c.put_u4-tags.ensures))

pub put_points_chunk-runs-requires : goal.put_points_chunk-runs-requires
unfolding number
put_points_chunk-runs-requires c =
    room (turn (turn (turn (started c.requires) c.put_head-kind.ensures) c.put_u4-tags.ensures) c.put_names_chunk-coordinates.ensures)

pub put_runs-surfaces-requires : goal.put_runs-surfaces-requires
unfolding number
put_runs-surfaces-requires c =
    let k = facts _ c.requires.mesh in
    (record { lent = record { few = k.few_polygons; few_vertices = k.few_vertices; agree = k.vertices_agree }; small = small_vertices _ c.requires.mesh }, room (turn (turn (turn (turn (started c.requires) c.put_head-kind.ensures) c.put_u4-tags.ensures) c.put_names_chunk-coordinates.ensures) c.put_points_chunk-runs.ensures))

pub put_surfaces-requires : goal.put_surfaces-requires
unfolding number
put_surfaces-requires c =
    let k = facts _ c.requires.mesh in
    record { agree = k.bytes_agree; a_record_each = k.a_record_each; room = room (turn (turn (turn (turn (turn (started c.requires) c.put_head-kind.ensures) c.put_u4-tags.ensures) c.put_names_chunk-coordinates.ensures) c.put_points_chunk-runs.ensures) c.put_runs-surfaces.ensures) }

pub returns : goal.returns
unfolding number
returns c =
    end (turn (turn (turn (turn (turn (turn (started c.requires) c.put_head-kind.ensures) c.put_u4-tags.ensures) c.put_names_chunk-coordinates.ensures) c.put_points_chunk-runs.ensures) c.put_runs-surfaces.ensures) c.put_surfaces.ensures)
