-- The file is a header and the chunks of its four parts, whose lengths are added; the limits of a mesh keep the sum from wrapping.
use mathlib.Core.Path.{sym}
use native.Mathlib.Omega.{arith}
use Rattle.mesh.proofs.MeshFacts.{mesh_facts}
use Rattle.lengths.proofs.FileLength.{file_size}
use Rattle.lengths.proofs.file_length.Goals as goal

pub strings_length-requires : goal.strings_length-requires
strings_length-requires c =
    let k = mesh_facts _ _ _ _ _ _ c.requires in
    k.few_names

pub unless_empty-requires-2 : goal.unless_empty-requires-2
unless_empty-requires-2 c =
    let k = mesh_facts _ _ _ _ _ _ c.requires in
    omega (arith, k.few_points)

pub runs_length-requires : goal.runs_length-requires
runs_length-requires c =
    let k = mesh_facts _ _ _ _ _ _ c.requires in
    record { few = k.few_polygons; few_vertices = k.few_vertices; agree = k.vertices_agree }

pub overflow_add-result-3 : goal.overflow_add-result-3
overflow_add-result-3 c =
    let k = mesh_facts _ _ _ _ _ _ c.requires in
    omega (arith, k.few_points, k.few_polygons, k.few_vertices, c.runs_length.ensures.few, c.unless_empty-2.ensures.few, c.unless_empty.ensures.few, c.strings_length.ensures.few)

pub surfaces_length-requires : goal.surfaces_length-requires
surfaces_length-requires c =
    let k = mesh_facts _ _ _ _ _ _ c.requires in
    (k.a_record_each, k.few_names)

pub overflow_add-result-4 : goal.overflow_add-result-4
overflow_add-result-4 c =
    let k = mesh_facts _ _ _ _ _ _ c.requires in
    omega (arith, k.few_points, k.few_polygons, k.few_vertices, c.surfaces_length.ensures.few, c.runs_length.ensures.few, c.unless_empty-2.ensures.few, c.unless_empty.ensures.few, c.strings_length.ensures.few)

pub returns : goal.returns
returns c =
    let k = mesh_facts _ _ _ _ _ _ c.requires in
    rw (c.unless_empty.ensures.size_is, c.strings_length.ensures.size_is, c.unless_empty-2.ensures.size_is, c.runs_length.ensures.size_is, c.surfaces_length.ensures.size_is)
    (sym (file_size _ _ _ _ _ _ k.bytes_agree))
