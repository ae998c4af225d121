-- The body is the type and the polygons; its chunk is closed around it.
use Prim.Native.Nat.{ℕ, ◌+◌, ◌≤◌}
use lib.ListN.{length}
use mathlib.Core.List.{List, [], ◌∷◌, ◌++◌, map}
use Rattle.format.specs.Bytes.{number, tag_number, spelt, joined}
use Rattle.format.specs.Mesh.{word, polygon_size}
use Rattle.format.specs.Canonical.{chunk_bytes, polygon_bytes, type_of}
use Rattle.mesh.specs.Lent.{entry_at, mesh_polygons}
use Rattle.output.proofs.Parts.{PartsLeft, begin, in_two, room, turn, end}
use Rattle.output.proofs.Chunks.{BodyFirst, first_room, close_room, closed}
use Rattle.format.proofs.CanonicalLengths.{length_type}
use Rattle.write_runs.proofs.Runs.{pols}
use Rattle.write_runs.proofs.put_pols.Goals as goal

module _ (run vertices : List ℕ) where
  abbrev type : List ℕ
  type = spelt (type_of (word 0 (entry_at polygon_size 0 run)))

  abbrev polygons : List ℕ
  polygons = joined (map polygon_bytes (mesh_polygons run vertices))

  module _ (out : List ℕ) (at : ℕ) (fits : at + length (chunk_bytes 4 "POLS" (type ++ polygons)) ≤ length out) where
    whole : BodyFirst (chunk_bytes 4 "POLS" (type ++ polygons)) (tag_number "POLS") (type ++ polygons) out at
    whole = pols run vertices fits

    -- the parts of the body that are left
    abbrev Body : List (List ℕ) → List ℕ → ℕ → Type 0
    Body left out' next = PartsLeft (type ++ polygons) left out (at + 8) out' next

    opened : Body (type ∷ polygons ∷ []) out (at + 8)
    opened = begin (in_two type polygons) (first_room whole)

pub put_u4-first-requires : goal.put_u4-first-requires
put_u4-first-requires c = rw length_type at (room (opened c.args.run.now c.args.vertices.now c.args.out.now c.args.at c.requires.1))

pub put_polygons-end-requires : goal.put_polygons-end-requires
put_polygons-end-requires c =
    let lent = c.requires.0.indexed.lent in
    let typed = turn (opened c.args.run.now c.args.vertices.now c.args.out.now c.args.at c.requires.1) (rw (c.type_of.ensures, c.kind.ensures) at c.put_u4-first.ensures) in
    record { agree = lent.agree; small = c.requires.0.indexed.small; room = room typed }

pub close_chunk-requires : goal.close_chunk-requires
close_chunk-requires c =
    let typed = turn (opened c.args.run.now c.args.vertices.now c.args.out.now c.args.at c.requires.1) (rw (c.type_of.ensures, c.kind.ensures) at c.put_u4-first.ensures) in
    close_room (whole c.args.run.now c.args.vertices.now c.args.out.now c.args.at c.requires.1) (end (turn typed c.put_polygons-end.ensures))

pub returns : goal.returns
unfolding number
returns c =
    let typed = turn (opened c.args.run.now c.args.vertices.now c.args.out.now c.args.at c.requires.1) (rw (c.type_of.ensures, c.kind.ensures) at c.put_u4-first.ensures) in
    closed (whole c.args.run.now c.args.vertices.now c.args.out.now c.args.at c.requires.1) (end (turn typed c.put_polygons-end.ensures)) c.close_chunk.ensures
