-- The body is the name, the source and the values; its chunk is closed around it.
use Prim.Native.Nat.{ℕ, ◌+◌, ◌≤◌}
use mathlib.Core.Path.{◌≡◌}
use lib.ListN.{length}
use mathlib.Core.List.{List, [], ◌∷◌}
use Rattle.format.specs.Bytes.{number, tag_number}
use Rattle.format.specs.Mesh.{surface_from}
use Rattle.format.specs.Canonical.{string_bytes, surface_bytes}
use Rattle.write_surfaces.specs.Surfaces.{surface_chunk, value_bytes}
use Rattle.output.proofs.PutSoFar.{wrote_none}
use Rattle.output.proofs.Parts.{PartsLeft, begin, room, turn, end}
use Rattle.output.proofs.Chunks.{BodyFirst, first_room, close_room, closed}
use Rattle.write_surfaces.proofs.Surfaces.{not_defined, surface_chunk_lem, surface_parts_lem, no_source}
use Rattle.write_surfaces.proofs.put_surface.Goals as goal

module _ (name words : List ℕ) (some : (surface_from words).defined ≡ 1) (out : List ℕ) (at : ℕ) (fits : at + length (surface_chunk name (surface_from words)) ≤ length out) where
  whole : BodyFirst (surface_chunk name (surface_from words)) (tag_number "SURF") (surface_bytes name (surface_from words)) out at
  whole = surface_chunk_lem name (surface_from words) some fits

  -- the parts of the body, of which none is put yet
  opened : PartsLeft (surface_bytes name (surface_from words)) (string_bytes name ∷ string_bytes [] ∷ value_bytes (surface_from words) ∷ []) out (at + 8) out (at + 8)
  opened = begin (surface_parts_lem name (surface_from words)) (first_room whole)

pub returns-then-words-ne1 : goal.returns-then-words-ne1
returns-then-words-ne1 c = rw (not_defined c.args.name.now (surface_from c.args.words.now) c.if-words-ne1.true) wrote_none

pub put_string-source-requires : goal.put_string-source-requires
put_string-source-requires c = room (opened c.args.name.now c.args.words.now c.if-words-ne1.false c.args.out.now c.args.at c.requires.1)

pub put_u2-values-requires : goal.put_u2-values-requires
unfolding string_bytes
put_u2-values-requires c =
    room (turn (opened c.args.name.now c.args.words.now c.if-words-ne1.false c.args.out.now c.args.at c.requires.1) c.put_string-source.ensures)

pub put_values-end-requires : goal.put_values-end-requires
put_values-end-requires c =
    let named = turn (opened c.args.name.now c.args.words.now c.if-words-ne1.false c.args.out.now c.args.at c.requires.1) c.put_string-source.ensures in
    (c.requires.0, room (turn named (rw no_source at c.put_u2-values.ensures)))

pub close_chunk-requires : goal.close_chunk-requires
close_chunk-requires c =
    let named = turn (opened c.args.name.now c.args.words.now c.if-words-ne1.false c.args.out.now c.args.at c.requires.1) c.put_string-source.ensures in
    let sourced = turn named (rw no_source at c.put_u2-values.ensures) in
    close_room (whole c.args.name.now c.args.words.now c.if-words-ne1.false c.args.out.now c.args.at c.requires.1) (end (turn sourced c.put_values-end.ensures))

pub returns : goal.returns
unfolding number
returns c =
    let named = turn (opened c.args.name.now c.args.words.now c.if-words-ne1.false c.args.out.now c.args.at c.requires.1) c.put_string-source.ensures in
    let sourced = turn named (rw no_source at c.put_u2-values.ensures) in
    closed (whole c.args.name.now c.args.words.now c.if-words-ne1.false c.args.out.now c.args.at c.requires.1) (end (turn sourced c.put_values-end.ensures)) c.close_chunk.ensures
