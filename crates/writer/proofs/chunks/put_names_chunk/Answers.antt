-- The body is the names as strings; its chunk is closed around it.
use Prim.Native.Nat.{ℕ, ◌+◌, ◌≤◌}
use mathlib.Core.Path.{◌≡◌, refl, sym, ◌∙◌}
use native.Mathlib.Omega.{arith}
use mathlib.Core.List.{List, map}
use lib.ListN.{length}
use Rattle.format.specs.Bytes.{number, tag_number, joined}
use Rattle.format.specs.Mesh.{Name}
use Rattle.format.specs.Canonical.{bytes, string_bytes, unless_empty}
use Rattle.format.specs.Written.{pieces}
use Rattle.mesh.proofs.Entries.{length_pieces}
use Rattle.output.specs.Outputs.{chunks_bytes}
use Rattle.output.proofs.PutSoFar.{wrote_none}
use Rattle.output.proofs.Chunks.{BodyFirst, first_room, close_room, closed, chunk_is, left_out, put_in}
use Rattle.writer.proofs.chunks.put_names_chunk.Goals as goal

module _ (lengths name_bytes : List ℕ) where
  abbrev names : List Name
  names = pieces lengths name_bytes

  many : length names ≡ length lengths
  many = length_pieces lengths name_bytes

  module _ (some : length lengths ≡ 0 → ⊥) (out : List ℕ) (at : ℕ) (fits : at + length (chunks_bytes (unless_empty "TAGS" "" string_bytes names)) ≤ length out) where
    whole : BodyFirst (chunks_bytes (unless_empty "TAGS" "" string_bytes names)) (tag_number "TAGS") (joined (map string_bytes names)) out at
    unfolding bytes number
    whole = record {
      is = put_in "TAGS" "" string_bytes names (λ none. some (sym many ∙ none)) ∙ chunk_is 4 (tag_number "TAGS") "TAGS" (joined (map string_bytes names)) refl;
      fits = fits;
    }

pub returns-then-names-eq0 : goal.returns-then-names-eq0
returns-then-names-eq0 c =
    rw (left_out "TAGS" "" string_bytes (pieces c.args.names.now c.args.name_bytes.now) (many c.args.names.now c.args.name_bytes.now ∙ c.if-names-eq0.true)) wrote_none

pub put_strings-end-requires : goal.put_strings-end-requires
put_strings-end-requires c = (c.requires.0, first_room (whole c.args.names.now c.args.name_bytes.now (λ none. omega arith) c.args.out.now c.args.at c.requires.1))

pub close_chunk-requires : goal.close_chunk-requires
close_chunk-requires c =
    close_room (whole c.args.names.now c.args.name_bytes.now (λ none. omega arith) c.args.out.now c.args.at c.requires.1) c.put_strings-end.ensures

pub returns : goal.returns
unfolding number
returns c =
    closed (whole c.args.names.now c.args.name_bytes.now (λ none. omega arith) c.args.out.now c.args.at c.requires.1) c.put_strings-end.ensures c.close_chunk.ensures
