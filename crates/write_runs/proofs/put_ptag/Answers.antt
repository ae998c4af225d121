-- A run whose numbers are all 0 has no pairs; else the body is the type and the pairs, and its chunk is closed around it.
use Prim.Native.Nat.{ℕ, ◌+◌, ◌≤◌}
use lib.ListN.{length}
use mathlib.Core.Path.{◌≡◌, sym, ◌∙◌}
use mathlib.Core.Bool.{Bool, false}
use lib.Dec.{eqb}
use mathlib.Core.List.{List, [], ◌∷◌, ◌++◌}
use Rattle.format.specs.Bytes.{number, tag_number, all}
use Rattle.format.specs.Mesh.{polygon_size}
use Rattle.format.specs.Canonical.{bytes}
use Rattle.mesh.specs.Lent.{column}
use Rattle.mesh.specs.Polygons.{pairs_from}
use Rattle.write_runs.specs.Runs.{tagging_bytes}
use Rattle.output.proofs.PutSoFar.{wrote_none}
use Rattle.output.proofs.Parts.{PartsLeft, begin, in_two, room, turn, end}
use Rattle.output.proofs.Chunks.{BodyFirst, first_room, close_room, closed}
use Rattle.write_runs.proofs.Runs.{no_ptag, ptag, no_pairs, a_pair_there}
use Rattle.write_runs.proofs.put_ptag.Goals as goal

module _ (run : List ℕ) (index tagging : ℕ) where
  abbrev numbers : List ℕ
  numbers = column polygon_size index run

  abbrev type : List ℕ
  type = bytes 4 tagging

  abbrev pairs : List ℕ
  pairs = pairs_from 0 numbers

  module _ {t : Bool} (is : t ≡ all (λ n. eqb n 0) numbers) (some : t ≡ false) (out : List ℕ) (at : ℕ) (fits : at + length (tagging_bytes tagging pairs) ≤ length out) where
    whole : BodyFirst (tagging_bytes tagging pairs) (tag_number "PTAG") (type ++ pairs) out at
    whole = ptag tagging pairs (a_pair_there 0 numbers (sym is ∙ some)) fits

    -- the type and the pairs are put into the body
    opened : PartsLeft (type ++ pairs) (type ∷ pairs ∷ []) out (at + 8) out (at + 8)
    opened = begin (in_two type pairs) (first_room whole)

pub returns-then-no_pairs : goal.returns-then-no_pairs
returns-then-no_pairs c =
    let all = column polygon_size c.args.index c.args.run.now in
    rw (no_ptag c.args.tagging (pairs_from 0 all) (no_pairs 0 all (sym c.no_pairs.ensures ∙ c.if-no_pairs.true))) wrote_none

pub put_u4-first-requires : goal.put_u4-first-requires
unfolding bytes
put_u4-first-requires c =
    room (opened c.args.run.now c.args.index c.args.tagging c.no_pairs.ensures c.if-no_pairs.false c.args.out.now c.args.at c.requires.2)

pub put_pairs-end-requires : goal.put_pairs-end-requires
unfolding bytes
put_pairs-end-requires c =
    (c.requires.0, c.requires.1, room (turn (opened c.args.run.now c.args.index c.args.tagging c.no_pairs.ensures c.if-no_pairs.false c.args.out.now c.args.at c.requires.2) c.put_u4-first.ensures))

pub close_chunk-requires : goal.close_chunk-requires
unfolding bytes
close_chunk-requires c =
    let a = c.args in
    close_room (whole a.run.now a.index a.tagging c.no_pairs.ensures c.if-no_pairs.false c.args.out.now c.args.at c.requires.2)
    (end (turn (turn (opened a.run.now a.index a.tagging c.no_pairs.ensures c.if-no_pairs.false c.args.out.now c.args.at c.requires.2) c.put_u4-first.ensures) c.put_pairs-end.ensures))

pub returns : goal.returns
unfolding bytes number
returns c =
    let a = c.args in
    closed (whole a.run.now a.index a.tagging c.no_pairs.ensures c.if-no_pairs.false c.args.out.now c.args.at c.requires.2)
    (end (turn (turn (opened a.run.now a.index a.tagging c.no_pairs.ensures c.if-no_pairs.false c.args.out.now c.args.at c.requires.2) c.put_u4-first.ensures) c.put_pairs-end.ensures)) c.close_chunk.ensures
