-- From the first pass, the test of room and the second pass to the specification's answer and tables.
use mathlib.Core.Path.{◌≡◌, sym, ap, ◌∙◌}
use mathlib.Core.List.{List, map}
use mathlib.Core.Bool.{Bool, true, false}
use Prim.Native.Nat.{ℕ, ◌≤◌}
use lib.ListN.{length, drop}
use Rattle.std.specs.Prelude.{Ok, Err}
use Rattle.format.specs.declared.Kind.{Kind}
use Rattle.format.specs.Bytes.{byte, all, sum}
use Rattle.format.specs.Limits.{file_limit}
use Rattle.format.specs.Items.{fine}
use Rattle.format.specs.Chunks.{chunks}
use Rattle.format.specs.Mesh.{Tables, needs}
use Rattle.format.specs.Bodies.{Part}
use Rattle.format.specs.Rules.{start, PartAt, walk, form, judged, mesh_of, skipped_of, details_of, parts_of, gives, outcome, rules}
use Rattle.format.specs.Promises.{walk_parts}
use Rattle.format.specs.Answer.{fits, answer, tables_after, Reads}
use Rattle.format.proofs.Verdicts.{FineWith, fine_with, stopped, then_fine, same_fine}
use Rattle.format.proofs.ChunkWalk.{parts_fine, within_limit}
use Rattle.wire.specs.declared.Refusal.{Refusal}
use Rattle.read_answer.specs.declared.ReadError.TheVariants.{Refused, NoRoom}
use Rattle.validate.specs.declared.counts.Totals.{Totals}
use Rattle.validate.specs.Promises.{totals_of, needs_in, FileJudged}
use Rattle.load.specs.Promises.{TablesRoom, TablesPut}
use Rattle.read_answer.specs.Reads.{answer_as, with_counts}

abbrev counts : Kind × List PartAt → Kind × Totals
counts f = (f.0, totals_of f.0 (parts_of f.1))

module _ {file : List ℕ} {t : Tables} where
  pub read_refused : {f : Refusal} → all byte file ≡ true → FileJudged file (Err f) → Reads file t (answer_as (Err (Refused f))) t
  unfolding rules outcome answer tables_after
  read_refused bytes w = let j = stopped (judged file) counts w.is in record { bytes = bytes; answers = rw j; leaves = rw j }

module _ {file : List ℕ} {kind : Kind} {totals : Totals} (w : FileJudged file (Ok (kind, totals))) where
  found : FineWith (judged file) counts (kind, totals)
  found = fine_with (judged file) counts w.is

  abbrev placed : List PartAt
  placed = found.value.1

  abbrev parts : List Part
  parts = parts_of placed

  kind_is : found.value.0 ≡ kind
  kind_is = ap (λ z. z.0) found.shows

  totals_are : totals ≡ totals_of kind parts
  totals_are = sym (ap (λ z. z.1) found.shows) ∙ ap (λ k. totals_of k parts) kind_is

  judged_is : judged file ≡ fine (kind, placed)
  judged_is = found.is ∙ ap (λ k. fine (k, placed)) kind_is

  -- the rules give a mesh, whose needs and counts are the totals
  mesh_is : rules file ≡ gives (mesh_of kind parts) (sum (map skipped_of parts)) (sum (map details_of parts))
  unfolding rules outcome
  mesh_is = rw judged_is

  -- its header and its chunks were judged fine
  few : length file ≤ file_limit
  unfolding judged
  few = within_limit file (then_fine (form file) _ judged_is).1

  walked : walk_parts kind start 12 (chunks (drop 12 file)) ≡ fine parts
  unfolding judged
  walked =
      let k = then_fine (form file) _ judged_is in
      let p = then_fine (walk k.0 start 12 (chunks (drop 12 file))) _ k.2 in
      let same : ◌≡◌ {A = Kind × List PartAt} (k.0, p.0) (kind, placed) = same_fine p.2 in
      parts_fine kind start 12 (chunks (drop 12 file)) (ap (λ z. walk z start 12 (chunks (drop 12 file))) (sym (ap (λ z. z.0) same)) ∙ p.1 ∙ ap fine (ap (λ z. z.1) same))

  -- the test of room is the one that the rules make
  fits_is : (t : Tables) {b : Bool} → b ≡ fits (needs_in totals) t → fits (needs (mesh_of kind parts)) t ≡ b
  unfolding totals_of
  fits_is t e = ap (λ z. fits (needs_in z) t) (sym totals_are) ∙ sym e

  pub tables_room : {t : Tables} {b : Bool} → b ≡ fits (needs_in totals) t → b ≡ true → TablesRoom kind file totals.names t
  unfolding totals_of needs mesh_of
  tables_room {t} e room = record { parts = parts; sound = walked; few = few; names_are = ap (λ z. z.names) totals_are; roomy = fits_is t e ∙ room }

  module _ {t : Tables} {b : Bool} (bytes : all byte file ≡ true) (e : b ≡ fits (needs_in totals) t) where
    pub read_accepted : {t' : Tables} → b ≡ true → TablesPut kind file t t' → Reads file t (answer_as (Ok totals)) t'
    unfolding answer tables_after totals_of
    read_accepted room p =
        let roomy : fits (needs (mesh_of kind parts)) t ≡ true = fits_is t e ∙ room in
        record {
          bytes = bytes;
          answers = ap (with_counts 0) totals_are ∙ rw (mesh_is, roomy);
          leaves = p.put parts walked ∙ rw (mesh_is, roomy);
        }

    pub read_no_room : b ≡ false → Reads file t (answer_as (Err (NoRoom totals))) t
    unfolding answer tables_after totals_of
    read_no_room none =
        let short : fits (needs (mesh_of kind parts)) t ≡ false = fits_is t e ∙ none in
        record { bytes = bytes; answers = ap (with_counts 16) totals_are ∙ rw (mesh_is, short); leaves = rw (mesh_is, short) }
