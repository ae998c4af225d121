-- What the answer on a chunk says, in the specification's words. `s` is a chunk's bytes from its tag up to its body's end.
use Rattle.std.specs.Prelude.{ℕ, ◌≡◌, true, List, map, ◌&&◌, eqb, length, drop, if◌then◌else◌, Option, Some, None, Result, MatchResult}
use Rattle.std.proofs.Math.Option.{Option as option, none, some}
use Rattle.format.specs.declared.Fault.TheVariants.{OutOfOrder}
use Rattle.format.specs.Bytes.{tag_number, sum}
use Rattle.format.specs.Items.{Verdict, fine, fault, ◌and_then◌}
use Rattle.format.specs.Bodies.{Part, point_list, name_list, polygon_list, tagging, surface, layer, skipped_chunk, faces_body, patches_body}
use Rattle.format.specs.Rules.{Before, there, count, when◌read◌}
use Rattle.wire.specs.declared.Refusal.{Refusal}
use Rattle.wire.specs.Promises.{verdict_as}
use Rattle.validate_polygons.specs.Promises.{sizes_of}
use Rattle.validate_chunk.specs.declared.lengths.Lengths.{Lengths}
use Rattle.validate_chunk.specs.declared.chunk.Counted.{Counted}

-- what a part adds to the counts
unfoldable pub counted_of : Part → Counted
counted_of (point_list ps) = Counted.Points (length ps)
counted_of (name_list ns) = Counted.Names (record { count = length ns; bytes = sum (map length ns) })
counted_of (polygon_list ps n) = Counted.Polygons (sizes_of (polygon_list ps n))
counted_of (tagging t ts) = Counted.Nothing
counted_of (surface s) = Counted.Nothing
counted_of layer = Counted.Layer
counted_of skipped_chunk = Counted.Skipped

abbrev pub length_as : Option ℕ → option ℕ
length_as None = none
length_as (Some n) = some n

abbrev pub before_of : Lengths → Before
before_of l = record { points = length_as l.points; polygons = length_as l.polygons; names = length_as l.names }

abbrev pub out_of_order : Refusal
out_of_order = record { why = OutOfOrder; at = 0 }

-- a list that must come earlier is there, or the chunk is out of order
abbrev pub EarlierIs : Option ℕ → Result ℕ Refusal → Type 0
EarlierIs list answer = MatchResult answer (λ n. list ≡ Some n) (λ f. (list ≡ None) × (f ≡ out_of_order))

-- a list that comes once is not there yet, or the chunk is out of order
abbrev pub OnceIs : Option ℕ → Result (Unit {0}) Refusal → Type 0
OnceIs list answer = MatchResult answer (λ y. list ≡ None) (λ f. (there (length_as list) ≡ true) × (f ≡ out_of_order))

-- what a chunk is judged to be, of its counts; its body starts at 8
pub record CountsOf (judging : List ℕ → Verdict Part) (s : List ℕ) (answer : Result Counted Refusal) : Type 0 where
  pub is : verdict_as answer ≡ (judging (drop 8 s) and_then λ part. fine (counted_of part))

-- POLS, whose tag is tested here, and PCHS of an LWOB file: "both PNTS and SRFS must come earlier"
abbrev pub lwob_polygons : Before → (tag : ℕ) → List ℕ → Verdict Part
lwob_polygons b t =
    when there b.points && there b.names
    read (if eqb t (tag_number "POLS") then faces_body (count b.points) (count b.names) else patches_body (count b.points) (count b.names))
