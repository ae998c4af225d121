-- What the answers on the chunks of a file say, in the specification's words. `s` is a chunk's bytes from its tag up to its body's end.
use Rattle.std.specs.Prelude.{ℕ, ◌+◌, ◌≤◌, ◌≡◌, List, map, length, drop, Some, None, Result, Ok, Err}
use Rattle.format.specs.declared.Kind.{Kind}
use Rattle.format.specs.Bytes.{sum}
use Rattle.format.specs.Items.{fine, ◌and_then◌}
use Rattle.format.specs.Mesh.{Needs, needs}
use Rattle.format.specs.Bodies.{Part}
use Rattle.format.specs.Rules.{judge, judged, mesh_of, skipped_of, details_of, parts_of}
use Rattle.format.specs.Promises.{file_parts}
use Rattle.wire.specs.declared.Refusal.{Refusal}
use Rattle.wire.specs.Promises.{verdict_as}
use Rattle.validate_chunk.specs.declared.lengths.Lengths.{Lengths}
use Rattle.validate_chunk.specs.declared.chunk.Counted.{Counted}
use Rattle.validate_chunk.specs.Promises.{counted_of, before_of}
use Rattle.validate.specs.declared.counts.Totals.{Totals}
use Rattle.validate.specs.declared.counts.Seen.{Seen}

-- ---- what was seen, and one part more

abbrev pub lengths_after : Lengths → Counted → Lengths
lengths_after l (Counted.Points n) = record { points = Some n; polygons = l.polygons; names = l.names }
lengths_after l (Counted.Names z) = record { points = l.points; polygons = l.polygons; names = Some z.count }
lengths_after l (Counted.Polygons z) = record { points = l.points; polygons = Some z.polygons; names = l.names }
lengths_after l Counted.Layer = record { points = None; polygons = None; names = l.names }
lengths_after l Counted.Nothing = l
lengths_after l Counted.Skipped = l

abbrev pub totals_with : Totals → Counted → Totals
totals_with t (Counted.Points n) = record {
  points = t.points + n;
  polygons = t.polygons;
  vertices = t.vertices;
  names = t.names;
  name_bytes = t.name_bytes;
  skipped = t.skipped;
  details = t.details;
}
totals_with t (Counted.Names z) = record {
  points = t.points;
  polygons = t.polygons;
  vertices = t.vertices;
  names = t.names + z.count;
  name_bytes = t.name_bytes + z.bytes;
  skipped = t.skipped;
  details = t.details;
}
totals_with t (Counted.Polygons z) = record {
  points = t.points;
  polygons = t.polygons + z.polygons;
  vertices = t.vertices + z.vertices;
  names = t.names;
  name_bytes = t.name_bytes;
  skipped = t.skipped;
  details = t.details + z.details;
}
totals_with t Counted.Layer = t
totals_with t Counted.Nothing = t
totals_with t Counted.Skipped = record {
  points = t.points;
  polygons = t.polygons;
  vertices = t.vertices;
  names = t.names;
  name_bytes = t.name_bytes;
  skipped = t.skipped + 1;
  details = t.details;
}

abbrev pub seen_with : Seen → Counted → Seen
seen_with seen part = record { lengths = lengths_after seen.lengths part; totals = totals_with seen.totals part }

-- all that is added up, together: a number that no sum can pass
abbrev pub all_of : Totals → ℕ
all_of t = t.points + t.polygons + t.vertices + t.names + t.name_bytes + t.skipped + t.details

abbrev pub weight : Counted → ℕ
weight (Counted.Points n) = n
weight (Counted.Names z) = z.count + z.bytes
weight (Counted.Polygons z) = z.polygons + z.vertices + z.details
weight Counted.Layer = 0
weight Counted.Nothing = 0
weight Counted.Skipped = 1

abbrev pub Grown : ℕ → Result Seen Refusal → Type 0
Grown most (Ok later) = all_of later.totals ≤ most
Grown most (Err f) = Unit

-- a chunk after what was seen: it adds no more than it has bytes
pub record OneMoreSeen (kind : Kind) (tag : ℕ) (seen : Seen) (s : List ℕ) (answer : Result Seen Refusal) : Type 0 where
  pub is : verdict_as answer ≡ (judge kind (before_of seen.lengths) tag (drop 8 s) and_then λ part. fine (seen_with seen (counted_of part)))
  pub grown : Grown (all_of seen.totals + length s) answer

-- ---- the file

abbrev pub nothing_seen : Seen
nothing_seen = record {
  lengths = record { points = None; polygons = None; names = None };
  totals = record { points = 0; polygons = 0; vertices = 0; names = 0; name_bytes = 0; skipped = 0; details = 0 };
}

-- "five needs (points, polygons, vertices, names, name bytes), the skipped count and the detail count" of a file that has a mesh
unfoldable pub totals_of : Kind → List Part → Totals
totals_of kind parts =
    let n = needs (mesh_of kind parts) in
    record {
      points = n.points;
      polygons = n.polygons;
      vertices = n.vertices;
      names = n.names;
      name_bytes = n.name_bytes;
      skipped = sum (map skipped_of parts);
      details = sum (map details_of parts);
    }

abbrev pub needs_in : Totals → Needs
needs_in t = record { points = t.points; polygons = t.polygons; vertices = t.vertices; names = t.names; name_bytes = t.name_bytes }

-- the chunks of a file, judged in file order
pub record ChunksJudged (kind : Kind) (file : List ℕ) (answer : Result Totals Refusal) : Type 0 where
  pub is : verdict_as answer ≡ (file_parts kind file and_then λ parts. fine (totals_of kind parts))

-- the whole of a file, judged
pub record FileJudged (file : List ℕ) (answer : Result (Kind × Totals) Refusal) : Type 0 where
  pub is : verdict_as answer ≡ (judged file and_then λ f. fine (f.0, totals_of f.0 (parts_of f.1)))
