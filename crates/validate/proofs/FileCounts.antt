-- What is added up over the parts of a file is what the rules count in its mesh: new point numbers and tags change no counts.
use mathlib.Core.Path.{◌≡◌, refl, ap}
use mathlib.Core.List.{List, [], ◌∷◌, map}
use Prim.Native.Nat.{ℕ, ◌+◌}
use native.Mathlib.Omega.{arith}
use lib.ListN.{length, length-append, length-map}
use borrow.Author.Rules.{rules as finding}
use Rattle.format.specs.declared.Kind.{Kind}
use Rattle.format.specs.Bytes.{sum, joined}
use Rattle.format.specs.Mesh.{Polygon, needs}
use Rattle.format.specs.Bodies.{Part, point_list, name_list, polygon_list, tagging, surface, layer, skipped_chunk}
use Rattle.format.specs.Rules.{added, after, points_of, names_of, skipped_of, details_of, from, tagged, polygons_in, mesh_of}
use Rattle.format.specs.Promises.{polygons_listed, vertex_total}
use Rattle.format.proofs.Facts.{sum_map_append}
use Rattle.format.proofs.Tagging.{tagged_length, tagged_counts, from_counts}
use Rattle.format.proofs.SizeBound.{things}
use Rattle.validate_polygons.specs.Promises.{sizes_of}
use Rattle.validate_chunk.specs.declared.lengths.Lengths.{Lengths}
use Rattle.validate_chunk.specs.declared.chunk.Counted.{Counted}
use Rattle.validate_chunk.specs.Promises.{counted_of, before_of}
use Rattle.validate.specs.declared.counts.Totals.{Totals}
use Rattle.validate.specs.declared.counts.Seen.{Seen}
use Rattle.validate.specs.Promises.{lengths_after, totals_with, seen_with, nothing_seen, all_of, weight, totals_of}

-- one part after the other
unfoldable pub seen_after : Seen → List Part → Seen
seen_after seen [] = seen
seen_after seen (part ∷ parts) = seen_after (seen_with seen (counted_of part)) parts

-- the lengths that the code keeps are those that the rules judge by
pub same_before : (l : Lengths) (part : Part) → before_of (lengths_after l (counted_of part)) ≡ after (before_of l) part
unfolding after counted_of sizes_of polygons_listed
same_before l (point_list ps) = refl
same_before l (name_list ns) = refl
same_before l (polygon_list ps n) = refl
same_before l (tagging t ts) = refl
same_before l (surface s) = refl
same_before l layer = refl
same_before l skipped_chunk = refl

-- ---- all counts together

pub weight_is : (part : Part) → weight (counted_of part) ≡ things part
unfolding counted_of sizes_of polygons_listed added things
weight_is (point_list ps) = refl
weight_is (name_list ns) = refl
weight_is (polygon_list ps n) = refl
weight_is (tagging t ts) = refl
weight_is (surface s) = refl
weight_is layer = refl
weight_is skipped_chunk = refl

pub totals_grow : (t : Totals) (c : Counted) → all_of (totals_with t c) ≡ all_of t + weight c
totals_grow t (Counted.Points n) = omega arith
totals_grow t (Counted.Names z) = omega arith
totals_grow t (Counted.Polygons z) = omega arith
totals_grow t Counted.Layer = omega arith
totals_grow t Counted.Nothing = omega arith
totals_grow t Counted.Skipped = omega arith

-- ---- the totals

-- The polygons of the latest POLS are counted already, and held back in `polygons_in`.
record CountedFrom (parts : List Part) (base end : ℕ) (latest : List Polygon) (t t' : Totals) : Type 0 where
  points : t'.points ≡ t.points + length (joined (map points_of parts))
  polygons : t'.polygons + length latest ≡ t.polygons + length (polygons_in base end latest parts)
  vertices : t'.vertices + vertex_total latest ≡ t.vertices + vertex_total (polygons_in base end latest parts)
  names : t'.names ≡ t.names + length (joined (map names_of parts))
  bytes : t'.name_bytes ≡ t.name_bytes + sum (map length (joined (map names_of parts)))
  skipped : t'.skipped ≡ t.skipped + sum (map skipped_of parts)
  details : t'.details ≡ t.details + sum (map details_of parts)

counted_from : (parts : List Part) (seen : Seen) (base end : ℕ) (latest : List Polygon)
    → CountedFrom parts base end latest seen.totals (seen_after seen parts).totals
unfolding seen_after counted_of sizes_of polygons_listed added polygons_in joined sum
counted_from [] seen base end latest = search finding
counted_from (point_list ps ∷ parts) seen base end latest =
    let w = counted_from parts (seen_with seen (counted_of (point_list ps))) end (end + length ps) latest in
    let long = length-append ps (joined (map points_of parts)) in
    search finding
counted_from (name_list ns ∷ parts) seen base end latest =
    let w = counted_from parts (seen_with seen (counted_of (name_list ns))) base end latest in
    let long = length-append ns (joined (map names_of parts)) in
    let wide = sum_map_append length ns (joined (map names_of parts)) in
    search finding
counted_from (polygon_list ps n ∷ parts) seen base end latest =
    let w = counted_from parts (seen_with seen (counted_of (polygon_list ps n))) base end (map (from base) ps) in
    let all = polygons_in base end (map (from base) ps) parts in
    let long = length-append latest all in
    let wide = sum_map_append (λ (p : Polygon). length p.vertices) latest all in
    let few = length-map ps (from base) in
    let narrow = from_counts base ps in
    search finding
counted_from (tagging t ts ∷ parts) seen base end latest =
    let w = counted_from parts (seen_with seen (counted_of (tagging t ts))) base end (tagged latest t ts) in
    let few = tagged_length t ts latest in
    let narrow : vertex_total (tagged latest t ts) ≡ vertex_total latest = ap sum (tagged_counts t ts latest) in
    search finding
counted_from (surface s ∷ parts) seen base end latest =
    let w = counted_from parts (seen_with seen (counted_of (surface s))) base end latest in
    search finding
counted_from (layer ∷ parts) seen base end latest =
    let w = counted_from parts (seen_with seen (counted_of layer)) end end [] in
    let all = polygons_in end end [] parts in
    let long = length-append latest all in
    let wide = sum_map_append (λ (p : Polygon). length p.vertices) latest all in
    search finding
counted_from (skipped_chunk ∷ parts) seen base end latest =
    let w = counted_from parts (seen_with seen (counted_of skipped_chunk)) base end latest in
    search finding

pub totals_are : (kind : Kind) (parts : List Part) → totals_of kind parts ≡ (seen_after nothing_seen parts).totals
unfolding totals_of needs mesh_of sum
totals_are kind parts =
    let w = counted_from parts nothing_seen 0 0 [] in
    same _ _ (omega arith) (omega arith) (omega arith) (omega arith) (omega arith) (omega arith) (omega arith)
  where
    same : (t t' : Totals) → t.points ≡ t'.points → t.polygons ≡ t'.polygons → t.vertices ≡ t'.vertices → t.names ≡ t'.names
        → t.name_bytes ≡ t'.name_bytes → t.skipped ≡ t'.skipped → t.details ≡ t'.details → t ≡ t'
    same t t' p g v n b s d = λ i. record { points = p i; polygons = g i; vertices = v i; names = n i; name_bytes = b i; skipped = s i; details = d i }
