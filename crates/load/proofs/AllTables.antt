-- Room for all that a mesh needs is room for each fill, and what the fills put is what the mesh's tables hold.
use mathlib.Core.Path.{◌≡◌, refl, sym, ap, ◌∙◌}
use mathlib.Core.List.{List, ◌++◌, map}
use mathlib.Core.Bool.{true}
use Prim.Native.Nat.{ℕ, ◌*◌, ◌/◌, ◌≤◌}
use native.Mathlib.Omega.{arith}
use native.Mathlib.Nat.{zero-add}
use lib.ListN.{length, drop, length-map}
use borrow.Author.Tests.{leb-true}
use Rattle.format.specs.declared.Kind.{Kind}
use Rattle.format.specs.Bytes.{joined, sum}
use Rattle.format.specs.Mesh.{point_words, point_size, polygon_size, record_size, Tables, tables, Needs, needs}
use Rattle.format.specs.Bodies.{Part}
use Rattle.format.specs.Rules.{points_of, mesh_of}
use Rattle.format.specs.Answer.{fits, over, filled}
use Rattle.format.specs.Promises.{Put, FileRoom, FilePut, names_of_parts}
use Rattle.format.proofs.Facts.{every_at, length_each, length_joined, joined_joined, map_joined}
use Rattle.load_lists.specs.Promises.{file_points, file_name_lengths, file_name_bytes}
use Rattle.load_polygon_chunks.specs.Promises.{all_polygons, file_polygons, file_vertices, FilePolygonsRoom}
use Rattle.format.proofs.PolygonTables.{vertices_length}
use Rattle.load_surfaces.specs.Promises.{file_records, RecordsRoom}
use Rattle.load.specs.Promises.{TablesRoom, TablesPut}

-- ---- the points of the chunks are those of the mesh

points_are : (parts : List Part) → file_points parts ≡ joined (map point_words (joined (map points_of parts)))
points_are parts = joined_joined (λ part. map point_words (points_of part)) parts ∙ ap joined (map_joined point_words points_of parts)

-- ---- room

record Roomy (n : Needs) (t : Tables) : Type 0 where
  points : n.points ≤ length t.points / point_size
  polygons : n.polygons ≤ length t.polygons / polygon_size
  vertices : n.vertices ≤ length t.vertices
  names : n.names ≤ length t.names
  name_bytes : n.name_bytes ≤ length t.name_bytes
  records : n.names ≤ length t.records / record_size

roomy : (n : Needs) (t : Tables) → fits n t ≡ true → Roomy n t
unfolding fits
roomy n t e = record {
  points = leb-true _ _ (every_at _ 0 e);
  polygons = leb-true _ _ (every_at _ 1 e);
  vertices = leb-true _ _ (every_at _ 2 e);
  names = leb-true _ _ (every_at _ 3 e);
  name_bytes = leb-true _ _ (every_at _ 4 e);
  records = leb-true _ _ (every_at _ 5 e);
}

module _ {kind : Kind} {file : List ℕ} {name_count : ℕ} {t : Tables} (r : TablesRoom kind file name_count t) where
  room : Roomy (needs (mesh_of kind r.parts)) t
  room = roomy (needs (mesh_of kind r.parts)) t r.roomy

  pub points_room : FileRoom file_points kind file t.points
  unfolding needs mesh_of
  points_room =
      let l : length (file_points r.parts) ≡ length (joined (map points_of r.parts)) * point_size = rw (points_are r.parts) (length_each point_size point_words (λ p. refl) (joined (map points_of r.parts))) in
      record { parts = r.parts; sound = r.sound; fits = omega (arith, l, room.points) }

  pub lengths_room : FileRoom file_name_lengths kind file t.names
  unfolding needs mesh_of
  lengths_room =
      let l : length (file_name_lengths r.parts) ≡ length (names_of_parts r.parts) = length-map (names_of_parts r.parts) length in
      record { parts = r.parts; sound = r.sound; fits = omega (arith, l, room.names) }

  pub bytes_room : FileRoom file_name_bytes kind file t.name_bytes
  unfolding needs mesh_of
  bytes_room =
      let l : length (file_name_bytes r.parts) ≡ sum (map length (names_of_parts r.parts)) = sym (length_joined (names_of_parts r.parts)) in
      record { parts = r.parts; sound = r.sound; fits = omega (arith, l, room.name_bytes) }

  pub polygons_room : FilePolygonsRoom kind file name_count t.polygons t.vertices
  unfolding needs mesh_of
  polygons_room = record {
    parts = r.parts;
    sound = r.sound;
    names_are = r.names_are;
    few = r.few;
    words_fit = omega (arith, room.polygons);
    vertices_fit = omega (arith, vertices_length (all_polygons r.parts), room.vertices);
  }

  -- the names stand in their tables by now
  pub records_room : {lengths bytes : List ℕ} → FilePut file_name_lengths kind file t.names lengths → FilePut file_name_bytes kind file t.name_bytes bytes
      → RecordsRoom kind file name_count lengths bytes t.records
  unfolding needs mesh_of
  records_room {lengths} {bytes} p q = record {
    parts = r.parts;
    sound = r.sound;
    names_are = r.names_are;
    more_lengths = _;
    lengths_hold = (p.put r.parts r.sound).put;
    more_bytes = _;
    bytes_hold = (q.put r.parts r.sound).put;
    fits = omega (arith, r.names_are, room.records);
  }

-- ---- the tables after the fills

put_over : {t ws t' : List ℕ} → Put t 0 ws t' → t' ≡ over ws t
put_over {t} {ws} p = p.put ∙ ap (λ n. ws ++ drop n t) (zero-add (length ws))

same_tables : (t t' : Tables) → t.points ≡ t'.points → t.polygons ≡ t'.polygons → t.vertices ≡ t'.vertices → t.names ≡ t'.names
    → t.name_bytes ≡ t'.name_bytes → t.records ≡ t'.records → t ≡ t'
same_tables t t' p g v n b s = λ i. record { points = p i; polygons = g i; vertices = v i; names = n i; name_bytes = b i; records = s i }

pub all_put : {kind : Kind} {file : List ℕ} {t t' : Tables}
    → FilePut file_points kind file t.points t'.points
    → FilePut file_polygons kind file t.polygons t'.polygons
    → FilePut file_vertices kind file t.vertices t'.vertices
    → FilePut file_name_lengths kind file t.names t'.names
    → FilePut file_name_bytes kind file t.name_bytes t'.name_bytes
    → FilePut (file_records kind) kind file t.records t'.records
    → TablesPut kind file t t'
unfolding tables mesh_of filled
all_put {kind} {file} {t} {t'} points polygons vertices lengths bytes records = record {
  put = λ parts e.
      same_tables t' _
      (put_over (rw (points_are parts) at (points.put parts e)))
      (put_over (polygons.put parts e))
      (put_over (vertices.put parts e))
      (put_over (lengths.put parts e))
      (put_over (bytes.put parts e))
      (put_over (records.put parts e));
}
