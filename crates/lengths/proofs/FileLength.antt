-- The whole file: a header, and the chunks of its four parts.
use Prim.Native.Nat.{ℕ, ◌+◌, ◌*◌, ◌/◌}
use mathlib.Core.Path.{◌≡◌, refl, ◌∙◌}
use mathlib.Core.List.{List, ◌++◌, map, map-map}
use native.Mathlib.Omega.{arith}
use lib.ListN.{length, length-map}
use Rattle.format.specs.Bytes.{sum, joined}
use Rattle.format.specs.Items.{string_size}
use Rattle.format.specs.Mesh.{point_size, record_size, point_from, surface_from, lent}
use Rattle.format.specs.Canonical.{string_bytes, point_bytes, runs, unless_empty, run_chunks, surface_chunks, canonical_chunks, encoded, canonical}
use Rattle.format.specs.Written.{pieces, entries, mesh_from}
use Rattle.format.proofs.Facts.{length_each}
use Rattle.format.proofs.Indexed.{pieces_lengths}
use Rattle.format.proofs.CanonicalLengths.{length_point, length_form}
use Rattle.mesh.specs.Lent.{column, mesh_polygons}
use Rattle.mesh.proofs.Entries as table
use Rattle.format.specs.Promises.{total}
use Rattle.lengths.specs.Sizes.{unless_none, surfaces_size}
use Rattle.format.proofs.Puts.{total_append}
use Rattle.lengths.proofs.ItemLengths.{unless_size, strings_size, surfaces_size_lem}

module _ (points polygons vertices names name_bytes records : List ℕ) (agree : sum names ≡ length name_bytes) where
  abbrev count : ℕ
  count = length points / point_size

  tags : total encoded (unless_empty "TAGS" "" string_bytes (pieces names name_bytes)) ≡ unless_none (length names) (sum (map string_size names))
  tags =
      let held : 0 + total string_bytes (pieces names name_bytes) ≡ sum (map string_size names) = omega (arith, strings_size names name_bytes agree) in
      unless_size "TAGS" "" string_bytes (pieces names name_bytes) refl ∙ rw (table.length_pieces names name_bytes, held)

  -- twelve bytes a point
  coordinates : total encoded (unless_empty "PNTS" "" point_bytes (map point_from (entries point_size points))) ≡ unless_none count (12 * count)
  coordinates =
      let ps = map point_from (entries point_size points) in
      let many : length ps ≡ count = length-map (entries point_size points) point_from ∙ table.length_entries point_size points in
      let held : 0 + total point_bytes ps ≡ 12 * count = omega (arith, length_each 12 point_bytes length_point ps) in
      unless_size "PNTS" "" point_bytes ps refl ∙ rw (many, held)

  surfaces : total encoded (surface_chunks (pieces names name_bytes) (map surface_from (entries record_size records))) ≡ surfaces_size names (column record_size 0 records)
  surfaces = surfaces_size_lem (pieces names name_bytes) (map surface_from (entries record_size records)) ∙ rw (pieces_lengths names name_bytes agree, map-map (λ s. s.defined) surface_from (entries record_size records))

  pub file_size : length (canonical (mesh_from (lent points polygons vertices names name_bytes records)))
      ≡ 12 + unless_none (length names) (sum (map string_size names)) + unless_none count (12 * count) + total encoded (joined (map run_chunks (runs (mesh_polygons polygons vertices)))) + surfaces_size names (column record_size 0 records)
  unfolding canonical canonical_chunks mesh_from mesh_polygons
  file_size =
      let a = unless_empty "TAGS" "" string_bytes (pieces names name_bytes) in
      let b = unless_empty "PNTS" "" point_bytes (map point_from (entries point_size points)) in
      let c = joined (map run_chunks (runs (mesh_polygons polygons vertices))) in
      let d = surface_chunks (pieces names name_bytes) (map surface_from (entries record_size records)) in
      omega (arith, length_form "LWO2" (joined (map encoded (a ++ (b ++ (c ++ d))))) refl, total_append encoded a (b ++ (c ++ d)), total_append encoded b (c ++ d), total_append encoded c d, tags, coordinates, surfaces)
