-- A walk over the polygons of a POLS that puts each behind those before it.
use Prim.Native.Nat.{ℕ, ◌+◌, ◌-◌, ◌≤◌, ◌^◌}
use mathlib.Core.Path.{◌≡◌, refl}
use mathlib.Core.List.{List, ◌∷◌, map}
use mathlib.Core.Bool.{true}
use native.Mathlib.Omega.{arith}
use lib.Dec.{ltb}
use lib.ListN.{length, take, drop, length-append}
use Rattle.format.specs.Bytes.{all, joined}
use Rattle.format.specs.Mesh.{polygon_of, Polygon}
use Rattle.format.specs.Canonical.{bytes, vx_bytes, polygon_bytes}
use Rattle.format.proofs.Facts.{all_part}
use Rattle.format.proofs.CanonicalLengths.{length_bytes}
use Rattle.mesh.specs.declared.polygons.Polygon as view
use Rattle.mesh.specs.Lent.{mesh_polygons}
use Rattle.mesh.specs.Polygons.{polygon_at}
use Rattle.std.specs.declared.slice.ChunksExact.{ChunksExact}
use Rattle.std.specs.Slice.Iter.{chunks_exact_rest}
use Rattle.mesh.proofs.ColumnWalk.{NextEntry, NoEntry}
use Rattle.mesh.proofs.PolygonEntries as polygons
use Rattle.mesh.proofs.PolygonEntries.{PolygonEntries}
use Rattle.format.specs.Promises.{total}
use Rattle.output.specs.Outputs.{Wrote}
use Rattle.output.proofs.PutSoFar as bytes_put
use Rattle.output.proofs.PutSoFar.{PutSoFar, NextPart}
use Rattle.write_runs.specs.Runs.{vertices_bytes}

abbrev polygons_bytes : List Polygon → List ℕ
polygons_bytes ps = joined (map polygon_bytes ps)

pub record PolsPut (ws vs t : List ℕ) (at : ℕ) (t' : List ℕ) (next first : ℕ) (s : ChunksExact ℕ) : Type 0 where
  pub small : all (λ v. ltb v (2 ^ 24)) vs ≡ true
  pub walk : PolygonEntries ws vs (λ ps. PutSoFar (polygons_bytes (mesh_polygons ws vs)) (polygons_bytes ps) t at t' next) s first

module _ {ws vs t t' : List ℕ} {at next first : ℕ} {s : ChunksExact ℕ} (w : PolsPut ws vs t at t' next first s) (u : ChunksExact ℕ) where
  pub end : NoEntry s u → Wrote t at (polygons_bytes (mesh_polygons ws vs)) t' next
  unfolding joined
  end none = bytes_put.end (polygons.end w.walk u none) refl

  module _ (x : List ℕ) (step : NextEntry s u x) {p : view.Polygon} (is : p ≡ polygon_at x 0 first) where
    abbrev own : List ℕ
    own = take (p.end - first) (drop first vs)

    abbrev later : List Polygon
    later = mesh_polygons (chunks_exact_rest u) (drop p.end vs)

    one : NextPart (polygons_bytes (polygon_of p.kind p.surface p.part_name own ∷ later)) (vertices_bytes own) (polygons_bytes later)
    unfolding joined polygon_bytes
    one = record { is = refl }

    pub room : (all (λ v. ltb v (2 ^ 24)) own ≡ true) × (next + length (vertices_bytes own) ≤ length t')
    room = (all_part (λ v. ltb v (2 ^ 24)) vs first (p.end - first) w.small, bytes_put.room (polygons.here w.walk u x step is) one)

    pub turn : {t'' : List ℕ} {last : ℕ} → Wrote t' next (vertices_bytes own) t'' last → PolsPut ws vs t at t'' last p.end u
    turn v = record { small = w.small; walk = polygons.turn w.walk u x step is (bytes_put.turn (polygons.here w.walk u x step is) one v) }

-- ---- one of them

pub polygon_parts : (vs : List ℕ) → length (vertices_bytes vs) ≡ 2 + total vx_bytes vs
polygon_parts vs = omega (arith, length-append (bytes 2 (length vs)) (joined (map vx_bytes vs)), length_bytes 2 (length vs))
