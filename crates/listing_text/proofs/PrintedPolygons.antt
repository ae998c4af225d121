-- A walk over the polygons that puts the line of each behind those before it.
use Prim.Native.Nat.{ℕ, ◌+◌, ◌-◌, ◌*◌, ◌≤◌}
use mathlib.Core.Path.{◌≡◌, refl}
use mathlib.Core.List.{List, ◌∷◌, ◌++◌}
use native.Mathlib.Numerals.{add-one}
use native.Mathlib.Omega.{arith}
use lib.ListN.{length, take, drop}
use Rattle.format.specs.Mesh.{polygon_of, Polygon, polygon_size}
use Rattle.mesh.specs.declared.polygons.Polygon as view
use Rattle.mesh.specs.Lent.{mesh_polygons}
use Rattle.mesh.specs.Polygons.{polygon_at}
use Rattle.std.specs.declared.slice.ChunksExact.{ChunksExact}
use Rattle.std.specs.Slice.Iter.{chunks_exact_rest}
use Rattle.mesh.proofs.ColumnWalk.{NextEntry, NoEntry}
use Rattle.mesh.proofs.PolygonEntries as polygons
use Rattle.mesh.proofs.PolygonEntries.{PolygonEntries, own_length}
use Rattle.listing_text.specs.Text.{line_of, polygon_lines}
use Rattle.listing_text.specs.Prints.{Prints, LinesLent, PrintsLines, line_size}
use Rattle.listing_text.proofs.PrintedSoFar as text
use Rattle.listing_text.proofs.PrintedSoFar.{PrintedSoFar}

-- `number` polygons are put, and `first` vertices
pub record PrintedPolygons (ws vs t : List ℕ) (at : ℕ) (t' : List ℕ) (next number first : ℕ) (s : ChunksExact ℕ) : Type 0 where
  pub lent : LinesLent t at ws vs
  pub numbered : number * polygon_size + length (chunks_exact_rest s) ≡ length ws
  pub walk :
      PolygonEntries ws vs (λ ps. PrintedSoFar (polygon_lines 0 (mesh_polygons ws vs)) (polygon_lines number ps) t at t' next (119 * number + 21 * first)) s first

module _ {ws vs t t' : List ℕ} {at next number first : ℕ} {s : ChunksExact ℕ} (w : PrintedPolygons ws vs t at t' next number first s) (u : ChunksExact ℕ) where
  pub end : NoEntry s u → PrintsLines t at ws vs t' next
  unfolding polygon_lines
  end none = text.at_most (text.end (polygons.end w.walk u none) refl) (omega (arith, w.numbered, w.walk.agree))

  module _ (x : List ℕ) (step : NextEntry s u x) {p : view.Polygon} (is : p ≡ polygon_at x 0 first) where
    abbrev own : List ℕ
    own = take (p.end - first) (drop first vs)

    sizes : (first + length own ≡ p.end) × (p.end ≤ length vs)
    sizes = (own_length w.walk u x step is, polygons.room w.walk u x step is)

    numbered_on : (number + 1) * polygon_size + length (chunks_exact_rest u) ≡ length ws
    numbered_on = omega (arith, w.numbered, polygons.fewer w.walk u x step)

    pub room : next + line_size own ≤ length t'
    room = omega (arith, sizes, numbered_on, w.lent.room, w.walk.left.prints.few, w.walk.left.prints.wrote.kept)

    abbrev later : List Polygon
    later = mesh_polygons (chunks_exact_rest u) (drop p.end vs)

    next_line : {k : ℕ} → k ≡ number
        → polygon_lines number (polygon_of p.kind p.surface p.part_name own ∷ later) ≡ line_of k p.kind p.surface p.part_name own ++ polygon_lines (number + 1) later
    unfolding polygon_lines
    next_line k_is = rw (k_is, add-one number)

    pub turn : {k : ℕ} {t'' : List ℕ} {last : ℕ} → k ≡ number → Prints t' next (line_of k p.kind p.surface p.part_name own) t'' last (line_size own)
        → PrintedPolygons ws vs t at t'' last (number + 1) p.end u
    turn k_is v =
        let lines = text.turn (polygons.here w.walk u x step is) (next_line k_is) v (omega (arith, sizes, numbered_on, w.lent.room)) in
        record {
          lent = w.lent;
          numbered = numbered_on;
          walk = polygons.turn w.walk u x step is (text.more_room lines (omega (arith, sizes)));
        }
