-- The polygons table walked entry by entry, together with the vertices: what is left is the polygon of the next entry, and those after it with the vertices
-- after its own.
use Prim.Native.Nat.{ℕ, ◌+◌, ◌-◌, ◌<◌, ◌≤◌}
use mathlib.Core.Path.{◌≡◌, ap}
use mathlib.Core.List.{List, [], ◌∷◌, ◌++◌}
use native.Mathlib.Omega.{arith}
use lib.ListN.{length, take, drop, length-append, length-drop}
use lib.Seq.{drop-drop, take_all, length-take-le}
use Rattle.std.specs.declared.slice.ChunksExact.{ChunksExact}
use Rattle.std.specs.Slice.Iter.{chunks_exact_rest, chunks_exact_size}
use Rattle.format.specs.Bytes.{sum}
use Rattle.format.specs.Mesh.{polygon_of, Polygon, word, polygon_size, polygon_from}
use Rattle.format.specs.Written.{vertex_counts, polygons_from, pieces}
use Rattle.mesh.specs.declared.polygons.Polygon as view
use Rattle.mesh.specs.Lent.{entry_at, mesh_polygons}
use Rattle.mesh.specs.Polygons.{polygon_at}
use Rattle.format.proofs.Indexed.{part}
use Rattle.mesh.proofs.Entries.{entries_none}
use Rattle.mesh.proofs.ColumnWalk.{entries_next, NextEntry, NoEntry}

polygons_next : (x more vs : List ℕ) → length x ≡ polygon_size
    → mesh_polygons (x ++ more) vs ≡ polygon_from x (take (word 1 x) vs) ∷ mesh_polygons more (drop (word 1 x) vs)
unfolding mesh_polygons polygons_from pieces
polygons_next x more vs long = rw (entries_next polygon_size x more (omega arith) long)

counts_next : (x more : List ℕ) → length x ≡ polygon_size → sum (vertex_counts (x ++ more)) ≡ word 1 x + sum (vertex_counts more)
unfolding sum
counts_next x more long = rw (entries_next polygon_size x more (omega arith) long)

polygons_none : (ws vs : List ℕ) → length ws < polygon_size → mesh_polygons ws vs ≡ []
unfolding mesh_polygons polygons_from
polygons_none ws vs short = rw (entries_none polygon_size ws short)

-- A walker holds this in its loop invariant: `begin` before the loop; `long`, `counted`, `ordered` and `room` are what its calls and slices ask; `here` is the
-- polygon of the entry, and `turn` goes on behind it; `end` is after the loop. `Left` is what the walker's fold has of the polygons that are left.
pub record PolygonEntries (ws vs : List ℕ) (Left : List Polygon → Type 0) (s : ChunksExact ℕ) (first : ℕ) : Type 0 where
  pub size_is : chunks_exact_size s ≡ polygon_size
  pub inside : length (chunks_exact_rest s) ≤ length ws
  pub agree : first + sum (vertex_counts (chunks_exact_rest s)) ≡ length vs
  pub left : Left (mesh_polygons (chunks_exact_rest s) (drop first vs))

pub begin : {ws vs : List ℕ} {Left : List Polygon → Type 0} {s : ChunksExact ℕ} → chunks_exact_rest s ≡ ws → chunks_exact_size s ≡ polygon_size
    → sum (vertex_counts ws) ≡ length vs → Left (mesh_polygons ws vs) → PolygonEntries ws vs Left s 0
begin rest size agree left = record { size_is = size; inside = rw rest (omega arith); agree = rw rest (omega (arith, agree)); left = rw rest left }

module _ {ws vs : List ℕ} {Left : List Polygon → Type 0} {s : ChunksExact ℕ} {first : ℕ} (w : PolygonEntries ws vs Left s first) (t : ChunksExact ℕ) where
  pub end : NoEntry s t → Left []
  end none = rw (polygons_none (chunks_exact_rest s) (drop first vs) (omega (arith, none.1.0, w.size_is))) at w.left

  module _ (x : List ℕ) (step : NextEntry s t x) where
    pub long : length x ≡ polygon_size
    long = rw (← w.size_is) step.1.1

    -- how many words the entries take
    pub fewer : length (chunks_exact_rest s) ≡ polygon_size + length (chunks_exact_rest t)
    fewer = omega (arith, ap length step.1.0, length-append x (chunks_exact_rest t), long)

    counts : first + (word 1 x + sum (vertex_counts (chunks_exact_rest t))) ≡ length vs
    counts = rw (← counts_next x (chunks_exact_rest t) long, ← step.1.0) w.agree

    -- what `polygon_at` asks: its vertices are there
    pub counted : first + word 1 x ≤ length vs
    counted = omega (arith, counts)

    pub whole : polygon_size ≤ length x
    whole = omega (arith, long)

    pub counted_in : first + word 1 (entry_at polygon_size 0 x) ≤ length vs
    counted_in = rw (take_all polygon_size x (omega (arith, long))) counted

    module _ {p : view.Polygon} (is : p ≡ polygon_at x 0 first) where
      -- its own vertices
      abbrev own : List ℕ
      own = take (p.end - first) (drop first vs)

      end_is : p.end ≡ first + word 1 x
      end_is = rw is (rw (take_all polygon_size x (omega (arith, long))))

      pub room : p.end ≤ length vs
      room = omega (arith, end_is, counted)

      pub ordered : first ≤ p.end
      ordered = omega (arith, end_is)

      pub own_length : first + length own ≡ p.end
      own_length =
          let n : ℕ = word 1 x in
          let size = length-take-le n (drop first vs) (omega (arith, counted, length-drop first vs)) in
          rw (end_is, part first n vs) (omega (arith, size))

      abbrev later : List Polygon
      later = mesh_polygons (chunks_exact_rest t) (drop p.end vs)

      pub here : Left (polygon_of p.kind p.surface p.part_name own ∷ later)
      here =
          let whole : entry_at polygon_size 0 x ≡ x = take_all polygon_size x (omega (arith, long)) in
          rw (is, whole, part first (word 1 x) vs, ← drop-drop (word 1 x) first vs)
          (rw (polygons_next x (chunks_exact_rest t) (drop first vs) long) at (rw step.1.0 at w.left))

      pub turn : {Left' : List Polygon → Type 0} → Left' later → PolygonEntries ws vs Left' t p.end
      turn left = record {
        size_is = rw (← w.size_is) step.0;
        inside = omega (arith, fewer, w.inside);
        agree = rw end_is (omega (arith, counts));
        left = left;
      }
