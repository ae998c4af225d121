-- A walk over the runs: a walk over the polygons that goes on by a whole run, whose words and vertices are in front of what is left.
use Prim.Native.Nat.{ℕ, ◌+◌, ◌-◌, ◌<◌, ◌≤◌}
use mathlib.Core.Path.{◌≡◌, sym, ◌∙◌}
use mathlib.Core.List.{List, [], ◌∷◌}
use native.Mathlib.Omega.{arith}
use lib.ListN.{length, take, drop, length-drop}
use lib.Seq.{length-take-le}
use Rattle.format.specs.Bytes.{sum}
use Rattle.format.specs.Mesh.{Polygon, polygon_size}
use Rattle.format.specs.Canonical.{runs}
use Rattle.format.specs.Written.{vertex_counts}
use Rattle.mesh.specs.Lent.{mesh_polygons}
use Rattle.mesh.specs.Polygons.{PolygonsLent, run_end}
use Rattle.format.proofs.Indexed.{part}
use Rattle.mesh.proofs.PolygonWalk as polygons
use Rattle.mesh.proofs.PolygonWalk.{PolygonWalk}
use Rattle.mesh.proofs.Runs.{counts_at, runs_at}

-- `Left` is what the walker's fold has of the runs that are left
pub record RunWalk (ws vs : List ℕ) (Left : List (List Polygon) → Type 0) (at first : ℕ) : Type 0 where
  pub lent : PolygonsLent ws vs
  pub walk : PolygonWalk ws vs (λ ps. Left (runs ps)) at first

pub begin : {ws vs : List ℕ} {Left : List (List Polygon) → Type 0} → PolygonsLent ws vs → Left (runs (mesh_polygons ws vs)) → RunWalk ws vs Left 0 0
begin lent left = record { lent = lent; walk = polygons.begin lent.agree left }

module _ {ws vs : List ℕ} {Left : List (List Polygon) → Type 0} {at first : ℕ} (w : RunWalk ws vs Left at first) where
  pub end : length ws - at < polygon_size → Left []
  unfolding runs
  end short = polygons.end w.walk short

  module _ (fits : polygon_size ≤ length ws - at) {to : ℕ} (to_is : (to ≡ run_end ws at) × (to ≤ length ws)) where
    abbrev run : List ℕ
    run = take (to - at) (drop at ws)

    pub later : at + polygon_size ≤ to
    later = omega (arith, to_is.0)

    run_long : length run ≡ to - at
    run_long = length-take-le (to - at) (drop at ws) (omega (arith, to_is.1, length-drop at ws))

    pub run_few : length run ≤ length ws
    run_few = omega (arith, run_long, to_is.1)

    module _ {n : ℕ} (count : n ≡ sum (vertex_counts run)) where
      abbrev own : List ℕ
      own = take (first + n - first) (drop first vs)

      agree_on : first + (n + sum (vertex_counts (drop to ws))) ≡ length vs
      agree_on = omega (arith, w.walk.agree, counts_at ws vs at first to fits to_is.0 to_is.1)

      pub room : first + n ≤ length vs
      room = omega (arith, agree_on)

      long : length (take n (drop first vs)) ≡ n
      long = length-take-le n (drop first vs) (omega (arith, room, length-drop first vs))

      pub run_lent : PolygonsLent run own × (polygon_size ≤ length run)
      run_lent = (
        record {
          few = omega (arith, run_few, w.lent.few);
          few_vertices = rw (part first n vs) (omega (arith, long, room, w.lent.few_vertices));
          agree = rw (part first n vs) (sym count ∙ sym long);
        },
        omega (arith, run_long, later),
      )

      -- how many words of each table the run takes
      pub words : (at + length run ≡ to) × (length own ≡ n)
      words = (omega (arith, run_long, later), rw (part first n vs) long)

      abbrev others : List (List Polygon)
      others = runs (mesh_polygons (drop to ws) (drop (first + n) vs))

      next_run : runs (mesh_polygons (drop at ws) (drop first vs)) ≡ mesh_polygons run own ∷ others
      next_run = rw (part first n vs) (rw (← count) at (runs_at ws vs at first to fits to_is.0 to_is.1 (rw (← count) room)))

      pub here : Left (mesh_polygons run own ∷ others)
      here = rw next_run at w.walk.left

      pub turn : {Left' : List (List Polygon) → Type 0} → Left' others → RunWalk ws vs Left' to (first + n)
      turn left = record { lent = w.lent; walk = record { inside = to_is.1; agree = omega (arith, agree_on); left = left } }
