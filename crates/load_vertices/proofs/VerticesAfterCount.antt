-- A polygon that starts with a count and so many vertices, where all of it is fine: none of them is cut, and the vertices have room.
use mathlib.Core.Path.{◌≡◌, sym, ap, ◌∙◌}
use mathlib.Core.Bool.{Bool}
use mathlib.Core.List.{List}
use Prim.Native.Nat.{ℕ}
use native.Mathlib.Omega.{arith}
use lib.ListN.{length, drop}
use Rattle.format.specs.declared.Fault.TheVariants.{VertexCount}
use Rattle.format.specs.Items.{◌and_then◌, fine, Got, Reader, ◌>>=◌, ◌or◌unless◌, times, u2}
use Rattle.format.specs.Mesh.{Polygon}
use Rattle.format.specs.Bodies.{vertex}
use Rattle.format.specs.Promises.{got, itself, taking, Says, ReadsAt, Succeeds}
use Rattle.format.proofs.ReaderSteps.{on}
use Rattle.format.proofs.Entries.{times_length}
use Rattle.format.proofs.Inversion.{sound_first, sound_good, then_at}
use Rattle.wire.proofs.ReadAgain.{sound_item}
use Rattle.load_vertices.specs.declared.Lists.{Lists}
use Rattle.load_vertices.specs.declared.Ends.{Ends}
use Rattle.load_vertices.specs.Promises.{VerticesRoom, EntryRoom}

abbrev pub run_of : (count : ℕ → ℕ) (ok : ℕ → Bool) (item : Reader ℕ) (points : ℕ) → Reader (List ℕ)
run_of count ok item points = (u2 or VertexCount unless ok) >>= (λ n. times (count n) (vertex item points))

pub after_first : {A B : Type 0} (r : Reader A) (k : A → Reader B) (at : ℕ) (t : List ℕ) (g : Got A) → r at t ≡ fine g
    → (r >>= k) at t ≡ k g.value g.next g.left
unfolding ◌>>=◌ ◌and_then◌
after_first r k at t g e = rw e

-- `k` reads what follows the vertices, and the polygon keeps them
module _ {A : Type 0} (count : ℕ → ℕ) (ok : ℕ → Bool) (item : Reader ℕ) (k : List ℕ → Reader A) (held : A → Polygon)
    (keeps : (vs : List ℕ) (at : ℕ) (t : List ℕ) (g : Got A) → k vs at t ≡ fine g → (held g.value).vertices ≡ vs)
    {l : Lists} {e : Ends} {s : List ℕ} {at : ℕ} {words vertices : List ℕ}
    (r : EntryRoom (run_of count ok item l.points >>= k) held l e s at words vertices) where
  run : Succeeds (run_of count ok item l.points at (drop at s))
  run = sound_first _ _ at (drop at s) r.sound

  pub counted_fine : Succeeds (u2 at (drop at s))
  counted_fine = sound_item u2 VertexCount ok at (drop at s) (sound_first _ _ at (drop at s) run)

  module _ {n next : ℕ} (w : ReadsAt u2 (taking 2) s at (got s n next)) where
    counted : Says (u2 or VertexCount unless ok) itself s at (got s n next)
    counted = sound_good _ _ w.says (sound_first _ _ at (drop at s) run)

    ahead : run_of count ok item l.points at (drop at s) ≡ times (count n) (vertex item l.points) next (drop next s)
    ahead = then_at _ _ counted

    sound : Succeeds (times (count n) (vertex item l.points) next (drop next s))
    sound = rw ahead at run

    long : length (held r.sound.value.value).vertices ≡ count n
    long =
        let v = sound.value in
        let rest : k v.value v.next v.left ≡ fine r.sound.value
        = sym (after_first (run_of count ok item l.points) k at (drop at s) v (ahead ∙ sound.is)) ∙ r.sound.is in
        ap length (keeps v.value v.next v.left r.sound.value rest) ∙ times_length _ (count n) next (drop next s) v sound.is

    pub run_room : VerticesRoom item (count n) l.points l.base s next vertices e.vertices
    run_room = record { sound = sound; room = omega (arith, r.vertices_fit, long); small = r.small }

    pub run_says : {vs : List ℕ} {end : ℕ} → Says (times (count n) (vertex item l.points)) itself s next (got s vs end)
        → Says (run_of count ok item l.points) itself s at (got s vs end)
    run_says v = on _ counted v
