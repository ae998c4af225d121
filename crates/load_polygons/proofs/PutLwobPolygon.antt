-- A face or a patch that was judged fine starts as every LWOB polygon does, so that it is put as its start is; a face's details are only read past.
use mathlib.Core.Path.{◌≡◌, sym, ap, ◌∙◌}
use mathlib.Core.Bool.{Bool}
use mathlib.Core.List.{List}
use Prim.Native.Nat.{ℕ}
use native.Mathlib.Omega.{arith}
use lib.ListN.{drop}
use lib.IntN.{ℤ}
use Rattle.std.specs.Prelude.{Result}
use Rattle.std.specs.Result.{IsOk}
use Rattle.format.specs.declared.Fault.{Fault}
use Rattle.format.specs.declared.Fault.TheVariants.{SurfaceNumber}
use Rattle.format.specs.Bytes.{between, absolute}
use Rattle.format.specs.Items.{fine, Got, Reader, ◌>>=◌, give, ◌or◌unless◌, i2}
use Rattle.format.specs.Mesh.{polygon_of, Polygon, FACE, PATCH}
use Rattle.format.specs.Bodies.{lwob_vertices, details_after, face, patch}
use Rattle.format.specs.Promises.{got, itself, each, Says, ReadsAt, Succeeds}
use Rattle.format.proofs.ReaderSteps.{Met, met, exact, exactly, on, given}
use Rattle.format.proofs.Inversion.{sound_first, sound_next, sound_good}
use Rattle.format.proofs.Verdicts.{same_fine, then_fine, chosen}
use Rattle.wire.specs.declared.Refusal.{Refusal}
use Rattle.wire.specs.declared.cursor.Cursor.{Cursor}
use Rattle.wire.specs.declared.cursor.SignedSurface.{SignedSurface}
use Rattle.wire.specs.Promises.{signed_surface_of, read_as}
use Rattle.polygon_details.specs.Promises.{details_if}
use Rattle.polygon_details.proofs.DetailsBySign.{by_sign}
use Rattle.load_vertices.specs.declared.Lists.{Lists}
use Rattle.load_vertices.specs.declared.Ends.{Ends}
use Rattle.load_vertices.specs.declared.PolygonStored.{PolygonStored}
use Rattle.load_vertices.specs.Promises.{EntryRoom, EntryPut, lwob_entry, LwobEntryPut}
use Rattle.load_vertices.proofs.Unwrapped.{there}
use Rattle.load_vertices.proofs.VerticesAfterCount.{after_first}
use Rattle.load_vertices.proofs.PutLwobEntry.{surfaced, rest}

-- what two readers read, one after the other
follows : {A B : Type 0} (r : Reader A) (k : A → Reader B) (at : ℕ) (t : List ℕ) (g : Got B) → (r >>= k) at t ≡ fine g
    → (a : Got A) × (r at t ≡ fine a) × (k a.value a.next a.left ≡ fine g)
unfolding ◌>>=◌
follows r k at t g e = then_fine (r at t) _ e

-- a judged item that is fine is the item
unjudged_is : {A : Type 0} (r : Reader A) (why : Fault) (ok : A → Bool) (at : ℕ) (t : List ℕ) (g : Got A) → (r or why unless ok) at t ≡ fine g → r at t ≡ fine g
unfolding ◌or◌unless◌
unjudged_is r why ok at t g e =
    let a = then_fine (r at t) _ e in
    a.1 ∙ (chosen (ok a.0.value) (fine a.0) why at a.2).1

start_is : (points kind at : ℕ) (t : List ℕ) (v : Got (List ℕ)) → lwob_vertices points at t ≡ fine v → (z : Got ℤ) → i2 v.next v.left ≡ fine z
    → lwob_entry points kind at t ≡ fine (record { value = surfaced kind v.value z.value; next = z.next; left = z.left })
unfolding lwob_entry
start_is points kind at t v e z e' = after_first (lwob_vertices points) (rest kind) at t v e
    ∙ after_first i2 (λ x. give (surfaced kind v.value x)) v.next v.left z e'

patch_start : (points names at : ℕ) (t : List ℕ) (g : Got Polygon) → patch points names at t ≡ fine g → lwob_entry points PATCH at t ≡ fine g
unfolding patch
patch_start points names at t g e =
    let v = follows (lwob_vertices points) _ at t g e in
    let z = follows _ _ v.0.next v.0.left g v.2 in
    let made : record { value = surfaced PATCH v.0.value z.0.value; next = z.0.next; left = z.0.left } ≡ g = same_fine z.2 in
    start_is points PATCH at t v.0 v.1 z.0 (unjudged_is i2 _ _ _ _ z.0 z.1) ∙ ap fine made

face_start : (points names at : ℕ) (t : List ℕ) (g : Got (Polygon × ℕ)) → face points names at t ≡ fine g
    → (o : Got Polygon) × (lwob_entry points FACE at t ≡ fine o) × (o.value ≡ g.value.0)
unfolding face
face_start points names at t g e =
    let v = follows (lwob_vertices points) _ at t g e in
    let z = follows _ _ v.0.next v.0.left g v.2 in
    let n = follows (details_after points names z.0.value) _ z.0.next z.0.left g z.2 in
    let made : ◌≡◌ {A = Got (Polygon × ℕ)} (record { value = (surfaced FACE v.0.value z.0.value, n.0.value); next = n.0.next; left = n.0.left }) g
    = same_fine n.2 in (
      record { value = surfaced FACE v.0.value z.0.value; next = z.0.next; left = z.0.left },
      start_is points FACE at t v.0 v.1 z.0 (unjudged_is i2 _ _ _ _ z.0 z.1),
      ap (λ g. g.value.0) made,
    )

module _ {l : Lists} {e : Ends} {s : List ℕ} {at : ℕ} {words vertices : List ℕ} where
  module _ (r : EntryRoom (patch l.points l.names) itself l e s at words vertices) where
    reads_too : lwob_entry l.points PATCH at (drop at s) ≡ fine r.sound.value
    reads_too = patch_start l.points l.names at (drop at s) r.sound.value r.sound.is

    pub patch_room : EntryRoom (lwob_entry l.points PATCH) itself l e s at words vertices
    patch_room = record {
      sound = record { value = r.sound.value; is = reads_too };
      words_fit = r.words_fit;
      vertices_fit = r.vertices_fit;
      small = r.small;
    }

    pub patch_put : {words' vertices' : List ℕ} {next many : ℕ}
        → EntryPut (lwob_entry l.points PATCH) itself l e s at words words' vertices vertices' next many
        → EntryPut (patch l.points l.names) itself l e s at words words' vertices vertices' next many
    patch_put q =
        let is : patch l.points l.names at (drop at s) ≡ got s q.entry _ = r.sound.is ∙ sym reads_too ∙ exactly q.reads.says in
        record {
          entry = q.entry;
          reads = record { says = exact (sym is); moves = q.reads.moves };
          count = q.count;
          put_words = q.put_words;
          put_vertices = q.put_vertices;
        }

  module _ (r : EntryRoom (face l.points l.names) (λ f. f.0) l e s at words vertices) where
    pub face_room : EntryRoom (lwob_entry l.points FACE) itself l e s at words vertices
    face_room =
        let o = face_start l.points l.names at (drop at s) r.sound.value r.sound.is in
        record { sound = record { value = o.0; is = o.1 }; words_fit = r.words_fit; vertices_fit = rw o.2 r.vertices_fit; small = r.small }

    module _ {words' vertices' : List ℕ} {put : PolygonStored} {sign : SignedSurface} (q : LwobEntryPut FACE l e s at words words' vertices vertices' (put, sign)) where
      abbrev rule : ℤ → Bool
      rule z = between 1 l.names (absolute z)

      -- the surface number that was read, and that it was judged to be good
      number_read : Met signed_surface_of (i2 q.end (drop q.end s)) s sign put.next.at
      number_read = met q.sign.says

      number_good : Says (i2 or SurfaceNumber unless rule) itself s q.end (got s number_read.value put.next.at)
      unfolding face
      number_good = sound_good SurfaceNumber rule (exact (sym number_read.is))
          (sound_first _ _ q.end (drop q.end s) (sound_next _ _ q.run r.sound))

      details_sound : Succeeds (details_after l.points l.names number_read.value put.next.at (drop put.next.at s))
      unfolding face
      details_sound = sound_first _ _ _ _ (sound_next _ _ number_good (sound_next _ _ q.run r.sound))

      pub details_there : (answer : Result (ℕ × Cursor) Refusal)
          → ReadsAt (details_if sign.negative l.points l.names) (each 2) s put.next.at (read_as s answer) → IsOk answer
      details_there answer d = there answer details_sound
          (record { says = by_sign l.points l.names number_read.value number_read.shows d.says; moves = d.moves })

      pub face_put : {n next : ℕ} → ReadsAt (details_if sign.negative l.points l.names) (each 2) s put.next.at (got s n next)
          → EntryPut (face l.points l.names) (λ f. f.0) l e s at words words' vertices vertices' next put.vertices
      unfolding face
      face_put {n} d =
          let z = number_read.value in
          let made : ◌≡◌ {A = Polygon} (surfaced FACE q.put.entry.vertices z) q.put.entry
          = ap (λ y. polygon_of FACE y.number 0 q.put.entry.vertices) number_read.shows ∙ sym q.made in
          record {
            entry = (q.put.entry, n);
            reads = record {
              says = on _ q.run (on _ number_good
                  (on _ (by_sign l.points l.names z number_read.shows d.says) (given (ap (λ p. (p, n)) made))));
              moves = omega (arith, q.put.reads.moves, d.moves);
            };
            count = q.put.count;
            put_words = q.put.put_words;
            put_vertices = q.put.put_vertices;
          }
