-- What a polygon of an LWOB file starts with is a count, vertices and a surface number: it is put as they are.
use mathlib.Core.Path.{◌≡◌, refl, sym, ap, ◌∙◌}
use mathlib.Core.List.{List, [], ◌∷◌, map}
use Prim.Native.Nat.{ℕ, ◌+◌}
use native.Mathlib.Omega.{arith}
use lib.ListN.{length, drop}
use lib.IntN.{ℤ}
use Rattle.format.specs.Bytes.{between, absolute}
use Rattle.format.specs.Limits.{lwob_vertex_limit}
use Rattle.format.specs.Items.{Verdict, fine, fault, Got, ◌and_then◌, Reader, ◌>>=◌, give, u2, i2}
use Rattle.format.specs.Mesh.{polygon_of, Polygon}
use Rattle.format.specs.Bodies.{lwob_vertices}
use Rattle.format.specs.Promises.{got, itself, taking, Says, Keeps, ReadsAt, Succeeds, Put}
use Rattle.format.proofs.ReaderSteps.{on, on_some, given}
use Rattle.format.proofs.Inversion.{sound_first, sound_next}
use Rattle.wire.specs.declared.cursor.Cursor.{Cursor}
use Rattle.wire.specs.declared.cursor.SignedSurface.{SignedSurface}
use Rattle.wire.specs.Promises.{signed_surface_of}
use Rattle.load_vertices.specs.declared.Lists.{Lists}
use Rattle.load_vertices.specs.declared.Ends.{Ends}
use Rattle.load_vertices.specs.Promises.{VerticesRoom, VerticesPut, EntryRoom, lwob_entry, LwobEntryPut}
use Rattle.load_vertices.proofs.PutVertices.{above_length, vertices_counted}
use Rattle.load_vertices.proofs.VerticesAfterCount.{counted_fine, run_room, run_says}

module _ (kind : ℕ) where
  abbrev pub surfaced : List ℕ → ℤ → Polygon
  surfaced vs z = polygon_of kind (absolute z) 0 vs

  abbrev pub rest : List ℕ → Reader Polygon
  rest vs = i2 >>= (λ z. give (surfaced vs z))

  rest_keeps : (vs : List ℕ) (at : ℕ) (t : List ℕ) (g : Got Polygon) → rest vs at t ≡ fine g → g.value.vertices ≡ vs
  unfolding ◌>>=◌ ◌and_then◌
  rest_keeps vs at t g e = by (i2 at t) e
    where
      by : (v : Verdict (Got ℤ)) → (v and_then λ z. give (surfaced vs z.value) z.next z.left) ≡ fine g → g.value.vertices ≡ vs
      by (fine z) q = let same : record { value = surfaced vs z.value; next = z.next; left = z.left } ≡ g = cc in sym (ap (λ g. g.value.vertices) same)
      by (fault why p) q = absurd (let z : ◌≡◌ {A = ℕ} 0 1 = cc in omega arith)

  module _ {l : Lists} {e : Ends} {s : List ℕ} {at : ℕ} {words vertices : List ℕ}
      (r : EntryRoom (lwob_entry l.points kind) itself l e s at words vertices) where
    pub count_fine : Succeeds (u2 at (drop at s))
    unfolding lwob_entry lwob_vertices
    count_fine = counted_fine itself (between 1 lwob_vertex_limit) u2 rest itself rest_keeps r

    module _ {n next : ℕ} (w : ReadsAt u2 (taking 2) s at (got s n next)) where
      pub vertices_room : VerticesRoom u2 n l.points l.base s next vertices e.vertices
      unfolding lwob_entry lwob_vertices
      vertices_room = run_room itself (between 1 lwob_vertex_limit) u2 rest itself rest_keeps r w

      module _ {vertices' : List ℕ} {end : ℕ} (q : VerticesPut u2 n l.points l.base s next vertices e.vertices vertices' end) where
        run : Says (lwob_vertices l.points) itself s at (got s q.vertices end)
        unfolding lwob_entry lwob_vertices
        run = run_says itself (between 1 lwob_vertex_limit) u2 rest itself rest_keeps r w q.reads.says

        pub surface_fine : Succeeds (i2 end (drop end s))
        unfolding lwob_entry
        surface_fine = sound_first _ _ end (drop end s) (sound_next _ _ run r.sound)

        pub lwob_entry_put : {x : SignedSurface} {last : Cursor} {words' : List ℕ} → Keeps i2 signed_surface_of (taking 2) s end (got s x last.at)
            → Put words e.polygons (kind ∷ n ∷ x.number ∷ 0 ∷ []) words'
            → LwobEntryPut kind l e s at words words' vertices vertices' (record { next = last; vertices = n }, x)
        unfolding lwob_entry
        lwob_entry_put {x} {last} v p =
            let many = vertices_counted q in
            let placed : length (map (λ v. l.base + v) q.vertices) ≡ n = above_length l.base q.vertices ∙ many in
            let made : Polygon = polygon_of kind x.number 0 q.vertices in
            let is : (z : ℤ) → signed_surface_of z ≡ x → surfaced q.vertices z ≡ made
            = λ z e. ap (λ y. polygon_of kind y.number 0 q.vertices) e in
            record {
              put = record {
                entry = made;
                reads = record { says = on _ run (on_some _ v.says (λ z e. given (is z e))); moves = omega (arith, w.moves, q.reads.moves, v.moves) };
                count = sym many;
                put_words = rw placed p;
                put_vertices = q.put;
              };
              end = end;
              run = run;
              sign = v;
              made = refl;
            }
