-- A SURF that was judged fine is its name and values, and no other chunk has any.
use Rattle.std.specs.Prelude.{Ok, Err}
use mathlib.Core.Path.{◌≡◌, refl, sym, ap, ◌∙◌}
use mathlib.Core.List.{List, []}
use mathlib.Core.Bool.{true, false}
use Prim.Native.Nat.{ℕ, ◌+◌, ◌-◌, ◌≤◌}
use native.Mathlib.Omega.{arith}
use lib.ListN.{length, take, drop, length-take, length-drop}
use Rattle.format.specs.declared.Kind.{Kind}
use Rattle.format.specs.declared.Kind.TheVariants.{LWOB, LWO2}
use Rattle.format.specs.declared.Container.TheVariants.{Surf}
use Rattle.format.specs.declared.Fault.TheVariants.{WrongLength}
use Rattle.format.specs.Bytes.{◌is◌, empty}
use Rattle.format.specs.Items.{fine, Got, ◌and_then◌, whole, ◌>>=◌, string}
use Rattle.format.specs.Mesh.{Name}
use Rattle.format.specs.Surfaces.{nested, surface_depth}
use Rattle.format.specs.Bodies.{Part, SurfaceChunk, surface, surface_strings, surface_body}
use Rattle.format.specs.Rules.{added, Before, judge, surfaces_of}
use Rattle.format.specs.Written.{pieces}
use Rattle.format.specs.Promises.{Succeeds}
use Rattle.format.proofs.Facts.{impossible}
use Rattle.format.proofs.Indexed.{part}
use Rattle.format.proofs.ReaderSteps.{exactly}
use Rattle.format.proofs.Verdicts.{then_fine, chosen, same_fine}
use Rattle.format.proofs.PartByTag.{holds_surface, always}
use Rattle.wire.specs.declared.Refusal.{Refusal}
use Rattle.wire.specs.declared.cursor.Cursor.{Cursor}
use Rattle.wire.specs.Promises.{TextAt}
use Rattle.load_records.specs.declared.record.Record.{Record}
use Rattle.load_records.specs.Promises.{surface_of, RecordAt}
use Rattle.load_surface_chunks.specs.Promises.{with_record, ChunkSound, SurfacesPut}

-- ---- the name that a SURF body starts with

same_surface : {a b : SurfaceChunk} → surface a ≡ surface b → a ≡ b
same_surface e = cc

-- the first string of a body
record Starts (body : List ℕ) (name : Name) : Type 0 where
  pub got : Got Name
  pub reads : string 8 body ≡ fine got
  pub value_is : got.value ≡ name

starts_name : (kind : Kind) (body : List ℕ) (g : Got (Name × Name)) → surface_strings kind 8 body ≡ fine g → Starts body g.value.0
unfolding surface_strings ◌>>=◌
starts_name LWOB body g e = let x = then_fine (string 8 body) _ e in record { got = x.0; reads = x.1; value_is = ap (λ h. h.value.0) (same_fine x.2) }
starts_name LWO2 body g e =
    let x = then_fine (string 8 body) _ e in
    let y = then_fine (string x.0.next x.0.left) _ x.2 in
    record { got = x.0; reads = x.1; value_is = ap (λ h. h.value.0) (same_fine y.2) }

starts : (kind : Kind) (body : List ℕ) {c : SurfaceChunk} → whole 0 (surface_body kind) 8 body ≡ fine (surface c) → Starts body c.name
unfolding whole surface_body ◌>>=◌
starts kind body e =
    let x = then_fine (surface_body kind 8 body) _ e in
    let y = same_fine (chosen (empty x.0.left) (fine x.0.value) WrongLength 0 x.2).1 in
    let n = then_fine (surface_strings kind 8 body) _ x.1 in
    let v = then_fine (nested surface_depth (Surf kind) n.0.next n.0.left) _ n.2 in
    let name_is = ap (λ c. c.name) (same_surface (ap (λ g. g.value) (same_fine v.2) ∙ y)) in
    let s = starts_name kind body n.0 n.1 in
    record { got = s.got; reads = s.reads; value_is = s.value_is ∙ name_is }

module _ {s : List ℕ} {n : ℕ} {c : Cursor} (w : TextAt s 8 (Ok (n, c))) where
  pub name_inside : 8 + n ≤ length s
  name_inside = let m = simp (length-take, length-drop) at w.reads.moves in omega (arith, m, w.inside)

  name_is : {name : Name} → Starts (drop 8 s) name → take (8 + n - 8) (drop 8 s) ≡ name
  name_is y = part 8 n s ∙ ap (λ g. g.value) (same_fine (sym (exactly w.reads.says) ∙ y.reads)) ∙ y.value_is

-- ---- a chunk that holds no surface

no_surfaces : (kind : Kind) (b : Before) (t : ℕ) (body : List ℕ) (part : Part) → t is "SURF" ≡ false → judge kind b t body ≡ fine part → surfaces_of part ≡ []
unfolding added
no_surfaces kind b t body part other j =
    (always (λ part. surfaces_of part ≡ []) kind b t
    (record {
      of_points = λ e ps. refl;
      of_names = λ e missing ns. refl;
      of_polygons = λ ok ps n. refl;
      of_tagging = λ ok type ts. refl;
      of_surface = λ e s. impossible (cc (sym e ∙ other));
      of_layer = refl;
      of_skipped = refl;
    })
    ).each body part j

-- ---- a SURF that was judged fine

module _ {kind : Kind} {t : ℕ} {s : List ℕ} (e : t is "SURF" ≡ true) where
  pub sound_body : ChunkSound kind t s → Succeeds (whole 0 (surface_body kind) 8 (drop 8 s))
  sound_body c = let x = (holds_surface kind e).each c.before (drop 8 s) c.part c.sound in record { value = surface x.of; is = x.sound }

  pub never_open : ChunkSound kind t s → {f : Refusal} → TextAt s 8 (Err f) → ⊥
  never_open c w =
      let x = (holds_surface kind e).each c.before (drop 8 s) c.part c.sound in
      impossible (cc (sym (exactly w.reads.says) ∙ (starts kind (drop 8 s) x.sound).reads))

-- ---- what is put

module _ {kind : Kind} {t : ℕ} {s lengths bytes records : List ℕ} where
  pub put_nothing : t is "SURF" ≡ false → SurfacesPut kind t s lengths bytes records records
  put_nothing e = record { put = λ b part j. rw (no_surfaces kind b t (drop 8 s) part e j) refl }

  module _ (e : t is "SURF" ≡ true) {n : ℕ} {c : Cursor} (w : TextAt s 8 (Ok (n, c))) where
    pub put_surface : {r : Record} {records' : List ℕ} → RecordAt kind s r
        → records' ≡ with_record (take (8 + n - 8) (drop 8 s)) (surface_of r) (pieces lengths bytes) records → SurfacesPut kind t s lengths bytes records records'
    unfolding added ◌and_then◌
    put_surface r p = record {
      put = λ b part j.
          let x = (holds_surface kind e).each b (drop 8 s) part j in
          let is_record = same_fine (rw x.sound at r.judged.is) in
          rw x.part_is (p ∙ rw (name_is w (starts kind (drop 8 s) x.sound), is_record) refl);
    }
