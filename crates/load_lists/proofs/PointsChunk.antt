-- A PNTS that was judged fine is its points, and no other chunk has any.
use mathlib.Core.Path.{◌≡◌, refl, sym, ap, ◌∙◌}
use mathlib.Core.List.{List, []}
use mathlib.Core.Bool.{true, false}
use Prim.Native.Nat.{ℕ, ◌+◌, ◌-◌, ◌/◌}
use native.Mathlib.Nat.{add-zero}
use lib.ListN.{length, drop, length-drop}
use Rattle.format.specs.declared.Kind.{Kind}
use Rattle.format.specs.Bytes.{◌is◌, joined}
use Rattle.format.specs.Items.{fine}
use Rattle.format.specs.Bodies.{Part}
use Rattle.format.specs.Rules.{added, Before, judge}
use Rattle.format.proofs.Facts.{impossible}
use Rattle.format.proofs.Puts.{put_none}
use Rattle.format.proofs.PartByTag.{holds_points, always}
use Rattle.load_lists.specs.Promises.{PointsRoom, PointsPut, part_points, ChunkRoom, ChunkPut}
use Rattle.load_lists.proofs.PointWords.{points_length}

-- ---- a PNTS

pub chunk_length : (kind : Kind) (b : Before) (t : ℕ) (s : List ℕ) (part : Part) → t is "PNTS" ≡ true → judge kind b t (drop 8 s) ≡ fine part
    → length (part_points part) ≡ (length s - 8) / 4
unfolding added
chunk_length kind b t s part e j =
    let p = (holds_points kind e).each b (drop 8 s) part j in
    rw p.part_is (points_length kind (drop 8 s) p.of p.sound ∙ ap (λ n. n / 4) (length-drop 8 s))

pub chunk_room : {kind : Kind} {t : ℕ} {s table : List ℕ} {m : ℕ} → t is "PNTS" ≡ true → ChunkRoom kind t s table m → PointsRoom s table m
unfolding added
chunk_room {kind} {t} {s} e r =
    let p = (holds_points kind e).each r.before (drop 8 s) r.part r.sound in
    record { kind = kind; listed = p.of; sound = p.sound; fits = rw p.part_is at r.fits }

pub chunk_points : {kind : Kind} {t : ℕ} {s table : List ℕ} {m : ℕ} {table' : List ℕ} {next : ℕ} → t is "PNTS" ≡ true → PointsPut s table m table'
    → next ≡ m + (length s - 8) / 4 → ChunkPut kind t s table m table' next
unfolding added
chunk_points {kind} {t} {s} e w n = record {
  put = λ b part j. let p = (holds_points kind e).each b (drop 8 s) part j in rw p.part_is (w.put kind p.of p.sound);
  next_is = λ b part j. rw (chunk_length kind b t s part e j) n;
}

-- ---- any other chunk

no_points : (kind : Kind) (b : Before) (t : ℕ) (body : List ℕ) (part : Part) → t is "PNTS" ≡ false → judge kind b t body ≡ fine part → part_points part ≡ []
unfolding added joined
no_points kind b t body part other j =
    (always (λ part. part_points part ≡ []) kind b t
    (record {
      of_points = λ e ps. impossible (cc (sym e ∙ other));
      of_names = λ e missing ns. refl;
      of_polygons = λ ok ps n. refl;
      of_tagging = λ ok type ts. refl;
      of_surface = λ e s. refl;
      of_layer = refl;
      of_skipped = refl;
    })
    ).each body part j

pub chunk_none : {kind : Kind} {t : ℕ} {s table : List ℕ} {m : ℕ} → t is "PNTS" ≡ false → ChunkPut kind t s table m table m
chunk_none {kind} {t} {s} {table} {m} e = record {
  put = λ b part j. rw (no_points kind b t (drop 8 s) part e j) (put_none table m);
  next_is = λ b part j. rw (no_points kind b t (drop 8 s) part e j) (sym (add-zero m));
}
