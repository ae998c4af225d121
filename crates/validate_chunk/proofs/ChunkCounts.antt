-- A chunk's counts from its body's: each body makes one sort of part, and of that part its function keeps what it adds to the counts.
use Rattle.std.specs.Prelude.{Option, Some, None, unwrap_or, Ok, Err, if◌then◌else◌}
use mathlib.Core.Path.{◌≡◌, refl, ap, ◌∙◌}
use mathlib.Core.List.{List}
use mathlib.Core.Bool.{Bool, true, false}
use Prim.Native.Nat.{ℕ}
use lib.ListN.{drop}
use Rattle.format.specs.declared.Kind.{Kind}
use Rattle.format.specs.declared.Fault.TheVariants.{WrongLength, OutOfOrder}
use Rattle.format.specs.Bytes.{empty}
use Rattle.format.specs.Items.{Verdict, fine, fault, Got, Reader, ◌and_then◌, whole}
use Rattle.format.specs.Promises.{nothing, Judged}
use Rattle.format.specs.Bodies.{Part, skipped_chunk, points_body, names_body, layer_body, faces_body, patches_body, polygons_body, tagging_body, surface_body}
use Rattle.format.specs.Rules.{added, count, when◌read◌}
use Rattle.format.proofs.PartByTag.{Makes, makes_points, makes_names, makes_faces, makes_patches, makes_polygons, makes_tagging, makes_surface, makes_layer}
use Rattle.wire.specs.declared.Refusal.{Refusal}
use Rattle.validate_lists.specs.Promises.{point_count, name_sizes}
use Rattle.validate_polygons.specs.Promises.{sizes_of}
use Rattle.validate_chunk.specs.declared.chunk.Counted.{Counted}
use Rattle.validate_chunk.specs.Promises.{counted_of, length_as, out_of_order, CountsOf}

-- what a body adds to the counts is f of the part that its function keeps
pub record Adds {B : Type 0} (f : B → Counted) (h : Part → B) (r : Reader Part) : Type 0 where
  pub each : Makes (λ part. counted_of part ≡ f (h part)) r

pub adds_points : (kind : Kind) → Adds Counted.Points point_count (points_body kind)
unfolding counted_of added
adds_points kind = record { each = makes_points _ kind (λ ps. refl) }

pub adds_names : Adds (λ z. Counted.Names (record { count = z.0; bytes = z.1 })) name_sizes names_body
unfolding counted_of added
adds_names = record { each = makes_names _ (λ ns. refl) }

module _ (points names : ℕ) where
  pub adds_faces : Adds Counted.Polygons sizes_of (faces_body points names)
  unfolding counted_of
  adds_faces = record { each = makes_faces _ (λ ps n. refl) points names }

  pub adds_patches : Adds Counted.Polygons sizes_of (patches_body points names)
  unfolding counted_of
  adds_patches = record { each = makes_patches _ (λ ps n. refl) points names }

  pub adds_tagging : Adds (λ z. Counted.Nothing) nothing (tagging_body points names)
  unfolding counted_of
  adds_tagging = record { each = makes_tagging _ (λ type ts. refl) points names }

pub adds_polygons : (points : ℕ) → Adds Counted.Polygons sizes_of (polygons_body points)
unfolding counted_of
adds_polygons points = record { each = makes_polygons _ (λ ps n. refl) points }

pub adds_surface : (kind : Kind) → Adds (λ z. Counted.Nothing) nothing (surface_body kind)
unfolding counted_of
adds_surface kind = record { each = makes_surface _ kind (λ s. refl) }

pub adds_layer : Adds (λ z. Counted.Layer) nothing layer_body
unfolding counted_of
adds_layer = record { each = makes_layer _ refl }

-- a list that is missing has no entries
pub none_missing : (list : Option ℕ) → unwrap_or list 0 ≡ count (length_as list)
none_missing None = refl
none_missing (Some n) = refl

-- ---- the chunk

module _ {B : Type 0} (f : B → Counted) (h : Part → B) {r : Reader Part} (a : Adds f h r) where
  counts_in : (b : List ℕ) → ((whole 0 r 8 b and_then λ part. fine (h part)) and_then λ y. fine (f y)) ≡ (whole 0 r 8 b and_then λ part. fine (counted_of part))
  unfolding whole ◌and_then◌
  counts_in b = by (r 8 b) refl
    where
      used : (g : Got Part) → counted_of g.value ≡ f (h g.value) → (t : Bool)
          → (((if t then fine g.value else fault WrongLength 0) and_then λ part. fine (h part)) and_then λ y. fine (f y)) ≡ ((if t then fine g.value else fault WrongLength 0) and_then λ part. fine (counted_of part))
      used g e true = rw e
      used g e false = refl

      by : (v : Verdict (Got Part)) → r 8 b ≡ v
          → (((v and_then λ g. if empty g.left then fine g.value else fault WrongLength 0) and_then λ part. fine (h part)) and_then λ y. fine (f y)) ≡ ((v and_then λ g. if empty g.left then fine g.value else fault WrongLength 0) and_then λ part. fine (counted_of part))
      by (fine g) e = used g (a.each.each 8 b g e) (empty g.left)
      by (fault why p) e = refl

-- what must come earlier is there, and the body is fine or at fault
module _ {B : Type 0} {f : B → Counted} {h : Part → B} {r : Reader Part} (a : Adds f h r) {s : List ℕ} where
  pub in_order : {y : B} → Judged r h s (fine y) → CountsOf (when true read r) s (Ok (f y))
  unfolding when◌read◌ ◌and_then◌
  in_order j = record { is = ap (λ v. v and_then λ y. fine (f y)) j.is ∙ counts_in f h a (drop 8 s) }

  pub at_fault : {x : Refusal} → Judged r h s (fault x.why x.at) → CountsOf (when true read r) s (Err x)
  unfolding when◌read◌ ◌and_then◌
  at_fault j = record { is = ap (λ v. v and_then λ y. fine (f y)) j.is ∙ counts_in f h a (drop 8 s) }

pub too_early : (r : Reader Part) {s : List ℕ} → CountsOf (when false read r) s (Err out_of_order)
unfolding when◌read◌ ◌and_then◌
too_early r = record { is = refl }

pub unlisted : {s : List ℕ} → CountsOf (λ body. fine skipped_chunk) s (Ok Counted.Skipped)
unfolding ◌and_then◌ counted_of
unlisted = record { is = refl }
