-- A SIDE has a fixed length and one of two numbers; a level or a colour is its floats and then the envelope, which uses the body up.
use mathlib.Core.Path.{◌≡◌, refl}
use mathlib.Core.Bool.{true, false}
use mathlib.Core.List.{List}
use Prim.Native.Nat.{ℕ, ◌+◌, ◌-◌, ◌≤◌, ◌<◌}
use native.Mathlib.Omega.{arith}
use lib.ListN.{length}
use borrow.Author.Tests.{ne_eqb}
use Rattle.std.specs.Prelude.{Ok, Err}
use Rattle.wire.specs.declared.Refusal.{Refusal}
use Rattle.format.specs.declared.Fault.TheVariants.{WrongLength, SurfaceValue}
use Rattle.format.specs.Bytes.{number}
use Rattle.format.specs.Items.{fault, u2, vx}
use Rattle.format.specs.Surfaces.{unlisted, float_colour, enveloped_level, side_number, side, lwo2_value}
use Rattle.format.specs.Promises.{itself, Says, ReadsAt, taking, got}
use Rattle.format.proofs.ReaderSteps.{given, good, bad, used_up, left_over, judged_on, judged_off}
use Rattle.surface_levels.specs.declared.shading.Shading.{Shading}
use Rattle.surface_levels.specs.declared.value.Value.{Value}
use Rattle.surface_levels.specs.Promises.{colour_tag, side_tag, short_tag, ValueHasBits, ValueAt, RestAt}
use Rattle.surface_levels.proofs.ValueBodies.{fitted, first_bad}
use Rattle.lwo2_values.specs.Promises.{envelope_after}

module _ {s : List ℕ} {head : ℕ} where
  module _ {n next : ℕ} (long : length s - (head + 6) ≡ 2) (r : ReadsAt u2 (taking 2) s (head + 6) (got s n next)) where
    pub side_value : side_number n ≡ true → ValueAt (side side_tag) head s (Ok (Value.Sides n))
    side_value e = record {
      judged = fitted 2 _ long (judged_on _ (good SurfaceValue side_number r.says e) (used_up (given refl) (omega (arith, r.moves))));
      has_bits = tt;
    }

    pub no_side : side_number n ≡ false → ValueAt (side side_tag) head s (Err (record { why = SurfaceValue; at = head + 6 }))
    no_side e = first_bad 2 _ long (bad SurfaceValue side_number r.says e)

  -- from the envelope on
  module _ {at : ℕ} (v : Value) where
    pub envelope_cut : {f : Refusal} → Says vx itself s at (fault f.why f.at) → RestAt (envelope_after v) head s at (Err f)
    envelope_cut w = record { judged = judged_off _ w; has_bits = tt }

    module _ {e next : ℕ} (w : Says vx itself s at (got s e next)) where
      pub bytes_left : next < length s → RestAt (envelope_after v) head s at (Err (record { why = WrongLength; at = head }))
      bytes_left l = record { judged = judged_on _ w (left_over (given refl) l); has_bits = tt }

      pub envelope_last : length s ≤ next → ValueHasBits v → RestAt (envelope_after v) head s at (Ok v)
      envelope_last l h = record { judged = judged_on _ w (used_up (given refl) l); has_bits = h }

-- ---- by tag

short_tag_lem : (w : Shading) → lwo2_value (short_tag w) ≡ enveloped_level (short_tag w)
unfolding lwo2_value number
short_tag_lem Shading.Luminosity = refl
short_tag_lem Shading.Diffuse = refl
short_tag_lem Shading.Specular = refl
short_tag_lem Shading.Reflection = refl
short_tag_lem Shading.Transparency = refl

module _ (t : ℕ) where
  pub lwo2_colour : t ≡ colour_tag → lwo2_value t ≡ float_colour colour_tag
  unfolding lwo2_value number
  lwo2_colour e = rw e

  pub lwo2_level : (w : Shading) → t ≡ short_tag w → lwo2_value t ≡ enveloped_level (short_tag w)
  lwo2_level w e = rw e (short_tag_lem w)

  pub lwo2_side : t ≡ side_tag → lwo2_value t ≡ side side_tag
  unfolding lwo2_value number
  lwo2_side e = rw e

  pub lwo2_unlisted : (t ≡ colour_tag → ⊥) → ((w : Shading) → t ≡ short_tag w → ⊥) → (t ≡ side_tag → ⊥) → lwo2_value t ≡ unlisted
  unfolding lwo2_value number
  lwo2_unlisted no_colour no_level no_side = rw (
    ne_eqb t colour_tag no_colour,
    ne_eqb t _ (no_level Shading.Luminosity),
    ne_eqb t _ (no_level Shading.Diffuse),
    ne_eqb t _ (no_level Shading.Specular),
    ne_eqb t _ (no_level Shading.Reflection),
    ne_eqb t _ (no_level Shading.Transparency),
    ne_eqb t side_tag no_side,
  )
