-- Each sub-chunk that is listed has a body of a fixed length, and the item that is read there gives its value.
use mathlib.Core.Path.{◌≡◌, refl, sym, ap}
use mathlib.Core.List.{List, [], ◌∷◌, map}
use Prim.Native.Nat.{ℕ, ◌+◌, ◌-◌, ◌≤◌}
use native.Mathlib.Omega.{arith}
use lib.IntN.{ℤ}
use lib.Ieee.{Float}
use lib.ListN.{length, get_or, take, drop, length-drop}
use lib.Seq.{drop-drop}
use borrow.Author.Tests.{ne_eqb, le-leb}
use Rattle.std.specs.Prelude.{Ok}
use Rattle.format.specs.Bytes.{number, over255}
use Rattle.format.specs.Items.{item, u2, i2}
use Rattle.format.specs.Surfaces.{value, unlisted, byte_colour, short_level, long_level, flags, lwob_value}
use Rattle.format.specs.Promises.{itself, Says, ReadsAt, taking, got}
use Rattle.format.proofs.ReaderSteps.{exact, given, used_up, judged_on}
use Rattle.wire.specs.declared.cursor.Cursor.{Cursor}
use Rattle.format.proofs.Indexed.{four_at}
use Rattle.surface_levels.specs.declared.shading.Shading.{Shading}
use Rattle.surface_levels.specs.declared.value.Value.{Value}
use Rattle.surface_levels.specs.Levels.{bits, LevelOf, ColourOf}
use Rattle.surface_levels.specs.Promises.{colour_tag, flag_tag, short_tag, long_tag, FloatAt, ValueAt}
use Rattle.surface_levels.proofs.ValueBodies.{fitted}

bytes_there : {s : List ℕ} (head : ℕ) → head + 10 ≤ length s → Says (item 4) itself s (head + 6) (got s (take 4 (drop (head + 6) s)) (head + 10))
unfolding item
bytes_there {s} head h =
    let long : 4 ≤ length (drop (head + 6) s) = rw length-drop (omega arith) in
    let next : head + 6 + 4 ≡ head + 10 = omega arith in
    exact (rw (le-leb 4 (length (drop (head + 6) s)) long, drop-drop 4 (head + 6) s, next))

module _ {s : List ℕ} {head : ℕ} where
  pub colour_value : {r g b : Float} → length s - (head + 6) ≡ 4
      → ColourOf (get_or s (head + 6) 0) r → ColourOf (get_or s (head + 6 + 1) 0) g → ColourOf (get_or s (head + 6 + 2) 0) b
      → ValueAt (byte_colour colour_tag) head s (Ok (Value.Colour r g b))
  colour_value {r} {g} {b} n x y z =
      let long : head + 10 ≤ length s = omega arith in
      let words : map over255 (take 3 (take 4 (drop (head + 6) s))) ≡ bits r ∷ bits g ∷ bits b ∷ [] =
      rw (four_at s (head + 6) (omega arith), x.is, y.is, z.is) in
      record {
        judged = fitted 4 _ n (judged_on _ (bytes_there head long) (used_up (given (ap (value colour_tag) words)) (omega arith)));
        has_bits = (x.has_bits, y.has_bits, z.has_bits);
      }

  pub short_value : {w : Shading} {z : ℤ} {x : Float} {next : ℕ} → length s - (head + 6) ≡ 2 → ReadsAt i2 (taking 2) s (head + 6) (got s z next) → LevelOf z x
      → ValueAt (short_level (short_tag w)) head s (Ok (Value.Level w x))
  short_value {w} n r l =
      let same = ap (λ b. value (short_tag w) (b ∷ [])) (sym l.is) in
      record { judged = fitted 2 _ n (judged_on _ r.says (used_up (given same) (omega (arith, r.moves)))); has_bits = l.has_bits }

  pub long_value : {w : Shading} {x : Float} {c : Cursor} → length s - (head + 6) ≡ 4 → FloatAt s (head + 6) (Ok (x, c))
      → ValueAt (long_level (long_tag w)) head s (Ok (Value.Long w x))
  long_value n r = record {
    judged = fitted 4 _ n (judged_on _ r.reads.says (used_up (given refl) (omega (arith, r.reads.moves))));
    has_bits = r.has_bits;
  }

  pub flag_value : {n next : ℕ} → length s - (head + 6) ≡ 2 → ReadsAt u2 (taking 2) s (head + 6) (got s n next)
      → ValueAt (flags flag_tag) head s (Ok (Value.Flags n))
  flag_value n r = record { judged = fitted 2 _ n (judged_on _ r.says (used_up (given refl) (omega (arith, r.moves)))); has_bits = tt }

-- ---- by tag

short_tag_lem : (w : Shading) → lwob_value (short_tag w) ≡ short_level (short_tag w)
unfolding lwob_value number
short_tag_lem Shading.Luminosity = refl
short_tag_lem Shading.Diffuse = refl
short_tag_lem Shading.Specular = refl
short_tag_lem Shading.Reflection = refl
short_tag_lem Shading.Transparency = refl

long_tag_lem : (w : Shading) → lwob_value (long_tag w) ≡ long_level (long_tag w)
unfolding lwob_value number
long_tag_lem Shading.Luminosity = refl
long_tag_lem Shading.Diffuse = refl
long_tag_lem Shading.Specular = refl
long_tag_lem Shading.Reflection = refl
long_tag_lem Shading.Transparency = refl

module _ (t : ℕ) where
  pub lwob_colour : t ≡ colour_tag → lwob_value t ≡ byte_colour colour_tag
  unfolding lwob_value number
  lwob_colour e = rw e

  pub lwob_flags : t ≡ flag_tag → lwob_value t ≡ flags flag_tag
  unfolding lwob_value number
  lwob_flags e = rw e

  pub lwob_level : (w : Shading) → t ≡ short_tag w → lwob_value t ≡ short_level (short_tag w)
  lwob_level w e = rw e (short_tag_lem w)

  pub lwob_long : (w : Shading) → t ≡ long_tag w → lwob_value t ≡ long_level (long_tag w)
  lwob_long w e = rw e (long_tag_lem w)

  module _ (no_colour : t ≡ colour_tag → ⊥) (no_short : (w : Shading) → t ≡ short_tag w → ⊥) (no_long : (w : Shading) → t ≡ long_tag w → ⊥) where
    pub lwob_unlisted : (t ≡ flag_tag → ⊥) → lwob_value t ≡ unlisted
    unfolding lwob_value number
    lwob_unlisted no_flags = rw (
      ne_eqb t colour_tag no_colour,
      ne_eqb t _ (no_short Shading.Luminosity),
      ne_eqb t _ (no_short Shading.Diffuse),
      ne_eqb t _ (no_short Shading.Specular),
      ne_eqb t _ (no_short Shading.Reflection),
      ne_eqb t _ (no_short Shading.Transparency),
      ne_eqb t _ (no_long Shading.Luminosity),
      ne_eqb t _ (no_long Shading.Diffuse),
      ne_eqb t _ (no_long Shading.Specular),
      ne_eqb t _ (no_long Shading.Reflection),
      ne_eqb t _ (no_long Shading.Transparency),
      ne_eqb t flag_tag no_flags,
    )
