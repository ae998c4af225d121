-- A value that is taken in changes what its tag names and nothing else.
use Rattle.std.specs.Prelude.{None}
use mathlib.Core.Path.{◌≡◌, refl}
use mathlib.Core.List.{List, [], ◌++◌}
use lib.Ieee.{Float, of_bits, to_bits, is_nan}
use Rattle.format.specs.Bytes.{number}
use Rattle.format.specs.Surfaces.{Value as Words, last_of}
use Rattle.surface_levels.specs.declared.shading.Shading.{Shading}
use Rattle.surface_levels.specs.declared.value.Value.{Value}
use Rattle.surface_levels.specs.Levels.{HasBits}
use Rattle.surface_levels.specs.Promises.{by_shading, words_of, ValueHasBits}
use Rattle.load_values.specs.declared.last_values.Levels.{Levels}
use Rattle.load_values.specs.declared.last_values.LastValues.{LastValues}
use Rattle.load_values.specs.LastValues.{Taken, taken, missing_colour_float, no_levels, with_level, taken_of, LevelHasBits, LastLevelsHaveBits, LastValuesHaveBits, NoneMet, TakenIn}

-- ---- the start

pub no_levels_is : {l : Levels} → (l.luminosity ≡ None) × ((l.diffuse ≡ None) × ((l.specular ≡ None) × ((l.reflection ≡ None) × (l.transparency ≡ None)))) → l ≡ no_levels
no_levels_is e = λ i. record { luminosity = e.0 i; diffuse = e.1.0 i; specular = e.1.1.0 i; reflection = e.1.1.1.0 i; transparency = e.1.1.1.1 i }

pub none_have_bits : LastLevelsHaveBits no_levels
none_have_bits = record { luminosity = tt; diffuse = tt; specular = tt; reflection = tt; transparency = tt }

-- as the code writes it
abbrev none_met : LastValues
none_met = record {
  red = missing_colour_float;
  green = missing_colour_float;
  blue = missing_colour_float;
  short = no_levels;
  long = no_levels;
  flags = 0;
  sides = 1;
}

pub none_met_lem : NoneMet none_met
unfolding to_bits of_bits is_nan
none_met_lem = record { is = refl; has_bits = record { red = tt; green = tt; blue = tt; short = none_have_bits; long = none_have_bits } }

-- ---- a level

-- what holds of five things holds of the one that is named
named : {A : Type 0} (P : A → Type 0) {l d s r t : A} (w : Shading) → P l → P d → P s → P r → P t → P (by_shading l d s r t w)
named P Shading.Luminosity l d s r t = l
named P Shading.Diffuse l d s r t = d
named P Shading.Specular l d s r t = s
named P Shading.Reflection l d s r t = r
named P Shading.Transparency l d s r t = t

with_has_bits : (l : Levels) (w : Shading) (x : Float) → LastLevelsHaveBits l → HasBits x → LastLevelsHaveBits (with_level l w x)
with_has_bits l w x h b = record {
  luminosity = named LevelHasBits w b h.luminosity h.luminosity h.luminosity h.luminosity;
  diffuse = named LevelHasBits w h.diffuse b h.diffuse h.diffuse h.diffuse;
  specular = named LevelHasBits w h.specular h.specular b h.specular h.specular;
  reflection = named LevelHasBits w h.reflection h.reflection h.reflection b h.reflection;
  transparency = named LevelHasBits w h.transparency h.transparency h.transparency h.transparency b;
}

-- ---- one value more

-- the last values as they are after it
abbrev after : Value → LastValues → LastValues
after (Value.Colour r g b) v = record { red = r; green = g; blue = b; short = v.short; long = v.long; flags = v.flags; sides = v.sides }
after (Value.Level w x) v =
    record { red = v.red; green = v.green; blue = v.blue; short = with_level v.short w x; long = v.long; flags = v.flags; sides = v.sides }
after (Value.Long w x) v =
    record { red = v.red; green = v.green; blue = v.blue; short = v.short; long = with_level v.long w x; flags = v.flags; sides = v.sides }
after (Value.Flags n) v = record { red = v.red; green = v.green; blue = v.blue; short = v.short; long = v.long; flags = n; sides = v.sides }
after (Value.Sides n) v = record { red = v.red; green = v.green; blue = v.blue; short = v.short; long = v.long; flags = v.flags; sides = n }

after_is : (value : Value) (v : LastValues) → taken_of (after value v) ≡ taken (words_of value) (taken_of v)
unfolding taken last_of number
after_is (Value.Colour r g b) v = refl
after_is (Value.Level Shading.Luminosity x) v = refl
after_is (Value.Level Shading.Diffuse x) v = refl
after_is (Value.Level Shading.Specular x) v = refl
after_is (Value.Level Shading.Reflection x) v = refl
after_is (Value.Level Shading.Transparency x) v = refl
after_is (Value.Long Shading.Luminosity x) v = refl
after_is (Value.Long Shading.Diffuse x) v = refl
after_is (Value.Long Shading.Specular x) v = refl
after_is (Value.Long Shading.Reflection x) v = refl
after_is (Value.Long Shading.Transparency x) v = refl
after_is (Value.Flags n) v = refl
after_is (Value.Sides n) v = refl

after_has_bits : (value : Value) (v : LastValues) → LastValuesHaveBits v → ValueHasBits value → LastValuesHaveBits (after value v)
after_has_bits (Value.Colour r g b) v h x = record { red = x.0; green = x.1; blue = x.2; short = h.short; long = h.long }
after_has_bits (Value.Level w l) v h x =
    record { red = h.red; green = h.green; blue = h.blue; short = with_has_bits v.short w l h.short x; long = h.long }
after_has_bits (Value.Long w l) v h x =
    record { red = h.red; green = h.green; blue = h.blue; short = h.short; long = with_has_bits v.long w l h.long x }
after_has_bits (Value.Flags n) v h x = record { red = h.red; green = h.green; blue = h.blue; short = h.short; long = h.long }
after_has_bits (Value.Sides n) v h x = record { red = h.red; green = h.green; blue = h.blue; short = h.short; long = h.long }

pub taken_in : {value : Value} {v later : LastValues} → LastValuesHaveBits v × ValueHasBits value → later ≡ after value v → TakenIn value v later
taken_in {value} {v} h e = rw e record { is = after_is value v; has_bits = after_has_bits value v h.0 h.1 }

-- one value first, then the others
pub taken_first : (v : Value) (vs : List Words) (t : Taken) → taken (words_of v ++ vs) t ≡ taken vs (taken (words_of v) t)
unfolding taken last_of
taken_first (Value.Colour r g b) vs t = refl
taken_first (Value.Level w x) vs t = refl
taken_first (Value.Long w x) vs t = refl
taken_first (Value.Flags n) vs t = refl
taken_first (Value.Sides n) vs t = refl

pub taken_none : (t : Taken) → taken [] t ≡ t
unfolding taken last_of
taken_none t = refl
