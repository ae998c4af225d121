-- Each level of the record is settled by itself, from the last values and from what stands for a missing one.
use mathlib.Core.Path.{◌≡◌, refl}
use mathlib.Core.List.{List}
use Prim.Native.Nat.{ℕ, ◌/◌, ◌%◌, ◌^◌}
use native.Mathlib.Omega.{arith}
use lib.Ieee.{Float, binary32, of_bits, to_bits, is_nan}
use borrow.Author.Tests.{eq-eqb, ne_eqb}
use Rattle.format.specs.declared.Kind.{Kind}
use Rattle.format.specs.declared.Kind.TheVariants.{LWOB, LWO2}
use Rattle.format.specs.Mesh.{missing}
use Rattle.format.specs.Surfaces.{Value as Words, record_of}
use Rattle.surface_levels.specs.Levels.{bits}
use Rattle.load_values.specs.declared.last_values.Levels.{Levels}
use Rattle.load_values.specs.declared.last_values.LastValues.{LastValues}
use Rattle.load_records.specs.declared.record.Record.{Record}
use Rattle.load_values.specs.LastValues.{none_taken, taken, missing_colour_float, no_levels, level_words, taken_of, LastValuesHaveBits}
use Rattle.load_records.specs.Promises.{RecordIs, sides_in, settled_of, record_from, LevelIs, GlowIs}

-- ---- the start

abbrev one : Float
one = of_bits binary32 0x3F80_0000

abbrev none : Float
none = of_bits binary32 0

-- as the code writes it
abbrev missing_record : Record
missing_record = record {
  defined = 0;
  red = missing_colour_float;
  green = missing_colour_float;
  blue = missing_colour_float;
  diffuse = one;
  luminosity = none;
  specular = none;
  reflection = none;
  transparency = none;
  sides = 1;
}

pub missing_is : RecordIs missing missing_record
unfolding to_bits of_bits is_nan
missing_is = record {
  is = refl;
  has_bits = record { red = tt; green = tt; blue = tt; diffuse = tt; luminosity = tt; specular = tt; reflection = tt; transparency = tt };
}

-- ---- the flags

pub glows : (flags : ℕ) → flags % 2 ≡ 1 → GlowIs flags one
unfolding to_bits of_bits is_nan
glows flags e = record { is = rw (eq-eqb (flags / 2 ^ 0 % 2) 1 (omega arith)); has_bits = tt }

pub no_glow : (flags : ℕ) → (flags % 2 ≡ 1 → ⊥) → GlowIs flags none
unfolding to_bits of_bits is_nan
no_glow flags e = record { is = rw (ne_eqb (flags / 2 ^ 0 % 2) 1 (omega arith)); has_bits = tt }

-- ---- the record

pub record_from_lem : (kind : Kind) (vs : List Words) → record_from kind (taken vs none_taken) ≡ record_of kind vs
unfolding taken record_of
record_from_lem LWOB vs = refl
record_from_lem LWO2 vs = refl

module _ (v : LastValues) where
  pub settled_is : (long : Levels) {diffuse luminosity d l s r t : Float} {sides : ℕ} → LastValuesHaveBits v
      → LevelIs long.diffuse v.short.diffuse diffuse d
      → LevelIs long.luminosity v.short.luminosity luminosity l
      → LevelIs long.specular v.short.specular none s
      → LevelIs long.reflection v.short.reflection none r
      → LevelIs long.transparency v.short.transparency none t
      → RecordIs (settled_of (taken_of v) (level_words long) (bits diffuse) (bits luminosity) sides)
      (record {
        defined = 1;
        red = v.red;
        green = v.green;
        blue = v.blue;
        diffuse = d;
        luminosity = l;
        specular = s;
        reflection = r;
        transparency = t;
        sides = sides;
      })
  unfolding to_bits of_bits
  settled_is long {sides = sides} h d l s r t = record {
    is = λ i. record {
      defined = 1;
      red = bits v.red;
      green = bits v.green;
      blue = bits v.blue;
      diffuse = d.is i;
      luminosity = l.is i;
      specular = s.is i;
      reflection = r.is i;
      transparency = t.is i;
      sides = sides;
    };
    has_bits = record {
      red = h.red;
      green = h.green;
      blue = h.blue;
      diffuse = d.has_bits;
      luminosity = l.has_bits;
      specular = s.has_bits;
      reflection = r.has_bits;
      transparency = t.has_bits;
    };
  }

  pub lwob_settled : {x : Float} {n : ℕ} {r : Record} → GlowIs v.flags x → n ≡ sides_in v.flags
      → RecordIs (settled_of (taken_of v) (level_words v.long) (bits none) (bits x) n) r → RecordIs (record_from LWOB (taken_of v)) r
  unfolding to_bits of_bits
  lwob_settled g e q = rw (g.is, e) at q

  pub lwo2_settled : {l : Levels} {r : Record} → l ≡ no_levels
      → RecordIs (settled_of (taken_of v) (level_words l) (bits one) (bits none) v.sides) r → RecordIs (record_from LWO2 (taken_of v)) r
  unfolding to_bits of_bits
  lwo2_settled e q = rw e at q
