-- The last value of each tag in a SURF: as words of the specification, in code, and what the answers on them say.
use Rattle.std.specs.Prelude.{ℕ, ◌≡◌, List, Float, Option, Some, None}
use Rattle.std.specs.Float.{binary32}
use Rattle.std.specs.Float.Ieee.{of_bits}
use Rattle.format.specs.declared.Kind.{Kind}
use Rattle.format.specs.declared.Container.TheVariants.{Surf}
use Rattle.format.specs.Items.{fine}
use Rattle.format.specs.Mesh.{missing_colour, missing}
use Rattle.format.specs.Surfaces.{Value as Words, last_of, nested, surface_depth}
use Rattle.format.specs.Promises.{JudgedAt}
use Rattle.surface_levels.specs.declared.shading.Shading.{Shading}
use Rattle.surface_levels.specs.declared.value.Value.{Value}
use Rattle.surface_levels.specs.Levels.{HasBits, bits}
use Rattle.surface_levels.specs.Promises.{by_shading, words_of}
use Rattle.load_values.specs.declared.last_values.Levels.{Levels}
use Rattle.load_values.specs.declared.last_values.LastValues.{LastValues}

-- ---- words

-- five levels by their tags: each is the word of the last value, or the one given where there is none
pub record LevelWords : Type 0 where
  pub luminosity : ℕ → ℕ
  pub diffuse : ℕ → ℕ
  pub specular : ℕ → ℕ
  pub reflection : ℕ → ℕ
  pub transparency : ℕ → ℕ

pub record Taken : Type 0 where
  pub red : ℕ
  pub green : ℕ
  pub blue : ℕ
  pub short : LevelWords
  pub long : LevelWords
  pub flags : ℕ
  pub sides : ℕ

abbrev pub no_words : LevelWords
no_words = record { luminosity = λ d. d; diffuse = λ d. d; specular = λ d. d; reflection = λ d. d; transparency = λ d. d }

abbrev pub none_taken : Taken
none_taken = record { red = missing.red; green = missing.green; blue = missing.blue; short = no_words; long = no_words; flags = 0; sides = missing.sides }

-- some values more: "a repeated sub-chunk's last value stands"
unfoldable pub taken : List Words → Taken → Taken
taken vs t = record {
  red = last_of vs "COLR" 0 t.red;
  green = last_of vs "COLR" 1 t.green;
  blue = last_of vs "COLR" 2 t.blue;
  short = record {
    luminosity = λ d. last_of vs "LUMI" 0 (t.short.luminosity d);
    diffuse = λ d. last_of vs "DIFF" 0 (t.short.diffuse d);
    specular = λ d. last_of vs "SPEC" 0 (t.short.specular d);
    reflection = λ d. last_of vs "REFL" 0 (t.short.reflection d);
    transparency = λ d. last_of vs "TRAN" 0 (t.short.transparency d);
  };
  long = record {
    luminosity = λ d. last_of vs "VLUM" 0 (t.long.luminosity d);
    diffuse = λ d. last_of vs "VDIF" 0 (t.long.diffuse d);
    specular = λ d. last_of vs "VSPC" 0 (t.long.specular d);
    reflection = λ d. last_of vs "VRFL" 0 (t.long.reflection d);
    transparency = λ d. last_of vs "VTRN" 0 (t.long.transparency d);
  };
  flags = last_of vs "FLAG" 0 t.flags;
  sides = last_of vs "SIDE" 0 t.sides;
}

-- ---- in code

-- the constant MISSING_COLOUR
abbrev pub missing_colour_float : Float
missing_colour_float = of_bits binary32 missing_colour

abbrev pub no_levels : Levels
no_levels = record { luminosity = None; diffuse = None; specular = None; reflection = None; transparency = None }

-- the levels with the one that is named put in its place
abbrev pub with_last : Levels → Shading → Option Float → Levels
with_last l w x = record {
  luminosity = by_shading x l.luminosity l.luminosity l.luminosity l.luminosity w;
  diffuse = by_shading l.diffuse x l.diffuse l.diffuse l.diffuse w;
  specular = by_shading l.specular l.specular x l.specular l.specular w;
  reflection = by_shading l.reflection l.reflection l.reflection x l.reflection w;
  transparency = by_shading l.transparency l.transparency l.transparency l.transparency x w;
}

abbrev pub with_level : Levels → Shading → Float → Levels
with_level l w x = with_last l w (Some x)

abbrev pub word_of : Option Float → ℕ → ℕ
word_of (Some x) d = bits x
word_of None d = d

abbrev pub level_words : Levels → LevelWords
level_words l = record {
  luminosity = word_of l.luminosity;
  diffuse = word_of l.diffuse;
  specular = word_of l.specular;
  reflection = word_of l.reflection;
  transparency = word_of l.transparency;
}

abbrev pub taken_of : LastValues → Taken
taken_of v = record {
  red = bits v.red;
  green = bits v.green;
  blue = bits v.blue;
  short = level_words v.short;
  long = level_words v.long;
  flags = v.flags;
  sides = v.sides;
}

-- each level that was met has bits of its own
abbrev pub LevelHasBits : Option Float → Type 0
LevelHasBits (Some x) = HasBits x
LevelHasBits None = Unit

pub record LastLevelsHaveBits (l : Levels) : Type 0 where
  pub luminosity : LevelHasBits l.luminosity
  pub diffuse : LevelHasBits l.diffuse
  pub specular : LevelHasBits l.specular
  pub reflection : LevelHasBits l.reflection
  pub transparency : LevelHasBits l.transparency

pub record LastValuesHaveBits (v : LastValues) : Type 0 where
  pub red : HasBits v.red
  pub green : HasBits v.green
  pub blue : HasBits v.blue
  pub short : LastLevelsHaveBits v.short
  pub long : LastLevelsHaveBits v.long

-- ---- answers

pub record NoneMet (v : LastValues) : Type 0 where
  pub is : taken_of v ≡ none_taken
  pub has_bits : LastValuesHaveBits v

pub record TakenIn (value : Value) (before after : LastValues) : Type 0 where
  pub is : taken_of after ≡ taken (words_of value) (taken_of before)
  pub has_bits : LastValuesHaveBits after

-- the last values of the sub-chunks from a place on
pub record LastAt (kind : Kind) (s : List ℕ) (at : ℕ) (v : LastValues) : Type 0 where
  pub judged : JudgedAt 0 at (nested surface_depth (Surf kind)) (λ vs. taken vs none_taken) s (fine (taken_of v))
  pub has_bits : LastValuesHaveBits v
