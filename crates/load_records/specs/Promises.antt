-- Records in code and in the specification.
use Rattle.std.specs.Prelude.{ℕ, ◌≡◌, List, Float, Option, if◌then◌else◌}
use Rattle.format.specs.declared.Kind.{Kind}
use Rattle.format.specs.declared.Kind.TheVariants.{LWOB, LWO2}
use Rattle.format.specs.Bytes.{f32_one}
use Rattle.format.specs.Items.{fine}
use Rattle.format.specs.Mesh.{Surface, missing}
use Rattle.format.specs.Surfaces.{bit, record_of}
use Rattle.format.specs.Bodies.{Part, point_list, name_list, polygon_list, tagging, surface, layer, skipped_chunk, surface_body}
use Rattle.format.specs.Promises.{Judged}
use Rattle.surface_levels.specs.Levels.{HasBits, bits}
use Rattle.load_records.specs.declared.record.Record.{Record}
use Rattle.load_values.specs.LastValues.{LevelWords, Taken, no_words, word_of}

-- ---- a record

-- the specification's surface of a record: its levels as bits
abbrev pub surface_of : Record → Surface
surface_of r = record {
  defined = r.defined;
  red = bits r.red;
  green = bits r.green;
  blue = bits r.blue;
  diffuse = bits r.diffuse;
  luminosity = bits r.luminosity;
  specular = bits r.specular;
  reflection = bits r.reflection;
  transparency = bits r.transparency;
  sides = r.sides;
}

-- each level has bits of its own
pub record LevelsHaveBits (r : Record) : Type 0 where
  pub red : HasBits r.red
  pub green : HasBits r.green
  pub blue : HasBits r.blue
  pub diffuse : HasBits r.diffuse
  pub luminosity : HasBits r.luminosity
  pub specular : HasBits r.specular
  pub reflection : HasBits r.reflection
  pub transparency : HasBits r.transparency

pub record RecordIs (s : Surface) (r : Record) : Type 0 where
  pub is : surface_of r ≡ s
  pub has_bits : LevelsHaveBits r

abbrev pub MissingIs : Record → Type 0
MissingIs r = RecordIs missing r

-- ---- the record that the last values make

abbrev pub glow_in : (flags : ℕ) → ℕ
glow_in flags = if bit 0 flags then f32_one else 0

abbrev pub sides_in : (flags : ℕ) → ℕ
sides_in flags = if bit 8 flags then 3 else 1

abbrev pub settled_of : Taken → (long : LevelWords) → (diffuse luminosity sides : ℕ) → Surface
settled_of t long diffuse luminosity sides = record {
  defined = 1;
  red = t.red;
  green = t.green;
  blue = t.blue;
  diffuse = long.diffuse (t.short.diffuse diffuse);
  luminosity = long.luminosity (t.short.luminosity luminosity);
  specular = long.specular (t.short.specular 0);
  reflection = long.reflection (t.short.reflection 0);
  transparency = long.transparency (t.short.transparency 0);
  sides = sides;
}

abbrev pub record_from : Kind → Taken → Surface
record_from LWOB t = settled_of t t.long 0 (glow_in t.flags) (sides_in t.flags)
record_from LWO2 t = settled_of t no_words f32_one 0 t.sides

-- ---- answers

pub record LevelIs (long short : Option Float) (missing x : Float) : Type 0 where
  pub is : bits x ≡ word_of long (word_of short (bits missing))
  pub has_bits : HasBits x

pub record GlowIs (flags : ℕ) (x : Float) : Type 0 where
  pub is : bits x ≡ glow_in flags
  pub has_bits : HasBits x

-- the record of a part that is a surface
abbrev pub record_in : Kind → Part → Surface
record_in kind (surface s) = record_of kind s.values
record_in kind (point_list ps) = missing
record_in kind (name_list ns) = missing
record_in kind (polygon_list ps n) = missing
record_in kind (tagging t ts) = missing
record_in kind layer = missing
record_in kind skipped_chunk = missing

pub record RecordAt (kind : Kind) (s : List ℕ) (r : Record) : Type 0 where
  pub judged : Judged (surface_body kind) (record_in kind) s (fine (surface_of r))
  pub has_bits : LevelsHaveBits r
