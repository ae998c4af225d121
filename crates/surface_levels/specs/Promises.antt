-- What the answers on a SURF's sub-chunks say, in the specification's words.
use Rattle.std.specs.Prelude.{ℕ, ◌+◌, ◌-◌, ◌≡◌, List, [], ◌∷◌, length, Float, Result, Ok, Err, Option, Some, None}
use Rattle.format.specs.declared.Fault.TheVariants.{WrongLength}
use Rattle.format.specs.Bytes.{tag_number}
use Rattle.format.specs.Items.{Verdict, fine, fault, Got, Reader, float}
use Rattle.format.specs.Surfaces.{Value as Words, value}
use Rattle.format.specs.Promises.{got, itself, ReadsAt, taking, JudgedAt}
use Rattle.wire.specs.declared.Refusal.{Refusal}
use Rattle.wire.specs.declared.cursor.Cursor.{Cursor}
use Rattle.surface_levels.specs.declared.shading.Shading.{Shading}
use Rattle.surface_levels.specs.declared.value.Value.{Value}
use Rattle.surface_levels.specs.Levels.{HasBits, bits}

-- ---- tags

abbrev pub colour_tag : ℕ
colour_tag = tag_number "COLR"

abbrev pub flag_tag : ℕ
flag_tag = tag_number "FLAG"

abbrev pub side_tag : ℕ
side_tag = tag_number "SIDE"

-- one thing for each level, in the order of `Shading`
abbrev pub by_shading : {A : Type 0} → (luminosity diffuse specular reflection transparency : A) → Shading → A
by_shading l d s r t Shading.Luminosity = l
by_shading l d s r t Shading.Diffuse = d
by_shading l d s r t Shading.Specular = s
by_shading l d s r t Shading.Reflection = r
by_shading l d s r t Shading.Transparency = t

abbrev pub short_tag : Shading → ℕ
short_tag w = by_shading (tag_number "LUMI") (tag_number "DIFF") (tag_number "SPEC") (tag_number "REFL") (tag_number "TRAN") w

abbrev pub long_tag : Shading → ℕ
long_tag w = by_shading (tag_number "VLUM") (tag_number "VDIF") (tag_number "VSPC") (tag_number "VRFL") (tag_number "VTRN") w

-- the level whose tag it is; or it is the tag of none
abbrev pub NamedBy : (tag_of : Shading → ℕ) → (tag : ℕ) → Option Shading → Type 0
NamedBy tag_of tag (Some w) = tag ≡ tag_of w
NamedBy tag_of tag None = (w : Shading) → tag ≡ tag_of w → ⊥

-- ---- a length

-- the body of the sub-chunk whose header stands at `head` has n bytes; or that header is at fault
abbrev pub FixedAt : (n : ℕ) → List ℕ → (head : ℕ) → Result (Unit {0}) Refusal → Type 0
FixedAt n s head (Ok u) = length s - (head + 6) ≡ n
FixedAt n s head (Err f) = (length s - (head + 6) ≡ n → ⊥) × (f ≡ record { why = WrongLength; at = head })

-- ---- a float

abbrev pub float_as : List ℕ → Result (Float × Cursor) Refusal → Verdict (Got ℕ)
float_as s (Ok r) = got s (bits r.0) r.1.at
float_as s (Err f) = fault f.why f.at

abbrev pub FloatHasBits : Result (Float × Cursor) Refusal → Type 0
FloatHasBits (Ok r) = HasBits r.0
FloatHasBits (Err f) = Unit

pub record FloatAt (s : List ℕ) (at : ℕ) (answer : Result (Float × Cursor) Refusal) : Type 0 where
  pub reads : ReadsAt float (taking 4) s at (float_as s answer)
  pub has_bits : FloatHasBits answer

-- ---- a value

-- what a value is in the specification
abbrev pub words_of : Value → List Words
words_of (Value.Colour r g b) = value colour_tag (bits r ∷ bits g ∷ bits b ∷ [])
words_of (Value.Level w x) = value (short_tag w) (bits x ∷ [])
words_of (Value.Long w x) = value (long_tag w) (bits x ∷ [])
words_of (Value.Flags n) = value flag_tag (n ∷ [])
words_of (Value.Sides n) = value side_tag (n ∷ [])

-- a sub-chunk that is not listed gives none
abbrev pub words_given : Option Value → List Words
words_given (Some v) = words_of v
words_given None = []

-- each of its floats has bits of its own
abbrev pub ValueHasBits : Value → Type 0
ValueHasBits (Value.Colour r g b) = HasBits r × HasBits g × HasBits b
ValueHasBits (Value.Level w x) = HasBits x
ValueHasBits (Value.Long w x) = HasBits x
ValueHasBits (Value.Flags n) = Unit
ValueHasBits (Value.Sides n) = Unit

abbrev pub GivenHasBits : Option Value → Type 0
GivenHasBits (Some v) = ValueHasBits v
GivenHasBits None = Unit

-- what a body is found to be: the words of what it gives, or the first fault
abbrev pub words_as : {A : Type 0} → (A → List Words) → Result A Refusal → Verdict (List Words)
words_as words (Ok a) = fine (words a)
words_as words (Err f) = fault f.why f.at

abbrev pub Given : {A : Type 0} → (A → Type 0) → Result A Refusal → Type 0
Given holds (Ok a) = holds a
Given holds (Err f) = Unit

-- the body of a sub-chunk whose header stands at `head` and that gives a value, or the rest of it from a place on
pub record RestAt (r : Reader (List Words)) (head : ℕ) (s : List ℕ) (at : ℕ) (answer : Result Value Refusal) : Type 0 where
  pub judged : JudgedAt head at r itself s (words_as words_of answer)
  pub has_bits : Given ValueHasBits answer

abbrev pub ValueAt : Reader (List Words) → (head : ℕ) → List ℕ → Result Value Refusal → Type 0
ValueAt r head s answer = RestAt r head s (head + 6) answer

-- the body of a sub-chunk that may give none
pub record ValueResultAt (r : Reader (List Words)) (head : ℕ) (s : List ℕ) (answer : Result (Option Value) Refusal) : Type 0 where
  pub judged : JudgedAt head (head + 6) r itself s (words_as words_given answer)
  pub has_bits : Given GivenHasBits answer
