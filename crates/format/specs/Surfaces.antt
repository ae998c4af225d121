-- Surfaces: the sub-chunks of a SURF, by kind of file and level, and the record that their values make.
use Rattle.std.specs.Prelude.{ℕ, zero, suc, ◌+◌, ◌/◌, ◌%◌, ◌^◌, List, [], ◌∷◌, map, Bool, ◌||◌, take, get_or, eqb, if◌then◌else◌}
use Prim.Native.String.{String}
use Rattle.format.specs.declared.Kind.{Kind}
use Rattle.format.specs.declared.Kind.TheVariants.{LWOB, LWO2}
use Rattle.format.specs.declared.Container.{Container}
use Rattle.format.specs.declared.Container.TheVariants.{Surf, Blok, Attributes}
use Rattle.format.specs.declared.Fault.TheVariants.{SurfaceValue}
use Rattle.format.specs.Bytes.{◌is◌, over255, over256, f32_one, empty, joined}
use Rattle.format.specs.Items.{fault, Reader, ◌>>=◌, give, ◌or◌unless◌, many, item, u2, i2, float, vx, string}
use Rattle.format.specs.Chunks.{header_of, sub, fixed, unjudged}
use Rattle.format.specs.Mesh.{Surface, missing_colour, missing}

-- a listed sub-chunk: its tag and the words that it gives
pub record Value : Type 0 where
  pub tag : ℕ
  pub words : List ℕ

abbrev pub value : ℕ → List ℕ → List Value
value t words = record { tag = t; words = words } ∷ []

-- "Unlisted tags are skipped"
abbrev pub unlisted : Reader (List Value)
unlisted = unjudged []

abbrev pub level_tag : ℕ → Bool
level_tag t = t is "LUMI" || t is "DIFF" || t is "SPEC" || t is "REFL" || t is "TRAN"

-- ---- LWOB

abbrev pub float_level : ℕ → Bool
float_level t = t is "VLUM" || t is "VDIF" || t is "VSPC" || t is "VRFL" || t is "VTRN"

-- "COLR has 4 bytes: each of the first three divided by 255, rounded once; the fourth isn't judged."
abbrev pub byte_colour : (tag : ℕ) → Reader (List Value)
byte_colour t = fixed 4 (do bytes ← item 4; give (value t (map over255 (take 3 bytes))))

-- "LUMI, DIFF, SPEC, REFL, TRAN (2 bytes, signed): n divided by 256, which is exact. 003 tells of old REFL and SPEC of length 4; they are 6 (house)."
abbrev pub short_level : (tag : ℕ) → Reader (List Value)
short_level t = fixed 2 (do n ← i2; give (value t (over256 n ∷ [])))

-- "VLUM, VDIF, VSPC, VRFL, VTRN (4 bytes): the float"
abbrev pub long_level : (tag : ℕ) → Reader (List Value)
long_level t = fixed 4 (do x ← float; give (value t (x ∷ [])))

-- "FLAG (2 bytes)"
abbrev pub flags : (tag : ℕ) → Reader (List Value)
flags t = fixed 2 (do n ← u2; give (value t (n ∷ [])))

unfoldable pub lwob_value : (tag : ℕ) → Reader (List Value)
lwob_value t =
    if t is "COLR" then byte_colour t
    else if level_tag t then short_level t
    else if float_level t then long_level t
    else if t is "FLAG" then flags t
    else unlisted

-- ---- LWO2

-- "COLR: three floats and a VX." "Bodies are used up exactly; the VX is dropped."
abbrev pub float_colour : (tag : ℕ) → Reader (List Value)
float_colour t = do r ← float; g ← float; b ← float; envelope ← vx; give (value t (r ∷ g ∷ b ∷ []))

-- "DIFF, LUMI, SPEC, REFL, TRAN: float and VX."
abbrev pub enveloped_level : (tag : ℕ) → Reader (List Value)
enveloped_level t = do x ← float; envelope ← vx; give (value t (x ∷ []))

-- "SIDE: U2"; 15: "SIDE neither 1 nor 3"
abbrev pub side_number : ℕ → Bool
side_number n = eqb n 1 || eqb n 3

abbrev pub side : (tag : ℕ) → Reader (List Value)
side t = fixed 2 (do n ← u2 or SurfaceValue unless side_number; give (value t (n ∷ [])))

unfoldable pub lwo2_value : (tag : ℕ) → Reader (List Value)
lwo2_value t =
    if t is "COLR" then float_colour t
    else if level_tag t then enveloped_level t
    else if t is "SIDE" then side t
    else unlisted

abbrev pub value_of : Kind → (tag : ℕ) → Reader (List Value)
value_of LWOB t = lwob_value t
value_of LWO2 t = lwo2_value t

-- ---- the nesting: what a sub-chunk holds, by its container. `inner` reads the sub-chunks of a container on the level below.

-- "a TMAP directly in a BLOK holds sub-chunks"; on level four its body is not looked at
unfoldable pub attribute : (inner : Container → Reader (List Value)) (tag : ℕ) → Reader (List Value)
attribute inner t = if t is "TMAP" then inner Attributes else unlisted

-- "its first sub-chunk is IMAP, PROC, GRAD or SHDR, holding a string and then sub-chunks"; another is the fault of BLOK's own header
abbrev pub block_type : ℕ → Bool
block_type t = t is "IMAP" || t is "PROC" || t is "GRAD" || t is "SHDR"

unfoldable pub block_header : (inner : Container → Reader (List Value)) (blok tag : ℕ) → Reader (List Value)
block_header inner blok t = if block_type t then (do ordinal ← string; inner Attributes) else (λ at s. fault SurfaceValue blok)

-- 15: "BLOK empty or with another first sub-chunk". It gives no value.
unfoldable pub block : (inner : Container → Reader (List Value)) → Reader (List Value)
block inner at s = if empty s then fault SurfaceValue (header_of 2 at) else (do vs ← inner (Blok (header_of 2 at)); give []) at s

-- "BLOK, only in SURF"; its first sub-chunk is the one whose header follows its own, and "a later one is unlisted"
unfoldable pub held : (inner : Container → Reader (List Value)) → Container → (tag : ℕ) → Reader (List Value)
held inner (Surf LWOB) t = value_of LWOB t
held inner (Surf LWO2) t = if t is "BLOK" then block inner else value_of LWO2 t
held inner (Blok blok) t = λ at. if eqb (header_of 2 at) (blok + 6) then block_header inner blok t at else attribute inner t at
held inner Attributes t = attribute inner t

-- "The nesting is checked level by level": the sub-chunks of a container, of which so many levels are looked at.
unfoldable pub nested : (depth : ℕ) → Container → Reader (List Value)
nested zero c = unlisted
nested (suc depth) c = do vs ← many (sub (held (nested depth) c)); give (joined vs)

-- "to a depth of at most four counting SURF's own sub-chunks as level two": levels two, three and four
abbrev pub surface_depth : ℕ
surface_depth = 3

-- ---- the record

-- "a repeated sub-chunk's last value stands": word i of the last value with that tag, or `now` where there is none
unfoldable pub last_of : List Value → (tag : String) (i now : ℕ) → ℕ
last_of [] tag i now = now
last_of (v ∷ vs) tag i now = last_of vs tag i (if v.tag is tag then get_or v.words i now else now)

-- the only word of the last value
abbrev pub last_word : List Value → (tag : String) (now : ℕ) → ℕ
last_word vs tag now = last_of vs tag 0 now

abbrev pub bit : ℕ → ℕ → Bool
bit i n = eqb (n / 2 ^ i % 2) 1

-- LWOB: the float "wins over the short form in either order. FLAG (2 bytes): bit 8 gives sides 3; bit 0 gives luminosity 1.0 if neither LUMI nor VLUM is
-- there. Missing levels but colour are 0, sides 1." LWO2: "Missing: diffuse 1.0, other levels but colour 0, sides 1", as in `missing`.
unfoldable pub record_of : Kind → List Value → Surface
record_of LWOB vs = record {
  defined = 1;
  red = last_of vs "COLR" 0 missing_colour;
  green = last_of vs "COLR" 1 missing_colour;
  blue = last_of vs "COLR" 2 missing_colour;
  diffuse = last_word vs "VDIF" (last_word vs "DIFF" 0);
  luminosity = last_word vs "VLUM" (last_word vs "LUMI" (if bit 0 (last_word vs "FLAG" 0) then f32_one else 0));
  specular = last_word vs "VSPC" (last_word vs "SPEC" 0);
  reflection = last_word vs "VRFL" (last_word vs "REFL" 0);
  transparency = last_word vs "VTRN" (last_word vs "TRAN" 0);
  sides = if bit 8 (last_word vs "FLAG" 0) then 3 else 1;
}
record_of LWO2 vs = record {
  defined = 1;
  red = last_of vs "COLR" 0 missing.red;
  green = last_of vs "COLR" 1 missing.green;
  blue = last_of vs "COLR" 2 missing.blue;
  diffuse = last_word vs "DIFF" missing.diffuse;
  luminosity = last_word vs "LUMI" missing.luminosity;
  specular = last_word vs "SPEC" missing.specular;
  reflection = last_word vs "REFL" missing.reflection;
  transparency = last_word vs "TRAN" missing.transparency;
  sides = last_word vs "SIDE" missing.sides;
}
