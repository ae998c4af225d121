-- The reader's answer, and what the lent tables hold after it.
use Rattle.std.specs.Prelude.{ℕ, ◌/◌, List, [], ◌∷◌, ◌++◌, ◌≡◌, Bool, true, length, drop, leb, if◌then◌else◌}
use Rattle.format.specs.Bytes.{byte, every, all}
use Rattle.format.specs.Refusals.{no_room_number}
use Rattle.format.specs.Mesh.{point_size, polygon_size, record_size, Tables, tables, Needs, needs}
use Rattle.format.specs.Rules.{Outcome, refused, gives, rules}

-- "the number (0 accepted), the place, five needs (points, polygons, vertices, names, name bytes), the skipped count and the detail count"
pub record Answer : Type 0 where
  pub number : ℕ
  pub place : ℕ
  pub needs : Needs
  pub skipped : ℕ
  pub details : ℕ

abbrev pub no_needs : Needs
no_needs = record { points = 0; polygons = 0; vertices = 0; names = 0; name_bytes = 0 }

-- "Where an entry is several words, a table is as long as its whole entries." "The records table needs one entry per name."
unfoldable pub fits : Needs → Tables → Bool
fits n t =
    every
    (leb n.points (length t.points / point_size)
    ∷ leb n.polygons (length t.polygons / polygon_size)
    ∷ leb n.vertices (length t.vertices)
    ∷ leb n.names (length t.names)
    ∷ leb n.name_bytes (length t.name_bytes)
    ∷ leb n.names (length t.records / record_size)
    ∷ [])

-- "On 0 the place is 0, needs and counts are full, the front of each table holds the mesh and the rest is unchanged. On 16 needs and counts are full; on
-- every other refusal they are 0." And "16 is last": it is given where no other refusal is.
unfoldable pub answer : Outcome → Tables → Answer
answer (refused number place) t = record { number = number; place = place; needs = no_needs; skipped = 0; details = 0 }
answer (gives mesh skipped details) t = record {
  number = if fits (needs mesh) t then 0 else no_room_number;
  place = 0;
  needs = needs mesh;
  skipped = skipped;
  details = details;
}

-- "the front of each table holds the mesh and the rest is unchanged"
abbrev pub over : List ℕ → List ℕ → List ℕ
over new old = new ++ drop (length new) old

unfoldable pub filled : Tables → Tables → Tables
filled m t = record {
  points = over m.points t.points;
  polygons = over m.polygons t.polygons;
  vertices = over m.vertices t.vertices;
  names = over m.names t.names;
  name_bytes = over m.name_bytes t.name_bytes;
  records = over m.records t.records;
}

-- "Every refusal leaves every lent table or output buffer unchanged."
unfoldable pub tables_after : Outcome → Tables → Tables
tables_after (refused number place) t = t
tables_after (gives mesh skipped details) t = if fits (needs mesh) t then filled (tables mesh) t else t

-- ---- the contract of a file reader

-- It is lent a file, which is bytes, and the tables t; it answers a, and the tables come back as t'.
pub record Reads (file : List ℕ) (t : Tables) (a : Answer) (t' : Tables) : Type 0 where
  pub bytes : all byte file ≡ true
  pub answers : a ≡ answer (rules file) t
  pub leaves : t' ≡ tables_after (rules file) t
