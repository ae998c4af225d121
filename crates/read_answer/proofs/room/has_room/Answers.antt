-- The six tests are those of the rules, taken together from the left.
use mathlib.Core.Path.{◌≡◌, refl}
use mathlib.Core.Bool.{Bool, true, false, ◌&&◌}
use Prim.Native.Nat.{◌/◌}
use lib.Dec.{leb}
use lib.ListN.{length}
use Rattle.format.specs.Bytes.{every}
use Rattle.format.specs.Mesh.{Needs, Tables, point_size, polygon_size, record_size}
use Rattle.format.specs.Answer.{fits}
use Rattle.mesh.specs.Tables.{tables_of}
use Rattle.validate.specs.Promises.{needs_in}
use Rattle.read_answer.proofs.room.has_room.Goals as goal

-- the tests, taken together from the left
tests : (n : Needs) (t : Tables)
    → ((((leb n.points (length t.points / point_size) && leb n.polygons (length t.polygons / polygon_size)) && leb n.vertices (length t.vertices)) && leb n.names (length t.names)) && leb n.name_bytes (length t.name_bytes)) && leb n.names (length t.records / record_size)
    ≡ fits n t
unfolding fits every
tests n t =
    together (leb n.points (length t.points / point_size)) (leb n.polygons (length t.polygons / polygon_size)) (leb n.vertices (length t.vertices)) (leb n.names (length t.names)) (leb n.name_bytes (length t.name_bytes)) (leb n.names (length t.records / record_size))
  where
    together : (a b c d e f : Bool) → ((((a && b) && c) && d) && e) && f ≡ a && (b && (c && (d && (e && (f && true)))))
    together false b c d e f = refl
    together true false c d e f = refl
    together true true false d e f = refl
    together true true true false e f = refl
    together true true true true false f = refl
    together true true true true true false = refl
    together true true true true true true = refl

pub returns : goal.returns
returns c = tests (needs_in c.args.t) (tables_of c.args.tables.now)
