-- The tables that a caller lends, as the specification's.
use Rattle.format.specs.Mesh.{Tables, lent}
use Rattle.mesh.specs.declared.lent.Tables.{Tables as LentTables}

abbrev pub tables_of : LentTables → Tables
tables_of t = lent t.points.now t.polygons.now t.vertices.now t.names.now t.name_bytes.now t.records.now
