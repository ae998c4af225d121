-- A body that was judged fine has its strings, and its last values make its record.
use Rattle.load_records.proofs.SurfaceRecord.{never_open, sound_nested, record_at}
use Rattle.load_records.proofs.record.record_of.Goals as goal

pub returns-in_default : goal.returns-in_default
returns-in_default c = absurd (never_open c.requires c.in_default.ensures)

pub last_values-requires : goal.last_values-requires
last_values-requires c = sound_nested c.requires c.in-Ok.ensures

pub returns : goal.returns
returns c = record_at c.in-Ok.ensures c.last_values.ensures c.of_values.ensures
