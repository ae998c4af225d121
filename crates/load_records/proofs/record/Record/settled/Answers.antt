-- Each level is settled by itself.
use Rattle.load_records.proofs.SettledRecord.{settled_is}
use Rattle.load_records.proofs.record.Record.settled.Goals as goal

pub returns : goal.returns
returns c =
    settled_is c.args.values c.args.long c.requires.0
    c.level.ensures c.level-2.ensures c.level-3.ensures c.level-4.ensures c.level-5.ensures
