-- What goes by kind of file is put in by the case: LWO2 has no float forms of its own.
use Rattle.load_values.proofs.TakenValues.{no_levels_is}
use Rattle.load_records.proofs.SettledRecord.{lwob_settled, lwo2_settled}
use Rattle.load_records.proofs.record.Record.of_values.Goals as goal

pub returns-in-LWOB : goal.returns-in-LWOB
returns-in-LWOB c =
    let values = c.args.values in
    rw c.in-LWOB.is (lwob_settled values c.glow.ensures c.sides.ensures c.settled.ensures)

pub returns-in-LWO2 : goal.returns-in-LWO2
returns-in-LWO2 c =
    rw c.in-LWO2.is (lwo2_settled c.args.values (no_levels_is c.default.ensures) c.settled-in-LWO2.ensures)
