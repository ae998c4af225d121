-- The index tells the one entry of the name, or that there is none (`RecordAtOne`).
use Rattle.load_records.specs.Promises.{surface_of}
use Rattle.load_surface_chunks.proofs.RecordAtOne.{put_nowhere, put_at_one}
use Rattle.load_surface_chunks.proofs.named.put_found.Goals as goal

pub returns-in-Some : goal.returns-in-Some
returns-in-Some c =
    put_at_one c.args.name.now c.args.index.now (surface_of c.args.r) c.args.records.now c.in-Some.k c.in-Some.ensures
    c.requires.different.0 c.store.ensures

pub returns-in_default : goal.returns-in_default
returns-in_default c = put_nowhere c.args.name.now c.args.index.now (surface_of c.args.r) c.args.records.now c.in_default.ensures
