-- All vertices being numbers of points, the entries decide: a walk over the polygons, those that are left deciding as long as each so far was good.
use mathlib.Core.Path.{refl, ◌∙◌}
use native.Mathlib.Omega.{arith}
use Rattle.mesh.proofs.AllPass as all_pass
use Rattle.mesh.proofs.AllPass.{passed, failed}
use Rattle.mesh.proofs.PolygonEntries.{whole, counted_in, begin, ordered, here, turn, end}
use Rattle.good_entries.proofs.GoodPolygons.{not_below, by_words, judged}
use Rattle.good_entries.proofs.polygons.good_polygons.Goals as goal

pub returns-then-not-all_below : goal.returns-then-not-all_below
returns-then-not-all_below c =
    not_below c.args.points c.args.names c.args.polygons.now c.args.vertices.now c.requires c.all_below.ensures c.if-not-all_below.true

pub loop-entry-init : goal.loop-entry-init
loop-entry-init c = begin (cc) (cc) c.requires all_pass.begin

pub polygon_at-p-requires : goal.polygon_at-p-requires
polygon_at-p-requires c = (whole c.loop-entry.invariant c.next.new.self _ c.in-Some.ensures.steps, omega (arith, counted_in c.loop-entry.invariant c.next.new.self _ c.in-Some.ensures.steps))

pub overflow_sub-p : goal.overflow_sub-p
overflow_sub-p c =
    omega (arith, ordered c.loop-entry.invariant c.next.new.self _ c.in-Some.ensures.steps c.polygon_at-p.ensures)

pub returns-then-not-good_entry : goal.returns-then-not-good_entry
returns-then-not-good_entry c =
    let w = c.loop-entry.invariant in
    let b = judged c.args.names w c.next.new.self _ c.in-Some.ensures.steps c.polygon_at-p.ensures c.good_entry.ensures in
    all_pass.fails (here w c.next.new.self _ c.in-Some.ensures.steps c.polygon_at-p.ensures) refl (failed b c.if-not-good_entry.true) ∙ by_words c.args.points c.args.names c.args.polygons.now c.args.vertices.now c.requires c.all_below.ensures c.if-not-all_below.false

pub loop-entry-preserved : goal.loop-entry-preserved
loop-entry-preserved c =
    let w = c.loop-entry.invariant in
    let b = judged c.args.names w c.next.new.self _ c.in-Some.ensures.steps c.polygon_at-p.ensures c.good_entry.ensures in
    turn w c.next.new.self _ c.in-Some.ensures.steps c.polygon_at-p.ensures (all_pass.turn (here w c.next.new.self _ c.in-Some.ensures.steps c.polygon_at-p.ensures) refl (passed b c.if-not-good_entry.false))

pub returns : goal.returns
returns c = all_pass.end (end c.loop-entry.invariant c.next.new.self c.in-None.ensures.steps) refl ∙ by_words c.args.points c.args.names c.args.polygons.now c.args.vertices.now c.requires c.all_below.ensures c.if-not-all_below.false
