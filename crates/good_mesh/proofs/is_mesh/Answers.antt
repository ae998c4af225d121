-- A test that fails decides, and the tests that passed give what the later ones ask.
use Rattle.good_mesh.proofs.MeshTests.{not_whole, not_agreeing, not_finite, bad_polygon, bad_record, by_names, few_polygons, few_names, vertices_agree, bytes_agree}
use Rattle.mesh.proofs.AllPass.{passed}
use Rattle.good_mesh.proofs.is_mesh.Goals as goal

pub returns-then-not-whole_tables : goal.returns-then-not-whole_tables
returns-then-not-whole_tables c = not_whole _ c.whole_tables.ensures c.if-not-whole_tables.true

pub counts_agree-requires : goal.counts_agree-requires
counts_agree-requires c =
    let w = passed c.whole_tables.ensures c.if-not-whole_tables.false in
    (few_polygons _ w, few_names _ w)

pub returns-then-not-counts_agree : goal.returns-then-not-counts_agree
returns-then-not-counts_agree c =
    not_agreeing _ c.whole_tables.ensures c.if-not-whole_tables.false c.counts_agree.ensures c.if-not-counts_agree.true

pub returns-then-not-all_finite : goal.returns-then-not-all_finite
returns-then-not-all_finite c =
    not_finite _ c.whole_tables.ensures c.if-not-whole_tables.false c.counts_agree.ensures c.if-not-counts_agree.false c.all_finite.ensures c.if-not-all_finite.true

pub good_polygons-requires : goal.good_polygons-requires
good_polygons-requires c =
    vertices_agree _ _ _ _ _ c.counts_agree.ensures c.if-not-counts_agree.false

pub returns-then-not-good_polygons : goal.returns-then-not-good_polygons
returns-then-not-good_polygons c =
    bad_polygon _ c.whole_tables.ensures c.if-not-whole_tables.false c.counts_agree.ensures c.if-not-counts_agree.false c.all_finite.ensures c.if-not-all_finite.false c.good_polygons.ensures c.if-not-good_polygons.true

pub returns-then-not-good_records : goal.returns-then-not-good_records
returns-then-not-good_records c =
    bad_record _ c.whole_tables.ensures c.if-not-whole_tables.false c.counts_agree.ensures c.if-not-counts_agree.false c.all_finite.ensures c.if-not-all_finite.false c.good_polygons.ensures c.if-not-good_polygons.false c.good_records.ensures c.if-not-good_records.true

pub good_names-requires : goal.good_names-requires
good_names-requires c =
    bytes_agree _ _ _ _ _ c.counts_agree.ensures c.if-not-counts_agree.false

pub returns : goal.returns
returns c =
    by_names _ c.whole_tables.ensures c.if-not-whole_tables.false c.counts_agree.ensures c.if-not-counts_agree.false c.all_finite.ensures c.if-not-all_finite.false c.good_polygons.ensures c.if-not-good_polygons.false c.good_records.ensures c.if-not-good_records.false c.good_names.ensures
