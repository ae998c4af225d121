-- Each turn puts one vertex more, and none is cut.
use Rattle.load_vertices.proofs.PutVertices.{vertices_begin, vertices_end, item_sound, vertex_fits, vertices_turn}
use Rattle.load_vertices.proofs.Unwrapped.{there}
use Rattle.load_vertices.proofs.vertices.put_vertices.Goals as goal

pub loop-word-init : goal.loop-word-init
loop-word-init g c = vertices_begin c.requires

pub unwrap-v-requires : goal.unwrap-v-requires
unwrap-v-requires g c = there _ (item_sound c.loop-word.invariant c.loop-word-test.true) c.read.ensures

pub overflow_add-word : goal.overflow_add-word
overflow_add-word g c =
    record { fits = vertex_fits c.loop-word.invariant c.loop-word-test.true (rw c.unwrap-v.ensures at c.read.ensures) }

pub loop-word-preserved : goal.loop-word-preserved
loop-word-preserved g c =
    vertices_turn c.loop-word.invariant c.loop-word-test.true (rw c.unwrap-v.ensures at c.read.ensures)

pub returns : goal.returns
returns g c = vertices_end c.loop-word.invariant c.loop-word-test.false
