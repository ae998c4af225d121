-- The rest of LWO2's levels and colours, from the envelope on.
use Rattle.std.specs.Prelude.{List}
use Rattle.format.specs.Items.{Reader, ◌>>=◌, give, vx}
use Rattle.format.specs.Surfaces.{Value as Words}
use Rattle.surface_levels.specs.declared.value.Value.{Value}
use Rattle.surface_levels.specs.Promises.{words_of}

abbrev pub envelope_after : Value → Reader (List Words)
envelope_after v = do envelope ← vx; give (words_of v)
