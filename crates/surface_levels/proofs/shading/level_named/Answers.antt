-- The tags are the numbers of their four letters.
use Rattle.format.specs.Bytes.{number}
use Rattle.surface_levels.specs.Promises.{short_tag}
use Rattle.surface_levels.proofs.LevelTags.{named}
use Rattle.surface_levels.proofs.shading.level_named.Goals as goal

pub returns : goal.returns
unfolding number
returns c = rw c.named_among.ensures (named c.args.tag short_tag)
