-- What follows the pivot of a layer, up to the body's end: the ends of `layer_body`.
use Rattle.format.specs.Items.{Reader, ◌>>=◌, give, up_to, u2, string}
use Rattle.format.specs.Bodies.{Part, layer}

abbrev pub parent_at_end : Reader Part
parent_at_end = up_to 1 u2 >>= (λ parent. give layer)

abbrev pub name_and_parent : Reader Part
name_and_parent = string >>= (λ called. parent_at_end)
