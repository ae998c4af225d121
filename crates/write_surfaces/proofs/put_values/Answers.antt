-- The values are put one after another.
use Prim.Native.Nat.{ℕ, ◌+◌, ◌≤◌}
use mathlib.Core.Path.{◌≡◌}
use mathlib.Core.List.{List}
use lib.ListN.{drop, length}
use native.Mathlib.Omega.{arith}
use Rattle.format.specs.Bytes.{number}
use Rattle.format.specs.Mesh.{record_size, surface_from}
use Rattle.write_surfaces.specs.Surfaces.{value_bytes}
use Rattle.output.proofs.Parts.{PartsLeft, begin, room, turn, end}
use Rattle.write_surfaces.proofs.Surfaces.{values, values_are}
use Rattle.write_surfaces.proofs.put_values.Goals as goal

module _ (words : List ℕ) (size : length words ≡ record_size) (out : List ℕ) (at : ℕ) (fits : at + length (value_bytes (surface_from words)) ≤ length out) where
  -- after so many of the values
  abbrev After : (k : ℕ) → List ℕ → ℕ → Type 0
  After k out' next = PartsLeft (value_bytes (surface_from words)) (drop k (values words)) out at out' next

  none : After 0 out at
  none = begin (values_are words size) fits

pub put_levels-diffuse-requires : goal.put_levels-diffuse-requires
unfolding number
put_levels-diffuse-requires c = room (none c.args.words.now c.requires.0 c.args.out.now c.args.at c.requires.1)

pub put_levels-luminosity-requires : goal.put_levels-luminosity-requires
unfolding number
put_levels-luminosity-requires c = room (turn (none c.args.words.now c.requires.0 c.args.out.now c.args.at c.requires.1) c.put_levels-diffuse.ensures)

pub put_levels-specular-requires : goal.put_levels-specular-requires
unfolding number
put_levels-specular-requires c = room (turn (turn (none c.args.words.now c.requires.0 c.args.out.now c.args.at c.requires.1) c.put_levels-diffuse.ensures) c.put_levels-luminosity.ensures)

pub put_levels-reflection-requires : goal.put_levels-reflection-requires
unfolding number
put_levels-reflection-requires c = room (turn (turn (turn (none c.args.words.now c.requires.0 c.args.out.now c.args.at c.requires.1) c.put_levels-diffuse.ensures) c.put_levels-luminosity.ensures) c.put_levels-specular.ensures)

pub put_levels-transparency-requires : goal.put_levels-transparency-requires
unfolding number
put_levels-transparency-requires c = room (turn (turn (turn (turn (none c.args.words.now c.requires.0 c.args.out.now c.args.at c.requires.1) c.put_levels-diffuse.ensures) c.put_levels-luminosity.ensures) c.put_levels-specular.ensures) c.put_levels-reflection.ensures)

pub put_levels-sides-requires : goal.put_levels-sides-requires
unfolding number
put_levels-sides-requires c = room (turn (turn (turn (turn (turn (none c.args.words.now c.requires.0 c.args.out.now c.args.at c.requires.1) c.put_levels-diffuse.ensures) c.put_levels-luminosity.ensures) c.put_levels-specular.ensures) c.put_levels-reflection.ensures) c.put_levels-transparency.ensures)

pub bounds-words-9 : goal.bounds-words-9
bounds-words-9 c = omega (arith, c.requires.0)

pub put_sides-requires : goal.put_sides-requires
unfolding number
put_sides-requires c = room (turn (turn (turn (turn (turn (turn (none c.args.words.now c.requires.0 c.args.out.now c.args.at c.requires.1) c.put_levels-diffuse.ensures) c.put_levels-luminosity.ensures) c.put_levels-specular.ensures) c.put_levels-reflection.ensures) c.put_levels-transparency.ensures) c.put_levels-sides.ensures)

pub returns : goal.returns
unfolding number
returns c = end (turn (turn (turn (turn (turn (turn (turn (none c.args.words.now c.requires.0 c.args.out.now c.args.at c.requires.1) c.put_levels-diffuse.ensures) c.put_levels-luminosity.ensures) c.put_levels-specular.ensures) c.put_levels-reflection.ensures) c.put_levels-transparency.ensures) c.put_levels-sides.ensures) c.put_sides.ensures)

pub shape_of-out : goal.shape_of-out
shape_of-out c = (returns c).kept
