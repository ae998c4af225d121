-- A value changes what its tag names, and nothing else.
use Rattle.load_values.proofs.TakenValues.{taken_in}
use mathlib.Core.Path.{refl}
use Rattle.load_values.proofs.last_values.LastValues.with.Goals as goal

pub returns-in-Colour : goal.returns-in-Colour
returns-in-Colour c = rw c.in-Colour.is (taken_in (rw c.in-Colour.is at c.requires) refl)

pub returns-in-Level : goal.returns-in-Level
returns-in-Level c =
    rw c.in-Level.is (taken_in (rw c.in-Level.is at c.requires) (rw c.with-self.ensures))

pub returns-in-Long : goal.returns-in-Long
returns-in-Long c =
    rw c.in-Long.is (taken_in (rw c.in-Long.is at c.requires) (rw c.with-self-in-Long.ensures))

pub returns-in-Flags : goal.returns-in-Flags
returns-in-Flags c = rw c.in-Flags.is (taken_in (rw c.in-Flags.is at c.requires) refl)

pub returns-in-Sides : goal.returns-in-Sides
returns-in-Sides c = rw c.in-Sides.is (taken_in (rw c.in-Sides.is at c.requires) refl)
