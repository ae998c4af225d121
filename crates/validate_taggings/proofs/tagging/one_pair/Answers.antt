-- Each number is read, and then judged: the first fault of the two is the pair's.
use borrow.Author.Rules.{rules}
use mathlib.Core.Path.{◌≡◌, refl}
use native.Mathlib.Omega.{arith}
use borrow.Author.Tests.{lt-ltb, le-ltb}
use Rattle.std.specs.Prelude.{Err}
use Rattle.format.specs.Bodies.{pair}
use Rattle.format.proofs.ReaderSteps.{on, off, given, cut, good, bad}
use Rattle.validate_taggings.proofs.tagging.one_pair.Goals as goal

pub returns-in_err-polygon : goal.returns-in_err-polygon
unfolding pair
returns-in_err-polygon c =
    let told : c.from_residual.result ≡ Err c.in_err-polygon.field-0.0 = search rules in
    rw told (record { says = off _ (cut _ _ c.in_err-polygon.ensures.says); moves = tt })

pub returns-then-polygons-polygon : goal.returns-then-polygons-polygon
unfolding pair
returns-then-polygons-polygon c =
    record { says = off _ (bad _ _ c.in_ok-polygon.ensures.says (le-ltb _ _ c.if-polygons-polygon.true)); moves = tt }

pub returns-in_err-tag : goal.returns-in_err-tag
unfolding pair
returns-in_err-tag c =
    let told : c.from_residual-in_err-tag.result ≡ Err c.in_err-tag.field-0.0 = search rules in
    rw told (record { says = on _ (good _ _ c.in_ok-polygon.ensures.says (lt-ltb _ _ c.if-polygons-polygon.false)) (off _ (cut _ _ c.in_err-tag.ensures.says)); moves = tt })

pub returns-then-names-tag : goal.returns-then-names-tag
unfolding pair
returns-then-names-tag c =
    record { says = on _ (good _ _ c.in_ok-polygon.ensures.says (lt-ltb _ _ c.if-polygons-polygon.false)) (off _ (bad _ _ c.in_ok-tag.ensures.says (le-ltb _ _ c.if-names-tag.true))); moves = tt }

pub returns : goal.returns
unfolding pair
returns c =
    let v = c.in_ok-polygon.ensures in
    let t = c.in_ok-tag.ensures in
    record {
      says = on _ (good _ _ v.says (lt-ltb _ _ c.if-polygons-polygon.false)) (on _ (good _ _ t.says (lt-ltb _ _ c.if-names-tag.false)) (given refl));
      moves = omega (arith, v.moves, t.moves);
    }
