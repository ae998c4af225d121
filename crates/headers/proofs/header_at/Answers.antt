-- Each refusal is one test of a well-formed chunk that fails, in its order.
use mathlib.Core.Path.{◌≡◌, sym, ◌∙◌}
use mathlib.Core.List.{List}
use mathlib.Core.Bool.{Bool, true}
use Prim.Native.Nat.{ℕ, ◌+◌, ◌-◌, ◌≤◌}
use lib.ListN.{length, take, drop}
use Rattle.std.specs.List.{list_all}
use Rattle.format.specs.Bytes.{between, number}
use native.Mathlib.Omega.{arith}
use Rattle.headers.proofs.Headers.{HeadRead, good_tag, good_pad, length_is, cut, no_tag, too_long, no_pad, found}
use Rattle.headers.proofs.header_at.Goals as goal

pub returns-then-left-head : goal.returns-then-left-head
returns-then-left-head g c = cut g.row.WIDTH (omega (arith, c.left.ensures, c.if-left-head.true))

pub returns-then-not-tag_ok : goal.returns-then-not-tag_ok
returns-then-not-tag_ok g c =
    no_tag g.row.WIDTH (omega (arith, c.left.ensures, c.if-left-head.false)) (good_tag c.args.s.now c.args.c.at c.tag_ok.ensures) c.if-not-tag_ok.true

-- the tag is good, and the length was read
head : (s : List ℕ) (at width : ℕ) {left n : ℕ} {r : Bool} → left ≡ length s - at → 4 + width ≤ left
    → r ≡ list_all (between 32 126) (take (at + 4 - at) (drop at s)) → r ≡ true → n ≡ number (take width (drop (at + 4) s)) → HeadRead width s at n
head s at width is long tag good len = record {
  there = omega arith;
  tag = sym (good_tag s at tag) ∙ good;
  is = length_is width s at len;
}

pub returns-then-left-head-2 : goal.returns-then-left-head-2
returns-then-left-head-2 g c =
    let h = head _ _ g.row.WIDTH c.left.ensures c.if-left-head.false c.tag_ok.ensures c.if-not-tag_ok.false c.number_at-n.ensures.is in
    too_long g.row.WIDTH h (omega (arith, c.left-2.ensures, c.if-left-head-2.true))

pub returns-then-not-pad_ok : goal.returns-then-not-pad_ok
returns-then-not-pad_ok g c =
    let h = head _ _ g.row.WIDTH c.left.ensures c.if-left-head.false c.tag_ok.ensures c.if-not-tag_ok.false c.number_at-n.ensures.is in
    no_pad g.row.WIDTH h (omega (arith, c.left-2.ensures, c.if-left-head-2.false)) (good_pad c.args.s.now _ _ c.pad_ok.ensures) c.if-not-pad_ok.true

pub returns : goal.returns
returns g c =
    let h = head _ _ g.row.WIDTH c.left.ensures c.if-left-head.false c.tag_ok.ensures c.if-not-tag_ok.false c.number_at-n.ensures.is in
    found g.row.WIDTH h (omega (arith, c.left-2.ensures, c.if-left-head-2.false)) (good_pad c.args.s.now _ _ c.pad_ok.ensures) c.word.ensures c.if-not-pad_ok.false
