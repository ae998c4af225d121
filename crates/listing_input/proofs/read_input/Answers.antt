-- One read more: what it took stands behind what was taken before, which it leaves as it was.
use Rattle.std.proofs.Common.{◌≡◌, ◌+◌, ◌≤◌, ◌++◌, List, Option, ℕ, arith, length, take}
use Rattle.std.proofs.Math.Seq.{take-add}
use Rattle.std.proofs.lemmas.List.{take_at, drop_at, take-append-le, length-take-le, length-append}
use Rattle.std.proofs.KnownBytes.{Consumes-trans}
use Rattle.std.specs.Io.KnownBytes.{Consumes}
use borrow.Rule.Slice.PartMut.{put_mid, post_of}
use Rattle.listing_input.proofs.read_input.Goals as goal

taken_more : (had mid has : Option (List ℕ)) (held room more : ℕ) (before got : List ℕ) → held ≤ length before → more ≤ length got → Consumes had mid (take held before)
    → Consumes mid has (take more got) → Consumes had has (take (held + more) (put_mid held room before got))
taken_more had mid has held room more before got inside fits first second =
    let front : length (take held before) ≡ held = length-take-le held before inside in
    let rest : List ℕ = post_of held room before in
    rw (take-add held more (put_mid held room before got), take_at (take held before) (got ++ rest) held front, drop_at (take held before) (got ++ rest) held front, take-append-le more got rest fits)
    (Consumes-trans had mid has (take held before) (take more got) first second)

inside_more : (held room more : ℕ) (before got : List ℕ) → held ≤ length before → more ≤ length got → held + more ≤ length (put_mid held room before got)
inside_more held room more before got inside fits =
    rw (length-append (take held before) (got ++ post_of held room before), length-append got (post_of held room before), length-take-le held before inside) (omega arith)

pub loop-held-preserved : goal.loop-held-preserved
loop-held-preserved g c = record {
  inside = inside_more _ _ _ _ _ c.loop-held.invariant.inside c.in_ok-more.ensures.bound.0;
  taken = taken_more _ _ _ _ _ _ _ _ c.loop-held.invariant.inside c.in_ok-more.ensures.bound.0 c.loop-held.invariant.taken c.in_ok-more.ensures.bytes.0;
}
