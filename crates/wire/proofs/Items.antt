-- How large an item is that was read: a U2, and a name with its terminator.
use mathlib.Core.Path.{◌≡◌, refl, sym, ap, ◌∙◌}
use mathlib.Core.Bool.{Bool, true, false}
use mathlib.Core.List.{List}
use Prim.Native.Nat.{ℕ, ◌+◌, ◌-◌, ◌≤◌, ◌<◌}
use native.Mathlib.Omega.{arith}
use Rattle.std.specs.Prelude.{Ok}
use lib.Dec.{ltb}
use lib.ListN.{length, get_or, take, drop, length-take, length-drop}
use mir.Syntax.{w8}
use mir.Val.{Fits}
use borrow.Author.Tests.{ltb-true, ltb-false}
use Rattle.format.specs.Bytes.{number}
use Rattle.format.specs.Items.{u2}
use Rattle.format.specs.Promises.{got, taking, ReadsAt}
use Rattle.format.proofs.ReaderSteps.{exactly}
use Rattle.format.proofs.Places.{uint_cut, uint_whole, two_is}
use Rattle.format.proofs.Verdicts.{same_fine}
use Rattle.wire.specs.declared.cursor.Cursor.{Cursor}
use Rattle.wire.specs.Promises.{TextAt}
use Rattle.wire.proofs.ReadAgain.{never}

-- a U2 that was read has two bytes
pub u2_small : {s : List ℕ} {at v next : ℕ} → ((k : ℕ) → Fits w8 (get_or s k 0)) → ReadsAt u2 (taking 2) s at (got s v next) → v < 65536
u2_small {s} {at} {v} {next} bytes w = by (ltb (length s - at) 2) refl
  where
    by : (t : Bool) → ltb (length s - at) 2 ≡ t → v < 65536
    by true e = absurd (never (record { value = _; is = exactly w.says }) (uint_cut 2 (ltb-true (length s - at) 2 e)).says)
    by false e =
        let there : at + 2 ≤ length s = omega (arith, ltb-false) in
        let is : v ≡ number (take 2 (drop at s)) = ap (λ g. g.value) (same_fine (sym (exactly w.says) ∙ exactly (uint_whole 2 there refl).says)) in
        omega (arith, is, two_is s at there, (bytes at).fits, (bytes (at + 1)).fits)

-- a name and its terminator stand in the slice
pub inside : {s : List ℕ} {at n : ℕ} {next : Cursor} → TextAt s at (Ok (n, next))
    → (at + n < next.at) × (next.at ≤ length s) × (length (take n (drop at s)) ≡ n)
inside {s} {at} {n} r =
    let k = length-take n (drop at s) in
    let l = length-drop at s in
    (omega (arith, r.reads.moves, r.inside), r.inside, omega (arith, r.reads.moves, r.inside))
