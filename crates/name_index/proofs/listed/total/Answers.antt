-- The chain adds up the lengths, each as it is.
use borrow.Author.Rules.{rules}
use mathlib.Core.Path.{◌≡◌, refl, ◌∙◌}
use mathlib.Core.List.{List, [], ◌∷◌}
use Prim.Native.Nat.{ℕ, ◌+◌, ◌<◌, ◌^◌}
use native.Mathlib.Omega.{arith}
use Rattle.std.specs.List.{sum_by}
use Rattle.std.proofs.lemmas.List.Sums.{sum_by_from}
use Rattle.format.specs.Bytes.{sum}
use Rattle.name_index.proofs.listed.total.Goals as goal

same_sum : (ns : List ℕ) → sum_by (λ n. n) ns ≡ sum ns
unfolding sum
same_sum [] = refl
same_sum (n ∷ ns) = omega (arith, sum_by_from (λ n. n) (0 + n) ns, same_sum ns)

pub sum-requires-clause-fits : goal.sum-requires-clause-fits
sum-requires-clause-fits c =
    let fits : sum_by (λ n. n) c.args.lengths.now < 2 ^ 64 = rw (same_sum c.args.lengths.now) c.requires in
    search rules

pub returns : goal.returns
returns c =
    let is : c.sum.result ≡ sum_by (λ n. n) c.args.lengths.now = search rules in
    is ∙ same_sum c.args.lengths.now
