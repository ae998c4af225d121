-- The hash is cut to the number of buckets.
use mathlib.Core.Path.{ap}
use Prim.Native.Nat.{◌%◌}
use native.Mathlib.Omega.{arith}
use Rattle.name_index.specs.Index.{bucket_of}
use Rattle.name_index.proofs.bucket.Goals as goal

pub returns : goal.returns
unfolding bucket_of
returns c = (ap (λ h. h % 16384) c.hash.ensures, omega arith)
