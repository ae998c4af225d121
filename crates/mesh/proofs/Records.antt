-- The words of a record are those that its surface is made of, one by one.
use Prim.Native.Nat.{ℕ}
use mathlib.Core.Path.{◌≡◌, ◌∙◌}
use mathlib.Core.List.{List}
use native.Mathlib.Omega.{arith}
use lib.ListN.{length, take, drop}
use lib.Seq.{take_all}
use Rattle.format.proofs.Indexed.{elements, elements_are}
use Rattle.format.specs.Mesh.{record_size, surface_from, surface_words, levels}

module _ (ws : List ℕ) (long : length ws ≡ record_size) where
  pub words_back : surface_words (surface_from ws) ≡ ws
  unfolding elements
  words_back = elements_are 0 record_size ws (omega arith) ∙ take_all record_size ws (omega arith)

  pub levels_are : levels (surface_from ws) ≡ take 8 (drop 1 ws)
  unfolding elements
  levels_are = elements_are 1 8 ws (omega arith)
