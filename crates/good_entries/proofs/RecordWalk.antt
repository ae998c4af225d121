-- The records table record by record: those that are left decide, as long as each so far was good.
use Prim.Native.Nat.{ℕ, ◌<◌}
use mathlib.Core.Path.{◌≡◌, sym, ◌∙◌}
use mathlib.Core.List.{List, ◌∷◌, ◌++◌}
use mathlib.Core.Bool.{Bool, true, false}
use native.Mathlib.Omega.{arith}
use lib.ListN.{length, length-append}
use lib.Seq.{take_at, drop_at}
use Rattle.format.specs.Bytes.{all}
use Rattle.format.specs.Mesh.{record_size, surface_from}
use Rattle.format.specs.Written.{good_surface}
use Rattle.mesh.specs.Lent.{mesh_surfaces}
use Rattle.mesh.proofs.AllPass as all_pass
use Rattle.mesh.proofs.AllPass.{AllPass}
use Rattle.mesh.proofs.Entries.{first, surfaces_past}

-- `rest` is left, of which records of so many words are taken
pub record RecordWalk (ws rest : List ℕ) (size : ℕ) : Type 0 where
  pub size_is : size ≡ record_size
  pub pass : AllPass good_surface (mesh_surfaces ws) (mesh_surfaces rest)

module _ {ws rest : List ℕ} {size : ℕ} (w : RecordWalk ws rest size) where
  pub end : length rest < size → true ≡ all good_surface (mesh_surfaces ws)
  end short = all_pass.end w.pass (surfaces_past 0 rest (omega (arith, w.size_is)))

  module _ (x more : List ℕ) (cut : rest ≡ x ++ more) (long : length x ≡ size) where
    next : mesh_surfaces rest ≡ surface_from x ∷ mesh_surfaces more
    unfolding mesh_surfaces
    next =
        let ten : length x ≡ record_size = long ∙ w.size_is in
        rw (cut, first record_size (x ++ more) (omega arith) (omega (arith, length-append x more)), take_at x more record_size ten, drop_at x more record_size ten)

    module _ {b : Bool} (is : b ≡ good_surface (surface_from x)) where
      pub fails : b ≡ false → false ≡ all good_surface (mesh_surfaces ws)
      fails f = all_pass.fails w.pass next (sym is ∙ f)

      pub turn : b ≡ true → {left : ℕ} → left ≡ size → RecordWalk ws more left
      turn t same = record { size_is = same ∙ w.size_is; pass = all_pass.turn w.pass next (sym is ∙ t) }
