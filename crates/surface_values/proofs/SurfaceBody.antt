-- The body of a SURF is its strings and then the sub-chunks of its own: what each is found to be makes what the body is.
use mathlib.Core.Path.{refl}
use mathlib.Core.List.{List}
use Prim.Native.Nat.{ℕ}
use native.Mathlib.Omega.{arith}
use Rattle.std.specs.Prelude.{Ok, Err}
use Rattle.format.specs.declared.Kind.{Kind}
use Rattle.format.specs.declared.Kind.TheVariants.{LWOB, LWO2}
use Rattle.format.specs.declared.Container.TheVariants.{Surf}
use Rattle.format.specs.Mesh.{Name}
use Rattle.format.specs.Items.{Verdict, fault}
use Rattle.format.specs.Surfaces.{Value, nested, surface_depth}
use Rattle.format.specs.Bodies.{Part, SurfaceChunk, surface, surface_strings, surface_body}
use Rattle.format.specs.Promises.{nothing, Judged, JudgedAt}
use Rattle.format.proofs.ReaderSteps.{on, off, given, faulty, judged_some, judged_as}
use Rattle.wire.specs.declared.Refusal.{Refusal}
use Rattle.wire.specs.declared.cursor.Cursor.{Cursor}
use Rattle.wire.specs.Promises.{TextAt}
use Rattle.surface_values.specs.Promises.{StringsAt}

-- ---- the strings

module _ {s : List ℕ} where
  pub no_name : (kind : Kind) {f : Refusal} → TextAt s 8 (Err f) → StringsAt kind s (Err f)
  unfolding surface_strings
  no_name LWOB w = record { reads = record { says = off _ w.reads.says; moves = tt } }
  no_name LWO2 w = record { reads = record { says = off _ w.reads.says; moves = tt } }

  module _ {n : ℕ} {c : Cursor} (w : TextAt s 8 (Ok (n, c))) where
    pub name_only : StringsAt LWOB s (Ok c)
    unfolding surface_strings
    name_only = record { reads = record { says = on _ w.reads.says (given refl); moves = omega (arith, w.reads.moves) } }

    pub no_source : {f : Refusal} → TextAt s c.at (Err f) → StringsAt LWO2 s (Err f)
    unfolding surface_strings
    no_source v = record { reads = record { says = on _ w.reads.says (off _ v.reads.says); moves = tt } }

    pub name_and_source : {m : ℕ} {d : Cursor} → TextAt s c.at (Ok (m, d)) → StringsAt LWO2 s (Ok d)
    unfolding surface_strings
    name_and_source v = record {
      reads = record { says = on _ w.reads.says (on _ v.reads.says (given refl)); moves = omega (arith, w.reads.moves, v.reads.moves) };
    }

-- ---- the body

abbrev chunk_of : Name × Name → List Value → SurfaceChunk
chunk_of called vs = record { name = called.0; source = called.1; values = vs }

module _ {kind : Kind} {s : List ℕ} where
  pub no_strings : {f : Refusal} → StringsAt kind s (Err f) → Judged (surface_body kind) nothing s (fault f.why f.at)
  unfolding surface_body
  no_strings w = faulty (off _ w.reads.says)

  -- a part of what the sub-chunks hold, whatever the name
  pub body_judged : {C : Type 0} {h : Part → C} {answer : Verdict C} {c : Cursor} → StringsAt kind s (Ok c)
      → ((called : Name × Name) → JudgedAt 0 c.at (nested surface_depth (Surf kind)) (λ vs. h (surface (chunk_of called vs))) s answer)
      → Judged (surface_body kind) h s answer
  unfolding surface_body
  body_judged w j = judged_some _ w.reads.says (λ called e. judged_as (λ vs. surface (chunk_of called vs)) (j called))
