-- The twelve bytes at the front of a file. `form_bytes` writes those that the rules take, and a file that they give a mesh has no others.
use Prim.Native.Nat.{ℕ, ◌+◌, ◌≤◌}
use Prim.Native.String.{String}
use mathlib.Core.Path.{◌≡◌, refl, ◌∙◌}
use mathlib.Core.List.{List, map}
use native.Mathlib.Omega.{arith}
use lib.ListN.{length, drop}
use lib.Seq.{take_at, drop_at}
use borrow.Author.Tests.{le-ltb, eq-eqb}
use Rattle.format.specs.Bytes.{number, spelt, sum}
use Rattle.format.specs.Limits.{file_limit}
use Rattle.format.specs.Refusals.{number_of}
use Rattle.format.specs.Items.{Verdict, fine, fault, ◌and_then◌}
use Rattle.format.specs.declared.Kind.{Kind}
use Rattle.format.specs.declared.Kind.TheVariants.{LWOB, LWO2}
use Rattle.format.specs.Chunks.{Chunks, chunks}
use Rattle.format.specs.Mesh.{Mesh}
use Rattle.format.specs.Bodies.{Part}
use Rattle.format.specs.Rules.{Before, start, PartAt, walk, kind_of, form, judged, mesh_of, skipped_of, details_of, parts_of, outcome, Outcome, refused, gives, rules}
use Rattle.format.specs.Promises.{walk_parts}
use Rattle.format.specs.Canonical.{bytes, form_bytes}
use Rattle.format.proofs.Facts.{impossible}
use Rattle.format.proofs.CanonicalLengths.{length_form}
use Rattle.laws.proofs.Numbers.{number_bytes}

-- ---- a file as `form_bytes` writes it

-- the type that a file of that kind has
abbrev pub type_of_kind : Kind → String
type_of_kind LWOB = "LWOB"
type_of_kind LWO2 = "LWO2"

pub four_bytes : (kind : Kind) → length (spelt (type_of_kind kind)) ≡ 4
four_bytes LWOB = refl
four_bytes LWO2 = refl

kind_back : (kind : Kind) → kind_of (number (spelt (type_of_kind kind))) ≡ fine kind
unfolding kind_of number
kind_back LWOB = refl
kind_back LWO2 = refl

drop_form : (kind : Kind) (rest : List ℕ) → drop 12 (form_bytes (type_of_kind kind) rest) ≡ rest
unfolding form_bytes bytes
drop_form kind rest = drop_at (spelt (type_of_kind kind)) rest 4 (four_bytes kind)

form_back : (kind : Kind) (rest : List ℕ) → 12 + length rest ≤ file_limit → form (form_bytes (type_of_kind kind) rest) ≡ fine kind
unfolding form form_bytes bytes number ◌and_then◌
form_back kind rest fits =
    let s : List ℕ = form_bytes (type_of_kind kind) rest in
    let long : length s ≡ 12 + length rest = length_form (type_of_kind kind) rest (four_bytes kind) in
    let told : number (bytes 4 (4 + length rest)) ≡ 4 + length rest = number_bytes 4 (4 + length rest) (omega arith) in
    rw (le-ltb file_limit (length s) (omega arith), le-ltb (length s) 12 (omega arith), take_at (spelt (type_of_kind kind)) rest 4 (four_bytes kind), kind_back kind, told, eq-eqb (4 + length rest + 8) (length s) (omega arith))

-- what the parts of a file of that kind come to
unfoldable pub told : Kind → Verdict (List Part) → Outcome
told kind (fine parts) = gives (mesh_of kind parts) (sum (map skipped_of parts)) (sum (map details_of parts))
told kind (fault why at) = refused (number_of why) at

-- the places of the parts are not looked at
told_parts : (kind : Kind) (b : Before) (place : ℕ) (cs : Chunks)
    → outcome (walk kind b place cs and_then λ ps. fine (kind, ps)) ≡ told kind (walk_parts kind b place cs)
unfolding walk_parts outcome told ◌and_then◌
told_parts kind b place cs = by (walk kind b place cs)
  where
    by : (v : Verdict (List PartAt)) → outcome (v and_then λ ps. fine (kind, ps)) ≡ told kind (v and_then λ ps. fine (parts_of ps))
    by (fine ps) = refl
    by (fault why at) = refl

-- and what its chunks come to
abbrev pub outcome_of : Kind → Chunks → Outcome
outcome_of kind cs = told kind (walk_parts kind start 12 cs)

-- a file's outcome is that of its chunks
pub rules_of : (s : List ℕ) (kind : Kind) → form s ≡ fine kind → rules s ≡ outcome_of kind (chunks (drop 12 s))
unfolding rules judged ◌and_then◌
rules_of s kind e = rw e (told_parts kind start 12 (chunks (drop 12 s)))

pub rules_form : (kind : Kind) (rest : List ℕ) → 12 + length rest ≤ file_limit → rules (form_bytes (type_of_kind kind) rest) ≡ outcome_of kind (chunks rest)
rules_form kind rest fits = rules_of (form_bytes (type_of_kind kind) rest) kind (form_back kind rest fits) ∙ rw (drop_form kind rest)

-- where the outcome is a mesh, no chunk was at fault
pub was_fine : (kind : Kind) (v : Verdict (List Part)) {m : Mesh} {k d : ℕ} → told kind v ≡ gives m k d → (parts : List Part) × (v ≡ fine parts)
unfolding told
was_fine kind (fine parts) e = (parts, refl)
was_fine kind (fault why at) e = impossible (cc)
