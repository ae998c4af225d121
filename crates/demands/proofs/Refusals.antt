-- A file that the rules refuse: its first twelve bytes are judged by cases, and its chunks by the walk over them.
use Rattle.std.specs.Prelude.{if◌then◌else◌}
use Prim.Native.Nat.{ℕ, ◌+◌}
use mathlib.Core.Path.{◌≡◌, refl, sym, ◌∙◌}
use mathlib.Core.List.{List}
use mathlib.Core.Bool.{Bool, true, false, not, ◌||◌, true≢false, or-true}
use lib.Dec.{ltb, eqb}
use lib.ListN.{length, take, drop}
use Rattle.format.specs.declared.Kind.{Kind}
use Rattle.format.specs.declared.Kind.TheVariants.{LWOB, LWO2}
use Rattle.format.specs.declared.Fault.{Fault}
use Rattle.format.specs.declared.Fault.TheVariants.{FileTooLong, NotForm, FormLength}
use Rattle.format.specs.Bytes.{◌is◌, between, number}
use Rattle.format.specs.Limits.{file_limit}
use Rattle.format.specs.Refusals.{number_of, is_of_chunk, is_of_reader}
use Rattle.format.specs.Items.{Verdict, fine, fault, ◌and_then◌}
use Rattle.format.specs.Chunks.{chunks}
use Rattle.format.specs.Rules.{start, PartAt, walk, kind_of, form, judged, Outcome, refused, gives, outcome, rules}
use Rattle.demands.specs.Places.{AtFault}
use Rattle.demands.proofs.Boundaries.{FaultAt, Walked, walked_file}

-- the number and the place of a refusal
pub record Refusal (file : List ℕ) (number place : ℕ) : Type 1 where
  pub of_reader : is_of_reader number ≡ true
  pub of_chunk : is_of_chunk number ≡ true → AtFault file number place
  pub of_file : is_of_chunk number ≡ false → place ≡ 0

-- ---- 1, 2 and 3

-- a verdict whose fault, where it is one, is the whole file's
abbrev InFile : {A : Type 0} → Verdict A → Type 0
InFile (fine x) = Unit
InFile (fault why at) = ((is_of_reader (number_of why) ≡ true) × (is_of_chunk (number_of why) ≡ false)) × (at ≡ 0)

kind_in : (t : ℕ) → InFile (kind_of t)
unfolding kind_of number_of
kind_in t = by (t is "LWOB") (t is "LWO2")
  where
    by : (a b : Bool) → InFile (if a then fine LWOB else if b then fine LWO2 else fault NotForm 0)
    by true b = tt
    by false true = tt
    by false false = ((refl, refl), refl)

form_in : (s : List ℕ) → InFile (form s)
unfolding form number_of ◌and_then◌
form_in s =
    by (ltb file_limit (length s)) (ltb (length s) 12 || not (number (take 4 s) is "FORM")) (kind_of (number (take 4 (drop 8 s)))) (kind_in (number (take 4 (drop 8 s))))
    (eqb (number (take 4 (drop 4 s)) + 8) (length s))
  where
    by : (a b : Bool) (v : Verdict Kind) → InFile v → (c : Bool)
        → InFile (if a then fault FileTooLong 0 else if b then fault NotForm 0 else (v and_then λ kind. if c then fine kind else fault FormLength 0))
    by true b v w c = ((refl, refl), refl)
    by false true v w c = ((refl, refl), refl)
    by false false (fine k) w true = tt
    by false false (fine k) w false = ((refl, refl), refl)
    by false false (fault why at) w c = w

-- ---- every file

-- what was judged of a file, where it is a fault
abbrev InTable : {A : Type 0} → (file : List ℕ) → Verdict A → Type 1
InTable file (fine x) = Unit {1}
InTable file (fault why at) = Refusal file (number_of why) at

module _ (file : List ℕ) where
  chunk_row : (why : Fault) (place : ℕ) → FaultAt file why place → Refusal file (number_of why) place
  chunk_row why place f =
      record { of_reader = rw (f.of_chunk, or-true (between 1 3 (number_of why))); of_chunk = λ e. f.told; of_file = λ e. absurd (true≢false (sym f.of_chunk ∙ e)) }

  file_row : (why : Fault) (at : ℕ) → InFile {A = Kind} (fault why at) → Refusal file (number_of why) at
  file_row why at w =
      record { of_reader = w.0.0; of_chunk = λ e. absurd (true≢false (sym e ∙ w.0.1)); of_file = λ e. w.1 }

  judged_in : InTable file (judged file)
  unfolding judged ◌and_then◌
  judged_in = by (form file) (form_in file) refl
    where
      on : (kind : Kind) → form file ≡ fine kind → (v : Verdict (List PartAt)) → Walked file v → InTable {A = Kind × List PartAt} file (v and_then λ parts. fine (kind, parts))
      on kind e (fine parts) w = tt
      on kind e (fault why at) w = chunk_row why at w

      by : (v : Verdict Kind) → InFile v → form file ≡ v
          → InTable {A = Kind × List PartAt} file (v and_then λ kind. walk kind start 12 (chunks (drop 12 file)) and_then λ parts. fine (kind, parts))
      by (fault why at) w e = file_row why at w
      by (fine kind) w e = on kind e (walk kind start 12 (chunks (drop 12 file))) (walked_file file kind e)

-- the outcome of a file, where it is a refusal
abbrev pub InOutcome : (file : List ℕ) → Outcome → Type 1
InOutcome file (refused number place) = Refusal file number place
InOutcome file (gives m k d) = Unit {1}

pub rules_in : (file : List ℕ) → InOutcome file (rules file)
unfolding rules outcome
rules_in file = by (judged file) (judged_in file)
  where
    by : (v : Verdict (Kind × List PartAt)) → InTable file v → InOutcome file (outcome v)
    by (fine f) w = tt
    by (fault why at) w = w
