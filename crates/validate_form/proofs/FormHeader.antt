-- The first twelve bytes of a file, test by test: each test of the rules is the one that the code makes there.
use Rattle.std.specs.Prelude.{if◌then◌else◌}
use mathlib.Core.Path.{◌≡◌}
use mathlib.Core.List.{List}
use Prim.Native.Nat.{ℕ, ◌+◌, ◌≤◌, ◌<◌}
use mathlib.Core.Bool.{true, false}
use lib.Dec.{eqb}
use lib.ListN.{length, take, drop}
use borrow.Author.Tests.{lt-ltb, le-ltb, eq-eqb, ne_eqb}
use Rattle.format.specs.declared.Kind.{Kind}
use Rattle.format.specs.declared.Fault.{Fault}
use Rattle.format.specs.declared.Fault.TheVariants.{FileTooLong, NotForm, FormLength}
use Rattle.format.specs.Bytes.{number, tag_number, ◌is◌}
use Rattle.format.specs.Items.{fine, fault, ◌and_then◌}
use Rattle.format.specs.Rules.{kind_of, form}

form_tag : (w : ℕ) → w ≡ tag_number "FORM" → (w is "FORM") ≡ true
form_tag w e = eq-eqb w _ e

other_tag : (w : ℕ) → (w ≡ tag_number "FORM" → ⊥) → (w is "FORM") ≡ false
other_tag w ne = ne_eqb w _ ne

module _ (s : List ℕ) where
  pub too_long : 16777216 < length s → fault FileTooLong 0 ≡ form s
  unfolding form
  too_long h = rw (lt-ltb _ _ h)

  module _ (small : length s ≤ 16777216) where
    pub too_short : length s < 12 → fault NotForm 0 ≡ form s
    unfolding form
    too_short h = rw (le-ltb 16777216 (length s) small, lt-ltb _ _ h)

    module _ (long : 12 ≤ length s) {w : ℕ} (tag : w ≡ number (take 4 s)) where
      pub not_form : (w ≡ tag_number "FORM" → ⊥) → fault NotForm 0 ≡ form s
      unfolding form
      not_form ne = rw (le-ltb 16777216 (length s) small, le-ltb (length s) 12 long, ← tag, other_tag w ne)

      module _ (right : w ≡ tag_number "FORM") {t : ℕ} (type : t ≡ number (take 4 (drop 8 s))) where
        opened : form s ≡ (kind_of t and_then λ kind. if eqb (number (take 4 (drop 4 s)) + 8) (length s) then fine kind else fault FormLength 0)
        unfolding form
        opened = rw (le-ltb 16777216 (length s) small, le-ltb (length s) 12 long, ← tag, form_tag w right, ← type)

        pub no_kind : {why : Fault} → fault why 0 ≡ kind_of t → fault why 0 ≡ form s
        unfolding ◌and_then◌
        no_kind e = rw (opened, ← e)

        module _ {kind : Kind} (found : fine kind ≡ kind_of t) {l : ℕ} (says : l ≡ number (take 4 (drop 4 s))) where
          pub right_length : l + 8 ≡ length s → fine kind ≡ form s
          unfolding ◌and_then◌
          right_length e = rw (opened, ← found, ← says, eq-eqb (l + 8) (length s) e)

          pub wrong_length : (l + 8 ≡ length s → ⊥) → fault FormLength 0 ≡ form s
          unfolding ◌and_then◌
          wrong_length ne = rw (opened, ← found, ← says, ne_eqb (l + 8) (length s) ne)
