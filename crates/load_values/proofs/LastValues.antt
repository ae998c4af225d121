-- Where the sub-chunks were judged fine, each gives the value that its tag says, for a BLOK gives none; so the last values are taken in one after another.
use Rattle.std.specs.Prelude.{if◌then◌else◌, Option, Some, None, Ok, Err}
use mathlib.Core.Path.{◌≡◌, refl, sym, ap, ◌∙◌}
use mathlib.Core.Bool.{Bool, true, false}
use mathlib.Core.List.{List, [], ◌++◌}
use Prim.Native.Nat.{ℕ, ◌+◌, ◌≤◌, ◌<◌}
use native.Mathlib.Omega.{arith}
use lib.ListN.{length, take, drop}
use borrow.Author.Tests.{eqb-true}
use Rattle.format.specs.declared.Kind.{Kind}
use Rattle.format.specs.declared.Kind.TheVariants.{LWOB, LWO2}
use Rattle.format.specs.declared.Container.{Container}
use Rattle.format.specs.declared.Container.TheVariants.{Surf, Blok}
use Rattle.format.specs.declared.Fault.{Fault}
use Rattle.format.specs.declared.Fault.TheVariants.{WrongLength, SurfaceValue}
use Rattle.format.specs.Bytes.{tag_number, ◌is◌, number, joined, empty}
use Rattle.format.specs.Items.{Verdict, fine, fault, Got, ◌and_then◌, ◌>>=◌, give, Reader, whole}
use Rattle.format.specs.Chunks.{header_of, chunk_of, sub, unjudged}
use Rattle.format.specs.Surfaces.{Value as Words, lwo2_value, value_of, block, held, nested, surface_depth}
use Rattle.format.specs.Promises.{keep, itself, Says, Succeeds}
use Rattle.format.proofs.Facts.{impossible}
use Rattle.format.proofs.ReaderSteps.{exact, exactly, stopped, used_up}
use Rattle.format.proofs.Verdicts.{same_fine, then_fine, chosen, passed}
use Rattle.format.proofs.Entries.{ManyLoop, many_begin, many_turn, many_end}
use Rattle.format.proofs.Inversion.{many_sound}
use Rattle.wire.specs.declared.Refusal.{Refusal}
use Rattle.headers.specs.declared.Header.{Header}
use Rattle.headers.specs.Promises.{HeaderAt}
use Rattle.headers.proofs.Headers.{sub_bad, sub_fine, sub_stop}
use Rattle.surface_levels.specs.declared.value.Value.{Value}
use Rattle.load_values.specs.declared.last_values.LastValues.{LastValues}
use Rattle.surface_levels.specs.Promises.{words_given, ValueResultAt}
use Rattle.load_values.specs.LastValues.{none_taken, taken, taken_of, LastValuesHaveBits, NoneMet, TakenIn, LastAt}
use Rattle.load_values.proofs.TakenValues.{taken_first, taken_none}

-- ---- where the nesting is fine

module _ (inner : Container → Reader (List Words)) (head at : ℕ) (b : List ℕ) where
  block_gives_none : {vs : List Words} → whole head (block inner) at b ≡ fine vs → vs ≡ []
  unfolding whole block ◌>>=◌
  block_gives_none {vs} e =
      let x = then_fine (block inner at b) _ e in
      let v = same_fine (chosen (empty x.0.left) (fine x.0.value) WrongLength head x.2).1 in
      let y = (passed (empty b) ((inner (Blok (header_of 2 at)) >>= (λ vs. give [])) at b) SurfaceValue (header_of 2 at) x.1).1 in
      let z = then_fine (inner (Blok (header_of 2 at)) at b) _ y in
      sym v ∙ sym (ap (λ g. g.value) (same_fine z.2))

  value_alone : (kind : Kind) (t : ℕ) {vs : List Words} → whole head (held inner (Surf kind) t) at b ≡ fine vs → whole head (value_of kind t) at b ≡ fine vs
  unfolding held lwo2_value number unjudged whole ◌and_then◌
  value_alone LWOB t e = e
  value_alone LWO2 t {vs} e = by (t is "BLOK") refl e
    where
      none : t ≡ tag_number "BLOK" → whole head (lwo2_value t) at b ≡ fine []
      none q = rw q

      by : (u : Bool) → t is "BLOK" ≡ u → whole head (if u then block inner else lwo2_value t) at b ≡ fine vs → whole head (lwo2_value t) at b ≡ fine vs
      by true q e = none (eqb-true t _ q) ∙ ap fine (sym (block_gives_none e))
      by false q e = e

sub_alone : (inner : Container → Reader (List Words)) (kind : Kind) (at : ℕ) (b : List ℕ) {g : Got (List Words)}
    → sub (held inner (Surf kind)) at b ≡ fine g → sub (value_of kind) at b ≡ fine g
unfolding sub ◌and_then◌
sub_alone inner kind at b e =
    let c = then_fine (chunk_of 2 at b) _ e in
    let v = then_fine (whole at (held inner (Surf kind) c.0.value.tag) (at + 6) c.0.value.body) _ c.2 in
    rw (c.1, value_alone inner at (at + 6) c.0.value.body kind c.0.value.tag v.1) v.2

-- ---- the walk

-- the sub-chunks were judged fine, and `v` are the last values of those up to `at`
pub record LastUpTo (kind : Kind) (s : List ℕ) (from at : ℕ) (v : LastValues) : Type 0 where
  pub rest : ManyLoop (keep (λ vs. taken vs none_taken) (nested surface_depth (Surf kind) from (drop from s))) (sub (held (nested 2) (Surf kind))) s at
      (λ vs. taken (joined vs) (taken_of v))
  pub sound : Succeeds (nested surface_depth (Surf kind) from (drop from s))
  pub has_bits : LastValuesHaveBits v

sound_keep : {A B : Type 0} (h : A → B) {v : Verdict (Got A)} → Succeeds v → Succeeds (keep h v)
unfolding ◌and_then◌
sound_keep h w = record { value = record { value = h w.value.value; next = w.value.next; left = w.value.left }; is = rw w.is }

module _ {kind : Kind} {s : List ℕ} {from : ℕ} where
  pub begin : {v : LastValues} → Succeeds (nested surface_depth (Surf kind) from (drop from s)) → NoneMet v → LastUpTo kind s from from v
  unfolding nested
  begin w m = record {
    rest = rw m.is (many_begin joined (λ vs. taken vs none_taken) (λ vs. taken (joined vs) none_taken) (λ vs. refl));
    sound = w;
    has_bits = m.has_bits;
  }

  module _ {at : ℕ} {v : LastValues} (t : LastUpTo kind s from at v) where
    pub end : length s ≤ at → LastAt kind s from v
    unfolding joined
    end h = record { judged = used_up (record { is = rw (taken_none (taken_of v)) at (many_end t.rest h) }) h; has_bits = t.has_bits }

    module _ (some : at < length s) where
      alone : (g : Got (List Words)) × (sub (held (nested 2) (Surf kind)) at (drop at s) ≡ fine g) × (sub (value_of kind) at (drop at s) ≡ fine g)
      alone = let e = many_sound t.rest some (sound_keep _ t.sound) in (e.first, e.is, sub_alone (nested 2) kind at (drop at s) e.is)

      never : {why : Fault} {p : ℕ} → Says (sub (value_of kind)) itself s at (fault why p) → ⊥
      never w = impossible (cc (sym alone.2 ∙ stopped w))

      pub never_bad : {f : Refusal} → HeaderAt 2 s at (Err f) → ⊥
      never_bad w = never (sub_bad (value_of kind) w)

      module _ {head : Header} (w : HeaderAt 2 s at (Ok head)) where
        pub never_stop : {f : Refusal} → ValueResultAt (value_of kind head.tag) at (take head.end s) (Err f) → ⊥
        never_stop r = never (sub_stop (value_of kind) w r.judged)

        step : {given : Option Value} {later : LastValues} → ValueResultAt (value_of kind head.tag) at (take head.end s) (Ok given)
            → ((vs : List Words) → taken (words_given given ++ vs) (taken_of v) ≡ taken vs (taken_of later)) → LastValuesHaveBits later
            → LastUpTo kind s from head.next.at later
        unfolding joined
        step r told has_bits =
            let same = alone.1 ∙ sym alone.2 ∙ exactly (sub_fine (value_of kind) w r.judged) in
            record {
              rest = many_turn t.rest some (exact (sym same)) (omega (arith, w.inside))
                  (λ x xs e. rw e (told (joined xs)));
              sound = t.sound;
              has_bits = has_bits;
            }

        pub turn : {value : Value} {later : LastValues} → ValueResultAt (value_of kind head.tag) at (take head.end s) (Ok (Some value))
            → TakenIn value v later → LastUpTo kind s from head.next.at later
        turn {value} r i = step r (λ vs. rw i.is (taken_first value vs (taken_of v))) i.has_bits

        -- a sub-chunk that gives no value
        pub idle : ValueResultAt (value_of kind head.tag) at (take head.end s) (Ok None) → LastUpTo kind s from head.next.at v
        idle r = step r (λ vs. refl) t.has_bits
