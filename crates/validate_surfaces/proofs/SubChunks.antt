-- A sub-chunk is judged as its container says and a level sub-chunk by sub-chunk, whatever reads the levels below, until the loop puts the level below for it.
use mathlib.Core.Path.{◌≡◌, refl}
use mathlib.Core.Bool.{true, false}
use mathlib.Core.List.{List, []}
use Prim.Native.Nat.{ℕ, zero, suc, ◌+◌, ◌-◌, ◌≤◌, ◌<◌}
use native.Mathlib.Omega.{arith}
use lib.Dec.{eqb}
use lib.ListN.{length, take, drop, drop_of_length-le}
use lib.Seq.{drop-cons}
use borrow.Author.Tests.{ne_eqb}
use Rattle.std.specs.Prelude.{Result, Ok, Err, Option, Some, None}
use Rattle.format.specs.declared.Kind.TheVariants.{LWOB, LWO2}
use Rattle.format.specs.declared.Container.{Container}
use Rattle.format.specs.declared.Container.TheVariants.{Surf, Blok, Attributes}
use Rattle.format.specs.declared.Fault.TheVariants.{SurfaceValue}
use Rattle.format.specs.Bytes.{tag_number, number, joined}
use Rattle.format.specs.Items.{Verdict, Got, fine, fault, ◌and_then◌, ◌>>=◌, give, Reader, whole}
use Rattle.format.specs.Chunks.{sub, unjudged}
use Rattle.format.specs.Surfaces.{Value as Words, value_of, attribute, block_type, block_header, block, held, nested}
use Rattle.format.specs.Promises.{keep, nothing, Says, JudgedAt, got}
use Rattle.format.proofs.ReaderSteps.{part, used_up, faulty, not_judged, judged_on, judged_off, judged_as, judged_part}
use Rattle.format.proofs.Entries.{ManyLoop, many_begin, many_turn, many_stop, many_end}
use Rattle.wire.specs.declared.Refusal.{Refusal}
use Rattle.wire.specs.declared.cursor.Cursor.{Cursor}
use Rattle.headers.specs.declared.Header.{Header}
use Rattle.wire.specs.Promises.{TextAt, verdict_as}
use Rattle.headers.specs.Promises.{HeaderAt}
use Rattle.headers.proofs.Headers.{sub_bad, sub_fine, sub_stop}
use Rattle.surface_levels.specs.declared.value.Value.{Value}
use Rattle.validate_surfaces.specs.declared.nesting.Below.{Below}
use Rattle.validate_surfaces.specs.declared.nesting.JudgedSubChunk.{JudgedSubChunk}
use Rattle.surface_levels.specs.Promises.{ValueResultAt}
use Rattle.validate_surfaces.specs.Promises.{Inner, below_as, BodyAt, SubChunkAt, NestedAt}

-- ---- bodies

-- what a container holds
abbrev HeldAt : Container → (tag head : ℕ) → List ℕ → Result (Option Below) Refusal → Type 0
HeldAt c tag head s answer = BodyAt (λ inner. held inner c tag) head s answer

module _ {head : ℕ} {s : List ℕ} where
  pub map_holds : (tag : ℕ) → tag ≡ tag_number "TMAP"
      → BodyAt (λ inner. attribute inner tag) head s (Ok (Some (record { from = record { at = head + 6 }; inner = Attributes })))
  unfolding attribute number
  map_holds tag e = record { judged = λ inner. record { is = rw e } }

  pub not_map : (tag : ℕ) → (tag ≡ tag_number "TMAP" → ⊥) → head + 6 ≤ length s → BodyAt (λ inner. attribute inner tag) head s (Ok None)
  unfolding attribute number
  not_map tag e fits = record { judged = λ inner. rw (ne_eqb tag _ e) (used_up (part (not_judged [] fits) (λ x q. refl)) (omega arith)) }

  -- the first sub-chunk of a BLOK
  module _ (blok tag : ℕ) where
    pub other_type : block_type tag ≡ false → BodyAt (λ inner. block_header inner blok tag) head s (Err (record { why = SurfaceValue; at = blok }))
    unfolding block_header ◌and_then◌
    other_type e = record { judged = λ inner. faulty (record { is = rw e }) }

    module _ (e : block_type tag ≡ true) where
      pub no_string : {f : Refusal} → TextAt s (head + 6) (Err f)
          → BodyAt (λ inner. block_header inner blok tag) head s (Err f)
      unfolding block_header
      no_string w = record { judged = λ inner. rw e (judged_off _ w.reads.says) }

      pub header_holds : {n : ℕ} {c : Cursor} → TextAt s (head + 6) (Ok (n, c))
          → BodyAt (λ inner. block_header inner blok tag) head s (Ok (Some (record { from = c; inner = Attributes })))
      unfolding block_header
      header_holds w = record { judged = λ inner. rw e (judged_on _ w.reads.says (record { is = refl })) }

  pub block_empty : length s - (head + 6) ≡ 0 → BodyAt block head s (Err (record { why = SurfaceValue; at = head }))
  unfolding block ◌and_then◌
  block_empty e =
      let none : drop (head + 6) s ≡ [] = drop_of_length-le s {i = head + 6} (omega arith) in
      let back : head + 6 - 6 ≡ head = omega arith in
      record { judged = λ inner. faulty (record { is = rw (none, back) }) }

  pub block_holds : (length s - (head + 6) ≡ 0 → ⊥) → BodyAt block head s (Ok (Some (record { from = record { at = head + 6 }; inner = Blok head })))
  unfolding block whole ◌and_then◌
  block_holds some = record { judged = λ inner. by inner (judged_as (λ (vs : List Words). []) (record { is = refl })) }
    where
      by : (inner : Inner) → {answer : Verdict (Unit {0})} → JudgedAt {A = List Words} head (head + 6) (inner (Blok head) >>= (λ vs. give [])) nothing s answer
          → JudgedAt head (head + 6) (block inner) nothing s answer
      by inner j =
          let back : head + 6 - 6 ≡ head = omega arith in
          record { is = rw (drop-cons s (head + 6) 0 (omega arith), back) (rw (drop-cons s (head + 6) 0 (omega arith)) at j.is) }

  -- a value
  module _ {r : Reader (List Words)} where
    pub value_judged : {v : Option Value} → ValueResultAt r head s (Ok v) → BodyAt (λ inner. r) head s (Ok None)
    unfolding ◌and_then◌
    value_judged v = record { judged = λ inner. judged_part nothing (λ vs. refl) v.judged }

    pub value_stops : {f : Refusal} → ValueResultAt r head s (Err f) → BodyAt (λ inner. r) head s (Err f)
    unfolding ◌and_then◌
    value_stops v = record { judged = λ inner. judged_part nothing (λ vs. refl) v.judged }

  -- by container
  module _ (tag : ℕ) {answer : Result (Option Below) Refusal} where
    pub held_lwob : BodyAt (λ inner. value_of LWOB tag) head s answer → HeldAt (Surf LWOB) tag head s answer
    unfolding held
    held_lwob b = record { judged = b.judged }

    pub held_block : tag ≡ tag_number "BLOK" → BodyAt block head s answer → HeldAt (Surf LWO2) tag head s answer
    unfolding held number
    held_block e b = record { judged = λ inner. rw e (b.judged inner) }

    pub held_lwo2 : (tag ≡ tag_number "BLOK" → ⊥) → BodyAt (λ inner. value_of LWO2 tag) head s answer → HeldAt (Surf LWO2) tag head s answer
    unfolding held number
    held_lwo2 e b = record { judged = λ inner. rw (ne_eqb tag _ e) (b.judged inner) }

    module _ (blok : ℕ) where
      pub held_first : eqb head (blok + 6) ≡ true → BodyAt (λ inner. block_header inner blok tag) head s answer → HeldAt (Blok blok) tag head s answer
      unfolding held whole
      held_first e b = let back : head + 6 - 6 ≡ head = omega arith in record { judged = λ inner. record { is = rw (back, e) (b.judged inner).is } }

      pub held_later : eqb head (blok + 6) ≡ false → BodyAt (λ inner. attribute inner tag) head s answer → HeldAt (Blok blok) tag head s answer
      unfolding held whole
      held_later e b = let back : head + 6 - 6 ≡ head = omega arith in record { judged = λ inner. record { is = rw (back, e) (b.judged inner).is } }

    pub held_attribute : BodyAt (λ inner. attribute inner tag) head s answer → HeldAt Attributes tag head s answer
    unfolding held
    held_attribute b = record { judged = b.judged }

-- ---- a sub-chunk

module _ (c : Container) {s : List ℕ} {at : ℕ} where
  pub no_header : {f : Refusal} → HeaderAt 2 s at (Err f) → SubChunkAt c s at (Err f)
  no_header w = record { says = λ inner. sub_bad (held inner c) w; inside = tt }

  module _ {h : Header} (w : HeaderAt 2 s at (Ok h)) where
    pub sub_stops : {f : Refusal} → HeldAt c h.tag at (take h.end s) (Err f) → SubChunkAt c s at (Err f)
    sub_stops b = record { says = λ inner. sub_stop (held inner c) w (b.judged inner); inside = tt }

    pub sub_holds : {below : Option Below} → HeldAt c h.tag at (take h.end s) (Ok below) → SubChunkAt c s at (Ok (record { below = below; end = h.end; next = h.next }))
    unfolding ◌and_then◌
    sub_holds {below} b = record {
      says = λ inner. by inner (below_as inner at (take h.end s) below) (b.judged inner);
      inside = (w.reads.moves, omega (arith, w.inside));
    }
      where
        by : (inner : Inner) (v : Verdict (Unit {0})) → JudgedAt at (at + 6) (held inner c h.tag) nothing (take h.end s) v
            → Says (sub (held inner c)) nothing s at (v and_then λ u. got s tt h.next.at)
        by inner (fine u) j = sub_fine (held inner c) w j
        by inner (fault why p) j = sub_stop (held inner c) w j

-- ---- a level

pub no_depth : {depth : ℕ} {c : Container} {s : List ℕ} {from : ℕ} → depth ≡ 0 → NestedAt depth c s from (Ok tt)
unfolding nested unjudged whole ◌and_then◌
no_depth e = record { judged = λ header. record { is = rw e } }

-- one of its sub-chunks, with the level below
abbrev OneAt : (depth : ℕ) → Container → List ℕ → (at : ℕ) → Verdict (Got (Unit {0})) → Type 0
OneAt depth c s at answer = Says (sub (held (nested (depth - 1)) c)) nothing s at answer

-- the sub-chunks were read up to `at`
pub record Level (depth : ℕ) (c : Container) (s : List ℕ) (from at : ℕ) : Type 0 where
  pub rest : ManyLoop (keep nothing (nested depth c from (drop from s))) (sub (held (nested (depth - 1)) c)) s at (λ (vs : List (List Words)). tt)

pub begin : (depth : ℕ) {c : Container} {s : List ℕ} {from : ℕ} → (depth ≡ 0 → ⊥) → Level depth c s from from
unfolding nested
begin zero e = absurd (e refl)
begin (suc depth) e = let less : suc depth - 1 ≡ depth = omega arith in record { rest = rw less (many_begin joined nothing (λ vs. tt) (λ vs. refl)) }

module _ {depth : ℕ} {c : Container} {s : List ℕ} {from at : ℕ} (t : Level depth c s from at) where
  pub end : length s ≤ at → NestedAt depth c s from (Ok tt)
  end h = record { judged = λ header. used_up (record { is = many_end t.rest h }) h }

  module _ (some : at < length s) where
    stopped : {why : _} {p : ℕ} → OneAt depth c s at (fault why p) → NestedAt depth c s from (Err (record { why = why; at = p }))
    stopped w = record { judged = λ header. faulty (record { is = many_stop t.rest some w }) }

    passed : {next : ℕ} → at < next → OneAt depth c s at (got s tt next) → Level depth c s from next
    passed onward w = record { rest = many_turn t.rest some w onward (λ x xs e. refl) }

    pub stop : {f : Refusal} → SubChunkAt c s at (Err f) → NestedAt depth c s from (Err f)
    stop w = stopped (w.says _)

    module _ {x : JudgedSubChunk} (w : SubChunkAt c s at (Ok x)) where
      pub turn : x.below ≡ None → Level depth c s from x.next.at
      unfolding ◌and_then◌
      turn none = passed (omega (arith, w.inside)) (rw none at (w.says (nested (depth - 1))))

      -- a container, with the level below
      module _ {h : Below} (holds : x.below ≡ Some h) where
        inner_says : {answer : Result (Unit {0}) Refusal} → NestedAt (depth - 1) h.inner (take x.end s) h.from.at answer
            → OneAt depth c s at (verdict_as answer and_then λ u. got s tt x.next.at)
        unfolding ◌and_then◌
        inner_says {answer} n =
            let below = nested (depth - 1) in
            by (whole at (below h.inner) h.from.at (drop h.from.at (take x.end s))) (n.judged at).is (rw holds at (w.says below))
          where
            by : (v : Verdict (List Words)) → verdict_as answer ≡ (v and_then λ vs. fine tt)
                → OneAt depth c s at ((v and_then λ vs. fine (tt {0})) and_then λ u. got s tt x.next.at)
                → OneAt depth c s at (verdict_as answer and_then λ u. got s tt x.next.at)
            by v q j = rw q j

        pub inner_stop : {f : Refusal} → NestedAt (depth - 1) h.inner (take x.end s) h.from.at (Err f) → NestedAt depth c s from (Err f)
        unfolding ◌and_then◌
        inner_stop n = stopped (inner_says n)

        pub inner_turn : NestedAt (depth - 1) h.inner (take x.end s) h.from.at (Ok tt) → Level depth c s from x.next.at
        unfolding ◌and_then◌
        inner_turn n = passed (omega (arith, w.inside)) (inner_says n)
