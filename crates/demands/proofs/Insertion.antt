-- A file with one more chunk put in at a boundary: it is of the same kind, and its chunks are the file's with the one more.
use Prim.Native.Nat.{ℕ, ◌+◌, ◌-◌, ◌≤◌}
use mathlib.Core.Path.{◌≡◌, refl, sym, ap, ◌∙◌}
use mathlib.Core.List.{List, [], ◌∷◌, ◌++◌, append_assoc}
use mathlib.Core.Bool.{true, not, ◌||◌}
use native.Mathlib.Omega.{arith}
use lib.Dec.{ltb, eqb}
use lib.ListN.{length, take, drop, length-append, length-drop, take-append-drop}
use lib.Seq.{take_at, drop_at, drop-drop, take-add, length-take-le}
use borrow.Author.Tests.{le-ltb, eq-eqb}
use Rattle.format.specs.declared.Kind.{Kind}
use Rattle.format.specs.Bytes.{◌is◌, number}
use Rattle.format.specs.Limits.{file_limit}
use Rattle.format.specs.Items.{fine, ◌and_then◌}
use Rattle.format.specs.Chunks.{Chunk, well_formed, Chunks, chunk, chunks}
use Rattle.format.specs.Mesh.{Mesh}
use Rattle.format.specs.Rules.{kind_of, form, gives, rules}
use Rattle.format.specs.Canonical.{bytes}
use Rattle.format.proofs.Verdicts.{then_fine, chosen, passed}
use Rattle.format.proofs.CanonicalLengths.{length_bytes}
use Rattle.laws.proofs.Numbers.{number_bytes}
use Rattle.laws.proofs.Chunks.{chunk_in, reads_whole, front}
use Rattle.laws.proofs.Tiles.{in_front, next_chunk}
use Rattle.laws.proofs.Form.{outcome_of, rules_of}
use Rattle.laws.proofs.Unlisted.{inserted_chunk}
use Rattle.demands.specs.Demand3.{form_length, with_chunk, OneMore}
use Rattle.demands.specs.Places.{Boundary, first, next}
use Rattle.demands.proofs.Boundaries.{size_at, whole, neither, headed}

-- ---- the first twelve bytes

module _ (s : List ℕ) (kind : Kind) (e : form s ≡ fine kind) where
  -- a longer file with the same tag and type, and with its own length, is of the same kind
  longer_form : (l : List ℕ) → take 4 l ≡ take 4 s → take 4 (drop 8 l) ≡ take 4 (drop 8 s) → length s ≤ length l → length l ≤ file_limit
      → number (take 4 (drop 4 l)) + 8 ≡ length l
      → form l ≡ fine kind
  unfolding form ◌and_then◌
  longer_form l tag type more few told =
      let short = passed (ltb file_limit (length s)) _ _ _ e in
      let known = passed (ltb (length s) 12 || not (number (take 4 s) is "FORM")) _ _ _ short.1 in
      let tests = neither (ltb (length s) 12) (not (number (take 4 s) is "FORM")) known.0 in
      let typed = then_fine (kind_of (number (take 4 (drop 8 s)))) _ known.1 in
      let said = chosen (eqb (number (take 4 (drop 4 s)) + 8) (length s)) _ _ _ typed.2 in
      let long : 12 ≤ length l = omega (arith, headed s kind e) in
      rw (le-ltb file_limit (length l) few, le-ltb (length l) 12 long, tag, type, tests.1, typed.1, eq-eqb (number (take 4 (drop 4 l)) + 8) (length l) told) said.1

-- a file by its tag, its length, its type and its chunks
record Twelve (s tag told type rest : List ℕ) : Type 0 where
  tag_is : take 4 s ≡ tag
  told_is : take 4 (drop 4 s) ≡ told
  type_is : take 4 (drop 8 s) ≡ type
  rest_is : drop 12 s ≡ rest

twelve : (tag told type rest : List ℕ) → length tag ≡ 4 → length told ≡ 4 → length type ≡ 4 → Twelve (tag ++ (told ++ (type ++ rest))) tag told type rest
twelve tag told type rest a b c =
    let s : List ℕ = tag ++ (told ++ (type ++ rest)) in
    let after_4 : drop 4 s ≡ told ++ (type ++ rest) = drop_at tag (told ++ (type ++ rest)) 4 a in
    let after_8 : drop 8 s ≡ type ++ rest = sym (drop-drop 4 4 s) ∙ ap (drop 4) after_4 ∙ drop_at told (type ++ rest) 4 b in
    record {
      tag_is = take_at tag (told ++ (type ++ rest)) 4 a;
      told_is = ap (take 4) after_4 ∙ take_at told (type ++ rest) 4 b;
      type_is = ap (take 4) after_8 ∙ take_at type rest 4 c;
      rest_is = sym (drop-drop 4 8 s) ∙ ap (drop 4) after_8 ∙ drop_at type rest 4 c;
    }

-- ---- whole chunks up to a boundary

in_front_lem : (cs : List Chunk) (c : Chunk) (rest : Chunks) → in_front (cs ++ (c ∷ [])) rest ≡ in_front cs (chunk c.tag c.body rest)
unfolding in_front
in_front_lem [] c rest = refl
in_front_lem (d ∷ cs) c rest = ap (chunk d.tag d.body) (in_front_lem cs c rest)

-- the chunks up to a boundary, in front of any bytes
record UpTo (file : List ℕ) (place : ℕ) : Type 0 where
  passed : List Chunk
  before : (rest : List ℕ) → chunks (take (place - 12) (drop 12 file) ++ rest) ≡ in_front passed (chunks rest)
  least : 12 ≤ place
  most : place ≤ length file

-- one more boundary, behind a well-formed chunk
one_more : (file : List ℕ) (place : ℕ) → UpTo file place → well_formed 4 (drop place file) ≡ true → UpTo file (place + size_at file place)
one_more file place u ok =
    let w = whole file place ok in
    let f = front 4 place (drop place file) w.got w.reads in
    let size : ℕ = size_at file place in
    let range : (12 ≤ place) × (place + size ≤ length file) = (u.least, w.ends) in
    let left_long : length w.got.left ≡ length file - (place + size) = ap (λ (l : List ℕ). length l) w.left ∙ length-drop (place + size) file in
    let both_long : length file - place ≡ length f.bytes_of + length w.got.left =
    sym (length-drop place file) ∙ ap (λ (l : List ℕ). length l) f.parts ∙ length-append f.bytes_of w.got.left in
    let bytes : take size (drop place file) ≡ f.bytes_of = ap (take size) f.parts ∙ take_at f.bytes_of w.got.left size (omega arith) in
    let again : 12 + (place - 12) ≡ place = omega arith in
    let more : place + size - 12 ≡ (place - 12) + size = omega arith in
    let behind : drop (place - 12) (drop 12 file) ≡ drop place file = rw again at (drop-drop (place - 12) 12 file) in
    let cut : take (place + size - 12) (drop 12 file) ≡ take (place - 12) (drop 12 file) ++ f.bytes_of =
    ap (λ (n : ℕ). take n (drop 12 file)) more ∙ take-add (place - 12) size (drop 12 file) ∙ rw (behind, bytes) in
    record {
      passed = u.passed ++ (w.got.value ∷ []);
      before = λ rest. rw (cut, append_assoc (take (place - 12) (drop 12 file)) f.bytes_of rest, u.before (f.bytes_of ++ rest), next_chunk f.reads rest, in_front_lem u.passed w.got.value (chunks rest));
      least = omega arith;
      most = w.ends;
    }

up_to : (file : List ℕ) → 12 ≤ length file → (place : ℕ) → Boundary file place → UpTo file place
unfolding in_front
up_to file headed _ first = record { passed = []; before = λ rest. refl; least = omega arith; most = headed }
up_to file headed _ (next {place} here ok) = one_more file place (up_to file headed place here) ok

-- ---- with one chunk more

module _ {kind : Kind} {file : List ℕ} {place : ℕ} {c : List ℕ} (o : OneMore kind file place c) where
  enough : 12 ≤ length file
  enough = headed file kind o.of_kind

  before : UpTo file place
  before = up_to file enough place o.between

  abbrev earlier : List ℕ
  earlier = take (place - 12) (drop 12 file)

  shape : Twelve (with_chunk place c file) (take 4 file) (bytes 4 (form_length c file)) (take 4 (drop 8 file)) (earlier ++ (c ++ drop place file))
  unfolding with_chunk
  shape =
      let u = before in
      let more : place - 8 ≡ 4 + (place - 12) = omega (arith, u.least) in
      let parts : take (place - 8) (drop 8 file) ≡ take 4 (drop 8 file) ++ take (place - 12) (drop 12 file) =
      ap (λ (n : ℕ). take n (drop 8 file)) more ∙ take-add 4 (place - 12) (drop 8 file) ∙ ap (λ (l : List ℕ). take 4 (drop 8 file) ++ take (place - 12) l) (drop-drop 4 8 file) in
      rw (parts, append_assoc (take 4 (drop 8 file)) (take (place - 12) (drop 12 file)) (c ++ drop place file))
      (twelve (take 4 file) (bytes 4 (form_length c file)) (take 4 (drop 8 file)) (take (place - 12) (drop 12 file) ++ (c ++ drop place file))
      (length-take-le 4 file (omega (arith, enough))) (length_bytes 4 (form_length c file)) (length-take-le 4 (drop 8 file) (rw length-drop (omega (arith, enough)))))

  long : length (with_chunk place c file) ≡ length file + length c
  unfolding with_chunk
  long =
      let head : length (take 4 file) ≡ 4 = length-take-le 4 file (omega (arith, enough)) in
      let middle : length (take (place - 8) (drop 8 file)) ≡ place - 8 = length-take-le (place - 8) (drop 8 file) (rw length-drop (omega (arith, before.most))) in
      simp (length-append, length_bytes, length-drop, head, middle) (omega (arith, before.least, before.most))

  still_form : form (with_chunk place c file) ≡ fine kind
  still_form =
      longer_form file kind o.of_kind (with_chunk place c file) shape.tag_is shape.type_is (omega (arith, long)) (omega (arith, long, o.limit))
      (rw (shape.told_is, number_bytes 4 (form_length c file) (omega (arith, o.limit)), long) (omega (arith, enough)))

  same_chunks : drop 12 file ≡ earlier ++ drop place file
  same_chunks =
      let again : 12 + (place - 12) ≡ place = omega (arith, before.least) in
      sym (take-append-drop (place - 12) (drop 12 file)) ∙ ap (λ (l : List ℕ). earlier ++ l) (drop-drop (place - 12) 12 file ∙ ap (λ (n : ℕ). drop n file) again)

  -- the rules give it the same mesh, with one chunk more skipped
  pub inserted : {m : Mesh} {k d : ℕ} → rules file ≡ gives m k d → rules (with_chunk place c file) ≡ gives m (1 + k) d
  inserted {m} {k} {d} e =
      let x = o.unlisted in
      let t : ℕ = number (take 4 c) in
      let body : List ℕ = (chunk_in 4 c).body in
      let passed = before.passed in
      let old : chunks (drop 12 file) ≡ in_front passed (chunks (drop place file)) = ap chunks same_chunks ∙ before.before (drop place file) in
      let one : chunks (c ++ drop place file) ≡ chunk t body (chunks (drop place file)) = next_chunk (reads_whole 4 c x.formed x.exact) (drop place file) in
      let new : chunks (drop 12 (with_chunk place c file)) ≡ in_front passed (chunk t body (chunks (drop place file))) =
      ap chunks shape.rest_is ∙ before.before (c ++ drop place file) ∙ ap (in_front passed) one in
      let given : outcome_of kind (in_front passed (chunks (drop place file))) ≡ gives m k d = sym (ap (outcome_of kind) old) ∙ sym (rules_of file kind o.of_kind) ∙ e in
      rules_of (with_chunk place c file) kind still_form ∙ ap (outcome_of kind) new ∙ inserted_chunk kind passed t body (chunks (drop place file)) m k d x.tag given
