-- What every reader obeys, by one induction over how readers are made: a fault is a chunk's, lies within the chunk and is told where what has it starts, and what
-- is read of bytes is good.
use Rattle.std.specs.Prelude.{if◌then◌else◌}
use Prim.Native.Nat.{ℕ, zero, suc, ◌+◌, ◌-◌, ◌%◌, ◌≤◌}
use mathlib.Core.Path.{◌≡◌, refl, ap, ◌∙◌}
use mathlib.Core.List.{List, [], ◌∷◌, ◌++◌, map}
use mathlib.Core.Bool.{Bool, true, false, not, ◌&&◌, and-eq-true_iff, false≢true}
use native.Mathlib.Omega.{arith}
use lib.Dec.{leb, ltb, eqb}
use lib.ListN.{length, take, drop, length-take, length-drop}
use lib.IntN.{ℤ, pos, negsuc}
use borrow.Author.Tests.{leb-true, leb-false, le-leb, lt-ltb, eq-eqb, eqb-true, eqb-false, ltb-true, ltb-false}
use Rattle.format.specs.declared.Kind.{Kind}
use Rattle.format.specs.declared.Kind.TheVariants.{LWOB, LWO2}
use Rattle.format.specs.declared.Container.{Container}
use Rattle.format.specs.declared.Container.TheVariants.{Surf, Blok, Attributes}
use Rattle.format.specs.declared.Fault.{Fault}
use Rattle.format.specs.declared.Fault.TheVariants.{BadHeader, WrongLength, ItemCut, StringOpen, SurfaceValue}
use Rattle.format.specs.Bytes.{◌is◌, byte, between, number, signed, absolute, negative, finite, over255, all, empty, joined}
use Rattle.format.specs.Limits.{tag_limit, lwo2_vertex_limit, lwob_vertex_limit}
use Rattle.format.specs.Refusals.{number_of, is_of_chunk}
use Rattle.format.specs.Items.{Verdict, fine, fault, Got, Reader, ◌>>=◌, ◌and_then◌, give, ◌or◌unless◌, ◌followed_by◌, whole, times, up_to, many, item, uint, u2, i2, float, long, long_form, vx, string, to_zero, string_size}
use Rattle.format.specs.Chunks.{Chunk, header_of, reader_of_length, size_of, length_of, well_formed, chunk_of, sub, unjudged}
use Rattle.format.specs.Mesh.{Point, point_words, Polygon, FACE, PATCH, Name}
use Rattle.format.specs.Surfaces.{Value, level_tag, float_level, lwob_value, lwo2_value, side_number, attribute, block_type, block_header, block, held, nested, surface_depth}
use Rattle.format.specs.Bodies.{Part, point_list, name_list, polygon_list, tagging, surface, layer, skipped_chunk, point, points_body, layer_body, new_name, name, names_after, names_body, lwob_vertices, in_name_list, detail, details, details_after, face, faces_body, patch, patches_body, count_bits, lwo2_vertices, polygon, polygon_kind, polygons_body, pair, pairs_type, tagging_body, surface_strings, surface_body}
use Rattle.format.specs.Rules.{Before, there, count, when◌read◌, judge}
use Rattle.format.specs.Written.{good_polygon, has_no_zero, good_names}
use Rattle.format.proofs.Facts.{impossible, both, every_at, all_first, all_rest, all_append_true, all_drop, all_part, between_true, all_map}
use Rattle.format.proofs.ListedTags.{judge_cases}
use Rattle.laws.specs.FaultStarts.{OneItem, FaultStarts, BodyFaultStarts}
use Rattle.laws.specs.FaultStarts.OneItem.{unsigned, signed as signed_item, long_index, index as index_item, text, asked as asked_item}
use Rattle.laws.specs.FaultStarts.FaultStarts.{item_cut, string_open, not_allowed, bad_header, left_over, wrong_length, empty_block, other_first, first, second, asked, index, entry, entries, next_name, names, of_length, in_sub_chunk, in_block, first_sub, later_sub}
use Rattle.laws.specs.FaultStarts.BodyFaultStarts.{out_of_order, left_over as bytes_over, in_body}
use Rattle.laws.proofs.Numbers.{digits}
use Rattle.laws.proofs.GoodPolygons.{GoodTag, is_good as polygon_is_good}
use Rattle.format.proofs.Levels.{colour_finite, level_finite}

-- ---- what is obeyed

-- a place, and the bytes from there on, within a chunk that ends at `most`, after its header; they are bytes where B holds
record Inside (B : Type 0) (most at : ℕ) (b : List ℕ) : Type 0 where
  headed : 8 ≤ at
  within : at + length b ≤ most
  bytes : B → all byte b ≡ true

-- a fault of a reader that begins at a place
record Faulty (most : ℕ) (A : Type 0) (r : Reader A) (at : ℕ) (b : List ℕ) (why : Fault) (p : ℕ) : Type 1 where
  of_chunk : is_of_chunk (number_of why) ≡ true
  within : p ≤ most
  starts : FaultStarts A r at b why p

-- a value, and what is left after it
record ReadWell (B : Type 0) (most : ℕ) (A : Type 0) (good : A → Bool) (g : Got A) : Type 1 where
  is_good : B → good g.value ≡ true
  rest : Inside B most g.next g.left

abbrev Obeyed : (B : Type 0) (most : ℕ) {A : Type 0} (good : A → Bool) (r : Reader A) (at : ℕ) (b : List ℕ) → Verdict (Got A) → Type 1
Obeyed B most {A} good r at b (fine g) = ReadWell B most A good g
Obeyed B most {A} good r at b (fault why p) = Faulty most A r at b why p

record Obeys (B : Type 0) (most : ℕ) {A : Type 0} (good : A → Bool) (r : Reader A) : Type 1 where
  each : (at : ℕ) (b : List ℕ) → Inside B most at b → Obeyed B most good r at b (r at b)

abbrev any : {A : Type 0} → A → Bool
any x = true

part_of : {a b : Bool} → a && b ≡ true → (a ≡ true) × (b ≡ true)
part_of {a} {b} e = (and-eq-true_iff a b).0 e

-- ---- how readers are made

module _ {B : Type 0} {most : ℕ} {A : Type 0} where
  obeys_give : {x : A} {good : A → Bool} → (B → good x ≡ true) → Obeys B most good (give x)
  obeys_give g = record { each = λ at b i. record { is_good = g; rest = i } }

  obeys_more : {r : Reader A} {good better : A → Bool} → Obeys B most good r → ((x : A) → B → good x ≡ true → better x ≡ true) → Obeys B most better r
  obeys_more {r} {good} {better} w so = record { each = λ at b i. by at b (r at b) (w.each at b i) }
    where
      by : (at : ℕ) (b : List ℕ) (v : Verdict (Got A)) → Obeyed B most good r at b v → Obeyed B most better r at b v
      by at b (fine g) o = record { is_good = λ h. so g.value h (o.is_good h); rest = o.rest }
      by at b (fault why p) o = o

  -- what a reader comes to, a reader that has it do the work comes to as well
  obeyed_by : {good : A → Bool} {r : Reader A} → Obeys B most good r → (at : ℕ) (b : List ℕ) → Inside B most at b → {q : Reader A} {at' : ℕ} {b' : List ℕ}
      → ((why : Fault) (p : ℕ) → FaultStarts A r at b why p → FaultStarts A q at' b' why p) → Obeyed B most good q at' b' (r at b)
  obeyed_by {good} {r} w at b i {q} {at'} {b'} so = by (r at b) (w.each at b i)
    where
      by : (v : Verdict (Got A)) → Obeyed B most good r at b v → Obeyed B most good q at' b' v
      by (fine g) o = record { is_good = o.is_good; rest = o.rest }
      by (fault why p) o = record { of_chunk = o.of_chunk; within = o.within; starts = so why p o.starts }

  obeys_if : (t : Bool) {r q : Reader A} {good : A → Bool} → (t ≡ true → Obeys B most good r) → (t ≡ false → Obeys B most good q)
      → Obeys B most good (if t then r else q)
  obeys_if true w v = w refl
  obeys_if false w v = v refl

  obeys_then : {C : Type 0} {r : Reader C} {has : C → Bool} {good : A → Bool} (k : C → Reader A) → Obeys B most has r
      → ((x : C) → (B → has x ≡ true) → Obeys B most good (k x))
      → Obeys B most good (r >>= k)
  unfolding ◌>>=◌ ◌and_then◌
  obeys_then {C} {r} {has} {good} k w later = record { each = λ at b i. by at b (r at b) refl (w.each at b i) }
    where
      by : (at : ℕ) (b : List ℕ) (v : Verdict (Got C)) → r at b ≡ v → Obeyed B most has r at b v
          → Obeyed B most good (r >>= k) at b (v and_then λ y. k y.value y.next y.left)
      by at b (fine y) e o =
          obeyed_by (later y.value o.is_good) y.next y.left o.rest (λ why p f. second C A r k y e f)
      by at b (fault why p) e o = record { of_chunk = o.of_chunk; within = o.within; starts = first C A r k o.starts }

  obeys_unless : {r : Reader A} {has : A → Bool} (why : Fault) (ok : A → Bool) → is_of_chunk (number_of why) ≡ true → OneItem A r → Obeys B most has r
      → Obeys B most (λ x. has x && ok x) (r or why unless ok)
  unfolding ◌or◌unless◌ ◌and_then◌
  obeys_unless {r} {has} why ok chunk one w = record { each = λ at b i. by at b (omega (arith, i.within)) (r at b) refl (w.each at b i) }
    where
      judged : (at : ℕ) (b : List ℕ) → at ≤ most → (y : Got A) → r at b ≡ fine y → Obeyed B most has r at b (fine y) → (t : Bool) → ok y.value ≡ t
          → Obeyed B most (λ x. has x && ok x) (r or why unless ok) at b (if t then fine y else fault why at)
      judged at b l y got o true e = record { is_good = λ h. both (o.is_good h) e; rest = o.rest }
      judged at b l y got o false e = record { of_chunk = chunk; within = l; starts = not_allowed A r why ok y one got e }

      by : (at : ℕ) (b : List ℕ) → at ≤ most → (v : Verdict (Got A)) → r at b ≡ v → Obeyed B most has r at b v
          → Obeyed B most (λ x. has x && ok x) (r or why unless ok) at b (v and_then λ y. if ok y.value then fine y else fault why at)
      by at b l (fine y) e o = judged at b l y e o (ok y.value) refl
      by at b l (fault f p) e o = record { of_chunk = o.of_chunk; within = o.within; starts = asked A r why ok o.starts }

  obeys_length : {r : Reader A} {good : A → Bool} (width : ℕ) (ok : ℕ → Bool) → width ≤ 4 → Obeys B most good r → Obeys B most good (reader_of_length width ok r)
  unfolding reader_of_length number_of
  obeys_length {r} {good} width ok few w = record { each = λ at b i. by at b i (ok (length b)) refl }
    where
      by : (at : ℕ) (b : List ℕ) → Inside B most at b → (t : Bool) → ok (length b) ≡ t
          → Obeyed B most good (reader_of_length width ok r) at b (if t then r at b else fault WrongLength (header_of width at))
      by at b i true e = obeyed_by w at b i (λ why p f. of_length A r width ok e f)
      by at b i false e = record { of_chunk = refl; within = omega (arith, i.within); starts = wrong_length A r width ok {at = at} {header = header_of width at} (omega (arith, few, i.headed)) e }

  obeys_unjudged : (x : A) {good : A → Bool} → (B → good x ≡ true) → Obeys B most good (unjudged x)
  unfolding unjudged all
  obeys_unjudged x g = record {
    each = λ at b i. record { is_good = g; rest = record { headed = omega (arith, i.headed); within = omega (arith, i.within); bytes = λ h. refl } };
  }

module _ {B : Type 0} {most : ℕ} {A : Type 0} {r : Reader A} {good : A → Bool} (w : Obeys B most good r) where
  obeys_and : {rest : Reader (List A)} {goods : List A → Bool} (all_good : List A → Bool) → Obeys B most goods rest
      → ((x : A) (xs : List A) → good x ≡ true → goods xs ≡ true → all_good (x ∷ xs) ≡ true) → Obeys B most all_good (r followed_by rest)
  obeys_and all_good v so = obeys_then _ w (λ x hx. obeys_then _ v (λ xs hxs. obeys_give (λ h. so x xs (hx h) (hxs h))))

  -- so many of them
  obeys_times : (n : ℕ) → Obeys B most (λ xs. eqb (length xs) n && all good xs) (times n r)
  unfolding times all
  obeys_times zero = obeys_give (λ h. refl)
  obeys_times (suc n) =
      obeys_and (λ xs. eqb (length xs) (suc n) && all good xs) (obeys_times n)
      (λ x xs g gs. let so = part_of gs in both (eq-eqb (suc (length xs)) (suc n) (ap suc (eqb-true (length xs) n so.0))) (both g so.1))

  obeys_up_to : (n at : ℕ) (b : List ℕ) → Inside B most at b → Obeyed B most (all good) (up_to n r) at b (up_to n r at b)
  unfolding up_to all
  obeys_up_to zero at b i = record { is_good = λ h. refl; rest = i }
  obeys_up_to (suc n) at [] i = record { is_good = λ h. refl; rest = i }
  obeys_up_to (suc n) at (c ∷ b) i =
      obeyed_by (obeys_and (all good) (record { each = obeys_up_to n }) (λ x xs g gs. both g gs)) at (c ∷ b) i (λ why p f. entry A r n f)

  obeys_many : Obeys B most (all good) (many r)
  unfolding many
  obeys_many = record { each = λ at b i. obeyed_by (record { each = obeys_up_to (length b) }) at b i (λ why p f. entries A r f) }

-- a whole body: it is good, or has a fault, or bytes are left over
data WholeFault (most header : ℕ) (A : Type 0) (r : Reader A) (at : ℕ) (b : List ℕ) : (why : Fault) (p : ℕ) → Type 1 where
  faulty : {why : Fault} {p : ℕ} → Faulty most A r at b why p → WholeFault most header A r at b why p
  over : (g : Got A) → r at b ≡ fine g → empty g.left ≡ false → WholeFault most header A r at b WrongLength header

record Good (B : Type 0) (A : Type 0) (good : A → Bool) (x : A) : Type 1 where
  is_good : B → good x ≡ true

abbrev JudgedGood : {A : Type 0} → (B : Type 0) (most header : ℕ) → (A → Bool) → (r : Reader A) (at : ℕ) (b : List ℕ) → Verdict A → Type 1
JudgedGood {A} B most header good r at b (fine x) = Good B A good x
JudgedGood {A} B most header good r at b (fault why p) = WholeFault most header A r at b why p

obeys_whole : {A B : Type 0} {most : ℕ} (header : ℕ) {r : Reader A} {good : A → Bool} → Obeys B most good r → (at : ℕ) (b : List ℕ)
    → Inside B most at b → JudgedGood B most header good r at b (whole header r at b)
unfolding whole ◌and_then◌
obeys_whole {A} {B} {most} header {r} {good} w at b i = by (r at b) refl (w.each at b i)
  where
    used : (g : Got A) → r at b ≡ fine g → (t : Bool) → empty g.left ≡ t → (B → good g.value ≡ true)
        → JudgedGood B most header good r at b (if t then fine g.value else fault WrongLength header)
    used g got true e good = record { is_good = good }
    used g got false e good = over g got e

    by : (v : Verdict (Got A)) → r at b ≡ v → Obeyed B most good r at b v
        → JudgedGood B most header good r at b (v and_then λ g. if empty g.left then fine g.value else fault WrongLength header)
    by (fine g) e o = used g e (empty g.left) refl o.is_good
    by (fault why p) e o = faulty o

-- ---- items

-- two bytes
small : (bs : List ℕ) → length bs ≡ 2 → all byte bs ≡ true → ltb (number bs) 65536 ≡ true
small bs l ok = lt-ltb (number bs) 65536 (rw l at (digits bs ok).small)

abbrev narrow : ℤ → Bool
narrow z = leb (absolute z) 32768

signed_narrow : (n : ℕ) → narrow (signed n) ≡ true
signed_narrow n = by (ltb n 32768) refl
  where
    by : (t : Bool) → ltb n 32768 ≡ t → leb (absolute (if t then pos n else negsuc (65535 - n))) 32768 ≡ true
    by true e = le-leb n 32768 (omega (arith, ltb-true n 32768 e))
    by false e = le-leb (suc (65535 - n)) 32768 (omega (arith, ltb-false n 32768 e))

-- whether the terminator and the pad of a string are there
abbrev pub closed : List ℕ → Bool
closed b = leb (string_size (to_zero b)) (length b) && all (eqb 0) (take (string_size (to_zero b) - to_zero b) (drop (to_zero b) b))

no_zero : (b : List ℕ) → has_no_zero (take (to_zero b) b) ≡ true
unfolding to_zero all
no_zero [] = refl
no_zero (c ∷ b) = by (eqb c 0) refl (no_zero b)
  where
    by : (t : Bool) → eqb c 0 ≡ t → has_no_zero (take (to_zero b) b) ≡ true → has_no_zero (take (if t then 0 else suc (to_zero b)) (c ∷ b)) ≡ true
    by true e later = refl
    by false e later = rw e later

module _ {B : Type 0} {most : ℕ} where
  left_inside : (at n : ℕ) (b : List ℕ) → n ≤ length b → Inside B most at b → Inside B most (at + n) (drop n b)
  left_inside at n b l i = record { headed = omega (arith, i.headed); within = omega (arith, i.within, length-drop n b); bytes = λ h. all_drop byte b n (i.bytes h) }

  obeys_item : (n : ℕ) → Obeys B most (λ bs. eqb (length bs) n && all byte bs) (item n)
  unfolding item number_of
  obeys_item n = record { each = λ at b i. by at b i (leb n (length b)) refl }
    where
      by : (at : ℕ) (b : List ℕ) → Inside B most at b → (t : Bool) → leb n (length b) ≡ t
          → Obeyed B most (λ bs. eqb (length bs) n && all byte bs) (item n) at b (if t then give (take n b) (at + n) (drop n b) else fault ItemCut at)
      by at b i true l =
          let few = leb-true n (length b) l in
          record {
            is_good = λ h. both (eq-eqb (length (take n b)) n (omega (arith, length-take n b))) (all_part byte b 0 n (i.bytes h));
            rest = left_inside at n b few i;
          }
      by at b i false l = record { of_chunk = refl; within = omega (arith, i.within); starts = item_cut n (leb-false n (length b) l) }

  obeys_uint : (n : ℕ) → Obeys B most any (uint n)
  unfolding uint
  obeys_uint n = obeys_then _ (obeys_item n) (λ bytes h. obeys_give (λ h. refl))

  obeys_u2 : Obeys B most (λ n. ltb n 65536) u2
  unfolding uint
  obeys_u2 = obeys_then _ (obeys_item 2) (λ bytes has. obeys_give (λ h. let so = part_of (has h) in small bytes (eqb-true (length bytes) 2 so.0) so.1))

  obeys_i2 : Obeys B most narrow i2
  unfolding i2
  obeys_i2 = obeys_then _ (obeys_uint 2) (λ n has. obeys_give (λ h. signed_narrow n))

  obeys_float : Obeys B most finite float
  unfolding float number_of
  obeys_float = obeys_unless _ finite refl (unsigned 4) (obeys_uint 4)

  obeys_vx : Obeys B most any vx
  unfolding vx number_of
  obeys_vx = record { each = λ at b i. obeyed_by (either b) at b i (λ why p f. index f) }
    where
      four : Obeys B most any long_form
      four = obeys_more (obeys_unless {has = any} _ _ refl long_index (obeys_then _ (obeys_uint 4) (λ n h. obeys_give (λ h. refl)))) (λ n h e. refl)

      either : (b : List ℕ) → Obeys B most any (if long b then long_form else u2)
      either b = obeys_if (long b) (λ e. four) (λ e. obeys_uint 2)

  obeys_string : Obeys B most has_no_zero string
  unfolding string number_of
  obeys_string = record { each = λ at b i. by at b i (closed b) refl }
    where
      by : (at : ℕ) (b : List ℕ) → Inside B most at b → (t : Bool) → closed b ≡ t
          → Obeyed B most has_no_zero string at b (if t then give (take (to_zero b) b) (at + string_size (to_zero b)) (drop (string_size (to_zero b)) b) else fault StringOpen at)
      by at b i true e =
          record { is_good = λ h. no_zero b; rest = left_inside at (string_size (to_zero b)) b (leb-true (string_size (to_zero b)) (length b) (part_of e).0) i }
      by at b i false e = record { of_chunk = refl; within = omega (arith, i.within); starts = string_open {at = at} {s = b} (λ g got. let q = rw e at got in impossible cc) }

  -- ---- sub-chunks

  obeys_sub : {A : Type 0} {good : A → Bool} (inside : ℕ → Reader A) → ((t : ℕ) → Obeys B most good (inside t)) → Obeys B most good (sub inside)
  unfolding sub chunk_of well_formed size_of ◌and_then◌ number_of
  obeys_sub {A} {good} inside w = record { each = λ at b i. by at b i (well_formed 2 b) refl }
    where
      found : ℕ → List ℕ → Got Chunk
      found at b = record { value = record { tag = number (take 4 b); body = take (length_of 2 b) (drop 6 b) }; next = at + size_of 2 (length_of 2 b); left = drop (size_of 2 (length_of 2 b)) b }

      after : (at : ℕ) (b : List ℕ) → chunk_of 2 at b ≡ fine (found at b) → at ≤ most → (v : Verdict A) (next : ℕ) (left : List ℕ)
          → JudgedGood B most at good (inside (found at b).value.tag) (at + 6) (found at b).value.body v → Inside B most next left
          → Obeyed B most good (sub inside) at b (v and_then λ a. give a next left)
      after at b e l (fine x) next left g i = record { is_good = g.is_good; rest = i }
      after at b e l (fault why p) next left (faulty f) i = record { of_chunk = f.of_chunk; within = f.within; starts = in_sub_chunk A inside (found at b) e f.starts }
      after at b e l (fault _ _) next left (over g got more) i = record { of_chunk = refl; within = l; starts = left_over A inside (found at b) g e got more }

      by : (at : ℕ) (b : List ℕ) → Inside B most at b → (t : Bool) → well_formed 2 b ≡ t
          → Obeyed B most good (sub inside) at b ((if t then fine (found at b) else fault BadHeader at) and_then λ c. whole at (inside c.value.tag) (at + 6) c.value.body and_then λ a. give a c.next c.left)
      by at b i false ok = record { of_chunk = refl; within = omega (arith, i.within); starts = bad_header A inside ok }
      by at b i true ok =
          let n = length_of 2 b in
          let room : size_of 2 n ≤ length b = leb-true (size_of 2 n) (length b) (every_at _ 2 ok) in
          let at_body : Inside B most (at + 6) (take n (drop 6 b)) = record { headed = omega (arith, i.headed); within = omega (arith, i.within, length-take n (drop 6 b), length-drop 6 b); bytes = λ h. all_part byte b 6 n (i.bytes h) } in
          after at b (rw ok) (omega (arith, i.within)) (whole at (inside (number (take 4 b))) (at + 6) (take n (drop 6 b))) _ _ (obeys_whole at (w _) (at + 6) (take n (drop 6 b)) at_body) (left_inside at (size_of 2 n) b room i)

-- ---- surfaces

-- a value of which a record can be made
abbrev pub good_value : Kind → Value → Bool
good_value LWOB v = if v.tag is "COLR" then all finite v.words else if level_tag v.tag then all finite v.words else if float_level v.tag then all finite v.words else true
good_value LWO2 v = if v.tag is "COLR" then all finite v.words else if level_tag v.tag then all finite v.words else if v.tag is "SIDE" then all side_number v.words else true

-- the values of the sub-chunks of a SURF; a block gives none that are kept
abbrev good_in : Container → List Value → Bool
good_in (Surf kind) vs = all (good_value kind) vs
good_in (Blok at) vs = true
good_in Attributes vs = true

colours_finite : (bs : List ℕ) → all byte bs ≡ true → all finite (map over255 bs) ≡ true
unfolding all
colours_finite [] e = refl
colours_finite (b ∷ bs) e = both (colour_finite b (ltb-true b 256 (all_first byte b bs e))) (colours_finite bs (all_rest byte b bs e))

all_joined : {A : Type 0} (p : A → Bool) (xss : List (List A)) → all (all p) xss ≡ true → all p (joined xss) ≡ true
unfolding all joined
all_joined p [] e = refl
all_joined p (xs ∷ xss) e = let so = part_of e in all_append_true p xs (joined xss) so.0 (all_joined p xss so.1)

good_joined : (c : Container) (vss : List (List Value)) → all (good_in c) vss ≡ true → good_in c (joined vss) ≡ true
good_joined (Surf kind) vss e = all_joined (good_value kind) vss e
good_joined (Blok at) vss e = refl
good_joined Attributes vss e = refl

module _ {B : Type 0} {most : ℕ} where
  obeys_lwob_value : (t : ℕ) → Obeys B most (all (good_value LWOB)) (lwob_value t)
  unfolding lwob_value all
  obeys_lwob_value t =
      obeys_if (t is "COLR")
      (λ e. obeys_length _ _ (omega arith) (obeys_then _ (obeys_item 4) (λ bs has. obeys_give (λ h. rw e (both (colours_finite (take 3 bs) (all_part byte bs 0 3 ((and-eq-true_iff (eqb (length bs) 4) (all byte bs)).0 (has h)).1)) refl)))))
      (λ e₁. obeys_if (level_tag t)
      (λ e. obeys_length _ _ (omega arith) (obeys_then _ obeys_i2 (λ z has. obeys_give (λ h. rw (e₁, e) (both (both (level_finite z (leb-true (absolute z) 32768 (has h))) refl) refl)))))
      (λ e₂. obeys_if (float_level t)
      (λ e. obeys_length _ _ (omega arith) (obeys_then _ obeys_float (λ x has. obeys_give (λ h. rw (e₁, e₂, e) (both (both (has h) refl) refl)))))
      (λ e₃. obeys_if (t is "FLAG") (λ e. obeys_length _ _ (omega arith) (obeys_then _ (obeys_uint 2) (λ n has. obeys_give (λ h. rw (e₁, e₂, e₃))))) (λ e. obeys_unjudged [] (λ h. refl)))))

  obeys_lwo2_value : (t : ℕ) → Obeys B most (all (good_value LWO2)) (lwo2_value t)
  unfolding lwo2_value all number_of
  obeys_lwo2_value t =
      obeys_if (t is "COLR")
      (λ e. obeys_then _ obeys_float (λ r hr. obeys_then _ obeys_float (λ g hg. obeys_then _ obeys_float (λ b hb. obeys_then _ obeys_vx (λ v hv. obeys_give (λ h. rw e (both (both (hr h) (both (hg h) (both (hb h) refl))) refl)))))))
      (λ e₁. obeys_if (level_tag t)
      (λ e. obeys_then _ obeys_float (λ x has. obeys_then _ obeys_vx (λ v hv. obeys_give (λ h. rw (e₁, e) (both (both (has h) refl) refl)))))
      (λ e₂. obeys_if (t is "SIDE")
      (λ e. obeys_length _ _ (omega arith) (obeys_then _ (obeys_unless _ side_number refl (unsigned 2) (obeys_uint 2)) (λ n has. obeys_give (λ h. rw (e₁, e₂, e) (both (both (has h) refl) refl)))))
      (λ e. obeys_unjudged [] (λ h. refl))))

  module _ {inner : Container → Reader (List Value)} (w : (c : Container) → Obeys B most (good_in c) (inner c)) where
    obeys_attribute : (t : ℕ) → Obeys B most any (attribute inner t)
    unfolding attribute
    obeys_attribute t = obeys_if (t is "TMAP") (λ e. w Attributes) (λ e. obeys_unjudged [] (λ h. refl))

    obeys_block : Obeys B most (all (good_value LWO2)) (block inner)
    unfolding block number_of all
    obeys_block = record { each = λ at b i. by at b i (empty b) refl }
      where
        none : (b : List ℕ) → empty b ≡ true → b ≡ []
        none [] e = refl
        none (c ∷ b) e = absurd (false≢true e)

        by : (at : ℕ) (b : List ℕ) → Inside B most at b → (t : Bool) → empty b ≡ t
            → Obeyed B most (all (good_value LWO2)) (block inner) at b (if t then fault SurfaceValue (header_of 2 at) else (inner (Blok (header_of 2 at)) >>= (λ vs. give [])) at b)
        by at b i true e = rw (none b e) (record { of_chunk = refl; within = omega (arith, i.within); starts = empty_block inner {at = at} {header = header_of 2 at} (omega (arith, i.headed)) })
        by at b i false e = obeyed_by (obeys_then _ (w (Blok (header_of 2 at))) (λ vs h. obeys_give (λ h. refl))) at b i (λ why p f. in_block inner e f)

    -- a BLOK's header stands before what it holds
    obeys_held : (c : Container) (t : ℕ) → Obeys B most (good_in c) (held inner c t)
    unfolding held block_header number_of
    obeys_held (Surf LWOB) t = obeys_lwob_value t
    obeys_held (Surf LWO2) t = obeys_if (t is "BLOK") (λ e. obeys_block) (λ e. obeys_lwo2_value t)
    obeys_held (Blok blok) t = record { each = λ at b i. by at b i (eqb (header_of 2 at) (blok + 6)) refl }
      where
        begun : (at : ℕ) (b : List ℕ) → Inside B most at b → blok + 6 + 6 ≡ at → (u : Bool) → block_type t ≡ u
            → Obeyed B most any (held inner (Blok blok) t) at b ((if u then (string >>= λ ordinal. inner Attributes) else (λ at s. fault SurfaceValue blok)) at b)
        begun at b i e true q =
            obeyed_by (obeys_then _ obeys_string (λ ordinal h. w Attributes)) at b i (λ why p f. first_sub inner t blok e (rw q f))
        begun at b i e false q = record { of_chunk = refl; within = omega (arith, i.within); starts = other_first inner t e q }

        by : (at : ℕ) (b : List ℕ) → Inside B most at b → (u : Bool) → eqb (header_of 2 at) (blok + 6) ≡ u
            → Obeyed B most any (held inner (Blok blok) t) at b ((if u then block_header inner blok t at else attribute inner t at) b)
        by at b i true e = begun at b i (omega (arith, i.headed, eqb-true (header_of 2 at) (blok + 6) e)) (block_type t) refl
        by at b i false e =
            obeyed_by (obeys_attribute t) at b i (λ why p f. later_sub inner t blok (λ same. eqb-false (header_of 2 at) (blok + 6) e (omega (arith, i.headed))) f)
    obeys_held Attributes t = obeys_attribute t

  obeys_nested : (depth : ℕ) (c : Container) → Obeys B most (good_in c) (nested depth c)
  unfolding nested all
  obeys_nested zero (Surf kind) = obeys_unjudged [] (λ h. refl)
  obeys_nested zero (Blok at) = obeys_unjudged [] (λ h. refl)
  obeys_nested zero Attributes = obeys_unjudged [] (λ h. refl)
  obeys_nested (suc depth) c = obeys_then _ (obeys_many (obeys_sub _ (obeys_held (obeys_nested depth) c))) (λ vss has. obeys_give (λ h. good_joined c vss (has h)))

-- ---- bodies

-- What a chunk contributes is good, after what stands before it.
abbrev pub good_part : Kind → Before → Part → Bool
good_part kind b (point_list ps) = all (λ p. all finite (point_words p)) ps
good_part kind b (name_list ns) = not (there b.names) && good_names [] ns
good_part kind b (polygon_list ps n) = all (good_polygon (count b.points) (count b.names)) ps
good_part kind b (tagging t ts) = all (λ t. between 1 (count b.names) t.1 && leb t.1 tag_limit) ts
good_part kind b (surface s) = all (good_value kind) s.values
good_part kind b layer = true
good_part kind b skipped_chunk = true

module _ {B : Type 0} {most : ℕ} where
  obeys_point : Obeys B most (λ (p : Point). all finite (point_words p)) point
  unfolding point all
  obeys_point = obeys_then _ obeys_float (λ x hx. obeys_then _ obeys_float (λ y hy. obeys_then _ obeys_float (λ z hz. obeys_give (λ h. both (hx h) (both (hy h) (both (hz h) refl))))))

  obeys_points : (kind : Kind) (b : Before) → Obeys B most (good_part kind b) (points_body kind)
  unfolding points_body
  obeys_points kind b = obeys_length _ _ (omega arith) (obeys_then _ (obeys_many obeys_point) (λ ps has. obeys_give has))

  obeys_layer : (kind : Kind) (b : Before) → Obeys B most (good_part kind b) layer_body
  unfolding layer_body
  obeys_layer kind b =
      obeys_then _ (obeys_uint 2)
      (λ number h. obeys_then _ (obeys_uint 2)
      (λ flags h. obeys_then _ obeys_point
      (λ pivot h. obeys_then _ obeys_string
      (λ called h. obeys_then _ (record { each = obeys_up_to (obeys_uint 2) 1 }) (λ parent h. obeys_give (λ h. refl))))))

  obeys_names_after : (k : ℕ) (earlier : List Name) → Obeys B most (good_names earlier) (names_after k earlier)
  unfolding names_after name good_names number_of
  obeys_names_after k earlier = record { each = from k earlier }
    where
      from : (k : ℕ) (earlier : List Name) (at : ℕ) (b : List ℕ) → Inside B most at b
          → Obeyed B most (good_names earlier) (names_after k earlier) at b (names_after k earlier at b)
      from zero earlier at b i = record { is_good = λ h. refl; rest = i }
      from (suc k) earlier at [] i = record { is_good = λ h. refl; rest = i }
      from (suc k) earlier at (c ∷ b) i =
          obeyed_by
          (obeys_then _ (obeys_unless _ (new_name earlier) refl text obeys_string)
          (λ n hn. obeys_then _ (record { each = from k (earlier ++ (n ∷ [])) }) (λ ns hns. obeys_give (λ h. let so = (and-eq-true_iff (has_no_zero n) (new_name earlier n)).0 (hn h) in both (both so.1 so.0) (hns h)))))
          at (c ∷ b) i (λ why p f. next_name k earlier f)

  obeys_names : (kind : Kind) (b : Before) → not (there b.names) ≡ true → Obeys B most (good_part kind b) names_body
  unfolding names_body
  obeys_names kind b new = record {
    each = λ at s i. obeyed_by (obeys_then _ (obeys_names_after (length s) []) (λ ns has. obeys_give (λ h. both new (has h)))) at s i (λ why p f. names f);
  }

-- vertices that a polygon may have
abbrev good_vertices : (limit point_count : ℕ) → List ℕ → Bool
good_vertices limit point_count vs = between 1 limit (length vs) && all (λ v. ltb v point_count) vs

counted : (limit point_count n : ℕ) (vs : List ℕ) → between 1 limit n ≡ true → eqb (length vs) n && all (λ v. ltb v point_count) vs ≡ true
    → good_vertices limit point_count vs ≡ true
counted limit point_count n vs range e =
    let so = (and-eq-true_iff (eqb (length vs) n) (all (λ v. ltb v point_count) vs)).0 e in
    both (ap (between 1 limit) (eqb-true (length vs) n so.0) ∙ range) so.1

-- none
no_tag : {name_count : ℕ} → GoodTag name_count 0
no_tag = record { named = omega arith; numbered = omega arith }

-- with vertices that one may have, a kind, a surface number and a part name
polygon_good : (limit point_count name_count : ℕ) (p : Polygon) → limit ≤ lwo2_vertex_limit → good_vertices limit point_count p.vertices ≡ true
    → between FACE PATCH p.kind ≡ true → GoodTag name_count p.surface → GoodTag name_count p.part_name
    → good_polygon point_count name_count p ≡ true
polygon_good limit point_count name_count p l vs kind surface_good part_good =
    let so = (and-eq-true_iff (between 1 limit (length p.vertices)) (all (λ v. ltb v point_count) p.vertices)).0 vs in
    let range = between_true 1 limit (length p.vertices) so.0 in
    polygon_is_good (record { kinds = between_true FACE PATCH p.kind kind; count = (range.0, omega arith); vertices = so.1; surface = surface_good; part_name = part_good })

-- a surface number that names one of the names
named : (point_count name_count : ℕ) (z : ℤ) (p : Polygon) → good_vertices lwob_vertex_limit point_count p.vertices ≡ true → between FACE PATCH p.kind ≡ true
    → p.surface ≡ absolute z → p.part_name ≡ 0 → narrow z ≡ true → in_name_list name_count z ≡ true
    → good_polygon point_count name_count p ≡ true
named point_count name_count z p vs kind same none few l =
    let range = between_true 1 name_count (absolute z) l in
    let tag : GoodTag name_count p.surface = record { named = omega arith; numbered = omega (arith, leb-true (absolute z) 32768 few) } in
    polygon_good lwob_vertex_limit point_count name_count p (omega arith) vs kind tag (rw none no_tag)

kind_good : (t : ℕ) → between FACE PATCH (polygon_kind t) ≡ true
kind_good t = by (t is "FACE")
  where
    by : (x : Bool) → between FACE PATCH (if x then FACE else PATCH) ≡ true
    by true = refl
    by false = refl

module _ {B : Type 0} {most : ℕ} (point_count name_count : ℕ) where
  obeys_lwob_vertices : Obeys B most (good_vertices lwob_vertex_limit point_count) (lwob_vertices point_count)
  unfolding lwob_vertices number_of
  obeys_lwob_vertices =
      obeys_then _ (obeys_unless _ (between 1 lwob_vertex_limit) refl (unsigned 2) (obeys_uint 2))
      (λ n has. obeys_more (obeys_times (obeys_unless _ (λ v. ltb v point_count) refl (unsigned 2) (obeys_uint 2)) n) (λ vs h e. counted lwob_vertex_limit point_count n vs (has h) e))

  obeys_details : (z : ℤ) → Obeys B most any (details_after point_count name_count z)
  unfolding details_after details detail number_of
  obeys_details z =
      obeys_if (negative z)
      (λ e. obeys_then _ (obeys_uint 2) (λ n h. obeys_then _ (obeys_times (obeys_then {good = any} _ obeys_lwob_vertices (λ vs h. obeys_more (obeys_unless _ _ refl (asked_item _ _ _ _ signed_item) (obeys_unless _ _ refl signed_item obeys_i2)) (λ x h e. refl))) n) (λ ds h. obeys_give (λ h. refl))))
      (λ e. obeys_give (λ h. refl))

  obeys_faces : (kind : Kind) (b : Before) → count b.points ≡ point_count → count b.names ≡ name_count
      → Obeys B most (good_part kind b) (faces_body point_count name_count)
  unfolding faces_body face number_of
  obeys_faces kind b is_points is_names =
      obeys_then _
      (obeys_many (obeys_then {good = λ (f : Polygon × ℕ). good_polygon point_count name_count f.0} _ obeys_lwob_vertices
      (λ vs hvs. obeys_then _ (obeys_unless _ (in_name_list name_count) refl signed_item obeys_i2)
      (λ z hz. obeys_then _ (obeys_details z)
      (λ n hn. obeys_give (λ h. let so = (and-eq-true_iff (narrow z) (in_name_list name_count z)).0 (hz h) in named point_count name_count z _ (hvs h) refl refl refl so.0 so.1))))))
      (λ fs has. obeys_give (λ h. rw (is_points, is_names) (all_map (good_polygon point_count name_count) (λ (f : Polygon × ℕ). f.0) fs (has h))))

  obeys_patches : (kind : Kind) (b : Before) → count b.points ≡ point_count → count b.names ≡ name_count
      → Obeys B most (good_part kind b) (patches_body point_count name_count)
  unfolding patches_body patch number_of
  obeys_patches kind b is_points is_names =
      obeys_then _
      (obeys_many (obeys_then {good = good_polygon point_count name_count} _ obeys_lwob_vertices
      (λ vs hvs. obeys_then _ (obeys_unless _ (λ z. not (negative z) && in_name_list name_count z) refl signed_item obeys_i2)
      (λ z hz. obeys_give
      (λ h. let so = (and-eq-true_iff (narrow z) (not (negative z) && in_name_list name_count z)).0 (hz h) in let two = (and-eq-true_iff (not (negative z)) (in_name_list name_count z)).0 so.1 in named point_count name_count z _ (hvs h) refl refl refl so.0 two.1)))))
      (λ ps has. obeys_give (λ h. rw (is_points, is_names) (has h)))

  obeys_lwo2_vertices : Obeys B most (good_vertices lwo2_vertex_limit point_count) (lwo2_vertices point_count)
  unfolding lwo2_vertices number_of
  obeys_lwo2_vertices =
      obeys_then _ (obeys_unless _ (λ n. leb 1 (count_bits n)) refl (unsigned 2) (obeys_uint 2))
      (λ n has. obeys_more (obeys_times (obeys_unless _ (λ v. ltb v point_count) refl index_item obeys_vx) (count_bits n))
      (λ vs h e. counted lwo2_vertex_limit point_count (count_bits n) vs (both (has h) (le-leb (n % 1024) lwo2_vertex_limit (omega arith))) e))

  obeys_polygons : (kind : Kind) (b : Before) → count b.points ≡ point_count → Obeys B most (good_part kind b) (polygons_body point_count)
  unfolding polygons_body polygon number_of
  obeys_polygons kind b is_points =
      obeys_then _ (obeys_unless _ _ refl (unsigned 4) (obeys_uint 4))
      (λ t ht. obeys_then _
      (obeys_many (obeys_then {good = good_polygon point_count (count b.names)} _ obeys_lwo2_vertices
      (λ vs hvs. obeys_give (λ h. polygon_good lwo2_vertex_limit point_count (count b.names) _ (omega arith) (hvs h) (kind_good t) no_tag no_tag))))
      (λ ps has. obeys_give (λ h. rw is_points (has h))))

  obeys_tagging : (kind : Kind) (b : Before) → count b.names ≡ name_count → Obeys B most (good_part kind b) (tagging_body point_count name_count)
  unfolding tagging_body pair number_of all
  obeys_tagging kind b is_names =
      obeys_then _ (obeys_uint 4)
      (λ t ht. obeys_then {has = all (λ (u : ℕ × ℕ). between 1 name_count u.1 && leb u.1 tag_limit)} _
      (obeys_if (pairs_type t)
      (λ e. obeys_many (obeys_then _ (obeys_unless _ _ refl index_item obeys_vx)
      (λ p hp. obeys_then _ (obeys_unless _ (λ u. ltb u name_count) refl (unsigned 2) obeys_u2)
      (λ u hu. obeys_give
      (λ h. let so = (and-eq-true_iff (ltb u 65536) (ltb u name_count)).0 (hu h) in both (both (le-leb 1 (suc u) (omega arith)) (le-leb (suc u) name_count (omega (arith, ltb-true u name_count so.1)))) (le-leb (suc u) tag_limit (omega (arith, ltb-true u 65536 so.0))))))))
      (λ e. obeys_unjudged [] (λ h. refl)))
      (λ ts has. obeys_give (λ h. rw is_names (has h))))

module _ {B : Type 0} {most : ℕ} where
  obeys_surface : (kind : Kind) (b : Before) → Obeys B most (good_part kind b) (surface_body kind)
  unfolding surface_body surface_strings
  obeys_surface kind b = obeys_then _ (called kind) (λ n h. obeys_then _ (obeys_nested surface_depth (Surf kind)) (λ vs has. obeys_give has))
    where
      called : (kind : Kind) → Obeys B most any (surface_strings kind)
      called LWOB = obeys_then _ obeys_string (λ n h. obeys_give (λ h. refl))
      called LWO2 = obeys_then _ obeys_string (λ n h. obeys_then _ obeys_string (λ source h. obeys_give (λ h. refl)))

-- ---- chunks

-- a fault of a chunk that is judged
pub record FaultyBody (judging : List ℕ → Verdict Part) (body : List ℕ) (why : Fault) (p : ℕ) : Type 1 where
  pub of_chunk : is_of_chunk (number_of why) ≡ true
  pub within : p ≤ 8 + length body
  pub starts : BodyFaultStarts judging body why p

abbrev Judged : (B : Type 0) (good : Part → Bool) (judging : List ℕ → Verdict Part) (body : List ℕ) → Verdict Part → Type 1
Judged B good judging body (fine part) = Good B Part good part
Judged B good judging body (fault why p) = FaultyBody judging body why p

-- a chunk's judgement, after what stands before it
record JudgesWell (B : Type 0) (kind : Kind) (b : Before) (judging : List ℕ → Verdict Part) : Type 1 where
  each : (body : List ℕ) → (B → all byte body ≡ true) → Judged B (good_part kind b) judging body (judging body)

module _ {B : Type 0} {kind : Kind} {b : Before} where
  sound_when : {r : Reader Part} (ok : Bool) → (ok ≡ true → (most : ℕ) → Obeys B most (good_part kind b) r) → JudgesWell B kind b (when ok read r)
  unfolding when◌read◌ number_of
  sound_when {r} true w = record { each = λ body bytes. by body (whole 0 r 8 body) (obeys_whole 0 (w refl (8 + length body)) 8 body (record { headed = omega arith; within = omega arith; bytes = bytes })) }
    where
      by : (body : List ℕ) (v : Verdict Part) → JudgedGood B (8 + length body) 0 (good_part kind b) r 8 body v → Judged B (good_part kind b) (when true read r) body v
      by body (fine part) g = g
      by body (fault why p) (faulty f) = record { of_chunk = f.of_chunk; within = f.within; starts = in_body r f.starts }
      by body (fault _ _) (over g got more) = record { of_chunk = refl; within = omega arith; starts = bytes_over r g got more }
  sound_when {r} false w = record { each = λ body bytes. record { of_chunk = refl; within = omega arith; starts = out_of_order r } }

sound_judge : {B : Type 0} (kind : Kind) (b : Before) (t : ℕ) → JudgesWell B kind b (judge kind b t)
sound_judge {B} kind b t =
    judge_cases (JudgesWell B kind b) kind b t
    (record {
      of_points = λ ok e. sound_when _ (λ ok m. obeys_points kind b);
      of_names = λ e. sound_when _ (λ new m. obeys_names kind b new);
      of_faces = λ e. sound_when _ (λ ok m. obeys_faces _ _ kind b refl refl);
      of_patches = λ e. sound_when _ (λ ok m. obeys_patches _ _ kind b refl refl);
      of_polygons = λ e. sound_when _ (λ ok m. obeys_polygons _ 0 kind b refl);
      of_tagging = λ e. sound_when _ (λ ok m. obeys_tagging _ _ kind b refl);
      of_surface = λ e. sound_when _ (λ ok m. obeys_surface kind b);
      of_layer = λ e. sound_when _ (λ ok m. obeys_layer kind b);
      of_skipped = record { each = λ body bytes. record { is_good = λ h. refl } };
    })

-- a fault of a chunk is one of a chunk's, lies within it, and is told where what has it starts
pub fault_in_chunk : (kind : Kind) (b : Before) (t : ℕ) (body : List ℕ) {why : Fault} {p : ℕ} → judge kind b t body ≡ fault why p
    → FaultyBody (judge kind b t) body why p
fault_in_chunk kind b t body {why} {p} e =
    let j : Judged ⊥ (good_part kind b) (judge kind b t) body (fault why p) = rw e at ((sound_judge {B = ⊥} kind b t).each body (λ h. absurd h)) in j

-- what a chunk of bytes contributes is good
pub part_good : (kind : Kind) (b : Before) (t : ℕ) (body : List ℕ) {part : Part} → all byte body ≡ true → judge kind b t body ≡ fine part
    → good_part kind b part ≡ true
part_good kind b t body {part} bytes e =
    let j : Judged (Unit {0}) (good_part kind b) (judge kind b t) body (fine part) = rw e at ((sound_judge {B = Unit} kind b t).each body (λ h. bytes)) in j.is_good tt
