-- The names before the place are in the tables, and the one at it was judged fine with all that follow, so that it is not open and has room.
use Rattle.std.specs.Prelude.{Ok, Err}
use mathlib.Core.Path.{◌≡◌, refl, sym, ap, ◌∙◌}
use mathlib.Core.Bool.{Bool, true, false, ◌&&◌}
use mathlib.Core.List.{List, [], ◌∷◌, ◌++◌, map, map-append, append_assoc, append-nil}
use Prim.Native.Nat.{ℕ, zero, suc, ◌+◌, ◌-◌, ◌^◌, ◌≤◌, ◌<◌}
use native.Mathlib.Omega.{arith}
use lib.ListN.{length, take, drop, set, drop_of_length-le, length-drop, length-set, length-append, length-map}
use lib.Dec.{leb}
use borrow.Author.Tests.{leb-true}
use lib.Seq.{drop-cons}
use Rattle.format.specs.declared.Fault.TheVariants.{WrongLength}
use Rattle.format.specs.Bytes.{empty, joined}
use Rattle.format.specs.Items.{◌or◌unless◌, ◌and_then◌, Verdict, fine, Got, ◌>>=◌, give, whole, string}
use Rattle.format.specs.Mesh.{Name}
use Rattle.format.specs.Bodies.{name_list, new_name, name, names_after, names_body}
use Rattle.format.specs.Promises.{Put}
use Rattle.load_lists.specs.Promises.{NamesRoom, NamesPut}
use Rattle.format.proofs.ReaderSteps.{exactly}
use Rattle.wire.specs.declared.Refusal.{Refusal}
use Rattle.wire.specs.declared.cursor.Cursor.{Cursor}
use Rattle.wire.specs.Promises.{TextAt}
use Rattle.wire.proofs.Items.{inside}
use Rattle.format.proofs.Verdicts.{same_fine, then_fine, chosen}
use Rattle.format.proofs.Puts.{joined_append, put_none, put_length, put_snoc, put_append}

-- the names `done` are put, and those that follow are read from here on
pub record NamesStored (s lengths₀ : List ℕ) (k : ℕ) (bytes₀ : List ℕ) (b at i m : ℕ) (lengths bytes : List ℕ) : Type 0 where
  pub room : NamesRoom s lengths₀ k bytes₀ b
  pub done : List Name
  pub more : List Name
  pub all : done ++ more ≡ room.listed
  pub earlier : List Name
  pub fuel : ℕ
  pub enough : length s ≤ at + fuel
  pub next : ℕ
  pub left : List ℕ
  pub reads : names_after fuel earlier at (drop at s) ≡ fine (record { value = more; next = next; left = left })
  pub here : i ≡ k + length done
  pub there : m ≡ b + length (joined done)
  pub bounded : length bytes₀ < 2 ^ 64
  pub kept_lengths : length lengths ≡ length lengths₀
  pub kept_bytes : length bytes ≡ length bytes₀
  pub put_lengths : Put lengths₀ k (map length done) lengths
  pub put_bytes : Put bytes₀ b (joined done) bytes

pub names_begin : {s lengths : List ℕ} {k : ℕ} {bytes : List ℕ} {b : ℕ} → length bytes < 2 ^ 64 → NamesRoom s lengths k bytes b
    → NamesStored s lengths k bytes b 8 k b lengths bytes
unfolding whole names_body joined ◌>>=◌
names_begin {s} {lengths} {k} {bytes} {b} bounded r =
    let w = then_fine (names_body 8 (drop 8 s)) _ r.sound in
    let m = then_fine (names_after (length (drop 8 s)) [] 8 (drop 8 s)) _ w.1 in
    let made : record { value = name_list m.0.value; next = m.0.next; left = m.0.left } ≡ w.0 = cc m.2 in
    let part : name_list m.0.value ≡ name_list r.listed
    = ap (λ g. g.value) made ∙ same_fine (chosen (empty w.0.left) (fine w.0.value) WrongLength 0 w.2).1 in
    record {
      room = r;
      done = [];
      more = m.0.value;
      all = cc;
      earlier = [];
      fuel = length (drop 8 s);
      enough = rw length-drop (omega arith);
      next = m.0.next;
      left = m.0.left;
      reads = m.1;
      here = omega arith;
      there = omega arith;
      bounded = bounded;
      kept_lengths = refl;
      kept_bytes = refl;
      put_lengths = put_none lengths k;
      put_bytes = put_none bytes b;
    }

-- the name that stands at a place, and those after it
pub record NameNext (s : List ℕ) (at n next fuel : ℕ) (earlier more : List Name) (end : ℕ) (left : List ℕ) : Type 0 where
  pub later : List Name
  pub is : more ≡ take n (drop at s) ∷ later
  pub short : n ≤ 255
  pub reads : names_after (fuel - 1) (earlier ++ (take n (drop at s) ∷ [])) next (drop next s) ≡ fine (record { value = later; next = end; left = left })

burnt : (fuel : ℕ) (earlier : List Name) (s : List ℕ) (at : ℕ) → at < length s → length s ≤ at + fuel
    → names_after fuel earlier at (drop at s) ≡ (name earlier >>= (λ n. names_after (fuel - 1) (earlier ++ (n ∷ [])) >>= (λ ns. give (n ∷ ns)))) at (drop at s)
unfolding names_after
burnt zero earlier s at some enough = absurd (omega arith)
burnt (suc fuel) earlier s at some enough =
    let e : suc fuel - 1 ≡ fuel = omega arith in
    rw (drop-cons s at 0 some, e)

-- what a name of n bytes that is read up to a place needs of the tables
pub record NameRoom {s lengths₀ : List ℕ} {k : ℕ} {bytes₀ : List ℕ} {b at i m : ℕ} {lengths bytes : List ℕ}
    (f : NamesStored s lengths₀ k bytes₀ b at i m lengths bytes) (n next : ℕ) : Type 0 where
  pub short : n ≤ 255
  pub there : at + n ≤ length s
  pub moves : at + n < next
  pub index : i < length lengths
  pub fit : m + n ≤ length bytes
  pub fits : m + n < 2 ^ 64

-- a name and those after it are fine: the name is a new one, and those after it are fine
after_name : (earlier : List Name) (fuel at : ℕ) (here : List ℕ) (g : Got Name) (t : Bool) → string at here ≡ fine g → new_name earlier g.value ≡ t
    → {y : Got (List Name)} → (name earlier >>= (λ n. names_after fuel (earlier ++ (n ∷ [])) >>= (λ ns. give (n ∷ ns)))) at here ≡ fine y
    → (t ≡ true) × (later : List Name) × (y.value ≡ g.value ∷ later) ×
    (names_after fuel (earlier ++ (g.value ∷ [])) g.next g.left ≡ fine (record { value = later; next = y.next; left = y.left }))
unfolding name ◌>>=◌ ◌or◌unless◌ ◌and_then◌
after_name earlier fuel at here g true read new {y} e =
    let v = then_fine (names_after fuel (earlier ++ (g.value ∷ [])) g.next g.left) _ (rw (read, new) at e) in
    let z = from v.0 y v.1 v.2 in
    (refl, v.0.value, z.0, z.1)
  where
    from : (v y : Got (List Name)) → names_after fuel (earlier ++ (g.value ∷ [])) g.next g.left ≡ fine v
        → ◌≡◌ {A = Verdict (Got (List Name))} (fine (record { value = g.value ∷ v.value; next = v.next; left = v.left })) (fine y)
        → (y.value ≡ g.value ∷ v.value) ×
        (names_after fuel (earlier ++ (g.value ∷ [])) g.next g.left ≡ fine (record { value = v.value; next = y.next; left = y.left }))
    from v y r e = let z : ◌≡◌ {A = Got (List Name)} (record { value = g.value ∷ v.value; next = v.next; left = v.left }) y = same_fine e in
        (rw (← z) refl, rw (← z) r)
after_name earlier fuel at here g false read new e = absurd (let z : ◌≡◌ {A = ℕ} 0 1 = cc (rw (read, new) at e) in omega arith)

module _ {s lengths₀ : List ℕ} {k : ℕ} {bytes₀ : List ℕ} {b at i m : ℕ} {lengths bytes : List ℕ}
    (f : NamesStored s lengths₀ k bytes₀ b at i m lengths bytes) where
  module _ (some : at < length s) where
    once : (name f.earlier >>= (λ n. names_after (f.fuel - 1) (f.earlier ++ (n ∷ [])) >>= (λ ns. give (n ∷ ns)))) at (drop at s)
        ≡ fine (record { value = f.more; next = f.next; left = f.left })
    once = sym (burnt f.fuel f.earlier s at some f.enough) ∙ f.reads

    pub never_open : {e : Refusal} → TextAt s at (Err e) → ⊥
    unfolding name ◌>>=◌ ◌or◌unless◌ ◌and_then◌
    never_open w = let z : ◌≡◌ {A = ℕ} 0 1 = cc (rw (exactly w.reads.says) at once) in omega arith

    module _ {n : ℕ} {c : Cursor} (w : TextAt s at (Ok (n, c))) where
      pub name_next : NameNext s at n c.at f.fuel f.earlier f.more f.next f.left
      name_next =
          let x = take n (drop at s) in
          let g : Got Name = record { value = x; next = c.at; left = drop c.at s } in
          let v = after_name f.earlier (f.fuel - 1) at (drop at s) g (new_name f.earlier x) (exactly w.reads.says) refl once in
          record {
            later = v.1;
            is = v.2;
            short = omega (arith, leb-true (length x) 255 (first (leb (length x) 255) _ v.0), (inside w).2);
            reads = v.3;
          }
        where
          first : (a b : Bool) → a && b ≡ true → a ≡ true
          first true b q = refl
          first false b q = q

      pub rooms : NameRoom f n c.at
      unfolding joined
      rooms =
          let x = take n (drop at s) in
          let y = name_next in
          let whole_list : f.done ++ (x ∷ y.later) ≡ f.room.listed = ap (λ z. f.done ++ z) (sym y.is) ∙ f.all in
          let l : length (f.done ++ (x ∷ y.later)) ≡ length f.room.listed = ap length whole_list in
          let j : length (joined f.done ++ (x ++ joined y.later)) ≡ length (joined f.room.listed)
          = ap length (sym (joined_append f.done (x ∷ y.later))) ∙ ap (λ z. length (joined z)) whole_list in
          let l' = simp length-append at l in
          let j' = simp length-append at j in
          let k = inside w in
          record {
            short = y.short;
            there = omega (arith, k);
            moves = k.0;
            index = omega (arith, l', f.here, f.room.lengths_fit, f.kept_lengths);
            fit = omega (arith, j', f.there, f.room.bytes_fit, f.kept_bytes, k.2);
            fits = omega (arith, j', f.there, f.room.bytes_fit, f.bounded, k.2);
          }

      pub names_turn : {bytes' : List ℕ} → Put bytes m (take n (drop at s)) bytes'
          → NamesStored s lengths₀ k bytes₀ b c.at (i + 1) (m + n) (set lengths i n) bytes'
      unfolding joined
      names_turn p =
          let x = take n (drop at s) in
          let y = name_next in
          let long : length x ≡ n = (inside w).2 in
          let count : length (map length f.done) ≡ length f.done = length-map f.done length in
          let one : joined (f.done ++ (x ∷ [])) ≡ joined f.done ++ x = joined_append f.done (x ∷ []) ∙ ap (λ z. joined f.done ++ z) (append-nil x) in
          let two : map length (f.done ++ (x ∷ [])) ≡ map length f.done ++ (n ∷ [])
          = map-append length f.done (x ∷ []) ∙ ap (λ z. map length f.done ++ (z ∷ [])) long in
          let size : length (joined (f.done ++ (x ∷ []))) ≡ length (joined f.done) + n = rw one (simp length-append (omega (arith, long))) in
          let place : i ≡ k + length (map length f.done) = rw count f.here in
          record {
            room = f.room;
            done = f.done ++ (x ∷ []);
            more = y.later;
            all = append_assoc f.done (x ∷ []) y.later ∙ ap (λ z. f.done ++ z) (sym y.is) ∙ f.all;
            earlier = f.earlier ++ (x ∷ []);
            fuel = f.fuel - 1;
            enough = omega (arith, (inside w).0, f.enough);
            next = f.next;
            left = f.left;
            reads = y.reads;
            here = simp length-append (omega (arith, f.here));
            there = omega (arith, size, f.there);
            bounded = f.bounded;
            kept_lengths = length-set lengths i n ∙ f.kept_lengths;
            kept_bytes = put_length p (omega (arith, rooms.fit, long)) ∙ f.kept_bytes;
            put_lengths = rw (two, place) (put_snoc f.put_lengths n (omega (arith, rooms.index, f.kept_lengths, place)));
            put_bytes = rw one (put_append f.put_bytes (rw f.there at p) (omega (arith, rooms.fit, f.kept_bytes, long, f.there)));
          }

  pub names_end : length s ≤ at → NamesPut s lengths₀ k lengths bytes₀ b bytes
  unfolding names_after
  names_end end =
      let none : f.more ≡ [] = stop f.fuel f.earlier (drop at s) (drop_of_length-le s {i = at} end) f.reads in
      let whole_list : f.done ≡ f.room.listed = sym (append-nil f.done) ∙ ap (λ z. f.done ++ z) (sym none) ∙ f.all in
      record {
        put_lengths = λ ns e. rw (same ns e, ← whole_list) f.put_lengths;
        put_bytes = λ ns e. rw (same ns e, ← whole_list) f.put_bytes;
      }
    where
      same : (ns : List Name) → whole 0 names_body 8 (drop 8 s) ≡ fine (name_list ns) → ns ≡ f.room.listed
      same ns e = let z : name_list ns ≡ name_list f.room.listed = same_fine (sym e ∙ f.room.sound) in cc

      stop : (fuel : ℕ) (earlier : List Name) (here : List ℕ) → here ≡ [] → {y : Got (List Name)} → names_after fuel earlier at here ≡ fine y → y.value ≡ []
      stop zero earlier here e r = sym (ap (λ y. y.value) (same_fine r))
      stop (suc fuel) earlier here e r = sym (ap (λ y. y.value) (same_fine (rw e at r)))
