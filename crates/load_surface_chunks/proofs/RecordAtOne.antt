-- Where the listed names are all different, a record that is stored at those equal to one name is stored at one entry, or at none.
use Rattle.std.specs.Prelude.{if◌then◌else◌, Some, None}
use Prim.Native.Nat.{ℕ, zero, suc, ◌+◌, ◌*◌, ◌<◌, ◌≤◌}
use mathlib.Core.Path.{◌≡◌, refl, sym, ap, ◌∙◌}
use mathlib.Core.List.{List, [], ◌∷◌, ◌++◌, append_assoc}
use mathlib.Core.Bool.{Bool, true, false, true≢false, false≢true}
use native.Mathlib.Omega.{arith}
use lib.ListN.{length, get_or, take, drop, length-map, take-append-drop}
use lib.Seq.{drop-drop, take-add}
use Rattle.format.specs.Bytes.{same, amongst}
use Rattle.format.specs.Mesh.{Name, Surface, surface_words, record_size}
use Rattle.format.specs.Written.{pieces}
use Rattle.format.specs.Promises.{Put}
use Rattle.format.proofs.AmongstNames.{is_amongst}
use Rattle.format.proofs.SameLists.{same_eq, same_refl}
use Rattle.name_index.specs.declared.NameIndex.{NameIndex}
use Rattle.name_index.specs.Index.{name_of, Found, Different, and_name}
use Rattle.name_index.specs.NameIndex.{words_in, names_in}
use Rattle.name_index.specs.Listed.{AllHeld}
use Rattle.name_index.proofs.Links.{name_at}
use Rattle.load_surface_chunks.specs.Promises.{with_record, ListedRoom, Indexed}

-- ---- a name that is not listed

other_name : (x n : Name) (ns : List Name) → amongst x (n ∷ ns) ≡ false → (same n x ≡ false) × (amongst x ns ≡ false)
unfolding amongst
other_name x n ns e = by (same x n) refl e
  where
    swapped : same x n ≡ false → (b : Bool) → same n x ≡ b → b ≡ false
    swapped f true e = absurd (false≢true (sym f ∙ rw (same_eq n x e) (same_refl x)))
    swapped f false e = refl

    by : (b : Bool) → same x n ≡ b → (if b then true else amongst x ns) ≡ false → (same n x ≡ false) × (amongst x ns ≡ false)
    by true s e = absurd (true≢false e)
    by false s e = (swapped s (same n x) refl, e)

nowhere : (x : Name) (s : Surface) (ns : List Name) (t : List ℕ) → amongst x ns ≡ false → with_record x s ns t ≡ t
unfolding with_record
nowhere x s [] t e = refl
nowhere x s (n ∷ ns) t e =
    let o = other_name x n ns e in
    rw (o.0, nowhere x s ns (drop record_size t) o.1) (take-append-drop record_size t)

-- ---- one that is

at_one : (x : Name) (s : Surface) (ns : List Name) (t : List ℕ) (k : ℕ) → Different ns → k < length ns → get_or ns k [] ≡ x
    → with_record x s ns t ≡ take (k * record_size) t ++ (surface_words s ++ drop (k * record_size + record_size) t)
unfolding with_record
at_one x s [] t k d l e = absurd (omega arith)
at_one x s (n ∷ ns) t zero (and_name new d) l e =
    rw (e, same_refl x, nowhere x s ns (drop record_size t) (rw e at new))
at_one x s (n ∷ ns) t (suc k) (and_name new d) l e =
    let more = at_one x s ns (drop record_size t) k d (omega arith) e in
    let there = is_amongst x ns k (omega arith) e in
    let a : suc k * record_size ≡ record_size + k * record_size = omega arith in
    rw (apart (same n x) refl there, more, a, take-add record_size (k * record_size) t, drop-drop (k * record_size + record_size) record_size t)
    (by (take record_size t) (take (k * record_size) (drop record_size t)))
  where
    apart : (b : Bool) → same n x ≡ b → amongst x ns ≡ true → b ≡ false
    apart true q there = absurd (true≢false (sym there ∙ rw (same_eq n x q) at new))
    apart false q there = refl

    by : (a b : List ℕ) → a ++ (b ++ (surface_words s ++ drop (record_size + (k * record_size + record_size)) t)) ≡ (a ++ b) ++ (surface_words s ++ drop (record_size + k * record_size + record_size) t)
    by a b =
        let e : record_size + (k * record_size + record_size) ≡ record_size + k * record_size + record_size = omega arith in
        rw e (sym (append_assoc a b (surface_words s ++ drop (record_size + k * record_size + record_size) t)))

-- ---- by what the index told

module _ (x : Name) (i : NameIndex) (s : Surface) (t : List ℕ) where
  pub put_nowhere : Found x i.bytes.now i.base (words_in i) None → t ≡ with_record x s (names_in i) t
  put_nowhere none = sym (nowhere x s (names_in i) t none)

  module _ (k : ℕ) (f : Found x i.bytes.now i.base (words_in i) (Some k)) where
    pub inside : k < length (names_in i)
    inside = let m = length-map (words_in i) (name_of i.bytes.now i.base) in omega (arith, m, f.0)

    pub put_at_one : Different (names_in i) → {t' : List ℕ} → Put t (k * record_size) (surface_words s) t' → t' ≡ with_record x s (names_in i) t
    put_at_one d p =
        p.put ∙ append_assoc (take (k * record_size) t) (surface_words s) (drop (k * record_size + record_size) t)
        ∙ sym (at_one x s (names_in i) t k d inside (name_at i.bytes.now i.base (words_in i) k f.0 ∙ f.1))

-- ---- a table that has an index

pub pieces_count : (lengths bytes : List ℕ) → length (pieces lengths bytes) ≡ length lengths
unfolding pieces
pieces_count [] bytes = refl
pieces_count (n ∷ ns) bytes = ap suc (pieces_count ns (drop n bytes))

module _ {lengths bytes : List ℕ} {x : NameIndex} (w : Indexed lengths bytes x) where
  pub held_different : Different (names_in x)
  held_different = rw w.are w.different

  pub indexed_room : {records : List ℕ} → ListedRoom lengths bytes records → length (names_in x) * record_size ≤ length records
  indexed_room r = omega (arith, ap length w.are, pieces_count lengths bytes, r.fits)

pub held_index : {multiplier : ℕ} {lengths bytes : List ℕ} {x : NameIndex} → AllHeld multiplier lengths bytes x → Different (pieces lengths bytes)
    → Indexed lengths bytes x
held_index h d = record { index = h.index; are = h.are; different = d }
