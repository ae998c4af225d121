-- A table walked entry by entry, with one word of each: what is left is the word of the next entry, and those of the entries after it.
use Prim.Native.Nat.{ℕ, ◌+◌, ◌-◌, ◌<◌, ◌≤◌}
use mathlib.Core.Path.{◌≡◌, sym, ap}
use mathlib.Core.List.{List, [], ◌∷◌, ◌++◌}
use native.Mathlib.Omega.{arith}
use lib.ListN.{length, get_or, drop, length-append}
use lib.Seq.{take_at, drop_at, drop-drop}
use Rattle.std.specs.declared.slice.ChunksExact.{ChunksExact}
use Rattle.std.specs.Slice.Iter.{chunks_exact_rest, chunks_exact_size, chunks_exact_remainder}
use Rattle.format.specs.Mesh.{word}
use Rattle.format.specs.Written.{entries}
use Rattle.mesh.specs.Lent.{entry_at, column}
use Rattle.mesh.proofs.Entries.{first, entries_none, word_is}

-- the entry in front
pub entries_next : (n : ℕ) (x more : List ℕ) → 0 < n → length x ≡ n → entries n (x ++ more) ≡ x ∷ entries n more
entries_next n x more some long = rw (take_at x more n long, drop_at x more n long) at (first n (x ++ more) some (omega (arith, length-append x more)))

-- how many words the entries before this one take
abbrev pub passed : List ℕ → ChunksExact ℕ → ℕ
passed ws s = length ws - length (chunks_exact_rest s)

-- `Left` is what the walker's fold has of the words that are left
pub record ColumnWalk (ws : List ℕ) (n index : ℕ) (Left : List ℕ → Type 0) (s : ChunksExact ℕ) : Type 0 where
  pub size_is : chunks_exact_size s ≡ n
  pub inside : length (chunks_exact_rest s) ≤ length ws
  pub stands : chunks_exact_rest s ≡ drop (passed ws s) ws
  pub left : Left (column n index (chunks_exact_rest s))

pub begin : {ws : List ℕ} {n index : ℕ} {Left : List ℕ → Type 0} {s : ChunksExact ℕ} → chunks_exact_rest s ≡ ws → chunks_exact_size s ≡ n
    → Left (column n index ws) → ColumnWalk ws n index Left s
begin {ws} rest size left = let none : length ws - length ws ≡ 0 = omega arith in record { size_is = size; inside = rw rest (omega arith); stands = rw (rest, none); left = rw rest left }

-- what the loop's call of `next` tells where it gives an entry, and where it gives none
abbrev pub NextEntry : (s t : ChunksExact ℕ) → List ℕ → Type 0
NextEntry s t x = (chunks_exact_size t ≡ chunks_exact_size s) × ((chunks_exact_rest s ≡ x ++ chunks_exact_rest t) × (length x ≡ chunks_exact_size s)) × (chunks_exact_remainder t ≡ chunks_exact_remainder s)

abbrev pub NoEntry : (s t : ChunksExact ℕ) → Type 0
NoEntry s t = (chunks_exact_size t ≡ chunks_exact_size s) × ((length (chunks_exact_rest s) < chunks_exact_size s) × (t ≡ s)) × (chunks_exact_remainder t ≡ chunks_exact_remainder s)

module _ {ws : List ℕ} {n index : ℕ} {Left : List ℕ → Type 0} {s : ChunksExact ℕ} (w : ColumnWalk ws n index Left s) (t : ChunksExact ℕ) where
  pub end : NoEntry s t → Left []
  end none = rw (entries_none n (chunks_exact_rest s) (omega (arith, none.1.0, w.size_is))) at w.left

  module _ (x : List ℕ) (next : NextEntry s t x) where
    pub long : length x ≡ n
    long = rw (← w.size_is) next.1.1

    pub here : 0 < n → Left (word index x ∷ column n index (chunks_exact_rest t))
    here some = rw (entries_next n x (chunks_exact_rest t) some long) at (rw next.1.0 at w.left)

    count : length (chunks_exact_rest s) ≡ n + length (chunks_exact_rest t)
    count = omega (arith, ap length next.1.0, length-append x (chunks_exact_rest t), long)

    pub more : (passed ws t ≡ passed ws s + n) × (passed ws t ≤ length ws)
    more = (omega (arith, count, w.inside), omega arith)

    later : chunks_exact_rest t ≡ drop (passed ws t) ws
    later =
        let e : drop n (x ++ chunks_exact_rest t) ≡ chunks_exact_rest t = drop_at x (chunks_exact_rest t) n long in
        sym (rw (more.0, ← drop-drop n (passed ws s) ws, ← w.stands, next.1.0) e)

    -- what holds of all words of the table holds of its own
    pub word_fits : {most : ℕ} → ((i : ℕ) → get_or ws i 0 < most) → index < n → word index x < most
    word_fits fits inner =
        let own : x ≡ entry_at n (passed ws s) ws = rw (← w.stands, next.1.0) (sym (take_at x (chunks_exact_rest t) n long)) in
        rw (own, ← word_is n (passed ws s) index ws inner) (fits (passed ws s + index))

    pub turn : {Left' : List ℕ → Type 0} → Left' (column n index (chunks_exact_rest t)) → ColumnWalk ws n index Left' t
    turn left = record { size_is = rw (← w.size_is) next.0; inside = omega (arith, count, w.inside); stands = later; left = left }
