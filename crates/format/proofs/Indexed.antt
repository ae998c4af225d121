-- A list that is walked by an index, and pieces whose lengths are walked so.
use Prim.Native.Nat.{ℕ, zero, suc, ◌+◌, ◌-◌, ◌<◌, ◌≤◌}
use mathlib.Core.Path.{◌≡◌, refl, sym, ap, ◌∙◌}
use mathlib.Core.List.{List, [], ◌∷◌, ◌++◌, map, append_assoc, append-nil}
use native.Mathlib.Numerals.{add-one}
use native.Mathlib.Omega.{arith}
use lib.ListN.{length, get_or, take, drop, drop_of_length-le, length-drop}
use lib.Seq.{take_at, take-add, drop_at, drop-cons, drop-drop, length-take-le}
use Rattle.format.specs.Bytes.{joined, sum}
use Rattle.format.specs.Written.{pieces}

pub at_index : (xs : List ℕ) (i : ℕ) → i < length xs → drop i xs ≡ get_or xs i 0 ∷ drop (i + 1) xs
at_index xs i inside = rw add-one (drop-cons xs i 0 inside)

pub past_end : (xs : List ℕ) (i : ℕ) → length xs ≤ i → drop i xs ≡ []
past_end xs i outside = drop_of_length-le xs {i = i} outside

-- a slice from a place to n further on
pub part : {A : Type 0} (at n : ℕ) (xs : List A) → take (at + n - at) (drop at xs) ≡ take n (drop at xs)
part at n xs = let e : at + n - at ≡ n = omega arith in rw e

pub sum_index : (i : ℕ) (ns : List ℕ) → i < length ns → sum (drop i ns) ≡ get_or ns i 0 + sum (drop (i + 1) ns)
unfolding sum
sum_index i ns inside = rw (at_index ns i inside)

-- the same, as what is left of a prefix
pub part_of_front : {A : Type 0} (at n : ℕ) (xs : List A) → at ≤ length xs → drop at (take (at + n) xs) ≡ take n (drop at xs)
part_of_front at n xs fits = rw (take-add at n xs) (drop_at (take at xs) (take n (drop at xs)) at (length-take-le at xs fits))

-- the four elements at a place
pub four_at : (s : List ℕ) (at : ℕ) → at + 4 ≤ length s → take 4 (drop at s) ≡ get_or s at 0 ∷ get_or s (at + 1) 0 ∷ get_or s (at + 2) 0 ∷ get_or s (at + 3) 0 ∷ []
four_at s at h =
    let e : at + 1 ≡ suc at = omega arith in
    let f : at + 2 ≡ suc (suc at) = omega arith in
    let g : at + 3 ≡ suc (suc (suc at)) = omega arith in
    rw (e, f, g, drop-cons s at 0 (omega arith), drop-cons s (suc at) 0 (omega arith), drop-cons s (suc (suc at)) 0 (omega arith), drop-cons s (suc (suc (suc at))) 0 (omega arith))

-- a list without elements
pub no_elements : {A : Type 0} (xs : List A) → 0 ≡ length xs → xs ≡ []
no_elements [] e = refl
no_elements (x ∷ xs) e = absurd (omega arith)

-- n elements of a list, one by one from the k-th on
unfoldable pub elements : (k n : ℕ) → List ℕ → List ℕ
elements k zero xs = []
elements k (suc n) xs = get_or xs k 0 ∷ elements (suc k) n xs

pub elements_are : (k n : ℕ) (xs : List ℕ) → k + n ≤ length xs → elements k n xs ≡ take n (drop k xs)
unfolding elements
elements_are k zero xs fits = refl
elements_are k (suc n) xs fits = rw (elements_are (suc k) n xs (omega arith), drop-cons xs k 0 (omega arith))

-- ---- pieces

-- pieces are as long as they were told to be
pub pieces_lengths : {A : Type 0} (ns : List ℕ) (xs : List A) → sum ns ≡ length xs → map length (pieces ns xs) ≡ ns
unfolding pieces sum
pieces_lengths [] xs agree = refl
pieces_lengths (n ∷ ns) xs agree = rw (length-take-le n xs (omega arith), pieces_lengths ns (drop n xs) (omega (arith, length-drop n xs)))

pub pieces_at : {A : Type 0} (i at : ℕ) (ns : List ℕ) (xs : List A) → i < length ns
    → pieces (drop i ns) (drop at xs) ≡ take (get_or ns i 0) (drop at xs) ∷ pieces (drop (i + 1) ns) (drop (at + get_or ns i 0) xs)
unfolding pieces
pieces_at i at ns xs inside = rw (at_index ns i inside, drop-drop (get_or ns i 0) at xs)

-- lists that were joined are cut out again by their lengths, whatever stands after them
pub pieces_back : {A : Type 0} (xss : List (List A)) (more : List A) → pieces (map length xss) (joined xss ++ more) ≡ xss
unfolding pieces joined
pieces_back [] more = refl
pieces_back (xs ∷ xss) more = rw (append_assoc xs (joined xss) more, take_at xs (joined xss ++ more) (length xs) refl, drop_at xs (joined xss ++ more) (length xs) refl, pieces_back xss more)

pub pieces_joined : {A : Type 0} (xss : List (List A)) → pieces (map length xss) (joined xss) ≡ xss
pieces_joined xss = ap (pieces (map length xss)) (sym (append-nil (joined xss))) ∙ pieces_back xss []
