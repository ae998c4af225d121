-- A table entry by entry: what stands from a place on is the entry there and what stands after it.
use Prim.Native.Nat.{ℕ, suc, ◌+◌, ◌-◌, ◌/◌, ◌<◌, ◌≤◌}
use mathlib.Core.Path.{◌≡◌, refl, ap, ◌∙◌}
use mathlib.Core.List.{List, [], ◌∷◌, ◌++◌}
use native.Mathlib.Nat.{div-eq-sub-div, div-eq_of_lt}
use native.Mathlib.Numerals.{add-one}
use native.Mathlib.Omega.{arith}
use lib.ListN.{length, get_or, take, drop, replicate, length-drop, length-replicate}
use lib.Seq.{drop-drop, get_or-take, get_or-drop}
use Rattle.format.specs.Bytes.{sum}
use Rattle.format.specs.Mesh.{word, polygon_from, polygon_size, record_size}
use Rattle.format.specs.Written.{pieces, entries, polygons_from}
use Rattle.mesh.specs.Lent.{entry_at, mesh_polygons, mesh_surfaces}

pub first : (n : ℕ) (ws : List ℕ) → 0 < n → n ≤ length ws → entries n ws ≡ take n ws ∷ entries n (drop n ws)
unfolding entries pieces
first n ws some fits =
    let more : length ws / n ≡ suc (length (drop n ws) / n) = rw length-drop (div-eq-sub-div some fits ∙ add-one ((length ws - n) / n)) in
    rw more

pub entries_none : (n : ℕ) (ws : List ℕ) → length ws < n → entries n ws ≡ []
unfolding entries pieces
entries_none n ws short = rw (div-eq_of_lt short)

pub entries_at : (n at : ℕ) (ws : List ℕ) → 0 < n → n ≤ length ws - at → entries n (drop at ws) ≡ entry_at n at ws ∷ entries n (drop (at + n) ws)
entries_at n at ws some fits = let long = length-drop at ws in rw (first n (drop at ws) some (omega arith), drop-drop n at ws)

pub entries_past : (n at : ℕ) (ws : List ℕ) → length ws - at < n → entries n (drop at ws) ≡ []
entries_past n at ws short = let long = length-drop at ws in entries_none n (drop at ws) (omega arith)

-- ---- one more piece

pub pieces_snoc : {A : Type 0} (ns : List ℕ) (n : ℕ) (xs : List A) → pieces (ns ++ (n ∷ [])) xs ≡ pieces ns xs ++ (take n (drop (sum ns) xs) ∷ [])
unfolding pieces sum
pieces_snoc [] n xs = refl
pieces_snoc (m ∷ ns) n xs = rw (pieces_snoc ns n (drop m xs), drop-drop (sum ns) m xs)

pub sum_snoc : (ns : List ℕ) (n : ℕ) → sum (ns ++ (n ∷ [])) ≡ sum ns + n
unfolding sum
sum_snoc [] n = omega arith
sum_snoc (m ∷ ns) n = omega (arith, sum_snoc ns n)

-- ---- how many there are

pub length_pieces : {A : Type 0} (ns : List ℕ) (xs : List A) → length (pieces ns xs) ≡ length ns
unfolding pieces
length_pieces [] xs = refl
length_pieces (n ∷ ns) xs = ap suc (length_pieces ns (drop n xs))

pub length_entries : (n : ℕ) (ws : List ℕ) → length (entries n ws) ≡ length ws / n
unfolding entries
length_entries n ws = length_pieces (replicate (length ws / n) n) ws ∙ length-replicate (length ws / n) n

-- ---- one word of each

pub word_is : (n at index : ℕ) (ws : List ℕ) → index < n → get_or ws (at + index) 0 ≡ word index (entry_at n at ws)
word_is n at index ws inside = rw (get_or-take n (drop at ws) index 0 inside, get_or-drop at ws index 0)

-- ---- records

pub surfaces_past : (at : ℕ) (ws : List ℕ) → length ws - at < record_size → mesh_surfaces (drop at ws) ≡ []
unfolding mesh_surfaces
surfaces_past at ws short = rw (entries_past record_size at ws short)

-- ---- polygons, which take their vertices along

pub polygons_at : (at from : ℕ) (ws vs : List ℕ) → polygon_size ≤ length ws - at
    → mesh_polygons (drop at ws) (drop from vs)
    ≡ polygon_from (entry_at polygon_size at ws) (take (word 1 (entry_at polygon_size at ws)) (drop from vs))
    ∷ mesh_polygons (drop (at + polygon_size) ws) (drop (from + word 1 (entry_at polygon_size at ws)) vs)
unfolding mesh_polygons polygons_from pieces
polygons_at at from ws vs fits = rw (entries_at polygon_size at ws (omega arith) fits, drop-drop (word 1 (entry_at polygon_size at ws)) from vs)

pub polygons_past : (at : ℕ) (ws vs : List ℕ) → length ws - at < polygon_size → mesh_polygons (drop at ws) vs ≡ []
unfolding mesh_polygons polygons_from
polygons_past at ws vs short = rw (entries_past polygon_size at ws short)
