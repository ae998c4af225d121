-- How long items, entries and chunks are.
use Rattle.std.specs.Prelude.{if◌then◌else◌}
use Prim.Native.Nat.{ℕ, suc, ◌+◌, ◌*◌, ◌/◌, ◌%◌}
use Prim.Native.String.{String}
use mathlib.Core.Path.{◌≡◌, refl, ap, ◌∙◌}
use mathlib.Core.List.{List, [], ◌∷◌, ◌++◌, map, append-nil}
use mathlib.Core.Bool.{Bool, true, false}
use native.Mathlib.Omega.{arith}
use lib.Dec.{eqb}
use lib.ListN.{length, take, drop, replicate, length-append, length-replicate, length-drop, take-append-drop}
use lib.Seq.{length-take-le}
use borrow.Author.Tests.{ne_eqb}
use Rattle.format.specs.Bytes.{spelt, sum, joined}
use Rattle.format.specs.Items.{string_size}
use Rattle.format.specs.Chunks.{size_of}
use Rattle.format.specs.Mesh.{Surface, Name, word, polygon_size}
use Rattle.format.specs.Canonical.{bytes, vx_bytes, string_bytes, chunk_bytes, polygon_bytes, pair_bytes, level_bytes, surface_bytes, unless_empty, surface_chunks, encoded}
use Rattle.format.specs.Written.{pieces, entries, polygons_from, vertex_counts}
use Rattle.format.specs.Promises.{total}
use Rattle.format.proofs.Puts.{total_append}
use Rattle.format.proofs.CanonicalLengths.{length_bytes, length_string}
use Rattle.format.proofs.Indexed.{no_elements}
use Rattle.mesh.proofs.Pairs.{some_pairs}
use Rattle.mesh.specs.Lent.{mesh_polygons}
use Rattle.mesh.proofs.Entries.{length_entries}
use Rattle.lengths.specs.Sizes.{unless_none, surfaces_size}

-- ---- chunks

chunk_size : (tag : String) (body : List ℕ) → length (spelt tag) ≡ 4 → length (chunk_bytes 4 tag body) ≡ size_of 4 (length body)
unfolding chunk_bytes size_of
chunk_size tag body four =
    let n : ℕ = length body in
    let pad : List ℕ = replicate (n % 2) 0 in
    let padding : length pad ≡ n % 2 = length-replicate (n % 2) 0 in
    omega (arith, length-append (spelt tag) (bytes 4 n ++ (body ++ pad)), length-append (bytes 4 n) (body ++ pad), length_bytes 4 n, length-append body pad)

-- one chunk alone
one_chunk : (tag : String) (body : List ℕ) → length (spelt tag) ≡ 4 → total encoded ((tag, body) ∷ []) ≡ size_of 4 (length body)
unfolding joined
one_chunk tag body four = ap length (append-nil (chunk_bytes 4 tag body)) ∙ chunk_size tag body four

pub unless_size : {A : Type 0} (tag type : String) (f : A → List ℕ) (xs : List A) → length (spelt tag) ≡ 4
    → total encoded (unless_empty tag type f xs) ≡ unless_none (length xs) (length (spelt type) + total f xs)
unfolding unless_empty unless_none joined
unless_size tag type f [] four = refl
unless_size tag type f (x ∷ xs) four =
    rw (ne_eqb (suc (length xs)) 0 (λ e. omega arith)) (one_chunk tag _ four ∙ ap (size_of 4) (length-append (spelt type) (joined (map f (x ∷ xs)))))

-- ---- names

pub strings_size : (ns bytes : List ℕ) → sum ns ≡ length bytes → total string_bytes (pieces ns bytes) ≡ sum (map string_size ns)
unfolding pieces sum joined
strings_size [] bytes agree = refl
strings_size (n ∷ ns) bytes agree =
    let name : List ℕ = take n bytes in
    let long : length name ≡ n = length-take-le n bytes (omega arith) in
    length-append (string_bytes name) (joined (map string_bytes (pieces ns (drop n bytes))))
    ∙ rw (length_string name, long, strings_size ns (drop n bytes) (omega (arith, length-drop n bytes)))

-- ---- surfaces

pub surface_size : (n : Name) (s : Surface) → length (surface_bytes n s) ≡ string_size (length n) + 90
unfolding surface_bytes level_bytes chunk_bytes vx_bytes bytes joined string_bytes
surface_size n s = length-append (string_bytes n) _ ∙ ap (λ (k : ℕ). k + 90) (length_string n)

pub surfaces_size_lem : (ns : List Name) (ss : List Surface) → total encoded (surface_chunks ns ss) ≡ surfaces_size (map length ns) (map (λ s. s.defined) ss)
unfolding surface_chunks surfaces_size joined
surfaces_size_lem [] ss = refl
surfaces_size_lem (n ∷ ns) [] = refl
surfaces_size_lem (n ∷ ns) (s ∷ ss) =
    total_append encoded (if eqb s.defined 1 then ("SURF", surface_bytes n s) ∷ [] else []) (surface_chunks ns ss)
    ∙ rw (surfaces_size_lem ns ss) (ap (λ (k : ℕ). k + surfaces_size (map length ns) (map (λ s. s.defined) ss)) (go (eqb s.defined 1)))
  where
    go : (b : Bool) → total encoded (if b then ("SURF", surface_bytes n s) ∷ [] else []) ≡ (if b then size_of 4 (string_size (length n) + 90) else 0)
    go true = one_chunk "SURF" (surface_bytes n s) refl ∙ ap (size_of 4) (surface_size n s)
    go false = refl

-- ---- polygons

polygons_size : (es : List (List ℕ)) (vs : List ℕ) → sum (map (word 1) es) ≡ length vs
    → total polygon_bytes (polygons_from es (pieces (map (word 1) es) vs)) ≡ 2 * length es + total vx_bytes vs
unfolding polygons_from polygon_bytes pieces sum joined
polygons_size [] vs agree = rw (no_elements vs agree)
polygons_size (e ∷ es) vs agree =
    let n : ℕ = word 1 e in
    let here : List ℕ = take n vs in
    let rest = polygons_from es (pieces (map (word 1) es) (drop n vs)) in
    let count : List ℕ = bytes 2 (length here) in
    let corners : List ℕ = joined (map vx_bytes here) in
    let both : total vx_bytes (here ++ drop n vs) ≡ total vx_bytes here + total vx_bytes (drop n vs) = total_append vx_bytes here (drop n vs) in
    let all_of : total vx_bytes vs ≡ total vx_bytes here + total vx_bytes (drop n vs) = rw (take-append-drop n vs) at both in
    omega (arith, length-append (count ++ corners) (joined (map polygon_bytes rest)), length-append count corners, length_bytes 2 (length here), polygons_size es (drop n vs) (omega (arith, length-drop n vs)))

pub polygons_held : (ws vs : List ℕ) → sum (vertex_counts ws) ≡ length vs
    → total polygon_bytes (mesh_polygons ws vs) ≡ 2 * (length ws / polygon_size) + total vx_bytes vs
unfolding mesh_polygons
polygons_held ws vs agree = rw (← length_entries polygon_size ws) (polygons_size (entries polygon_size ws) vs agree)

pub by_bytes : (ts : List (ℕ × ℕ)) (n : ℕ) → unless_none (length ts) n ≡ unless_none (total pair_bytes ts) n
unfolding unless_none joined
by_bytes [] n = refl
by_bytes (t ∷ ts) n = rw (ne_eqb (suc (length ts)) 0 (λ e. omega arith), ne_eqb (total pair_bytes (t ∷ ts)) 0 (some_pairs t ts))
