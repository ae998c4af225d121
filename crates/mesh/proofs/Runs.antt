-- The first run of what is left, by the places where it begins and ends: its words and vertices are in front, and the other runs are of what stands after.
use Rattle.std.specs.Prelude.{if◌then◌else◌}
use Prim.Native.Nat.{ℕ, zero, suc, ◌+◌, ◌-◌, ◌*◌, ◌/◌, ◌≤◌}
use mathlib.Core.Path.{subst, ◌≡◌, refl, sym, ap, ◌∙◌}
use mathlib.Core.List.{List, [], ◌∷◌, ◌++◌, map, map-append}
use mathlib.Core.Bool.{Bool, true, false}
use native.Mathlib.Omega.{arith}
use lib.Dec.{eqb}
use lib.ListN.{length, take, drop, length-append, length-drop, length-map}
use lib.Seq.{drop_at, take_at, take_all, take-take, drop-drop, length-take-le}
use borrow.Author.Tests.{eqb-true, eq-eqb, ne_eqb}
use Rattle.format.specs.Bytes.{sum}
use Rattle.format.specs.Mesh.{Polygon, word, polygon_size, polygon_from}
use Rattle.format.specs.Canonical.{ahead, runs}
use Rattle.format.specs.Written.{pieces, entries, polygons_from, vertex_counts}
use Rattle.format.proofs.Facts.{sum_append}
use Rattle.format.proofs.Indexed.{part_of_front}
use Rattle.mesh.specs.Lent.{entry_at, column, mesh_polygons}
use Rattle.mesh.proofs.Entries.{first, entries_none, length_entries, polygons_at}
use Rattle.mesh.proofs.ColumnWalk.{entries_next, NextEntry, NoEntry}
use Rattle.std.specs.declared.slice.ChunksExact.{ChunksExact}
use Rattle.std.specs.Slice.Iter.{chunks_exact_rest, chunks_exact_size}
use Rattle.mesh.specs.Polygons.{leading, run_end}

abbrev kind_of : Polygon → ℕ
kind_of p = p.kind

-- as many polygons of the first one's kind as follow it
pub runs_first : (p : Polygon) (ps : List Polygon)
    → runs (p ∷ ps) ≡ (p ∷ take (leading p.kind (map kind_of ps)) ps) ∷ runs (drop (leading p.kind (map kind_of ps)) ps)
unfolding runs ahead leading
runs_first p [] = refl
runs_first p (q ∷ qs) = rw (runs_first q qs) (go (eqb p.kind q.kind) refl (sym (runs_first q qs)))
  where
    m : ℕ
    m = leading q.kind (map kind_of qs)

    go : (b : Bool) → eqb p.kind q.kind ≡ b
        → (q ∷ take m qs) ∷ runs (drop m qs) ≡ runs (q ∷ qs)
        → (if b then (p ∷ q ∷ take m qs) ∷ runs (drop m qs) else (p ∷ []) ∷ (q ∷ take m qs) ∷ runs (drop m qs))
        ≡ (p ∷ take (if b then suc (leading p.kind (map kind_of qs)) else 0) (q ∷ qs)) ∷ runs (drop (if b then suc (leading p.kind (map kind_of qs)) else 0) (q ∷ qs))
    go true e later = let same : p.kind ≡ q.kind = eqb-true p.kind q.kind e in
        let Of : ℕ → Type 0 = λ k. ((p ∷ q ∷ take m qs) ∷ runs (drop m qs)) ≡ ((p ∷ q ∷ take (leading k (map kind_of qs)) qs) ∷ runs (drop (leading k (map kind_of qs)) qs)) in
        subst Of (sym same) refl
    go false e later = ap (λ (l : List (List Polygon)). (p ∷ []) ∷ l) later

-- ---- what the entries say of the polygons

fields : (f : Polygon → ℕ) (index : ℕ) → ((w vs : List ℕ) → f (polygon_from w vs) ≡ word index w) → (es : List (List ℕ)) (vs : List ℕ)
    → map f (polygons_from es (pieces (map (word 1) es) vs)) ≡ map (word index) es
unfolding polygons_from pieces
fields f index is [] vs = refl
fields f index is (e ∷ es) vs = rw (is e (take (word 1 e) vs), fields f index is es (drop (word 1 e) vs))

pub kinds : (ws vs : List ℕ) → map kind_of (mesh_polygons ws vs) ≡ column polygon_size 0 ws
unfolding mesh_polygons
kinds ws vs = fields kind_of 0 (λ w vs. refl) (entries polygon_size ws) vs

pub surfaces : (ws vs : List ℕ) → map (λ p. p.surface) (mesh_polygons ws vs) ≡ column polygon_size 2 ws
unfolding mesh_polygons
surfaces ws vs = fields (λ p. p.surface) 2 (λ w vs. refl) (entries polygon_size ws) vs

pub part_names : (ws vs : List ℕ) → map (λ p. p.part_name) (mesh_polygons ws vs) ≡ column polygon_size 3 ws
unfolding mesh_polygons
part_names ws vs = fields (λ p. p.part_name) 3 (λ w vs. refl) (entries polygon_size ws) vs

pub length_polygons : (ws vs : List ℕ) → length (mesh_polygons ws vs) ≡ length ws / polygon_size
length_polygons ws vs = sym (length-map (mesh_polygons ws vs) kind_of) ∙ ap length (kinds ws vs) ∙ length-map (entries polygon_size ws) (word 0) ∙ length_entries polygon_size ws

-- ---- the entries of j polygons in front and of the rest

entries_split : (j : ℕ) (ws : List ℕ) → j * polygon_size ≤ length ws
    → entries polygon_size ws ≡ entries polygon_size (take (j * polygon_size) ws) ++ entries polygon_size (drop (j * polygon_size) ws)
entries_split zero ws fits = rw (entries_none polygon_size [] (omega arith))
entries_split (suc j) ws fits =
    let k : ℕ = j * polygon_size in
    let k_is : suc j * polygon_size ≡ polygon_size + k = omega arith in
    let long : length (take (polygon_size + k) ws) ≡ polygon_size + k = length-take-le (polygon_size + k) ws (omega arith) in
    let one = first polygon_size ws (omega arith) (omega arith) in
    let in_front_lem = first polygon_size (take (polygon_size + k) ws) (omega arith) (omega (arith, long)) in
    rw (k_is, one, in_front_lem, take-take polygon_size (polygon_size + k) ws (omega arith), part_of_front polygon_size k ws (omega arith), ← drop-drop k polygon_size ws)
    (ap (λ (l : List (List ℕ)). take polygon_size ws ∷ l) (entries_split j (drop polygon_size ws) (omega (arith, length-drop polygon_size ws))))

counts_split : (j : ℕ) (ws : List ℕ) → j * polygon_size ≤ length ws
    → sum (vertex_counts ws) ≡ sum (vertex_counts (take (j * polygon_size) ws)) + sum (vertex_counts (drop (j * polygon_size) ws))
counts_split j ws fits =
    let es = entries polygon_size (take (j * polygon_size) ws) in
    let fs = entries polygon_size (drop (j * polygon_size) ws) in
    ap (λ (l : List (List ℕ)). sum (map (word 1) l)) (entries_split j ws fits) ∙ ap sum (map-append (word 1) es fs) ∙ sum_append (map (word 1) es) (map (word 1) fs)

abbrev made : List (List ℕ) → (vertices : List ℕ) → List Polygon
made es vs = polygons_from es (pieces (map (word 1) es) vs)

made_append : (es fs : List (List ℕ)) (vs : List ℕ) → sum (map (word 1) es) ≤ length vs
    → made (es ++ fs) vs ≡ made es (take (sum (map (word 1) es)) vs) ++ made fs (drop (sum (map (word 1) es)) vs)
unfolding polygons_from pieces sum
made_append [] fs vs fits = refl
made_append (e ∷ es) fs vs fits =
    let c : ℕ = word 1 e in
    let m : ℕ = sum (map (word 1) es) in
    rw (take-take c (c + m) vs (omega arith), part_of_front c m vs (omega arith), ← drop-drop m c vs)
    (ap (λ (l : List Polygon). polygon_from e (take c vs) ∷ l) (made_append es fs (drop c vs) (omega (arith, length-drop c vs))))

record Split (j : ℕ) (ws vs : List ℕ) (n : ℕ) : Type 0 where
  long : length (mesh_polygons (take (j * polygon_size) ws) (take n vs)) ≡ j
  so : mesh_polygons ws vs ≡ mesh_polygons (take (j * polygon_size) ws) (take n vs) ++ mesh_polygons (drop (j * polygon_size) ws) (drop n vs)

polygons_split : (j : ℕ) (ws vs : List ℕ) → j * polygon_size ≤ length ws → sum (vertex_counts (take (j * polygon_size) ws)) ≤ length vs
    → Split j ws vs (sum (vertex_counts (take (j * polygon_size) ws)))
unfolding mesh_polygons
polygons_split j ws vs fits room =
    let front : List ℕ = take (j * polygon_size) ws in
    let count = length-take-le (j * polygon_size) ws fits in
    record {
      long = omega (arith, length_polygons front (take (sum (vertex_counts front)) vs), count);
      so = ap (λ (l : List (List ℕ)). made l vs) (entries_split j ws fits) ∙ made_append (entries polygon_size front) (entries polygon_size (drop (j * polygon_size) ws)) vs room;
    }

-- ---- the first run of what is left, by the places where it begins and ends

first_run : (ps : List Polygon) (p : Polygon) (later : List Polygon) (m : ℕ) → ps ≡ p ∷ later → leading p.kind (map kind_of later) ≡ m
    → runs ps ≡ take (suc m) ps ∷ runs (drop (suc m) ps)
first_run ps p later m are same = rw (are, ← same) (runs_first p later)

module _ (ws vs : List ℕ) (at first end : ℕ) (fits : polygon_size ≤ length ws - at)
    (end_is : end ≡ run_end ws at) (inside : end ≤ length ws) where
  abbrev after : ℕ
  after = leading (word 0 (entry_at polygon_size at ws)) (column polygon_size 0 (drop (at + polygon_size) ws))

  words : suc after * polygon_size ≡ end - at
  words = omega arith

  there : suc after * polygon_size ≤ length (drop at ws)
  there = omega (arith, words, length-drop at ws)

  -- the vertices of the run and those after it
  pub counts_at : sum (vertex_counts (drop at ws)) ≡ sum (vertex_counts (take (end - at) (drop at ws))) + sum (vertex_counts (drop end ws))
  counts_at =
      let rest : at + (end - at) ≡ end = omega arith in
      rw (words, drop-drop (end - at) at ws, rest) at (counts_split (suc after) (drop at ws) there)

  pub runs_at : first + sum (vertex_counts (take (end - at) (drop at ws))) ≤ length vs
      → runs (mesh_polygons (drop at ws) (drop first vs))
      ≡ mesh_polygons (take (end - at) (drop at ws)) (take (sum (vertex_counts (take (end - at) (drop at ws)))) (drop first vs))
      ∷ runs (mesh_polygons (drop end ws) (drop (first + sum (vertex_counts (take (end - at) (drop at ws)))) vs))
  runs_at room =
      let n : ℕ = sum (vertex_counts (take (end - at) (drop at ws))) in
      let rest : at + (end - at) ≡ end = omega arith in
      let ps : List Polygon = mesh_polygons (drop at ws) (drop first vs) in
      let run : List Polygon = mesh_polygons (take (end - at) (drop at ws)) (take n (drop first vs)) in
      let others : List Polygon = mesh_polygons (drop end ws) (drop (first + n) vs) in
      let s : Split (suc after) (drop at ws) (drop first vs) n = rw words at (polygons_split (suc after) (drop at ws) (drop first vs) there (rw words (omega (arith, length-drop first vs)))) in
      let long : length run ≡ suc after = rw words at s.long in
      let are : ps ≡ run ++ others = rw (words, drop-drop (end - at) at ws, rest, drop-drop n first vs) at s.so in
      let one = first_run ps _ _ after (polygons_at at first ws vs fits) (ap (leading (word 0 (entry_at polygon_size at ws))) (kinds (drop (at + polygon_size) ws) _)) in
      one ∙ rw (are, take_at run others (suc after) long, drop_at run others (suc after) long)

-- ---- where a run ends: the end so far, and the words of the polygons after it that have the run's kind

-- a slice from a place to the end
pub from_place : (at : ℕ) (ws : List ℕ) → take (length ws - at) (drop at ws) ≡ drop at ws
from_place at ws = take_all (length ws - at) (drop at ws) (omega (arith, length-drop at ws))

pub record RunSoFar (ws : List ℕ) (at kind end : ℕ) (s : ChunksExact ℕ) : Type 0 where
  pub kind_is : kind ≡ word 0 (entry_at polygon_size at ws)
  pub size_is : chunks_exact_size s ≡ polygon_size
  pub so : run_end ws at ≡ end + leading kind (column polygon_size 0 (chunks_exact_rest s)) * polygon_size
  pub inside : end + length (chunks_exact_rest s) ≡ length ws

pub run_begin : {ws : List ℕ} {at kind : ℕ} {s : ChunksExact ℕ} → kind ≡ word 0 (entry_at polygon_size at ws) → at + polygon_size ≤ length ws
    → chunks_exact_rest s ≡ drop (at + polygon_size) ws → chunks_exact_size s ≡ polygon_size → RunSoFar ws at kind (at + polygon_size) s
run_begin {ws} {at} is inside rest size = record { kind_is = is; size_is = size; so = rw (is, rest); inside = rw rest (omega (arith, length-drop (at + polygon_size) ws)) }

module _ {ws : List ℕ} {at kind end : ℕ} {s : ChunksExact ℕ} (w : RunSoFar ws at kind end s) (t : ChunksExact ℕ) where
  pub run_past : NoEntry s t → (end ≡ run_end ws at) × (end ≤ length ws)
  unfolding leading
  run_past none = (omega (arith, rw (entries_none polygon_size (chunks_exact_rest s) (omega (arith, none.1.0, w.size_is))) at w.so), omega (arith, w.inside))

  module _ (x : List ℕ) (step : NextEntry s t x) {next : ℕ} (is : next ≡ word 0 (entry_at polygon_size 0 x)) where
    long : length x ≡ polygon_size
    long = rw (← w.size_is) step.1.1

    kinds_left : column polygon_size 0 (chunks_exact_rest s) ≡ next ∷ column polygon_size 0 (chunks_exact_rest t)
    kinds_left = rw (step.1.0, is, take_all polygon_size x (omega (arith, long)), entries_next polygon_size x (chunks_exact_rest t) (omega arith) long)

    count : end + polygon_size + length (chunks_exact_rest t) ≡ length ws
    count = omega (arith, ap length step.1.0, length-append x (chunks_exact_rest t), long, w.inside)

    pub run_turn : kind ≡ next → RunSoFar ws at kind (end + polygon_size) t
    unfolding leading
    run_turn same = record {
      kind_is = w.kind_is;
      size_is = rw (← w.size_is) step.0;
      so = omega (arith, rw (kinds_left, eq-eqb kind next same) at w.so);
      inside = count;
    }

    pub run_other : (kind ≡ next → ⊥) → (end ≡ run_end ws at) × (end ≤ length ws)
    unfolding leading
    run_other other = (omega (arith, rw (kinds_left, ne_eqb kind next other) at w.so), omega (arith, w.inside))
