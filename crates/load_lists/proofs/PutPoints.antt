-- Each turn puts the three words of one point, and the body holds whole points, so that no word is left over.
use mathlib.Core.Path.{◌≡◌, refl, ◌∙◌}
use mathlib.Core.List.{List, [], ◌∷◌, ◌++◌}
use Prim.Native.Nat.{ℕ, suc, ◌+◌, ◌-◌, ◌*◌, ◌/◌, ◌≤◌, ◌<◌}
use native.Mathlib.Omega.{arith}
use lib.ListN.{length, take, drop, set, length-drop, length-set}
use lib.Seq.{drop-drop}
use Rattle.format.specs.Bytes.{number}
use Rattle.format.specs.Mesh.{point_words, point_size}
use Rattle.format.specs.Promises.{Put}
use Rattle.format.proofs.Facts.{length_each}
use Rattle.format.proofs.Puts.{put_none, put_snoc}
use Rattle.load_lists.specs.Promises.{PointsPut}
use Rattle.load_lists.proofs.PointWords.{words, length_words, one_more, bodied, points_length}

pub record WordsStored (s table₀ : List ℕ) (m n i : ℕ) (table : List ℕ) : Type 0 where
  pub few : i ≤ n
  pub count : n ≡ (length s - 8) / 4
  pub room : m + n ≤ length table₀
  pub kept : length table ≡ length table₀
  pub put : Put table₀ m (words i (drop 8 s)) table

words_begin : (s table : List ℕ) (m n : ℕ) → n ≡ (length s - 8) / 4 → m + (length s - 8) / 4 ≤ length table → WordsStored s table m n 0 table
unfolding words
words_begin s table m n e room = record { few = omega arith; count = e; room = omega arith; kept = refl; put = put_none table m }

module _ {s table₀ : List ℕ} {m n i : ℕ} {table : List ℕ} (f : WordsStored s table₀ m n i table) where
  word_turn : (v : ℕ) → i < n → v ≡ number (take 4 (drop (8 + i * 4) s)) → WordsStored s table₀ m n (i + 1) (set table (m + i) v)
  word_turn v some e =
      let long : length (words i (drop 8 s)) ≡ i = length_words i (drop 8 s) in
      let next : i + 1 ≡ suc i = omega arith in
      let there : drop (i * 4) (drop 8 s) ≡ drop (8 + i * 4) s = drop-drop (i * 4) 8 s in
      let more : words i (drop 8 s) ++ (v ∷ []) ≡ words (suc i) (drop 8 s) = rw (e, ← there) (one_more i (drop 8 s)) in
      record {
        few = omega arith;
        count = f.count;
        room = f.room;
        kept = length-set table (m + i) v ∙ f.kept;
        put = rw (next, ← more) (rw long at (put_snoc f.put v (omega (arith, f.room, long))));
      }

  words_end : n ≤ i → PointsPut s table₀ m table
  words_end done = record {
    put = λ kind ps e.
        let b = bodied kind (drop 8 s) ps e in
        let same : length (drop 8 s) / 4 ≡ i = omega (arith, length-drop 8 s, f.few, f.count) in
        rw (b.are, same) f.put;
  }

-- ---- three words at a time

-- the words of the first i points are put
abbrev pub PointsStored : (s table₀ : List ℕ) (m i : ℕ) (table : List ℕ) → Type 0
PointsStored s table₀ m i table = WordsStored s table₀ m ((length s - 8) / 4) (i * point_size) table

pub points_begin : (s table : List ℕ) (m : ℕ) → m + (length s - 8) / 4 ≤ length table → PointsStored s table m 0 table
points_begin s table m room = words_begin s table m _ refl room

module _ {s table₀ : List ℕ} {m i : ℕ} {table : List ℕ} (f : PointsStored s table₀ m i table) where
  module _ (some : i < (length s - 8) / 12) where
    -- there is room for each word
    pub x_fits : m + i * point_size < length table
    x_fits = omega (arith, f.kept, f.room, some)

    pub y_fits : (x : ℕ) → m + i * point_size + 1 < length (set table (m + i * point_size) x)
    y_fits x = rw (length-set table (m + i * point_size) x) (omega (arith, f.kept, f.room, some))

    pub z_fits : (x y : ℕ) → m + i * point_size + 2 < length (set (set table (m + i * point_size) x) (m + i * point_size + 1) y)
    z_fits x y = rw (length-set (set table (m + i * point_size) x) (m + i * point_size + 1) y, length-set table (m + i * point_size) x) (omega (arith, f.kept, f.room, some))

    pub point_turn : (x y z : ℕ) → x ≡ number (take 4 (drop (8 + i * 12) s)) → y ≡ number (take 4 (drop (8 + i * 12 + 4) s))
        → z ≡ number (take 4 (drop (8 + i * 12 + 8) s))
        → PointsStored s table₀ m (i + 1) (set (set (set table (m + i * point_size) x) (m + i * point_size + 1) y) (m + i * point_size + 2) z)
    point_turn x y z ex ey ez =
        let x_at : 8 + i * 12 ≡ 8 + i * point_size * 4 = omega arith in
        let y_at : 8 + i * 12 + 4 ≡ 8 + (i * point_size + 1) * 4 = omega arith in
        let z_at : 8 + i * 12 + 8 ≡ 8 + (i * point_size + 1 + 1) * 4 = omega arith in
        let one : m + (i * point_size + 1) ≡ m + i * point_size + 1 = omega arith in
        let two : m + (i * point_size + 1 + 1) ≡ m + i * point_size + 2 = omega arith in
        let three : i * point_size + 1 + 1 + 1 ≡ (i + 1) * point_size = omega arith in
        let fx = word_turn f x (omega (arith, some)) (rw (← x_at) ex) in
        let fy = word_turn fx y (omega (arith, some)) (rw (← y_at) ey) in
        let fz = word_turn fy z (omega (arith, some)) (rw (← z_at) ez) in
        rw (three, one, two) at fz

  pub points_end : (length s - 8) / 12 ≤ i → PointsPut s table₀ m table
  points_end done = record {
    put = λ kind ps e.
        let b = points_length kind (drop 8 s) ps e in
        let whole : (length s - 8) / 4 ≡ length ps * point_size = omega (arith, b, length_each point_size point_words (λ p. refl) ps, length-drop 8 s) in
        (words_end f (omega (arith, whole, done))).put kind ps e;
  }
