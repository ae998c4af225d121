-- Words that were put split in two, so that others put over the second part leave the first: a PTAG changes the latest polygons only.
use mathlib.Core.Path.{◌≡◌, refl, sym, ap, ◌∙◌}
use mathlib.Core.List.{List, ◌++◌, append_assoc}
use Prim.Native.Nat.{ℕ, ◌+◌, ◌*◌, ◌≤◌}
use native.Mathlib.Omega.{arith}
use lib.ListN.{length, take, drop, length-append, length-take}
use lib.Seq.{take_at, drop_at, drop-drop}
use Rattle.format.specs.Items.{Verdict, fine}
use Rattle.format.specs.Mesh.{polygon_size, Polygon, polygon_words}
use Rattle.format.specs.Bodies.{Part, tagging}
use Rattle.format.specs.Rules.{tagged}
use Rattle.format.specs.Promises.{Put, polygons_words}
use Rattle.format.proofs.Puts.{joined_map_append}
use Rattle.format.proofs.Tagging.{tagged_length}
use Rattle.format.proofs.PolygonTables.{words_length}
use Rattle.load_taggings.specs.Promises.{TagsPut}

-- `us` and then `ws` were put
module _ (us ws : List ℕ) {t₀ t : List ℕ} {m : ℕ} (p : Put t₀ m (us ++ ws) t) (room : m + length (us ++ ws) ≤ length t₀) where
  abbrev rest : List ℕ
  rest = drop (m + length (us ++ ws)) t₀

  size : length (take m t₀ ++ us) ≡ m + length us
  size = let r = simp length-append at room in simp (length-append, length-take) (omega (arith, r))

  split : t ≡ (take m t₀ ++ us) ++ (ws ++ rest)
  split = p.put ∙ ap (λ l. l ++ rest) (sym (append_assoc (take m t₀) us ws)) ∙ append_assoc (take m t₀ ++ us) ws rest

  front : take (m + length us) t ≡ take m t₀ ++ us
  front = ap (take (m + length us)) split ∙ take_at (take m t₀ ++ us) (ws ++ rest) (m + length us) size

  back : drop (m + length us + length ws) t ≡ rest
  back =
      let behind : drop (m + length us) t ≡ ws ++ rest = ap (drop (m + length us)) split ∙ drop_at (take m t₀ ++ us) (ws ++ rest) (m + length us) size in
      sym (drop-drop (length ws) (m + length us) t) ∙ ap (drop (length ws)) behind ∙ drop_at ws rest (length ws) refl

  -- the table holds `ws` from there on
  pub held_behind : Put t (m + length us) ws t
  held_behind = record { put = rw (front, back) (split ∙ sym (append_assoc (take m t₀ ++ us) ws rest)) }

  -- as many words in their place
  pub put_behind : {ws' t' : List ℕ} → length ws' ≡ length ws → Put t (m + length us) ws' t' → Put t₀ m (us ++ ws') t'
  put_behind {ws'} {t'} same q =
      let end : m + length (us ++ ws') ≡ m + length (us ++ ws) = simp length-append (omega (arith, same)) in
      record { put = q.put ∙ rw (front, same, back, end) (ap (λ l. l ++ rest) (append_assoc (take m t₀) us ws')) }

-- ---- the polygons of the latest POLS, behind those of earlier ones

pub tags_behind : (ps qs : List Polygon) (type : ℕ) (ts : List (ℕ × ℕ)) {v : Verdict Part} {t₀ t t' : List ℕ} {m : ℕ} → Put t₀ m (polygons_words (ps ++ qs)) t
    → m + length (polygons_words (ps ++ qs)) ≤ length t₀
    → TagsPut v (length qs) t (m + length ps * polygon_size) t' → v ≡ fine (tagging type ts) → Put t₀ m (polygons_words (ps ++ tagged qs type ts)) t'
tags_behind ps qs type ts {m = m} p room w e =
    let p' = rw (joined_map_append polygon_words ps qs) at p in
    let room' = rw (joined_map_append polygon_words ps qs) at room in
    let same : length (polygons_words (tagged qs type ts)) ≡ length (polygons_words qs)
    = words_length (tagged qs type ts) ∙ ap (λ n. n * polygon_size) (tagged_length type ts qs) ∙ sym (words_length qs) in
    let w' = rw (← words_length ps) at w in
    rw (joined_map_append polygon_words ps (tagged qs type ts)) (put_behind (polygons_words ps) (polygons_words qs) p' room' same
    (w'.put qs type ts refl e (held_behind (polygons_words ps) (polygons_words qs) p' room')))
