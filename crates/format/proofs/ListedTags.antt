-- The table of listed tags is walked once for all who go by a chunk's tag; and a tag is unlisted exactly when its chunks are skipped, since no row of the
-- table skips its chunks.
use Rattle.std.specs.Prelude.{if◌then◌else◌}
use Prim.Native.Nat.{ℕ}
use mathlib.Core.Path.{◌≡◌, refl, sym, ap, ◌∙◌}
use mathlib.Core.List.{List, [], ◌∷◌}
use mathlib.Core.Bool.{Bool, true, false, not, ◌&&◌, false≢true}
use mathlib.Core.Logic.{◌↔◌}
use borrow.Author.Tests.{not-true}
use Rattle.format.specs.declared.Kind.{Kind}
use Rattle.format.specs.declared.Kind.TheVariants.{LWOB, LWO2}
use Rattle.format.specs.Bytes.{◌is◌, number, all, sum, joined}
use Rattle.format.specs.Items.{Verdict, fine, fault, ◌and_then◌, ◌>>=◌, ◌or◌unless◌, whole, up_to, many, item, uint, string, to_zero}
use Rattle.format.specs.Chunks.{reader_of_length}
use Rattle.format.specs.Bodies.{Part, point_list, name_list, polygon_list, tagging, surface, layer, skipped_chunk, whole_points, points_body, names_after, names_body, layer_body, faces_body, patches_body, polygons_body, tagging_body, surface_strings, surface_body}
use Rattle.format.specs.Rules.{Before, start, there, count, ListedTag, listed_tags, unlisted_tag, judged_by, when◌read◌, judge}
use Rattle.format.specs.Promises.{names_tag}
use Rattle.format.proofs.Facts.{all_first, all_rest}

-- ---- by tag

-- what is to be known of the judgement of a chunk of each listed tag, and of one that is skipped
pub record ByTag {ℓ} (P : (List ℕ → Verdict Part) → Type ℓ) (kind : Kind) (b : Before) (t : ℕ) : Type ℓ where
  pub of_points : (ok : Bool) → t is "PNTS" ≡ true → P (when ok read points_body kind)
  pub of_names : names_tag kind t ≡ true → P (when not (there b.names) read names_body)
  pub of_faces : t is "POLS" ≡ true → P (when there b.points && there b.names read faces_body (count b.points) (count b.names))
  pub of_patches : t is "PCHS" ≡ true → P (when there b.points && there b.names read patches_body (count b.points) (count b.names))
  pub of_polygons : t is "POLS" ≡ true → P (when there b.points read polygons_body (count b.points))
  pub of_tagging : t is "PTAG" ≡ true → P (when there b.polygons read tagging_body (count b.polygons) (count b.names))
  pub of_surface : t is "SURF" ≡ true → P (when true read surface_body kind)
  pub of_layer : t is "LAYR" ≡ true → P (when true read layer_body)
  pub of_skipped : P (λ body. fine skipped_chunk)

module _ {ℓ} (P : (List ℕ → Verdict Part) → Type ℓ) where
  by_test : (t : Bool) {f g : List ℕ → Verdict Part} → (t ≡ true → P f) → P g → P (if t then f else g)
  by_test true w v = w refl
  by_test false w v = v

  pub judge_cases : (kind : Kind) (b : Before) (t : ℕ) → ByTag P kind b t → P (judge kind b t)
  unfolding judge
  judge_cases LWOB b t c =
      by_test (t is "PNTS") (c.of_points _)
      (by_test (t is "SRFS") c.of_names (by_test (t is "POLS") c.of_faces (by_test (t is "PCHS") c.of_patches (by_test (t is "SURF") c.of_surface c.of_skipped))))
  judge_cases LWO2 b t c =
      by_test (t is "PNTS") (c.of_points _)
      (by_test (t is "TAGS") c.of_names (by_test (t is "POLS") c.of_polygons (by_test (t is "PTAG") c.of_tagging (by_test (t is "SURF") c.of_surface (by_test (t is "LAYR") c.of_layer c.of_skipped)))))

-- ---- unlisted, so skipped

skipped_by : (ls : List ListedTag) (b : Before) (t : ℕ) (body : List ℕ) → all (λ l. not (t is l.tag)) ls ≡ true → judged_by ls b t body ≡ fine skipped_chunk
skipped_by [] b t body u = refl
skipped_by (l ∷ ls) b t body u = rw (not-true (t is l.tag) (all_first (λ l. not (t is l.tag)) l ls u)) (skipped_by ls b t body (all_rest (λ l. not (t is l.tag)) l ls u))

-- such a chunk is skipped, whatever stands before it and whatever it holds
pub skips : (kind : Kind) (b : Before) (t : ℕ) (body : List ℕ) → unlisted_tag kind t ≡ true → judge kind b t body ≡ fine skipped_chunk
unfolding judge
skips kind b t body u = skipped_by (listed_tags kind) b t body u

-- ---- skipped, so unlisted

abbrev is_skipped : Verdict Part → Bool
is_skipped (fine (point_list ps)) = false
is_skipped (fine (name_list ns)) = false
is_skipped (fine (polygon_list ps n)) = false
is_skipped (fine (tagging t ts)) = false
is_skipped (fine (surface s)) = false
is_skipped (fine layer) = false
is_skipped (fine skipped_chunk) = true
is_skipped (fault why at) = false

-- an empty first chunk of the tag is not skipped: it gives an empty list, or has a fault
abbrev keeps : ListedTag → Bool
keeps l = not (is_skipped ((when l.in_order start read l.body start) []))

each_keeps : (kind : Kind) → all keeps (listed_tags kind) ≡ true
unfolding number all sum joined when◌read◌ whole up_to many item uint string to_zero ◌and_then◌ ◌>>=◌ ◌or◌unless◌ reader_of_length whole_points points_body names_after names_body layer_body surface_strings surface_body
each_keeps LWOB = refl
each_keeps LWO2 = refl

unlisted_by : (ls : List ListedTag) → all keeps ls ≡ true → (t : ℕ) → ((b : Before) (body : List ℕ) → judged_by ls b t body ≡ fine skipped_chunk)
    → all (λ l. not (t is l.tag)) ls ≡ true
unfolding all
unlisted_by [] k t e = refl
unlisted_by (l ∷ ls) k t e = by (t is l.tag) refl (λ q. unlisted_by ls (all_rest keeps l ls k) t (λ b body. rw q at (e b body)))
  where
    by : (x : Bool) → t is l.tag ≡ x → (t is l.tag ≡ false → all (λ l. not (t is l.tag)) ls ≡ true)
        → not (t is l.tag) && all (λ l. not (t is l.tag)) ls ≡ true
    by true q later = let s = rw q at (e start []) in absurd (false≢true (sym (not-true _ (all_first keeps l ls k)) ∙ ap is_skipped s))
    by false q later = rw q (later q)

-- "Unlisted tags are skipped", and no others are
pub unlisted_exactly : (kind : Kind) (t : ℕ) → (unlisted_tag kind t ≡ true) ↔ ((b : Before) (body : List ℕ) → judge kind b t body ≡ fine skipped_chunk)
unfolding judge
unlisted_exactly kind t = (λ u b body. skips kind b t body u, λ e. unlisted_by (listed_tags kind) (each_keeps kind) t e)
