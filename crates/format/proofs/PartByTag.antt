-- Which part a chunk is that was judged fine, by its tag: each body ends by giving one sort of part, and each tag has one body.
use Rattle.std.specs.Prelude.{if◌then◌else◌}
use mathlib.Core.Path.{◌≡◌, refl, ap, subst}
use mathlib.Core.List.{List, [], ◌∷◌}
use mathlib.Core.Bool.{Bool, true, false, not, and-eq-true_iff}
use mathlib.Core.Option.{Option, none, some}
use Prim.Native.Nat.{ℕ, zero, suc}
use lib.ListN.{length}
use borrow.Author.Tests.{eqb-true}
use Rattle.format.specs.declared.Kind.{Kind}
use Rattle.format.specs.declared.Kind.TheVariants.{LWOB, LWO2}
use Rattle.format.specs.declared.Fault.TheVariants.{OutOfOrder, WrongLength}
use Rattle.format.specs.Bytes.{◌is◌, number, all, empty}
use Rattle.format.specs.Items.{Verdict, fine, fault, Got, Reader, ◌>>=◌, give, whole, up_to, many}
use Rattle.format.specs.Chunks.{header_of, reader_of_length}
use Rattle.format.specs.Mesh.{Point, Polygon, Name}
use Rattle.format.specs.Bodies.{Part, SurfaceChunk, point_list, name_list, polygon_list, tagging, surface, layer, skipped_chunk, points_body, names_body, layer_body, faces_body, patches_body, polygons_body, tagging_body, surface_body}
use Rattle.format.specs.Rules.{Before, there, count, when◌read◌, judge}
use Rattle.format.specs.Promises.{names_tag}
use Rattle.format.proofs.Facts.{both, impossible}
use Rattle.format.proofs.ListedTags.{judge_cases}
use Rattle.format.proofs.Verdicts.{then_fine, chosen, same_fine}

-- ---- what is true of every value that a reader gives

pub record Makes {A : Type 0} (P : A → Type 0) (r : Reader A) : Type 0 where
  pub each : (at : ℕ) (b : List ℕ) (g : Got A) → r at b ≡ fine g → P g.value

module _ {A : Type 0} (P : A → Type 0) where
  pub makes_give : (x : A) → P x → Makes P (give x)
  makes_give x p = record { each = λ at b g e. let same : record { value = x; next = at; left = b } ≡ g = cc in subst P (ap (λ y. y.value) same) p }

  -- by what is true of what was read first
  pub makes_on : {B : Type 0} {Q : B → Type 0} {r : Reader B} (k : B → Reader A) → Makes Q r → ((x : B) → Q x → Makes P (k x)) → Makes P (r >>= k)
  unfolding ◌>>=◌
  makes_on {r = r} k first later = record {
    each = λ at b g e. let x = then_fine (r at b) _ e in (later x.0.value (first.each at b x.0 x.1)).each x.0.next x.0.left g x.2;
  }

  pub makes_then : {B : Type 0} (r : Reader B) (k : B → Reader A) → ((x : B) → Makes P (k x)) → Makes P (r >>= k)
  makes_then {B} r k later = makes_on {Q = λ (x : B). Unit {0}} k (record { each = λ at b g e. tt }) (λ x any. later x)

  makes_length : (width : ℕ) (ok : ℕ → Bool) {r : Reader A} → Makes P r → Makes P (reader_of_length width ok r)
  unfolding reader_of_length
  makes_length width ok {r} w = record { each = λ at b g e. by at b g (ok (length b)) e }
    where
      by : (at : ℕ) (b : List ℕ) (g : Got A) (t : Bool) → (if t then r at b else fault WrongLength (header_of width at)) ≡ fine g → P g.value
      by at b g true e = w.each at b g e
      by at b g false e = impossible cc

-- of each entry, as long as the body lasts
pub makes_many : {A : Type 0} (p : A → Bool) {r : Reader A} → Makes (λ x. p x ≡ true) r → Makes (λ xs. all p xs ≡ true) (many r)
unfolding many up_to all
makes_many {A} p {r} one = record { each = λ at b g e. up (length b) at b g e }
  where
    up : (n at : ℕ) (b : List ℕ) (g : Got (List A)) → up_to n r at b ≡ fine g → all p g.value ≡ true
    up zero at b g e = (makes_give (λ xs. all p xs ≡ true) [] refl).each at b g e
    up (suc n) at [] g e = (makes_give (λ xs. all p xs ≡ true) [] refl).each at [] g e
    up (suc n) at (c ∷ b) g e =
        (makes_on _ _ one (λ x px. makes_on _ _ (record { each = up n }) (λ xs pxs. makes_give (λ xs. all p xs ≡ true) (x ∷ xs) (both px pxs)))).each at (c ∷ b) g e

-- ---- the bodies: what is true of each part that they make

-- a whole body makes what its reader makes
pub makes_whole : {A : Type 0} (P : A → Type 0) {r : Reader A} → Makes P r → (body : List ℕ) {a : A} → whole 0 r 8 body ≡ fine a → P a
unfolding whole
makes_whole P {r} w body e =
    let x = then_fine (r 8 body) _ e in
    let y = chosen (empty x.0.left) (fine x.0.value) WrongLength 0 x.2 in
    subst P (same_fine y.1) (w.each 8 body x.0 x.1)

module _ (P : Part → Type 0) where
  pub makes_points : (kind : Kind) → ((ps : List Point) → P (point_list ps)) → Makes P (points_body kind)
  unfolding points_body
  makes_points kind p = makes_length _ _ _ (makes_then _ _ _ (λ ps. makes_give _ _ (p ps)))

  pub makes_names : ((ns : List Name) → P (name_list ns)) → Makes P names_body
  unfolding names_body
  makes_names p = record { each = λ at b. (makes_then _ _ _ (λ ns. makes_give _ _ (p ns))).each at b }

  pub makes_surface : (kind : Kind) → ((s : SurfaceChunk) → P (surface s)) → Makes P (surface_body kind)
  unfolding surface_body
  makes_surface kind p = makes_then _ _ _ (λ called. makes_then _ _ _ (λ vs. makes_give _ _ (p _)))

  pub makes_layer : P layer → Makes P layer_body
  unfolding layer_body
  makes_layer p = makes_then _ _ _ (λ number. makes_then _ _ _ (λ flags. makes_then _ _ _ (λ pivot. makes_then _ _ _ (λ called. makes_then _ _ _ (λ parent. makes_give _ _ p)))))

  module _ (p : (ps : List Polygon) (n : ℕ) → P (polygon_list ps n)) (point_count name_count : ℕ) where
    pub makes_faces : Makes P (faces_body point_count name_count)
    unfolding faces_body
    makes_faces = makes_then _ _ _ (λ fs. makes_give _ _ (p _ _))

    pub makes_patches : Makes P (patches_body point_count name_count)
    unfolding patches_body
    makes_patches = makes_then _ _ _ (λ ps. makes_give _ _ (p ps 0))

  pub makes_polygons : ((ps : List Polygon) (n : ℕ) → P (polygon_list ps n)) → (point_count : ℕ) → Makes P (polygons_body point_count)
  unfolding polygons_body
  makes_polygons p point_count = makes_then _ _ _ (λ t. makes_then _ _ _ (λ ps. makes_give _ _ (p ps 0)))

  pub makes_tagging : ((type : ℕ) (ts : List (ℕ × ℕ)) → P (tagging type ts)) → (polygon_count name_count : ℕ) → Makes P (tagging_body polygon_count name_count)
  unfolding tagging_body
  makes_tagging p polygon_count name_count = makes_then _ _ _ (λ t. makes_then _ _ _ (λ ts. makes_give _ _ (p t ts)))

-- ---- any tag: what is true of whatever is judged fine

pub record Always (P : Part → Type 0) (judging : List ℕ → Verdict Part) : Type 0 where
  pub each : (body : List ℕ) (part : Part) → judging body ≡ fine part → P part

-- P is true of each sort of part that a chunk of this tag may be, after what came before
pub record Allowed (P : Part → Type 0) (kind : Kind) (b : Before) (t : ℕ) : Type 0 where
  pub of_points : t is "PNTS" ≡ true → (ps : List Point) → P (point_list ps)
  pub of_names : names_tag kind t ≡ true → b.names ≡ none → (ns : List Name) → P (name_list ns)
  pub of_polygons : there b.points ≡ true → (ps : List Polygon) (n : ℕ) → P (polygon_list ps n)
  pub of_tagging : there b.polygons ≡ true → (type : ℕ) (ts : List (ℕ × ℕ)) → P (tagging type ts)
  pub of_surface : t is "SURF" ≡ true → (s : SurfaceChunk) → P (surface s)
  pub of_layer : P layer
  pub of_skipped : P skipped_chunk

not_there : (o : Option ℕ) → not (there o) ≡ true → o ≡ none
not_there none e = refl
not_there (some n) e = impossible cc

module _ (P : Part → Type 0) where
  pub always_when : (ok : Bool) {r : Reader Part} → (ok ≡ true → Makes P r) → Always P (when ok read r)
  unfolding when◌read◌
  always_when ok {r} w = record { each = λ body part j. let c = chosen ok (whole 0 r 8 body) OutOfOrder 0 j in makes_whole P (w c.0) body c.1 }

  pub always_if : (t : Bool) {f g : List ℕ → Verdict Part} → (t ≡ true → Always P f) → Always P g → Always P (if t then f else g)
  always_if true w v = w refl
  always_if false w v = v

  pub always_skipped : P skipped_chunk → Always P (λ body. fine skipped_chunk)
  always_skipped p = record { each = λ body part j. rw (← same_fine j) p }

  pub always : (kind : Kind) (b : Before) (t : ℕ) → Allowed P kind b t → Always P (judge kind b t)
  always kind b t a =
      judge_cases (Always P) kind b t
      (record {
        of_points = λ ok e. always_when _ (λ ok. makes_points P kind (a.of_points e));
        of_names = λ e. always_when _ (λ first. makes_names P (a.of_names e (not_there b.names first)));
        of_faces = λ e. always_when _ (λ ok. makes_faces P (a.of_polygons ((and-eq-true_iff _ _).0 ok).0) _ _);
        of_patches = λ e. always_when _ (λ ok. makes_patches P (a.of_polygons ((and-eq-true_iff _ _).0 ok).0) _ _);
        of_polygons = λ e. always_when _ (λ ok. makes_polygons P (a.of_polygons ok) _);
        of_tagging = λ e. always_when _ (λ ok. makes_tagging P (a.of_tagging ok) _ _);
        of_surface = λ e. always_when _ (λ ok. makes_surface P kind (a.of_surface e));
        of_layer = λ e. always_when _ (λ ok. makes_layer P a.of_layer);
        of_skipped = always_skipped a.of_skipped;
      })

-- ---- one tag: the part, and the body that it was read from

-- a body that was judged fine, whose part is made by `make`
pub record Made {A : Type 0} (make : A → Part) (r : Reader Part) (body : List ℕ) (part : Part) : Type 0 where
  pub of : A
  pub part_is : part ≡ make of
  pub sound : whole 0 r 8 body ≡ fine (make of)

-- the part of every chunk of the tag is made by `make` of what the reader reads, which may depend on the chunks before it
pub record Holds {A : Type 0} (make : A → Part) (r : Before → Reader Part) (kind : Kind) (t : ℕ) : Type 0 where
  pub each : (b : Before) (body : List ℕ) (part : Part) → judge kind b t body ≡ fine part → Made make (r b) body part

abbrev MadeBy : {A : Type 0} → (A → Part) → Part → Type 0
MadeBy {A} make part = (a : A) × (part ≡ make a)

made : {A : Type 0} (make : A → Part) (ok : Bool) {r : Reader Part} → Makes (MadeBy make) r → (body : List ℕ) {part : Part} → (when ok read r) body ≡ fine part
    → Made make r body part
unfolding when◌read◌
made make ok {r} w body j =
    let x = chosen ok (whole 0 r 8 body) OutOfOrder 0 j in
    let m = makes_whole (MadeBy make) w body x.1 in
    record { of = m.0; part_is = m.1; sound = rw (← m.1) x.1 }

-- polygons and how many details; a type and its pairs
abbrev pub polygons_from : List Polygon × ℕ → Part
polygons_from p = polygon_list p.0 p.1

abbrev pub tagging_from : ℕ × List (ℕ × ℕ) → Part
tagging_from p = tagging p.0 p.1

module _ {t : ℕ} where
  pub holds_points : (kind : Kind) → t is "PNTS" ≡ true → Holds point_list (λ b. points_body kind) kind t
  unfolding judge number
  holds_points LWOB e = record { each = λ b body part j. made point_list _ (makes_points _ LWOB (λ ps. (ps, refl))) body (rw (eqb-true t _ e) at j) }
  holds_points LWO2 e = record { each = λ b body part j. made point_list _ (makes_points _ LWO2 (λ ps. (ps, refl))) body (rw (eqb-true t _ e) at j) }

  pub holds_names : (kind : Kind) → names_tag kind t ≡ true → Holds name_list (λ b. names_body) kind t
  unfolding judge number
  holds_names LWOB e = record { each = λ b body part j. made name_list _ (makes_names _ (λ ns. (ns, refl))) body (rw (eqb-true t _ e) at j) }
  holds_names LWO2 e = record { each = λ b body part j. made name_list _ (makes_names _ (λ ns. (ns, refl))) body (rw (eqb-true t _ e) at j) }

  pub holds_faces : t is "POLS" ≡ true → Holds polygons_from (λ b. faces_body (count b.points) (count b.names)) LWOB t
  unfolding judge number
  holds_faces e = record { each = λ b body part j. made polygons_from _ (makes_faces _ (λ ps n. ((ps, n), refl)) _ _) body (rw (eqb-true t _ e) at j) }

  pub holds_patches : t is "PCHS" ≡ true → Holds polygons_from (λ b. patches_body (count b.points) (count b.names)) LWOB t
  unfolding judge number
  holds_patches e = record { each = λ b body part j. made polygons_from _ (makes_patches _ (λ ps n. ((ps, n), refl)) _ _) body (rw (eqb-true t _ e) at j) }

  pub holds_polygons : t is "POLS" ≡ true → Holds polygons_from (λ b. polygons_body (count b.points)) LWO2 t
  unfolding judge number
  holds_polygons e = record { each = λ b body part j. made polygons_from _ (makes_polygons _ (λ ps n. ((ps, n), refl)) _) body (rw (eqb-true t _ e) at j) }

  pub holds_tagging : t is "PTAG" ≡ true → Holds tagging_from (λ b. tagging_body (count b.polygons) (count b.names)) LWO2 t
  unfolding judge number
  holds_tagging e = record { each = λ b body part j. made tagging_from _ (makes_tagging _ (λ type ts. ((type, ts), refl)) _ _) body (rw (eqb-true t _ e) at j) }

  pub holds_layer : t is "LAYR" ≡ true → Holds {A = Unit {0}} (λ u. layer) (λ b. layer_body) LWO2 t
  unfolding judge number
  holds_layer e = record { each = λ b body part j. made (λ u. layer) _ (makes_layer _ (tt, refl)) body (rw (eqb-true t _ e) at j) }

  pub holds_surface : (kind : Kind) → t is "SURF" ≡ true → Holds surface (λ b. surface_body kind) kind t
  unfolding judge number
  holds_surface LWOB e = record { each = λ b body part j. made surface _ (makes_surface _ LWOB (λ s. (s, refl))) body (rw (eqb-true t _ e) at j) }
  holds_surface LWO2 e = record { each = λ b body part j. made surface _ (makes_surface _ LWO2 (λ s. (s, refl))) body (rw (eqb-true t _ e) at j) }
