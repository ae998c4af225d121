-- A PNTS body that is fine is the words of its points, one after another, and nothing else.
use mathlib.Core.Path.{◌≡◌, refl, sym, ap, ◌∙◌}
use mathlib.Core.Bool.{true}
use mathlib.Core.List.{List, [], ◌∷◌, ◌++◌, map}
use Prim.Native.Nat.{ℕ, zero, suc, ◌+◌, ◌-◌, ◌*◌, ◌/◌, ◌≤◌}
use native.Mathlib.Omega.{arith}
use lib.Dec.{leb}
use lib.ListN.{length, take, drop, length-drop}
use lib.Seq.{drop-drop}
use borrow.Author.Tests.{leb-true}
use Rattle.format.specs.declared.Kind.{Kind}
use Rattle.format.specs.declared.Fault.TheVariants.{ItemCut, NotFinite, WrongLength}
use Rattle.format.specs.Bytes.{number, finite, empty, joined}
use Rattle.format.specs.Items.{◌or◌unless◌, fine, Got, ◌>>=◌, give, whole, up_to, many, item, uint, float}
use Rattle.format.specs.Chunks.{reader_of_length}
use Rattle.format.specs.Mesh.{Point, point_words, point_size}
use Rattle.format.specs.Bodies.{point_list, point, whole_points, points_body}
use Rattle.format.proofs.Verdicts.{then_fine, chosen}
use Rattle.load_lists.specs.Promises.{PointsRoom}

-- n words of four bytes
unfoldable pub words : ℕ → List ℕ → List ℕ
words zero b = []
words (suc n) b = number (take 4 b) ∷ words n (drop 4 b)

pub length_words : (n : ℕ) (b : List ℕ) → length (words n b) ≡ n
unfolding words
length_words zero b = refl
length_words (suc n) b = ap suc (length_words n (drop 4 b))

pub one_more : (n : ℕ) (b : List ℕ) → words n b ++ (number (take 4 (drop (n * 4) b)) ∷ []) ≡ words (suc n) b
unfolding words
one_more zero b = refl
one_more (suc n) b =
    let e : 4 + n * 4 ≡ suc n * 4 = omega arith in
    let d : drop (n * 4) (drop 4 b) ≡ drop (suc n * 4) b = drop-drop (n * 4) 4 b ∙ ap (λ k. drop k b) e in
    ap (λ l. number (take 4 b) ∷ l) (rw (← d) (one_more n (drop 4 b)))

words_more : (n k : ℕ) (b : List ℕ) → words n b ++ words k (drop (n * 4) b) ≡ words (n + k) b
unfolding words
words_more zero k b = let e : 0 + k ≡ k = omega arith in rw e
words_more (suc n) k b =
    let e : 4 + n * 4 ≡ suc n * 4 = omega arith in
    let d : drop (n * 4) (drop 4 b) ≡ drop (suc n * 4) b = drop-drop (n * 4) 4 b ∙ ap (λ i. drop i b) e in
    let s : suc n + k ≡ suc (n + k) = omega arith in
    rw s (ap (λ l. number (take 4 b) ∷ l) (rw (← d) (words_more n k (drop 4 b))))

-- ---- one float, one point

-- n words at the front of some bytes, and what is left behind them
record Front {A : Type 0} (n : ℕ) (words_of : A → List ℕ) (b : List ℕ) (g : Got A) : Type 0 where
  pub long : n * 4 ≤ length b
  pub value : words_of g.value ≡ words n b
  pub left : g.left ≡ drop (n * 4) b

float_front : (at : ℕ) (b : List ℕ) (g : Got ℕ) → float at b ≡ fine g → Front 1 (λ x. x ∷ []) b g
unfolding float uint item words ◌>>=◌ ◌or◌unless◌
float_front at b g e =
    let x = then_fine (uint 4 at b) _ e in
    let y = then_fine (item 4 at b) _ x.1 in
    let i = chosen (leb 4 (length b)) (fine (record { value = take 4 b; next = at + 4; left = drop 4 b })) ItemCut at y.1 in
    let j = chosen (finite x.0.value) (fine x.0) NotFinite at x.2 in
    let v : g.value ≡ number (take 4 b) = cc (i.1, j.1, y.2) in
    let l : g.left ≡ drop 4 b = cc (i.1, j.1, y.2) in
    record { long = leb-true 4 (length b) i.0; value = rw v; left = l }

point_front : (at : ℕ) (b : List ℕ) (g : Got Point) → point at b ≡ fine g → Front point_size point_words b g
unfolding point words ◌>>=◌
point_front at b g e =
    let x = then_fine (float at b) _ e in
    let fx = float_front at b x.0 x.1 in
    let y = then_fine (float x.0.next x.0.left) _ x.2 in
    let fy = float_front _ x.0.left y.0 y.1 in
    let z = then_fine (float y.0.next y.0.left) _ y.2 in
    let fz = float_front _ y.0.left z.0 z.1 in
    let l₁ : x.0.left ≡ drop 4 b = fx.left in
    let l₂ : y.0.left ≡ drop 8 b = fy.left ∙ ap (drop 4) l₁ ∙ drop-drop 4 4 b in
    let l₃ : z.0.left ≡ drop 12 b = fz.left ∙ ap (drop 4) l₂ ∙ drop-drop 4 8 b in
    let made : record { value = record { x = x.0.value; y = y.0.value; z = z.0.value }; next = z.0.next; left = z.0.left } ≡ g = cc z.2 in
    let three : x.0.value ∷ y.0.value ∷ z.0.value ∷ [] ≡ words point_size b = cc (fx.value, fy.value, fz.value, l₁, l₂, drop-drop 4 4 b) in
    rw (← made) record {
      long = omega (arith, fx.long, fy.long, fz.long, ap length l₁, ap length l₂, length-drop 4 b, length-drop 8 b);
      value = three;
      left = l₃;
    }

-- ---- many points

abbrev points_words : List Point → List ℕ
points_words ps = joined (map point_words ps)

abbrev PointsFront : (fuel : ℕ) → Type 0
PointsFront fuel = (at : ℕ) (b : List ℕ) (g : Got (List Point)) → up_to fuel point at b ≡ fine g → Front (length g.value * point_size) points_words b g

-- a point in front of others
front_joined : (b : List ℕ) (p : Got Point) → Front point_size point_words b p → (q : Got (List Point)) → Front (length q.value * point_size) points_words p.left q
    → Front (suc (length q.value) * point_size) points_words b (record { value = p.value ∷ q.value; next = q.next; left = q.left })
unfolding joined
front_joined b p fp q fq =
    let k : ℕ = length q.value in
    let n : suc k * point_size ≡ point_size + k * point_size = omega arith in
    let four : point_size * 4 + k * point_size * 4 ≡ (point_size + k * point_size) * 4 = omega arith in
    rw n record {
      long = omega (arith, fp.long, fq.long, ap length fp.left, length-drop 12 b);
      value = ap (λ l. l ++ points_words q.value) fp.value ∙ ap (λ l. words point_size b ++ l) (fq.value ∙ ap (words (k * point_size)) fp.left) ∙ words_more point_size (k * point_size) b;
      left = fq.left ∙ ap (drop (k * point_size * 4)) fp.left ∙ drop-drop (k * point_size * 4) 12 b ∙ ap (λ i. drop i b) four;
    }

front_step : (fuel at c : ℕ) (b : List ℕ) (g : Got (List Point)) → PointsFront fuel → up_to (suc fuel) point at (c ∷ b) ≡ fine g
    → Front (length g.value * point_size) points_words (c ∷ b) g
unfolding up_to ◌>>=◌
front_step fuel at c b g later e =
    let x = then_fine (point at (c ∷ b)) _ e in
    let y = then_fine (up_to fuel point x.0.next x.0.left) _ x.2 in
    let made : record { value = x.0.value ∷ y.0.value; next = y.0.next; left = y.0.left } ≡ g = cc y.2 in
    rw (← made) (front_joined (c ∷ b) x.0 (point_front at (c ∷ b) x.0 x.1) y.0 (later _ _ y.0 y.1))

none_front : (at : ℕ) (b : List ℕ) (g : Got (List Point)) → fine (record { value = []; next = at; left = b }) ≡ fine g
    → Front (length g.value * point_size) points_words b g
unfolding words joined
none_front at b g e =
    let made : record { value = []; next = at; left = b } ≡ g = cc in
    rw (← made) record { long = omega arith; value = refl; left = refl }

points_front : (fuel : ℕ) → PointsFront fuel
unfolding up_to
points_front zero at b g e = none_front at b g e
points_front (suc fuel) at [] g e = none_front at [] g e
points_front (suc fuel) at (c ∷ b) g e = front_step fuel at c b g (points_front fuel) e

-- ---- a body

-- the body of a PNTS that is fine is its points' words, and nothing else
pub record Bodied (body : List ℕ) (ps : List Point) : Type 0 where
  pub are : points_words ps ≡ words (length body / 4) body

pub bodied : (kind : Kind) (body : List ℕ) (ps : List Point) → whole 0 (points_body kind) 8 body ≡ fine (point_list ps) → Bodied body ps
unfolding whole points_body reader_of_length many ◌>>=◌
bodied kind body ps e =
    let w = then_fine (points_body kind 8 body) _ e in
    let o = chosen (whole_points kind (length body)) ((many point >>= (λ ps. give (point_list ps))) 8 body) WrongLength 0 w.1 in
    let m = then_fine (up_to (length body) point 8 body) _ o.1 in
    let f = points_front (length body) 8 body m.0 m.1 in
    let made : record { value = point_list m.0.value; next = m.0.next; left = m.0.left } ≡ w.0 = cc m.2 in
    let u = chosen (empty w.0.left) (fine w.0.value) WrongLength 0 w.2 in
    let part : point_list m.0.value ≡ point_list ps = ap (λ g. g.value) made ∙ cc u.1 in
    let same : m.0.value ≡ ps = cc in
    let none : drop (length m.0.value * point_size * 4) body ≡ [] = sym f.left ∙ ap (λ g. g.left) made ∙ nothing_left w.0.left u.0 in
    let all : length body / 4 ≡ length m.0.value * point_size = omega (arith, f.long, ap length none, length-drop (length m.0.value * point_size * 4) body) in
    record { are = rw (← same, all) f.value }
  where
    nothing_left : (l : List ℕ) → empty l ≡ true → l ≡ []
    nothing_left [] q = refl
    nothing_left (x ∷ l) q = absurd (let z : ◌≡◌ {A = ℕ} 0 1 = cc in omega arith)

pub points_length : (kind : Kind) (body : List ℕ) (ps : List Point) → whole 0 (points_body kind) 8 body ≡ fine (point_list ps)
    → length (joined (map point_words ps)) ≡ length body / 4
points_length kind body ps e = rw (bodied kind body ps e).are (length_words (length body / 4) body)

pub words_fit : {s table : List ℕ} {m : ℕ} → PointsRoom s table m → m + (length s - 8) / 4 ≤ length table
words_fit {s} r = omega (arith, r.fits, points_length r.kind (drop 8 s) r.listed r.sound, length-drop 8 s)
