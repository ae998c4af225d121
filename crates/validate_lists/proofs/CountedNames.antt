-- The names of a body, counted one after another: those before the place are a chain of strings, and the counts are theirs.
use Rattle.std.specs.Prelude.{Ok, Err}
use mathlib.Core.Path.{◌≡◌, sym, ◌∙◌}
use mathlib.Core.List.{List, [], ◌∷◌, ◌++◌, map}
use mathlib.Core.Bool.{true, false}
use Prim.Native.Nat.{ℕ, zero, suc, ◌+◌, ◌-◌, ◌≤◌, ◌<◌}
use native.Mathlib.Omega.{arith}
use native.Mathlib.Nat.{add-zero}
use lib.ListN.{length, take, drop, length-drop, drop_of_length-le}
use lib.Seq.{drop-cons}
use Rattle.format.specs.declared.Fault.{Fault}
use Rattle.format.specs.declared.Fault.TheVariants.{BadName}
use Rattle.format.specs.Bytes.{sum}
use Rattle.format.specs.Items.{fine, fault, ◌and_then◌, ◌>>=◌, give}
use Rattle.format.specs.Mesh.{Name}
use Rattle.format.specs.Bodies.{name_list, name, names_after, names_body}
use Rattle.format.specs.Rules.{added}
use Rattle.format.specs.Promises.{keep, itself, got, Says, Judged}
use Rattle.format.proofs.ReaderSteps.{exactly, stopped, good, bad, cut, keep_keep, keep_same, used_up, faulty}
use Rattle.wire.specs.declared.Refusal.{Refusal}
use Rattle.wire.specs.declared.cursor.Cursor.{Cursor}
use Rattle.wire.specs.Promises.{TextAt}
use Rattle.wire.proofs.Items.{inside}
use Rattle.validate_lists.specs.Promises.{Chain, done, NewName, name_sizes}
use Rattle.validate_lists.proofs.EarlierNames.{snoc}

abbrev more : ℕ → ℕ → List Name → ℕ × ℕ
more c b ns = (c + length ns, b + sum (map length ns))

pub record NamesCounted (s : List ℕ) (at c b : ℕ) : Type 0 where
  pub few : c + b ≤ at
  pub earlier : List Name
  pub chain : Chain s at 8 earlier
  pub fuel : ℕ
  pub enough : length s ≤ at + fuel
  pub rest : keep name_sizes (names_body 8 (drop 8 s)) ≡ keep (more c b) (names_after fuel earlier at (drop at s))

pair : {a a' b b' : ℕ} → a ≡ a' → b ≡ b' → ◌≡◌ {A = ℕ × ℕ} (a, b) (a', b')
pair e f = rw (e, f)

pub begin : {s : List ℕ} → NamesCounted s 8 0 0
unfolding names_body ◌>>=◌ added
begin {s} = record {
  few = omega arith;
  earlier = [];
  chain = done;
  fuel = length (drop 8 s);
  enough = rw length-drop (omega arith);
  rest = keep_keep name_sizes name_list (names_after (length (drop 8 s)) [] 8 (drop 8 s)) ∙ keep_same _ (more 0 0) _ (λ ns. pair (omega arith) (omega arith));
}

module _ {s : List ℕ} {at c b : ℕ} (w : NamesCounted s at c b) where
  pub end : length s ≤ at → Judged names_body name_sizes s (fine (c, b))
  unfolding names_after ◌and_then◌ sum
  end h = used_up (record { is = sym (w.rest ∙ by w.fuel) }) h
    where
      none : drop at s ≡ []
      none = drop_of_length-le s {i = at} h

      by : (k : ℕ) → keep (more c b) (names_after k w.earlier at (drop at s)) ≡ got s (c, b) at
      by zero = rw (add-zero c, add-zero b)
      by (suc k) = rw (none, add-zero c, add-zero b)

  module _ (some : at < length s) where
    burnt : (k : ℕ) → length s ≤ at + k
        → names_after k w.earlier at (drop at s) ≡ (name w.earlier >>= (λ n. names_after (k - 1) (w.earlier ++ (n ∷ [])) >>= (λ ns. give (n ∷ ns)))) at
        (drop at s)
    unfolding names_after
    burnt zero l = absurd (omega arith)
    burnt (suc k) l =
        let e : suc k - 1 ≡ k = omega arith in
        rw (drop-cons s at (length s) some, e)

    stop : {why : Fault} {p : ℕ} → Says (name w.earlier) itself s at (fault why p) → Judged names_body name_sizes s (fault why p)
    unfolding ◌>>=◌ ◌and_then◌
    stop k = faulty (record { is = sym (w.rest ∙ rw (burnt w.fuel w.enough, stopped k)) })

    pub unended : {f : Refusal} → TextAt s at (Err f) → Judged names_body name_sizes s (fault f.why f.at)
    unfolding name
    unended r = stop (cut _ _ r.reads.says)

    module _ {n : ℕ} {next : Cursor} (r : TextAt s at (Ok (n, next))) where
      pub refused : NewName s at n false → Judged names_body name_sizes s (fault BadName at)
      unfolding name
      refused new = stop (bad _ _ r.reads.says (sym (new.is w.earlier w.chain)))

      pub turn : NewName s at n true → NamesCounted s next.at (c + 1) (b + n)
      unfolding name ◌>>=◌ ◌and_then◌ sum
      turn new =
          let x = take n (drop at s) in
          let i = inside r in
          let ok : Says (name w.earlier) itself s at (got s x next.at) = good _ _ r.reads.says (sym (new.is w.earlier w.chain)) in
          let v = names_after (w.fuel - 1) (w.earlier ++ (x ∷ [])) next.at (drop next.at s) in
          let same_sizes : (ns : List Name) → more c b (x ∷ ns) ≡ more (c + 1) (b + n) ns = λ ns. pair (omega arith) (omega (arith, i.2)) in
          record {
            few = omega (arith, w.few, i.0);
            earlier = w.earlier ++ (x ∷ []);
            chain = snoc w.chain (omega (arith, i.0)) r.reads.says;
            fuel = w.fuel - 1;
            enough = omega (arith, w.enough, i.0);
            rest = w.rest ∙ rw (burnt w.fuel w.enough, exactly ok)
                (keep_keep (more c b) (λ ns. x ∷ ns) v ∙ keep_same (λ ns. more c b (x ∷ ns)) (more (c + 1) (b + n)) v same_sizes);
          }
