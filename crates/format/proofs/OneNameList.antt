-- A file has one list of names at most: a list is judged fine only where none came before it, and no later chunk takes it away.
use mathlib.Core.Path.{◌≡◌, refl, sym, ◌∙◌}
use mathlib.Core.List.{List, [], map}
use mathlib.Core.Option.{none, some}
use Prim.Native.Nat.{ℕ, ◌+◌}
use lib.ListN.{length}
use Rattle.format.specs.declared.Kind.{Kind}
use Rattle.format.specs.Bytes.{joined}
use Rattle.format.specs.Items.{fine}
use Rattle.format.specs.Chunks.{Chunks, finished, broken, chunk, size_of}
use Rattle.format.specs.Mesh.{Name}
use Rattle.format.specs.Bodies.{Part, name_list}
use Rattle.format.specs.Rules.{added, Before, after, judge, names_of}
use Rattle.format.specs.Promises.{walk_parts}
use Rattle.format.proofs.Facts.{impossible}
use Rattle.format.proofs.Verdicts.{same_fine}
use Rattle.format.proofs.ChunkWalk.{parts_finished, parts_broken, next}
use Rattle.format.proofs.PartByTag.{always}

-- a list of names has none before it
pub first_names : (kind : Kind) (b : Before) (t : ℕ) (body : List ℕ) (ns : List Name) → judge kind b t body ≡ fine (name_list ns) → b.names ≡ none
first_names kind b t body ns j =
    (always (λ part. (ms : List Name) → part ≡ name_list ms → b.names ≡ none) kind b t
    (record {
      of_points = λ e ps ms i. impossible cc;
      of_names = λ e missing ns ms i. missing;
      of_polygons = λ ok ps n ms i. impossible cc;
      of_tagging = λ ok type ts ms i. impossible cc;
      of_surface = λ e s ms i. impossible cc;
      of_layer = λ ms i. impossible cc;
      of_skipped = λ ms i. impossible cc;
    })
    ).each body (name_list ns) j ns refl

-- after a list of names, no part has any, and the list is still there
stays : (kind : Kind) (b : Before) (n t : ℕ) (body : List ℕ) (part : Part) → b.names ≡ some n → judge kind b t body ≡ fine part
    → (names_of part ≡ []) × ((after b part).names ≡ some n)
unfolding added after
stays kind b n t body part there j =
    (always (λ part. (names_of part ≡ []) × ((after b part).names ≡ some n)) kind b t
    (record {
      of_points = λ e ps. (refl, there);
      of_names = λ e missing ns. impossible (cc (sym missing ∙ there));
      of_polygons = λ ok ps k. (refl, there);
      of_tagging = λ ok type ts. (refl, there);
      of_surface = λ e s. (refl, there);
      of_layer = (refl, there);
      of_skipped = (refl, there);
    })
    ).each body part j

pub no_more_names : (kind : Kind) (b : Before) (n place : ℕ) (cs : Chunks) (parts : List Part) → b.names ≡ some n → walk_parts kind b place cs ≡ fine parts
    → joined (map names_of parts) ≡ []
unfolding joined
no_more_names kind b n place finished parts there e = rw (← same_fine (sym (parts_finished kind b place) ∙ e)) refl
no_more_names kind b n place broken parts there e = let bad = sym (parts_broken kind b place) ∙ e in impossible cc
no_more_names kind b n place (chunk t body rest) parts there e =
    let x = next kind b place t body rest parts e in
    let s = stays kind b n t body x.part there x.here in
    let later : joined (map names_of x.later) ≡ [] = no_more_names kind (after b x.part) n (place + size_of 4 (length body)) rest x.later s.1 x.onward in
    rw (← x.both) (rw s.0 later)
