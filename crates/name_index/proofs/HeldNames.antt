-- An index in code: it is empty at first, and takes in one name more after those that it has.
use Prim.Native.Nat.{ℕ, ◌+◌, ◌-◌, ◌*◌, ◌<◌}
use mathlib.Core.Path.{◌≡◌, refl, ◌∙◌}
use mathlib.Core.List.{List}
use native.Mathlib.Omega.{arith}
use denote.Ref.{Bor}
use lib.ListN.{length, get_or, set, replicate, length-set, length-replicate}
use Rattle.format.specs.Mesh.{Name}
use Rattle.name_index.specs.declared.NameIndex.{NameIndex}
use Rattle.name_index.specs.Index.{bucket_of}
use Rattle.name_index.specs.NameIndex.{IsIndex, IsEmptyIndex, RoomForName, with_word, with_name, name_there, WithName}
use Rattle.name_index.proofs.NewName.{no_names, taken_names, taken_in}

pub empty_index : (bytes : Bor (List ℕ)) (base multiplier : ℕ) → IsEmptyIndex bytes.now base multiplier (record {
  bytes = bytes;
  base = base;
  multiplier = multiplier;
  count = 0;
  places = replicate 8192 0;
  heads = replicate 16384 0;
  links = replicate 8192 0;
})
empty_index bytes base multiplier = record {
  index = record { few = omega arith; room = length-replicate {A = ℕ} 8192 0; index = no_names multiplier bytes.now base };
  over = (refl, refl, refl);
  none = refl;
}

-- what was stored, by the bucket that the code had
module _ (x : NameIndex) (word : ℕ) (name : Name) {b : ℕ} (eb : b ≡ bucket_of x.multiplier name) where
  pub stored : record {
    bytes = x.bytes;
    base = x.base;
    multiplier = x.multiplier;
    count = x.count + 1;
    places = set x.places x.count word;
    heads = set x.heads b (x.count + 1);
    links = set x.links x.count (get_or x.heads b 0);
  } ≡ with_word x word name
  stored = rw eb

-- an index stays one
pub one_name_more : {x y : NameIndex} {at n : ℕ} → IsIndex x → RoomForName x at n → y ≡ with_name x at n → WithName x (name_there x at n) y
one_name_more {x} {at = at} {n = n} w r e =
    let fits : x.count < length x.places = omega (arith, r.free, w.room) in
    rw e (record {
      index = record {
        few = omega (arith, r.free);
        room = length-set x.places x.count ((at - x.base) * 256 + n) ∙ w.room;
        index = taken_in x.bytes.now x.places fits r.near.0 r.inside r.short w.index r.free refl;
      };
      over = (refl, refl, refl);
      more = refl;
      names = taken_names x.bytes.now x.places fits r.near.0 r.inside r.short;
    })
