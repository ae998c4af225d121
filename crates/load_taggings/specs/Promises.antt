-- What the tags of a body that is fine change in the table of polygons. `v` is what the specification says of the body, or of the pairs in it.
use Rattle.std.specs.Prelude.{ℕ, ◌+◌, ◌*◌, ◌≤◌, ◌≡◌, List, length, set}
use Rattle.format.specs.Items.{Verdict, fine}
use Rattle.format.specs.Mesh.{Polygon, polygon_words, polygon_size}
use Rattle.format.specs.Bodies.{Part, tagging}
use Rattle.format.specs.Rules.{with_tag, tagged}
use Rattle.format.specs.Promises.{Succeeds, Put, polygons_words}

-- it is fine, and the table has room for so many polygons from the index i on
pub record TagsRoom {A : Type 0} (v : Verdict A) (polygons : ℕ) (table : List ℕ) (i : ℕ) : Type 0 where
  pub sound : Succeeds v
  pub fits : i + polygons * polygon_size ≤ length table

-- whatever polygons stood in the table from the index i on, they stand there with their tags, and the rest of the table is unchanged
pub record TagsPut (v : Verdict Part) (polygons : ℕ) (table : List ℕ) (i : ℕ) (table' : List ℕ) : Type 0 where
  pub put : (qs : List Polygon) (type : ℕ) (ts : List (ℕ × ℕ)) → length qs ≡ polygons → v ≡ fine (tagging type ts) → Put table i (polygons_words qs) table
      → Put table i (polygons_words (tagged qs type ts)) table'

-- a tag of a type is a polygon's word of that index
pub record TagWord (type index : ℕ) : Type 0 where
  pub set_word : (n : ℕ) (p : Polygon) → polygon_words (with_tag type n p) ≡ set (polygon_words p) index n

-- the same of pairs, of whatever type it is whose tags are the word of that index
pub record PairsPut (v : Verdict (List (ℕ × ℕ))) (polygons index : ℕ) (table : List ℕ) (i : ℕ) (table' : List ℕ) : Type 0 where
  pub put : {type : ℕ} → TagWord type index → (qs : List Polygon) (ts : List (ℕ × ℕ)) → length qs ≡ polygons → v ≡ fine ts → Put table i (polygons_words qs) table
      → Put table i (polygons_words (tagged qs type ts)) table'
