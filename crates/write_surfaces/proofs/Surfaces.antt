-- A SURF is put part by part, and the names and their records are walked together: what is left is the chunks of the names that are left.
use Rattle.std.specs.Prelude.{if◌then◌else◌}
use Prim.Native.Nat.{ℕ, ◌+◌, ◌-◌, ◌*◌, ◌≤◌}
use Prim.Native.String.{String}
use mathlib.Core.Path.{◌≡◌, refl, sym, ap, ◌∙◌}
use mathlib.Core.List.{List, [], ◌∷◌, ◌++◌, map, append-nil}
use mathlib.Core.Bool.{Bool, true, false}
use native.Mathlib.Omega.{arith}
use lib.Dec.{eqb}
use lib.ListN.{length, get_or, take, drop, length-append}
use lib.Seq.{drop-drop}
use borrow.Author.Tests.{eq-eqb, ne_eqb}
use Rattle.format.specs.Bytes.{number, tag_number, sum, joined}
use Rattle.format.specs.Mesh.{Name, Surface, record_size, surface_from, surface_words}
use Rattle.format.specs.Canonical.{bytes, vx_bytes, string_bytes, chunk_bytes, level_bytes, surface_bytes, surface_chunks, encoded}
use Rattle.format.specs.Written.{pieces}
use Rattle.format.proofs.Puts.{joined_map_append}
use Rattle.format.proofs.Facts.{length_each}
use Rattle.format.proofs.CanonicalLengths.{length_bytes}
use Rattle.mesh.specs.Lent.{mesh_surfaces}
use Rattle.mesh.proofs.Records.{words_back}
use Rattle.format.proofs.Indexed.{part}
use Rattle.std.specs.Iterator.Adapters.{zip_second}
use Rattle.mesh.proofs.ColumnWalk.{NextEntry}
use Rattle.mesh.proofs.NamedRecords as named
use Rattle.mesh.proofs.NamedRecords.{NamedRecords, Both, NoneLeft, names_left, words_left, surfaces_next}
use Rattle.output.specs.Outputs.{Wrote, chunks_bytes}
use Rattle.write_surfaces.specs.Surfaces.{levels_bytes, value_bytes, surface_chunk}
use Rattle.format.proofs.CanonicalLengths.{short_vx}
use Rattle.output.proofs.PutSoFar as bytes_put
use Rattle.output.proofs.PutSoFar.{PutSoFar, NextPart}
use Rattle.output.proofs.Chunks.{Chunk, BodyFirst, chunk_is}

-- ---- levels

module _ (tag : ℕ) (ls : List ℕ) where
  abbrev levels_body : List ℕ
  levels_body = joined (map (bytes 4) ls) ++ vx_bytes 0

  levels_long : 4 * length ls + 2 ≡ length levels_body
  levels_long = omega (arith, length-append (joined (map (bytes 4) ls)) (vx_bytes 0), length_each 4 (bytes 4) (length_bytes 4) ls, short_vx 0 (omega arith))

  pub levels_chunk : {t : List ℕ} {at : ℕ} → at + length (levels_bytes tag ls) ≤ length t → Chunk (levels_bytes tag ls) 2 tag (4 * length ls + 2) levels_body t at
  levels_chunk fits = record { is = rw levels_long; fits = fits }

-- the values of a record by its words
abbrev pub values : List ℕ → List (List ℕ)
values ws =
    levels_bytes (tag_number "COLR") (take 3 (drop 1 ws))
    ∷ levels_bytes (tag_number "DIFF") (take 1 (drop 4 ws))
    ∷ levels_bytes (tag_number "LUMI") (take 1 (drop 5 ws))
    ∷ levels_bytes (tag_number "SPEC") (take 1 (drop 6 ws))
    ∷ levels_bytes (tag_number "REFL") (take 1 (drop 7 ws))
    ∷ levels_bytes (tag_number "TRAN") (take 1 (drop 8 ws))
    ∷ chunk_bytes 2 "SIDE" (bytes 2 (get_or ws 9 0))
    ∷ []

values_of : (s : Surface) → value_bytes s ≡ joined (values (surface_words s))
unfolding value_bytes level_bytes chunk_bytes bytes joined number
values_of s = refl

pub values_are : (ws : List ℕ) → length ws ≡ record_size → value_bytes (surface_from ws) ≡ joined (values ws)
values_are ws long = values_of (surface_from ws) ∙ ap (λ (l : List ℕ). joined (values l)) (words_back ws long)

-- ---- one surface

module _ (name : Name) (s : Surface) where
  pub not_defined : (s.defined ≡ 1 → ⊥) → surface_chunk name s ≡ []
  not_defined other = rw (ne_eqb s.defined 1 other)

  pub surface_chunk_lem : {t : List ℕ} {at : ℕ} → s.defined ≡ 1 → at + length (surface_chunk name s) ≤ length t
      → BodyFirst (surface_chunk name s) (tag_number "SURF") (surface_bytes name s) t at
  unfolding bytes number
  surface_chunk_lem defined fits =
      let there : surface_chunk name s ≡ chunk_bytes 4 "SURF" (surface_bytes name s) = rw (eq-eqb s.defined 1 defined) in
      record { is = there ∙ chunk_is 4 (tag_number "SURF") "SURF" (surface_bytes name s) refl; fits = fits }

  pub surface_parts_lem : surface_bytes name s ≡ joined (string_bytes name ∷ string_bytes [] ∷ value_bytes s ∷ [])
  unfolding surface_bytes value_bytes joined
  surface_parts_lem = ap (λ (l : List ℕ). string_bytes name ++ (string_bytes [] ++ l)) (sym (append-nil (value_bytes s)))

-- the empty source
pub no_source : bytes 2 0 ≡ string_bytes []
unfolding bytes string_bytes
no_source = refl

-- ---- all surfaces

-- the chunk of a name, or none
abbrev chosen : Name → Surface → List (String × List ℕ)
chosen name s = if eqb s.defined 1 then ("SURF", surface_bytes name s) ∷ [] else []

one_surface : (name : Name) (s : Surface) → chunks_bytes (chosen name s) ≡ surface_chunk name s
unfolding joined
one_surface name s = go (eqb s.defined 1)
  where
    go : (b : Bool) → chunks_bytes (if b then ("SURF", surface_bytes name s) ∷ [] else []) ≡ (if b then chunk_bytes 4 "SURF" (surface_bytes name s) else [])
    go true = append-nil (chunk_bytes 4 "SURF" (surface_bytes name s))
    go false = refl

abbrev surfaces_bytes : (names name_bytes records : List ℕ) → List ℕ
surfaces_bytes ns bs ws = chunks_bytes (surface_chunks (pieces ns bs) (mesh_surfaces ws))

pub record SurfaceWalk (ns bs ws t : List ℕ) (at : ℕ) (t' : List ℕ) (next from : ℕ) (z : Both) : Type 0 where
  pub both : NamedRecords ns z
  pub agree : from + sum (names_left z) ≡ length bs
  pub fills : PutSoFar (surfaces_bytes ns bs ws) (surfaces_bytes (names_left z) (drop from bs) (words_left z)) t at t' next

module _ {ns bs ws t t' : List ℕ} {at next from : ℕ} {z : Both} (w : SurfaceWalk ns bs ws t at t' next from z) where
  pub end : NoneLeft z → Wrote t at (surfaces_bytes ns bs ws) t' next
  unfolding surface_chunks pieces joined
  end none = bytes_put.end w.fills (rw (named.end w.both none))

  module _ (u : Both) (n : ℕ) (x : List ℕ) (first : names_left z ≡ n ∷ names_left u) (step : NextEntry (zip_second z) (zip_second u) x) where
    abbrev name : List ℕ
    name = take (from + n - from) (drop from bs)

    counts : from + (n + sum (names_left u)) ≡ length bs
    unfolding sum
    counts = rw first at w.agree

    pub name_there : from + n ≤ length bs
    name_there = omega (arith, counts)

    one : NextPart (surfaces_bytes (names_left z) (drop from bs) (words_left z)) (surface_chunk name (surface_from x)) (surfaces_bytes (names_left u) (drop (from + n) bs) (words_left u))
    unfolding surface_chunks pieces
    one = record {
      is = rw (first, step.1.0, part from n bs, surfaces_next x (words_left u) (named.long w.both u n x first step), drop-drop n from bs)
          (joined_map_append encoded (chosen (take n (drop from bs)) (surface_from x)) (surface_chunks (pieces (names_left u) (drop (from + n) bs)) (mesh_surfaces (words_left u)))
          ∙ rw (one_surface (take n (drop from bs)) (surface_from x)));
    }

    pub surface_room : (length x ≡ record_size) × (next + length (surface_chunk name (surface_from x)) ≤ length t')
    surface_room = (named.long w.both u n x first step, bytes_put.room w.fills one)

    pub turn : {t'' : List ℕ} {last : ℕ} → Wrote t' next (surface_chunk name (surface_from x)) t'' last → SurfaceWalk ns bs ws t at t'' last (from + n) u
    turn v = record {
      both = named.turn w.both u n x first step;
      agree = omega (arith, counts);
      fills = bytes_put.turn w.fills one v;
    }
