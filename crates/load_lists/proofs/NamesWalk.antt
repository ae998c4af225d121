-- The walk up to the chunk that holds the names: no part before it has any, and, since a file lists its names once, no part after it.
use mathlib.Core.Path.{◌≡◌, refl, sym, ap, subst, ◌∙◌}
use mathlib.Core.List.{List, [], ◌∷◌, ◌++◌, map, append-nil}
use mathlib.Core.Bool.{true, false}
use Prim.Native.Nat.{ℕ, ◌≤◌}
use native.Mathlib.Omega.{arith}
use lib.ListN.{length, drop, length-map}
use Rattle.format.specs.declared.Kind.{Kind}
use Rattle.format.specs.Bytes.{joined}
use Rattle.format.specs.Items.{fine}
use Rattle.format.specs.Chunks.{chunks}
use Rattle.format.specs.Mesh.{Name}
use Rattle.format.specs.Bodies.{Part, name_list, names_body}
use Rattle.format.specs.Rules.{added, Before, after, judge, names_of}
use Rattle.format.specs.Promises.{Put, walk_parts, file_parts, FileRoom, FilePut, names_of_parts, names_tag}
use Rattle.format.proofs.Facts.{impossible}
use Rattle.format.proofs.Puts.{joined_map_append, put_none}
use Rattle.format.proofs.Verdicts.{same_fine}
use Rattle.format.proofs.PartByTag.{Made, holds_names, always}
use Rattle.format.proofs.OneNameList.{no_more_names}
use Rattle.headers.proofs.FileWalk.{WalkedTo, ChunkHere, begin, end, all_parts, after_chunk}
use Rattle.load_lists.specs.Promises.{NamesRoom, NamesPut, file_name_lengths, file_name_bytes}

-- ---- a chunk that holds no names

no_names : (kind : Kind) (b : Before) (t : ℕ) (body : List ℕ) (part : Part) → names_tag kind t ≡ false → judge kind b t body ≡ fine part → names_of part ≡ []
unfolding added
no_names kind b t body part other j =
    (always (λ part. names_of part ≡ []) kind b t
    (record {
      of_points = λ e ps. refl;
      of_names = λ e missing ns. impossible (cc (sym e ∙ other));
      of_polygons = λ ok ps n. refl;
      of_tagging = λ ok type ts. refl;
      of_surface = λ e s. refl;
      of_layer = refl;
      of_skipped = refl;
    })
    ).each body part j

-- ---- room in the tables

-- the names of the file, which its two tables have room for
pub record NamesFit (kind : Kind) (file lengths bytes : List ℕ) : Type 0 where
  pub lengths_room : FileRoom file_name_lengths kind file lengths
  pub bytes_room : FileRoom file_name_bytes kind file bytes

module _ {kind : Kind} {file lengths bytes : List ℕ} (r : NamesFit kind file lengths bytes) {parts : List Part} (sound : file_parts kind file ≡ fine parts) where
  lengths_fit : length (names_of_parts parts) ≤ length lengths
  lengths_fit =
      let same : r.lengths_room.parts ≡ parts = same_fine (sym r.lengths_room.sound ∙ sound) in
      let all = rw same at r.lengths_room.fits in
      omega (arith, all, length-map (names_of_parts parts) length)

  bytes_fit : length (joined (names_of_parts parts)) ≤ length bytes
  bytes_fit =
      let same : r.bytes_room.parts ≡ parts = same_fine (sym r.bytes_room.sound ∙ sound) in
      rw same at r.bytes_room.fits

  -- from tables that are still as they were
  puts : {ns : List Name} → names_of_parts parts ≡ ns → {lengths₁ bytes₁ lengths' bytes' : List ℕ} → lengths₁ ≡ lengths → bytes₁ ≡ bytes
      → Put lengths₁ 0 (map length ns) lengths' → Put bytes₁ 0 (joined ns) bytes'
      → FilePut file_name_lengths kind file lengths lengths' × FilePut file_name_bytes kind file bytes bytes'
  puts are same_lengths same_bytes p q = (
    record { put = λ all e. rw (same_fine (sym e ∙ sound), are, ← same_lengths) p },
    record { put = λ all e. rw (same_fine (sym e ∙ sound), are, ← same_bytes) q },
  )

-- ---- the walk

-- one part of all is the names
only_these : (done later : List Part) {part : Part} {ns : List Name} → names_of_parts done ≡ [] → part ≡ name_list ns → names_of_parts later ≡ []
    → names_of_parts (done ++ (part ∷ later)) ≡ ns
unfolding joined added
only_these done later {part} {ns} none_before is none_after = joined_map_append names_of done (part ∷ later) ∙ rw (none_before, is, none_after) (append-nil ns)

-- no chunk up to here held names, and the tables are as they were
pub record NoNamesTo (kind : Kind) (file lengths₀ bytes₀ : List ℕ) (at : ℕ) (lengths bytes : List ℕ) : Type 0 where
  pub names_fit : NamesFit kind file lengths₀ bytes₀
  pub parts : List Part
  pub sound : file_parts kind file ≡ fine parts
  pub done : List Part
  pub walked : WalkedTo kind file parts done at
  pub none_yet : names_of_parts done ≡ []
  pub same_lengths : lengths ≡ lengths₀
  pub same_bytes : bytes ≡ bytes₀

pub none_at_start : {kind : Kind} {file lengths bytes : List ℕ} → FileRoom file_name_lengths kind file lengths × FileRoom file_name_bytes kind file bytes
    → NoNamesTo kind file lengths bytes 12 lengths bytes
unfolding joined
none_at_start r = record {
  names_fit = record { lengths_room = r.0; bytes_room = r.1 };
  parts = r.0.parts;
  sound = r.0.sound;
  done = [];
  walked = begin r.0.sound;
  none_yet = refl;
  same_lengths = refl;
  same_bytes = refl;
}

module _ {kind : Kind} {file lengths₀ bytes₀ : List ℕ} {at : ℕ} {lengths bytes : List ℕ} (k : NoNamesTo kind file lengths₀ bytes₀ at lengths bytes) where
  pub unlisted : length file ≤ at → FilePut file_name_lengths kind file lengths₀ lengths × FilePut file_name_bytes kind file bytes₀ bytes
  unfolding joined
  unlisted h =
      let nothing : names_of_parts k.parts ≡ [] = ap names_of_parts (sym (end k.walked h)) ∙ k.none_yet in
      puts k.names_fit k.sound nothing k.same_lengths k.same_bytes (put_none lengths 0) (put_none bytes 0)

  module _ {tag onto : ℕ} {s : List ℕ} (t : ChunkHere k.walked tag s onto) where
    pub other : names_tag kind tag ≡ false → NoNamesTo kind file lengths₀ bytes₀ onto lengths bytes
    unfolding joined
    other e =
        let nothing : names_of t.part ≡ [] = no_names kind k.walked.before tag (drop 8 s) t.part e t.here in
        record {
          names_fit = k.names_fit;
          parts = k.parts;
          sound = k.sound;
          done = k.done ++ (t.part ∷ []);
          walked = after_chunk k.walked t;
          none_yet = joined_map_append names_of k.done (t.part ∷ []) ∙ rw (k.none_yet, nothing);
          same_lengths = k.same_lengths;
          same_bytes = k.same_bytes;
        }

    module _ (e : names_tag kind tag ≡ true) where
      this : Made name_list names_body (drop 8 s) t.part
      this = (holds_names kind e).each k.walked.before (drop 8 s) t.part t.here

      all_of_them : names_of_parts k.parts ≡ this.of
      unfolding after
      all_of_them =
          let b = k.walked.before in
          let onward = subst (λ part. walk_parts kind (after b part) onto (chunks (drop onto file)) ≡ fine t.later) this.part_is t.onward in
          let none_after : names_of_parts t.later ≡ [] = no_more_names kind (after b (name_list this.of)) (length this.of) onto (chunks (drop onto file)) t.later refl onward in
          ap names_of_parts (sym (all_parts k.walked t)) ∙ only_these k.done t.later k.none_yet this.part_is none_after

      pub names_room : NamesRoom s lengths 0 bytes 0
      names_room = record {
        listed = this.of;
        sound = this.sound;
        lengths_fit = omega (arith, ap length all_of_them, ap length k.same_lengths, lengths_fit k.names_fit k.sound);
        bytes_fit = omega (arith, ap (λ ns. length (joined ns)) all_of_them, ap length k.same_bytes, bytes_fit k.names_fit k.sound);
      }

      pub found : {lengths' bytes' : List ℕ} → NamesPut s lengths 0 lengths' bytes 0 bytes'
          → FilePut file_name_lengths kind file lengths₀ lengths' × FilePut file_name_bytes kind file bytes₀ bytes'
      found p = puts k.names_fit k.sound all_of_them k.same_lengths k.same_bytes (p.put_lengths this.of this.sound) (p.put_bytes this.of this.sound)
