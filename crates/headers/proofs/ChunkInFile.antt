-- A chunk whose header was read at a place of the file is the first of the chunks from there on: its body, those after it, where they start, its length as lent.
use mathlib.Core.Path.{◌≡◌, sym}
use mathlib.Core.List.{List}
use Prim.Native.Nat.{ℕ, ◌+◌, ◌-◌}
use native.Mathlib.Omega.{arith}
use Rattle.std.specs.Prelude.{Ok}
use lib.ListN.{length, take, drop, length-take, length-drop}
use lib.Seq.{drop-drop}
use Rattle.format.specs.Chunks.{size_of, chunk, chunks}
use Rattle.format.proofs.Indexed.{part_of_front}
use Rattle.format.proofs.ReaderSteps.{exactly}
use Rattle.format.proofs.Tiling.{framed, next_chunk}
use Rattle.headers.specs.declared.Header.{Header}
use Rattle.headers.specs.Promises.{HeaderAt}

module _ {file : List ℕ} {at : ℕ} {head : Header} (h : HeaderAt 4 file at (Ok head)) where
  pub body : drop (at + 8) (take head.end file) ≡ drop 8 (take (head.end - at) (drop at file))
  body =
      let ends : at + (head.end - at) ≡ head.end = omega (arith, h.inside.0) in
      rw (← part_of_front at (head.end - at) file (omega (arith, h.inside)), ends, drop-drop 8 at (take head.end file))

  pub front : chunks (drop at file) ≡ chunk head.tag (drop (at + 8) (take head.end file)) (chunks (drop head.next.at file))
  front = next_chunk at (drop at file) _ (exactly h.reads.says)

  pub size : at + size_of 4 (length (drop (at + 8) (take head.end file))) ≡ head.next.at
  size = sym (framed at (drop at file) _ (exactly h.reads.says)).size

  pub long : length (take (head.end - at) (drop at file)) ≡ head.end - at
  long = rw (length-take (head.end - at) (drop at file), length-drop at file) (omega (arith, h.inside))
