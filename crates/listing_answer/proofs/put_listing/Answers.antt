-- A refusal's line alone, or the counts and then the polygons in as much of the tables as is counted.
use mathlib.Core.Path.{◌≡◌, refl, sym}
use native.Mathlib.Omega.{arith}
use Rattle.listing_answer.proofs.ListingParts.{numbered, refused, words_there, vertices_there, lines_lent, accepted}
use Rattle.listing_answer.proofs.put_listing.Goals as goal

pub returns-in-Err : goal.returns-in-Err
returns-in-Err c =
    rw c.in-Err.is (refused (rw c.in-Err.is at c.requires) (numbered c.in-Err.error) c.number.ensures (rw c.place.ensures at c.put_refusal.ensures))

pub overflow_mul-words : goal.overflow_mul-words
overflow_mul-words c =
    let w = rw c.in-Ok.is at c.requires in
    omega (arith, (w.counts_held refl).enough)

pub slice_bounds-put_polygons-end : goal.slice_bounds-put_polygons-end
slice_bounds-put_polygons-end c = sym (words_there (rw c.in-Ok.is at c.requires) refl)

pub slice_bounds-put_polygons-end-in-Ok : goal.slice_bounds-put_polygons-end-in-Ok
slice_bounds-put_polygons-end-in-Ok c = sym (vertices_there (rw c.in-Ok.is at c.requires) refl)

pub put_polygons-requires : goal.put_polygons-requires
put_polygons-requires c = lines_lent (rw c.in-Ok.is at c.requires) refl c.put_counts-next.ensures

pub returns-in-Ok : goal.returns-in-Ok
returns-in-Ok c = rw c.in-Ok.is (accepted (rw c.in-Ok.is at c.requires) refl c.put_counts-next.ensures c.put_polygons.ensures)
