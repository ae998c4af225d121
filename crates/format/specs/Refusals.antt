-- "Refusal numbers": the number and the place of each kind of fault. What a fault is about, and where exactly it lies, is kept; this page alone says what
-- of it is reported.
use Rattle.std.specs.Prelude.{ℕ, ◌+◌, Bool, ◌||◌, eqb}
use Rattle.format.specs.declared.Fault.{Fault}
use Rattle.format.specs.declared.Fault.TheVariants.{FileTooLong, NotForm, FormLength, BadHeader, OutOfOrder, WrongLength, ItemCut, StringOpen, LongIndex, NotFinite, VertexCount, VertexNumber, SurfaceNumber, PolygonNumber, PolygonType, BadName, DetailSurface, SurfaceValue}
use Rattle.format.specs.Bytes.{between}

unfoldable pub number_of : Fault → ℕ
number_of FileTooLong = 1  -- file too long
number_of NotForm = 2  -- under 12 bytes, not FORM, or type neither LWOB nor LWO2
number_of FormLength = 3  -- FORM length is not file length less 8
number_of BadHeader = 4  -- header cut, tag byte outside 32..126, length past the parent's end, pad byte missing or not zero
number_of OutOfOrder = 5  -- something that must come earlier is missing, or a single chunk comes twice
number_of WrongLength = 6  -- wrong body length (bytes left over; LWOB PNTS over 65,536 points)
number_of ItemCut = 19  -- item (no string) cut by its chunk's end
number_of StringOpen = 20  -- string without terminator or zero pad
number_of LongIndex = 22  -- long form for an index below 65,280
number_of NotFinite = 7  -- coordinate or level not finite
number_of VertexCount = 8  -- vertex count not allowed
number_of VertexNumber = 9  -- vertex number not below the latest point list's length
number_of SurfaceNumber = 10  -- surface number or tag names nothing
number_of PolygonNumber = 11  -- polygon number not below the latest POLS's count
number_of PolygonType = 12  -- POLS type neither FACE nor PTCH
number_of BadName = 13  -- in TAGS or SRFS only: name over 255 bytes, or equal to an earlier name there
number_of DetailSurface = 14  -- a detail polygon with a negative surface number
number_of SurfaceValue = 15  -- SIDE neither 1 nor 3, or BLOK empty or with another first sub-chunk

-- the numbers of a chunk's faults: "4 to 15, 19 and 20", and 22 of #107
abbrev pub is_of_chunk : ℕ → Bool
is_of_chunk number = between 4 15 number || between 19 20 number || eqb number 22

-- and those of the file reader: 1, 2 and 3, of the whole file, and a chunk's
abbrev pub is_of_reader : ℕ → Bool
is_of_reader number = between 1 3 number || is_of_chunk number

-- "NO ROOM: table or output too short", "writer: not a mesh", "writer: canonical file too long"
abbrev pub no_room_number : ℕ
no_room_number = 16

abbrev pub not_mesh_number : ℕ
not_mesh_number = 17

abbrev pub too_long_number : ℕ
too_long_number = 18

-- "For 4 to 15, 19 and 20 the place, demand 1's too, becomes the offset of the first byte of the header, item or string at fault", which lies `at` bytes after
-- the tag of its top-level chunk. Of 22 it is "the index's first byte".
abbrev pub place_of : (chunk at : ℕ) → ℕ
place_of chunk at = chunk + at
