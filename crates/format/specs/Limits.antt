-- "Numbers that bound the work".
use Rattle.std.specs.Prelude.{ℕ}

-- "File read or written: at most 16,777,216 bytes."
abbrev pub file_limit : ℕ
file_limit = 16777216

-- "Name: at most 255 bytes."
abbrev pub name_limit : ℕ
name_limit = 255

-- "Vertices per polygon: 1 to 200 in LWOB, 1 to 1,023 in LWO2."
abbrev pub lwob_vertex_limit : ℕ
lwob_vertex_limit = 200

abbrev pub lwo2_vertex_limit : ℕ
lwo2_vertex_limit = 1023

-- "Points in LWOB: at most 65,536."
abbrev pub lwob_point_limit : ℕ
lwob_point_limit = 65536

-- 17: "over 16,777,216 entries"
abbrev pub entry_limit : ℕ
entry_limit = 16777216

-- 17: "a surface above the name count or 65,536"; #111: "A part above the name count or 65,536 is 17." A tag has two bytes.
abbrev pub tag_limit : ℕ
tag_limit = 65536
