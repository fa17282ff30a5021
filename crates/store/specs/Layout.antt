-- How a package lies in its buffer: a header, one slot for each row, and the heap with the rows' bytes.
-- Assumes nothing.
use Rattle.std.specs.Prelude.{ℕ, ◌+◌, ◌-◌, ◌*◌, ◌^◌, min, List, [], ◌∷◌, ◌++◌, length, get_or}
use Prim.Native.Char.{code}
use Rattle.base.specs.Buffer.{part}
use Rattle.store.specs.Buffer.{num4, le4}

abbrev pub header_size : ℕ
header_size = 64

abbrev pub slot_size : ℕ
slot_size = 24

abbrev pub slot_count : ℕ
slot_count = 640

abbrev pub heap_start : ℕ
heap_start = 32768

-- the greatest capacity that a start takes
abbrev pub max_capacity : ℕ
max_capacity = 1000000

-- The header's bytes 0 to 6 are the mark of every package,
unfoldable pub mark : List ℕ
mark = code "O" ∷ code "P" ∷ code "C" ∷ code "P" ∷ code "A" ∷ code "C" ∷ code "K" ∷ []

-- byte 7 tells the kind of package,
abbrev pub format_of : List ℕ → ℕ
format_of b = get_or b 7 0

abbrev pub package_format : ℕ
package_format = 1

-- then come the capacity, the number of rows, the bytes of the heap that the rows use, and the end of the last of them:
-- rows that were taken out leave gaps below it, and from it on the heap is free.
abbrev pub cap_of : List ℕ → ℕ
cap_of b = num4 b 8

abbrev pub count_of : List ℕ → ℕ
count_of b = num4 b 12

abbrev pub used_of : List ℕ → ℕ
used_of b = num4 b 16

abbrev pub end_of : List ℕ → ℕ
end_of b = num4 b 20

-- the bytes of the heap: all that the buffer has behind the slots, as far as a number of four bytes reaches
abbrev pub heap_size : List ℕ → ℕ
heap_size b = min (length b - heap_start) (2 ^ 32 - 1)

-- where slot i begins, and its bytes
abbrev pub slot_at : ℕ → ℕ
slot_at i = header_size + slot_size * i

abbrev pub slot_of : List ℕ → ℕ → List ℕ
slot_of b i = part (slot_at i) slot_size b

-- a slot's six numbers: the offset in the heap, the lengths of four fields, the tag
unfoldable pub slot_bytes : ℕ → ℕ → ℕ → ℕ → ℕ → ℕ → List ℕ
slot_bytes o a b c d t = le4 o ++ (le4 a ++ (le4 b ++ (le4 c ++ (le4 d ++ le4 t))))

abbrev pub off_of : List ℕ → ℕ
off_of s = num4 s 0

abbrev pub size_of : List ℕ → ℕ
size_of s = num4 s 4 + num4 s 8 + num4 s 12 + num4 s 16
