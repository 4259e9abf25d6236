-- Numbers in a list of bytes, the high byte first; beyond the list a byte reads as 0.
use Rattle.std.specs.Prelude.{ℕ, ◌+◌, ◌*◌, List, slice_index}

-- the four bytes at a place as one number
abbrev pub word : List ℕ → ℕ → ℕ
word b k = 16777216 * slice_index b k + 65536 * slice_index b (k + 1) + 256 * slice_index b (k + 2) + slice_index b (k + 3)

-- the two bytes at a place as one number
abbrev pub half : List ℕ → ℕ → ℕ
half b k = 256 * slice_index b k + slice_index b (k + 1)
