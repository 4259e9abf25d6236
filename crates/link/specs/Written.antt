-- A full link as the bytes of a lut16 element.
use Rattle.std.specs.Prelude.{ℕ, zero, suc, ◌+◌, ◌*◌, ◌/◌, ◌%◌, List, [], ◌∷◌, ◌++◌, length, take, drop, codes}
use Rattle.meaning.specs.declared.Channels.{Channels}
use Rattle.meaning.specs.Colours.{number}

-- the letters of the type, four reserved bytes, the in-channels, the out-channels, the grid points, and one reserved byte
abbrev pub first_bytes : Channels → Channels → ℕ → List ℕ
first_bytes i o g = codes "mft2" ++ (0 ∷ 0 ∷ 0 ∷ 0 ∷ number i ∷ number o ∷ g ∷ 0 ∷ [])

-- 1 as a number of 32 bits in 65,536ths, and 0
abbrev pub one : List ℕ
one = 0 ∷ 1 ∷ 0 ∷ 0 ∷ []

abbrev pub nought : List ℕ
nought = 0 ∷ 0 ∷ 0 ∷ 0 ∷ []

-- the matrix that changes nothing, row after row
abbrev pub identity_bytes : List ℕ
identity_bytes = one ++ nought ++ nought ++ nought ++ one ++ nought ++ nought ++ nought ++ one

-- two entries in each input table, and two in each output table
abbrev pub length_bytes : List ℕ
length_bytes = 0 ∷ 2 ∷ 0 ∷ 2 ∷ []

-- the bytes in front of the tables
unfoldable pub head_bytes : Channels → Channels → ℕ → List ℕ
head_bytes i o g = first_bytes i o g ++ identity_bytes ++ length_bytes

-- for each channel the table 0, 65,535, which changes nothing
unfoldable pub straight_tables : ℕ → List ℕ
straight_tables zero = []
straight_tables (suc n) = 0 ∷ 0 ∷ 255 ∷ 255 ∷ straight_tables n

-- two bytes for each number, the high one first
unfoldable pub two_bytes_each : List ℕ → List ℕ
two_bytes_each [] = []
two_bytes_each (v ∷ vs) = v / 256 ∷ v % 256 ∷ two_bytes_each vs

-- the element of a link from i to o channels with g grid points and these nodes
abbrev pub written : Channels → Channels → ℕ → List ℕ → List ℕ
written i o g nodes = head_bytes i o g ++ straight_tables (number i) ++ two_bytes_each nodes ++ straight_tables (number o)

-- how many bytes these are, for so many numbers in the nodes
abbrev pub written_length : Channels → Channels → ℕ → ℕ
written_length i o numbers = 52 + 4 * number i + 2 * numbers + 4 * number o

-- bytes put over those that a list has from a place on
unfoldable pub put_over : List ℕ → ℕ → List ℕ → List ℕ
put_over old at bytes = take at old ++ (bytes ++ drop (at + length bytes) old)
