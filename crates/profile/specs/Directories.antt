-- The directory of a profile: from byte 132 on records of 12 bytes, each with a signature, an offset and a size.
use Rattle.std.specs.Prelude.{◌≡◌, ◌≢◌, ℕ, ◌+◌, ◌*◌, ◌<◌, ◌&&◌, List, [], ◌∷◌, map, length, nat_le, ◌==◌, Option}
use Rattle.std.specs.List.{find, range_with_len}
use Rattle.std.specs.Option.{is_some, unwrap_or}
use Rattle.profile.specs.declared.fault.Fault.{Fault}
use Rattle.profile.specs.declared.fault.Fault.TheVariants.{Records, Absent, Outside}
use Rattle.profile.specs.declared.directory.Found.{Found}
use Rattle.profile.specs.Bytes.{word}
use Rattle.profile.specs.Checks.{Check}

-- how many records there are
abbrev pub records : List ℕ → ℕ
records b = word b 128

-- the place behind the last one
abbrev pub records_end : List ℕ → ℕ
records_end b = 132 + 12 * records b

-- the place of record k, counted from 0
abbrev pub record_at : ℕ → ℕ
record_at k = 132 + 12 * k

-- the places of n records, one after the other
abbrev pub record_places : ℕ → List ℕ
record_places n = map (λ k. 132 + 12 * k) (range_with_len 0 n)

-- the place of the first of n records that has the signature w
abbrev pub first_record : List ℕ → ℕ → ℕ → Option ℕ
first_record b w n = find (λ p. word b p == w) (record_places n)

-- record k is the first of the directory that has the signature w
pub record FirstWith (b : List ℕ) (w k : ℕ) : Type 0 where
  pub listed : k < records b
  pub named : word b (record_at k) ≡ w
  pub earlier : (j : ℕ) → j < k → word b (record_at j) ≢ w

-- the first record of the directory that has it
abbrev pub search : List ℕ → ℕ → Option ℕ
search b w = first_record b w (records b)

-- its place; where there is none, a check fails, and this one is not looked at
abbrev pub record_place : List ℕ → ℕ → ℕ
record_place b w = unwrap_or (search b w) 0

-- the offset and the size of the element that it tells of
abbrev pub offset : List ℕ → ℕ → ℕ
offset b w = word b (record_place b w + 4)

abbrev pub size : List ℕ → ℕ → ℕ
size b w = word b (record_place b w + 8)

-- at most 64 records, all of them in the file; one that has the signature; its element behind the records and in the file
abbrev pub directory_checks : List ℕ → ℕ → List (Check Fault)
directory_checks b w =
    (nat_le (records b) 64 && nat_le (records_end b) (length b), Records)
    ∷ (is_some (search b w), Absent)
    ∷ (nat_le (records_end b) (offset b w) && nat_le (offset b w + size b w) (length b), Outside (record_place b w))
    ∷ []

abbrev pub found : List ℕ → ℕ → Found
found b w = record { offset = offset b w; size = size b w }
