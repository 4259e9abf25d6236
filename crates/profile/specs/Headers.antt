-- The header of a profile: its checks in their order, and what it names.
use Rattle.std.specs.Prelude.{ℕ, ◌&&◌, Bool, List, [], ◌∷◌, length, nat_le, ◌==◌}
use Rattle.std.specs.Option.{is_some, unwrap_or}
use Rattle.profile.specs.declared.fault.Fault.{Fault}
use Rattle.profile.specs.declared.fault.Fault.TheVariants.{Length, Magic, ColourSpace, OtherSpace}
use Rattle.profile.specs.declared.header.Header.{Header}
use Rattle.profile.specs.declared.space.Space.{Space}
use Rattle.profile.specs.declared.space.Space.TheVariants.{Gray}
use Rattle.profile.specs.declared.tag.Tag.{Tag}
use Rattle.profile.specs.declared.tag.Tag.TheVariants.{A2B0, B2A0}
use Rattle.profile.specs.Bytes.{word}
use Rattle.profile.specs.Checks.{Check}
use Rattle.profile.specs.Spaces.{space_of}

-- from 132 to 16,777,216 bytes, as many as the first four tell
abbrev pub length_fits : List ℕ → Bool
length_fits b = nat_le 132 (length b) && nat_le (length b) 16777216 && word b 0 == length b

-- the length; the letters acsp at 36; a known colour space at 16, and another known space at 20
abbrev pub header_checks : List ℕ → List (Check Fault)
header_checks b =
    (length_fits b, Length)
    ∷ (word b 36 == 0x61637370, Magic)
    ∷ (is_some (space_of (word b 16)), ColourSpace)
    ∷ (is_some (space_of (word b 20)), OtherSpace)
    ∷ []

-- the space that the bytes at a place name; where they name none, a check fails, and this one is not looked at
abbrev pub space_at : List ℕ → ℕ → Space
space_at b k = unwrap_or (space_of (word b k)) Gray

abbrev pub header : List ℕ → Header
header b = record { colour = space_at b 16; other = space_at b 20 }

-- the space that an element takes, and the one that it gives: B2A0 goes the other way
abbrev pub space_in : Header → Tag → Space
space_in h A2B0 = h.colour
space_in h B2A0 = h.other

abbrev pub space_out : Header → Tag → Space
space_out h A2B0 = h.other
space_out h B2A0 = h.colour
