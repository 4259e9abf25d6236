-- The two elements that can be opened.
use Rattle.std.specs.Prelude.{ℕ}
use Rattle.profile.specs.declared.tag.Tag.{Tag}
use Rattle.profile.specs.declared.tag.Tag.TheVariants.{A2B0, B2A0}

-- the letters A2B0 or B2A0 as one number
abbrev pub signature : Tag → ℕ
signature A2B0 = 0x41324230
signature B2A0 = 0x42324130
