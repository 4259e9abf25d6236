-- The colour spaces that a profile can name, and their channels.
use Rattle.std.specs.Prelude.{ℕ, cond, Some, None, Option, ◌==◌}
use Rattle.meaning.specs.declared.Channels.{Channels}
use Rattle.meaning.specs.declared.Channels.TheVariants.{One, Three, Four}
use Rattle.profile.specs.declared.space.Space.{Space}
use Rattle.profile.specs.declared.space.Space.TheVariants.{Gray, Rgb, Cmyk, Lab, Xyz}

-- the space with a signature: the letters GRAY, RGB and a blank, CMYK, Lab and a blank, XYZ and a blank, as one number
abbrev pub space_of : ℕ → Option Space
space_of w =
    cond (w == 0x47524159) (Some Gray)
    (cond (w == 0x52474220) (Some Rgb)
    (cond (w == 0x434d594b) (Some Cmyk)
    (cond (w == 0x4c616220) (Some Lab)
    (cond (w == 0x58595a20) (Some Xyz) None))))

abbrev pub channels_of : Space → Channels
channels_of Gray = One
channels_of Rgb = Three
channels_of Cmyk = Four
channels_of Lab = Three
channels_of Xyz = Three

-- a space's signature; no two spaces have the same
abbrev pub letters : Space → ℕ
letters Gray = 0x47524159
letters Rgb = 0x52474220
letters Cmyk = 0x434d594b
letters Lab = 0x4c616220
letters Xyz = 0x58595a20
