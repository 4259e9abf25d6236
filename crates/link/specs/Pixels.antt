-- The pixel kinds: gray, RGB and CMYK over any width of a channel, and the four that programs use.
use Rattle.std.specs.Prelude.{ℕ, List, [], ◌∷◌}
use Rattle.meaning.specs.declared.Channels.TheVariants.{One, Three, Four}
use Rattle.meaning.specs.Kinds.{Kind, stored}
use Rattle.meaning.specs.Samples.{Width, eight_bits, sixteen_bits}
use Rattle.link.specs.declared.pixel.Gray.{Gray}
use Rattle.link.specs.declared.pixel.Rgb.{Rgb}
use Rattle.link.specs.declared.pixel.Cmyk.{Cmyk}

-- a pixel's samples in the order of the channels, and the pixel of given samples: gray
abbrev pub gray_samples : {S : Type 0} → Gray S → List S
gray_samples p = p.value ∷ []

abbrev pub gray_of : {S : Type 0} → (ℕ → S) → Gray S
gray_of f = record { value = f 0 }

-- red, green and blue
abbrev pub rgb_samples : {S : Type 0} → Rgb S → List S
rgb_samples p = p.red ∷ p.green ∷ p.blue ∷ []

abbrev pub rgb_of : {S : Type 0} → (ℕ → S) → Rgb S
rgb_of f = record { red = f 0; green = f 1; blue = f 2 }

-- cyan, magenta, yellow and black
abbrev pub cmyk_samples : {S : Type 0} → Cmyk S → List S
cmyk_samples p = p.cyan ∷ p.magenta ∷ p.yellow ∷ p.black ∷ []

abbrev pub cmyk_of : {S : Type 0} → (ℕ → S) → Cmyk S
cmyk_of f = record { cyan = f 0; magenta = f 1; yellow = f 2; black = f 3 }

-- one channel, three and four, over any width
abbrev pub gray : {S : Type 0} → Width S → Kind (Gray S)
gray w = stored One w gray_samples gray_of

abbrev pub rgb : {S : Type 0} → Width S → Kind (Rgb S)
rgb w = stored Three w rgb_samples rgb_of

abbrev pub cmyk : {S : Type 0} → Width S → Kind (Cmyk S)
cmyk w = stored Four w cmyk_samples cmyk_of

-- one channel of eight bits
abbrev pub gray8 : Kind (Gray ℕ)
gray8 = gray eight_bits

-- three channels of eight bits
abbrev pub rgb8 : Kind (Rgb ℕ)
rgb8 = rgb eight_bits

-- four channels of eight bits
abbrev pub cmyk8 : Kind (Cmyk ℕ)
cmyk8 = cmyk eight_bits

-- three channels of sixteen bits
abbrev pub rgb16 : Kind (Rgb ℕ)
rgb16 = rgb sixteen_bits
