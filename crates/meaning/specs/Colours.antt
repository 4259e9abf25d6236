-- Colours, exact colours, and how an exact value is rounded to a colour.
use Rattle.std.specs.Prelude.{◌≡◌, ℕ, ◌+◌, ◌-◌, ◌*◌, ◌/◌, ◌<◌, ◌≤◌, cond, List, map, length, nat_lt, slice_index}
use Rattle.std.specs.List.{range_with_len}
use Rattle.meaning.specs.declared.Channels.{Channels}
use Rattle.meaning.specs.declared.Channels.TheVariants.{One, Three, Four}

-- a colour has four channels
abbrev pub channels : ℕ
channels = 4

-- the largest count of a channel
abbrev pub max_count : ℕ
max_count = 65535

-- a grain is one 65,536th of a count
abbrev pub grains : ℕ
grains = 65536

-- the whole range of a channel, 65,535 counts, in grains
abbrev pub full_range : ℕ
full_range = 4294901760

-- half a count, in grains
abbrev pub half_count : ℕ
half_count = 32768

-- how many channels a stage or a pixel kind may have
abbrev pub number : Channels → ℕ
number One = 1
number Three = 3
number Four = 4

-- channel k of a list of channels; beyond its end it reads as 0
abbrev pub at : List ℕ → ℕ → ℕ
at c k = slice_index c k

-- a colour: four channels, each a count from 0 to 65,535
pub record Colour (c : List ℕ) : Type 0 where
  pub long : length c ≡ channels
  pub within : (k : ℕ) → at c k ≤ max_count

-- four numerators over one denominator: the value of channel k is nums k / den counts
pub record Exact : Type 0 where
  pub nums : List ℕ
  pub den : ℕ

-- the numerator of channel k
abbrev pub num : Exact → ℕ → ℕ
num x k = at x.nums k

-- an exact colour: each channel's value is from 0 to 65,535 counts
pub record Valid (x : Exact) : Type 0 where
  pub long : length x.nums ≡ channels
  pub positive : 0 < x.den
  pub within : (k : ℕ) → num x k ≤ max_count * x.den

-- a colour, written over the denominator 1
abbrev pub whole : List ℕ → Exact
whole c = record { nums = c; den = 1 }

-- the same colour, written n times larger
abbrev pub scale : ℕ → Exact → Exact
scale n x = record { nums = map (λ a. n * a) x.nums; den = n * x.den }

-- four channels: the first n by a function of the channel, the others 0
unfoldable pub spread : ℕ → (ℕ → ℕ) → List ℕ
spread n f = map (λ k. cond (nat_lt k n) (f k) 0) (range_with_len 0 channels)

-- a/d rounded to the nearest whole number, halves upward
abbrev pub rounded : ℕ → ℕ → ℕ
rounded a d = (2 * a + d) / (2 * d)

-- the colour nearest to an exact colour, halves upward in each channel
abbrev pub nearest : Exact → List ℕ
nearest x = map (λ a. rounded a x.den) x.nums

-- a/d rounded up to a whole number
abbrev pub ceiling : ℕ → ℕ → ℕ
ceiling a d = (a + (d - 1)) / d
