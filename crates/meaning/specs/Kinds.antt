-- Pixel kinds: which colour a pixel shows, how a pixel is made from a colour, and what every kind keeps.
use Rattle.std.specs.Prelude.{◌≡◌, ℕ, ◌-◌, ◌*◌, ◌<◌, ◌≤◌, List, ◌++◌, map, length, replicate}
use Rattle.meaning.specs.declared.Channels.{Channels}
use Rattle.meaning.specs.Colours.{channels, grains, full_range, number, at, Colour}
use Rattle.meaning.specs.Distances.{gap}
use Rattle.meaning.specs.Samples.{Width, shown_count}

-- a pixel kind: its channels, the colour that a pixel shows, the pixel made from a colour, and how far (in grains)
-- a made pixel's counts may lie from that colour's
pub record Kind (P : Type 0) : Type 0 where
  pub channels : Channels
  pub shown : P → List ℕ
  pub made : List ℕ → P
  pub error : ℕ

-- what every pixel kind keeps
pub record LawfulKind {P : Type 0} (k : Kind P) : Type 0 where
  pub error_limit : k.error ≤ full_range
  -- what a pixel shows is a colour, 0 beyond the kind's channels
  pub shows : (p : P) → Colour (k.shown p)
  pub zero_beyond : (p : P) (j : ℕ) → number k.channels ≤ j → at (k.shown p) j ≡ 0
  -- a pixel made from a colour is within the error of it in each channel of the kind
  pub close : (c : List ℕ) → Colour c → (j : ℕ) → j < number k.channels → gap (at (k.shown (k.made c)) j) (at c j) * grains ≤ k.error
  -- showing a pixel and making it again loses nothing of what it shows
  pub back : (p : P) → k.shown (k.made (k.shown p)) ≡ k.shown p

-- the channels that follow are 0
abbrev pub padded : List ℕ → List ℕ
padded cs = cs ++ replicate (channels - length cs) 0

-- a kind whose samples are all of one width: a pixel's samples in the order of the channels, and the pixel of which
-- channel k holds a given sample
abbrev pub stored : {S P : Type 0} → Channels → Width S → (P → List S) → ((ℕ → S) → P) → Kind P
stored n w samples pixel = record {
  channels = n;
  shown = λ p. padded (map (shown_count w) (samples p));
  made = λ c. pixel (λ k. w.nearest (at c k));
  error = w.error;
}
