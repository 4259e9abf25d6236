-- A row of pixels sent through a stage: when it is refused, what it leaves, and how near that is to the exact values.
use Rattle.std.specs.Prelude.{◌≡◌, ℕ, ◌+◌, ◌*◌, ◌<◌, ◌≤◌, min, ◌&&◌, List, [], ◌∷◌, map, length, Option, Some, Result, ◌==◌, slice_get}
use Rattle.meaning.specs.declared.Channels.{Channels}
use Rattle.meaning.specs.Colours.{grains, full_range, number, at, num, Exact, whole}
use Rattle.meaning.specs.Distances.{gap}
use Rattle.meaning.specs.Stages.{Meaning}
use Rattle.link.specs.declared.refusal.Refusal.{Refusal}
use Rattle.link.specs.declared.refusal.Refusal.TheVariants.{RowLengths, PixelChannels}
use Rattle.meaning.specs.Kinds.{Kind}
use Rattle.link.specs.Refusals.{unless, first_refusal, answered, left}

-- ---- when a row is refused

-- what is tested of a row: the channels of its pixels, and how many enter and leave
pub record RowShape : Type 0 where
  pub enters : Channels
  pub leaves : Channels
  pub entering : ℕ
  pub leaving : ℕ

abbrev pub shape_of : {P Q : Type 0} → Kind P → Kind Q → List P → List Q → RowShape
shape_of kp kq entering leaving = record {
  enters = kp.channels;
  leaves = kq.channels;
  entering = length entering;
  leaving = length leaving;
}

-- its pixels have the stage's channels, and as many leave as enter
abbrev pub row_checks : Meaning → RowShape → List (Option Refusal)
row_checks m r =
    unless (number m.ins == number r.enters && number m.outs == number r.leaves) PixelChannels
    ∷ unless (r.entering == r.leaving) RowLengths
    ∷ []

-- why it is refused, if it is
abbrev pub row_refusal : Meaning → RowShape → Option Refusal
row_refusal m r = first_refusal (row_checks m r)

-- ---- what a row answers and leaves

-- the error bound of a row, in grains: the stage's error and the leaving kind's, held to the full range
abbrev pub row_bound : Meaning → ℕ → ℕ
row_bound m e = min full_range (m.error + e)

-- the pixel that leaves where p enters: made from the stage's answer to the colour that p shows
abbrev pub row_pixel : {P Q : Type 0} → Meaning → Kind P → Kind Q → P → Q
row_pixel m kp kq p = kq.made (m.answer (kp.shown p))

-- the pixels that leave
abbrev pub row_pixels : {P Q : Type 0} → Meaning → Kind P → Kind Q → List P → List Q
row_pixels m kp kq entering = map (row_pixel m kp kq) entering

-- what a row call answers: the bound, or why it is refused
abbrev pub row_answer : {P Q : Type 0} → Meaning → Kind P → Kind Q → List P → List Q → Result ℕ Refusal
row_answer m kp kq entering leaving = answered (row_refusal m (shape_of kp kq entering leaving)) (row_bound m kq.error)

-- the leaving row after the call: the pixels that leave, or the row as it stood
abbrev pub row_left : {P Q : Type 0} → Meaning → Kind P → Kind Q → List P → List Q → List Q
row_left m kp kq entering leaving =
    left (row_refusal m (shape_of kp kq entering leaving)) leaving (row_pixels m kp kq entering)

-- ---- how near that is

-- how far a count lies from the value of channel k of an exact colour, in grains, times the colour's denominator
abbrev pub distance : ℕ → Exact → ℕ → ℕ
distance count x k = gap (count * x.den) (num x k) * grains

-- it is at most a bound in grains, multiplied out
abbrev pub Within : ℕ → ℕ → Exact → ℕ → Type 0
Within bound count x k = distance count x k ≤ bound * x.den

-- what a row is for: as many pixels leave as enter, and where q leaves in the place in which p enters, no channel of q is
-- further than the bound from the stage's exact value for the colour that p shows
pub record Delivers {P Q : Type 0} (m : Meaning) (kp : Kind P) (kq : Kind Q) (entering : List P) (leaving : List Q) (bound : ℕ) : Type 0 where
  pub as_long : length leaving ≡ length entering
  pub within : (place : ℕ) (p : P) (q : Q) → slice_get entering place ≡ Some p → slice_get leaving place ≡ Some q →
      (k : ℕ) → k < number kq.channels → Within bound (at (kq.shown q) k) (m.exact (whole (kp.shown p))) k
