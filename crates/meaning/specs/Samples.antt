-- How one channel is stored as a number, in eight bits or in sixteen, and what every width keeps.
use Rattle.std.specs.Prelude.{◌≡◌, ℕ, ◌+◌, ◌*◌, ◌/◌, ◌≤◌, min}
use Rattle.meaning.specs.Colours.{max_count, grains, full_range}
use Rattle.meaning.specs.Distances.{gap}

-- one width: the count that a number stands for, the number whose count is nearest, and how far (in grains) that may lie
pub record Width (S : Type 0) : Type 0 where
  pub count : S → ℕ
  pub nearest : ℕ → S
  pub error : ℕ

-- eight bits: the byte v stands for 257·v, so the error is 128 counts
abbrev pub eight_bits : Width ℕ
eight_bits = record { count = λ v. 257 * v; nearest = λ c. (c + 128) / 257; error = 8388608 }

-- sixteen bits: the count itself, with no error
abbrev pub sixteen_bits : Width ℕ
sixteen_bits = record { count = λ v. v; nearest = λ c. c; error = 0 }

-- the count that a number shows, held to 65,535: `LimitsNeverAct` says that this changes no number of its width
abbrev pub shown_count : {S : Type 0} → Width S → S → ℕ
shown_count w v = min max_count (w.count v)

-- what every width keeps
pub record LawfulWidth {S : Type 0} (w : Width S) : Type 0 where
  pub error_limit : w.error ≤ full_range
  -- the number made from a count is within the error of it
  pub close : (c : ℕ) → c ≤ max_count → gap (shown_count w (w.nearest c)) c * grains ≤ w.error
  -- showing a number and making it again loses nothing of what it shows
  pub back : (v : S) → shown_count w (w.nearest (shown_count w v)) ≡ shown_count w v
