-- Tone curves: one table of counts for each channel.
use Rattle.std.specs.Prelude.{ℕ, ◌+◌, ◌-◌, ◌*◌, min, Bool, ◌&&◌, List, nat_le}
use Rattle.meaning.specs.declared.Channels.{Channels}
use Rattle.meaning.specs.Colours.{max_count, grains, half_count, number, at, num, Exact, spread, ceiling}
use Rattle.meaning.specs.Distances.{gap}
use Rattle.meaning.specs.Sums.{largest_below, samples}
use Rattle.meaning.specs.Stages.{unclaimed, Meaning, Lawful, rounding}

-- a table has 2 to 4,096 entries
abbrev pub is_table_length : ℕ → Bool
is_table_length n = nat_le 2 n && nat_le n 4096

-- entry i of a list of counts, held to 65,535; beyond the list it reads as 0. `LimitsNeverAct` says that the limit acts on
-- no entry that a table can hold
abbrev pub entry : List ℕ → ℕ → ℕ
entry counts i = min max_count (at counts i)

-- entry i of channel k's table, where tables of n entries lie one after the other
abbrev pub table_entry : ℕ → List ℕ → ℕ → ℕ → ℕ
table_entry n counts k i = entry counts (k * n + i)

-- the exact value in each channel: with p = a (n − 1) and D = 65,535 d, the mean of the samples of its table at p
abbrev pub curves_exact : Channels → ℕ → List ℕ → Exact → Exact
curves_exact w n counts x = record {
  nums = spread (number w) (λ k. samples (table_entry n counts k) (max_count * x.den) (num x k * (n - 1)));
  den = max_count * x.den;
}

-- how far neighbouring entries of any table lie apart at most
abbrev pub largest_curve_step : Channels → ℕ → List ℕ → ℕ
largest_curve_step w n counts =
    largest_below (number w) (λ k. largest_below (n - 1) (λ i. gap (table_entry n counts k i) (table_entry n counts k (i + 1))))

-- how much a table of n entries whose neighbours differ by at most j rises at most, in grains a count
abbrev pub rise : ℕ → ℕ → ℕ
rise n j = ceiling (grains * (n - 1) * j) max_count

-- the steepness of such a table: its rise, held to 2^30. `LimitsNeverAct` says that no curves and no lattice rise so much
abbrev pub steepness_of_curve : ℕ → ℕ → ℕ
steepness_of_curve n j = min unclaimed (rise n j)

-- curves over w channels, with tables of n entries
abbrev pub curves : Channels → ℕ → List ℕ → Meaning
curves w n counts = rounding w w (curves_exact w n counts) (steepness_of_curve n (largest_curve_step w n counts)) half_count

-- curves keep the laws, whatever their tables hold
abbrev pub CurvesKeepTheLaws : Type 0
CurvesKeepTheLaws = (w : Channels) (n : ℕ) (counts : List ℕ) → Lawful (curves w n counts)
