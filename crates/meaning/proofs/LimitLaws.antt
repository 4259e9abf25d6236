-- The limits that stand in definitions never act. Assumes nothing.
use Rattle.std.proofs.Common.{ℕ, ◌+◌, ◌-◌, ◌*◌, ◌^◌, ◌<◌, ◌≤◌, List, mul-le-mul, arith, tests}
use Rattle.meaning.specs.declared.Channels.{Channels}
use Rattle.meaning.specs.Colours.{number}
use Rattle.meaning.specs.Curves.{largest_curve_step, rise}
use Rattle.meaning.specs.Lattices.{largest_along, lattice_step, output}
use Rattle.meaning.specs.Limits.{LimitsNeverAct}
use Rattle.meaning.specs.Stages.{unclaimed}
use Rattle.meaning.proofs.Channelwise.{number_limit}
use Rattle.meaning.proofs.Largest.{largest_limit}
use Rattle.meaning.proofs.Sampling.{sum_limit}

-- no difference of counts is larger than a count
pub along_limit : (g before after : ℕ) (t : ℕ → ℕ) → ((n : ℕ) → t n ≤ 65535) → largest_along g before after t ≤ 65535
along_limit g before after t h =
    largest_limit (g ^ before) _ 65535 (λ a. largest_limit (g - 1) _ 65535 (λ x. largest_limit (g ^ after) _ 65535 (λ b.
    let one = h ((a * g + x) * g ^ after + b) in
    let two = h ((a * g + (x + 1)) * g ^ after + b) in
    omega arith)))

curve_step_limit : (w : Channels) (n : ℕ) (counts : List ℕ) → largest_curve_step w n counts ≤ 65535
curve_step_limit w n counts = largest_limit (number w) _ 65535 (λ k. largest_limit (n - 1) _ 65535 (λ i. omega arith))

lattice_step_limit : (i o : Channels) (g : ℕ) (counts : List ℕ) → lattice_step i o g counts ≤ 4 * 65535
lattice_step_limit i o g counts =
    largest_limit (number o) _ (4 * 65535) (λ j.
    let t = output (number o) counts j in
    let along = sum_limit (number i) (λ k. largest_along g k (number i - (k + 1)) t) 65535 (λ k. along_limit g k (number i - (k + 1)) t (λ n. omega arith)) in
    omega (arith, along, number_limit i))

-- n points at most, with steps of at most j
rise_limit : (n j points step : ℕ) → n - 1 ≤ points → j ≤ step → 65536 * (points * step) < 65535 * (unclaimed - 1) → rise n j < unclaimed
rise_limit n j points step hn hj low = omega (arith, mul-le-mul hn hj)

pub limits_never_act : LimitsNeverAct
limits_never_act = record {
  entries = λ counts i h. omega arith;
  eight = λ v h. omega arith;
  sixteen = λ v h. omega arith;
  curves = λ w n counts h. rise_limit n _ 4095 65535 (grind (tests, arith)) (curve_step_limit w n counts) (omega arith);
  lattices = λ i o g counts h. rise_limit g _ 254 (4 * 65535) (omega arith) (lattice_step_limit i o g counts) (omega arith);
}
