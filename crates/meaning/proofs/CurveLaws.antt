-- Curves keep the laws. Assumes nothing.
use Rattle.std.proofs.Common.{◌≡◌, ℕ, ◌+◌, ◌-◌, ◌*◌, ◌/◌, ◌<◌, ◌≤◌, List, sym, ap, ◌∙◌, ⊎_elim, mul-le-mul_right, mul_assoc, mul-le-mul_left, arith}
use Rattle.std.proofs.lemmas.Bool.{cases_lt}
use Rattle.meaning.specs.declared.Channels.{Channels}
use Rattle.meaning.specs.Colours.{max_count, grains, number, num, Exact, Valid, scale}
use Rattle.meaning.specs.Distances.{gap, Same}
use Rattle.meaning.specs.Sums.{largest_below, samples}
use Rattle.meaning.specs.Stages.{unclaimed}
use Rattle.meaning.specs.Curves.{table_entry, curves_exact, largest_curve_step, CurvesKeepTheLaws, steepness_of_curve}
use Rattle.meaning.proofs.Channelwise.{number_limit, length_spread, spread_within, spread_beyond, each_channel}
use Rattle.meaning.proofs.Largest.{below_largest}
use Rattle.meaning.proofs.Nearness.{Level, num_scale}
use Rattle.meaning.proofs.Sampling.{sum_apart, sum_times, floor_inside, floor_gaps, samples_limit, samples_scale}
use Rattle.meaning.proofs.TableLaws.{steps_near, steps_grown, steepness_covers, entries_apart}
use Rattle.meaning.proofs.ExactLaws.{half_lawful}

-- ---- one table, whose first m neighbouring pairs differ by at most j
module _ (t : ℕ → ℕ) (m j : ℕ) (steps : (i : ℕ) → i < m → gap (t i) (t (i + 1)) ≤ j) where
  -- the samples at two positions differ by at most j for each step between them
  pub samples_apart : (D p q : ℕ) → 0 < D → p ≤ m * D → q ≤ m * D → samples t D p ≤ samples t D q + j * gap p q
  unfolding samples
  samples_apart D p q pos hp hq =
      let each =
      sum_apart D (λ s. t ((p + s) / D)) (λ s. t ((q + s) / D)) (λ s. j * gap ((p + s) / D) ((q + s) / D))
      (λ s l. entries_apart t m j steps ((p + s) / D) ((q + s) / D) (floor_inside D m p s pos hp l) (floor_inside D m q s pos hq l)) in
      let times = sum_times D j (λ s. gap ((p + s) / D) ((q + s) / D)) in
      let gaps = ap (λ n. j * n) (floor_gaps D p q pos) in
      omega arith

  -- one channel: values p/q counts apart, over the denominator d, have samples l·p/q grains apart
  pub channel_steep : (l d a b p q : ℕ) → 0 < d → a ≤ max_count * d → b ≤ max_count * d → grains * m * j ≤ l * max_count → a * q ≤ b * q + p * d → b * q ≤ a * q + p * d → samples t (max_count * d) (a * m) * (grains * q) ≤ samples t (max_count * d) (b * m) * (grains * q) + l * p * (max_count * d)
  channel_steep l d a b p q pos ha hb covers above below =
      let apart = samples_apart (max_count * d) (a * m) (b * m) (omega arith) (omega (arith, mul-le-mul_left m ha)) (omega (arith, mul-le-mul_left m hb)) in
      let grown = steps_grown (j * gap (a * m) (b * m)) m j l d p q (steps_near a b m j d p q above below) covers in
      omega (arith, mul-le-mul_right (grains * q) apart, grown)

-- ---- curves
module _ (w : Channels) (n : ℕ) (counts : List ℕ) where
  neighbours : (k : ℕ) → k < number w → (i : ℕ) → i < n - 1 → gap (table_entry n counts k i) (table_entry n counts k (i + 1)) ≤ largest_curve_step w n counts
  neighbours k hk i hi =
      let inner = below_largest (n - 1) (λ u. gap (table_entry n counts k u) (table_entry n counts k (u + 1))) i hi in
      let outer = below_largest (number w) (λ v. largest_below (n - 1) (λ u. gap (table_entry n counts v u) (table_entry n counts v (u + 1)))) k hk in
      omega arith

  entry_limit : (k i : ℕ) → table_entry n counts k i ≤ max_count
  entry_limit k i = omega arith

  curves_stay : (x : Exact) → Valid x → Valid (curves_exact w n counts x)
  curves_stay x v = record {
    long = length_spread (number w) _;
    positive = let p = v.positive in omega arith;
    within = each_channel (number w) _ (λ a. a ≤ max_count * (max_count * x.den)) (number_limit w) (omega arith) (λ k _. let l = samples_limit (table_entry n counts k) (max_count * x.den) (num x k * (n - 1)) max_count (entry_limit k) in omega arith);
  }

  curves_scale : (m : ℕ) → 0 < m → (x : Exact) → Valid x → Same (curves_exact w n counts (scale m x)) (curves_exact w n counts x)
  curves_scale m pos x v k =
      let sampled : Exact → ℕ → ℕ = λ y c. samples (table_entry n counts c) (max_count * y.den) (num y c * (n - 1)) in
      ⊎_elim
      (λ (h : k < number w).
      let t = table_entry n counts k in
      let many : samples t (max_count * (m * x.den)) (num (scale m x) k * (n - 1)) ≡ m * samples t (max_count * x.den) (num x k * (n - 1)) =
      let den : max_count * (m * x.den) ≡ m * (max_count * x.den) = omega arith in
      let place : num (scale m x) k * (n - 1) ≡ m * (num x k * (n - 1)) = ap (λ a. a * (n - 1)) (num_scale m x k) ∙ mul_assoc m (num x k) (n - 1) in
      ap (λ d. samples t d (num (scale m x) k * (n - 1))) den ∙ ap (samples t (m * (max_count * x.den))) place ∙ samples_scale t (max_count * x.den) (num x k * (n - 1)) m pos in
      let left = spread_within (number w) (sampled (scale m x)) k (number_limit w) h ∙ many in
      let right = spread_within (number w) (sampled x) k (number_limit w) h in
      omega (arith, ap (λ a. a * (max_count * x.den)) left, ap (λ a. a * (max_count * (m * x.den))) right))
      (λ (h : number w ≤ k).
      let left = spread_beyond (number w) (sampled (scale m x)) k h in
      let right = spread_beyond (number w) (sampled x) k h in
      omega (arith, ap (λ a. a * (max_count * x.den)) left, ap (λ a. a * (max_count * (m * x.den))) right))
      (cases_lt k (number w))

  curves_steep : steepness_of_curve n (largest_curve_step w n counts) < unclaimed → (p q : ℕ) → 0 < q → (x y : Exact) → Valid x → Valid y → Level p q x y → (k : ℕ) → num (curves_exact w n counts x) k * (grains * q) ≤ num (curves_exact w n counts y) k * (grains * q) + steepness_of_curve n (largest_curve_step w n counts) * p * (max_count * x.den)
  curves_steep claimed p q pos x y vx vy h k =
      let sampled : Exact → ℕ → ℕ = λ z c. samples (table_entry n counts c) (max_count * z.den) (num z c * (n - 1)) in
      let j = largest_curve_step w n counts in
      let l = steepness_of_curve n j in
      let covers = steepness_covers n j claimed in
      ⊎_elim
      (λ (c : k < number w).
      let left = spread_within (number w) (sampled x) k (number_limit w) c in
      let right = spread_within (number w) (sampled y) k (number_limit w) c in
      let den = h.one_den in
      let same : sampled y k ≡ samples (table_entry n counts k) (max_count * x.den) (num y k * (n - 1)) = ap (λ d. samples (table_entry n counts k) (max_count * d) (num y k * (n - 1))) (sym den) in
      let hy : num y k ≤ max_count * x.den = rw den (vy.within k) in
      let one = channel_steep (table_entry n counts k) (n - 1) j (neighbours k c) l x.den (num x k) (num y k) p q vx.positive (vx.within k) hy covers (h.above k) (h.below k) in
      rw (left, right, same) one)
      (λ (c : number w ≤ k).
      let left = spread_beyond (number w) (sampled x) k c in
      rw left (omega arith))
      (cases_lt k (number w))

pub curves_lawful : CurvesKeepTheLaws
curves_lawful w n counts =
    half_lawful w w (curves_exact w n counts) (steepness_of_curve n (largest_curve_step w n counts)) (record {
      limit = omega arith;
      stays = curves_stay w n counts;
      zero_beyond = λ x v k h. spread_beyond (number w) (λ c. samples (table_entry n counts c) (max_count * x.den) (num x c * (n - 1))) k h;
      scales = curves_scale w n counts;
      one_den = λ x y e. ap (λ d. max_count * d) e;
      steep = curves_steep w n counts;
    })
