-- Means: samples that all lie within a bound of a value have a mean within it. Assumes nothing.
use Rattle.std.proofs.Common.{◌≡◌, ℕ, ◌+◌, ◌*◌, ◌/◌, ◌<◌, List, map, refl, arith}
use Rattle.std.specs.List.{range_with_len}
use Rattle.meaning.specs.declared.Channels.{Channels}
use Rattle.meaning.specs.declared.Channels.TheVariants.{One, Three, Four}
use Rattle.meaning.specs.Colours.{number}
use Rattle.meaning.specs.Distances.{Over}
use Rattle.meaning.specs.Sums.{sum_below}
use Rattle.meaning.specs.Lattices.{node_samples, pair_samples, lattice_sum, lattice_terms}
use Rattle.meaning.proofs.Sampling.{sum_apart, sum_constant, sum_times}
use Rattle.meaning.proofs.LatticeLaws.{pair, pair_limit}

-- ---- a value v/d, and the bound b/q
module _ (b q v d : ℕ) where
  -- a/w is within the bound of it, from above and from below
  pub record Within (a w : ℕ) : Type 0 where
    pub above : Over b q a w v d
    pub below : Over b q v d a w

  -- n sums over w samples each, which are m samples in all
  pub sum_within : (n w m : ℕ) (f : ℕ → ℕ) → n * w ≡ m → ((s : ℕ) → s < n → Within (f s) w) → Within (sum_below n f) m
  sum_within n w m f e h =
      let up = sum_apart n (λ s. d * q * f s) (λ _. v * w * q) (λ _. b * (w * d)) (λ s l. let a = (h s l).above in omega arith) in
      let down = sum_apart n (λ _. v * w * q) (λ s. d * q * f s) (λ _. b * (w * d)) (λ s l. let a = (h s l).below in omega arith) in
      let times = sum_times n (d * q) f in
      let value = sum_constant n (v * w * q) in
      let bound = sum_constant n (b * (w * d)) in
      rw (← e) (record {
        above = omega (arith, up, times, value, bound);
        below = omega (arith, down, times, value, bound);
      })

  -- a lattice: where each sample is within the bound, the mean is
  pub lattice_within : (i : Channels) (node : List ℕ → ℕ) (D : ℕ) (p : ℕ → ℕ)
      → ((s : ℕ → ℕ) → ((k : ℕ) → s k < D) → Within (node (map (λ k. (p k + s k) / D) (range_with_len 0 (number i)))) 1)
      → Within (lattice_sum i node D p) (lattice_terms i D)
  unfolding node_samples pair_samples
  lattice_within One node D p h = sum_within D 1 D _ (omega arith) (λ s l. h (λ _. s) (λ _. l))
  lattice_within Three node D p h = sum_within D 1 D _ (omega arith) (λ s l. h (λ _. s) (λ _. l))
  lattice_within Four node D p h = sum_within D D (D * D) _ refl (λ u hu. sum_within D 1 D _ (omega arith) (λ s hs. h (pair u s) (pair_limit D u s hu hs)))
