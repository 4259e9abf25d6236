-- The worked figures hold. Assumes nothing.
use Rattle.std.proofs.Common.{◌≡◌, ℕ, ◌+◌, ◌*◌, ◌/◌, [], ◌∷◌, refl, ap, ◌∙◌, arith}
use Rattle.meaning.specs.Colours.{spread}
use Rattle.meaning.specs.Lattices.{numbered, output, node, node_samples, pair_samples}
use Rattle.meaning.specs.Sums.{sum_below, largest_below, samples}
use Rattle.meaning.specs.Curves.{table_entry}
use Rattle.meaning.specs.WorkedFigures.{WorkedFigures, bent_curve, eight_nodes, sixteen_nodes, cube}
use Rattle.meaning.proofs.Sampling.{sum_same, samples_closed}
use Rattle.meaning.proofs.Tetrahedra.{tetrahedron}

bend_low : samples (table_entry 3 (0 ∷ 1000 ∷ 65535 ∷ []) 0) 65535 65534 ≡ 65534000
bend_low = samples_closed (table_entry 3 (0 ∷ 1000 ∷ 65535 ∷ []) 0) 65535 0 65534 (omega arith) (omega arith)

bend_high : samples (table_entry 3 (0 ∷ 1000 ∷ 65535 ∷ []) 0) 65535 65536 ≡ 65599535
bend_high = samples_closed (table_entry 3 (0 ∷ 1000 ∷ 65535 ∷ []) 0) 65535 1 1 (omega arith) (omega arith)

steepness_is : bent_curve.steepness ≡ 129072
unfolding largest_below
steepness_is = refl

-- ---- the lattice

-- two grid points a channel: after the indices that lead to a, those of three channels weigh 4, 2 and 1
cube_sum : (t : ℕ → ℕ) (a p q r : ℕ)
    → node_samples (λ xs. t (numbered 2 a xs)) 65535 (p ∷ q ∷ r ∷ [])
    ≡ sum_below 65535 (λ s. t (8 * a + (4 * ((p + s) / 65535) + 2 * ((q + s) / 65535) + 1 * ((r + s) / 65535))))
unfolding node_samples
cube_sum t a p q r = sum_same 65535 _ _ (λ s _. ap t (omega arith))

cube_falling : node_samples (node 2 1 eight_nodes 0) 65535 (52428 ∷ 39321 ∷ 13107 ∷ []) ≡ 996132000
cube_falling = let t = output 1 eight_nodes 0 in cube_sum t 0 52428 39321 13107 ∙ tetrahedron t 65535 0 4 2 1 52428 39321 13107 (omega arith) (omega arith) (omega arith)

cube_rising : node_samples (node 2 1 eight_nodes 0) 65535 (13107 ∷ 39321 ∷ 52428 ∷ []) ≡ 878169000
cube_rising =
    let t = output 1 eight_nodes 0 in
    let up : ℕ → ℕ = λ s. 0 + (4 * ((13107 + s) / 65535) + 2 * ((39321 + s) / 65535) + 1 * ((52428 + s) / 65535)) in
    let down : ℕ → ℕ = λ s. 0 + (1 * ((52428 + s) / 65535) + 2 * ((39321 + s) / 65535) + 4 * ((13107 + s) / 65535)) in
    let same : (s : ℕ) → up s ≡ down s = λ s. omega arith in
    cube_sum t 0 13107 39321 52428
    ∙ sum_same 65535 (λ s. t (up s)) (λ s. t (down s)) (λ s _. ap t (same s))
    ∙ tetrahedron t 65535 0 1 2 4 52428 39321 13107 (omega arith) (omega arith) (omega arith)

-- at equal positions only the first and the last corner count
level : (t : ℕ → ℕ) (a : ℕ) → node_samples (λ xs. t (numbered 2 a xs)) 65535 (39321 ∷ 39321 ∷ 39321 ∷ []) ≡ 26214 * t (8 * a) + 39321 * t (8 * a + 4 + 2 + 1)
level t a = cube_sum t a 39321 39321 39321 ∙ tetrahedron t 65535 (8 * a) 4 2 1 39321 39321 39321 (omega arith) (omega arith) (omega arith) ∙ omega arith

fading : pair_samples (node 2 1 sixteen_nodes 0) 65535 32768 (39321 ∷ 39321 ∷ 39321 ∷ []) ≡ 77305872420000
unfolding pair_samples samples
fading =
    let t = output 1 sixteen_nodes 0 in
    samples_closed (λ w. node_samples (λ xs. t (numbered 2 (0 * 2 + w) xs)) 65535 (39321 ∷ 39321 ∷ 39321 ∷ [])) 65535 0 32768 (omega arith) (omega arith)
    ∙ rw (level t 0, level t 1) refl

cube_steepness_is : cube.steepness ≡ 166003
unfolding largest_below sum_below
cube_steepness_is = refl

pub worked_figures_lem : WorkedFigures
unfolding spread
worked_figures_lem = record {
  below_the_bend = rw bend_low;
  above_the_bend = rw bend_high;
  bend_steepness = steepness_is;
  half_upward = refl;
  held_to_zero = refl;
  carried_error = λ first second e l f. rw (e, l, f);
  falling_channels = rw cube_falling;
  rising_channels = rw cube_rising;
  equal_channels = rw (level (output 1 eight_nodes 0) 0);
  cube_steepness = cube_steepness_is;
  half_faded = rw fading;
  fine_link = λ m nodes e l. rw (e, l);
  coarse_link = λ m nodes e l. rw (e, l);
}
