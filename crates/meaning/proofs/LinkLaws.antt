-- A baked link answers within its error. Assumes nothing.
use Rattle.std.proofs.Common.{◌≡◌, ℕ, ◌+◌, ◌-◌, ◌*◌, ◌/◌, ◌^◌, ◌<◌, ◌≤◌, ◌||◌, eqb, ltb, min, List, map, ap, ◌∙◌, ⊎_elim, mul-le-mul_right, div-mul-le_self, arith}
use native.Mathlib.Nat.{lt-div-mul-add}
use Rattle.std.specs.List.{range_with_len}
use Rattle.std.proofs.lemmas.Bool.{eqb-false, ltb-false, cond_both, or_parts, cases_lt}
use Rattle.meaning.specs.Colours.{max_count, grains, full_range, half_count, number, at, num, Colour, whole, rounded, ceiling}
use Rattle.meaning.specs.Distances.{Near}
use Rattle.meaning.specs.Stages.{unclaimed, Meaning, Lawful}
use Rattle.meaning.specs.Lattices.{numbered, node, lattice_sum, lattice_terms, lattice_exact}
use Rattle.meaning.specs.Links.{grid_count, node_index, node_colour, baked, error_of_link, link, Plain, LinksAreClose}
use Rattle.meaning.proofs.Channelwise.{number_limit, spread_within, spread_beyond}
use Rattle.meaning.proofs.Rounding.{rounded_high, rounded_low, ceiling_covers}
use Rattle.meaning.proofs.Nearness.{near_more, near_add, near_range, valid_whole}
use Rattle.meaning.proofs.Sampling.{floor_inside}
use Rattle.meaning.proofs.LatticeLaws.{numbered_limit, lattices_lawful}
use Rattle.meaning.proofs.ExactLaws.{nearest_close}
use Rattle.meaning.proofs.JoinLaws.{near_least}
use Rattle.meaning.proofs.Digits.{index_from}
use Rattle.meaning.proofs.Baking.{node_is_colour, baked_at, link_answers}
use Rattle.meaning.proofs.Means.{Within, lattice_within}

-- ---- one channel, where h steps make up the grid

-- the grid point of a sample is less than a step from the position c h of a count c
sample_near : (c h s D : ℕ) → s < D → ((c * h + s) / D * D ≤ c * h + D) × (c * h ≤ (c * h + s) / D * D + D)
sample_near c h s D l =
    let low = div-mul-le_self (c * h + s) D in
    let pos : 0 < D = omega arith in
    let high = lt-div-mul-add {a = c * h + s} {b = D} pos in
    (omega arith, omega arith)

-- the count of such a grid point, and c
count_near : (c h x : ℕ) → 0 < h → x * max_count ≤ c * h + max_count → c * h ≤ x * max_count + max_count →
    (rounded (x * max_count) h * (2 * h) ≤ c * (2 * h) + (2 * max_count + h)) × (c * (2 * h) ≤ rounded (x * max_count) h * (2 * h) + (2 * max_count + h))
count_near c h x pos up down =
    let high = rounded_high (x * max_count) h in
    let low = rounded_low (x * max_count) h pos in
    (omega arith, omega arith)

-- ---- a stage with a claimed steepness, at a colour c, with g grid points
module _ (m : Meaning) (law : Lawful m) (claimed : m.steepness < unclaimed) (g : ℕ) (grid : 2 ≤ g) (c : List ℕ) (colour : Colour c) (plain : Plain m.ins c) where
  -- the bound: the stage's error, and what a step of the grid and half a count come to
  abbrev bound : ℕ
  bound = m.error + ceiling (m.steepness * (2 * max_count + (g - 1))) (2 * (g - 1))

  -- the index of a sample with the shifts s
  abbrev index : (ℕ → ℕ) → ℕ → ℕ
  index s k = (at c k * (g - 1) + s k) / max_count

  -- the number of its node
  abbrev sampled : (ℕ → ℕ) → ℕ
  sampled s = numbered g 0 (map (index s) (range_with_len 0 (number m.ins)))

  -- which is the index of a grid point
  index_below : (s : ℕ → ℕ) → ((k : ℕ) → s k < max_count) → (k : ℕ) → index s k < g
  index_below s hs k =
      let within = colour.within k in
      let l = floor_inside max_count (g - 1) (at c k * (g - 1)) (s k) (omega arith) (omega (arith, mul-le-mul_right (g - 1) within)) (hs k) in
      omega arith

  -- the node of a sample stands for a colour near c, channel by channel
  channel_near : (s : ℕ → ℕ) → ((k : ℕ) → s k < max_count) → (k : ℕ) →
      (at (node_colour m.ins g (sampled s)) k * (2 * (g - 1)) ≤ at c k * (2 * (g - 1)) + (2 * max_count + (g - 1)))
      × (at c k * (2 * (g - 1)) ≤ at (node_colour m.ins g (sampled s)) k * (2 * (g - 1)) + (2 * max_count + (g - 1)))
  channel_near s hs k =
      let i = number m.ins in
      let counts : ℕ → ℕ = λ a. grid_count g (node_index i g (sampled s) a) in
      ⊎_elim
      (λ (h : k < i).
      let is : node_index i g (sampled s) k ≡ index s k = index_from g (index s) (index_below s hs) 0 0 i k h ∙ ap (index s) (omega arith) in
      let near = sample_near (at c k) (g - 1) (s k) max_count (hs k) in
      rw (spread_within i counts k (number_limit m.ins) h, is) (count_near (at c k) (g - 1) (index s k) (omega arith) near.0 near.1))
      (λ (h : i ≤ k). rw (spread_beyond i counts k h, plain k h) (omega arith, omega arith))
      (cases_lt k i)

  -- in all channels
  colour_near : (s : ℕ → ℕ) → ((k : ℕ) → s k < max_count) → Near (2 * max_count + (g - 1)) (2 * (g - 1)) (whole (node_colour m.ins g (sampled s))) (whole c)
  colour_near s hs = record {
    above = λ k. let n = (channel_near s hs k).0 in omega arith;
    below = λ k. let n = (channel_near s hs k).1 in omega arith;
  }

  -- its answer is within the bound of the exact value at c
  sample_close : (s : ℕ → ℕ) → ((k : ℕ) → s k < max_count) → Near bound grains (whole (m.answer (node_colour m.ins g (sampled s)))) (m.exact (whole c))
  sample_close s hs =
      let there = node_colour m.ins g (sampled s) in
      let is = node_is_colour m.ins g (sampled s) in
      let p = 2 * max_count + (g - 1) in
      let q = 2 * (g - 1) in
      let moved = law.steep claimed p q (omega arith) (whole there) (whole c) (valid_whole there is) (valid_whole c colour) (colour_near s hs) in
      let both = near_add m.error grains (m.steepness * p) (grains * q) (whole (m.answer there)) (m.exact (whole there)) (m.exact (whole c)) (law.stays (whole there) (valid_whole there is)).positive (law.close there is) moved in
      let covers = ceiling_covers (m.steepness * p) q (omega arith) in
      near_more (m.error * (grains * q) + m.steepness * p * grains) (grains * (grains * q)) bound grains (whole (m.answer there)) (m.exact (whole c)) (omega arith) (omega (arith, covers)) both

  -- ---- the link by a list of nodes that holds the stage's answers
  module _ (nodes : List ℕ) (holds : (n j : ℕ) → n < g ^ number m.ins → j < number m.outs → at nodes (n * number m.outs + j) ≡ at (m.answer (node_colour m.ins g n)) j) where
    -- what the lattice reads for a sample
    read_at : (j : ℕ) → j < number m.outs → (s : ℕ → ℕ) → ((k : ℕ) → s k < max_count) →
        node g (number m.outs) nodes j (map (index s) (range_with_len 0 (number m.ins))) ≡ at (m.answer (node_colour m.ins g (sampled s))) j
    read_at j hj s hs =
        let there = holds (sampled s) j (numbered_limit g (index s) (index_below s hs) 0 (number m.ins)) hj in
        let within = (law.answers (node_colour m.ins g (sampled s)) (node_is_colour m.ins g (sampled s))).within j in
        rw there (omega arith)

    -- an output's sum is within the bound
    output_within : (j : ℕ) → j < number m.outs →
        Within bound grains (num (m.exact (whole c)) j) (m.exact (whole c)).den (lattice_sum m.ins (node g (number m.outs) nodes j) max_count (λ k. at c k * (g - 1))) (lattice_terms m.ins max_count)
    output_within j hj =
        lattice_within bound grains (num (m.exact (whole c)) j) (m.exact (whole c)).den m.ins (node g (number m.outs) nodes j) max_count (λ k. at c k * (g - 1))
        (λ s hs. rw (read_at j hj s hs) (let close = sample_close s hs in record { above = close.above j; below = close.below j }))

    -- the lattice's exact value is within the bound of the stage's
    lattice_near : Near bound grains (lattice_exact m.ins m.outs g nodes (whole c)) (m.exact (whole c))
    lattice_near =
        let o = number m.outs in
        let sums : ℕ → ℕ = λ j. lattice_sum m.ins (node g o nodes j) max_count (λ k. at c k * (g - 1)) in
        record {
          above = λ j. ⊎_elim
              (λ (h : j < o). rw (spread_within o sums j (number_limit m.outs) h) (output_within j h).above)
              (λ (h : o ≤ j). rw (spread_beyond o sums j h, law.zero_beyond (whole c) (valid_whole c colour) j h) (omega arith))
              (cases_lt j o);
          below = λ j. ⊎_elim
              (λ (h : j < o). rw (spread_within o sums j (number_limit m.outs) h) (output_within j h).below)
              (λ (h : o ≤ j). rw (spread_beyond o sums j h, law.zero_beyond (whole c) (valid_whole c colour) j h) (omega arith))
              (cases_lt j o);
        }

    -- rounded, half a count more
    answer_near : Near (bound + half_count) grains (whole ((link m g nodes).answer c)) (m.exact (whole c))
    answer_near =
        let exact = lattice_exact m.ins m.outs g nodes (whole c) in
        let answer = (link m g nodes).answer c in
        let valid = (lattices_lawful m.ins m.outs g nodes).stays (whole c) (valid_whole c colour) in
        near_more (half_count * grains + bound * grains) (grains * grains) (bound + half_count) grains (whole answer) (m.exact (whole c)) (omega arith) (omega arith)
        (near_add half_count grains bound grains (whole answer) exact (m.exact (whole c)) valid.positive (nearest_close exact valid) lattice_near)

-- a link over such nodes is close, with or without a claimed steepness
pub link_close : (m : Meaning) → Lawful m → (g : ℕ) → (nodes : List ℕ)
    → ((n j : ℕ) → n < g ^ number m.ins → j < number m.outs → at nodes (n * number m.outs + j) ≡ at (m.answer (node_colour m.ins g n)) j)
    → (c : List ℕ) → Colour c → Plain m.ins c
    → Near (error_of_link m.error m.steepness g) grains (whole ((link m g nodes).answer c)) (m.exact (whole c))
link_close m law g nodes holds c colour plain =
    let exact = m.exact (whole c) in
    let answer = whole ((link m g nodes).answer c) in
    let any = near_range answer exact (valid_whole ((link m g nodes).answer c) (link_answers m law g nodes c colour)) (law.stays (whole c) (valid_whole c colour)) in
    let sum = m.error + ceiling (m.steepness * (2 * max_count + (g - 1))) (2 * (g - 1)) + half_count in
    cond_both (eqb m.steepness unclaimed || ltb g 2) full_range (min full_range sum) (λ n. Near n grains answer exact)
    (λ _. any)
    (λ f.
    let parts = or_parts (eqb m.steepness unclaimed) (ltb g 2) f in
    let other = eqb-false m.steepness unclaimed parts.0 in
    let grid = ltb-false g 2 parts.1 in
    let claimed : m.steepness < unclaimed = let l = law.steepness_limit in omega arith in
    near_least sum answer exact any (answer_near m law claimed g grid c colour plain nodes holds))

-- the nodes of the whole link are such nodes
pub links_are_close : LinksAreClose
links_are_close m law g grid c colour plain = link_close m law g (baked m g) (baked_at m law g) c colour plain
