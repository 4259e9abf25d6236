-- Lattices keep the laws. Assumes nothing.
use Rattle.std.proofs.Common.{◌≡◌, ℕ, zero, suc, ◌+◌, ◌-◌, ◌*◌, ◌/◌, ◌^◌, ◌<◌, ◌≤◌, List, [], ◌∷◌, map, sym, refl, ap, ◌∙◌, ⊎_elim, le_trans, le-add_right, mul-le-mul_right, mul_assoc, mul_comm, mul-le-mul_left, mul-pos, pow-suc, mul-zero, mul_left_comm, add-one, arith}
use mathlib.Core.Path.{fun_ext}
use mathlib.Core.List.{map-map}
use native.Mathlib.Nat.{pow-zero}
use Rattle.std.specs.List.{range_with_len}
use Rattle.std.proofs.lemmas.Bool.{cases_lt}
use Rattle.meaning.specs.declared.Channels.{Channels}
use Rattle.meaning.specs.declared.Channels.TheVariants.{One, Three, Four}
use Rattle.meaning.specs.Colours.{max_count, grains, number, num, Exact, Valid, scale}
use Rattle.meaning.specs.Distances.{gap, Same}
use Rattle.meaning.specs.Sums.{sum_below, largest_below, samples}
use Rattle.meaning.specs.Stages.{unclaimed}
use Rattle.meaning.specs.Curves.{steepness_of_curve}
use Rattle.meaning.specs.Lattices.{numbered, node_samples, pair_samples, lattice_sum, lattice_terms, largest_along, total_step, output, node, lattice_exact, lattice_step, LatticesKeepTheLaws}
use Rattle.meaning.proofs.Channelwise.{number_limit, length_spread, spread_within, spread_beyond, each_channel}
use Rattle.meaning.proofs.Nearness.{Level, num_scale}
use Rattle.meaning.proofs.Largest.{below_largest}
use Rattle.meaning.proofs.Sampling.{sum_zero, sum_more, sum_same, sum_le, sum_limit, sum_constant, sum_times, sum_apart, sum_weighted, sum_scale, floor_inside, floor_scale, floor_gaps, samples_limit, samples_scale}
use Rattle.meaning.proofs.TableLaws.{steps_near, steps_grown, steepness_covers, entries_apart}
use Rattle.meaning.proofs.ExactLaws.{half_lawful}

-- ---- the numbers of nodes, whose index in channel k is x k

-- the indices that come first count g ^ n for each step
pub numbered_split : (g : ℕ) (x : ℕ → ℕ) (a k n : ℕ) → numbered g a (map x (range_with_len k n)) ≡ a * g ^ n + numbered g 0 (map x (range_with_len k n))
numbered_split g x a k zero = rw (pow-zero g) (omega arith)
numbered_split g x a k (suc n) =
    let left = numbered_split g x (a * g + x k) (k + 1) n in
    let right = numbered_split g x (0 * g + x k) (k + 1) n in
    rw (left, right, pow-suc g n) (omega arith)

-- the other ones number less than that
pub numbered_limit : (g : ℕ) (x : ℕ → ℕ) → ((k : ℕ) → x k < g) → (k n : ℕ) → numbered g 0 (map x (range_with_len k n)) < g ^ n
numbered_limit g x h k zero = rw (pow-zero g) (omega arith)
numbered_limit g x h k (suc n) =
    let rest = numbered_limit g x h (k + 1) n in
    let product = mul-le-mul_right (g ^ n) (h k) in
    rw (numbered_split g x (0 * g + x k) (k + 1) n, pow-suc g n) (omega (arith, rest, product))

-- ---- shifts of samples

-- the shift of channel k: u in the first, s in those after it
abbrev pub pair : ℕ → ℕ → ℕ → ℕ
pair u s zero = u
pair u s (suc _) = s

-- both are below D
pub pair_limit : (D u s : ℕ) → u < D → s < D → (k : ℕ) → pair u s k < D
pair_limit D u s hu hs zero = hu
pair_limit D u s hu hs (suc k) = hs

-- ---- nodes apart, where t is a function of the node's number

-- one index moved from x to y
move : (g : ℕ) (t : ℕ → ℕ) (before after a x y b : ℕ) → a < g ^ before → x < g → y < g → b < g ^ after →
    t ((a * g + x) * g ^ after + b) ≤ t ((a * g + y) * g ^ after + b) + largest_along g before after t * gap x y
move g t before after a x y b ha hx hy hb =
    let step : ℕ → ℕ → ℕ → ℕ = λ u v w. gap (t ((u * g + v) * g ^ after + w)) (t ((u * g + (v + 1)) * g ^ after + w)) in
    let steps : (v : ℕ) → v < g - 1 → step a v b ≤ largest_along g before after t = λ v hv.
    le_trans (below_largest (g ^ after) (step a v) b hb)
    (le_trans (below_largest (g - 1) (λ z. largest_below (g ^ after) (step a z)) v hv)
    (below_largest (g ^ before) (λ u. largest_below (g - 1) (λ z. largest_below (g ^ after) (step u z))) a ha)) in
    entries_apart (λ v. t ((a * g + v) * g ^ after + b)) (g - 1) (largest_along g before after t) steps x y (omega arith) (omega arith)

-- ---- a lattice of i channels
module _ (g i : ℕ) (t : ℕ → ℕ) where
  -- the largest difference of neighbours along channel k
  abbrev along : ℕ → ℕ
  along k = largest_along g k (i - (k + 1)) t

  -- differences in each channel, weighted with it
  abbrev weighted : (ℕ → ℕ) → ℕ → ℕ
  weighted far n = sum_below n (λ k. along k * far k)

  -- all indices moved, channel by channel: a numbers the k that have moved already
  moves : (x y : ℕ → ℕ) → ((k : ℕ) → x k < g) → ((k : ℕ) → y k < g) → (k n a : ℕ) → k + n ≡ i → a < g ^ k →
      t (numbered g a (map x (range_with_len k n))) + weighted (λ c. gap (x c) (y c)) k ≤ t (numbered g a (map y (range_with_len k n))) + weighted (λ c. gap (x c) (y c)) i
  moves x y hx hy k zero a e ha = let same : k ≡ i = omega arith in rw same (omega arith)
  moves x y hx hy k (suc n) a e ha =
      let xs = map x (range_with_len (k + 1) n) in
      let after : i - (k + 1) ≡ n = omega arith in
      let one : t (numbered g (a * g + x k) xs) ≤ t (numbered g (a * g + y k) xs) + along k * gap (x k) (y k) =
      rw (numbered_split g x (a * g + x k) (k + 1) n, numbered_split g x (a * g + y k) (k + 1) n, after)
      (move g t k n a (x k) (y k) (numbered g 0 xs) ha (hx k) (hy k) (numbered_limit g x hx (k + 1) n)) in
      let below : a * g + y k < g ^ (k + 1) = rw (add-one k, pow-suc g k) (omega (arith, hy k, mul-le-mul_right g ha)) in
      let rest = moves x y hx hy (k + 1) n (a * g + y k) (omega arith) below in
      let more = ap (weighted (λ c. gap (x c) (y c))) (add-one k) ∙ sum_more k (λ c. along c * gap (x c) (y c)) in
      omega (arith, one, rest, more)

  -- two nodes
  nodes_apart : (x y : ℕ → ℕ) → ((k : ℕ) → x k < g) → ((k : ℕ) → y k < g) →
      t (numbered g 0 (map x (range_with_len 0 i))) ≤ t (numbered g 0 (map y (range_with_len 0 i))) + weighted (λ k. gap (x k) (y k)) i
  nodes_apart x y hx hy =
      let none = sum_zero (λ k. along k * gap (x k) (y k)) in
      let all = moves x y hx hy 0 i 0 (omega arith) (rw (pow-zero g) (omega arith)) in
      omega arith

  -- values p/q counts apart in each channel, over the denominator d, in weighted steps of the grid
  weighted_near : (a b : ℕ → ℕ) (d p q : ℕ) → ((k : ℕ) → a k * q ≤ b k * q + p * d) → ((k : ℕ) → b k * q ≤ a k * q + p * d) →
      q * weighted (λ k. gap (a k * (g - 1)) (b k * (g - 1))) i ≤ (g - 1) * (p * d) * total_step i g t
  weighted_near a b d p q above below =
      let far : ℕ → ℕ = λ k. along k * gap (a k * (g - 1)) (b k * (g - 1)) in
      let widest = (g - 1) * (p * d) in
      let each = sum_le i (λ k. q * far k) (λ k. widest * along k) (λ k _. steps_near (a k) (b k) (g - 1) (along k) d p q (above k) (below k)) in
      omega (arith, each, sum_times i q far, sum_times i widest along)

  -- ---- the samples at positions p and q, over the denominator D
  module _ (D : ℕ) (p q : ℕ → ℕ) (pos : 0 < D) (grid : 0 < g) (hp : (k : ℕ) → p k ≤ (g - 1) * D) (hq : (k : ℕ) → q k ≤ (g - 1) * D) where
    -- the node at positions a, for shifts s of the channels
    abbrev value : (ℕ → ℕ) → (ℕ → ℕ) → ℕ
    value a s = t (numbered g 0 (map (λ k. (a k + s k) / D) (range_with_len 0 i)))

    -- how far the indices of channel k lie apart
    abbrev far : (ℕ → ℕ) → ℕ → ℕ
    far s k = gap ((p k + s k) / D) ((q k + s k) / D)

    -- one sample
    one_apart : (s : ℕ → ℕ) → ((k : ℕ) → s k < D) → value p s ≤ value q s + weighted (far s) i
    one_apart s hs =
        let inside : (a : ℕ → ℕ) → ((k : ℕ) → a k ≤ (g - 1) * D) → (k : ℕ) → (a k + s k) / D < g = λ a ha k. let l = floor_inside D (g - 1) (a k) (s k) pos (ha k) (hs k) in omega arith in
        nodes_apart (λ k. (p k + s k) / D) (λ k. (q k + s k) / D) (inside p hp) (inside q hq)

    -- all samples, with one shift for all channels
    node_apart : sum_below D (λ s. value p (λ _. s)) ≤ sum_below D (λ s. value q (λ _. s)) + weighted (λ k. gap (p k) (q k)) i
    node_apart =
        let each = sum_apart D (λ s. value p (λ _. s)) (λ s. value q (λ _. s)) (λ s. weighted (far (λ _. s)) i) (λ s l. one_apart (λ _. s) (λ _. l)) in
        let swap = sum_weighted D i along (λ s. far (λ _. s)) in
        let gaps = sum_same i (λ k. along k * sum_below D (λ s. far (λ _. s) k)) (λ k. along k * gap (p k) (q k)) (λ k _. ap (λ n. along k * n) (floor_gaps D (p k) (q k) pos)) in
        omega (arith, each, swap, gaps)

    -- each difference of positions counts D times over the pairs of shifts
    pair_gaps : (k : ℕ) → sum_below D (λ u. sum_below D (λ s. far (pair u s) k)) ≡ D * gap (p k) (q k)
    pair_gaps zero =
        sum_same D _ (λ u. D * far (λ _. u) 0) (λ u _. sum_constant D (far (λ _. u) 0)) ∙ sum_times D D (λ u. far (λ _. u) 0) ∙ ap (λ n. D * n) (floor_gaps D (p 0) (q 0) pos)
    pair_gaps (suc k) = sum_constant D _ ∙ ap (λ n. D * n) (floor_gaps D (p (suc k)) (q (suc k)) pos)

    -- all samples, with a shift of its own for the first channel
    pair_apart : sum_below D (λ u. sum_below D (λ s. value p (pair u s))) ≤ sum_below D (λ u. sum_below D (λ s. value q (pair u s))) + D * weighted (λ k. gap (p k) (q k)) i
    pair_apart =
        let gapped : ℕ → ℕ = λ k. along k * gap (p k) (q k) in
        let each =
        sum_apart D (λ u. sum_below D (λ s. value p (pair u s))) (λ u. sum_below D (λ s. value q (pair u s))) (λ u. sum_below D (λ s. weighted (far (pair u s)) i))
        (λ u hu. sum_apart D (λ s. value p (pair u s)) (λ s. value q (pair u s)) (λ s. weighted (far (pair u s)) i) (λ s hs. one_apart (pair u s) (pair_limit D u s hu hs))) in
        let inner =
        sum_same D (λ u. sum_below D (λ s. weighted (far (pair u s)) i)) (λ u. weighted (λ k. sum_below D (λ s. far (pair u s) k)) i)
        (λ u _. sum_weighted D i along (λ s. far (pair u s))) in
        let outer = sum_weighted D i along (λ u k. sum_below D (λ s. far (pair u s) k)) in
        let gaps =
        sum_same i (λ k. along k * sum_below D (λ u. sum_below D (λ s. far (pair u s) k))) (λ k. D * gapped k)
        (λ k _. ap (λ n. along k * n) (pair_gaps k) ∙ mul_left_comm (along k) D (gap (p k) (q k))) in
        let times = sum_times i D gapped in
        omega (arith, each, inner, outer, gaps, times)

-- any lattice: where the differences of positions come to h/c of D, the sums differ by at most h/c of their terms
lattice_apart : (w : Channels) (g : ℕ) (t : ℕ → ℕ) (D : ℕ) (p q : ℕ → ℕ) → 0 < D → 0 < g → ((k : ℕ) → p k ≤ (g - 1) * D) → ((k : ℕ) → q k ≤ (g - 1) * D) →
    (c h : ℕ) → weighted g (number w) t (λ k. gap (p k) (q k)) (number w) * c ≤ h * D →
    lattice_sum w (λ xs. t (numbered g 0 xs)) D p * c ≤ lattice_sum w (λ xs. t (numbered g 0 xs)) D q * c + h * lattice_terms w D
unfolding node_samples pair_samples
lattice_apart One g t D p q pos grid hp hq c h e = omega (arith, mul-le-mul_right c (node_apart g 1 t D p q pos grid hp hq), e)
lattice_apart Three g t D p q pos grid hp hq c h e = omega (arith, mul-le-mul_right c (node_apart g 3 t D p q pos grid hp hq), e)
lattice_apart Four g t D p q pos grid hp hq c h e = omega (arith, mul-le-mul_right c (pair_apart g 4 t D p q pos grid hp hq), mul-le-mul_right D e)

-- ---- samples of any function of the indices

-- what a pair sums up: samples of a table in the first channel
pair_is : (node : List ℕ → ℕ) (D p : ℕ) (ps : List ℕ) → pair_samples node D p ps ≡ samples (λ x. node_samples (λ xs. node (x ∷ xs)) D ps) D p
unfolding pair_samples samples
pair_is node D p ps = refl

-- sums of counts stay within the largest count
node_limit : (node : List ℕ → ℕ) (D : ℕ) (ps : List ℕ) (m : ℕ) → ((xs : List ℕ) → node xs ≤ m) → node_samples node D ps ≤ D * m
unfolding node_samples
node_limit node D ps m h = sum_limit D (λ s. node (map (λ p. (p + s) / D) ps)) m (λ s. h (map (λ p. (p + s) / D) ps))

-- sums of any lattice do so too
lattice_limit : (w : Channels) (node : List ℕ → ℕ) (D : ℕ) (p : ℕ → ℕ) (m : ℕ) → ((xs : List ℕ) → node xs ≤ m) → lattice_sum w node D p ≤ lattice_terms w D * m
lattice_limit One node D p m h = node_limit node D _ m h
lattice_limit Three node D p m h = node_limit node D _ m h
lattice_limit Four node D p m h =
    let ps = p 1 ∷ p 2 ∷ p 3 ∷ [] in
    rw (pair_is node D (p 0) ps, mul_assoc D D m)
    (samples_limit (λ x. node_samples (λ xs. node (x ∷ xs)) D ps) D (p 0) (D * m) (λ x. node_limit (λ xs. node (x ∷ xs)) D ps m (λ xs. h (x ∷ xs))))

-- k times the positions over k times the denominator: each sample k times over
node_scale : (node : List ℕ → ℕ) (D k : ℕ) (ps : List ℕ) → 0 < k → node_samples node (k * D) (map (λ p. k * p) ps) ≡ k * node_samples node D ps
unfolding node_samples
node_scale node D k ps pos =
    sum_scale D k (λ s. node (map (λ p. (p + s) / (k * D)) (map (λ p. k * p) ps))) (λ s. node (map (λ p. (p + s) / D) ps)) pos
    (λ s. ap node (map-map (λ p. (p + s) / (k * D)) (λ p. k * p) ps ∙ ap (λ f. map f ps) (fun_ext (λ p. floor_scale D p k s pos))))

-- each pair k times k times over
pair_scale : (node : List ℕ → ℕ) (D k p : ℕ) (ps : List ℕ) → 0 < k → pair_samples node (k * D) (k * p) (map (λ a. k * a) ps) ≡ k * (k * pair_samples node D p ps)
unfolding samples
pair_scale node D k p ps pos =
    let table : ℕ → ℕ = λ x. node_samples (λ xs. node (x ∷ xs)) D ps in
    let inner = ap (λ t. samples t (k * D) (k * p)) (fun_ext (λ x. node_scale (λ xs. node (x ∷ xs)) D k ps pos)) in
    let outer = samples_scale (λ x. k * table x) D p k pos in
    let times = sum_times D k (λ s. table ((p + s) / D)) in
    pair_is node (k * D) (k * p) (map (λ a. k * a) ps) ∙ inner ∙ outer ∙ ap (λ n. k * n) (times ∙ ap (λ n. k * n) (sym (pair_is node D p ps)))

-- any lattice: the sum grows as its terms do
lattice_scale : (w : Channels) (node : List ℕ → ℕ) (D k : ℕ) (p : ℕ → ℕ) → 0 < k →
    lattice_sum w node (k * D) (λ c. k * p c) * lattice_terms w D ≡ lattice_sum w node D p * lattice_terms w (k * D)
lattice_scale One node D k p pos = omega (arith, ap (λ n. n * D) (node_scale node D k (p 0 ∷ []) pos))
lattice_scale Three node D k p pos = omega (arith, ap (λ n. n * D) (node_scale node D k (p 0 ∷ p 1 ∷ p 2 ∷ []) pos))
lattice_scale Four node D k p pos = omega (arith, ap (λ n. n * (D * D)) (pair_scale node D k (p 0) (p 1 ∷ p 2 ∷ p 3 ∷ []) pos))

-- there are terms
terms_positive : (w : Channels) (D : ℕ) → 0 < D → 0 < lattice_terms w D
terms_positive One D pos = pos
terms_positive Three D pos = pos
terms_positive Four D pos = mul-pos pos pos

-- ---- lattices
module _ (i o : Channels) (g : ℕ) (counts : List ℕ) where
  -- what output j sums up
  abbrev summed : Exact → ℕ → ℕ
  summed x j = lattice_sum i (node g (number o) counts j) (max_count * x.den) (λ k. num x k * (g - 1))

  -- the laws: exact colours go to exact colours
  lattice_stays : (x : Exact) → Valid x → Valid (lattice_exact i o g counts x)
  lattice_stays x v =
      let D = max_count * x.den in
      record {
        long = length_spread (number o) (summed x);
        positive = terms_positive i D (let p = v.positive in omega arith);
        within = each_channel (number o) (summed x) (λ a. a ≤ max_count * lattice_terms i D) (number_limit o) (omega arith)
            (λ j _. let l = lattice_limit i (node g (number o) counts j) D (λ k. num x k * (g - 1)) max_count (λ xs. omega arith) in omega arith);
      }

  -- a colour scaled up has an equal result
  lattice_scales : (m : ℕ) → 0 < m → (x : Exact) → Valid x → Same (lattice_exact i o g counts (scale m x)) (lattice_exact i o g counts x)
  lattice_scales m pos x v j =
      ⊎_elim
      (λ (h : j < number o).
      let left = spread_within (number o) (summed (scale m x)) j (number_limit o) h in
      let right = spread_within (number o) (summed x) j (number_limit o) h in
      let D = max_count * x.den in
      let den : max_count * (m * x.den) ≡ m * D = omega arith in
      let places = fun_ext (λ (k : ℕ). ap (λ a. a * (g - 1)) (num_scale m x k) ∙ mul_assoc m (num x k) (g - 1)) in
      rw (left, right, den, places) (lattice_scale i (node g (number o) counts j) D m (λ k. num x k * (g - 1)) pos))
      (λ (h : number o ≤ j). rw (spread_beyond (number o) (summed (scale m x)) j h, spread_beyond (number o) (summed x) j h) (omega arith))
      (cases_lt j (number o))

  -- its steepness
  abbrev steepness : ℕ
  steepness = steepness_of_curve g (lattice_step i o g counts)

  -- output j, where there are grid points
  output_steep : 0 < g → steepness < unclaimed → (p q : ℕ) (x y : Exact) → Valid x → Valid y → Level p q x y → (j : ℕ) → j < number o →
      summed x j * (grains * q) ≤ summed y j * (grains * q) + steepness * p * lattice_terms i (max_count * x.den)
  output_steep grid claimed p q x y vx vy h j hj =
      let J = lattice_step i o g counts in
      let t = output (number o) counts j in
      let total = below_largest (number o) (λ c. total_step (number i) g (output (number o) counts c)) j hj in
      let near = weighted_near g (number i) t (num x) (num y) x.den p q h.above h.below in
      let w = weighted g (number i) t (λ k. gap (num x k * (g - 1)) (num y k * (g - 1))) (number i) in
      let near' : q * w ≤ (g - 1) * (p * x.den) * J = le_trans near (mul-le-mul_left ((g - 1) * (p * x.den)) total) in
      let grown = steps_grown w (g - 1) J steepness x.den p q near' (steepness_covers g J claimed) in
      let D = max_count * x.den in
      let place : (a : ℕ) → a ≤ D → a * (g - 1) ≤ (g - 1) * D = λ a ha. rw (mul_comm a (g - 1)) (mul-le-mul_left (g - 1) ha) in
      let pos : 0 < D = let v = vx.positive in omega arith in
      rw (← h.one_den)
      (lattice_apart i g t D (λ k. num x k * (g - 1)) (λ k. num y k * (g - 1)) pos grid (λ k. place (num x k) (vx.within k)) (λ k. place (num y k) (rw h.one_den (vy.within k)))
      (grains * q) (steepness * p) grown)

  -- without them, all positions are equal
  output_flat : g ≤ 0 → (x y : Exact) → x.den ≡ y.den → (j : ℕ) → summed x j ≡ summed y j
  output_flat h x y e j =
      let none : g - 1 ≡ 0 = omega arith in
      let places = fun_ext (λ (k : ℕ). ap (λ n. num x k * n) none ∙ mul-zero (num x k) ∙ sym (mul-zero (num y k)) ∙ ap (λ n. num y k * n) (sym none)) in
      rw (e, places) refl

  -- every output, with or without them
  lattice_steep : steepness < unclaimed → (p q : ℕ) → 0 < q → (x y : Exact) → Valid x → Valid y → Level p q x y → (j : ℕ) →
      num (lattice_exact i o g counts x) j * (grains * q) ≤ num (lattice_exact i o g counts y) j * (grains * q) + steepness * p * lattice_terms i (max_count * x.den)
  lattice_steep claimed p q pos x y vx vy h j =
      ⊎_elim
      (λ (c : j < number o).
      rw (spread_within (number o) (summed x) j (number_limit o) c, spread_within (number o) (summed y) j (number_limit o) c)
      (⊎_elim
      (λ (grid : 0 < g). output_steep grid claimed p q x y vx vy h j c)
      (λ (none : g ≤ 0). rw (output_flat none x y h.one_den j) (le-add_right _ _))
      (cases_lt 0 g)))
      (λ (c : number o ≤ j). rw (spread_beyond (number o) (summed x) j c) (omega arith))
      (cases_lt j (number o))

-- lattices keep the laws
pub lattices_lawful : LatticesKeepTheLaws
lattices_lawful i o g counts =
    half_lawful i o (lattice_exact i o g counts) (steepness i o g counts) (record {
      limit = omega arith;
      stays = lattice_stays i o g counts;
      zero_beyond = λ x v j h. spread_beyond (number o) (summed i o g counts x) j h;
      scales = lattice_scales i o g counts;
      one_den = λ x y e. ap (λ d. lattice_terms i (max_count * d)) e;
      steep = lattice_steep i o g counts;
    })
