-- Blocks of nodes: how many there are, and the differences along a channel block by block. Assumes nothing.
use Rattle.std.proofs.Common.{◌≡◌, ℕ, ◌+◌, ◌-◌, ◌*◌, ◌^◌, ◌≤◌, refl, ◌∙◌, le_trans, arith}
use native.Mathlib.Nat.{pow-le-pow_left, pow-le-pow_right}
use Rattle.meaning.specs.Distances.{gap}
use Rattle.meaning.specs.Sums.{largest_below}
use Rattle.meaning.specs.Lattices.{largest_along}
use Rattle.meaning.proofs.Largest.{largest_same, largest_blocks}

-- some channels have at most as many nodes as more of them have with 255 grid points
pub nodes_limit : (g n most : ℕ) → g ≤ 255 → n ≤ most → g ^ n ≤ 255 ^ most
nodes_limit g n most hg hn = le_trans (pow-le-pow_left hg n) (pow-le-pow_right {n = 255} (omega arith) {i = n} {j = most} hn)

-- the differences along a channel, block by block of the nodes after one index of the channels before it
pub along_blocks : (g before after : ℕ) (t : ℕ → ℕ) →
    largest_below (g ^ before) (λ a. largest_below ((g - 1) * g ^ after) (λ n. gap (t (a * (g * g ^ after) + n)) (t (a * (g * g ^ after) + n + g ^ after)))) ≡ largest_along g before after t
along_blocks g before after t =
    let s = g ^ after in
    largest_same (g ^ before) _ _ (λ a _.
    largest_blocks (g - 1) s (λ n. gap (t (a * (g * s) + n)) (t (a * (g * s) + n + s)))
    ∙ largest_same (g - 1) _ _ (λ x _. largest_same s _ _ (λ b _.
    let here : a * (g * s) + (x * s + b) ≡ (a * g + x) * s + b = omega arith in
    let next : (a * g + x) * s + b + s ≡ (a * g + (x + 1)) * s + b = omega arith in
    rw (here, next) refl)))
