-- The indices of a node and its number, each from the other. Assumes nothing.
use Rattle.std.proofs.Common.{mul-pos, ◌≡◌, ℕ, zero, suc, ◌+◌, ◌-◌, ◌*◌, ◌/◌, ◌%◌, ◌^◌, ◌<◌, ◌≤◌, map, sym, refl, ap, ◌∙◌, ⊎_elim, pow-suc, arith}
use native.Mathlib.Nat.{pow-zero, pow-succ', mod-one, mod-eq_of_lt}
use Rattle.std.proofs.Math.Arith.{mod-mul}
use Rattle.std.specs.List.{range_with_len}
use Rattle.std.proofs.lemmas.Bool.{cases_lt}
use Rattle.std.proofs.lemmas.Nat.{div-mul-add, mod-mul-add}
use Rattle.meaning.specs.declared.Channels.{Channels}
use Rattle.meaning.specs.declared.Channels.TheVariants.{One, Three, Four}
use Rattle.meaning.specs.Colours.{number}
use Rattle.meaning.specs.Lattices.{numbered}
use Rattle.meaning.specs.Links.{node_index, NodesAreNumbered}
use Rattle.meaning.proofs.LatticeLaws.{numbered_split, numbered_limit}

-- the index j of a number is the j-th of the n indices that it was counted from, after any others
pub index_from : (g : ℕ) (x : ℕ → ℕ) → ((k : ℕ) → x k < g) → (a k n j : ℕ) → j < n → node_index n g (numbered g a (map x (range_with_len k n))) j ≡ x (k + j)
index_from g x h a k zero j l = absurd (omega arith)
index_from g x h a k (suc n) zero l =
    let after : suc n - (0 + 1) ≡ n = omega arith in
    let here : k + 0 ≡ k = omega arith in
    let low = numbered_limit g x h (k + 1) n in
    rw (after, here, numbered_split g x (a * g + x k) (k + 1) n, div-mul-add (a * g + x k) (g ^ n) (numbered g 0 (map x (range_with_len (k + 1) n))) low)
    (mod-mul-add a g (x k) (h k))
index_from g x h a k (suc n) (suc j) l =
    let after : suc n - (suc j + 1) ≡ n - (j + 1) = omega arith in
    let here : k + suc j ≡ k + 1 + j = omega arith in
    rw (after, here) (index_from g x h (a * g + x k) (k + 1) n j (omega arith))

-- powers of a number of grid points
pow_positive : (g r : ℕ) → 0 < g → 0 < g ^ r
pow_positive g zero pos = rw (pow-zero g) (omega arith)
pow_positive g (suc r) pos = rw (pow-suc g r) (mul-pos (pow_positive g r pos) pos)

-- the last r indices of a number count what it has beyond a multiple of g to the power r
counted_from : (g i n : ℕ) → 0 < g → (a k r : ℕ) → k + r ≡ i → numbered g a (map (node_index i g n) (range_with_len k r)) ≡ a * g ^ r + n % g ^ r
counted_from g i n pos a k zero e = rw (pow-zero g, mod-one n) (omega arith)
counted_from g i n pos a k (suc r) e =
    let after : i - (k + 1) ≡ r = omega arith in
    let rest = counted_from g i n pos (a * g + node_index i g n k) (k + 1) r (omega arith) in
    let low = mod-mul n pos (pow_positive g r pos) in
    rw (pow-succ' g r, low, ap (λ e. n / g ^ e % g) (sym after)) (omega (arith, rest))

-- without grid points there are no nodes
no_nodes : (i : Channels) → 0 ^ number i ≡ 0
no_nodes One = refl
no_nodes Three = refl
no_nodes Four = refl

-- the indices of a node have its number
pub nodes_are_numbered : NodesAreNumbered
nodes_are_numbered i g n h =
    ⊎_elim
    (λ (pos : 0 < g). counted_from g (number i) n pos 0 0 (number i) (omega arith) ∙ (let whole = mod-eq_of_lt h in omega arith))
    (λ (none : g ≤ 0). let zero_points : g ≡ 0 = omega arith in absurd (let e = ap (λ n. n ^ number i) zero_points ∙ no_nodes i in omega arith))
    (cases_lt 0 g)
