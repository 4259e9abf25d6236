-- Lattices: one node for each combination of grid points, g of them in every in-channel; a node has o outputs.
use Rattle.std.specs.Prelude.{ℕ, ◌+◌, ◌-◌, ◌*◌, ◌/◌, ◌^◌, List, [], ◌∷◌, map}
use Rattle.meaning.specs.declared.Channels.{Channels}
use Rattle.meaning.specs.declared.Channels.TheVariants.{One, Three, Four}
use Rattle.meaning.specs.Colours.{max_count, half_count, number, num, Exact, spread}
use Rattle.meaning.specs.Distances.{gap}
use Rattle.meaning.specs.Sums.{sum_below, largest_below}
use Rattle.meaning.specs.Stages.{Meaning, Lawful, rounding}
use Rattle.meaning.specs.Curves.{entry, steepness_of_curve}

-- the number of the node with the indices xs, after indices that have the number n: (n g + x) g + …, so that the
-- last index moves on from node to node, and the first most seldom
abbrev pub numbered : ℕ → ℕ → List ℕ → ℕ
numbered g n [] = n
numbered g n (x ∷ xs) = numbered g (n * g + x) xs

-- the entries of all nodes: g to the power i nodes, of o entries each
abbrev pub entries_of_lattice : Channels → Channels → ℕ → ℕ
entries_of_lattice i o g = g ^ number i * number o

-- output j of node n, where the outputs of each node stand together
abbrev pub output : ℕ → List ℕ → ℕ → ℕ → ℕ
output o counts j n = entry counts (n * o + j)

-- output j of the node with these indices
abbrev pub node : ℕ → ℕ → List ℕ → ℕ → List ℕ → ℕ
node g o counts j xs = output o counts j (numbered g 0 xs)

-- D samples added up: sample s reads the node that has the index ⌊(p + s)/D⌋ in the channel at position p
unfoldable pub node_samples : (List ℕ → ℕ) → ℕ → List ℕ → ℕ
node_samples node D ps = sum_below D (λ s. node (map (λ p. (p + s) / D) ps))

-- D · D samples added up: every u for the first channel, at position p, with every s for the channels after it
unfoldable pub pair_samples : (List ℕ → ℕ) → ℕ → ℕ → List ℕ → ℕ
pair_samples node D p ps = sum_below D (λ u. node_samples (λ xs. node ((p + u) / D ∷ xs)) D ps)

-- what a lattice adds up at the positions p of its in-channels: four of them in pairs
abbrev pub lattice_sum : Channels → (List ℕ → ℕ) → ℕ → (ℕ → ℕ) → ℕ
lattice_sum One node D p = node_samples node D (p 0 ∷ [])
lattice_sum Three node D p = node_samples node D (p 0 ∷ p 1 ∷ p 2 ∷ [])
lattice_sum Four node D p = pair_samples node D (p 0) (p 1 ∷ p 2 ∷ p 3 ∷ [])

-- how many samples there are
abbrev pub lattice_terms : Channels → ℕ → ℕ
lattice_terms One D = D
lattice_terms Three D = D
lattice_terms Four D = D * D

-- the exact value, the mean of those samples: a channel a/d has the position p = a (g − 1), and D is 65,535 d
abbrev pub lattice_exact : Channels → Channels → ℕ → List ℕ → Exact → Exact
lattice_exact i o g counts x = record {
  nums = spread (number o) (λ j. lattice_sum i (node g (number o) counts j) (max_count * x.den) (λ k. num x k * (g - 1)));
  den = lattice_terms i (max_count * x.den);
}

-- how far neighbours along one channel lie apart at most, in a function t of the node's number: a is the number of
-- the indices before that channel, x its own index, and b the number of the indices after it
abbrev pub largest_along : ℕ → ℕ → ℕ → (ℕ → ℕ) → ℕ
largest_along g before after t =
    largest_below (g ^ before) (λ a. largest_below (g - 1) (λ x. largest_below (g ^ after) (λ b.
    gap (t ((a * g + x) * g ^ after + b)) (t ((a * g + (x + 1)) * g ^ after + b)))))

-- the sum of these over the i in-channels
abbrev pub total_step : ℕ → ℕ → (ℕ → ℕ) → ℕ
total_step i g t = sum_below i (λ k. largest_along g k (i - (k + 1)) t)

-- the largest sum among the outputs
abbrev pub lattice_step : Channels → Channels → ℕ → List ℕ → ℕ
lattice_step i o g counts = largest_below (number o) (λ j. total_step (number i) g (output (number o) counts j))

-- a lattice from i to o channels with g grid points a channel
abbrev pub lattice : Channels → Channels → ℕ → List ℕ → Meaning
lattice i o g counts = rounding i o (lattice_exact i o g counts) (steepness_of_curve g (lattice_step i o g counts)) half_count

-- lattices keep the laws, whatever their nodes hold
abbrev pub LatticesKeepTheLaws : Type 0
LatticesKeepTheLaws = (i o : Channels) (g : ℕ) (counts : List ℕ) → Lawful (lattice i o g counts)
