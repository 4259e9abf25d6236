-- When a lattice is made, and the legs of a colour in it.
use Rattle.std.specs.Prelude.{ℕ, ◌+◌, ◌-◌, ◌*◌, cond, List, [], ◌∷◌, Some, None, Option, nat_le}
use Rattle.meaning.specs.declared.Channels.{Channels}
use Rattle.meaning.specs.declared.Channels.TheVariants.{One, Three, Four}
use Rattle.meaning.specs.Colours.{number, at, Exact, spread}
use Rattle.meaning.specs.Curves.{entry}
use Rattle.meaning.specs.Distances.{gap}
use Rattle.meaning.specs.Lattices.{output}
use Rattle.meaning.specs.Sums.{sum_below, largest_below}
use Rattle.stage.specs.declared.lattice.Lattice.{Lattice}
use Rattle.stage.specs.declared.lattice.Grid.{Grid}
use Rattle.stage.specs.declared.lattice.Cell.{Cell}
use Rattle.stage.specs.declared.lattice.Cell.TheVariants.{Alone, Paired}
use Rattle.stage.specs.Legs.{idle, leg, sorted, reach, reach_all}

-- how many points a grid has, and the grid of that many
abbrev pub points : Grid → ℕ
points grid = grid.0

abbrev pub grid_with : ℕ → Grid
grid_with g = record { 0 = g }

-- a grid has 2 points or more; no other number makes one
abbrev pub grid_of : ℕ → Option Grid
grid_of g = cond (nat_le 2 g) (Some (grid_with g)) None

-- a lattice of g grid points over a source of entries, and how many grid points a lattice has
abbrev pub lattice_with : {E : Type 0} → Channels → Channels → ℕ → E → Lattice E
lattice_with i o g table = record { ins = i; outs = o; grid = g; table = table }

abbrev pub lattice_points : {E : Type 0} → Lattice E → ℕ
lattice_points lattice = lattice.grid

-- 2 grid points or more make a lattice; no other number does
abbrev pub lattice_over : {E : Type 0} → Channels → Channels → ℕ → E → Option (Lattice E)
lattice_over i o g table = cond (nat_le 2 g) (Some (lattice_with i o g table)) None

-- the entries that a step passes over in each of four channels, with o outputs a node and g grid points a channel:
-- one node in the last channel, and g times as many in each channel before it
abbrev pub strides : ℕ → ℕ → List ℕ
strides o g = (o * g * g * g) ∷ (o * g * g) ∷ (o * g) ∷ o ∷ []

-- the legs of a colour
abbrev pub cell : Channels → ℕ → ℕ → List ℕ → Cell
cell One o g c = Alone (sorted (leg (at c 0) (g - 1) o) idle idle)
cell Three o g c = Alone (sorted (leg (at c 0) (g - 1) (o * g * g)) (leg (at c 1) (g - 1) (o * g)) (leg (at c 2) (g - 1) o))
cell Four o g c =
    Paired (leg (at c 0) (g - 1) (o * g * g * g)) (sorted (leg (at c 1) (g - 1) (o * g * g)) (leg (at c 2) (g - 1) (o * g)) (leg (at c 3) (g - 1) o))

-- what the samples of a cell sum up to in a table f, with j added to each place
abbrev pub cell_sum : (ℕ → ℕ) → Cell → ℕ → ℕ
cell_sum f (Alone t) j = sum_below 65535 (λ s. f (j + reach_all t s))
cell_sum f (Paired l t) j = sum_below 65535 (λ u. sum_below 65535 (λ s. f (j + reach l u + reach_all t s)))

-- how many samples, or pairs of them, these are
abbrev pub cell_terms : Cell → ℕ
cell_terms (Alone t) = 65535
cell_terms (Paired l t) = 65535 * 65535

-- the value that they give, with o outputs
abbrev pub cell_exact : ℕ → (ℕ → ℕ) → Cell → Exact
cell_exact o f t = record { nums = spread o (cell_sum f t); den = cell_terms t }

-- the entry at a place of the table; `counts` is what the source of the entries means
abbrev pub lattice_entry : {E : Type 0} → (E → List ℕ) → Lattice E → ℕ → ℕ
lattice_entry counts s = entry (counts s.table)

-- output j of node n
abbrev pub output_of_node : {E : Type 0} → (E → List ℕ) → Lattice E → ℕ → ℕ → ℕ
output_of_node counts s = output (number s.outs) (counts s.table)

-- the difference of that output and the same one `after` nodes later
abbrev pub step_of_output : {E : Type 0} → (E → List ℕ) → Lattice E → ℕ → ℕ → ℕ → ℕ
step_of_output counts s j after n = gap (output_of_node counts s j n) (output_of_node counts s j (n + after))

-- the largest of these in a block, the nodes from `first` on over which the channel's own index runs once through
abbrev pub step_of_block : {E : Type 0} → (E → List ℕ) → Lattice E → ℕ → ℕ → ℕ → ℕ
step_of_block counts s j after first = largest_below ((s.grid - 1) * after) (λ n. step_of_output counts s j after (first + n))

-- and in all blocks, one for each of the `before` combinations of indices of the channels before
abbrev pub step_of_blocks : {E : Type 0} → (E → List ℕ) → Lattice E → ℕ → ℕ → ℕ → ℕ
step_of_blocks counts s j before after = largest_below before (λ a. step_of_block counts s j after (a * (s.grid * after)))
