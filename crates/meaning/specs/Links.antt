-- A device link: a stage baked into one lattice, whose nodes are the stage's answers, and how far it strays from the stage.
use Rattle.std.specs.Prelude.{◌≡◌, ℕ, zero, suc, ◌+◌, ◌-◌, ◌*◌, ◌/◌, ◌%◌, ◌^◌, ◌<◌, ◌≤◌, min, cond, ◌||◌, List, [], ◌++◌, map, take, nat_lt, ◌==◌}
use Rattle.std.specs.List.{range_with_len}
use Rattle.meaning.specs.declared.Channels.{Channels}
use Rattle.meaning.specs.Colours.{max_count, grains, full_range, half_count, number, at, Colour, whole, spread, rounded, ceiling}
use Rattle.meaning.specs.Distances.{Near}
use Rattle.meaning.specs.Lattices.{numbered, lattice}
use Rattle.meaning.specs.Stages.{unclaimed, Meaning, Lawful}

-- the count that grid point j of g stands for: j·65,535/(g − 1), rounded, halves upward
abbrev pub grid_count : ℕ → ℕ → ℕ
grid_count g j = rounded (j * max_count) (g - 1)

-- the index of node n along channel k of i: its digits to the base g, the last channel's being the last
abbrev pub node_index : ℕ → ℕ → ℕ → ℕ → ℕ
node_index i g n k = n / g ^ (i - (k + 1)) % g

-- the colour that node n stands for; 0 beyond the in-channels
abbrev pub node_colour : Channels → ℕ → ℕ → List ℕ
node_colour i g n = spread (number i) (λ k. grid_count g (node_index (number i) g n k))

-- the stage's answer at node n, in its out-channels
abbrev pub node_answer : Meaning → ℕ → ℕ → List ℕ
node_answer m g n = take (number m.outs) (m.answer (node_colour m.ins g n))

-- the stage's answers at `count` nodes in lattice order, from node `first` on
unfoldable pub nodes_from : Meaning → ℕ → ℕ → ℕ → List ℕ
nodes_from m g first zero = []
nodes_from m g first (suc count) = node_answer m g first ++ nodes_from m g (suc first) count

-- the nodes of the whole link
abbrev pub baked : Meaning → ℕ → List ℕ
baked m g = nodes_from m g 0 (g ^ number m.ins)

-- the error of a link with g grid points, of a stage with error e and steepness l: a colour and the nodes around it are at
-- most a step of the grid and half a count apart, and the answer is rounded once more. Nothing is claimed without a
-- steepness, or without a grid
abbrev pub error_of_link : ℕ → ℕ → ℕ → ℕ
error_of_link e l g =
    cond (l == unclaimed || nat_lt g 2) full_range
    (min full_range (e + ceiling (l * (2 * max_count + (g - 1))) (2 * (g - 1)) + half_count))

-- the nodes are counted in lattice order, as in every lattice
abbrev pub NodesAreNumbered : Type 0
NodesAreNumbered = (i : Channels) (g n : ℕ) → n < g ^ number i → numbered g 0 (map (node_index (number i) g n) (range_with_len 0 (number i))) ≡ n

-- a link by its nodes: it stands for the stage's exact map, and answers by its lattice
abbrev pub link : Meaning → ℕ → List ℕ → Meaning
link m g nodes = record {
  ins = m.ins;
  outs = m.outs;
  exact = m.exact;
  answer = (lattice m.ins m.outs g nodes).answer;
  steepness = m.steepness;
  error = error_of_link m.error m.steepness g;
}

-- a colour that is 0 beyond the channels of a stage
abbrev pub Plain : Channels → List ℕ → Type 0
Plain i c = (k : ℕ) → number i ≤ k → at c k ≡ 0

-- a baked link answers each colour within its error of the exact value of the stage itself
abbrev pub LinksAreClose : Type 0
LinksAreClose =
    (m : Meaning) → Lawful m → (g : ℕ) → 2 ≤ g → (c : List ℕ) → Colour c → Plain m.ins c → Near (error_of_link m.error m.steepness g) grains (whole ((link m g (baked m g)).answer c)) (m.exact (whole c))
