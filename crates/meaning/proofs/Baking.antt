-- The nodes of a link: their colours, their lengths, their places and their lists one after the other. Assumes nothing.
use Rattle.std.proofs.Common.{◌≡◌, ℕ, zero, suc, ◌+◌, ◌-◌, ◌*◌, ◌/◌, ◌^◌, ◌<◌, ◌≤◌, List, ◌++◌, length, sym, refl, ap, ◌∙◌, ⊎_elim, mul-le-mul_right, append_assoc, length-append, arith}
use Rattle.std.proofs.Math.ListN.{get_or-append}
use native.Mathlib.Nat.{div-zero, mod-lt}
use Rattle.std.proofs.lemmas.Bool.{cases_lt}
use Rattle.std.proofs.lemmas.List.{append-nil, get_or-append-add, get_or-take, length-take-le}
use Rattle.meaning.specs.declared.Channels.{Channels}
use Rattle.meaning.specs.Colours.{max_count, number, at, Colour}
use Rattle.meaning.specs.Stages.{Meaning, Lawful}
use Rattle.meaning.specs.Links.{grid_count, node_index, node_colour, node_answer, nodes_from, baked, link}
use Rattle.meaning.proofs.Channelwise.{number_limit, length_spread, each_channel}
use Rattle.meaning.proofs.Rounding.{rounded_limit}
use Rattle.meaning.proofs.LatticeLaws.{lattices_lawful}

-- a grid point stands for a count
pub grid_limit : (g j : ℕ) → j ≤ g - 1 → grid_count g j ≤ max_count
grid_limit g j h =
    ⊎_elim
    (λ (pos : 0 < g - 1). rounded_limit (j * max_count) (g - 1) max_count pos (omega (arith, mul-le-mul_right max_count h)))
    (λ (none : g - 1 ≤ 0). let e : g - 1 ≡ 0 = omega arith in rw (e, div-zero) (omega arith))
    (cases_lt 0 (g - 1))

-- a node's indices are grid points, where there are any
pub index_limit : (i g n k : ℕ) → 0 < g → node_index i g n k ≤ g - 1
index_limit i g n k pos = let l = mod-lt (n / g ^ (i - (k + 1))) pos in omega arith

-- a node stands for a colour, whatever g is: with fewer than two grid points each count is 0
pub node_is_colour : (i : Channels) (g n : ℕ) → Colour (node_colour i g n)
node_is_colour i g n = record {
  long = length_spread (number i) (λ k. grid_count g (node_index (number i) g n k));
  within = each_channel (number i) (λ k. grid_count g (node_index (number i) g n k)) (λ a. a ≤ max_count) (number_limit i) (omega arith)
      (λ k _. ⊎_elim
      (λ (pos : 0 < g). grid_limit g (node_index (number i) g n k) (index_limit (number i) g n k pos))
      (λ (none : g ≤ 0). let e : g - 1 ≡ 0 = omega arith in rw (e, div-zero) (omega arith))
      (cases_lt 0 g));
}

-- ---- lists of nodes, one after the other

-- the first a nodes and the b nodes after them
pub nodes_split : (m : Meaning) (g first a b : ℕ) → nodes_from m g first (a + b) ≡ nodes_from m g first a ++ nodes_from m g (first + a) b
unfolding nodes_from
nodes_split m g first zero b = let here : first + 0 ≡ first = omega arith in let none : 0 + b ≡ b = omega arith in rw (here, none) refl
nodes_split m g first (suc a) b =
    let here : first + suc a ≡ suc first + a = omega arith in
    let more : suc a + b ≡ suc (a + b) = omega arith in
    rw (here, more, nodes_split m g (suc first) a b) (sym (append_assoc (node_answer m g first) (nodes_from m g (suc first) a) (nodes_from m g (suc first + a) b)))

-- the same with one node more
pub nodes_next : (m : Meaning) (g first n : ℕ) → nodes_from m g first (suc n) ≡ nodes_from m g first n ++ node_answer m g (first + n)
unfolding nodes_from
nodes_next m g first n =
    let more : suc n ≡ n + 1 = omega arith in
    ap (nodes_from m g first) more ∙ nodes_split m g first n 1 ∙ ap (λ l. nodes_from m g first n ++ l) (append-nil (node_answer m g (first + n)))

-- ---- the nodes of a stage that keeps the laws
module _ (m : Meaning) (law : Lawful m) where
  -- a node has an entry for each out-channel
  pub length_answer : (g n : ℕ) → length (node_answer m g n) ≡ number m.outs
  length_answer g n =
      let long = (law.answers (node_colour m.ins g n) (node_is_colour m.ins g n)).long in
      let l = number_limit m.outs in
      length-take-le (number m.outs) (m.answer (node_colour m.ins g n)) (omega arith)

  -- so all nodes have that many each
  pub length_nodes : (g first n : ℕ) → length (nodes_from m g first n) ≡ n * number m.outs
  unfolding nodes_from
  length_nodes g first zero = omega arith
  length_nodes g first (suc n) =
      length-append (node_answer m g first) (nodes_from m g (suc first) n)
      ∙ (let one = length_answer g first in let rest = length_nodes g (suc first) n in omega arith)

  -- output j of node n stands at its place
  pub node_at : (g first count n j : ℕ) → n < count → j < number m.outs → at (nodes_from m g first count) (n * number m.outs + j) ≡ at (m.answer (node_colour m.ins g (first + n))) j
  unfolding nodes_from
  node_at g first zero n j hn hj = absurd (omega arith)
  node_at g first (suc count) zero j hn hj =
      let rest = nodes_from m g (suc first) count in
      let place : 0 * number m.outs + j ≡ j = omega arith in
      let here : first + 0 ≡ first = omega arith in
      let inside : j < length (node_answer m g first) = let l = length_answer g first in omega arith in
      rw (place, here) (get_or-append (node_answer m g first) rest 0 j inside ∙ get_or-take (number m.outs) (m.answer (node_colour m.ins g first)) j 0 hj)
  node_at g first (suc count) (suc n) j hn hj =
      let rest = nodes_from m g (suc first) count in
      let place : suc n * number m.outs + j ≡ length (node_answer m g first) + (n * number m.outs + j) = let l = length_answer g first in omega arith in
      let here : first + suc n ≡ suc first + n = omega arith in
      rw (place, here) (get_or-append-add (node_answer m g first) rest (n * number m.outs + j) 0 ∙ node_at g (suc first) count n j (omega arith) hj)

  -- the same in the nodes of the whole link
  pub baked_at : (g n j : ℕ) → n < g ^ number m.ins → j < number m.outs → at (baked m g) (n * number m.outs + j) ≡ at (m.answer (node_colour m.ins g n)) j
  baked_at g n j hn hj = let here : 0 + n ≡ n = omega arith in rw here at (node_at g 0 (g ^ number m.ins) n j hn hj)

  -- a link answers colours, whatever its nodes hold
  pub link_answers : (g : ℕ) (nodes c : List ℕ) → Colour c → Colour ((link m g nodes).answer c)
  link_answers g nodes c h = (lattices_lawful m.ins m.outs g nodes).answers c h
