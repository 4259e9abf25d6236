use Rattle.std.proofs.Common.{◌+◌, ◌-◌, arith, rules, tests}
use Rattle.meaning.specs.Colours.{number}
use Rattle.meaning.specs.Lattices.{largest_along}
use Rattle.meaning.proofs.Channelwise.{number_limit}
use Rattle.meaning.proofs.Listed.{sum_of_range, sum_fits}
use Rattle.stage.specs.Lattices.{output_of_node}
use Rattle.meaning.proofs.LimitLaws.{along_limit}
use Rattle.stage.proofs.planes.Plane.total_step.Goals as goal

pub sum-requires-clause-fits : goal.sum-requires-clause-fits
sum-requires-clause-fits g c =
    let s = c.args.self.now.lattice.now in
    let t = output_of_node g.E.Entries.counts s c.args.self.now.output in
    sum_fits (number s.ins) (λ k. largest_along s.grid k (number s.ins - (k + 1)) t) _ _ c.map.ensures.source (omega arith) c.map.ensures.closure (λ x r q k. search (rules, tests))
    65535 _ (λ k. along_limit s.grid k (number s.ins - (k + 1)) t (λ n. omega arith)) (omega (arith, number_limit s.ins))

pub returns : goal.returns
returns g c =
    let s = c.args.self.now.lattice.now in
    sum_of_range (number s.ins) (λ k. largest_along s.grid k (number s.ins - (k + 1)) (output_of_node g.E.Entries.counts s c.args.self.now.output)) _ _ c.map.ensures.source (omega arith) c.map.ensures.closure (λ x r q k. search (rules, tests)) _ c.sum.ensures.ran
