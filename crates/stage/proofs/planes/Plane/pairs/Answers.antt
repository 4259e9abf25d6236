use Rattle.std.proofs.Common.{◌≡◌, ℕ, ◌+◌, ◌*◌, ◌∙◌, arith}
use Rattle.meaning.specs.Sums.{sum_below}
use Rattle.meaning.specs.Curves.{entry}
use Rattle.meaning.proofs.Sampling.{sum_limit}
use Rattle.stage.specs.Legs.{reach, reach_all}
use Rattle.stage.proofs.LegLaws.{leg_sum}
use Rattle.stage.proofs.planes.Plane.pairs.Goals as goal

pub returns : goal.returns
returns g c =
    let first = c.args.first.now in
    let from : ℕ → ℕ = λ place. sum_below 65535 (λ s. entry (g.E.Entries.counts c.args.self.now.lattice.now.table) (place + reach_all c.args.legs.now s)) in
    let sum : c.blend.result ≡ sum_below 65535 (λ u. from (c.args.self.now.output + reach first u)) =
    rw (c.tetrahedron-low.ensures.value, c.tetrahedron-high.ensures.value, c.start.ensures.value) at c.blend.ensures ∙ leg_sum from first c.args.self.now.output (omega arith) in
    record { value = sum; limit = let l = sum_limit 65535 (λ u. from (c.args.self.now.output + reach first u)) (65535 * 65535) (λ u. sum_limit 65535 _ 65535 (λ s. omega arith)) in omega (arith, sum, l) }
