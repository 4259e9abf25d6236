use Rattle.std.proofs.Common.{◌≡◌, ◌+◌, ◌-◌, ◌*◌, rules, tests}
use Rattle.meaning.specs.Sums.{largest_below}
use Rattle.stage.specs.Lattices.{step_of_output}
use Rattle.stage.proofs.planes.Plane.axis_step.Goals as goal

pub returns : goal.returns
returns g c =
    let s = c.args.self.now.lattice.now in
    let after = c.args.axis.now.after in
    let step = step_of_output g.E.Entries.counts s c.args.self.now.output after in
    let blocks : c.largest.result ≡ largest_below c.args.axis.now.before (λ a. largest_below ((s.grid - 1) * after) (λ n. step (a * (c.from.result * after) + n))) =
    c.largest.ensures _ (λ k r h. search (rules, tests)) in
    rw c.from.ensures at blocks
