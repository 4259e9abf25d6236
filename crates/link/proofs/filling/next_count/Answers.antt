-- Where the higher count is reached, and where it is not. The count fits, as that of a grid point.
use Rattle.std.proofs.Common.{◌≡◌, ◌+◌}
use Rattle.meaning.specs.Links.{grid_count}
use Rattle.link.proofs.NodeSteps.{next_low, next_high, grid_limit}
use Rattle.link.proofs.filling.next_count.Goals as goal
use Rattle.link.proofs.filling.next_count.Goals.{Then-steps-low, Else-steps-low}

high : (c : Then-steps-low) → c.from.result + c.from-2.result + 1 ≡ grid_count c.args.grid.0 (c.args.point + 1)
high c =
    let reached = rw (c.from.ensures, c.from-2.ensures, c.from-3.ensures, c.from-4.ensures, c.from-steps.ensures, c.points.ensures, c.requires.here, c.requires.whole) at c.if-steps-low.true in
    rw (c.from.ensures, c.from-2.ensures, c.requires.here, c.requires.whole) (next_high c.args.grid.0 c.args.point c.requires.some reached)

low : (c : Else-steps-low) → c.from.result + c.from-2.result ≡ grid_count c.args.grid.0 (c.args.point + 1)
low c =
    let missed = rw (c.from.ensures, c.from-2.ensures, c.from-3.ensures, c.from-4.ensures, c.from-steps.ensures, c.points.ensures, c.requires.here, c.requires.whole) at c.if-steps-low.false in
    rw (c.from.ensures, c.from-2.ensures, c.requires.here, c.requires.whole) (next_low c.args.grid.0 c.args.point c.requires.some missed)

pub returns-then-steps-low : goal.returns-then-steps-low
returns-then-steps-low c = high c

pub returns-else-steps-low : goal.returns-else-steps-low
returns-else-steps-low c = low c

pub overflow_cast-result : goal.overflow_cast-result
overflow_cast-result c = rw (high c) (grid_limit c.args.grid.0 (c.args.point + 1) c.requires.some c.requires.within)

pub overflow_cast-result-else-steps-low : goal.overflow_cast-result-else-steps-low
overflow_cast-result-else-steps-low c = rw (low c) (grid_limit c.args.grid.0 (c.args.point + 1) c.requires.some c.requires.within)
