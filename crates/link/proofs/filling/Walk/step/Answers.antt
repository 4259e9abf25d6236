-- Along a line the last channel's count and point go on to the next ones.
use Rattle.std.proofs.Common.{◌+◌, ◌%◌, ◌<◌, arith}
use Rattle.link.proofs.NodeSteps.{last_count, along_line, next_point}
use Rattle.link.proofs.filling.Walk.step.Goals as goal

pub next_count-requires-clause-here : goal.next_count-requires-clause-here
next_count-requires-clause-here c = rw (c.requires.here.colour, c.requires.here.point, c.number.ensures) (last_count c.args.self.now.grid.0 c.args.node c.args.ins)

pub returns-else-self-points : goal.returns-else-self-points
returns-else-self-points c =
    let g = c.args.self.now.grid.0 in
    let n = c.args.node in
    let inside : n % g + 1 < g = omega (arith, c.requires.here.point, c.requires.here.some, c.if-self-points.false, c.points.ensures) in
    record {
      some = c.requires.here.some;
      grid = c.requires.here.grid;
      whole = c.requires.here.whole;
      point = rw c.requires.here.point (next_point g n c.requires.here.some inside);
      colour = rw (c.requires.here.colour, c.number.ensures, c.next_count.ensures, c.requires.here.point) (along_line g n c.requires.here.some inside c.args.ins);
    }
