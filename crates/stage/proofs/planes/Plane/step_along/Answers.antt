use Rattle.std.proofs.Common.{◌+◌, ◌-◌, ◌∙◌}
use Rattle.meaning.specs.Colours.{number}
use Rattle.stage.specs.Lattices.{output_of_node}
use Rattle.stage.proofs.GridLaws.{along_blocks}
use Rattle.stage.proofs.planes.Plane.step_along.Goals as goal

pub returns : goal.returns
returns g c =
    let s = c.args.self.now.lattice.now in
    rw (c.axis.ensures.before, c.axis.ensures.after) at c.axis_step.ensures ∙ along_blocks s.grid c.args.k (number s.ins - (c.args.k + 1)) (output_of_node g.E.Entries.counts s c.args.self.now.output)
