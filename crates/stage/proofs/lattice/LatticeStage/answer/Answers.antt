use Rattle.std.proofs.Common.{◌∙◌}
use Rattle.stage.proofs.CellLaws.{cell_answer}
use Rattle.stage.proofs.lattice.LatticeStage.answer.Goals as goal

pub returns : goal.returns
returns g c =
    let self = c.args.self.now in
    rw c.cell.ensures at c.outputs.ensures ∙ cell_answer self.ins self.outs self.grid (g.E.Entries.counts self.table) c.args.colour.now
