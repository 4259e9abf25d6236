use Rattle.meaning.proofs.Worked.{worked_figures_lem}
use Rattle.meaning.proofs.figures_hold.Goals as goal

pub returns : goal.returns
returns c = worked_figures_lem
