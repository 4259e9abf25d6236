-- The lattice's answer is the one that its meaning has.
use Rattle.std.proofs.Common.{ap, ◌∙◌}
use Rattle.meaning.specs.Stages.{Meaning}
use Rattle.link.proofs.lent.RowLatticeStage.answer.Goals as goal

pub returns : goal.returns
returns g c = c.answer.ensures ∙ ap (λ (m : Meaning). m.answer c.args.colour.now) c.lattice.ensures
