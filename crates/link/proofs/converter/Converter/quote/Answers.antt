-- The run goes on.
use Rattle.std.proofs.Common.{None, refl}
use Rattle.link.specs.Runs.{quote}
use Rattle.link.proofs.RunLaws.{same_on}
use Rattle.link.proofs.converter.Converter.quote.Goals as goal

pub returns-clause-run : goal.returns-clause-run
returns-clause-run g c = λ table.
    let s = c.args.self.now in
    same_on (g.S.Stage.meaning s.stage) (g.S.Stage.lawful s.stage) quote s.state table None refl refl refl
