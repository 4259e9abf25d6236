-- The run goes on.
use Rattle.std.proofs.Common.{None, refl}
use Rattle.link.specs.Runs.{drop_link}
use Rattle.link.proofs.RunLaws.{accepted_on}
use Rattle.link.proofs.converter.Converter.drop_link.Goals as goal

pub returns-clause-run : goal.returns-clause-run
returns-clause-run g c = λ table.
    let s = c.args.self.now in
    accepted_on (g.S.Stage.meaning s.stage) (g.S.Stage.lawful s.stage) drop_link s.state table None c.dropped-self-inside.result table
    refl refl c.dropped-self-inside.ensures refl
