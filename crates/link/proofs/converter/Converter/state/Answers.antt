-- After every run the link is as its log says.
use Rattle.link.proofs.RunLaws.{run_logged}
use Rattle.link.proofs.converter.Converter.state.Goals as goal

pub returns-clause-law : goal.returns-clause-law
returns-clause-law g c = λ t₀ table log r.
    let s = c.args.self.now in
    run_logged (g.S.Stage.meaning s.stage) (g.S.Stage.lawful s.stage) t₀ log s.state table r
