-- A run starts here.
use Rattle.link.proofs.RunLaws.{starts}
use Rattle.link.proofs.converter.Converter.new.Goals as goal

pub returns-clause-starts : goal.returns-clause-starts
returns-clause-starts g c = rw c.over.ensures (starts (g.S.Stage.meaning c.args.stage))
