use Rattle.meaning.proofs.JoinLaws.{joining_lawful}
use Rattle.meaning.proofs.joining_keeps_the_laws.Goals as goal

pub returns : goal.returns
returns c = joining_lawful
