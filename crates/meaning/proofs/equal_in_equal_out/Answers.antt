use Rattle.meaning.proofs.JoinLaws.{equal_out}
use Rattle.meaning.proofs.equal_in_equal_out.Goals as goal

pub returns : goal.returns
returns c = equal_out
