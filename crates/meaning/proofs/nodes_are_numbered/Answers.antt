use Rattle.meaning.proofs.Digits.{nodes_are_numbered}
use Rattle.meaning.proofs.nodes_are_numbered.Goals as goal

pub returns : goal.returns
returns c = nodes_are_numbered
