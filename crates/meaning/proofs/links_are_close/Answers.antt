use Rattle.meaning.proofs.LinkLaws.{links_are_close}
use Rattle.meaning.proofs.links_are_close.Goals as goal

pub returns : goal.returns
returns c = links_are_close
