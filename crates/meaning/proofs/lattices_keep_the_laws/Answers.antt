use Rattle.meaning.proofs.LatticeLaws.{lattices_lawful}
use Rattle.meaning.proofs.lattices_keep_the_laws.Goals as goal

pub returns : goal.returns
returns c = lattices_lawful
