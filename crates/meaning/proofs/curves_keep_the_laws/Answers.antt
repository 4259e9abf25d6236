use Rattle.meaning.proofs.CurveLaws.{curves_lawful}
use Rattle.meaning.proofs.curves_keep_the_laws.Goals as goal

pub returns : goal.returns
returns c = curves_lawful
