use Rattle.meaning.proofs.MatrixLaws.{matrix_lawful}
use Rattle.meaning.proofs.matrices_keep_the_laws.Goals as goal

pub returns : goal.returns
returns c = matrix_lawful
