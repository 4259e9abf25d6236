use Rattle.meaning.proofs.RowSums.{rows_signed}
use Rattle.meaning.proofs.rows_are_signed_sums.Goals as goal

pub returns : goal.returns
returns c = rows_signed
