use Rattle.meaning.proofs.MatrixLaws.{matrix_answer}
use Rattle.stage.proofs.matrix.MatrixStage.answer.Goals as goal

pub returns : goal.returns
returns c = cc (matrix_answer c.args.self.now.coefficients c.args.colour.now)
