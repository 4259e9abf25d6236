use Rattle.std.proofs.Common.{mul-le-mul_left, arith}
use Rattle.stage.proofs.legs.read_by.Goals as goal

pub returns-clause-limit : goal.returns-clause-limit
returns-clause-limit c = rw c.from.ensures (mul-le-mul_left c.args.samples (omega arith))
