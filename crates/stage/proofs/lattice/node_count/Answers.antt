use Rattle.std.proofs.Common.{arith}
use Rattle.stage.proofs.GridLaws.{nodes_limit}
use Rattle.stage.proofs.lattice.node_count.Goals as goal

pub pow-requires : goal.pow-requires
pow-requires g = rw g.from.ensures (omega (arith, nodes_limit g.args.grid g.args.channels 4 (omega arith) (omega arith)))

pub returns-clause-few : goal.returns-clause-few
returns-clause-few g = λ h. let is = rw g.from.ensures at g.pow.ensures in omega (arith, is, nodes_limit g.args.grid g.args.channels 3 (omega arith) (omega arith))

pub returns-clause-limit : goal.returns-clause-limit
returns-clause-limit g = let is = rw g.from.ensures at g.pow.ensures in omega (arith, is, nodes_limit g.args.grid g.args.channels 4 (omega arith) (omega arith))
