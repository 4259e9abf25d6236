-- A power of the grid points is small, and not 0.
use Rattle.std.proofs.Common.{◌<◌, arith}
use Rattle.std.proofs.Math.Nat.{one-le-pow}
use Rattle.stage.proofs.GridLaws.{nodes_limit}
use Rattle.link.proofs.filling.node_point.Goals as goal

pub pow-requires : goal.pow-requires
pow-requires c = let l = nodes_limit c.args.grid.0 c.args.behind 3 (omega arith) (omega arith) in rw (c.from-points.ensures, c.points.ensures) (omega (arith, l))

pub nonzero_div-result : goal.nonzero_div-result
nonzero_div-result c =
    let pos : 0 < c.args.grid.0 = omega (arith, c.requires.some) in
    let p = one-le-pow c.args.behind c.args.grid.0 pos in
    rw (c.pow.ensures, c.from-points.ensures, c.points.ensures) (omega (arith, p))
