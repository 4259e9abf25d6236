use Rattle.std.proofs.Common.{◌≡◌, map, take}
use Rattle.link.specs.Rows.{row_pixel}
use Rattle.link.proofs.rows.convert.Given as goal

abbrev pub invariant-loop-i : goal.invariant-loop-i
invariant-loop-i g l = take l.i l.leaving ≡ map (row_pixel (g.S.Stage.meaning l.stage) g.P.Pixel.kind g.Q.Pixel.kind) (take l.i l.entering)
