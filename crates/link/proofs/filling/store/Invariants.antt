-- What is stored so far, and where the walk stands.
use Rattle.std.proofs.Common.{◌+◌}
use Rattle.link.specs.Walks.{StandsAt}
use Rattle.link.proofs.FillLaws.{Stored}
use Rattle.link.proofs.filling.store.Given as goal

abbrev pub invariant-loop-k : goal.invariant-loop-k
invariant-loop-k g l =
    let m = g.S.Stage.meaning l.stage in
    record {
      stored : Stored m l.fn.grid.0 l.first l.count l.outs l.k l.part;
      walk : StandsAt m.ins l.fn.grid.0 (l.first + l.k) l.walk;
    }
