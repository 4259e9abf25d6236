use Rattle.std.proofs.Common.{◌≡◌, take}
use Rattle.stage.specs.Chains.{chained}
use Rattle.stage.proofs.chain.ChainStage.error.Given as goal

-- the error of the stages so far
abbrev pub invariant-loop-next : goal.invariant-loop-next
invariant-loop-next g l = l.error ≡ (chained g.S.Stage.meaning l.self.first.now (take l.next-index l.self.rest.now)).error
