use Rattle.std.proofs.Common.{◌≡◌, take}
use Rattle.stage.specs.Chains.{chained}
use Rattle.stage.proofs.chain.ChainStage.steepness.Given as goal

-- the steepness of the stages so far
abbrev pub invariant-loop-next : goal.invariant-loop-next
invariant-loop-next g l = l.steepness ≡ (chained g.S.Stage.meaning l.self.first.now (take l.next-index l.self.rest.now)).steepness
