use Rattle.meaning.proofs.LimitLaws.{limits_never_act}
use Rattle.meaning.proofs.limits_never_act.Goals as goal

pub returns : goal.returns
returns c = limits_never_act
