use Rattle.std.proofs.Common.{rules, tests}
use Rattle.std.proofs.iter.Serving.{serving}
use Rattle.meaning.specs.Colours.{rounded}
use Rattle.meaning.proofs.Filled.{spread_filled}
use Rattle.meaning.proofs.Rounding.{rounded_zero}
use Rattle.stage.proofs.folding.colour_of.Goals as goal

pub from_fn-requires : goal.from_fn-requires
from_fn-requires g c = grind (serving, c.requires)

pub returns : goal.returns
returns g c f d h = spread_filled _ _ c.from_fn.result (λ a. rounded a d) f c.args.n (rounded_zero d) (λ k r q called. search (rules, tests, h)) c.from_fn.ensures.items
