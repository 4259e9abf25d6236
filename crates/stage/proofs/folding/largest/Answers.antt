use Rattle.std.proofs.Common.{refl}
use Rattle.std.proofs.iter.Serving.{serving}
use Rattle.meaning.proofs.Listed.{largest_of_range}
use Rattle.stage.proofs.folding.largest.Goals as goal

pub max-requires-clause-can : goal.max-requires-clause-can
max-requires-clause-can g c = grind (serving, c.requires)

pub returns : goal.returns
returns g c f h = largest_of_range c.args.n f _ _ c.map.ensures.source refl c.map.ensures.closure (λ x r q k. (g.met.F.Fn.1.step_stays c.args.value (x, tt) r q k, h x r ((g.met.F.FnMut.1.post_iff c.args.value (x, tt) r).1 (q, k)))) _ _ c.max.ensures.ran c.unwrap_or.ensures
