use Rattle.std.proofs.Common.{sym, ap, ◌∙◌}
use Rattle.std.proofs.lemmas.List.Folds.{fold-map}
use Rattle.meaning.specs.Stages.{joined}
use Rattle.stage.specs.Chains.{chained}
use Rattle.profile.specs.Layouts.{element_meaning}
use Rattle.profile.specs.Views.{element_view}
use Rattle.profile.proofs.chain.ElementChain.stages.Goals as goal

pub returns : goal.returns
returns c =
    let s = c.args.self.now in
    ap (λ first. chained (λ e. element_meaning (element_view e)) first c.of.result.rest.now) c.of.ensures.first
    ∙ ap (λ rest. chained (λ e. element_meaning (element_view e)) s.first rest) (c.of.ensures.rest ∙ c.as_slice.ensures.value)
    ∙ sym (fold-map (λ before l. joined before (element_meaning l)) element_view (element_meaning (element_view s.first)) s.rest.items)
