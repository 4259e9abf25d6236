-- Stages that run one after the other: what they mean together, and the stages that a chain holds.
use Rattle.std.specs.Prelude.{List, [], ◌∷◌, Some, None, Option, fold}
use Rattle.meaning.specs.Stages.{Meaning, joined}
use Rattle.stage.specs.declared.chain.Chain.{Chain}

-- a chain means its first stage, with each next stage joined on; `means` is what one stage means
abbrev pub chained : {S : Type 0} → (S → Meaning) → S → List S → Meaning
chained means first rest = fold (λ before next. joined before (means next)) (means first) rest

-- the stages of a chain, in the order in which they run
abbrev pub stages_of : {S : Type 0} → Chain S → List S
stages_of chain = chain.first.now ∷ chain.rest.now

-- the stages of the chain over a list of stages: all of them, and there is no chain over none
abbrev pub chain_over : {S : Type 0} → List S → Option (List S)
chain_over [] = None
chain_over (first ∷ rest) = Some (first ∷ rest)
