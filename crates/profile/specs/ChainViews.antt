-- A chain of the code, as lists, and what it means.
use Rattle.std.specs.Prelude.{ℕ, ◌-◌, map, Result, Ok, Err, vec_capacity, vec_len}
use Rattle.meaning.specs.Stages.{Meaning, Lawful}
use Rattle.stage.specs.declared.chain.Chain.{Chain}
use Rattle.stage.specs.Chains.{chained}
use Rattle.stage.specs.ChainLaws.{chained_lawful}
use Rattle.profile.specs.declared.chain.ChainError.{ChainError}
use Rattle.profile.specs.declared.chain.ElementChain.{ElementChain}
use Rattle.profile.specs.declared.element.Element.{Element}
use Rattle.profile.specs.Chaining.{Chained}
use Rattle.profile.specs.Layouts.{element_meaning, layout_lawful}
use Rattle.profile.specs.Views.{element_view}

abbrev pub chain_view : ElementChain → Chained
chain_view c = record { first = element_view c.first; rest = map element_view c.rest.items; gives = c.gives }

-- a chain means its first element, with each next element joined on
abbrev pub chain_meaning : Chained → Meaning
chain_meaning c = chained element_meaning c.first c.rest

pub chain_lawful : (c : Chained) → Lawful (chain_meaning c)
chain_lawful c = chained_lawful element_meaning layout_lawful (element_meaning c.first) (layout_lawful c.first) c.rest

-- what elements of the code mean as stages that run one after the other
abbrev pub means : Chain Element → Meaning
means c = chained (λ e. element_meaning (element_view e)) c.first.now c.rest.now

-- what a call answers, a value of the code shown as lists
abbrev pub chain_answer : {A B : Type 0} → (A → B) → Result A ChainError → Result B ChainError
chain_answer view (Ok a) = Ok (view a)
chain_answer view (Err e) = Err e

-- for how many further profiles a chain has room
abbrev pub room_left : ElementChain → ℕ
room_left c = vec_capacity c.rest - vec_len c.rest
