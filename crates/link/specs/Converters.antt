-- A converter as clauses see it.
use Rattle.link.specs.declared.state.State.{State}

-- its stage, and where its link stands
pub record Seen (S : Type 0) : Type 0 where
  pub stage : S
  pub state : State
