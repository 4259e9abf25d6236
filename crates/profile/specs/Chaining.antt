-- Chains of opened profiles: each takes the space that the one before it gives.
use Rattle.std.specs.Prelude.{ℕ, ◌+◌, List, [], ◌∷◌, ◌++◌, length, ◌==◌, cond, nat_lt, Option, Some, None, Result, Ok, Err}
use Rattle.std.specs.List.{fold}
use Rattle.profile.specs.declared.chain.ChainError.{ChainError}
use Rattle.profile.specs.declared.chain.ChainError.TheVariants.{Profile, Spaces, Room}
use Rattle.profile.specs.declared.chain.Report.{Report}
use Rattle.profile.specs.declared.chain.Source.{Source}
use Rattle.profile.specs.declared.fault.Fault.{Fault}
use Rattle.profile.specs.declared.space.Space.{Space}
use Rattle.profile.specs.Checks.{ruled}
use Rattle.profile.specs.Faults.{told}
use Rattle.profile.specs.Layouts.{Layout}
use Rattle.profile.specs.Opening.{Opening, opened}
use Rattle.profile.specs.Spaces.{letters}

-- the elements of a chain, and the space that the last one gives
pub record Chained : Type 0 where
  pub first : Layout
  pub rest : List Layout
  pub gives : Space

-- what opening a profile answers
abbrev pub offered : Source → Result Opening Fault
offered s = opened s.bytes.now s.tag

-- the position of the profile that comes next, counted from 0
abbrev pub next_position : Chained → ℕ
next_position c = 1 + length c.rest

-- the first profile
abbrev pub begun : Result Opening Fault → Result Chained ChainError
begun (Ok o) = Ok (record { first = o.element; rest = []; gives = o.gives })
begun (Err f) = Err (Profile 0 f)

-- one profile more; the last of its checks is that it takes the space that the one before it gives
abbrev pub lengthened : Chained → Result Opening Fault → Result Chained ChainError
lengthened c (Ok o) =
    ruled
    ((letters o.takes == letters c.gives, Spaces (next_position c)) ∷ [])
    (record { first = c.first; rest = c.rest ++ (o.element ∷ []); gives = o.gives })
lengthened c (Err f) = Err (Profile (next_position c) f)

-- one profile more, where none has failed yet
abbrev pub joined_on : Result Chained ChainError → Source → Result Chained ChainError
joined_on (Ok c) s = lengthened c (offered s)
joined_on (Err e) s = Err e

-- the profiles opened in turn
abbrev pub opened_chain : Source → List Source → Result Chained ChainError
opened_chain first rest = fold joined_on (begun (offered first)) rest

-- what is answered where there is room for so many profiles: that they are opened, or that the room is too small
abbrev pub opened_within : ℕ → Source → List Source → Result Chained ChainError
opened_within room first rest = cond (nat_lt (length rest) room) (opened_chain first rest) (Err Room)

-- what is reported of an error: the number and the profile's position; nothing where the room is too small
abbrev pub reported : ChainError → Option Report
reported (Profile k f) = Some (record { number = (told f).number; position = k })
reported (Spaces k) = Some (record { number = 13; position = k })
reported Room = None
