-- The states of a converter's link, and what each event comes to in each state.
use Rattle.std.specs.Prelude.{ℕ, ◌+◌, ◌-◌, ◌^◌, ◌<◌, ◌≤◌, cond, min, Bool, true, false, Some, None, Option, Result, nat_lt}
use Rattle.meaning.specs.declared.Channels.{Channels}
use Rattle.meaning.specs.Colours.{number}
use Rattle.stage.specs.declared.lattice.Grid.{Grid}
use Rattle.stage.specs.Lattices.{points}
use Rattle.link.specs.declared.answers.Filled.{Filled}
use Rattle.link.specs.declared.refusal.Refusal.{Refusal}
use Rattle.link.specs.declared.refusal.Refusal.TheVariants.{NoLink, FullLink, FillingLink}
use Rattle.link.specs.declared.state.State.{State}
use Rattle.link.specs.declared.state.State.TheVariants.{Empty, Filling, Full}
use Rattle.link.specs.declared.state.Event.{Event}
use Rattle.link.specs.declared.state.Event.TheVariants.{Begin, Fill, Row, LinkRow, Quote, Write, Drop}
use Rattle.link.specs.declared.state.Outcome.{Outcome}
use Rattle.link.specs.declared.state.Stores.{Stores}
use Rattle.link.specs.Refusals.{answered}

-- ---- what a state says of the link

-- the grid of the link, if there is one
abbrev pub link_grid : State → Option Grid
link_grid Empty = None
link_grid (Filling g n) = Some g
link_grid (Full g) = Some g

-- its grid points, and 0 where there is none
abbrev pub grid_points : State → ℕ
grid_points Empty = 0
grid_points (Filling g n) = points g
grid_points (Full g) = points g

-- how many nodes are still missing
abbrev pub missing_nodes : Channels → State → ℕ
missing_nodes i Empty = 0
missing_nodes i (Filling g n) = points g ^ number i - n
missing_nodes i (Full g) = 0

-- ---- fill

-- how many nodes a budget lets a fill store
abbrev pub fill_count : Channels → State → ℕ → ℕ
fill_count i s budget = min budget (missing_nodes i s)

-- what a fill returns: how many nodes it stored, and how many are missing after it
abbrev pub filled : Channels → State → ℕ → Filled
filled i s budget = record {
  stored = fill_count i s budget;
  missing = missing_nodes i s - fill_count i s budget;
}

-- the state after a fill: the link is full as soon as no node is missing
abbrev pub filled_state : Channels → State → ℕ → State
filled_state i Empty b = Empty
filled_state i (Filling g n) b = cond (nat_lt (n + b) (points g ^ number i)) (Filling g (n + b)) (Full g)
filled_state i (Full g) b = Full g

-- the nodes that a fill stores: only a link that is filling has any to store
abbrev pub stores : Channels → State → ℕ → Option Stores
stores i Empty b = None
stores i (Filling g n) b = Some (record { grid = g; first = n; filled = filled i (Filling g n) b })
stores i (Full g) b = None

-- ---- every event

-- why a fill is refused, if it is: there has to be a link, and a node that is missing
abbrev pub no_fill : State → Option Refusal
no_fill Empty = Some NoLink
no_fill (Filling g n) = None
no_fill (Full g) = Some FullLink

-- why the link cannot be used, if it cannot: there has to be one, and no node may be missing
abbrev pub no_use : State → Option Refusal
no_use Empty = Some NoLink
no_use (Filling g n) = Some FillingLink
no_use (Full g) = None

-- why a state refuses an event, if it does
abbrev pub state_refusal : State → Event → Option Refusal
state_refusal s (Begin g) = None
state_refusal s (Fill b) = no_fill s
state_refusal s Row = None
state_refusal s LinkRow = no_use s
state_refusal s Quote = None
state_refusal s Write = no_use s
state_refusal s Drop = None

-- an event that uses the link
abbrev pub uses_link : Event → Bool
uses_link (Begin g) = false
uses_link (Fill b) = false
uses_link Row = false
uses_link LinkRow = true
uses_link Quote = false
uses_link Write = true
uses_link Drop = false

-- the state that follows where it does not
abbrev pub next_state : Channels → State → Event → State
next_state i s (Begin g) = Filling g 0
next_state i s (Fill b) = filled_state i s b
next_state i s Row = s
next_state i s LinkRow = s
next_state i s Quote = s
next_state i s Write = s
next_state i s Drop = Empty

-- the nodes that are stored then
abbrev pub stored_then : Channels → State → Event → Option Stores
stored_then i s (Begin g) = None
stored_then i s (Fill b) = stores i s b
stored_then i s Row = None
stored_then i s LinkRow = None
stored_then i s Quote = None
stored_then i s Write = None
stored_then i s Drop = None

-- what an event comes to in a state: why it is refused, or what follows
abbrev pub decided : Channels → State → Event → Result Outcome Refusal
decided i s e = answered (state_refusal s e) (record {
  state = next_state i s e;
  link = link_grid (next_state i s e);
  stores = stored_then i s e;
})

-- ---- what holds of every state

-- a link has 2 grid points or more, and one that is filling has a next node
abbrev pub IsSound : Channels → State → Type 0
IsSound i Empty = Unit {0}
IsSound i (Filling g n) = (2 ≤ points g) × (n < points g ^ number i)
IsSound i (Full g) = 2 ≤ points g
