-- Whole runs of a converter: what was called and why it was refused, if it was, and what then holds of the link and of the
-- rows that come next.
use Rattle.std.specs.Prelude.{◌≡◌, ℕ, ◌+◌, ◌^◌, ◌≤◌, ◌↔◌, List, [], ◌∷◌, ◌++◌, length, map, take, Option, None}
use Rattle.std.specs.List.{All}
use Rattle.meaning.specs.declared.Channels.{Channels}
use Rattle.meaning.specs.Colours.{number}
use Rattle.meaning.specs.Links.{baked}
use Rattle.meaning.specs.Stages.{Meaning}
use Rattle.stage.specs.Lattices.{grid_with}
use Rattle.link.specs.declared.refusal.Refusal.{Refusal}
use Rattle.link.specs.declared.state.Event.{Event}
use Rattle.link.specs.declared.state.Event.TheVariants.{Begin, Fill, Row, LinkRow, Quote, Write, Drop}
use Rattle.link.specs.declared.state.State.{State}
use Rattle.link.specs.declared.state.State.TheVariants.{Empty, Full}
use Rattle.link.specs.Calls.{numbers_of, begin_refusal, fill_refusal, filled_table, link_row_refusal, link_row_answer, link_row_left, write_refusal}
use Rattle.meaning.specs.Kinds.{Kind}
use Rattle.link.specs.Refusals.{left, Accepted}
use Rattle.link.specs.Rows.{RowShape, row_refusal, row_answer, row_left, Delivers}
use Rattle.link.specs.States.{next_state}

-- ---- the calls, and a log of them

-- the seven calls, with what they are given: a grid, a budget, the shape of a row, the bytes of an output
pub data Call : Type 0 where
  begin : ℕ → Call
  fill : ℕ → Call
  row : RowShape → Call
  link_row : RowShape → Call
  quote : Call
  write : ℕ → Call
  drop_link : Call

-- the event that a call is for the state
abbrev pub event_of : Call → Event
event_of (begin g) = Begin (grid_with g)
event_of (fill b) = Fill b
event_of (row r) = Row
event_of (link_row r) = LinkRow
event_of quote = Quote
event_of (write n) = Write
event_of drop_link = Drop

-- a call in a log: it was accepted, or refused for a reason
pub record Logged : Type 0 where
  pub call : Call
  pub refused : Option Refusal

-- the calls of a run, the newest first
abbrev pub Log : Type 0
Log = List Logged

-- ---- what one call does, by the definitions of the calls

module _ (m : Meaning) where
  -- why it is refused, over a table of so many numbers
  abbrev pub call_refusal : State → ℕ → Call → Option Refusal
  call_refusal s numbers (begin g) = begin_refusal m g numbers
  call_refusal s numbers (fill b) = fill_refusal m s b numbers
  call_refusal s numbers (row r) = row_refusal m r
  call_refusal s numbers (link_row r) = link_row_refusal m s numbers r
  call_refusal s numbers quote = None
  call_refusal s numbers (write n) = write_refusal m s numbers n
  call_refusal s numbers drop_link = None

  -- the state after it, where it is accepted
  abbrev pub state_after : State → Call → State
  state_after s call = next_state m.ins s (event_of call)

  -- the table after it: only a fill writes
  abbrev pub table_after : State → List ℕ → Call → List ℕ
  table_after s t (begin g) = t
  table_after s t (fill b) = filled_table m s b t
  table_after s t (row r) = t
  table_after s t (link_row r) = t
  table_after s t quote = t
  table_after s t (write n) = t
  table_after s t drop_link = t

  -- a call was made in a state over a table, and left another state and table
  pub record Happened (logged : Logged) (s : State) (t : List ℕ) (s' : State) (t' : List ℕ) : Type 0 where
    pub refused : logged.refused ≡ call_refusal s (length t) logged.call
    pub state : s' ≡ left logged.refused s (state_after s logged.call)
    pub table : t' ≡ left logged.refused t (table_after s t logged.call)

  -- the last call of a run: what had come before it, and that it happened
  pub record Last (Before : State → List ℕ → Type 0) (logged : Logged) (s' : State) (t' : List ℕ) : Type 0 where
    pub state : State
    pub table : List ℕ
    pub before : Before state table
    pub happened : Happened logged state table s' t'

  -- a run: from an empty converter and a table t₀, with nothing else that writes to either, the calls of a log lead to a
  -- state and a table
  abbrev pub Reached : List ℕ → Log → State → List ℕ → Type 0
  Reached t₀ [] s t = (s ≡ Empty) × (t ≡ t₀)
  Reached t₀ (logged ∷ log) s t = Last (Reached t₀ log) logged s t

-- ---- what a log says of the link

-- a call was accepted
abbrev pub WasAccepted : Logged → Type 0
WasAccepted logged = logged.refused ≡ None

-- a begin, or a drop
abbrev pub Restarts : Call → Type 0
Restarts (begin g) = Unit {0}
Restarts (fill b) = ⊥
Restarts (row r) = ⊥
Restarts (link_row r) = ⊥
Restarts quote = ⊥
Restarts (write n) = ⊥
Restarts drop_link = Unit {0}

-- no begin and no drop was accepted
abbrev pub NoRestart : Log → Type 0
NoRestart = All (λ logged. WasAccepted logged → Restarts logged.call → ⊥)

-- the budget of a fill; other calls have none
abbrev pub budget_of : Call → ℕ
budget_of (begin g) = 0
budget_of (fill b) = b
budget_of (row r) = 0
budget_of (link_row r) = 0
budget_of quote = 0
budget_of (write n) = 0
budget_of drop_link = 0

-- what counts of it: nothing where the call was refused
abbrev pub accepted_budget : Logged → ℕ
accepted_budget logged = left logged.refused 0 (budget_of logged.call)

-- all of them together
abbrev pub budgets : Log → ℕ
budgets [] = 0
budgets (logged ∷ log) = accepted_budget logged + budgets log

-- some accepted begin, of g grid points, is still in force, since nothing began or dropped a link after it; and what the
-- accepted fills after it were allowed reaches the number of its nodes
pub record IsBaked (i : Channels) (log : Log) (g : ℕ) : Type 0 where
  pub since : Log
  pub earlier : Log
  pub begun : log ≡ since ++ (record { call = begin g; refused = None } ∷ earlier)
  pub goes_on : NoRestart since
  pub enough : g ^ number i ≤ budgets since

-- the link is full, with g grid points, exactly where the log says that such a link is baked; and then the table holds the
-- stage's answers at its nodes
pub record LinkAsLogged (m : Meaning) (log : Log) (s : State) (t : List ℕ) : Type 0 where
  pub full_when_baked : (g : ℕ) → (s ≡ Full (grid_with g)) ↔ IsBaked m.ins log g
  pub nodes : (g : ℕ) → s ≡ Full (grid_with g) → take (numbers_of m g) t ≡ baked m g

-- ---- the promise over whole runs

-- what a run upholds for pixels of two kinds, where it has led to a state and a table. What a row and a link row answer and
-- leave is defined in Rows and Calls: `row_left` and `link_row_left` are the row as it stood where the call is refused, and
-- else the pixels, as the calls' clauses `leaving` have it
pub record Upheld {P Q : Type 0} (m : Meaning) (kp : Kind P) (kq : Kind Q) (log : Log) (s : State) (t : List ℕ) : Type 0 where
  -- the link is full exactly where the log says so, and then holds the stage's answers
  pub link : LinkAsLogged m log s t
  -- whatever row comes next: if it is accepted, what it leaves delivers every channel within the bound that it answers
  pub rows : (entering : List P) (leaving : List Q) →
      Accepted (row_answer m kp kq entering leaving)
      (λ bound. Delivers m kp kq entering (row_left m kp kq entering leaving) bound)
  -- and so does a link row, also beside the exact values of the stage itself
  pub link_rows : (entering : List P) (leaving : List Q) →
      Accepted (link_row_answer m s t kp kq entering leaving)
      (λ bound. Delivers m kp kq entering (link_row_left m s t kp kq entering leaving) bound)

-- the whole promise: every run, over every table, upholds it
unfoldable pub EveryRunUpholds : {P Q : Type 0} → Meaning → Kind P → Kind Q → Type 0
EveryRunUpholds m kp kq =
    (t₀ : List ℕ) (log : Log) (s : State) (t : List ℕ) → Reached m t₀ log s t → Upheld m kp kq log s t

-- ---- what each call adds to it

-- after any run that led to s and t, the link is full exactly where the log says so; and Next holds
unfoldable pub AfterRuns : Meaning → State → List ℕ → Type 0 → Type 0
AfterRuns m s t Next = (t₀ : List ℕ) (log : Log) → Reached m t₀ log s t → LinkAsLogged m log s t × Next

-- a run of some calls, the newest first
pub record Run (m : Meaning) (t₀ : List ℕ) (calls : List Call) : Type 0 where
  pub log : Log
  pub state : State
  pub table : List ℕ
  pub of_calls : map (λ logged. logged.call) log ≡ calls
  pub reached : Reached m t₀ log state table

-- what making a converter starts: over any table it is a run of no calls, whose link is as its log says, and any calls can
-- follow
unfoldable pub Starts : Meaning → State → Type 0
Starts m s =
    (t₀ : List ℕ) → Reached m t₀ [] s t₀ × LinkAsLogged m [] s t₀ × ((calls : List Call) → Run m t₀ calls)

-- how a call goes on with a run: any run that led to s and t leads on, by this call, to s' and t', with the link as the
-- longer log says
unfoldable pub Continues : Meaning → Call → Option Refusal → State → List ℕ → State → List ℕ → Type 0
Continues m call refused s t s' t' =
    let logged : Logged = record { call = call; refused = refused } in
    (t₀ : List ℕ) (log : Log) → Reached m t₀ log s t →
    Reached m t₀ (logged ∷ log) s' t' × LinkAsLogged m (logged ∷ log) s' t'
