-- The calls of a converter over a stage that means m, whose link stands in a state: when each is refused, what it answers, and
-- what it leaves. A table holds `numbers` numbers.
use Rattle.std.specs.Prelude.{ℕ, ◌+◌, ◌*◌, ◌^◌, ◌&&◌, cond, List, [], ◌∷◌, ◌++◌, length, take, drop, nat_le, Option, Some, None, Result}
use Rattle.std.specs.Option.{option_map}
use Rattle.meaning.specs.Colours.{number}
use Rattle.meaning.specs.Lattices.{entries_of_lattice}
use Rattle.meaning.specs.Links.{error_of_link, link, nodes_from}
use Rattle.meaning.specs.Stages.{Meaning}
use Rattle.stage.specs.declared.lattice.Grid.{Grid}
use Rattle.stage.specs.Lattices.{grid_with, points}
use Rattle.link.specs.declared.answers.Quote.{Quote}
use Rattle.link.specs.declared.refusal.Refusal.{Refusal}
use Rattle.link.specs.declared.refusal.Refusal.TheVariants.{GridPoints, TableLength, OutputLength}
use Rattle.link.specs.declared.state.Event.{Event}
use Rattle.link.specs.declared.state.Event.TheVariants.{Fill, LinkRow, Write}
use Rattle.link.specs.declared.state.State.{State}
use Rattle.link.specs.declared.state.State.TheVariants.{Empty, Filling, Full}
use Rattle.meaning.specs.Kinds.{Kind}
use Rattle.link.specs.Refusals.{unless, first_refusal, answered, left}
use Rattle.link.specs.Rows.{RowShape, shape_of, row_checks, row_bound, row_pixels}
use Rattle.link.specs.States.{fill_count, grid_points, link_grid, state_refusal}
use Rattle.link.specs.Written.{written, written_length}

-- the grid of a link: 2 to 33 points
abbrev pub link_grid_of : ℕ → Option Grid
link_grid_of g = cond (nat_le 2 g && nat_le g 33) (Some (grid_with g)) None

module _ (m : Meaning) where
  -- the numbers of a link with g grid points, and of the link that there is
  abbrev pub numbers_of : ℕ → ℕ
  numbers_of g = entries_of_lattice m.ins m.outs g

  abbrev pub link_numbers : State → ℕ
  link_numbers s = numbers_of (grid_points s)

  -- how many numbers a table has to have for a link of so many grid points, if there can be such a link
  abbrev pub table_length : ℕ → Option ℕ
  table_length g = option_map (λ grid. numbers_of (points grid)) (link_grid_of g)

  -- what is tested of a call that works on the link: the state takes it, and the table holds the link
  abbrev pub link_checks : State → Event → ℕ → List (Option Refusal)
  link_checks s e numbers =
      state_refusal s e ∷ unless (nat_le (link_numbers s) numbers) TableLength ∷ []

  -- ---- begin

  abbrev pub begin_refusal : ℕ → ℕ → Option Refusal
  begin_refusal g numbers =
      first_refusal (
      unless (nat_le 2 g && nat_le g 33) GridPoints
      ∷ unless (nat_le (numbers_of g) numbers) TableLength
      ∷ [])

  -- ---- fill

  abbrev pub fill_refusal : State → ℕ → ℕ → Option Refusal
  fill_refusal s budget numbers = first_refusal (link_checks s (Fill budget) numbers)

  -- the next node to store; a full link has none left after its last one
  abbrev pub next_node : State → ℕ
  next_node Empty = 0
  next_node (Filling g n) = n
  next_node (Full g) = points g ^ number m.ins

  -- a table in which the stage's answers stand at `count` nodes from `first` on; all else is as it was
  abbrev pub stored_table : ℕ → ℕ → ℕ → List ℕ → List ℕ
  stored_table g first count table =
      take (first * number m.outs) table
      ++ (nodes_from m g first count ++ drop ((first + count) * number m.outs) table)

  -- the table after a fill
  abbrev pub filled_table : State → ℕ → List ℕ → List ℕ
  filled_table s budget table =
      stored_table (grid_points s) (next_node s) (fill_count m.ins s budget) table

  -- ---- link row

  -- the link by the numbers of the table that hold its nodes
  abbrev pub table_link : State → List ℕ → Meaning
  table_link s table = link m (grid_points s) (take (link_numbers s) table)

  abbrev pub link_row_refusal : State → ℕ → RowShape → Option Refusal
  link_row_refusal s numbers r = first_refusal (row_checks m r ++ link_checks s LinkRow numbers)

  abbrev pub link_row_answer : {P Q : Type 0} → State → List ℕ → Kind P → Kind Q → List P → List Q → Result ℕ Refusal
  link_row_answer s table kp kq entering leaving =
      answered (link_row_refusal s (length table) (shape_of kp kq entering leaving)) (row_bound (table_link s table) kq.error)

  abbrev pub link_row_left : {P Q : Type 0} → State → List ℕ → Kind P → Kind Q → List P → List Q → List Q
  link_row_left s table kp kq entering leaving =
      left (link_row_refusal s (length table) (shape_of kp kq entering leaving)) leaving (row_pixels (table_link s table) kp kq entering)

  -- ---- quote

  -- the error of a link with that grid
  abbrev pub error_with : Grid → ℕ
  error_with grid = error_of_link m.error m.steepness (points grid)

  -- the error of the stage, and of the link if there is one
  abbrev pub quoted : State → Quote
  quoted s = record { stage = m.error; link = option_map error_with (link_grid s) }

  -- ---- write

  -- the bytes of the written link, and how many they are
  abbrev pub link_bytes : State → List ℕ → List ℕ
  link_bytes s table = written m.ins m.outs (grid_points s) (take (link_numbers s) table)

  abbrev pub link_length : State → ℕ
  link_length s = written_length m.ins m.outs (link_numbers s)

  -- how many bytes a link with that grid has when it is written, and the link that there is, if there is one
  abbrev pub bytes_with : Grid → ℕ
  bytes_with grid = written_length m.ins m.outs (numbers_of (points grid))

  abbrev pub element_length : State → Option ℕ
  element_length s = option_map bytes_with (link_grid s)

  abbrev pub write_refusal : State → ℕ → ℕ → Option Refusal
  write_refusal s numbers room =
      first_refusal (link_checks s Write numbers ++ (unless (nat_le (link_length s) room) OutputLength ∷ []))

  -- the output after it: the element, and the bytes that stood after its place
  abbrev pub written_output : State → List ℕ → List ℕ → List ℕ
  written_output s table output = link_bytes s table ++ drop (link_length s) output
