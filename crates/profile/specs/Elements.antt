-- The tables of an element behind its first bytes: their sizes, the check that they fit, and where they lie.
use Rattle.std.specs.Prelude.{ℕ, ◌+◌, ◌*◌, List, [], ◌∷◌, ◌++◌, length, take, drop, nat_le, Option, Some, None, Result}
use Rattle.meaning.specs.declared.Channels.{Channels}
use Rattle.meaning.specs.declared.Channels.TheVariants.{One, Three, Four}
use Rattle.meaning.specs.Colours.{number}
use Rattle.meaning.specs.Lattices.{entries_of_lattice}
use Rattle.stage.specs.declared.matrix.Matrix.{Matrix}
use Rattle.stage.specs.Curves.{entries}
use Rattle.stage.specs.Lattices.{points}
use Rattle.profile.specs.declared.fault.Fault.{Fault}
use Rattle.profile.specs.declared.fault.Fault.TheVariants.{Tables}
use Rattle.profile.specs.declared.reading.Shape.{Shape}
use Rattle.profile.specs.Checks.{Check, ruled}
use Rattle.profile.specs.Kinds.{head, width}
use Rattle.profile.specs.Layouts.{Stretch, Layout}
use Rattle.profile.specs.Shapes.{shape_checks, shape, coefficients}

-- the bytes of the input tables, of the nodes and of the output tables, which lie one behind the other
abbrev pub input_size : Shape → ℕ
input_size s = width s.kind * (number s.ins * entries s.input)

abbrev pub nodes_size : Shape → ℕ
nodes_size s = width s.kind * entries_of_lattice s.ins s.outs (points s.grid)

abbrev pub output_size : Shape → ℕ
output_size s = width s.kind * (number s.outs * entries s.output)

-- where the nodes and the output tables begin, and where these end
abbrev pub nodes_start : Shape → ℕ
nodes_start s = head s.kind + input_size s

abbrev pub output_start : Shape → ℕ
output_start s = nodes_start s + nodes_size s

abbrev pub tables_end : Shape → ℕ
tables_end s = output_start s + output_size s

-- the tables end within the element
abbrev pub table_checks : List ℕ → ℕ → Shape → List (Check Fault)
table_checks e at s = (nat_le (tables_end s) (length e), Tables at) ∷ []

-- the checks of the first bytes, and then that of the tables
abbrev pub element_checks : List ℕ → ℕ → Channels → Channels → List (Check Fault)
element_checks e at i o = shape_checks e at i o ++ table_checks e at (shape e i o)

-- some bytes of an element that lies at a place of the file
abbrev pub stretch : List ℕ → ℕ → ℕ → ℕ → Stretch
stretch e at from size = record { place = at + from; bytes = take size (drop from e) }

-- the three tables of an element of that shape
abbrev pub input_table : List ℕ → ℕ → Shape → Stretch
input_table e at s = stretch e at (head s.kind) (input_size s)

abbrev pub nodes_table : List ℕ → ℕ → Shape → Stretch
nodes_table e at s = stretch e at (nodes_start s) (nodes_size s)

abbrev pub output_table : List ℕ → ℕ → Shape → Stretch
output_table e at s = stretch e at (output_start s) (output_size s)

-- the matrix counts where there are three in-channels
abbrev pub matrix_of : List ℕ → Channels → Option Matrix
matrix_of e One = None
matrix_of e Three = Some (record { coefficients = coefficients e })
matrix_of e Four = None

-- what an element of that shape holds
abbrev pub laid_out : List ℕ → ℕ → Shape → Layout
laid_out e at s = record {
  kind = s.kind;
  matrix = matrix_of e s.ins;
  input = record { channels = s.ins; length = entries s.input; table = input_table e at s };
  nodes = record { ins = s.ins; outs = s.outs; grid = points s.grid; table = nodes_table e at s };
  output = record { channels = s.outs; length = entries s.output; table = output_table e at s };
}

-- what an element holds
abbrev pub layout : List ℕ → ℕ → Channels → Channels → Layout
layout e at i o = laid_out e at (shape e i o)

-- what reading an element's bytes at a place answers: what they hold, or the fault of the first check that fails
abbrev pub element_at : List ℕ → ℕ → Channels → Channels → Result Layout Fault
element_at e at i o = ruled (element_checks e at i o) (layout e at i o)

-- and so for an element alone, where places count from its first byte
abbrev pub element_read : List ℕ → Channels → Channels → Result Layout Fault
element_read e i o = element_at e 0 i o
