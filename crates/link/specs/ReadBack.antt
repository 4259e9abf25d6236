-- A written link read back as an element.
use Rattle.std.specs.Prelude.{◌≡◌, ℕ, List, Option, Some, None, Result, Ok, Err}
use Rattle.meaning.specs.declared.Channels.{Channels}
use Rattle.meaning.specs.Colours.{Colour}
use Rattle.meaning.specs.Lattices.{lattice}
use Rattle.profile.specs.declared.fault.Fault.{Fault}
use Rattle.profile.specs.Elements.{element_read}
use Rattle.profile.specs.Layouts.{Layout, counts_of, element_meaning}

-- bytes that open as an element, which has the grid and the nodes of a link from i to o channels and answers each colour
-- as its lattice does
pub record ReadsBack (i o : Channels) (g : ℕ) (nodes : List ℕ) (bytes : List ℕ) : Type 0 where
  pub element : Layout
  pub opens : element_read bytes i o ≡ Ok element
  pub same_grid : element.nodes.grid ≡ g
  pub same_nodes : counts_of element.kind element.nodes.table.bytes ≡ nodes
  pub converts : (c : List ℕ) → Colour c → (element_meaning element).answer c ≡ (lattice i o g nodes).answer c

-- what an element that was read answers to a colour; nothing where bytes hold none
abbrev pub answer_read : Result Layout Fault → List ℕ → Option (List ℕ)
answer_read (Ok element) c = Some ((element_meaning element).answer c)
answer_read (Err fault) c = None
