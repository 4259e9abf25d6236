-- An opened element, and where in the file it and its tables lie.
use Rattle.std.specs.Prelude.{◌≡◌, ℕ, ◌+◌, ◌*◌, ◌≤◌, List, length, take, drop, Some}
use Rattle.meaning.specs.Colours.{number}
use Rattle.meaning.specs.Lattices.{entries_of_lattice}
use Rattle.profile.specs.Bytes.{word}
use Rattle.profile.specs.Directories.{FirstWith, record_at}
use Rattle.profile.specs.Kinds.{head, kind_of, width}
use Rattle.profile.specs.Layouts.{Stretch, Layout}

-- the bytes of the file b from a place on, as many as they should be, and all of them there
pub record PartOf (b : List ℕ) (size : ℕ) (s : Stretch) : Type 0 where
  pub inside : s.place + size ≤ length b
  pub bytes : s.bytes ≡ take size (drop s.place b)

-- each table is such a part, and has all its entries
pub record TablesOf (b : List ℕ) (l : Layout) : Type 0 where
  pub input : PartOf b (width l.kind * (number l.input.channels * l.input.length)) l.input.table
  pub nodes : PartOf b (width l.kind * entries_of_lattice l.nodes.ins l.nodes.outs l.nodes.grid) l.nodes.table
  pub output : PartOf b (width l.kind * (number l.output.channels * l.output.length)) l.output.table

-- the place behind a table
abbrev pub table_end : Stretch → ℕ
table_end s = s.place + length s.bytes

-- at an offset of the file lies an element of so many bytes: the first four name its type, its tables lie one behind the
-- other, the first one where tables of its type begin, and they end within it
pub record LiesAt (b : List ℕ) (offset size : ℕ) (l : Layout) : Type 0 where
  pub type : kind_of (word b offset) ≡ Some l.kind
  pub input : l.input.table.place ≡ offset + head l.kind
  pub nodes : l.nodes.table.place ≡ table_end l.input.table
  pub output : l.output.table.place ≡ table_end l.nodes.table
  pub inside : table_end l.output.table ≤ offset + size

-- the element lies where the first record that has the signature w says, in as many bytes as it says
pub record TakenFrom (b : List ℕ) (w : ℕ) (l : Layout) : Type 0 where
  pub index : ℕ
  pub first : FirstWith b w index
  pub lies : LiesAt b (word b (record_at index + 4)) (word b (record_at index + 8)) l
