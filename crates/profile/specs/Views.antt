-- What an opened element of the code holds, as lists of bytes and their places.
use Rattle.std.specs.Prelude.{ℕ, List, Option, Result, Ok, Err}
use Rattle.meaning.specs.Stages.{Lawful}
use Rattle.stage.specs.declared.curves.Curves.{Curves}
use Rattle.stage.specs.declared.entries.Table.{Table}
use Rattle.stage.specs.declared.entries.WideBytes.{WideBytes}
use Rattle.stage.specs.declared.joined.Joined.{Joined}
use Rattle.stage.specs.declared.lattice.Lattice.{Lattice}
use Rattle.stage.specs.declared.matrix.Matrix.{Matrix}
use Rattle.stage.specs.Curves.{curves_with, entries}
use Rattle.stage.specs.Lattices.{lattice_with, points}
use Rattle.profile.specs.declared.element.Element.{Element}
use Rattle.profile.specs.declared.element.Element.TheVariants as element
use Rattle.profile.specs.declared.element.Kind.{Kind}
use Rattle.profile.specs.declared.element.Kind.TheVariants as kind
use Rattle.profile.specs.declared.element.Input.{Input}
use Rattle.profile.specs.declared.element.Part.{Part}
use Rattle.profile.specs.declared.element.Placed.{Placed}
use Rattle.profile.specs.declared.fault.Fault.{Fault}
use Rattle.profile.specs.declared.reading.Shape.{Shape}
use Rattle.profile.specs.Layouts.{Stretch, CurveTables, NodeTable, Layout, element_meaning, layout_lawful}

-- the bytes of a part and its place
abbrev pub part_view : Part → Stretch
part_view p = record { place = p.place; bytes = p.bytes.now }

-- the bytes under entries of one byte each, and under entries of two
abbrev pub narrow_bytes : Table ℕ → List ℕ
narrow_bytes e = e.0.now

abbrev pub wide_bytes : WideBytes → List ℕ
wide_bytes e = e.0.now

-- over entries that stand for these bytes
module _ {E : Type 0} (bytes : E → List ℕ) where
  abbrev pub placed_view : Placed E → Stretch
  placed_view t = record { place = t.place; bytes = bytes t.entries }

  abbrev pub curve_tables : Curves (Placed E) → CurveTables
  curve_tables c = record { channels = c.channels; length = c.length; table = placed_view c.table }

  abbrev pub node_table : Lattice (Placed E) → NodeTable
  node_table l = record { ins = l.ins; outs = l.outs; grid = l.grid; table = placed_view l.table }

  abbrev pub lut_view : Kind → Joined (Joined (Input (Placed E)) (Lattice (Placed E))) (Curves (Placed E)) → Layout
  lut_view k l = record {
    kind = k;
    matrix = l.first.first.matrix;
    input = curve_tables l.first.first.curves;
    nodes = node_table l.first.second;
    output = curve_tables l.second;
  }

-- the stages of an element of that shape over these entries
abbrev pub stages_over : {E : Type 0} → Shape → Option Matrix → E → E → E → Joined (Joined (Input E) (Lattice E)) (Curves E)
stages_over s m input nodes output = record {
  first = record {
    first = record { matrix = m; curves = curves_with s.ins (entries s.input) input };
    second = lattice_with s.ins s.outs (points s.grid) nodes;
  };
  second = curves_with s.outs (entries s.output) output;
}

abbrev pub element_view : Element → Layout
element_view (element.Lut8 l) = lut_view narrow_bytes kind.Lut8 l
element_view (element.Lut16 l) = lut_view wide_bytes kind.Lut16 l

pub element_lawful : (e : Element) → Lawful (element_meaning (element_view e))
element_lawful e = layout_lawful (element_view e)

-- what reading an element answers, as lists
abbrev pub element_viewed : Result Element Fault → Result Layout Fault
element_viewed (Ok e) = Ok (element_view e)
element_viewed (Err f) = Err f
