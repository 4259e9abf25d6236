-- What an opened element holds, and the stage that it means.
use Rattle.std.specs.Prelude.{ℕ, List, map, Option, Some, None}
use Rattle.meaning.specs.declared.Channels.{Channels}
use Rattle.meaning.specs.Curves.{curves}
use Rattle.meaning.specs.Lattices.{lattice}
use Rattle.meaning.specs.Matrices.{matrix}
use Rattle.meaning.specs.Stages.{Meaning, Lawful, joined}
use Rattle.meaning.proofs.CurveLaws.{curves_lawful}
use Rattle.meaning.proofs.JoinLaws.{joining_lawful}
use Rattle.meaning.proofs.LatticeLaws.{lattices_lawful}
use Rattle.meaning.proofs.MatrixLaws.{matrix_lawful}
use Rattle.stage.specs.declared.matrix.Matrix.{Matrix}
use Rattle.stage.specs.Entries.{wide}
use Rattle.meaning.specs.Samples.{eight_bits}
use Rattle.profile.specs.declared.element.Kind.{Kind}
use Rattle.profile.specs.declared.element.Kind.TheVariants.{Lut8, Lut16}

-- a part of a profile's bytes, and its place in the file
pub record Stretch : Type 0 where
  pub place : ℕ
  pub bytes : List ℕ

-- tables of `length` entries for each channel, one after the other
pub record CurveTables : Type 0 where
  pub channels : Channels
  pub length : ℕ
  pub table : Stretch

-- the nodes of a lattice
pub record NodeTable : Type 0 where
  pub ins : Channels
  pub outs : Channels
  pub grid : ℕ
  pub table : Stretch

-- an element: its type, its matrix if it has one that counts, and its tables
pub record Layout : Type 0 where
  pub kind : Kind
  pub matrix : Option Matrix
  pub input : CurveTables
  pub nodes : NodeTable
  pub output : CurveTables

-- the counts that a table's bytes stand for: a byte v means 257 v, two bytes mean their number
abbrev pub counts_of : Kind → List ℕ → List ℕ
counts_of Lut8 b = map eight_bits.count b
counts_of Lut16 b = wide b

abbrev pub curves_over : Kind → CurveTables → Meaning
curves_over k t = curves t.channels t.length (counts_of k t.table.bytes)

abbrev pub lattice_over : Kind → NodeTable → Meaning
lattice_over k t = lattice t.ins t.outs t.grid (counts_of k t.table.bytes)

-- the input curves, after the matrix where there is one
abbrev pub input_meaning : Option Matrix → Meaning → Meaning
input_meaning (Some m) c = joined (matrix m.coefficients) c
input_meaning None c = c

-- an element: the matrix, and joined on to it the input curves, then the lattice, then the output curves
abbrev pub element_meaning : Layout → Meaning
element_meaning l = joined (joined (input_meaning l.matrix (curves_over l.kind l.input)) (lattice_over l.kind l.nodes)) (curves_over l.kind l.output)

pub input_lawful : (m : Option Matrix) (c : Meaning) → Lawful c → Lawful (input_meaning m c)
input_lawful (Some m) c l = joining_lawful (matrix m.coefficients) c (matrix_lawful m.coefficients) l
input_lawful None c l = l

pub layout_lawful : (l : Layout) → Lawful (element_meaning l)
layout_lawful l =
    let curves : (t : CurveTables) → Lawful (curves_over l.kind t) = λ t. curves_lawful t.channels t.length (counts_of l.kind t.table.bytes) in
    let nodes : Lawful (lattice_over l.kind l.nodes) = lattices_lawful l.nodes.ins l.nodes.outs l.nodes.grid (counts_of l.kind l.nodes.table.bytes) in
    joining_lawful _ _ (joining_lawful _ _ (input_lawful l.matrix _ (curves l.input)) nodes) (curves l.output)
