-- A written link reads back. Assumes nothing.
use Rattle.std.proofs.Common.{◌≡◌, ℕ, ◌+◌, ◌*◌, ◌≤◌, true, leb, eqb, Some, None, Option, List, [], ◌∷◌, ◌++◌, length, take, drop, Ok, refl, ap, ◌∙◌, arith}
use Rattle.std.proofs.lemmas.Bool.{le-leb, eq-eqb}
use Rattle.std.proofs.lemmas.List.{append_assoc, length-append, take_at, drop_at, take_all}
use Rattle.meaning.specs.declared.Channels.{Channels}
use Rattle.meaning.specs.declared.Channels.TheVariants.{One, Three, Four}
use Rattle.meaning.specs.Colours.{number, Colour}
use Rattle.meaning.specs.Curves.{curves}
use Rattle.meaning.specs.Lattices.{entries_of_lattice, lattice}
use Rattle.meaning.proofs.LatticeLaws.{lattices_lawful}
use Rattle.stage.specs.Entries.{wide}
use Rattle.stage.specs.declared.matrix.Matrix.{Matrix}
use Rattle.profile.specs.declared.element.Kind.TheVariants.{Lut16}
use Rattle.profile.specs.Elements.{tables_end, matrix_of, layout, element_read}
use Rattle.profile.specs.Layouts.{Layout, input_meaning, element_meaning}
use Rattle.profile.specs.Shapes.{shape}
use Rattle.link.specs.ReadBack.{ReadsBack, answer_read}
use Rattle.link.specs.Written.{head_bytes, straight_tables, two_bytes_each, written, written_length}
use Rattle.link.proofs.StraightLaws.{first, identity, straight_curves, first_colour, first_whole, first_again, identity_matrix, lattice_reads}
use Rattle.link.proofs.WritingLaws.{length_head, length_straight, length_pairs}

-- the numbers that two bytes each stand for
pub wide_pairs : (nodes : List ℕ) → wide (two_bytes_each nodes) ≡ nodes
unfolding two_bytes_each
wide_pairs [] = refl
wide_pairs (v ∷ vs) = rw (wide_pairs vs) (ap (λ n. n ∷ vs) (omega arith))

pub length_written : (i o : Channels) (g : ℕ) (nodes : List ℕ) → length (written i o g nodes) ≡ written_length i o (length nodes)
length_written i o g nodes = simp (length-append, length_head, length_straight, length_pairs) (omega arith)

-- the element is what stands in front of the bytes that stayed
pub written_in_front : (i o : Channels) (g : ℕ) (nodes rest : List ℕ) → take (written_length i o (length nodes)) (written i o g nodes ++ rest) ≡ written i o g nodes
written_in_front i o g nodes rest = take_at (written i o g nodes) rest (written_length i o (length nodes)) (length_written i o g nodes)

-- ---- the tables

-- what stands between two parts, and what stands last
between : (a b c : List ℕ) (m n : ℕ) → length a ≡ m → length b ≡ n → take n (drop m (a ++ b ++ c)) ≡ b
between a b c m n ha hb = ap (λ l. take n (drop m l)) (append_assoc a b c) ∙ ap (take n) (drop_at a (b ++ c) m ha) ∙ take_at b c n hb

last : (a b : List ℕ) (m n : ℕ) → length a ≡ m → length b ≡ n → take n (drop m (a ++ b)) ≡ b
last a b m n ha hb = ap (take n) (drop_at a b m ha) ∙ take_all n b (omega arith)

module _ (i o : Channels) (g : ℕ) (nodes : List ℕ) where
  abbrev bytes : List ℕ
  bytes = written i o g nodes

  abbrev entries : ℕ
  entries = entries_of_lattice i o g

  abbrev nodes_at : ℕ
  nodes_at = 52 + 2 * (number i * 2)

  input_bytes : take (2 * (number i * 2)) (drop 52 bytes) ≡ straight_tables (number i)
  input_bytes =
      let h = head_bytes i o g in
      let s = straight_tables (number i) in
      let n = two_bytes_each nodes in
      let t = straight_tables (number o) in
      ap (λ l. take (2 * (number i * 2)) (drop 52 l)) (append_assoc (h ++ s) n t)
      ∙ between h s (n ++ t) 52 (2 * (number i * 2)) (length_head i o g) (let e = length_straight (number i) in omega arith)

  node_bytes : length nodes ≡ entries → take (2 * entries) (drop nodes_at bytes) ≡ two_bytes_each nodes
  node_bytes many =
      let front : length (head_bytes i o g ++ straight_tables (number i)) ≡ nodes_at = simp (length-append, length_head, length_straight) (omega arith) in
      between (head_bytes i o g ++ straight_tables (number i)) (two_bytes_each nodes) (straight_tables (number o)) nodes_at (2 * entries)
      front (let e = length_pairs nodes in omega arith)

  output_bytes : length nodes ≡ entries → take (2 * (number o * 2)) (drop (nodes_at + 2 * entries) bytes) ≡ straight_tables (number o)
  output_bytes many =
      last (head_bytes i o g ++ straight_tables (number i) ++ two_bytes_each nodes) (straight_tables (number o)) (nodes_at + 2 * entries) (2 * (number o * 2))
      (simp (length-append, length_head, length_straight, length_pairs) (omega arith)) (let e = length_straight (number o) in omega arith)

-- ---- what the element holds

-- the matrix that is read where there is one
read_matrix : Channels → Option Matrix
read_matrix One = None
read_matrix Three = Some (record { coefficients = identity })
read_matrix Four = None

-- an element with these tables
abbrev element_of : Channels → Channels → ℕ → Option Matrix → List ℕ → List ℕ → List ℕ → Layout
element_of i o g m input nodes output = record {
  kind = Lut16;
  matrix = m;
  input = record { channels = i; length = 2; table = record { place = 0 + 52; bytes = input } };
  nodes = record { ins = i; outs = o; grid = g; table = record { place = 0 + nodes_at i o g nodes; bytes = nodes } };
  output = record { channels = o; length = 2; table = record { place = 0 + (nodes_at i o g nodes + 2 * entries i o g nodes); bytes = output } };
}

-- what the written element holds
abbrev held : Channels → Channels → ℕ → List ℕ → Layout
held i o g nodes = element_of i o g (read_matrix i) (straight_tables (number i)) (two_bytes_each nodes) (straight_tables (number o))

matrix_held : (i o : Channels) (g : ℕ) (nodes : List ℕ) → matrix_of (written i o g nodes) i ≡ read_matrix i
unfolding head_bytes read_matrix
matrix_held One o g nodes = refl
matrix_held Three o g nodes = refl
matrix_held Four o g nodes = refl

layout_held : (i o : Channels) (g : ℕ) (nodes : List ℕ) → length nodes ≡ entries_of_lattice i o g → layout (written i o g nodes) 0 i o ≡ held i o g nodes
unfolding head_bytes
layout_held i o g nodes many =
    let input = take (2 * (number i * 2)) (drop 52 (written i o g nodes)) in
    let inner = take (2 * entries_of_lattice i o g) (drop (nodes_at i o g nodes) (written i o g nodes)) in
    let output = take (2 * (number o * 2)) (drop (nodes_at i o g nodes + 2 * entries_of_lattice i o g) (written i o g nodes)) in
    ap (λ m. element_of i o g m input inner output) (matrix_held i o g nodes)
    ∙ ap (λ b. element_of i o g (read_matrix i) b inner output) (input_bytes i o g nodes)
    ∙ ap (λ b. element_of i o g (read_matrix i) (straight_tables (number i)) b output) (node_bytes i o g nodes many)
    ∙ ap (λ b. element_of i o g (read_matrix i) (straight_tables (number i)) (two_bytes_each nodes) b) (output_bytes i o g nodes many)

-- ---- all checks pass

opened : (i o : Channels) (g : ℕ) (nodes : List ℕ) → 2 ≤ g → length nodes ≡ entries_of_lattice i o g → element_read (written i o g nodes) i o ≡ Ok (layout (written i o g nodes) 0 i o)
unfolding head_bytes
opened i o g nodes hg h =
    let e = written i o g nodes in
    let long = length_written i o g nodes in
    let enough : leb 52 (length e) ≡ true = le-leb 52 (length e) (omega arith) in
    let ins : eqb (number i) (number i) ≡ true = eq-eqb (number i) (number i) refl in
    let outs : eqb (number o) (number o) ≡ true = eq-eqb (number o) (number o) refl in
    let grid : leb 2 g ≡ true = le-leb 2 g hg in
    let tables : leb (tables_end (shape e i o)) (length e) ≡ true = le-leb (tables_end (shape e i o)) (length e) (omega arith) in
    rw (enough, ins, outs, grid, tables) refl

-- ---- what it means

input_answer : (i : Channels) (c : List ℕ) → Colour c → (input_meaning (read_matrix i) (curves i 2 (wide (straight_tables (number i))))).answer c ≡ first i c
unfolding read_matrix
input_answer One c h = straight_curves One c h
input_answer Three c h =
    ap (curves Three 2 (wide (straight_tables 3))).answer (identity_matrix c h) ∙ straight_curves Three (first Three c) (first_colour Three c h) ∙ first_again Three c h
input_answer Four c h = straight_curves Four c h

held_answer : (i o : Channels) (g : ℕ) (nodes c : List ℕ) → Colour c → (element_meaning (held i o g nodes)).answer c ≡ (lattice i o g nodes).answer c
held_answer i o g nodes c h =
    let laws = lattices_lawful i o g nodes in
    let output : List ℕ → List ℕ = (curves o 2 (wide (straight_tables (number o)))).answer in
    let answer = (lattice i o g nodes).answer c in
    ap (λ d. output ((lattice i o g (wide (two_bytes_each nodes))).answer d)) (input_answer i c h)
    ∙ ap (λ ns. output ((lattice i o g ns).answer (first i c))) (wide_pairs nodes)
    ∙ ap output (lattice_reads i o g nodes c)
    ∙ straight_curves o answer (laws.answers c h)
    ∙ first_whole o answer (laws.answers c h) (laws.answer_zero_beyond c h)

-- all together
pub reads_back : (i o : Channels) (g : ℕ) (nodes : List ℕ) → 2 ≤ g → length nodes ≡ entries_of_lattice i o g → ReadsBack i o g nodes (written i o g nodes)
reads_back i o g nodes hg many = record {
  element = held i o g nodes;
  opens = opened i o g nodes hg many ∙ ap Ok (layout_held i o g nodes many);
  same_grid = refl;
  same_nodes = wide_pairs nodes;
  converts = held_answer i o g nodes;
}

-- what is written answers each colour as the lattice
pub answers_back : (i o : Channels) (g : ℕ) (nodes : List ℕ) → 2 ≤ g → length nodes ≡ entries_of_lattice i o g → (c : List ℕ) → Colour c → answer_read (element_read (written i o g nodes) i o) c ≡ Some ((lattice i o g nodes).answer c)
answers_back i o g nodes hg many c h =
    let back = reads_back i o g nodes hg many in
    ap (λ r. answer_read r c) back.opens ∙ ap Some (back.converts c h)
