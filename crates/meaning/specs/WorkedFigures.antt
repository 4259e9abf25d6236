-- Worked figures, stated of the same meanings that the contracts use.
use Rattle.std.specs.Prelude.{◌≡◌, ℕ, List, [], ◌∷◌, ◌++◌, replicate, pos, negsuc}
use Rattle.meaning.specs.declared.Channels.TheVariants.{One, Three, Four}
use Rattle.meaning.specs.Colours.{full_range, at}
use Rattle.meaning.specs.Stages.{Meaning, joined}
use Rattle.meaning.specs.Curves.{curves}
use Rattle.meaning.specs.Lattices.{lattice}
use Rattle.meaning.specs.Matrices.{matrix}
use Rattle.meaning.specs.Links.{error_of_link, link}

-- a gray curve of three entries: 0, 1,000 and 65,535
abbrev pub bent_curve : Meaning
bent_curve = curves One 3 (0 ∷ 1000 ∷ 65535 ∷ [])

-- a matrix whose first row is 1/2, −1, 0
abbrev pub half_less_one : Meaning
half_less_one = matrix (pos 32768 ∷ negsuc 65535 ∷ pos 0 ∷ pos 0 ∷ pos 0 ∷ pos 0 ∷ pos 0 ∷ pos 0 ∷ pos 0 ∷ [])

-- a matrix whose first row is −1, 0, 0
abbrev pub negated : Meaning
negated = matrix (negsuc 65535 ∷ pos 0 ∷ pos 0 ∷ pos 0 ∷ pos 0 ∷ pos 0 ∷ pos 0 ∷ pos 0 ∷ pos 0 ∷ [])

-- eight nodes of one output: two grid points in each of three channels
abbrev pub eight_nodes : List ℕ
eight_nodes = 0 ∷ 1000 ∷ 2000 ∷ 3000 ∷ 4000 ∷ 5000 ∷ 6000 ∷ 60000 ∷ []

abbrev pub cube : Meaning
cube = lattice Three One 2 eight_nodes

-- a fourth channel in front, which takes all these nodes to 0
abbrev pub sixteen_nodes : List ℕ
sixteen_nodes = eight_nodes ++ replicate 8 0

abbrev pub fading_cube : Meaning
fading_cube = lattice Four One 2 sixteen_nodes

abbrev pub colour : ℕ → ℕ → ℕ → ℕ → List ℕ
colour a b c d = a ∷ b ∷ c ∷ d ∷ []

-- all figures in one statement
pub record WorkedFigures : Type 0 where
  -- the curve at the two counts around its middle entry, and its steepness
  pub below_the_bend : bent_curve.answer (colour 32767 0 0 0) ≡ colour 1000 0 0 0
  pub above_the_bend : bent_curve.answer (colour 32768 0 0 0) ≡ colour 1001 0 0 0
  pub bend_steepness : bent_curve.steepness ≡ 129072
  -- half of 10,001 less 2,000 is 3,000.5, rounded upward; a negative sum is held to 0
  pub half_upward : half_less_one.answer (colour 10001 2000 0 0) ≡ colour 3001 0 0 0
  pub held_to_zero : negated.answer (colour 5 0 0 0) ≡ colour 0 0 0 0
  -- an error of half a count before a stage as steep and as exact as the curve
  pub carried_error : (first second : Meaning) → first.error ≡ 32768 → second.steepness ≡ 129072 → second.error ≡ 32768 → (joined first second).error ≡ 97304
  -- the lattice where the first channel is the largest, where the last one is, and where all are equal; its steepness
  pub falling_channels : cube.answer (colour 52428 39321 13107 0) ≡ colour 15200 0 0 0
  pub rising_channels : cube.answer (colour 13107 39321 52428 0) ≡ colour 13400 0 0 0
  pub equal_channels : cube.answer (colour 39321 39321 39321 0) ≡ colour 36000 0 0 0
  pub cube_steepness : cube.steepness ≡ 166003
  -- four channels: 17,999.7 and a little more, rounded upward
  pub half_faded : fading_cube.answer (colour 32768 39321 39321 39321) ≡ colour 18000 0 0 0
  -- links of a stage that errs by a count and a half and rises by a count a count, with 33 grid points and with 2
  pub fine_link : (m : Meaning) (nodes : List ℕ) → m.error ≡ 98304 → m.steepness ≡ 65536 → (link m 33 nodes).error ≡ 134379520
  pub coarse_link : (m : Meaning) (nodes : List ℕ) → m.error ≡ 98304 → m.steepness ≡ 65536 → (link m 2 nodes).error ≡ full_range

-- the figures of curves, matrices and joining as numbers, in that order; the carried error is that of the curve after itself
abbrev pub figures : List ℕ
figures =
    at (bent_curve.answer (colour 32767 0 0 0)) 0
    ∷ at (bent_curve.answer (colour 32768 0 0 0)) 0
    ∷ bent_curve.steepness
    ∷ at (half_less_one.answer (colour 10001 2000 0 0)) 0
    ∷ at (negated.answer (colour 5 0 0 0)) 0
    ∷ (joined bent_curve bent_curve).error
    ∷ []

-- those of the lattice of three channels, and of four
abbrev pub cube_figures : List ℕ
cube_figures =
    at (cube.answer (colour 52428 39321 13107 0)) 0
    ∷ at (cube.answer (colour 13107 39321 52428 0)) 0
    ∷ at (cube.answer (colour 39321 39321 39321 0)) 0
    ∷ cube.steepness
    ∷ []

abbrev pub fading_figures : List ℕ
fading_figures = at (fading_cube.answer (colour 32768 39321 39321 39321)) 0 ∷ []

-- the errors of these links, with 33 grid points and with 2
abbrev pub link_figures : List ℕ
link_figures = error_of_link 98304 65536 33 ∷ error_of_link 98304 65536 2 ∷ []
