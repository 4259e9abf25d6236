-- A 3×3 matrix: signed coefficients in 65,536ths, stored by rows.
use Rattle.std.specs.Prelude.{◌≡◌, ℕ, suc, ◌+◌, ◌-◌, ◌*◌, ◌%◌, min, Bool, cond, List, ℤ, pos, negsuc, ◌+ℤ◌, ◌*ℤ◌, ◌==◌, slice_index_or, unsigned_abs}
use Rattle.std.specs.List.{list_all}
use Rattle.meaning.specs.declared.Channels.TheVariants.{Three}
use Rattle.meaning.specs.Colours.{max_count, grains, half_count, at, Exact, spread}
use Rattle.meaning.specs.Sums.{largest_below}
use Rattle.meaning.specs.Stages.{unclaimed, Meaning, Lawful, rounding}

-- what a coefficient adds, and what it takes away: one of the two is 0
abbrev pub adds : ℤ → ℕ
adds (pos n) = n
adds (negsuc n) = 0

abbrev pub takes : ℤ → ℕ
takes (pos n) = 0
takes (negsuc n) = suc n

-- coefficient i of row j
abbrev pub coefficient : List ℤ → ℕ → ℕ → ℤ
coefficient es j i = slice_index_or es (3 * j + i) (pos 0)

-- row j's sum of coefficient parts times channels
abbrev pub weighted : (ℤ → ℕ) → List ℤ → ℕ → List ℕ → ℕ
weighted part es j c = part (coefficient es j 0) * at c 0 + part (coefficient es j 1) * at c 1 + part (coefficient es j 2) * at c 2

-- row j's exact value over 65,536 d: its sum of e·a, held to 0 (subtraction stops there) and to 65,535 counts
abbrev pub row_value : List ℤ → Exact → ℕ → ℕ
row_value es x j = min (max_count * (grains * x.den)) (weighted adds es j x.nums - weighted takes es j x.nums)

-- row j's sum of e·a as a signed number
abbrev pub signed_sum : List ℤ → ℕ → List ℕ → ℤ
signed_sum es j c = coefficient es j 0 *ℤ pos (at c 0) +ℤ coefficient es j 1 *ℤ pos (at c 1) +ℤ coefficient es j 2 *ℤ pos (at c 2)

-- a row's value is its signed sum, 0 where that is negative, and at most 65,535 counts
abbrev pub RowsAreSignedSums : Type 0
RowsAreSignedSums = (es : List ℤ) (j : ℕ) (x : Exact) → row_value es x j ≡ min (max_count * (grains * x.den)) (adds (signed_sum es j x.nums))

-- the exact value: each row over 65,536 d
abbrev pub matrix_exact : List ℤ → Exact → Exact
matrix_exact es x = record { nums = spread 3 (row_value es x); den = grains * x.den }

-- row j's sum of absolute coefficients
abbrev pub row_sum : List ℤ → ℕ → ℕ
row_sum es j = unsigned_abs (coefficient es j 0) + unsigned_abs (coefficient es j 1) + unsigned_abs (coefficient es j 2)

-- the largest row sum, at most the steepness that claims nothing
abbrev pub steepness_of_matrix : List ℤ → ℕ
steepness_of_matrix es = min unclaimed (largest_below 3 (row_sum es))

-- a coefficient is a multiple of 65,536
abbrev pub is_whole_number : ℤ → Bool
is_whole_number e = unsigned_abs e % grains == 0

-- all coefficients are
abbrev pub all_whole : List ℤ → Bool
all_whole es = list_all is_whole_number es

-- no error where all coefficients are whole, else half a count
abbrev pub error_of_matrix : List ℤ → ℕ
error_of_matrix es = cond (all_whole es) 0 half_count

-- a matrix, from three channels to three
abbrev pub matrix : List ℤ → Meaning
matrix es = rounding Three Three (matrix_exact es) (steepness_of_matrix es) (error_of_matrix es)

-- a matrix keeps the laws, whatever its coefficients are
abbrev pub MatricesKeepTheLaws : Type 0
MatricesKeepTheLaws = (es : List ℤ) → Lawful (matrix es)
