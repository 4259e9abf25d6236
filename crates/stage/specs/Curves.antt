-- When curves are made, and the entries of made curves.
use Rattle.std.specs.Prelude.{ℕ, ◌+◌, ◌-◌, cond, List, Some, None, Option}
use Rattle.meaning.specs.declared.Channels.{Channels}
use Rattle.meaning.specs.Colours.{number}
use Rattle.meaning.specs.Curves.{is_table_length, table_entry}
use Rattle.meaning.specs.Distances.{gap}
use Rattle.meaning.specs.Sums.{largest_below, samples}
use Rattle.stage.specs.declared.curves.Curves.{Curves}
use Rattle.stage.specs.declared.curves.TableLength.{TableLength}

-- how many entries a table of some length has, and the length of a table with that many
abbrev pub entries : TableLength → ℕ
entries length = length.0

abbrev pub length_with : ℕ → TableLength
length_with n = record { 0 = n }

-- a table has 2 to 4,096 entries; no other number makes one
abbrev pub table_length : ℕ → Option TableLength
table_length n = cond (is_table_length n) (Some (length_with n)) None

-- curves of n entries a table over a source of entries
abbrev pub curves_with : {E : Type 0} → Channels → ℕ → E → Curves E
curves_with w n table = record { channels = w; length = n; table = table }

-- tables of 2 to 4,096 entries make curves; others do not
abbrev pub curves_over : {E : Type 0} → Channels → ℕ → E → Option (Curves E)
curves_over w n table = cond (is_table_length n) (Some (curves_with w n table)) None

-- entry i of channel k's table; `counts` is what the source of the entries means
abbrev pub curve_entry : {E : Type 0} → (E → List ℕ) → Curves E → ℕ → ℕ → ℕ
curve_entry counts s = table_entry s.length (counts s.table)

-- the samples of channel k's table at a position, added up
abbrev pub curve_samples : {E : Type 0} → (E → List ℕ) → Curves E → ℕ → ℕ → ℕ
curve_samples counts s k = samples (curve_entry counts s k) 65535

-- the difference of entry i of channel k's table and the next
abbrev pub curve_step : {E : Type 0} → (E → List ℕ) → Curves E → ℕ → ℕ → ℕ
curve_step counts s k i = gap (curve_entry counts s k i) (curve_entry counts s k (i + 1))

-- the largest of these in channel k's table, and in all tables
abbrev pub largest_step_of : {E : Type 0} → (E → List ℕ) → Curves E → ℕ → ℕ
largest_step_of counts s k = largest_below (s.length - 1) (curve_step counts s k)

abbrev pub largest_step : {E : Type 0} → (E → List ℕ) → Curves E → ℕ
largest_step counts s = largest_below (number s.channels) (largest_step_of counts s)
