-- Definitions are total, so some hold a number to a limit: an entry and a shown sample to 65,535, and the steepness of
-- curves and lattices to 2^30. None of these limits acts on what the types hold.
use Rattle.std.specs.Prelude.{◌≡◌, ℕ, ◌^◌, ◌<◌, List, IsTrue}
use Rattle.meaning.specs.declared.Channels.{Channels}
use Rattle.meaning.specs.Colours.{at}
use Rattle.meaning.specs.Curves.{entry, is_table_length, largest_curve_step, rise}
use Rattle.meaning.specs.Lattices.{lattice_step}
use Rattle.meaning.specs.Samples.{eight_bits, sixteen_bits, shown_count}
use Rattle.meaning.specs.Stages.{unclaimed}

pub record LimitsNeverAct : Type 0 where
  -- an entry that a `u16` can be is read as it stands
  pub entries : (counts : List ℕ) (i : ℕ) → at counts i < 2 ^ 16 → entry counts i ≡ at counts i
  -- a `u8` and a `u16` show the count that they stand for
  pub eight : (v : ℕ) → v < 2 ^ 8 → shown_count eight_bits v ≡ eight_bits.count v
  pub sixteen : (v : ℕ) → v < 2 ^ 16 → shown_count sixteen_bits v ≡ sixteen_bits.count v
  -- whatever the entries are, curves with tables of 2 to 4,096 of them rise by less than 2^30, and so do lattices whose
  -- grid points a `u8` can count
  pub curves : (w : Channels) (n : ℕ) (counts : List ℕ) → IsTrue (is_table_length n) →
      rise n (largest_curve_step w n counts) < unclaimed
  pub lattices : (i o : Channels) (g : ℕ) (counts : List ℕ) → g < 2 ^ 8 →
      rise g (lattice_step i o g counts) < unclaimed
