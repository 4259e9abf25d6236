-- The first bytes of an element: their checks in their order, and the shape that they tell.
use Rattle.std.specs.Prelude.{ℕ, ◌+◌, ◌*◌, List, [], ◌∷◌, map, length, nat_le, slice_index, ◌==◌, ℤ}
use Rattle.std.specs.Int.{w32, cast_signed}
use Rattle.std.specs.List.{range_with_len}
use Rattle.std.specs.Option.{is_some, unwrap_or}
use Rattle.meaning.specs.declared.Channels.{Channels}
use Rattle.meaning.specs.Colours.{number}
use Rattle.stage.specs.Curves.{length_with, table_length}
use Rattle.stage.specs.Lattices.{grid_with}
use Rattle.profile.specs.declared.element.Kind.{Kind}
use Rattle.profile.specs.declared.element.Kind.TheVariants as kind
use Rattle.profile.specs.declared.fault.Fault.{Fault}
use Rattle.profile.specs.declared.fault.Fault.TheVariants.{Short, UnknownType, InChannels, OutChannels, GridPoints, InputLength, OutputLength}
use Rattle.profile.specs.declared.reading.Shape.{Shape}
use Rattle.profile.specs.Bytes.{word, half}
use Rattle.profile.specs.Checks.{Check}
use Rattle.profile.specs.Kinds.{kind_of}

-- the type of an element; where it has none, a check fails, and this one is not looked at
abbrev pub type_of : List ℕ → Kind
type_of e = unwrap_or (kind_of (word e 0)) kind.Lut8

-- how many entries each input and each output table has: 256 in a lut8, and told at 48 and at 50 in a lut16
abbrev pub input_length : List ℕ → Kind → ℕ
input_length e kind.Lut8 = 256
input_length e kind.Lut16 = half e 48

abbrev pub output_length : List ℕ → Kind → ℕ
output_length e kind.Lut8 = 256
output_length e kind.Lut16 = half e 50

-- at least 52 bytes; a known type; the channels of the spaces on both sides; 2 grid points or more; tables of 2 to 4,096
abbrev pub shape_checks : List ℕ → ℕ → Channels → Channels → List (Check Fault)
shape_checks e at i o =
    (nat_le 52 (length e), Short at)
    ∷ (is_some (kind_of (word e 0)), UnknownType at)
    ∷ (slice_index e 8 == number i, InChannels at)
    ∷ (slice_index e 9 == number o, OutChannels at)
    ∷ (nat_le 2 (slice_index e 10), GridPoints at)
    ∷ (is_some (table_length (input_length e (type_of e))), InputLength at)
    ∷ (is_some (table_length (output_length e (type_of e))), OutputLength at)
    ∷ []

abbrev pub shape : List ℕ → Channels → Channels → Shape
shape e i o = record {
  kind = type_of e;
  ins = i;
  outs = o;
  grid = grid_with (slice_index e 10);
  input = length_with (input_length e (type_of e));
  output = length_with (output_length e (type_of e));
}

-- coefficient k of the matrix at 12, a signed number of 32 bits
abbrev pub coefficient_at : List ℕ → ℕ → ℤ
coefficient_at e k = cast_signed w32 (word e (12 + 4 * k))

abbrev pub coefficients : List ℕ → List ℤ
coefficients e = map (coefficient_at e) (range_with_len 0 9)
