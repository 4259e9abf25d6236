-- The faults of a profile: each case with its number, its layer and its place in the bytes that were read: a file, or an element alone.
use Rattle.std.specs.Prelude.{ℕ, ◌+◌}
use Rattle.profile.specs.declared.fault.Layer.{Layer}
use Rattle.profile.specs.declared.fault.Layer.TheVariants.{Header, Directory, Element}
use Rattle.profile.specs.declared.fault.Fault.{Fault}
use Rattle.profile.specs.declared.fault.Fault.TheVariants.{Length, Magic, ColourSpace, OtherSpace, Records, Absent, Outside, Short, UnknownType, InChannels, OutChannels, GridPoints, InputLength, OutputLength, Tables}

-- the layers by number
abbrev pub layer_number : Layer → ℕ
layer_number Header = 1
layer_number Directory = 2
layer_number Element = 3

-- what a fault tells
pub record Told : Type 0 where
  pub number : ℕ
  pub layer : Layer
  pub place : ℕ

abbrev pub told : Fault → Told
told Length = record { number = 1; layer = Header; place = 0 }
told Magic = record { number = 2; layer = Header; place = 36 }
told ColourSpace = record { number = 3; layer = Header; place = 16 }
told OtherSpace = record { number = 3; layer = Header; place = 20 }
told Records = record { number = 4; layer = Directory; place = 128 }
told Absent = record { number = 5; layer = Directory; place = 128 }
told (Outside r) = record { number = 6; layer = Directory; place = r }
told (Short e) = record { number = 7; layer = Element; place = e }
told (UnknownType e) = record { number = 8; layer = Element; place = e }
told (InChannels e) = record { number = 9; layer = Element; place = e + 8 }
told (OutChannels e) = record { number = 9; layer = Element; place = e + 9 }
told (GridPoints e) = record { number = 10; layer = Element; place = e + 10 }
told (InputLength e) = record { number = 11; layer = Element; place = e + 48 }
told (OutputLength e) = record { number = 11; layer = Element; place = e + 50 }
told (Tables e) = record { number = 12; layer = Element; place = e }
