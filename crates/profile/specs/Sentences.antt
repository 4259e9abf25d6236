-- What is said of profiles, as ASCII text.
use Rattle.std.specs.Prelude.{ℕ, List, codes}
use Rattle.profile.specs.declared.element.Kind.{Kind}
use Rattle.profile.specs.declared.element.Kind.TheVariants.{Lut8, Lut16}
use Rattle.profile.specs.declared.fault.Layer.{Layer}
use Rattle.profile.specs.declared.fault.Layer.TheVariants.{Header, Directory, Element}
use Rattle.profile.specs.declared.fault.Fault.{Fault}
use Rattle.profile.specs.declared.fault.Fault.TheVariants.{Length, Magic, ColourSpace, OtherSpace, Records, Absent, Outside, Short, UnknownType, InChannels, OutChannels, GridPoints, InputLength, OutputLength, Tables}
use Rattle.profile.specs.declared.space.Space.{Space}
use Rattle.profile.specs.declared.space.Space.TheVariants.{Gray, Rgb, Cmyk, Lab, Xyz}

-- the layers by name
abbrev pub name_of : Layer → List ℕ
name_of Header = codes "header"
name_of Directory = codes "directory"
name_of Element = codes "element"

-- the sentence that tells the fault
abbrev pub sentence_of : Fault → List ℕ
sentence_of Length = codes "the file has fewer than 132 or more than 16777216 bytes, or not as many as it says"
sentence_of Magic = codes "the file is no profile: acsp is missing"
sentence_of ColourSpace = codes "the colour space is unknown"
sentence_of OtherSpace = codes "the other space is unknown"
sentence_of Records = codes "there are more than 64 records, or they go past the end of the file"
sentence_of Absent = codes "the wanted element is not there"
sentence_of (Outside p) = codes "the element begins before the records end, or ends past the end of the file"
sentence_of (Short p) = codes "the element has fewer than 52 bytes"
sentence_of (UnknownType p) = codes "the element is neither a lut8 nor a lut16"
sentence_of (InChannels p) = codes "the element does not take the channels of its space"
sentence_of (OutChannels p) = codes "the element does not give the channels of its space"
sentence_of (GridPoints p) = codes "the lattice has fewer than 2 grid points"
sentence_of (InputLength p) = codes "the input tables do not have 2 to 4096 entries"
sentence_of (OutputLength p) = codes "the output tables do not have 2 to 4096 entries"
sentence_of (Tables p) = codes "the tables go past the end of the element"

-- the spaces by name
abbrev pub space_name : Space → List ℕ
space_name Gray = codes "GRAY"
space_name Rgb = codes "RGB"
space_name Cmyk = codes "CMYK"
space_name Lab = codes "Lab"
space_name Xyz = codes "XYZ"

-- the types of elements by name
abbrev pub kind_name : Kind → List ℕ
kind_name Lut8 = codes "lut8"
kind_name Lut16 = codes "lut16"
