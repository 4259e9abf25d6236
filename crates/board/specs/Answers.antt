-- What C gets of a call, by what opening the profile answers.
use Rattle.std.specs.Prelude.{ℕ, List, Result, Ok, Err}
use Rattle.profile.specs.declared.fault.Fault.{Fault}
use Rattle.profile.specs.Faults.{told}
use Rattle.profile.specs.Layouts.{element_meaning}
use Rattle.profile.specs.Opening.{Opening}

-- the number returned: 0 for an opened profile, else that of the fault
abbrev pub number_told : Result Opening Fault → ℕ
number_told (Ok o) = 0
number_told (Err f) = (told f).number

-- the colour left: the element's answer, else the colour as it stood
abbrev pub colour_left : Result Opening Fault → List ℕ → List ℕ
colour_left (Ok o) c = (element_meaning o.element).answer c
colour_left (Err f) c = c
