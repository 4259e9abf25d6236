-- Refusals: their numbers and sentences, the order of checks, and what a call that may be refused answers and leaves.
use Rattle.std.specs.Prelude.{ℕ, Bool, cond, List, [], ◌∷◌, Some, None, Ok, Err, Option, Result, codes}
use Rattle.link.specs.declared.refusal.Refusal.{Refusal}
use Rattle.link.specs.declared.refusal.Refusal.TheVariants.{RowLengths, PixelChannels, GridPoints, TableLength, NoLink, FullLink, FillingLink, OutputLength}

-- the number by which a refusal is reported
abbrev pub number_of : Refusal → ℕ
number_of RowLengths = 30
number_of PixelChannels = 31
number_of GridPoints = 32
number_of TableLength = 33
number_of NoLink = 34
number_of FullLink = 35
number_of FillingLink = 36
number_of OutputLength = 37

-- the sentence that tells why, as ASCII text
abbrev pub sentence_of : Refusal → List ℕ
sentence_of RowLengths = codes "the two rows are not equally long"
sentence_of PixelChannels = codes "the pixels' channels are not the stage's"
sentence_of GridPoints = codes "a link has 2 to 33 grid points"
sentence_of TableLength = codes "the node table is shorter than the link"
sentence_of NoLink = codes "there is no link"
sentence_of FullLink = codes "the link is full already"
sentence_of FillingLink = codes "the link is still filling"
sentence_of OutputLength = codes "the output is shorter than the written link"

-- a refusal, unless a test holds
abbrev pub unless : Bool → Refusal → Option Refusal
unless holds e = cond holds None (Some e)

-- the first refusal of several checks, if there is one
abbrev pub first_refusal : List (Option Refusal) → Option Refusal
first_refusal [] = None
first_refusal (None ∷ later) = first_refusal later
first_refusal (Some e ∷ later) = Some e

-- what a call answers: its value, or why it was refused
abbrev pub answered : {A : Type 0} → Option Refusal → A → Result A Refusal
answered None a = Ok a
answered (Some e) a = Err e

-- why a call was refused, by its answer
abbrev pub refused : {A : Type 0} → Result A Refusal → Option Refusal
refused (Ok a) = None
refused (Err e) = Some e

-- what a call leaves: a refused call leaves things as they stood
abbrev pub left : {A : Type 0} → Option Refusal → A → A → A
left None was new = new
left (Some e) was new = was

-- what holds of the value of a call that was not refused
abbrev pub Accepted : {A : Type 0} → Result A Refusal → (A → Type 0) → Type 0
Accepted (Ok a) P = P a
Accepted (Err e) P = Unit {0}
