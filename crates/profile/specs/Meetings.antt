-- What the answer of a chain says of its profiles: which of them open and meet, and what is wrong with the next.
use Rattle.std.specs.Prelude.{◌≡◌, ◌≢◌, ℕ, ◌<◌, ⊤, List, [], ◌∷◌, ◌++◌, length, map, Result, Ok, Err}
use Rattle.profile.specs.declared.chain.ChainError.{ChainError}
use Rattle.profile.specs.declared.chain.ChainError.TheVariants.{Profile, Spaces, Room}
use Rattle.profile.specs.declared.chain.Source.{Source}
use Rattle.profile.specs.declared.fault.Fault.{Fault}
use Rattle.profile.specs.declared.space.Space.{Space}
use Rattle.profile.specs.Chaining.{Chained, offered}
use Rattle.profile.specs.Opening.{Opening}

-- the first takes a space that is given, and each further one that which the one before it gives
abbrev pub MeetFrom : Space → List Opening → Type 0
MeetFrom given [] = ⊤
MeetFrom given (o ∷ os) = (o.takes ≡ given) × MeetFrom o.gives os

-- each but the first takes the space that the one before it gives
abbrev pub Meet : List Opening → Type 0
Meet [] = ⊤
Meet (o ∷ os) = MeetFrom o.gives os

-- the profiles open, each as told, and meet
pub record OpenAndMeet (sources : List Source) (openings : List Opening) : Type 0 where
  pub opened : map offered sources ≡ map Ok openings
  pub meet : Meet openings

-- the profile at position k is s, and those before it open and meet
pub record OpenUntil (sources : List Source) (k : ℕ) (s : Source) (openings : List Opening) : Type 0 where
  pub earlier : List Source
  pub later : List Source
  pub split : sources ≡ earlier ++ (s ∷ later)
  pub position : k ≡ length earlier
  pub before : OpenAndMeet earlier openings

-- the profile at position k has the fault
pub record FaultAt (sources : List Source) (k : ℕ) (f : Fault) : Type 0 where
  pub source : Source
  pub openings : List Opening
  pub reached : OpenUntil sources k source openings
  pub fault : offered source ≡ Err f

-- the profile at position k opens, and does not take the space that the one before it gives
pub record ApartAt (sources : List Source) (k : ℕ) : Type 0 where
  pub source : Source
  pub earlier : List Opening
  pub before : Opening
  pub opening : Opening
  pub reached : OpenUntil sources k source (earlier ++ (before ∷ []))
  pub opened : offered source ≡ Ok opening
  pub apart : opening.takes ≢ before.gives

-- all profiles open and meet, and the chain holds their elements in their order
pub record ChainOf (sources : List Source) (c : Chained) : Type 0 where
  pub openings : List Opening
  pub profiles : OpenAndMeet sources openings
  pub elements : c.first ∷ c.rest ≡ map (λ o. o.element) openings

-- what an answer says of the profiles, where there is room for so many
abbrev pub Says : ℕ → List Source → Result Chained ChainError → Type 0
Says room sources (Ok c) = ChainOf sources c
Says room sources (Err (Profile k f)) = FaultAt sources k f
Says room sources (Err (Spaces k)) = ApartAt sources k
Says room sources (Err Room) = room < length sources
