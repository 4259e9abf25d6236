-- Legs of a lattice: where the samples of one channel come to, and three legs in falling order.
use Rattle.std.specs.Prelude.{◌≡◌, ℕ, ◌+◌, ◌-◌, ◌*◌, ◌/◌, ◌%◌, ◌^◌, ◌≤◌, cond, List, [], ◌∷◌, nat_lt}
use Rattle.meaning.specs.Colours.{at}
use Rattle.stage.specs.declared.legs.Leg.{Leg}

-- the leg of a count in a channel of m steps, with neighbours `stride` entries apart
abbrev pub leg : ℕ → ℕ → ℕ → Leg
leg count m stride = record { index = count * m / 65535; stride = stride; rest = count * m % 65535 }

-- the entries that lie before the node below
abbrev pub start_of : Leg → ℕ
start_of l = l.stride * l.index

-- the place that sample s reaches along one channel: the neighbour's in the last `rest` of 65,535 samples
abbrev pub reach : Leg → ℕ → ℕ
reach l s = start_of l + l.stride * ((l.rest + s) / 65535)

-- two legs, the one with the larger rest first
abbrev pub ordered : Leg → Leg → Leg × Leg
ordered a b = cond (nat_lt a.rest b.rest) (b, a) (a, b)

-- three legs
pub record Three : Type 0 where
  pub most : Leg
  pub middle : Leg
  pub least : Leg

-- three legs by falling rests
abbrev pub sorted : Leg → Leg → Leg → Three
sorted a b c =
    let ab = ordered a b in
    let bc = ordered ab.1 c in
    let top = ordered ab.0 bc.0 in
    record { most = top.0; middle = top.1; least = bc.1 }

-- so sorted, no rest is larger than one before it
pub record Falling (t : Three) : Type 0 where
  pub first : t.most.rest ≤ 65535
  pub second : t.middle.rest ≤ t.most.rest
  pub third : t.least.rest ≤ t.middle.rest

-- what three legs are kept with: their rests fall, and the entries before the nodes below are added up
pub record Kept (start : ℕ) (t : Three) : Type 0 where
  pub falling : Falling t
  pub together : start ≡ start_of t.most + start_of t.middle + start_of t.least
  pub limit : start ≤ 2 ^ 42

-- the leg of a channel that is not there
abbrev pub idle : Leg
idle = record { index = 0; stride = 0; rest = 0 }

-- the place that sample s reaches along three legs together
abbrev pub reach_all : Three → ℕ → ℕ
reach_all t s = reach t.most s + reach t.middle s + reach t.least s

-- the places of the corners: the near end of all legs, and from there one leg after the other to its far end
abbrev pub corners_from : Three → ℕ → List ℕ
corners_from t place =
    let base = place + start_of t.most + start_of t.middle + start_of t.least in
    base ∷ (base + t.most.stride) ∷ (base + t.most.stride + t.middle.stride) ∷ (base + t.most.stride + t.middle.stride + t.least.stride) ∷ []

-- the counts at the corners, each weighed by the samples that come no further
abbrev pub weighed : Three → List ℕ → ℕ
weighed t counts =
    (65535 - t.most.rest) * at counts 0
    + (t.most.rest - t.middle.rest) * at counts 1
    + (t.middle.rest - t.least.rest) * at counts 2
    + t.least.rest * at counts 3
