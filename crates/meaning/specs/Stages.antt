-- What a stage means, the laws that every stage keeps, and two stages joined.
use Rattle.std.specs.Prelude.{◌≡◌, ℕ, ◌+◌, ◌*◌, ◌<◌, ◌≤◌, min, cond, ◌||◌, List, ◌==◌}
use Rattle.meaning.specs.declared.Channels.{Channels}
use Rattle.meaning.specs.Colours.{grains, full_range, number, at, num, Colour, Exact, Valid, whole, scale, nearest, ceiling}
use Rattle.meaning.specs.Distances.{Near, Same}

-- the steepness that claims nothing: 2^30 grains a count
abbrev pub unclaimed : ℕ
unclaimed = 1073741824

-- a stage: its channels, the exact map that it stands for, the colour that it answers, its steepness
-- (a Lipschitz bound of the exact map, in grains a count) and its error (in grains)
pub record Meaning : Type 0 where
  pub ins : Channels
  pub outs : Channels
  pub exact : Exact → Exact
  pub answer : List ℕ → List ℕ
  pub steepness : ℕ
  pub error : ℕ

-- what every stage keeps
pub record Lawful (m : Meaning) : Type 0 where
  -- both figures are within their limits
  pub steepness_limit : m.steepness ≤ unclaimed
  pub error_limit : m.error ≤ full_range
  -- an exact colour goes to an exact colour, which is 0 beyond the out-channels
  pub stays : (x : Exact) → Valid x → Valid (m.exact x)
  pub zero_beyond : (x : Exact) → Valid x → (k : ℕ) → number m.outs ≤ k → num (m.exact x) k ≡ 0
  -- how a colour is written does not matter: scaled up, it has an equal result
  pub scales : (n : ℕ) → 0 < n → (x : Exact) → Valid x → Same (m.exact (scale n x)) (m.exact x)
  -- where a steepness is claimed, colours at most p/q counts apart have results at most steepness · p/q grains apart
  pub steep : m.steepness < unclaimed → (p q : ℕ) → 0 < q → (x y : Exact) → Valid x → Valid y → Near p q x y → Near (m.steepness * p) (grains * q) (m.exact x) (m.exact y)
  -- an answer is a colour, 0 beyond the out-channels, and within the error of the exact value
  pub answers : (c : List ℕ) → Colour c → Colour (m.answer c)
  pub answer_zero_beyond : (c : List ℕ) → Colour c → (k : ℕ) → number m.outs ≤ k → at (m.answer c) k ≡ 0
  pub close : (c : List ℕ) → Colour c → Near m.error grains (whole (m.answer c)) (m.exact (whole c))

-- a stage that answers its exact value, rounded once
abbrev pub rounding : Channels → Channels → (Exact → Exact) → ℕ → ℕ → Meaning
rounding i o f l e = record { ins = i; outs = o; exact = f; answer = λ c. nearest (f (whole c)); steepness = l; error = e }

-- the steepness of two stages joined, of steepness l and m
abbrev pub steepness_of_joined : ℕ → ℕ → ℕ
steepness_of_joined l m = cond (l == unclaimed || m == unclaimed) unclaimed (min unclaimed (ceiling (l * m) grains))

-- the error of two stages joined: the second's steepness m carries the first's error d on, and its own error e is added
abbrev pub error_of_joined : ℕ → ℕ → ℕ → ℕ
error_of_joined m d e = cond (m == unclaimed) full_range (min full_range (ceiling (m * d) grains + e))

-- two stages joined: first a runs, then b
abbrev pub joined : Meaning → Meaning → Meaning
joined a b = record {
  ins = a.ins;
  outs = b.outs;
  exact = λ x. b.exact (a.exact x);
  answer = λ c. b.answer (a.answer c);
  steepness = steepness_of_joined a.steepness b.steepness;
  error = error_of_joined b.steepness a.error b.error;
}

-- joining keeps the laws
abbrev pub JoiningKeepsTheLaws : Type 0
JoiningKeepsTheLaws = (a b : Meaning) → Lawful a → Lawful b → Lawful (joined a b)

-- equal exact colours have equal results
abbrev pub EqualInEqualOut : Type 0
EqualInEqualOut = (m : Meaning) → Lawful m → (x y : Exact) → Valid x → Valid y → Same x y → Same (m.exact x) (m.exact y)
