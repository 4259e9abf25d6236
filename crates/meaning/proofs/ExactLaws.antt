-- What an exact map has to show so that its rounded answers are a stage, and that this is enough. Assumes nothing.
use Rattle.std.proofs.Common.{◌≡◌, ℕ, ◌+◌, ◌*◌, ◌<◌, ◌≤◌, List, ap, ◌∙◌, mul_comm, arith}
use Rattle.std.proofs.lemmas.List.{length-map}
use Rattle.meaning.specs.declared.Channels.{Channels}
use Rattle.meaning.specs.Colours.{max_count, grains, full_range, half_count, number, at, num, Colour, Exact, Valid, whole, scale, rounded, nearest}
use Rattle.meaning.specs.Distances.{Near, Same}
use Rattle.meaning.specs.Stages.{unclaimed, Lawful, rounding}
use Rattle.meaning.proofs.Channelwise.{at_map}
use Rattle.meaning.proofs.Rounding.{rounded_high, rounded_low, rounded_limit, rounded_zero}
use Rattle.meaning.proofs.Nearness.{near_same, near_level, level_near, level_sym, Level, same_scale, same_sym, valid_scale, valid_whole}

-- the laws of an exact map f of steepness l; the last one speaks only of colours over one denominator
pub record ExactLaws (outs : Channels) (f : Exact → Exact) (l : ℕ) : Type 0 where
  pub limit : l ≤ unclaimed
  pub stays : (x : Exact) → Valid x → Valid (f x)
  pub zero_beyond : (x : Exact) → Valid x → (k : ℕ) → number outs ≤ k → num (f x) k ≡ 0
  pub scales : (n : ℕ) → 0 < n → (x : Exact) → Valid x → Same (f (scale n x)) (f x)
  pub one_den : (x y : Exact) → x.den ≡ y.den → (f x).den ≡ (f y).den
  pub steep : l < unclaimed → (p q : ℕ) → 0 < q → (x y : Exact) → Valid x → Valid y → Level p q x y → (k : ℕ) → num (f x) k * (grains * q) ≤ num (f y) k * (grains * q) + l * p * (f x).den

-- colours are brought over one denominator, each scaled by the other's
steep_from_level : (outs : Channels) (f : Exact → Exact) (l : ℕ) → ExactLaws outs f l → l < unclaimed → (p q : ℕ) → 0 < q → (x y : Exact) → Valid x → Valid y → Near p q x y → Near (l * p) (grains * q) (f x) (f y)
steep_from_level outs f l laws claimed p q pos x y vx vy h =
    let x' = scale y.den x in
    let y' = scale x.den y in
    let vx' = valid_scale y.den x vy.positive vx in
    let vy' = valid_scale x.den y vx.positive vy in
    let same : x'.den ≡ y'.den = mul_comm y.den x.den in
    let near' = near_same p q x y x' y' vx.positive vy.positive (same_sym x' x (same_scale y.den x)) (same_sym y' y (same_scale x.den y)) h in
    let level = near_level p q x' y' vx'.positive same near' in
    let out = laws.one_den x' y' same in
    let far : Near (l * p) (grains * q) (f x') (f y') =
    level_near (l * p) (grains * q) (f x') (f y') (record {
      one_den = out;
      above = laws.steep claimed p q pos x' y' vx' vy' level;
      below = λ k. rw out (laws.steep claimed p q pos y' x' vy' vx' (level_sym p q x' y' level) k);
    }) in
    near_same (l * p) (grains * q) (f x') (f y') (f x) (f y) (laws.stays x' vx').positive (laws.stays y' vy').positive
    (laws.scales y.den vy.positive x vx) (laws.scales x.den vx.positive y vy) far

num_nearest : (x : Exact) (k : ℕ) → at (nearest x) k ≡ rounded (num x k) x.den
num_nearest x k = at_map (λ a. rounded a x.den) (rounded_zero x.den) x.nums k

pub nearest_colour : (x : Exact) → Valid x → Colour (nearest x)
nearest_colour x v = record {
  long = length-map x.nums (λ a. rounded a x.den) ∙ v.long;
  within = λ k. rw (num_nearest x k) (rounded_limit (num x k) x.den max_count v.positive (v.within k));
}

-- the nearest colour is within half a count
pub nearest_close : (x : Exact) → Valid x → Near half_count grains (whole (nearest x)) x
nearest_close x v = record {
  above = λ k. rw (num_nearest x k) (omega (arith, rounded_high (num x k) x.den));
  below = λ k. rw (num_nearest x k) (omega (arith, rounded_low (num x k) x.den v.positive));
}

-- an exact map with these laws, rounded, is a stage
pub rounding_lawful : (i o : Channels) (f : Exact → Exact) (l e : ℕ) → ExactLaws o f l → e ≤ full_range → ((c : List ℕ) → Colour c → Near e grains (whole (nearest (f (whole c)))) (f (whole c))) → Lawful (rounding i o f l e)
rounding_lawful i o f l e laws limit close = record {
  steepness_limit = laws.limit;
  error_limit = limit;
  stays = laws.stays;
  zero_beyond = laws.zero_beyond;
  scales = laws.scales;
  steep = steep_from_level o f l laws;
  answers = λ c h. nearest_colour (f (whole c)) (laws.stays (whole c) (valid_whole c h));
  answer_zero_beyond = λ c h k beyond. num_nearest (f (whole c)) k ∙ ap (λ a. rounded a (f (whole c)).den) (laws.zero_beyond (whole c) (valid_whole c h) k beyond) ∙ rounded_zero (f (whole c)).den;
  close = close;
}

-- with half a count of error, no more is wanted
pub half_lawful : (i o : Channels) (f : Exact → Exact) (l : ℕ) → ExactLaws o f l → Lawful (rounding i o f l half_count)
half_lawful i o f l laws = rounding_lawful i o f l half_count laws (omega arith) (λ c h. nearest_close (f (whole c)) (laws.stays (whole c) (valid_whole c h)))
