-- Distances of exact colours: weakening, the triangle, equal colours, and colours over one denominator. Assumes nothing.
use Rattle.std.proofs.Common.{◌≡◌, ℕ, ◌+◌, ◌*◌, ◌<◌, ◌≤◌, List, sym, ap, ◌∙◌, mul-le-mul_right, mul_assoc, mul_comm, add-mul, mul-le-mul_left, mul-pos, le_of_mul-le-mul_right, mul_left_comm, arith}
use Rattle.std.proofs.lemmas.List.{length-map}
use Rattle.meaning.specs.Colours.{max_count, grains, full_range, num, Colour, Exact, Valid, whole, scale}
use Rattle.meaning.specs.Distances.{Over, Near, Same}
use Rattle.meaning.proofs.Channelwise.{at_map}

-- ---- one channel

-- a larger distance
pub over_more : (p q p' q' a d b e : ℕ) → 0 < q → p * q' ≤ p' * q → Over p q a d b e → Over p' q' a d b e
over_more p q p' q' a d b e pos more h =
    le_of_mul-le-mul_right {k = q} (omega (arith, mul-le-mul_right q' h, mul-le-mul_right (d * e) more)) pos

-- distances add up
pub over_add : (p q p' q' a d b e c f : ℕ) → 0 < e → Over p q a d b e → Over p' q' b e c f → Over (p * q' + p' * q) (q * q') a d c f
over_add p q p' q' a d b e c f pos h i =
    let h' = simp (add-mul, mul_assoc, mul_comm, mul_left_comm) at (mul-le-mul_right (f * q') h) in
    let i' = simp (add-mul, mul_assoc, mul_comm, mul_left_comm) at (mul-le-mul_right (d * q) i) in
    le_of_mul-le-mul_right {k = e} (simp (add-mul, mul_assoc, mul_comm, mul_left_comm) (omega (arith, h', i'))) pos

-- an equal value on the left, and on the right
pub over_left : (p q a d a' d' b e : ℕ) → 0 < d → a * d' ≡ a' * d → Over p q a d b e → Over p q a' d' b e
over_left p q a d a' d' b e pos same h =
    le_of_mul-le-mul_right {k = d} (omega (arith, mul-le-mul_right d' h, ap (λ n. n * (e * q)) same)) pos

pub over_right : (p q a d b e b' e' : ℕ) → 0 < e → b * e' ≡ b' * e → Over p q a d b e → Over p q a d b' e'
over_right p q a d b e b' e' pos same h =
    le_of_mul-le-mul_right {k = e} (omega (arith, mul-le-mul_right e' h, ap (λ n. n * (d * q)) same)) pos

-- ---- colours

pub near_more : (p q p' q' : ℕ) (x y : Exact) → 0 < q → p * q' ≤ p' * q → Near p q x y → Near p' q' x y
near_more p q p' q' x y pos more h = record {
  above = λ k. over_more p q p' q' (num x k) x.den (num y k) y.den pos more (h.above k);
  below = λ k. over_more p q p' q' (num y k) y.den (num x k) x.den pos more (h.below k);
}

pub near_add : (p q p' q' : ℕ) (x y z : Exact) → 0 < y.den → Near p q x y → Near p' q' y z → Near (p * q' + p' * q) (q * q') x z
near_add p q p' q' x y z pos h i = record {
  above = λ k. over_add p q p' q' (num x k) x.den (num y k) y.den (num z k) z.den pos (h.above k) (i.above k);
  below = λ k.
      let o = over_add p' q' p q (num z k) z.den (num y k) y.den (num x k) x.den pos (i.below k) (h.below k) in
      omega (arith, o);
}

-- colours equal to near ones are as near
pub near_same : (p q : ℕ) (x y x' y' : Exact) → 0 < x.den → 0 < y.den → Same x x' → Same y y' → Near p q x y → Near p q x' y'
near_same p q x y x' y' px py sx sy h = record {
  above = λ k.
      over_right p q (num x' k) x'.den (num y k) y.den (num y' k) y'.den py (sy k)
      (over_left p q (num x k) x.den (num x' k) x'.den (num y k) y.den px (sx k) (h.above k));
  below = λ k.
      over_right p q (num y' k) y'.den (num x k) x.den (num x' k) x'.den px (sx k)
      (over_left p q (num y k) y.den (num y' k) y'.den (num x k) x.den py (sy k) (h.below k));
}

-- no two colours are further apart than the full range
over_range : (a d b e : ℕ) → a ≤ max_count * d → Over full_range grains a d b e
over_range a d b e h = omega (arith, mul-le-mul_right (e * grains) h)

pub near_range : (x y : Exact) → Valid x → Valid y → Near full_range grains x y
near_range x y vx vy = record {
  above = λ k. over_range (num x k) x.den (num y k) y.den (vx.within k);
  below = λ k. over_range (num y k) y.den (num x k) x.den (vy.within k);
}

-- ---- scaling

pub num_scale : (n : ℕ) (x : Exact) (k : ℕ) → num (scale n x) k ≡ n * num x k
num_scale n x k = at_map (λ a. n * a) (omega arith) x.nums k

pub same_scale : (n : ℕ) (x : Exact) → Same (scale n x) x
same_scale n x k = let e = num_scale n x k in omega (arith, ap (λ m. m * x.den) e)

pub same_sym : (x y : Exact) → Same x y → Same y x
same_sym x y h k = sym (h k)

pub valid_scale : (n : ℕ) (x : Exact) → 0 < n → Valid x → Valid (scale n x)
valid_scale n x pos v = record {
  long = length-map x.nums (λ a. n * a) ∙ v.long;
  positive = mul-pos pos v.positive;
  within = λ k. rw (num_scale n x k) (omega (arith, mul-le-mul_left n (v.within k)));
}

pub valid_whole : (c : List ℕ) → Colour c → Valid (whole c)
valid_whole c h = record { long = h.long; positive = omega arith; within = λ k. let w = h.within k in omega arith }

-- ---- colours over one denominator

-- x and y have one denominator and differ by at most p/q counts in each channel
pub record Level (p q : ℕ) (x y : Exact) : Type 0 where
  pub one_den : x.den ≡ y.den
  pub above : (k : ℕ) → num x k * q ≤ num y k * q + p * x.den
  pub below : (k : ℕ) → num y k * q ≤ num x k * q + p * x.den

pub level_sym : (p q : ℕ) (x y : Exact) → Level p q x y → Level p q y x
level_sym p q x y h = record {
  one_den = sym h.one_den;
  above = λ k. rw (← h.one_den) (h.below k);
  below = λ k. rw (← h.one_den) (h.above k);
}

-- what is near over one denominator, without that denominator
level_over : (p q a b d : ℕ) → 0 < d → Over p q a d b d → a * q ≤ b * q + p * d
level_over p q a b d pos h = le_of_mul-le-mul_right {k = d} (omega (arith, h)) pos

over_level : (p q a b d e : ℕ) → d ≡ e → a * q ≤ b * q + p * d → Over p q a d b e
over_level p q a b d e same h = rw (← same) (omega (arith, mul-le-mul_right d h))

pub near_level : (p q : ℕ) (x y : Exact) → 0 < x.den → x.den ≡ y.den → Near p q x y → Level p q x y
near_level p q x y pos same h = record {
  one_den = same;
  above = λ k. level_over p q (num x k) (num y k) x.den pos (rw same (rw same at (h.above k)));
  below = λ k. level_over p q (num y k) (num x k) x.den pos (rw same (rw same at (h.below k)));
}

pub level_near : (p q : ℕ) (x y : Exact) → Level p q x y → Near p q x y
level_near p q x y h = record {
  above = λ k. over_level p q (num x k) (num y k) x.den y.den h.one_den (h.above k);
  below = λ k. over_level p q (num y k) (num x k) y.den x.den (sym h.one_den) (rw (← h.one_den) (h.below k));
}
