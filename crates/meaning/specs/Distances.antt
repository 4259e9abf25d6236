-- How far apart two exact colours are, channel by channel, and when they are equal.
use Rattle.std.specs.Prelude.{◌≡◌, ℕ, ◌+◌, ◌-◌, ◌*◌, ◌≤◌}
use Rattle.meaning.specs.Colours.{Exact, num}

-- the difference of two counts
abbrev pub gap : ℕ → ℕ → ℕ
gap a b = (a - b) + (b - a)

-- a/d is at most b/e + p/q, multiplied out
abbrev pub Over : ℕ → ℕ → ℕ → ℕ → ℕ → ℕ → Type 0
Over p q a d b e = a * e * q ≤ b * d * q + p * (d * e)

-- in every channel x and y differ by at most p/q counts
pub record Near (p q : ℕ) (x y : Exact) : Type 0 where
  pub above : (k : ℕ) → Over p q (num x k) x.den (num y k) y.den
  pub below : (k : ℕ) → Over p q (num y k) y.den (num x k) x.den

-- in every channel x and y have the same value
abbrev pub Same : Exact → Exact → Type 0
Same x y = (k : ℕ) → num x k * y.den ≡ num y k * x.den
