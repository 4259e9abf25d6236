-- What rounding to the nearest whole number, halves upward, keeps. Assumes nothing.
use Rattle.std.proofs.Common.{◌≡◌, ℕ, zero, suc, ◌+◌, ◌-◌, ◌*◌, ◌<◌, ◌≤◌, sym, refl, mul_comm, div-lt_iff_lt-mul, div-mul-le_self, arith}
use native.Mathlib.Nat.{lt-div-mul-add, div-eq_of_lt-le, div-eq_of_lt}
use Rattle.std.specs.Int.{div_ceil}
use Rattle.std.proofs.lemmas.Grind.{div_ceil_times}
use Rattle.meaning.specs.Colours.{rounded, ceiling}

-- a rounded value is at most half above, and less than half below
pub rounded_high : (a d : ℕ) → 2 * d * rounded a d ≤ 2 * a + d
rounded_high a d = let h = div-mul-le_self (2 * a + d) (2 * d) in omega (arith, mul_comm (2 * d) (rounded a d))

pub rounded_low : (a d : ℕ) → 0 < d → 2 * a ≤ 2 * d * rounded a d + d
rounded_low a d p =
    let q : 0 < 2 * d = omega arith in
    let h = lt-div-mul-add {a = 2 * a + d} q in
    omega (arith, mul_comm (2 * d) (rounded a d))

-- rounding stays within a whole limit
pub rounded_limit : (a d m : ℕ) → 0 < d → a ≤ m * d → rounded a d ≤ m
rounded_limit a d m p h =
    let q : 0 < 2 * d = omega arith in
    let e : suc m * (2 * d) ≡ 2 * (m * d) + 2 * d = omega arith in
    let l : rounded a d < suc m = (div-lt_iff_lt-mul q).1 (omega arith) in
    omega arith

pub rounded_zero : (d : ℕ) → rounded 0 d ≡ 0
rounded_zero zero = refl
rounded_zero (suc d) = div-eq_of_lt (omega arith)

-- a whole value is kept
pub rounded_whole : (m d : ℕ) → 0 < d → rounded (m * d) d ≡ m
rounded_whole m d p = div-eq_of_lt-le (2 * d) (omega arith) (omega arith)

-- rounding up loses nothing
pub ceiling_covers : (a d : ℕ) → 0 < d → a ≤ ceiling a d * d
ceiling_covers a d p = let h = lt-div-mul-add {a = a + (d - 1)} {b = d} p in omega arith

-- rounding up as `div_ceil` does it
pub div_ceil_is : (a d : ℕ) → 0 < d → div_ceil a d ≡ ceiling a d
div_ceil_is a d p =
    let times = div_ceil_times a d p in
    sym (div-eq_of_lt-le d (omega arith) (omega arith))
