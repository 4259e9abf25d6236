-- A matrix keeps the laws of a stage, whatever its coefficients are. Assumes nothing.
use Rattle.std.proofs.Common.{◌≡◌, ℕ, zero, suc, ◌+◌, ◌-◌, ◌*◌, ◌/◌, ◌%◌, ◌<◌, ◌≤◌, min, true, false, eqb, List, [], ◌∷◌, get_or, ℤ, pos, negsuc, nat_abs, refl, ap, ◌∙◌, ⊎_elim, mul-le-mul_right, mul-le-mul_left, mul-pos, arith}
use native.Mathlib.Nat.{mul-sub}
use Rattle.std.proofs.lemmas.Bool.{and_parts, eqb-true, cases_Bool, cases_lt, cond-true, cond-false, cond_both}
use Rattle.meaning.specs.declared.Channels.TheVariants.{Three}
use Rattle.meaning.specs.Colours.{max_count, grains, full_range, half_count, at, num, Colour, Exact, Valid, whole, scale, rounded, nearest, spread}
use Rattle.meaning.specs.Distances.{Near, Same}
use Rattle.meaning.specs.Stages.{unclaimed}
use Rattle.meaning.specs.Matrices.{adds, takes, coefficient, weighted, row_value, matrix_exact, row_sum, steepness_of_matrix, all_whole, error_of_matrix, matrix, MatricesKeepTheLaws}
use Rattle.meaning.proofs.Channelwise.{at_map, length_spread, spread_within, spread_beyond, each_channel}
use Rattle.meaning.proofs.ExactLaws.{ExactLaws, nearest_close, rounding_lawful}
use Rattle.meaning.proofs.Largest.{below_largest}
use Rattle.meaning.proofs.Nearness.{Level, num_scale, valid_whole}
use Rattle.meaning.proofs.Rounding.{rounded_whole, rounded_zero}

-- ---- a coefficient and its parts

parts_sum : (z : ℤ) → nat_abs z ≡ adds z + takes z
parts_sum (pos n) = omega arith
parts_sum (negsuc n) = omega arith

-- ---- sums over plain numbers

-- a weighted sum of scaled channels
sum_scale : (n u v w a b c a' b' c' : ℕ) → a' ≡ n * a → b' ≡ n * b → c' ≡ n * c → u * a' + v * b' + w * c' ≡ n * (u * a + v * b + w * c)
sum_scale n u v w a b c a' b' c' e f g = rw (e, f, g) (omega arith)

-- a scaled difference, held to a scaled limit
held_scale : (n c p m : ℕ) → min (n * c) (n * p - n * m) ≡ n * min c (p - m)
held_scale n c p m =
    ⊎_elim
    (λ (h : p - m < c).
    let e : min c (p - m) ≡ p - m = omega arith in
    let l : p - m ≤ c = omega arith in
    rw e (omega (arith, mul-sub n p m, mul-le-mul_left n l)))
    (λ (h : c ≤ p - m).
    let e : min c (p - m) ≡ c = omega arith in
    rw e (omega (arith, mul-sub n p m, mul-le-mul_left n h)))
    (cases_lt (p - m) c)

-- weighted sums of channels that are at most s/q apart
sum_steep : (u v w a b c a' b' c' q s : ℕ) → a * q ≤ a' * q + s → b * q ≤ b' * q + s → c * q ≤ c' * q + s → (u * a + v * b + w * c) * q ≤ (u * a' + v * b' + w * c') * q + (u + v + w) * s
sum_steep u v w a b c a' b' c' q s h i j = omega (arith, mul-le-mul_left u h, mul-le-mul_left v i, mul-le-mul_left w j)

-- differences held to one limit
held_steep : (c p n p' n' q a t : ℕ) → p * q ≤ p' * q + a → n' * q ≤ n * q + t → min c (p - n) * q ≤ min c (p' - n') * q + (a + t)
held_steep c p n p' n' q a t h i = omega (arith, held_scale q c p n, held_scale q c p' n')

-- ---- the laws of the exact map

weighted_scale : (part : ℤ → ℕ) (es : List ℤ) (j n : ℕ) (x : Exact) → weighted part es j (scale n x).nums ≡ n * weighted part es j x.nums
weighted_scale part es j n x =
    sum_scale n (part (coefficient es j 0)) (part (coefficient es j 1)) (part (coefficient es j 2)) (num x 0) (num x 1) (num x 2)
    (num (scale n x) 0) (num (scale n x) 1) (num (scale n x) 2) (num_scale n x 0) (num_scale n x 1) (num_scale n x 2)

row_scale : (es : List ℤ) (n : ℕ) (x : Exact) (j : ℕ) → row_value es (scale n x) j ≡ n * row_value es x j
row_scale es n x j =
    let limit : max_count * (grains * (n * x.den)) ≡ n * (max_count * (grains * x.den)) = omega arith in
    rw (weighted_scale adds es j n x, weighted_scale takes es j n x, limit)
    (held_scale n (max_count * (grains * x.den)) (weighted adds es j x.nums) (weighted takes es j x.nums))

matrix_scales : (es : List ℤ) (n : ℕ) (x : Exact) → Same (matrix_exact es (scale n x)) (matrix_exact es x)
matrix_scales es n x k =
    ⊎_elim
    (λ (h : k < 3).
    rw (spread_within 3 (row_value es (scale n x)) k (omega arith) h, spread_within 3 (row_value es x) k (omega arith) h, row_scale es n x k) (omega arith))
    (λ (h : 3 ≤ k).
    rw (spread_beyond 3 (row_value es (scale n x)) k h, spread_beyond 3 (row_value es x) k h) (omega arith))
    (cases_lt k 3)

matrix_stays : (es : List ℤ) (x : Exact) → Valid x → Valid (matrix_exact es x)
matrix_stays es x v = record {
  long = length_spread 3 (row_value es x);
  positive = mul-pos (omega arith) v.positive;
  within = each_channel 3 (row_value es x) (λ a. a ≤ max_count * (grains * x.den)) (omega arith) (omega arith) (λ k h. omega arith);
}

weighted_steep : (part : ℤ → ℕ) (es : List ℤ) (j p q : ℕ) (x y : Exact) → ((k : ℕ) → num x k * q ≤ num y k * q + p * x.den) →
    weighted part es j x.nums * q ≤ weighted part es j y.nums * q + (part (coefficient es j 0) + part (coefficient es j 1) + part (coefficient es j 2)) * (p * x.den)
weighted_steep part es j p q x y h =
    sum_steep (part (coefficient es j 0)) (part (coefficient es j 1)) (part (coefficient es j 2)) (num x 0) (num x 1) (num x 2)
    (num y 0) (num y 1) (num y 2) q (p * x.den) (h 0) (h 1) (h 2)

-- a row's parts add up to its sum of absolute coefficients, which is at most a claimed steepness
row_parts : (es : List ℤ) (j : ℕ) → row_sum es j ≡ (adds (coefficient es j 0) + adds (coefficient es j 1) + adds (coefficient es j 2)) + (takes (coefficient es j 0) + takes (coefficient es j 1) + takes (coefficient es j 2))
row_parts es j = omega (arith, parts_sum (coefficient es j 0), parts_sum (coefficient es j 1), parts_sum (coefficient es j 2))

row_below : (es : List ℤ) (j : ℕ) → j < 3 → steepness_of_matrix es < unclaimed → row_sum es j ≤ steepness_of_matrix es
row_below es j h claimed = let b = below_largest 3 (row_sum es) j h in omega arith

-- the step from one row to the whole steepness, over plain numbers
steep_step : (r s g q a t l p d : ℕ) → r * q ≤ s * q + (a * (p * d) + t * (p * d)) → a + t ≤ l → r * (g * q) ≤ s * (g * q) + l * p * (g * d)
steep_step r s g q a t l p d h i = omega (arith, mul-le-mul_right g h, mul-le-mul_right (p * d * g) i)

row_steep : (es : List ℤ) (j p q : ℕ) (x y : Exact) → Level p q x y → j < 3 → steepness_of_matrix es < unclaimed → row_value es x j * (grains * q) ≤ row_value es y j * (grains * q) + steepness_of_matrix es * p * (grains * x.den)
row_steep es j p q x y level h claimed =
    let a = adds (coefficient es j 0) + adds (coefficient es j 1) + adds (coefficient es j 2) in
    let t = takes (coefficient es j 0) + takes (coefficient es j 1) + takes (coefficient es j 2) in
    let d = x.den in
    let more = weighted_steep adds es j p q x y level.above in
    let less : weighted takes es j y.nums * q ≤ weighted takes es j x.nums * q + t * (p * d) = rw level.one_den (weighted_steep takes es j p q y x (rw level.one_den at level.below)) in
    let held = held_steep (max_count * (grains * d)) (weighted adds es j x.nums) (weighted takes es j x.nums) (weighted adds es j y.nums) (weighted takes es j y.nums) q (a * (p * d)) (t * (p * d)) more less in
    let same : min (max_count * (grains * d)) (weighted adds es j y.nums - weighted takes es j y.nums) ≡ row_value es y j = ap (λ n. min (max_count * (grains * n)) (weighted adds es j y.nums - weighted takes es j y.nums)) level.one_den in
    steep_step (row_value es x j) (row_value es y j) grains q a t (steepness_of_matrix es) p d (rw same at held) (let b = row_below es j h claimed in omega (arith, row_parts es j))

matrix_steep : (es : List ℤ) → steepness_of_matrix es < unclaimed → (p q : ℕ) (x y : Exact) → Level p q x y → (k : ℕ) → num (matrix_exact es x) k * (grains * q) ≤ num (matrix_exact es y) k * (grains * q) + steepness_of_matrix es * p * (grains * x.den)
matrix_steep es claimed p q x y level k =
    ⊎_elim
    (λ (h : k < 3).
    rw (spread_within 3 (row_value es x) k (omega arith) h, spread_within 3 (row_value es y) k (omega arith) h) (row_steep es k p q x y level h claimed))
    (λ (h : 3 ≤ k). rw (spread_beyond 3 (row_value es x) k h) (omega arith))
    (cases_lt k 3)

matrix_exact_laws : (es : List ℤ) → ExactLaws Three (matrix_exact es) (steepness_of_matrix es)
matrix_exact_laws es = record {
  limit = omega arith;
  stays = matrix_stays es;
  zero_beyond = λ x v k h. spread_beyond 3 (row_value es x) k h;
  scales = λ n pos x v. matrix_scales es n x;
  one_den = λ x y e. ap (λ n. grains * n) e;
  steep = λ claimed p q pos x y vx vy level. matrix_steep es claimed p q x y level;
}

-- ---- the error

-- what is whole in every channel is answered without an error
whole_close : (x : Exact) → Valid x → ((k : ℕ) → (m : ℕ) × (num x k ≡ m * x.den)) → Near 0 grains (whole (nearest x)) x
whole_close x v is_whole =
    let is : (k : ℕ) → at (nearest x) k ≡ (is_whole k).0 = λ k.
    at_map (λ a. rounded a x.den) (rounded_zero x.den) x.nums k ∙ ap (λ a. rounded a x.den) (is_whole k).1 ∙ rounded_whole (is_whole k).0 x.den v.positive in
    record {
      above = λ k. rw (is k, (is_whole k).1) (omega arith);
      below = λ k. rw (is k, (is_whole k).1) (omega arith);
    }

-- a multiple of 65,536
abbrev Multiple : ℕ → Type 0
Multiple n = (m : ℕ) × (n ≡ grains * m)

whole_parts : (z : ℤ) → nat_abs z % grains ≡ 0 → Multiple (adds z) × Multiple (takes z)
whole_parts (pos n) h = ((n / grains, omega arith), (0, omega arith))
whole_parts (negsuc n) h = ((0, omega arith), (suc n / grains, omega arith))

whole_at : (es : List ℤ) → all_whole es ≡ true → (i : ℕ) → nat_abs (get_or es i (pos 0)) % grains ≡ 0
whole_at [] h i = refl
whole_at (e ∷ es) h zero = eqb-true (nat_abs e % grains) 0 (and_parts (eqb (nat_abs e % grains) 0) (all_whole es) h).0
whole_at (e ∷ es) h (suc i) = whole_at es (and_parts (eqb (nat_abs e % grains) 0) (all_whole es) h).1 i

sum_multiple : (u v w a b c : ℕ) → Multiple u → Multiple v → Multiple w → Multiple (u * a + v * b + w * c)
sum_multiple u v w a b c (u', e) (v', f) (w', g) = (u' * a + v' * b + w' * c, rw (e, f, g) (omega arith))

held_multiple : (p n : ℕ) → Multiple p → Multiple n → (m : ℕ) × (min (max_count * (grains * 1)) (p - n) ≡ m * (grains * 1))
held_multiple p n (p', e) (n', f) = (min max_count (p' - n'), omega arith)

row_whole : (es : List ℤ) → all_whole es ≡ true → (c : List ℕ) (j : ℕ) → (m : ℕ) × (row_value es (whole c) j ≡ m * (grains * 1))
row_whole es h c j =
    let part = λ (i : ℕ). whole_parts (coefficient es j i) (whole_at es h (3 * j + i)) in
    held_multiple (weighted adds es j c) (weighted takes es j c)
    (sum_multiple (adds (coefficient es j 0)) (adds (coefficient es j 1)) (adds (coefficient es j 2)) (at c 0) (at c 1) (at c 2) (part 0).0 (part 1).0 (part 2).0)
    (sum_multiple (takes (coefficient es j 0)) (takes (coefficient es j 1)) (takes (coefficient es j 2)) (at c 0) (at c 1) (at c 2) (part 0).1 (part 1).1 (part 2).1)

matrix_close : (es : List ℤ) (c : List ℕ) → Colour c → Near (error_of_matrix es) grains (whole (nearest (matrix_exact es (whole c)))) (matrix_exact es (whole c))
matrix_close es c colour =
    let x = matrix_exact es (whole c) in
    let v = matrix_stays es (whole c) (valid_whole c colour) in
    ⊎_elim
    (λ (h : all_whole es ≡ true).
    rw (cond-true (all_whole es) 0 half_count h)
    (whole_close x v (each_channel 3 (row_value es (whole c)) (λ a. (m : ℕ) × (a ≡ m * (grains * 1))) (omega arith) (0, refl) (λ k l. row_whole es h c k))))
    (λ (h : all_whole es ≡ false).
    rw (cond-false (all_whole es) 0 half_count h) (nearest_close x v))
    (cases_Bool (all_whole es))

error_limit : (es : List ℤ) → error_of_matrix es ≤ full_range
error_limit es = cond_both (all_whole es) 0 half_count (λ e. e ≤ full_range) (λ h. omega arith) (λ h. omega arith)

pub matrix_lawful : MatricesKeepTheLaws
matrix_lawful es = rounding_lawful Three Three (matrix_exact es) (steepness_of_matrix es) (error_of_matrix es) (matrix_exact_laws es) (error_limit es) (matrix_close es)

-- ---- what the code computes

-- the answer, channel by channel
pub matrix_answer : (es : List ℤ) (c : List ℕ) → (matrix es).answer c ≡ rounded (row_value es (whole c) 0) grains ∷ rounded (row_value es (whole c) 1) grains ∷ rounded (row_value es (whole c) 2) grains ∷ 0 ∷ []
unfolding spread
matrix_answer es c = refl
