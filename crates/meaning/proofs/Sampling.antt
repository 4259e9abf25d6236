-- Sums over the numbers below a bound, and what the samples of a table come to. Assumes nothing.
use Rattle.std.proofs.Common.{◌≡◌, ℕ, zero, suc, ◌+◌, ◌-◌, ◌*◌, ◌/◌, ◌<◌, ◌≤◌, sym, refl, ap, ◌∙◌, ⊎_elim, add-zero, add-suc, suc-mul, mul_comm, div-lt_iff_lt-mul, mul-zero, le-div_iff_mul-le, zero-mul, div-mul-le_self, arith}
use native.Mathlib.Nat.{div-eq_of_lt, add-div_right, div-div-eq-div-mul, mul-add-div, div-eq_of_lt-le}
use Rattle.std.proofs.lemmas.Bool.{cases_lt}
use Rattle.meaning.specs.Distances.{gap}
use Rattle.meaning.specs.Sums.{sum_below, samples}

-- ---- sums

pub sum_zero : (f : ℕ → ℕ) → sum_below 0 f ≡ 0
unfolding sum_below
sum_zero f = refl

pub sum_more : (n : ℕ) (f : ℕ → ℕ) → sum_below (suc n) f ≡ sum_below n f + f n
unfolding sum_below
sum_more n f = refl

-- equal terms below the bound
pub sum_same : (n : ℕ) (f g : ℕ → ℕ) → ((s : ℕ) → s < n → f s ≡ g s) → sum_below n f ≡ sum_below n g
unfolding sum_below
sum_same zero f g h = refl
sum_same (suc n) f g h =
    let e = sum_same n f g (λ s l. h s (omega arith)) in
    let t = h n (omega arith) in
    omega arith

pub sum_le : (n : ℕ) (f g : ℕ → ℕ) → ((s : ℕ) → s < n → f s ≤ g s) → sum_below n f ≤ sum_below n g
unfolding sum_below
sum_le zero f g h = omega arith
sum_le (suc n) f g h =
    let e = sum_le n f g (λ s l. h s (omega arith)) in
    let t = h n (omega arith) in
    omega arith

pub sum_constant : (n m : ℕ) → sum_below n (λ _. m) ≡ n * m
unfolding sum_below
sum_constant zero m = omega arith
sum_constant (suc n) m = let e = sum_constant n m in omega arith

-- terms within m
pub sum_limit : (n : ℕ) (f : ℕ → ℕ) (m : ℕ) → ((s : ℕ) → f s ≤ m) → sum_below n f ≤ n * m
sum_limit n f m h = let e = sum_constant n m in let l = sum_le n f (λ _. m) (λ s _. h s) in omega arith

pub sum_add : (n : ℕ) (f g : ℕ → ℕ) → sum_below n (λ s. f s + g s) ≡ sum_below n f + sum_below n g
unfolding sum_below
sum_add zero f g = refl
sum_add (suc n) f g = let e = sum_add n f g in omega arith

pub sum_times : (n m : ℕ) (f : ℕ → ℕ) → sum_below n (λ s. m * f s) ≡ m * sum_below n f
unfolding sum_below
sum_times zero m f = omega arith
sum_times (suc n) m f = let e = sum_times n m f in omega arith

-- the first n terms and the m after them
pub sum_split : (n m : ℕ) (f : ℕ → ℕ) → sum_below (n + m) f ≡ sum_below n f + sum_below m (λ s. f (n + s))
unfolding sum_below
sum_split n zero f = rw (add-zero n) (omega arith)
sum_split n (suc m) f = rw add-suc (let e = sum_split n m f in omega arith)

-- terms that pass others by no more than h add up to sums that do so by no more than the sum of h
pub sum_apart : (n : ℕ) (f g h : ℕ → ℕ) → ((s : ℕ) → s < n → f s ≤ g s + h s) → sum_below n f ≤ sum_below n g + sum_below n h
sum_apart n f g h each = let e = sum_le n f (λ s. g s + h s) each in let add = sum_add n g h in omega arith

-- a sum of weighted sums, with the weights before the inner sums
pub sum_weighted : (n i : ℕ) (w : ℕ → ℕ) (f : ℕ → ℕ → ℕ) → sum_below n (λ s. sum_below i (λ k. w k * f s k)) ≡ sum_below i (λ k. w k * sum_below n (λ s. f s k))
unfolding sum_below
sum_weighted n zero w f = sum_constant n 0 ∙ mul-zero n
sum_weighted n (suc i) w f =
    let add = sum_add n (λ s. sum_below i (λ k. w k * f s k)) (λ s. w i * f s i) in
    let rest = sum_weighted n i w f in
    let last = sum_times n (w i) (λ s. f s i) in
    omega arith

-- one step on: the first term is left out, and one more comes at the end
pub sum_shift : (n : ℕ) (f : ℕ → ℕ) → sum_below n (λ s. f (suc s)) + f 0 ≡ sum_below n f + f n
unfolding sum_below
sum_shift zero f = refl
sum_shift (suc n) f = let e = sum_shift n f in omega arith

-- each term k times over
pub sum_blocks : (n k : ℕ) (f : ℕ → ℕ) → 0 < k → sum_below (n * k) (λ s. f (s / k)) ≡ k * sum_below n f
sum_blocks zero k f pos = rw zero-mul (let e = sum_zero (λ s. f (s / k)) in let z = sum_zero f in omega (arith, e, ap (λ m. k * m) z))
sum_blocks (suc n) k f pos =
    rw suc-mul
    (let rest = sum_blocks n k f pos in
    let split = sum_split (n * k) k (λ s. f (s / k)) in
    let block : sum_below k (λ s. f ((n * k + s) / k)) ≡ k * f n =
    sum_same k (λ s. f ((n * k + s) / k)) (λ _. f n) (λ s l. ap f (div-eq_of_lt-le k (omega arith) (omega arith))) ∙ sum_constant k (f n) in
    let more = sum_more n f in
    omega (arith, rest, split, block, ap (λ m. k * m) more))

-- k times as many terms, where each k in a row equal one term of h
pub sum_scale : (n k : ℕ) (f h : ℕ → ℕ) → 0 < k → ((s : ℕ) → f s ≡ h (s / k)) → sum_below (k * n) f ≡ k * sum_below n h
sum_scale n k f h pos same = ap (λ m. sum_below m f) (mul_comm k n) ∙ sum_same (n * k) f (λ s. h (s / k)) (λ s _. same s) ∙ sum_blocks n k h pos

-- ---- samples

-- the floors of (p + s)/D over the D samples add up to p
pub floors : (D p : ℕ) → 0 < D → sum_below D (λ s. (p + s) / D) ≡ p
floors D zero pos = sum_same D (λ s. (0 + s) / D) (λ _. 0) (λ s l. let z : 0 + s < D = omega arith in div-eq_of_lt z) ∙ sum_constant D 0 ∙ mul-zero D
floors D (suc p) pos =
    let before = floors D p pos in
    let shift = sum_shift D (λ s. (p + s) / D) in
    let same : sum_below D (λ s. (suc p + s) / D) ≡ sum_below D (λ s. (p + suc s) / D) = sum_same D (λ s. (suc p + s) / D) (λ s. (p + suc s) / D) (λ s _. ap (λ n. n / D) (omega arith)) in
    let last : (p + D) / D ≡ p / D + 1 = add-div_right p pos in
    let first : (p + 0) / D ≡ p / D = ap (λ n. n / D) (add-zero p) in
    omega arith

-- floors of positions up to m D stay within m
pub floor_inside : (D m p s : ℕ) → 0 < D → p ≤ m * D → s < D → (p + s) / D ≤ m
floor_inside D m p s pos hp hs = let l : (p + s) / D < suc m = (div-lt_iff_lt-mul pos).1 (omega arith) in omega arith

-- floors of positions over a denominator k times larger
pub floor_scale : (D p k s : ℕ) → 0 < k → (k * p + s) / (k * D) ≡ (p + s / k) / D
floor_scale D p k s pos = sym (div-div-eq-div-mul (k * p + s) k D) ∙ ap (λ n. n / D) (mul-add-div pos p s)

-- floor differences add up to the difference of the positions
floor_up : (D a b : ℕ) → 0 < D → a ≤ b → a / D ≤ b / D
floor_up D a b pos h = (le-div_iff_mul-le pos).1 (let e = div-mul-le_self a D in omega arith)

ordered_gap : (a b : ℕ) → a ≤ b → a + gap a b ≡ b
ordered_gap a b h = omega arith

gap_swap : (a b : ℕ) → gap a b ≡ gap b a
gap_swap a b = omega arith

floor_gaps_up : (D p q : ℕ) → 0 < D → p ≤ q → sum_below D (λ s. gap ((p + s) / D) ((q + s) / D)) ≡ gap p q
floor_gaps_up D p q pos h =
    let low = floors D p pos in
    let high = floors D q pos in
    let add = sum_add D (λ s. (p + s) / D) (λ s. gap ((p + s) / D) ((q + s) / D)) in
    let same = sum_same D (λ s. (p + s) / D + gap ((p + s) / D) ((q + s) / D)) (λ s. (q + s) / D) (λ s _. ordered_gap ((p + s) / D) ((q + s) / D) (floor_up D (p + s) (q + s) pos (omega arith))) in
    omega arith

pub floor_gaps : (D p q : ℕ) → 0 < D → sum_below D (λ s. gap ((p + s) / D) ((q + s) / D)) ≡ gap p q
floor_gaps D p q pos =
    ⊎_elim
    (λ (l : p < q). floor_gaps_up D p q pos (omega arith))
    (λ (l : q ≤ p).
    sum_same D (λ s. gap ((p + s) / D) ((q + s) / D)) (λ s. gap ((q + s) / D) ((p + s) / D)) (λ s _. gap_swap ((p + s) / D) ((q + s) / D)) ∙ floor_gaps_up D q p pos l ∙ gap_swap q p)
    (cases_lt p q)

-- the samples at q D + r in closed form: D − r of them are at q, and r at q + 1
pub samples_closed : (t : ℕ → ℕ) (D q r : ℕ) → 0 < D → r ≤ D → samples t D (q * D + r) ≡ (D - r) * t q + r * t (q + 1)
unfolding samples
samples_closed t D q r pos h =
    let f : ℕ → ℕ = λ s. t ((q * D + r + s) / D) in
    let split : sum_below (D - r + r) f ≡ sum_below (D - r) f + sum_below r (λ s. f (D - r + s)) = sum_split (D - r) r f in
    let all : sum_below D f ≡ sum_below (D - r + r) f = let e : D ≡ D - r + r = omega arith in ap (λ n. sum_below n f) e in
    let low : sum_below (D - r) f ≡ (D - r) * t q =
    sum_same (D - r) f (λ _. t q) (λ s l. ap t (div-eq_of_lt-le D (omega arith) (omega arith))) ∙ sum_constant (D - r) (t q) in
    let high : sum_below r (λ s. f (D - r + s)) ≡ r * t (q + 1) =
    sum_same r (λ s. f (D - r + s)) (λ _. t (q + 1)) (λ s l. ap t (div-eq_of_lt-le D (omega arith) (omega arith))) ∙ sum_constant r (t (q + 1)) in
    all ∙ split ∙ ap (λ n. n + sum_below r (λ s. f (D - r + s))) low ∙ ap (λ n. (D - r) * t q + n) high

-- samples of counts stay within the largest count
pub samples_limit : (t : ℕ → ℕ) (D p m : ℕ) → ((i : ℕ) → t i ≤ m) → samples t D p ≤ D * m
unfolding samples
samples_limit t D p m h = sum_limit D (λ s. t ((p + s) / D)) m (λ s. h ((p + s) / D))

-- k times the position over k times the denominator: each sample k times over
pub samples_scale : (t : ℕ → ℕ) (D p k : ℕ) → 0 < k → samples t (k * D) (k * p) ≡ k * samples t D p
unfolding samples
samples_scale t D p k pos = sum_scale D k (λ s. t ((k * p + s) / (k * D))) (λ s. t ((p + s) / D)) pos (λ s. ap t (floor_scale D p k s pos))
