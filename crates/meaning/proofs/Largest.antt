-- The largest of finitely many values. Assumes nothing.
use Rattle.std.proofs.Common.{◌≡◌, ℕ, zero, suc, ◌+◌, ◌*◌, ◌<◌, ◌≤◌, max, refl, ◌∙◌, ⊎_elim, add-zero, add-suc, suc-mul, zero-mul, arith}
use Rattle.std.proofs.lemmas.Bool.{cases_lt}
use Rattle.meaning.specs.Sums.{largest_below}

-- each value is at most the largest
pub below_largest : (n : ℕ) (f : ℕ → ℕ) (i : ℕ) → i < n → f i ≤ largest_below n f
unfolding largest_below
below_largest zero f i h = absurd (omega arith)
below_largest (suc n) f i h =
    ⊎_elim
    (λ (l : i < n). let b = below_largest n f i l in omega arith)
    (λ (l : n ≤ i). let e : i ≡ n = omega arith in rw e (omega arith))
    (cases_lt i n)

-- equal values below the bound
pub largest_same : (n : ℕ) (f g : ℕ → ℕ) → ((i : ℕ) → i < n → f i ≡ g i) → largest_below n f ≡ largest_below n g
unfolding largest_below
largest_same zero f g h = refl
largest_same (suc n) f g h =
    let e = largest_same n f g (λ i l. h i (omega arith)) in
    let t = h n (omega arith) in
    rw (e, t)

-- the first n values and the m after them
largest_split : (n m : ℕ) (f : ℕ → ℕ) → largest_below (n + m) f ≡ max (largest_below n f) (largest_below m (λ i. f (n + i)))
unfolding largest_below
largest_split n zero f = rw (add-zero n) (omega arith)
largest_split n (suc m) f = rw add-suc (let e = largest_split n m f in omega arith)

-- n blocks of k values each
pub largest_blocks : (n k : ℕ) (f : ℕ → ℕ) → largest_below (n * k) f ≡ largest_below n (λ x. largest_below k (λ b. f (x * k + b)))
unfolding largest_below
largest_blocks zero k f = rw (zero-mul k) refl
largest_blocks (suc n) k f = rw (suc-mul n k) (let e = largest_blocks n k f in largest_split (n * k) k f ∙ rw e refl)

-- values within m
pub largest_limit : (n : ℕ) (f : ℕ → ℕ) (m : ℕ) → ((i : ℕ) → f i ≤ m) → largest_below n f ≤ m
unfolding largest_below
largest_limit zero f m h = omega arith
largest_limit (suc n) f m h = let e = largest_limit n f m h in let l = h n in omega arith
