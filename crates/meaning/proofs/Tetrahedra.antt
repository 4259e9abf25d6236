-- Tetrahedra: what the nodes sum up to when three indices rise in turn while the samples run. Assumes nothing.
use Rattle.std.proofs.Common.{◌≡◌, ℕ, ◌+◌, ◌-◌, ◌*◌, ◌/◌, ◌<◌, ◌≤◌, ap, ◌∙◌, arith}
use native.Mathlib.Nat.{div-eq_of_lt, div-eq_of_lt-le}
use Rattle.meaning.specs.Sums.{sum_below}
use Rattle.meaning.proofs.Sampling.{sum_same, sum_split, sum_constant}

-- an index with the rest r has not risen before the last r samples, and has risen in them
not_yet : (D r s : ℕ) → r + s < D → (r + s) / D ≡ 0
not_yet D r s h = div-eq_of_lt h

risen : (D r s : ℕ) → r ≤ D → s < D → D ≤ r + s → (r + s) / D ≡ 1
risen D r s l i h = div-eq_of_lt-le D (omega arith) (omega arith)

-- n equal samples from the k-th on
stretch : (h : ℕ → ℕ) (k n v : ℕ) → ((s : ℕ) → k ≤ s → s < k + n → h s ≡ v) → sum_below n (λ s. h (k + s)) ≡ n * v
stretch h k n v same = sum_same n (λ s. h (k + s)) (λ _. v) (λ s l. same (k + s) (omega arith) (omega arith)) ∙ sum_constant n v

-- the samples fall into four stretches
four_stretches : (h : ℕ → ℕ) (n₀ n₁ n₂ n₃ v₀ v₁ v₂ v₃ : ℕ)
    → ((s : ℕ) → s < n₀ → h s ≡ v₀)
    → ((s : ℕ) → n₀ ≤ s → s < n₀ + n₁ → h s ≡ v₁)
    → ((s : ℕ) → n₀ + n₁ ≤ s → s < n₀ + n₁ + n₂ → h s ≡ v₂)
    → ((s : ℕ) → n₀ + n₁ + n₂ ≤ s → s < n₀ + n₁ + n₂ + n₃ → h s ≡ v₃)
    → sum_below (n₀ + n₁ + n₂ + n₃) h ≡ n₀ * v₀ + n₁ * v₁ + n₂ * v₂ + n₃ * v₃
four_stretches h n₀ n₁ n₂ n₃ v₀ v₁ v₂ v₃ e₀ e₁ e₂ e₃ =
    let a = sum_same n₀ h (λ _. v₀) e₀ ∙ sum_constant n₀ v₀ in
    let b = stretch h n₀ n₁ v₁ e₁ in
    let c = stretch h (n₀ + n₁) n₂ v₂ e₂ in
    let d = stretch h (n₀ + n₁ + n₂) n₃ v₃ e₃ in
    let one = sum_split (n₀ + n₁ + n₂) n₃ h in
    let two = sum_split (n₀ + n₁) n₂ h in
    let three = sum_split n₀ n₁ h in
    omega (arith, a, b, c, d, one, two, three)

-- three steps a, b, c of a place, taken in the last r, s and t samples, with the most taken first: from corner to
-- corner of one tetrahedron
pub tetrahedron : (f : ℕ → ℕ) (D base a b c r s t : ℕ) → r ≤ D → s ≤ r → t ≤ s
    → sum_below D (λ i. f (base + (a * ((r + i) / D) + b * ((s + i) / D) + c * ((t + i) / D))))
    ≡ (D - r) * f base + (r - s) * f (base + a) + (s - t) * f (base + a + b) + t * f (base + a + b + c)
tetrahedron f D base a b c r s t hr hs ht =
    let h : ℕ → ℕ = λ i. f (base + (a * ((r + i) / D) + b * ((s + i) / D) + c * ((t + i) / D))) in
    let all : D ≡ D - r + (r - s) + (s - t) + t = omega arith in
    ap (λ n. sum_below n h) all
    ∙ four_stretches h (D - r) (r - s) (s - t) t (f base) (f (base + a)) (f (base + a + b)) (f (base + a + b + c))
    (λ i l. ap f (rw (not_yet D r i (omega arith), not_yet D s i (omega arith), not_yet D t i (omega arith)) (omega arith)))
    (λ i l u. ap f (rw (risen D r i (omega arith) (omega arith) (omega arith), not_yet D s i (omega arith), not_yet D t i (omega arith)) (omega arith)))
    (λ i l u. ap f (rw (risen D r i (omega arith) (omega arith) (omega arith), risen D s i (omega arith) (omega arith) (omega arith), not_yet D t i (omega arith)) (omega arith)))
    (λ i l u. ap f (rw (risen D r i (omega arith) (omega arith) (omega arith), risen D s i (omega arith) (omega arith) (omega arith), risen D t i (omega arith) (omega arith) (omega arith)) (omega arith)))
