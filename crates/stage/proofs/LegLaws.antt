-- Legs reach the nodes that the samples name, and sorting them changes no reach. Assumes nothing.
use Rattle.std.proofs.Common.{◌≡◌, ℕ, ◌+◌, ◌-◌, ◌*◌, ◌/◌, ◌%◌, ◌≤◌, ltb, map, sym, refl, ap, ◌∙◌, add-zero, add_comm, mul-zero, zero-add, mul-one, arith}
use Rattle.std.proofs.lemmas.Bool.{cond_both}
use Rattle.meaning.specs.Sums.{sum_below, samples}
use Rattle.meaning.proofs.Sampling.{sum_same, samples_closed}
use Rattle.meaning.proofs.Tetrahedra.{tetrahedron}
use Rattle.stage.specs.declared.legs.Leg.{Leg}
use Rattle.stage.specs.Legs.{start_of, leg, reach, reach_all, ordered, Three, sorted, Falling, corners_from, weighed}

-- ---- one leg

-- a leg reaches the node that sample s names in its channel
pub leg_reach : (count m stride s : ℕ) → reach (leg count m stride) s ≡ stride * ((count * m + s) / 65535)
leg_reach count m stride s =
    let p = count * m in
    let split : (p + s) / 65535 ≡ p / 65535 + (p % 65535 + s) / 65535 = omega arith in
    rw split (omega arith)

-- ---- two legs, and three

-- in either order they reach the same places
ordered_reach : (a b : Leg) (s : ℕ) → reach (ordered a b).0 s + reach (ordered a b).1 s ≡ reach a s + reach b s
ordered_reach a b s =
    cond_both {A = Leg × Leg} (ltb a.rest b.rest) (b, a) (a, b) (λ t. reach t.0 s + reach t.1 s ≡ reach a s + reach b s)
    (λ _. add_comm (reach b s) (reach a s)) (λ _. refl)

pub sorted_reach : (a b c : Leg) (s : ℕ) → reach_all (sorted a b c) s ≡ reach a s + reach b s + reach c s
sorted_reach a b c s =
    let one = ordered_reach a b s in
    let two = ordered_reach (ordered a b).1 c s in
    let three = ordered_reach (ordered a b).0 (ordered (ordered a b).1 c).0 s in
    omega (arith, one, two, three)

-- ---- their samples

-- the four corners of the tetrahedron, weighed, are what the samples sum up to
pub corners_sum : (f : ℕ → ℕ) (t : Three) (place : ℕ) → Falling t → weighed t (map f (corners_from t place)) ≡ sum_below 65535 (λ s. f (place + reach_all t s))
corners_sum f t place h =
    let base = place + start_of t.most + start_of t.middle + start_of t.least in
    sym (sum_same 65535 (λ s. f (place + reach_all t s)) _ (λ s _. ap f (omega arith))
    ∙ tetrahedron f 65535 base t.most.stride t.middle.stride t.least.stride t.most.rest t.middle.rest t.least.rest h.first h.second h.third)

-- one leg more: what is read from its near end and from its far end
pub leg_sum : (f : ℕ → ℕ) (l : Leg) (place : ℕ) → l.rest ≤ 65535
    → (65535 - l.rest) * f (place + start_of l) + l.rest * f (place + start_of l + l.stride) ≡ sum_below 65535 (λ u. f (place + reach l u))
unfolding samples
leg_sum f l place h =
    let t : ℕ → ℕ = λ x. f (place + start_of l + l.stride * x) in
    sym (sum_same 65535 (λ u. f (place + reach l u)) (λ u. t ((0 * 65535 + l.rest + u) / 65535)) (λ u _. ap f (rw (zero-add l.rest) (omega arith)))
    ∙ samples_closed t 65535 0 l.rest (omega arith) h
    ∙ rw (mul-zero l.stride, mul-one l.stride, add-zero (place + start_of l)) refl)
