-- Joining keeps the laws, and equal colours have equal results. Assumes nothing.
use Rattle.std.proofs.Common.{◌≡◌, ℕ, ◌+◌, ◌*◌, ◌<◌, ◌≤◌, min, true, false, ◌||◌, eqb, List, length, sym, ap, ◌∙◌, subst, ⊎_elim, mul-le-mul_right, mul_comm, arith}
use native.Mathlib.Nat.{eq_of_mul-eq-mul_right}
use Rattle.std.proofs.lemmas.List.{length-map, ext_get_or}
use Rattle.std.proofs.lemmas.Bool.{eqb-false, cond_both, or_parts, cases_Bool, cases_lt, cond-true, cond-false}
use Rattle.meaning.specs.Colours.{grains, full_range, num, Colour, Exact, Valid, whole, scale, ceiling}
use Rattle.meaning.specs.Distances.{Near, Same}
use Rattle.meaning.specs.Stages.{unclaimed, Meaning, Lawful, steepness_of_joined, error_of_joined, JoiningKeepsTheLaws, EqualInEqualOut}
use Rattle.meaning.proofs.Rounding.{ceiling_covers}
use Rattle.meaning.proofs.Nearness.{near_more, near_add, near_range, valid_whole, valid_scale, num_scale, same_sym}

-- scaled by each other's denominators, equal colours are one and the same
one_colour : (x y : Exact) → Valid x → Valid y → Same x y → scale y.den x ≡ scale x.den y
one_colour x y vx vy h =
    let long : length (scale y.den x).nums ≡ length (scale x.den y).nums = length-map x.nums _ ∙ vx.long ∙ sym (length-map y.nums _ ∙ vy.long) in
    let lists : (scale y.den x).nums ≡ (scale x.den y).nums =
    ext_get_or 0 (scale y.den x).nums (scale x.den y).nums long (λ k _. num_scale y.den x k ∙ mul_comm y.den (num x k) ∙ h k ∙ mul_comm (num y k) x.den ∙ sym (num_scale x.den y k)) in
    let dens : y.den * x.den ≡ x.den * y.den = mul_comm y.den x.den in
    λ i. record { nums = lists i; den = dens i }

same_over : (a b c d e f : ℕ) → 0 < d → a * d ≡ c * b → c * f ≡ e * d → a * f ≡ e * b
same_over a b c d e f pos h i = eq_of_mul-eq-mul_right d pos (a * f) (e * b) (omega (arith, ap (λ n. n * f) h, ap (λ n. n * b) i))

same_trans : (x y z : Exact) → 0 < y.den → Same x y → Same y z → Same x z
same_trans x y z pos h i k = same_over (num x k) x.den (num y k) y.den (num z k) z.den pos (h k) (i k)

pub equal_out : EqualInEqualOut
equal_out m l x y vx vy h =
    let x' = scale y.den x in
    let y' = scale x.den y in
    let back : Same (m.exact x) (m.exact x') = same_sym (m.exact x') (m.exact x) (l.scales y.den vy.positive x vx) in
    let on : Same (m.exact x') (m.exact y) = rw (one_colour x y vx vy h) (l.scales x.den vx.positive y vy) in
    same_trans (m.exact x) (m.exact x') (m.exact y) (l.stays x' (valid_scale y.den x vy.positive vx)).positive back on

-- what is near by one figure and by the full range is near by the smaller of both
pub near_least : (n : ℕ) (x y : Exact) → Near full_range grains x y → Near n grains x y → Near (min full_range n) grains x y
near_least n x y any h =
    let P : ℕ → Type 0 = λ m. Near m grains x y in
    ⊎_elim
    (λ (l : full_range < n). let e : full_range ≡ min full_range n = omega arith in subst P e any)
    (λ (l : n ≤ full_range). let e : n ≡ min full_range n = omega arith in subst P e h)
    (cases_lt full_range n)

-- a claimed joint steepness means that both are claimed, and covers their product
joint_claimed : (l m : ℕ) → steepness_of_joined l m < unclaimed → (l ≡ unclaimed → ⊥) × (m ≡ unclaimed → ⊥) × (l * m ≤ steepness_of_joined l m * grains)
joint_claimed l m h =
    ⊎_elim
    (λ (t : (eqb l unclaimed || eqb m unclaimed) ≡ true).
    absurd (let e = cond-true (eqb l unclaimed || eqb m unclaimed) unclaimed (min unclaimed (ceiling (l * m) grains)) t in omega (arith, e)))
    (λ (f : (eqb l unclaimed || eqb m unclaimed) ≡ false).
    let e = cond-false (eqb l unclaimed || eqb m unclaimed) unclaimed (min unclaimed (ceiling (l * m) grains)) f in
    let parts = or_parts (eqb l unclaimed) (eqb m unclaimed) f in
    let covers = ceiling_covers (l * m) grains (omega arith) in
    let is : steepness_of_joined l m ≡ ceiling (l * m) grains = omega (arith, e) in
    (eqb-false l unclaimed parts.0, eqb-false m unclaimed parts.1, omega (arith, is, covers)))
    (cases_Bool (eqb l unclaimed || eqb m unclaimed))

joint_limit : (l m : ℕ) → steepness_of_joined l m ≤ unclaimed
joint_limit l m = cond_both (eqb l unclaimed || eqb m unclaimed) unclaimed (min unclaimed (ceiling (l * m) grains)) (λ n. n ≤ unclaimed) (λ _. omega arith) (λ _. omega arith)

error_limit : (m d e : ℕ) → error_of_joined m d e ≤ full_range
error_limit m d e = cond_both (eqb m unclaimed) full_range (min full_range (ceiling (m * d) grains + e)) (λ n. n ≤ full_range) (λ _. omega arith) (λ _. omega arith)

module _ (a b : Meaning) (la : Lawful a) (lb : Lawful b) where
  joined_steep : steepness_of_joined a.steepness b.steepness < unclaimed → (p q : ℕ) → 0 < q → (x y : Exact) → Valid x → Valid y → Near p q x y → Near (steepness_of_joined a.steepness b.steepness * p) (grains * q) (b.exact (a.exact x)) (b.exact (a.exact y))
  joined_steep claimed p q pos x y vx vy h =
      let s = steepness_of_joined a.steepness b.steepness in
      let c = joint_claimed a.steepness b.steepness claimed in
      let al : a.steepness < unclaimed = let l = la.steepness_limit in let n = c.0 in omega arith in
      let bl : b.steepness < unclaimed = let l = lb.steepness_limit in let n = c.1 in omega arith in
      let first = la.steep al p q pos x y vx vy h in
      let second = lb.steep bl (a.steepness * p) (grains * q) (omega arith) (a.exact x) (a.exact y) (la.stays x vx) (la.stays y vy) first in
      near_more (b.steepness * (a.steepness * p)) (grains * (grains * q)) (s * p) (grains * q) (b.exact (a.exact x)) (b.exact (a.exact y)) (omega arith)
      (omega (arith, mul-le-mul_right (p * (grains * q)) c.2))
      second

  -- the first's error carried on by the second, and the second's own
  joined_close : (c : List ℕ) → Colour c → Near (error_of_joined b.steepness a.error b.error) grains (whole (b.answer (a.answer c))) (b.exact (a.exact (whole c)))
  joined_close c h =
      let vx = la.stays (whole c) (valid_whole c h) in
      let mid = la.answers c h in
      let vm = valid_whole (a.answer c) mid in
      let out = valid_whole (b.answer (a.answer c)) (lb.answers (a.answer c) mid) in
      let any = near_range (whole (b.answer (a.answer c))) (b.exact (a.exact (whole c))) out (lb.stays (a.exact (whole c)) vx) in
      let P : ℕ → Type 0 = λ n. Near n grains (whole (b.answer (a.answer c))) (b.exact (a.exact (whole c))) in
      cond_both (eqb b.steepness unclaimed) full_range (min full_range (ceiling (b.steepness * a.error) grains + b.error)) P
      (λ _. any)
      (λ f.
      let ne = eqb-false b.steepness unclaimed f in
      let bl : b.steepness < unclaimed = let l = lb.steepness_limit in omega arith in
      let carried = lb.steep bl a.error grains (omega arith) (whole (a.answer c)) (a.exact (whole c)) vm vx (la.close c h) in
      let own = lb.close (a.answer c) mid in
      let both =
      near_add b.error grains (b.steepness * a.error) (grains * grains) (whole (b.answer (a.answer c))) (b.exact (whole (a.answer c))) (b.exact (a.exact (whole c)))
      (lb.stays (whole (a.answer c)) vm).positive
      own
      carried in
      let covers = ceiling_covers (b.steepness * a.error) grains (omega arith) in
      let sum : Near (ceiling (b.steepness * a.error) grains + b.error) grains (whole (b.answer (a.answer c))) (b.exact (a.exact (whole c))) =
      near_more (b.error * (grains * grains) + b.steepness * a.error * grains) (grains * (grains * grains)) (ceiling (b.steepness * a.error) grains + b.error) grains (whole (b.answer (a.answer c))) (b.exact (a.exact (whole c))) (omega arith) (omega (arith, covers)) both in
      near_least (ceiling (b.steepness * a.error) grains + b.error) (whole (b.answer (a.answer c))) (b.exact (a.exact (whole c))) any sum)

  joined_scales : (n : ℕ) → 0 < n → (x : Exact) → Valid x → Same (b.exact (a.exact (scale n x))) (b.exact (a.exact x))
  joined_scales n pos x v = equal_out b lb (a.exact (scale n x)) (a.exact x) (la.stays (scale n x) (valid_scale n x pos v)) (la.stays x v) (la.scales n pos x v)

pub joining_lawful : JoiningKeepsTheLaws
joining_lawful a b la lb = record {
  steepness_limit = joint_limit a.steepness b.steepness;
  error_limit = error_limit b.steepness a.error b.error;
  stays = λ x v. lb.stays (a.exact x) (la.stays x v);
  zero_beyond = λ x v. lb.zero_beyond (a.exact x) (la.stays x v);
  scales = joined_scales a b la lb;
  steep = joined_steep a b la lb;
  answers = λ c h. lb.answers (a.answer c) (la.answers c h);
  answer_zero_beyond = λ c h. lb.answer_zero_beyond (a.answer c) (la.answers c h);
  close = joined_close a b la lb;
}
