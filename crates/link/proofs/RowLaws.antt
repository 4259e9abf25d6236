-- A made pixel is within the stage's error and its own kind's of the exact value, and so a row delivers what it promises. Assumes nothing.
use Rattle.std.proofs.Common.{◌≡◌, ℕ, ◌+◌, ◌*◌, ◌<◌, ◌≤◌, min, List, map, slice_get, Some, None, Option, Result, ⊎_elim, sym, ap, ◌∙◌, rules, arith}
use Rattle.std.specs.Option.{option_map}
use Rattle.std.proofs.lemmas.Option.{slice_get-map}
use Rattle.std.proofs.lemmas.List.{length-map}
use Rattle.std.proofs.lemmas.Bool.{cases_lt}
use Rattle.meaning.specs.Colours.{grains, full_range, number, at, num, Colour, Exact, Valid, whole}
use Rattle.meaning.specs.Distances.{gap, Over, Near}
use Rattle.meaning.specs.Stages.{Meaning, Lawful}
use Rattle.meaning.proofs.Nearness.{over_more, over_add, near_range, valid_whole}
use Rattle.link.specs.declared.refusal.Refusal.{Refusal}
use Rattle.link.specs.Refusals.{answered, left, Accepted}
use Rattle.meaning.specs.Kinds.{Kind, LawfulKind}
use Rattle.link.specs.Rows.{row_bound, row_pixels, Within, Delivers}

-- a bound in grains, both ways, is one on the distance
within_both : (bound count k : ℕ) (x : Exact) → Over bound grains count 1 (num x k) x.den → Over bound grains (num x k) x.den count 1 → Within bound count x k
within_both bound count k x above below = omega (arith, above, below)

-- and the other way round
both_within : (bound count k : ℕ) (x : Exact) → Within bound count x k → Over bound grains count 1 (num x k) x.den × Over bound grains (num x k) x.den count 1
both_within bound count k x h = (omega (arith, h), omega (arith, h))

-- counts that differ by a gap of at most e grains
gap_within : (e a b : ℕ) → gap a b * grains ≤ e → Over e grains a 1 b 1 × Over e grains b 1 a 1
gap_within e a b h = (omega arith, omega arith)

-- a count within e grains of one that is within n grains of x is within both of x
within_add : (n e s a k : ℕ) (x : Exact) → 0 < x.den → gap s a * grains ≤ e → Within n a x k → Within (n + e) s x k
within_add n e s a k x pos h w =
    let g = gap_within e s a h in
    let near = both_within n a k x w in
    within_both (n + e) s k x
    (over_more (e * grains + n * grains) (grains * grains) (n + e) grains s 1 (num x k) x.den (omega arith) (omega arith)
    (over_add e grains n grains s 1 a 1 (num x k) x.den (omega arith) g.0 near.0))
    (over_more (n * grains + e * grains) (grains * grains) (n + e) grains (num x k) x.den s 1 (omega arith) (omega arith)
    (over_add n grains e grains (num x k) x.den a 1 s 1 (omega arith) near.1 g.1))

-- a pixel made from a colour within n grains of x shows counts within n and the kind's error of x, held to the full range
pub made_within : {Q : Type 0} (kq : Kind Q) → LawfulKind kq → (n : ℕ) (a : List ℕ) (x : Exact) → Colour a → Valid x → Near n grains (whole a) x → (k : ℕ) → k < number kq.channels → Within (min full_range (n + kq.error)) (at (kq.shown (kq.made a)) k) x k
made_within kq laws n a x colour valid near k h =
    let s = kq.shown (kq.made a) in
    ⊎_elim
    (λ (l : full_range < n + kq.error).
    let far = near_range (whole s) x (valid_whole s (laws.shows (kq.made a))) valid in
    let is : min full_range (n + kq.error) ≡ full_range = omega arith in
    rw is (within_both full_range (at s k) k x (far.above k) (far.below k)))
    (λ (l : n + kq.error ≤ full_range).
    let is : min full_range (n + kq.error) ≡ n + kq.error = omega arith in
    rw is (within_add n kq.error (at s k) (at a k) k x valid.positive (laws.close a colour k h) (within_both n (at a k) k x (near.above k) (near.below k))))
    (cases_lt full_range (n + kq.error))

same_some : {A : Type 0} {a b : A} → Some a ≡ Some b → a ≡ b
same_some h = search rules

-- the pixel that leaves in a place is made from the one that enters there
pub leaving_pixel : {P Q : Type 0} (f : P → Q) (entering : List P) (place : ℕ) (p : P) (q : Q) → slice_get entering place ≡ Some p → slice_get (map f entering) place ≡ Some q → q ≡ f p
leaving_pixel f entering place p q enters leaves =
    same_some (sym leaves ∙ slice_get-map f entering place ∙ ap (option_map f) enters)

module _ {P Q : Type 0} (m : Meaning) (kp : Kind P) (kq : Kind Q) (laws : Lawful m) (lp : LawfulKind kp) (lq : LawfulKind kq) where
  -- pixels made from colours within n grains of the exact values, of what pixels show, keep the bound of n and the kind's error
  pub near_deliver : (f : List ℕ → List ℕ) (n : ℕ) → ((p : P) → Colour (f (kp.shown p))) → ((p : P) → Near n grains (whole (f (kp.shown p))) (m.exact (whole (kp.shown p)))) → (entering : List P) →
      Delivers m kp kq entering (map (λ p. kq.made (f (kp.shown p))) entering) (min full_range (n + kq.error))
  near_deliver f n colours near entering = record {
    as_long = length-map entering (λ p. kq.made (f (kp.shown p)));
    within = λ place p q enters leaves k l.
        let c = kp.shown p in
        rw (leaving_pixel (λ p. kq.made (f (kp.shown p))) entering place p q enters leaves)
        (made_within kq lq n (f c) (m.exact (whole c)) (colours p) (laws.stays (whole c) (valid_whole c (lp.shows p))) (near p) k l);
  }

  -- the same of colours within n grains of the exact values whatever the colour is
  pub made_deliver : (f : List ℕ → List ℕ) (n : ℕ) → ((c : List ℕ) → Colour c → Colour (f c)) → ((c : List ℕ) → Colour c → Near n grains (whole (f c)) (m.exact (whole c))) → (entering : List P) →
      Delivers m kp kq entering (map (λ p. kq.made (f (kp.shown p))) entering) (min full_range (n + kq.error))
  made_deliver f n colours near = near_deliver f n (λ p. colours (kp.shown p) (lp.shows p)) (λ p. near (kp.shown p) (lp.shows p))

module _ {P Q : Type 0} (m : Meaning) (kp : Kind P) (kq : Kind Q) (laws : Lawful m) (lp : LawfulKind kp) (lq : LawfulKind kq) (entering : List P) where
  -- the pixels of a row keep its bound
  pub row_delivers : Delivers m kp kq entering (row_pixels m kp kq entering) (row_bound m kq.error)
  row_delivers = made_deliver m kp kq laws lp lq m.answer m.error laws.answers laws.close entering

  -- a call that answers with the row's bound and leaves the row's pixels, unless it is refused, keeps the law
  pub row_accepted : (was now : List Q) (o : Option Refusal) (r : Result ℕ Refusal) → r ≡ answered o (row_bound m kq.error) → now ≡ left o was (row_pixels m kp kq entering) → Accepted r (Delivers m kp kq entering now)
  row_accepted was now None r answer leaves = rw (answer, leaves) row_delivers
  row_accepted was now (Some e) r answer leaves = rw answer tt
