-- Arrays that a closure fills, place by place. Assumes nothing.
use Rattle.std.proofs.Common.{◌≡◌, ℕ, zero, suc, ◌+◌, ◌<◌, ◌≤◌, List, map, length, get_or, cond, ltb, sym, ap, ◌∙◌, ⊎_elim, subst, arith}
use Rattle.std.specs.Array.{IsFromFnResult, IsFromFnResultFrom, IsMapOf, MapsFrom}
use Rattle.std.specs.Fn.{Called}
use Rattle.std.specs.List.{range_with_len}
use Rattle.std.proofs.lemmas.Bool.{lt-ltb, le-ltb, cond-true, cond-false, cases_lt}
use Rattle.std.proofs.lemmas.List.{ext_get_or, get_or-map, length-map}
use Rattle.std.proofs.lemmas.List.FromFn.{fill_by_all}
use denote.Param.Members.{Mut}
use Rattle.meaning.specs.Colours.{channels, spread}

-- ---- `array::from_fn`, by a closure that computes h and does not change

module _ {F : Type 0} (g : Mut F (ℕ × Unit {0}) ℕ) (f : F) (ys : List ℕ) (h : ℕ → ℕ) (computes : (k r : ℕ) (q : F) → Called g f (k, tt) r q → (q ≡ f) × (r ≡ h k)) where
  each_place : (n i : ℕ) → IsFromFnResultFrom g f ys i n → (k : ℕ) → i ≤ k → k < i + n → get_or ys k 0 ≡ h k
  each_place zero i from k l u = absurd (omega arith)
  each_place (suc n) i (q, y, is, called, rest) k l u =
      let it = computes i y q called in
      ⊎_elim
      (λ (past : i < k). each_place n (i + 1) (subst (λ s. IsFromFnResultFrom g s ys (i + 1) n) it.0 rest) k (omega arith) (omega arith))
      (λ (here : k ≤ i). let e : k ≡ i = omega arith in rw e (is.1 0 ∙ it.1))
      (cases_lt i k)

  pub filled : (n : ℕ) → IsFromFnResult g f ys n → ys ≡ map h (range_with_len 0 n)
  filled n made = fill_by_all h ys n 0 made.long (λ k l. each_place n 0 made.each k (omega arith) (omega arith))

-- the same where the closure gives the first n channels, and 0 in the others
pub spread_filled : {F : Type 0} (g : Mut F (ℕ × Unit {0}) ℕ) (c : F) (ys : List ℕ) (round f : ℕ → ℕ) (n : ℕ) → round 0 ≡ 0 → ((k r : ℕ) (q : F) → Called g c (k, tt) r q → (q ≡ c) × (r ≡ cond (ltb k n) (round (f k)) 0)) → IsFromFnResult g c ys channels → ys ≡ map round (spread n f)
unfolding spread
spread_filled g c ys round f n kept computes made =
    filled g c ys (λ k. round (cond (ltb k n) (f k) 0)) (λ k r q called. let it = computes k r q called in (it.0, it.1 ∙ sym (chosen k))) channels made
  where
    chosen : (k : ℕ) → round (cond (ltb k n) (f k) 0) ≡ cond (ltb k n) (round (f k)) 0
    chosen k =
        ⊎_elim
        (λ (h : k < n). let e = lt-ltb k n h in ap round (cond-true (ltb k n) (f k) 0 e) ∙ sym (cond-true (ltb k n) (round (f k)) 0 e))
        (λ (h : n ≤ k). let e = le-ltb k n h in ap round (cond-false (ltb k n) (f k) 0 e) ∙ kept ∙ sym (cond-false (ltb k n) (round (f k)) 0 e))
        (cases_lt k n)

-- ---- an array's `map`, by a closure that computes h and does not change

module _ {F : Type 0} (g : Mut F (ℕ × Unit {0}) ℕ) (f : F) (xs ys : List ℕ) (h : ℕ → ℕ) (computes : (x r : ℕ) (q : F) → Called g f (x, tt) r q → (q ≡ f) × (r ≡ h x)) where
  each_item : (n i : ℕ) → MapsFrom g f xs ys i n → (k : ℕ) → i ≤ k → k < i + n → get_or ys k 0 ≡ h (get_or xs k 0)
  each_item zero i from k l u = absurd (omega arith)
  each_item (suc n) i (q, x, y, was, is, called, rest) k l u =
      let it = computes x y q called in
      ⊎_elim
      (λ (past : i < k). each_item n (i + 1) (subst (λ s. MapsFrom g s xs ys (i + 1) n) it.0 rest) k (omega arith) (omega arith))
      (λ (here : k ≤ i). let e : k ≡ i = omega arith in rw e (is.1 0 ∙ it.1 ∙ ap h (sym (was.1 0))))
      (cases_lt i k)

  pub mapped : (n : ℕ) → length xs ≡ n → IsMapOf g f xs ys n → ys ≡ map h xs
  mapped n long made =
      ext_get_or 0 ys (map h xs) (made.long ∙ sym (length-map xs h ∙ long))
      (λ k l. each_item n 0 made.each k (omega arith) (let m = made.long in omega arith) ∙ sym (get_or-map h xs k 0 0 (let m = made.long in omega arith)))
