-- Sums and maxima over the numbers below a bound, as iterators over a range give them. Assumes nothing.
use Rattle.std.proofs.Common.{◌≡◌, ℕ, zero, suc, ◌+◌, ◌*◌, ◌<◌, ◌≤◌, max, List, map, Option, [], ◌∷◌, sum, sym, refl, ap, ◌∙◌, add-one, arith}
use Rattle.std.specs.Fn.{Called}
use Rattle.std.specs.Iterator.{PicksByCmp, Drains}
use Rattle.std.specs.Iterator.Adapters.{map_source, map_callee}
use Rattle.std.specs.Iterator.Runs.{EachRunFrom}
use Rattle.std.specs.List.{fold, reduce, range_with_len}
use Rattle.std.specs.Option.{unwrap_or}
use Rattle.std.specs.Ordering.{max_by_ordering, nat_cmp}
use Rattle.std.specs.Bool.{⊤}
use Rattle.std.specs.declared.iter.Map.{Map}
use Rattle.std.specs.declared.ops.Range.{Range}
use Rattle.std.proofs.iter.Yields.{nat_range_steps}
use Rattle.std.proofs.lemmas.Iterator.{YieldsList, YieldsList-from_map, YieldsList-from_range, maps}
use Rattle.std.proofs.lemmas.Iterator.Adapters.{option_map_id}
use Rattle.std.proofs.lemmas.Iterator.Consumers.{max_from_yields_List, sum_from_yields_List, fits_from_yields_list}
use Rattle.std.proofs.lemmas.List.FromFn.{map-range_with_len_more}
use Rattle.std.proofs.lemmas.List.Sums.{fold-append}
use denote.Param.Members.{Mut}
use Rattle.meaning.specs.Sums.{sum_below, largest_below}
use Rattle.meaning.proofs.Sampling.{sum_limit}

-- what grows by one step of f for each number is the fold of those steps
folded : (step : ℕ → ℕ → ℕ) (f r : ℕ → ℕ) → ((n : ℕ) → r (suc n) ≡ step (r n) (f n)) → (n : ℕ) → r n ≡ fold step (r 0) (map f (range_with_len 0 n))
folded step f r grows zero = refl
folded step f r grows (suc n) =
    grows n
    ∙ ap (λ a. step a (f n)) (folded step f r grows n)
    ∙ sym (ap (λ k. fold step (r 0) (map f (range_with_len 0 k))) (sym (add-one n)) ∙ ap (fold step (r 0)) (map-range_with_len_more f 0 n n (omega arith)) ∙ fold-append step (r 0) (map f (range_with_len 0 n)) (f n ∷ []))

pub sum_listed : (n : ℕ) (f : ℕ → ℕ) → sum_below n f ≡ sum (map f (range_with_len 0 n))
unfolding sum_below
sum_listed n f = folded (λ a x. a + x) f (λ k. sum_below k f) (λ k. refl) n

-- an iterator's `max` over a range, and 0 where it has none
pub largest_listed : (n : ℕ) (f : ℕ → ℕ) → largest_below n f ≡ unwrap_or (reduce max (map f (range_with_len 0 n))) 0
unfolding largest_below
largest_listed n f = folded max f (λ k. largest_below k f) (λ k. refl) n ∙ first (map f (range_with_len 0 n))
  where
    first : (xs : List ℕ) → fold max 0 xs ≡ unwrap_or (reduce max xs) 0
    first [] = refl
    first (x ∷ xs) = ap (λ a. fold max a xs) (omega arith)

-- ---- chains of calls: a range from 0, and a closure over it that computes f

module _ {F : Type 0} (n : ℕ) (f : ℕ → ℕ) (g : Mut F (ℕ × Unit {0}) ℕ) (s : Map (Range ℕ) F) {callee : F} {end : ℕ} (source : map_source s ≡ record { start = 0; end = end }) (ends : end ≡ n) (closure : map_callee s ≡ callee) (computes : (x r : ℕ) (q : F) → Called g callee (x, tt) r q → (q ≡ callee) × (r ≡ f x)) where
  listed : YieldsList (maps nat_range_steps g) (λ r. r) s (map f (range_with_len 0 n))
  listed = YieldsList-from_map g f (YieldsList-from_range 0 end n source (omega arith)) closure computes

  -- `map`, `max` and `unwrap_or(0)`
  pub largest_of_range : (best : Option ℕ) (result : ℕ) → PicksByCmp (maps nat_range_steps g) max_by_ordering nat_cmp s best → result ≡ unwrap_or best 0 → result ≡ largest_below n f
  largest_of_range best result picked is =
      is ∙ ap (λ o. unwrap_or o 0) (sym (option_map_id best) ∙ max_from_yields_List s best picked listed) ∙ sym (largest_listed n f)

  -- `map` and `sum`
  pub sum_of_range : (result : ℕ) → ((xs : List ℕ) × (⊤ → Drains (maps nat_range_steps g) s xs) × (result ≡ fold (λ a x. a + x) 0 xs)) → result ≡ sum_below n f
  sum_of_range result added = sum_from_yields_List s result added listed ∙ sym (sum_listed n f)

  -- terms of at most m add up to what fits
  pub sum_fits : (m top : ℕ) → ((k : ℕ) → f k ≤ m) → n * m < top → EachRunFrom (maps nat_range_steps g) s (λ p. fold (λ a x. a + x) 0 p.items < top)
  sum_fits m top within fits =
      fits_from_yields_list s top listed (let e = sum_listed n f in let l = sum_limit n f m within in omega (arith, e, l))
