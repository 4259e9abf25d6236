-- The straight tables and the matrix of a written link change nothing. Assumes nothing.
use Rattle.std.proofs.Common.{◌≡◌, ℕ, zero, suc, ◌+◌, ◌-◌, ◌*◌, ◌<◌, ◌≤◌, List, [], ◌∷◌, length, ℤ, pos, sym, refl, ◌∙◌, ⊎_elim, arith}
use Rattle.std.proofs.lemmas.Bool.{cases_lt}
use Rattle.std.proofs.lemmas.List.{length-map, ext_get_or}
use Rattle.meaning.specs.declared.Channels.{Channels}
use Rattle.meaning.specs.declared.Channels.TheVariants.{One, Three, Four}
use Rattle.meaning.specs.Colours.{max_count, grains, channels, number, at, Colour, whole, rounded, nearest, spread}
use Rattle.meaning.specs.Curves.{table_entry, curves, curves_exact}
use Rattle.meaning.specs.Lattices.{lattice}
use Rattle.meaning.specs.Matrices.{row_value, matrix}
use Rattle.meaning.specs.Sums.{samples}
use Rattle.meaning.proofs.Channelwise.{number_limit, at_map, length_spread, spread_within, spread_beyond}
use Rattle.meaning.proofs.MatrixLaws.{matrix_answer}
use Rattle.meaning.proofs.Rounding.{rounded_whole, rounded_zero}
use Rattle.meaning.proofs.Sampling.{samples_closed}
use Rattle.stage.specs.Entries.{wide}
use Rattle.link.specs.Written.{straight_tables}

-- a colour with nothing beyond its first channels
abbrev pub first : Channels → List ℕ → List ℕ
first w c = spread (number w) (at c)

-- ---- the counts of the straight tables

abbrev straight_counts : ℕ → List ℕ
straight_counts n = wide (straight_tables n)

straight_low : (n k : ℕ) → at (straight_counts n) (k * 2 + 0) ≡ 0
unfolding straight_tables
straight_low zero k = refl
straight_low (suc n) zero = refl
straight_low (suc n) (suc k) = let e : suc k * 2 + 0 ≡ suc (suc (k * 2 + 0)) = omega arith in rw e (straight_low n k)

straight_high : (n k : ℕ) → k < n → at (straight_counts n) (k * 2 + 1) ≡ max_count
unfolding straight_tables
straight_high zero k h = absurd (omega arith)
straight_high (suc n) zero h = refl
straight_high (suc n) (suc k) h = let e : suc k * 2 + 1 ≡ suc (suc (k * 2 + 1)) = omega arith in rw e (straight_high n k (omega arith))

-- ---- curves over them

straight_samples : (n k a : ℕ) → k < n → a ≤ max_count → samples (table_entry 2 (straight_counts n) k) (max_count * 1) (a * (2 - 1)) ≡ a * max_count
straight_samples n k a h l =
    let t = table_entry 2 (straight_counts n) k in
    let e : a * (2 - 1) ≡ 0 * max_count + a = omega arith in
    rw e
    (samples_closed t max_count 0 a (omega arith) l
    ∙ (let low = straight_low n k in let high = straight_high n k h in rw (low, high) (omega arith)))

straight_at : (w : Channels) (c : List ℕ) → Colour c → (k : ℕ) → at ((curves w 2 (straight_counts (number w))).answer c) k ≡ at (first w c) k
straight_at w c h k =
    let x = curves_exact w 2 (straight_counts (number w)) (whole c) in
    let f : ℕ → ℕ = λ j. samples (table_entry 2 (straight_counts (number w)) j) (max_count * 1) (at c j * (2 - 1)) in
    at_map (λ a. rounded a x.den) (rounded_zero x.den) x.nums k
    ∙ ⊎_elim
    (λ (l : k < number w).
    rw (spread_within (number w) f k (number_limit w) l, spread_within (number w) (at c) k (number_limit w) l, straight_samples (number w) k (at c k) l (h.within k))
    (rounded_whole (at c k) max_count (omega arith)))
    (λ (l : number w ≤ k).
    rw (spread_beyond (number w) f k l, spread_beyond (number w) (at c) k l) (rounded_zero max_count))
    (cases_lt k (number w))

-- the curves of straight tables give back a colour's channels
pub straight_curves : (w : Channels) (c : List ℕ) → Colour c → (curves w 2 (wide (straight_tables (number w)))).answer c ≡ first w c
straight_curves w c h =
    let x = curves_exact w 2 (straight_counts (number w)) (whole c) in
    let long : length (nearest x) ≡ channels = length-map x.nums (λ a. rounded a x.den) ∙ length_spread (number w) _ in
    ext_get_or 0 (nearest x) (first w c) (long ∙ sym (length_spread (number w) (at c))) (λ k _. straight_at w c h k)

-- ---- the first channels of a colour

first_at : (w : Channels) (c : List ℕ) (k : ℕ) → k < number w → at (first w c) k ≡ at c k
first_at w c k l = spread_within (number w) (at c) k (number_limit w) l

pub first_colour : (w : Channels) (c : List ℕ) → Colour c → Colour (first w c)
first_colour w c h = record {
  long = length_spread (number w) (at c);
  within = λ k.
      ⊎_elim
      (λ (l : k < number w). rw (first_at w c k l) (h.within k))
      (λ (l : number w ≤ k). rw (spread_beyond (number w) (at c) k l) (omega arith))
      (cases_lt k (number w));
}

-- a colour that is 0 beyond its first channels is these
pub first_whole : (w : Channels) (c : List ℕ) → Colour c → ((k : ℕ) → number w ≤ k → at c k ≡ 0) → first w c ≡ c
first_whole w c h z =
    ext_get_or 0 (first w c) c (length_spread (number w) (at c) ∙ sym h.long)
    (λ k _.
    ⊎_elim
    (λ (l : k < number w). first_at w c k l)
    (λ (l : number w ≤ k). spread_beyond (number w) (at c) k l ∙ sym (z k l))
    (cases_lt k (number w)))

pub first_again : (w : Channels) (c : List ℕ) → Colour c → first w (first w c) ≡ first w c
first_again w c h = first_whole w (first w c) (first_colour w c h) (λ k l. spread_beyond (number w) (at c) k l)

-- ---- the matrix

abbrev pub identity : List ℤ
identity = pos 65536 ∷ pos 0 ∷ pos 0 ∷ pos 0 ∷ pos 65536 ∷ pos 0 ∷ pos 0 ∷ pos 0 ∷ pos 65536 ∷ []

-- the matrix that changes nothing gives back the first three channels
pub identity_matrix : (c : List ℕ) → Colour c → (matrix identity).answer c ≡ first Three c
unfolding spread
identity_matrix c h =
    let row : (j : ℕ) (v : ℕ) → row_value identity (whole c) j ≡ v * grains → rounded (row_value identity (whole c) j) grains ≡ v = λ j v e. rw e (rounded_whole v grains (omega arith)) in
    let h0 = h.within 0 in
    let h1 = h.within 1 in
    let h2 = h.within 2 in
    matrix_answer identity c
    ∙ rw (row 0 (at c 0) (omega arith), row 1 (at c 1) (omega arith), row 2 (at c 2) (omega arith)) refl

-- ---- the lattice

-- it reads the in-channels alone
pub lattice_reads : (i o : Channels) (g : ℕ) (nodes c : List ℕ) → (lattice i o g nodes).answer (first i c) ≡ (lattice i o g nodes).answer c
unfolding spread
lattice_reads One o g nodes c = refl
lattice_reads Three o g nodes c = refl
lattice_reads Four o g nodes c = refl
