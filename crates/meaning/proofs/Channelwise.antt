-- Lists of channels read channel by channel. Assumes nothing.
use Rattle.std.proofs.Common.{◌≡◌, ℕ, zero, suc, ◌<◌, ◌≤◌, cond, ltb, List, [], ◌∷◌, map, length, sym, refl, ◌∙◌, ⊎_elim, arith}
use Rattle.std.proofs.lemmas.List.FromFn.{get_or-map-range_with_len, length-map-range_with_len}
use Rattle.std.proofs.lemmas.List.{get_or_past}
use Rattle.std.proofs.lemmas.Bool.{lt-ltb, le-ltb, cond-true, cond-false, cases_lt}
use Rattle.meaning.specs.declared.Channels.{Channels}
use Rattle.meaning.specs.declared.Channels.TheVariants.{One, Three, Four}
use Rattle.meaning.specs.Colours.{channels, number, at, spread}

pub number_limit : (w : Channels) → number w ≤ channels
number_limit One = omega arith
number_limit Three = omega arith
number_limit Four = omega arith

-- a function that keeps 0, channel by channel
pub at_map : (g : ℕ → ℕ) → g 0 ≡ 0 → (c : List ℕ) (k : ℕ) → at (map g c) k ≡ g (at c k)
at_map g z [] k = sym z
at_map g z (x ∷ c) zero = refl
at_map g z (x ∷ c) (suc k) = at_map g z c k

pub length_spread : (n : ℕ) (f : ℕ → ℕ) → length (spread n f) ≡ channels
unfolding spread
length_spread n f = length-map-range_with_len (λ k. cond (ltb k n) (f k) 0) 0 channels

-- channel k as the definition has it
at_spread : (n : ℕ) (f : ℕ → ℕ) (k : ℕ) → k < channels → at (spread n f) k ≡ cond (ltb k n) (f k) 0
unfolding spread
at_spread n f k h = get_or-map-range_with_len (λ j. cond (ltb j n) (f j) 0) 0 channels k k 0 h (omega arith)

pub spread_within : (n : ℕ) (f : ℕ → ℕ) (k : ℕ) → n ≤ channels → k < n → at (spread n f) k ≡ f k
spread_within n f k l h = at_spread n f k (omega arith) ∙ cond-true (ltb k n) (f k) 0 (lt-ltb k n h)

pub spread_beyond : (n : ℕ) (f : ℕ → ℕ) (k : ℕ) → n ≤ k → at (spread n f) k ≡ 0
spread_beyond n f k h =
    ⊎_elim
    (λ (l : k < channels). at_spread n f k l ∙ cond-false (ltb k n) (f k) 0 (le-ltb k n h))
    (λ (l : channels ≤ k). get_or_past (spread n f) k 0 (let e = length_spread n f in omega arith))
    (cases_lt k channels)

-- what holds of 0 and of each of the first channels holds of every channel
pub each_channel : (n : ℕ) (f : ℕ → ℕ) (P : ℕ → Type 0) → n ≤ channels → P 0 → ((k : ℕ) → k < n → P (f k)) → (k : ℕ) → P (at (spread n f) k)
each_channel n f P l z h k =
    ⊎_elim
    (λ (i : k < n). rw (spread_within n f k l i) (h k i))
    (λ (o : n ≤ k). rw (spread_beyond n f k o) z)
    (cases_lt k n)
