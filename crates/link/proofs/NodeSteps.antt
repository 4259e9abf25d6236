-- From a node to the next one along a line. Assumes nothing.
use Rattle.std.proofs.Common.{◌≡◌, ℕ, suc, ◌+◌, ◌-◌, ◌*◌, ◌/◌, ◌%◌, ◌^◌, ◌<◌, ◌≤◌, Fits, w16, sym, refl, ap, ◌∙◌, arith}
use native.Mathlib.Nat.{pow-zero, pow-succ', div-div-eq-div-mul, div-one, div-eq_of_lt-le, div-lt_iff_lt-mul}
use Rattle.std.proofs.Math.ListN.{get_or, set}
use Rattle.std.proofs.lemmas.Nat.{div-mul-add, mod-mul-add}
use Rattle.meaning.specs.declared.Channels.{Channels}
use Rattle.meaning.specs.declared.Channels.TheVariants.{One, Three, Four}
use Rattle.meaning.specs.Colours.{max_count, number, spread}
use Rattle.meaning.specs.Links.{grid_count, node_colour}

-- the count of a grid point fits
pub grid_limit : (g j : ℕ) → 2 ≤ g → j ≤ g - 1 → Fits w16 (grid_count g j)
grid_limit g j some h =
    let pos : 0 < 2 * (g - 1) = omega arith in
    let l : grid_count g j < 65536 = (div-lt_iff_lt-mul pos).1 (omega arith) in
    omega arith

-- the count of the next grid point lies so many whole counts higher, or one more
module _ (g j : ℕ) (some : 2 ≤ g) where
  pub next_low : 2 * (j + 1) * max_count + (g - 1) < 2 * (g - 1) * (grid_count g j + max_count / (g - 1) + 1) → grid_count g j + max_count / (g - 1) ≡ grid_count g (j + 1)
  next_low h = sym (div-eq_of_lt-le (2 * (g - 1)) (omega arith) (omega arith))

  pub next_high : 2 * (g - 1) * (grid_count g j + max_count / (g - 1) + 1) ≤ 2 * (j + 1) * max_count + (g - 1) → grid_count g j + max_count / (g - 1) + 1 ≡ grid_count g (j + 1)
  next_high h = sym (div-eq_of_lt-le (2 * (g - 1)) (omega arith) (omega arith))

-- the last channel's count of a node
pub last_count : (g n : ℕ) (i : Channels) → get_or (node_colour i g n) (number i - 1) 0 ≡ grid_count g (n % g)
unfolding spread
last_count g n One = rw (pow-zero g, div-one n) refl
last_count g n Three = rw (pow-zero g, div-one n) refl
last_count g n Four = rw (pow-zero g, div-one n) refl

module _ (g n : ℕ) (some : 2 ≤ g) (inside : n % g + 1 < g) where
  next_split : n + 1 ≡ n / g * g + (n % g + 1)
  next_split = omega arith

  -- along a line the indices before the last one stay
  same_line : (n + 1) / g ≡ n / g
  same_line = ap (λ m. m / g) next_split ∙ div-mul-add (n / g) g (n % g + 1) inside

  pub next_point : n % g + 1 ≡ (n + 1) % g
  next_point = sym (ap (λ m. m % g) next_split ∙ mod-mul-add (n / g) g (n % g + 1) inside)

  same_index : (c : ℕ) → (n + 1) / g ^ suc c ≡ n / g ^ suc c
  same_index c = rw (pow-succ' g c) (sym (div-div-eq-div-mul (n + 1) g (g ^ c)) ∙ ap (λ e. e / g ^ c) same_line ∙ div-div-eq-div-mul n g (g ^ c))

  last_point : (n + 1) / g ^ 0 % g ≡ n % g + 1
  last_point = rw (pow-zero g, div-one (n + 1)) (sym next_point)

  pub along_line : (i : Channels) → set (node_colour i g n) (number i - 1) (grid_count g (n % g + 1)) ≡ node_colour i g (n + 1)
  unfolding spread
  along_line One = rw last_point refl
  along_line Three = let a = same_index 0 in let b = same_index 1 in rw (a, b, last_point) refl
  along_line Four = let a = same_index 0 in let b = same_index 1 in let d = same_index 2 in rw (a, b, d, last_point) refl
