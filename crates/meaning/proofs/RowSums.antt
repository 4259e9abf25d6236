-- A row's signed sum in 64 bits: it fits, and it is what the row adds less what it takes. Assumes nothing.
use Rattle.std.proofs.Common.{◌≡◌, ℕ, ◌+◌, ◌-◌, ◌*◌, ◌^◌, ◌<◌, ◌≤◌, min, List, ℤ, pos, negsuc, ◌+ℤ◌, ◌-ℤ◌, ◌*ℤ◌, neg_ℤ, sym, refl, ap, ◌∙◌, mul-le-mul, arith, w32, w64, SFits, to_z, of_z}
use borrow.Author.Differences.{up, down, same_in, sum_is_lem, product_is, neg_is, fits_in}
use Rattle.std.proofs.lemmas.Int.{to_z-of_z}
use Rattle.meaning.specs.Colours.{max_count, grains, at}
use Rattle.meaning.specs.Matrices.{adds, takes, coefficient, weighted, RowsAreSignedSums}

-- far within 64 bits
abbrev pub Small : ℤ → Type 0
Small z = (adds z ≤ 2 ^ 47) × (takes z ≤ 2 ^ 47)

parts : (z : ℤ) → (up z ≡ adds z) × (down z ≡ takes z)
parts (pos n) = (refl, refl)
parts (negsuc n) = (refl, refl)

small_fits : (z : ℤ) → Small z → SFits w64 z
small_fits z h = fits_in w64 z (omega (arith, parts z))

-- ---- a product

product_parts : (e : ℤ) (a : ℕ) → (adds (e *ℤ pos a) ≡ adds e * a) × (takes (e *ℤ pos a) ≡ takes e * a)
product_parts e a = omega (arith, product_is e (pos a), parts e, parts (e *ℤ pos a))

parts_limit : (e : ℤ) → SFits w32 e → (adds e ≤ 2 ^ 31) × (takes e ≤ 2 ^ 31)
parts_limit (pos n) f = omega (arith, f.sfits)
parts_limit (negsuc n) f = omega (arith, f.sfits)

pub product_small : (e : ℤ) (a : ℕ) → SFits w32 e → a < 2 ^ 16 → Small (e *ℤ pos a)
product_small e a f h =
    let l = parts_limit e f in
    let a-limit : a ≤ 2 ^ 16 = omega arith in
    omega (arith, product_parts e a, mul-le-mul l.0 a-limit, mul-le-mul l.1 a-limit)

-- the product of two numbers that were widened
product_back : (e x y : ℤ) (a : ℕ) → SFits w32 e → a < 2 ^ 16 → x ≡ to_z w32 (of_z w32 e) → y ≡ pos a → to_z w64 (of_z w64 x) *ℤ to_z w64 (of_z w64 y) ≡ e *ℤ pos a
product_back e x y a f h is-e is-a =
    let wide : SFits w64 e = small_fits e (omega (arith, parts_limit e f)) in
    let wide-a : SFits w64 (pos a) = small_fits (pos a) (omega arith) in
    rw (is-e, is-a, to_z-of_z w32 e f, to_z-of_z w64 e wide, to_z-of_z w64 (pos a) wide-a)

pub product_fits : (e x y : ℤ) (a : ℕ) → SFits w32 e → a < 2 ^ 16 → x ≡ to_z w32 (of_z w32 e) → y ≡ pos a → SFits w64 (to_z w64 (of_z w64 x) *ℤ to_z w64 (of_z w64 y))
product_fits e x y a f h is-e is-a = rw (product_back e x y a f h is-e is-a) (small_fits (e *ℤ pos a) (product_small e a f h))

pub product_value : (e x y : ℤ) (a : ℕ) → SFits w32 e → a < 2 ^ 16 → x ≡ to_z w32 (of_z w32 e) → y ≡ pos a → to_z w64 (of_z w64 (to_z w64 (of_z w64 x) *ℤ to_z w64 (of_z w64 y))) ≡ e *ℤ pos a
product_value e x y a f h is-e is-a =
    rw (product_back e x y a f h is-e is-a) (to_z-of_z w64 (e *ℤ pos a) (small_fits (e *ℤ pos a) (product_small e a f h)))

-- ---- a sum of three

pair_fits : (x y : ℤ) → Small x → Small y → SFits w64 (x +ℤ y)
pair_fits x y h i = fits_in w64 (x +ℤ y) (omega (arith, parts x, parts y, sum_is_lem x y))

triple_fits : (x y z : ℤ) → Small x → Small y → Small z → SFits w64 (x +ℤ y +ℤ z)
triple_fits x y z h i j = fits_in w64 (x +ℤ y +ℤ z) (omega (arith, parts x, parts y, parts z, sum_is_lem x y, sum_is_lem (x +ℤ y) z))

-- products added up are the parts added up
three_products : (e f g : ℤ) (a b c : ℕ) → e *ℤ pos a +ℤ f *ℤ pos b +ℤ g *ℤ pos c ≡ pos (adds e * a + adds f * b + adds g * c) -ℤ pos (takes e * a + takes f * b + takes g * c)
three_products e f g a b c =
    let x = e *ℤ pos a in
    let y = f *ℤ pos b in
    let z = g *ℤ pos c in
    let p = pos (adds e * a + adds f * b + adds g * c) in
    let n = pos (takes e * a + takes f * b + takes g * c) in
    same_in (x +ℤ y +ℤ z) (p -ℤ n)
    (omega (arith, sum_is_lem x y, sum_is_lem (x +ℤ y) z, product_is e (pos a), product_is f (pos b), product_is g (pos c), parts e, parts f, parts g, sum_is_lem p (neg_ℤ n), neg_is n))

pub two_fit : (x y : ℤ) → Small x → Small y → SFits w64 (to_z w64 (of_z w64 x) +ℤ to_z w64 (of_z w64 y))
two_fit x y h i = rw (to_z-of_z w64 x (small_fits x h), to_z-of_z w64 y (small_fits y i)) (pair_fits x y h i)

three_back : (x y z : ℤ) → Small x → Small y → Small z → to_z w64 (of_z w64 (to_z w64 (of_z w64 x) +ℤ to_z w64 (of_z w64 y))) +ℤ to_z w64 (of_z w64 z) ≡ x +ℤ y +ℤ z
three_back x y z h i j =
    rw (to_z-of_z w64 x (small_fits x h), to_z-of_z w64 y (small_fits y i), to_z-of_z w64 z (small_fits z j), to_z-of_z w64 (x +ℤ y) (pair_fits x y h i))

pub three_fit : (x y z : ℤ) → Small x → Small y → Small z → SFits w64 (to_z w64 (of_z w64 (to_z w64 (of_z w64 x) +ℤ to_z w64 (of_z w64 y))) +ℤ to_z w64 (of_z w64 z))
three_fit x y z h i j = rw (three_back x y z h i j) (triple_fits x y z h i j)

-- a row's sum, as the code adds it up
pub row_signed : (es : List ℤ) (j : ℕ) (c : List ℕ) (x y z : ℤ) → x ≡ coefficient es j 0 *ℤ pos (at c 0) → y ≡ coefficient es j 1 *ℤ pos (at c 1) → z ≡ coefficient es j 2 *ℤ pos (at c 2) → Small x → Small y → Small z →
    to_z w64 (of_z w64 (to_z w64 (of_z w64 (to_z w64 (of_z w64 x) +ℤ to_z w64 (of_z w64 y))) +ℤ to_z w64 (of_z w64 z))) ≡ pos (weighted adds es j c) -ℤ pos (weighted takes es j c)
row_signed es j c x y z is_x is_y is-z h i k =
    ap (λ s. to_z w64 (of_z w64 s)) (three_back x y z h i k) ∙ to_z-of_z w64 (x +ℤ y +ℤ z) (triple_fits x y z h i k)
    ∙ rw (is_x, is_y, is-z) (three_products (coefficient es j 0) (coefficient es j 1) (coefficient es j 2) (at c 0) (at c 1) (at c 2))

-- a difference of naturals, held to 0
held_difference : (z : ℤ) (a b : ℕ) → up z + b ≡ a + down z → adds z ≡ a - b
held_difference (pos n) a b e = omega arith
held_difference (negsuc n) a b e = omega arith

adds_difference : (a b : ℕ) → adds (pos a -ℤ pos b) ≡ a - b
adds_difference a b = held_difference (pos a -ℤ pos b) a b (omega (arith, sum_is_lem (pos a) (neg_ℤ (pos b)), neg_is (pos b)))

pub rows_signed : RowsAreSignedSums
rows_signed es j x =
    let c = x.nums in
    let p = weighted adds es j c in
    let n = weighted takes es j c in
    let is = three_products (coefficient es j 0) (coefficient es j 1) (coefficient es j 2) (at c 0) (at c 1) (at c 2) in
    ap (min (max_count * (grains * x.den))) (sym (ap adds is ∙ adds_difference p n))
