use Rattle.std.proofs.Common.{◌≡◌, ℕ, ℤ, pos, ◌*ℤ◌, w32, SFits, to_z, of_z}
use Rattle.std.proofs.lemmas.Int.{to_z-of_z}
use Rattle.meaning.proofs.RowSums.{two_fit, three_fit, row_signed}
use Rattle.stage.proofs.matrix.Row.sum.Goals as goal

pub overflow_add-result : goal.overflow_add-result
overflow_add-result c = two_fit c.product.result c.product-2.result (c.product.ensures.adds, c.product.ensures.takes) (c.product-2.ensures.adds, c.product-2.ensures.takes)

pub overflow_add-result-2 : goal.overflow_add-result-2
overflow_add-result-2 c =
    three_fit c.product.result c.product-2.result c.product-3.result (c.product.ensures.adds, c.product.ensures.takes) (c.product-2.ensures.adds, c.product-2.ensures.takes) (c.product-3.ensures.adds, c.product-3.ensures.takes)

-- a product x of what was read, e, and a: e is the coefficient k
of_coefficient : (x e k : ℤ) (a : ℕ) → SFits w32 e → e ≡ k → x ≡ to_z w32 (of_z w32 e) *ℤ pos a → x ≡ k *ℤ pos a
of_coefficient x e k a fits is h = rw (to_z-of_z w32 e fits, is) at h

pub returns : goal.returns
returns c =
    row_signed c.args.self.now.matrix.now.coefficients c.args.self.now.number c.args.colour.now c.product.result c.product-2.result c.product-3.result
    (of_coefficient c.product.result c.at.result _ _ (record { sfits = c.at.type_inv }) c.at.ensures c.product.ensures.value)
    (of_coefficient c.product-2.result c.at-2.result _ _ (record { sfits = c.at-2.type_inv }) c.at-2.ensures c.product-2.ensures.value)
    (of_coefficient c.product-3.result c.at-3.result _ _ (record { sfits = c.at-3.type_inv }) c.at-3.ensures c.product-3.ensures.value)
    (c.product.ensures.adds, c.product.ensures.takes) (c.product-2.ensures.adds, c.product-2.ensures.takes) (c.product-3.ensures.adds, c.product-3.ensures.takes)
