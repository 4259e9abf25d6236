-- The samples of a colour's cell are the nodes that the lattice's definition names. Assumes nothing.
use Rattle.std.proofs.Common.{◌≡◌, ℕ, ◌+◌, ◌-◌, ◌*◌, ◌/◌, List, [], ◌∷◌, refl, ap, ◌∙◌, zero-add, zero-mul, arith}
use mathlib.Core.Path.{fun_ext}
use Rattle.meaning.specs.declared.Channels.{Channels}
use Rattle.meaning.specs.declared.Channels.TheVariants.{One, Three, Four}
use Rattle.meaning.specs.Colours.{number, at, nearest, spread}
use Rattle.meaning.specs.Lattices.{numbered, node, node_samples, pair_samples, lattice_sum, lattice_terms, lattice}
use Rattle.meaning.specs.Curves.{entry}
use Rattle.meaning.proofs.Sampling.{sum_same}
use Rattle.stage.specs.declared.legs.Leg.{Leg}
use Rattle.stage.specs.Lattices.{cell, cell_sum, cell_terms, cell_exact}
use Rattle.stage.specs.Legs.{idle, leg, reach_all, sorted}
use Rattle.stage.proofs.LegLaws.{leg_reach, sorted_reach}

-- ---- places of nodes

one_place : (g o j x : ℕ) → j + (o * x + 0 + 0) ≡ numbered g 0 (x ∷ []) * o + j
one_place g o j x = rw (zero-mul g, zero-add x) (omega arith)

three_places : (g o j x y z : ℕ) → j + (o * g * g * x + o * g * y + o * z) ≡ numbered g 0 (x ∷ y ∷ z ∷ []) * o + j
three_places g o j x y z = rw (zero-mul g, zero-add x) (omega arith)

four_places : (g o j w x y z : ℕ) → j + o * g * g * g * w + (o * g * g * x + o * g * y + o * z) ≡ numbered g 0 (w ∷ x ∷ y ∷ z ∷ []) * o + j
four_places g o j w x y z = rw (zero-mul g, zero-add w) (omega arith)

-- ---- the cell of a colour

module _ (g o : ℕ) (c : List ℕ) where
  -- the index that sample s names in channel k
  index : ℕ → ℕ → ℕ
  index k s = (at c k * (g - 1) + s) / 65535

  along : ℕ → ℕ → Leg
  along k stride = leg (at c k) (g - 1) stride

  three_reach : (a b d s : ℕ) → reach_all (sorted (along a (o * g * g)) (along b (o * g)) (along d o)) s ≡ o * g * g * index a s + o * g * index b s + o * index d s
  unfolding along index
  three_reach a b d s =
      sorted_reach (along a (o * g * g)) (along b (o * g)) (along d o) s
      ∙ rw (leg_reach (at c a) (g - 1) (o * g * g) s, leg_reach (at c b) (g - 1) (o * g) s, leg_reach (at c d) (g - 1) o s) refl

  -- what the samples of the cell sum up to is what the definition sums up
  cell_samples : (i : Channels) (counts : List ℕ) (j : ℕ) → cell_sum (entry counts) (cell i o g c) j ≡ lattice_sum i (node g o counts j) 65535 (λ k. at c k * (g - 1))
  unfolding node_samples pair_samples along index
  cell_samples One counts j =
      sum_same 65535 _ _ (λ s _.
      ap (entry counts) (ap (λ n. j + n) (sorted_reach (along 0 o) idle idle s ∙ rw (leg_reach (at c 0) (g - 1) o s, zero-mul ((0 + s) / 65535), zero-add 0) refl) ∙ one_place g o j (index 0 s)))
  cell_samples Three counts j =
      sum_same 65535 _ _ (λ s _.
      ap (entry counts) (ap (λ n. j + n) (three_reach 0 1 2 s) ∙ three_places g o j (index 0 s) (index 1 s) (index 2 s)))
  cell_samples Four counts j =
      sum_same 65535 _ _ (λ u _. sum_same 65535 _ _ (λ s _.
      ap (entry counts) (rw (leg_reach (at c 0) (g - 1) (o * g * g * g) u, three_reach 1 2 3 s) (four_places g o j (index 0 u) (index 1 s) (index 2 s) (index 3 s)))))

  -- and there are as many
  many_terms : (i : Channels) → cell_terms (cell i o g c) ≡ lattice_terms i 65535
  many_terms One = refl
  many_terms Three = refl
  many_terms Four = refl

-- the cell's outputs, rounded, are the lattice's answer
pub cell_answer : (i o : Channels) (g : ℕ) (counts c : List ℕ) → nearest (cell_exact (number o) (entry counts) (cell i (number o) g c)) ≡ (lattice i o g counts).answer c
cell_answer i o g counts c =
    ap (λ d. nearest (record { nums = spread (number o) (cell_sum (entry counts) (cell i (number o) g c)); den = d })) (many_terms g (number o) c i)
    ∙ ap (λ f. nearest (record { nums = spread (number o) f; den = lattice_terms i 65535 })) (fun_ext (cell_samples g (number o) c i counts))
