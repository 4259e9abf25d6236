-- A table that is filled node by node. Assumes nothing.
use Rattle.std.proofs.Common.{◌≡◌, ℕ, suc, ◌+◌, ◌-◌, ◌*◌, ◌<◌, ◌≤◌, List, ◌++◌, length, take, drop, sym, refl, ap, ◌∙◌, mul-le-mul_right, arith}
use borrow.Rule.Slice.PartMut.{put_mid, mid_of, same_len_mid}
use Rattle.std.proofs.lemmas.Slice.{take-put_mid}
use Rattle.std.proofs.lemmas.List.{length-take-le, length-drop, take_all}
use Rattle.meaning.specs.Stages.{Meaning}
use Rattle.meaning.specs.Links.{node_answer, nodes_from}
use Rattle.meaning.proofs.Baking.{nodes_next}

-- the first k of `count` nodes are stored in a part of o numbers each
abbrev pub Stored : Meaning → ℕ → ℕ → ℕ → ℕ → ℕ → List ℕ → Type 0
Stored m g first count o k part = (length part ≡ count * o) × (take (k * o) part ≡ nodes_from m g first k)

module _ (m : Meaning) (g first count o : ℕ) where
  pub none_stored : (part : List ℕ) → length part ≡ count * o → Stored m g first count o 0 part
  unfolding nodes_from
  none_stored part h = let z : 0 * o ≡ 0 = omega arith in (h, rw z refl)

  -- one node more, in the part of the table that begins behind these and is as long as a node
  pub one_more : (k : ℕ) (part node : List ℕ) → k < count → length node ≡ length (mid_of (k * o) ((k + 1) * o - k * o) part) → node ≡ node_answer m g (first + k) → Stored m g first count o k part →
      Stored m g first count o (k + 1) (put_mid (k * o) ((k + 1) * o - k * o) part node)
  one_more k part node inside long is h =
      let room : (k + 1) * o ≤ count * o = mul-le-mul_right o (omega arith) in
      let start : k * o ≤ length part = omega (arith, room, h.0) in
      let few : (k + 1) * o - k * o ≡ o = omega arith in
      let mid = length-take-le ((k + 1) * o - k * o) (drop (k * o) part) (omega (arith, length-drop (k * o) part, room, h.0, few)) in
      let next : k + 1 ≡ suc k = omega arith in (
        same_len_mid (k * o) ((k + 1) * o - k * o) part node long ∙ h.0,
        take-put_mid (k * o) ((k + 1) * o - k * o) part node ((k + 1) * o) (omega (arith, long, mid)) start
            ∙ ap (λ l. l ++ node) h.1
            ∙ ap (λ l. nodes_from m g first k ++ l) is
            ∙ sym (nodes_next m g first k)
            ∙ ap (nodes_from m g first) (sym next),
      )

  -- all are stored
  pub all_stored : (part : List ℕ) → Stored m g first count o count part → part ≡ nodes_from m g first count
  all_stored part h = sym (take_all (count * o) part (omega (arith, h.0))) ∙ h.1
