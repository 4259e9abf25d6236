-- States that a converter can be in. Assumes nothing.
use Rattle.std.proofs.Common.{◌≡◌, ℕ, ◌^◌, ◌<◌, ◌≤◌, ◌+◌, nat_lt, sym, subst, arith}
use Rattle.std.proofs.lemmas.Bool.{ltb-true, cond_both}
use Rattle.std.proofs.Math.Nat.{one-le-pow}
use Rattle.meaning.specs.declared.Channels.{Channels}
use Rattle.meaning.specs.Colours.{number}
use Rattle.stage.specs.Lattices.{grid_with, points}
use Rattle.link.specs.declared.state.State.{State}
use Rattle.link.specs.declared.state.State.TheVariants.{Empty, Filling, Full}
use Rattle.link.specs.States.{IsSound, filled_state}

-- a grid has nodes
pub some_nodes : (i : Channels) (g : ℕ) → 2 ≤ g → 0 < g ^ number i
some_nodes i g h = let p = one-le-pow (number i) g (omega (arith, h)) in omega (arith, p)

-- a link that is begun is in a state that can be
pub sound_begun : (i : Channels) (g : ℕ) → 2 ≤ g → (s : State) → s ≡ Filling (grid_with g) 0 → IsSound i s
sound_begun i g h s is = subst (λ n. IsSound i n) (sym is) (h, some_nodes i g h)

-- and so is one after a fill
pub sound_filled : (i : Channels) (s : State) (b : ℕ) → IsSound i s → IsSound i (filled_state i s b)
sound_filled i Empty b h = tt
sound_filled i (Filling g n) b h =
    cond_both (nat_lt (n + b) (points g ^ number i)) (Filling g (n + b)) (Full g) (IsSound i)
    (λ less. (h.0, ltb-true (n + b) (points g ^ number i) less))
    (λ _. h.0)
sound_filled i (Full g) b h = h
