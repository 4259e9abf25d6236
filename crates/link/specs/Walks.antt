-- Where a walk through the nodes of a lattice stands.
use Rattle.std.specs.Prelude.{◌≡◌, ℕ, ◌-◌, ◌/◌, ◌%◌, ◌≤◌}
use Rattle.meaning.specs.declared.Channels.{Channels}
use Rattle.meaning.specs.Colours.{max_count}
use Rattle.meaning.specs.Links.{node_colour}
use Rattle.stage.specs.Lattices.{points}
use Rattle.link.specs.declared.filling.Walk.{Walk}

-- at node n of a lattice with g grid points and the in-channels i
pub record StandsAt (i : Channels) (g n : ℕ) (walk : Walk) : Type 0 where
  pub some : 2 ≤ g
  pub grid : points walk.grid ≡ g
  pub whole : walk.whole ≡ max_count / (g - 1)
  pub point : walk.point ≡ n % g
  pub colour : walk.colour ≡ node_colour i g n
