use Rattle.std.proofs.Common.{◌≡◌, ◌+◌, ◌≤◌, length, take, Ok}
use Rattle.profile.specs.Chaining.{next_position, opened_chain}
use Rattle.profile.specs.ChainViews.{chain_view, room_left}
use Rattle.profile.proofs.chain.open_all.Given as goal

-- the profiles so far are opened, one more than there were turns, and there is room for the others
abbrev pub invariant-loop-source : goal.invariant-loop-source
invariant-loop-source l =
    record {
      opened : Ok (chain_view l.chain) ≡ opened_chain l.first (take l.source-index l.rest);
      position : next_position (chain_view l.chain) ≡ l.source-index + 1;
      room : length l.rest ≤ l.source-index + room_left l.chain;
    }
