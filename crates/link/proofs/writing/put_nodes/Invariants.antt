use Rattle.std.proofs.Common.{◌≡◌, take}
use Rattle.link.specs.Written.{put_over, two_bytes_each}
use Rattle.link.proofs.writing.put_nodes.Given as goal

abbrev pub invariant-loop-k : goal.invariant-loop-k
invariant-loop-k l = l.output ≡ put_over l.initial.output l.at (two_bytes_each (take l.k l.nodes))
