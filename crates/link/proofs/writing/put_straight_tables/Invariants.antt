use Rattle.std.proofs.Common.{◌≡◌}
use Rattle.link.specs.Written.{put_over, straight_tables}
use Rattle.link.proofs.writing.put_straight_tables.Given as goal

abbrev pub invariant-loop-k : goal.invariant-loop-k
invariant-loop-k l = l.output ≡ put_over l.initial.output l.at (straight_tables l.k)
