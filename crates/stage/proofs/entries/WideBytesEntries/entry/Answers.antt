use Rattle.std.proofs.Common.{arith}
use Rattle.std.proofs.lemmas.Grind.{common_steps}
use Rattle.stage.proofs.ByteCounts.{wide_pairs}
use Rattle.stage.proofs.entries.WideBytesEntries.entry.Goals as goal

pub returns : goal.returns
returns c = rw (wide_pairs c.args.self.now.0.now, ← c.as_chunks.ensures.front) (grind (arith, common_steps))
