use Rattle.std.proofs.Common.{◌∙◌}
use Rattle.meaning.specs.Curves.{entry}
use Rattle.stage.proofs.LegLaws.{corners_sum}
use Rattle.stage.proofs.lattice.Lattice.tetrahedron.Goals as goal

pub returns-clause-value : goal.returns-clause-value
returns-clause-value g c =
    rw (c.entry.ensures, c.entry-2.ensures, c.entry-3.ensures, c.entry-4.ensures, c.corners.ensures.places) at c.weigh.ensures.value
    ∙ corners_sum (entry (g.E.Entries.counts c.args.self.now.table)) c.args.legs.now c.args.place c.corners.ensures.order
