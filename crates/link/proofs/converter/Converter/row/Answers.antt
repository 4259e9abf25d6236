-- The row keeps its bound, after every run too, and the run goes on.
use Rattle.std.proofs.Common.{None, Some, refl, sym, ◌∙◌}
use Rattle.link.specs.Rows.{shape_of}
use Rattle.link.specs.Runs.{row}
use Rattle.link.proofs.RowLaws.{row_delivers}
use Rattle.link.proofs.RunLaws.{after_runs, same_on}
use Rattle.link.proofs.converter.Converter.row.Goals as goal

pub returns-in-Some-clause-law : goal.returns-in-Some-clause-law
returns-in-Some-clause-law g c = λ table.
    let s = c.args.self.now in
    after_runs (g.S.Stage.meaning s.stage) (g.S.Stage.lawful s.stage) s.state table _ (λ _ _ _. tt)

pub returns-in-Some-clause-run : goal.returns-in-Some-clause-run
returns-in-Some-clause-run g c = λ table.
    let s = c.args.self.now in
    let shape = shape_of g.P.Pixel.kind g.Q.Pixel.kind c.args.entering.now c.args.leaving.now in
    same_on (g.S.Stage.meaning s.stage) (g.S.Stage.lawful s.stage) (row shape) s.state table (Some c.in-Some.refusal)
    (sym c.in-Some.is ∙ c.pixels_refused.ensures.answer) refl refl

pub returns-clause-within : goal.returns-clause-within
returns-clause-within g c =
    let m = g.S.Stage.meaning c.args.self.now.stage in
    rw (c.deliver_directly.ensures.leaving, c.deliver_directly.ensures.bound)
    (row_delivers m g.P.Pixel.kind g.Q.Pixel.kind (g.S.Stage.lawful c.args.self.now.stage) g.P.Pixel.lawful g.Q.Pixel.lawful c.args.entering.now)

pub returns-clause-law : goal.returns-clause-law
returns-clause-law g c = λ table.
    let s = c.args.self.now in
    after_runs (g.S.Stage.meaning s.stage) (g.S.Stage.lawful s.stage) s.state table _ (λ _ _ _. returns-clause-within g c)

pub returns-clause-run : goal.returns-clause-run
returns-clause-run g c = λ table.
    let s = c.args.self.now in
    let shape = shape_of g.P.Pixel.kind g.Q.Pixel.kind c.args.entering.now c.args.leaving.now in
    same_on (g.S.Stage.meaning s.stage) (g.S.Stage.lawful s.stage) (row shape) s.state table None
    (sym c.in_default.is ∙ c.pixels_refused.ensures.answer) refl refl
