-- The row keeps its bound after every run, the run goes on, and the whole promise is kept.
use Rattle.std.proofs.Common.{◌≡◌, length, None, Some, Err, refl, sym, ap, ◌∙◌, rules}
use Rattle.link.specs.Calls.{link_checks}
use Rattle.link.specs.Refusals.{refused}
use Rattle.link.specs.Rows.{row_checks, shape_of}
use Rattle.link.specs.Runs.{link_row}
use Rattle.link.specs.declared.state.Event.TheVariants.{LinkRow}
use Rattle.link.proofs.LinkRows.{every_run_upholds, link_row_delivers}
use Rattle.link.proofs.RefusalLaws.{accepted_first, handed_on, refused_first}
use Rattle.link.proofs.RunLaws.{after_runs, same_on}
use Rattle.link.proofs.converter.Converter.link_row.Goals as goal

pub returns-in-Some-clause-law : goal.returns-in-Some-clause-law
returns-in-Some-clause-law g c =
    let s = c.args.self.now in
    after_runs (g.S.Stage.meaning s.stage) (g.S.Stage.lawful s.stage) s.state c.args.table.now _ (λ _ _ _. tt)

pub returns-in-Some-clause-run : goal.returns-in-Some-clause-run
returns-in-Some-clause-run g c =
    let s = c.args.self.now in
    let m = g.S.Stage.meaning s.stage in
    let table = c.args.table.now in
    let shape = shape_of g.P.Pixel.kind g.Q.Pixel.kind c.args.entering.now c.args.leaving.now in
    same_on m (g.S.Stage.lawful s.stage) (link_row shape) s.state table (Some c.in-Some.refusal)
    (refused_first (row_checks m shape) (link_checks m s.state LinkRow (length table)) c.in-Some.refusal (sym c.in-Some.is ∙ c.pixels_refused.ensures.answer)) refl refl

pub returns-in-Some-clause-promise : goal.returns-in-Some-clause-promise
returns-in-Some-clause-promise g c =
    let stage = c.args.self.now.stage in
    every_run_upholds (g.S.Stage.meaning stage) g.P.Pixel.kind g.Q.Pixel.kind (g.S.Stage.lawful stage) g.P.Pixel.lawful g.Q.Pixel.lawful

pub returns-in_err-link-clause-law : goal.returns-in_err-link-clause-law
returns-in_err-link-clause-law g c =
    let s = c.args.self.now in
    let out : c.from_residual.result ≡ Err c.in_err-link.field-0.0 = search rules in
    after_runs (g.S.Stage.meaning s.stage) (g.S.Stage.lawful s.stage) s.state c.args.table.now _ (λ _ _ _. rw out tt)

pub returns-in_err-link-clause-run : goal.returns-in_err-link-clause-run
returns-in_err-link-clause-run g c =
    let s = c.args.self.now in
    let m = g.S.Stage.meaning s.stage in
    let table = c.args.table.now in
    let shape = shape_of g.P.Pixel.kind g.Q.Pixel.kind c.args.entering.now c.args.leaving.now in
    let out : c.from_residual.result ≡ Err c.in_err-link.field-0.0 = search rules in
    same_on m (g.S.Stage.lawful s.stage) (link_row shape) s.state table (refused c.from_residual.result)
    (handed_on _ _ c.lent.result c.from_residual.result c.in_err-link.was out c.lent.ensures.refused
    ∙ accepted_first (row_checks m shape) (link_checks m s.state LinkRow (length table)) (sym c.in_default.is ∙ c.pixels_refused.ensures.answer)) refl refl

pub returns-in_err-link-clause-promise : goal.returns-in_err-link-clause-promise
returns-in_err-link-clause-promise g c =
    let stage = c.args.self.now.stage in
    every_run_upholds (g.S.Stage.meaning stage) g.P.Pixel.kind g.Q.Pixel.kind (g.S.Stage.lawful stage) g.P.Pixel.lawful g.Q.Pixel.lawful

pub returns-clause-law : goal.returns-clause-law
returns-clause-law g c =
    let s = c.args.self.now in
    let m = g.S.Stage.meaning s.stage in
    let lent = c.in_ok-link.ensures in
    let accepted = sym (ap refused c.in_ok-link.was) ∙ c.lent.ensures.refused in
    after_runs m (g.S.Stage.lawful s.stage) s.state c.args.table.now _ (λ t₀ log r.
    rw (c.deliver_through.ensures.leaving, c.deliver_through.ensures.bound, lent.grid, lent.nodes)
    (link_row_delivers m g.P.Pixel.kind g.Q.Pixel.kind (g.S.Stage.lawful s.stage) g.P.Pixel.lawful g.Q.Pixel.lawful s.state c.args.table.now (c.pixels_refused.ensures.enters c.in_default.is) accepted c.args.entering.now t₀ log r))

pub returns-clause-run : goal.returns-clause-run
returns-clause-run g c =
    let s = c.args.self.now in
    let m = g.S.Stage.meaning s.stage in
    let table = c.args.table.now in
    let shape = shape_of g.P.Pixel.kind g.Q.Pixel.kind c.args.entering.now c.args.leaving.now in
    same_on m (g.S.Stage.lawful s.stage) (link_row shape) s.state table None
    (sym (ap refused c.in_ok-link.was) ∙ c.lent.ensures.refused
    ∙ accepted_first (row_checks m shape) (link_checks m s.state LinkRow (length table)) (sym c.in_default.is ∙ c.pixels_refused.ensures.answer)) refl refl

pub returns-clause-promise : goal.returns-clause-promise
returns-clause-promise g c =
    let stage = c.args.self.now.stage in
    every_run_upholds (g.S.Stage.meaning stage) g.P.Pixel.kind g.Q.Pixel.kind (g.S.Stage.lawful stage) g.P.Pixel.lawful g.Q.Pixel.lawful
