-- The run goes on.
use Rattle.std.proofs.Common.{◌≡◌, None, Err, refl, sym, ap, ◌∙◌, rules}
use Rattle.link.specs.Refusals.{refused}
use Rattle.link.specs.Runs.{fill}
use Rattle.link.proofs.RefusalLaws.{handed_on}
use Rattle.link.proofs.RunLaws.{accepted_on, refused_on}
use Rattle.link.proofs.converter.Converter.fill.Goals as goal

pub returns-in_err-after-clause-run : goal.returns-in_err-after-clause-run
returns-in_err-after-clause-run g c =
    let s = c.args.self.now in
    let m = g.S.Stage.meaning s.stage in
    let out : c.from_residual.result ≡ Err c.in_err-after.field-0.0 = search rules in
    refused_on m (g.S.Stage.lawful s.stage) (fill c.args.budget) s.state c.args.table.now (refused c.from_residual.result) c.in_err-after.field-0.0
    (ap refused out) (handed_on _ _ c.fill_of.result c.from_residual.result c.in_err-after.was out c.fill_of.ensures.refused)

pub returns-clause-run : goal.returns-clause-run
returns-clause-run g c =
    let s = c.args.self.now in
    let m = g.S.Stage.meaning s.stage in
    let stored = c.in_ok-after.ensures in
    accepted_on m (g.S.Stage.lawful s.stage) (fill c.args.budget) s.state c.args.table.now None c.in_ok-after.after c.store.new.table
    refl (sym (ap refused c.in_ok-after.was) ∙ c.fill_of.ensures.refused) stored.state (rw (stored.grid, stored.first, stored.filled) at c.store.ensures)
