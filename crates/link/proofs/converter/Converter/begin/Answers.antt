-- The run goes on.
use Rattle.std.proofs.Common.{◌≡◌, None, Err, refl, sym, ap, ◌∙◌, rules}
use Rattle.link.specs.Refusals.{refused}
use Rattle.link.specs.Runs.{begin}
use Rattle.link.proofs.RefusalLaws.{answered_value, handed_on, refused_answered}
use Rattle.link.proofs.RunLaws.{accepted_on, refused_on}
use Rattle.link.proofs.StateLaws.{sound_begun}
use Rattle.link.proofs.converter.Converter.begin.Goals as goal

pub returns-in_err-self-inside-clause-run : goal.returns-in_err-self-inside-clause-run
returns-in_err-self-inside-clause-run g c =
    let s = c.args.self.now in
    let m = g.S.Stage.meaning s.stage in
    let out : c.from_residual.result ≡ Err c.in_err-self-inside.field-0.0 = search rules in
    let told = refused_answered _ _ c.begun.result c.begun.ensures.state in
    refused_on m (g.S.Stage.lawful s.stage) (begin c.args.grid) s.state c.args.table.now (refused c.from_residual.result) c.in_err-self-inside.field-0.0
    (ap refused out) (handed_on _ _ c.begun.result c.from_residual.result c.in_err-self-inside.was out told)

pub invariant_of-self : goal.invariant_of-self
invariant_of-self g c =
    sound_begun (g.S.Stage.meaning c.self.inside.stage).ins c.args.grid c.in_ok-self-inside.ensures.some c.in_ok-self-inside.field-0
    (answered_value _ _ _ (sym c.in_ok-self-inside.was ∙ c.begun.ensures.state))

pub returns-clause-run : goal.returns-clause-run
returns-clause-run g c =
    let s = c.args.self.now in
    let m = g.S.Stage.meaning s.stage in
    let told = refused_answered _ _ c.begun.result c.begun.ensures.state in
    let value = answered_value _ _ _ (sym c.in_ok-self-inside.was ∙ c.begun.ensures.state) in
    accepted_on m (g.S.Stage.lawful s.stage) (begin c.args.grid) s.state c.args.table.now None c.in_ok-self-inside.field-0 c.args.table.now
    refl (sym (ap refused c.in_ok-self-inside.was) ∙ told) value refl
