-- The run goes on, and what is written reads back.
use Rattle.std.proofs.Common.{◌≡◌, drop, length, None, Err, refl, sym, ap, ◌∙◌, rules}
use Rattle.link.specs.Calls.{numbers_of}
use Rattle.link.specs.Refusals.{refused}
use Rattle.link.specs.Runs.{write}
use Rattle.link.specs.Written.{written_length}
use Rattle.stage.specs.Lattices.{points}
use Rattle.link.proofs.RefusalLaws.{handed_on}
use Rattle.link.proofs.RunLaws.{same_on}
use Rattle.link.proofs.WriteLaws.{write_reads_back}
use Rattle.link.proofs.converter.Converter.write.Goals as goal

pub returns-in_err-link-clause-run : goal.returns-in_err-link-clause-run
returns-in_err-link-clause-run g c =
    let s = c.args.self.now in
    let out : c.from_residual.result ≡ Err c.in_err-link.field-0.0 = search rules in
    same_on (g.S.Stage.meaning s.stage) (g.S.Stage.lawful s.stage) (write (length c.args.output.now)) s.state c.args.table.now (refused c.from_residual.result)
    (handed_on _ _ c.to_write.result c.from_residual.result c.in_err-link.was out c.to_write.ensures.refused) refl refl

pub returns-clause-back : goal.returns-clause-back
returns-clause-back g c =
    let m = g.S.Stage.meaning c.args.self.now.stage in
    let link = c.in_ok-link.link in
    let told = c.in_ok-link.ensures in
    let rest = drop (written_length m.ins m.outs (length link.nodes.now)) c.args.output.now in
    write_reads_back m.ins m.outs (points link.grid) link.nodes.now rest told.some (told.long ∙ ap (numbers_of m) (sym told.grid)) _ _ c.in_ok-link.length c.put.new.output
    told.grid told.nodes (told.length ∙ ap (written_length m.ins m.outs) (sym told.long)) c.put.ensures

pub returns-clause-run : goal.returns-clause-run
returns-clause-run g c =
    let s = c.args.self.now in
    same_on (g.S.Stage.meaning s.stage) (g.S.Stage.lawful s.stage) (write (length c.args.output.now)) s.state c.args.table.now None
    (sym (ap refused c.in_ok-link.was) ∙ c.to_write.ensures.refused) refl refl
