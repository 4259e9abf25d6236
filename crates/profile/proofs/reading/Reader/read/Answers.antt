use Rattle.std.proofs.Common.{◌≡◌, sym, ap, ◌∙◌, Ok, Err, rules}
use Rattle.profile.specs.Checks.{ruled}
use Rattle.profile.specs.Elements.{table_checks, laid_out, layout}
use Rattle.profile.specs.Shapes.{shape_checks, shape}
use Rattle.profile.specs.Views.{element_viewed}
use Rattle.profile.proofs.CheckLaws.{passed, passes, fails, after}
use Rattle.profile.proofs.reading.Reader.read.Goals as goal

pub returns-in_err-check_tables : goal.returns-in_err-check_tables
returns-in_err-check_tables c =
    let e = c.args.self.now.bytes.now in
    let at = c.args.self.now.place in
    let i = c.args.takes in
    let o = c.args.gives in
    let first = shape_checks e at i o in
    let last = table_checks e at (shape e i o) in
    let shaped = sym c.shape.ensures ∙ c.in_ok-shape.was in
    let tables = ap (λ s. ruled (table_checks e at s) tt) (passed first _ _ shaped) ∙ sym c.check_tables.ensures ∙ c.in_err-check_tables.was in
    let out : c.from_residual-in_err-check_tables.result ≡ Err c.in_err-check_tables.field-0.0 = search rules in
    ap element_viewed out ∙ sym (after first last _ _ (layout e at i o) shaped ∙ fails last _ _ _ tables)

pub returns : goal.returns
returns c =
    let e = c.args.self.now.bytes.now in
    let at = c.args.self.now.place in
    let i = c.args.takes in
    let o = c.args.gives in
    let first = shape_checks e at i o in
    let last = table_checks e at (shape e i o) in
    let shaped = sym c.shape.ensures ∙ c.in_ok-shape.was in
    let same = passed first _ _ shaped in
    let tables = ap (λ s. ruled (table_checks e at s) tt) same ∙ sym c.check_tables.ensures ∙ c.in_ok-check_tables.was in
    ap Ok (c.element.ensures ∙ ap (laid_out e at) (sym same)) ∙ sym (after first last _ _ (layout e at i o) shaped ∙ passes last _ _ _ tables)
