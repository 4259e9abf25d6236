use Rattle.std.proofs.Common.{◌≡◌, sym, ap, ◌∙◌, Ok, Err, rules}
use Rattle.profile.specs.Checks.{ruled}
use Rattle.profile.specs.Directories.{directory_checks, found}
use Rattle.profile.specs.Opening.{viewed}
use Rattle.profile.specs.Views.{element_viewed}
use Rattle.profile.proofs.OpeningLaws.{header_fails, directory_fails, element_fails, element_passes, element_read}
use Rattle.profile.proofs.opening.Opened.read.Goals as goal

pub returns-in_err-header : goal.returns-in_err-header
returns-in_err-header c =
    let out : c.from_residual.result ≡ Err c.in_err-header.field-0.0 = search rules in
    ap viewed out ∙ sym (header_fails c.args.bytes.now c.args.tag _ (sym c.read.ensures.value ∙ c.in_err-header.was))

pub returns-in_err-found : goal.returns-in_err-found
returns-in_err-found c =
    let b = c.args.bytes.now in
    let placed = ap (λ w. ruled (directory_checks b w) (found b w)) (sym c.signature.ensures) ∙ sym c.read-2.ensures.value ∙ c.in_err-found.was in
    let out : c.from_residual-in_err-found.result ≡ Err c.in_err-found.field-0.0 = search rules in
    ap viewed out ∙ sym (directory_fails b c.args.tag _ (sym c.read.ensures.value ∙ c.in_ok-header.was) _ placed)

pub returns-in_err-element : goal.returns-in_err-element
returns-in_err-element c =
    let b = c.args.bytes.now in
    let t = c.args.tag in
    let named = sym c.read.ensures.value ∙ c.in_ok-header.was in
    let placed = ap (λ w. ruled (directory_checks b w) (found b w)) (sym c.signature.ensures) ∙ sym c.read-2.ensures.value ∙ c.in_ok-found.was in
    let out : c.from_residual-in_err-element.result ≡ Err c.in_err-element.field-0.0 = search rules in
    let told : element_viewed c.read_element.result ≡ element_read b t c.in_ok-header.header c.in_ok-found.found = rw (c.reader.ensures.place, c.reader.ensures.bytes) at c.read_element.ensures in
    ap viewed out ∙ sym (element_fails b t _ named _ placed _ (sym told ∙ ap element_viewed c.in_err-element.was))

pub returns : goal.returns
returns c =
    let b = c.args.bytes.now in
    let t = c.args.tag in
    let named = sym c.read.ensures.value ∙ c.in_ok-header.was in
    let placed = ap (λ w. ruled (directory_checks b w) (found b w)) (sym c.signature.ensures) ∙ sym c.read-2.ensures.value ∙ c.in_ok-found.was in
    let told : element_viewed c.read_element.result ≡ element_read b t c.in_ok-header.header c.in_ok-found.found = rw (c.reader.ensures.place, c.reader.ensures.bytes) at c.read_element.ensures in
    ap Ok c.opened.ensures ∙ sym (element_passes b t _ named _ placed _ (sym told ∙ ap element_viewed c.in_ok-element.was))
