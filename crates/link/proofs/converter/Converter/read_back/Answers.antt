-- What is written reads back, and answers as the link does.
use Rattle.std.proofs.Common.{◌≡◌, ℕ, List, length, take, Some, Ok, sym, ap, ◌∙◌, rules, arith}
use Rattle.meaning.specs.Colours.{Colour}
use Rattle.meaning.specs.Lattices.{lattice}
use Rattle.link.specs.Calls.{link_length, link_numbers, write_refusal}
use Rattle.link.specs.States.{grid_points}
use Rattle.link.proofs.RefusalLaws.{answers_too}
use Rattle.link.proofs.WriteLaws.{back_answers}
use Rattle.link.proofs.converter.Converter.read_back.Goals as goal

pub returns-clause-answer : goal.returns-clause-answer
returns-clause-answer g c =
    let s = c.args.self.now in
    let m = g.S.Stage.meaning s.stage in
    let table = c.args.table.now in
    let colour = c.args.colour.now in
    let long = c.in_ok-length.length in
    let nodes = take (link_numbers m s.state) table in
    let is_colour : Colour colour = record { long = c.told-colour; within = λ k. omega (arith, c.fits-colour k) } in
    let written = take long c.write.new.output in
    let back = back_answers m.ins m.outs (grid_points s.state) nodes written c.in_ok-length.ensures.back colour is_colour in
    let answer = (lattice m.ins m.outs (grid_points s.state) nodes).answer colour in
    let read : c.answer_of.result ≡ Some answer = rw c.answer_of.ensures back in
    let is : c.unwrap.result ≡ answer = inner (sym c.unwrap.ensures ∙ read) in
    ap Ok is ∙ answers_too (write_refusal m s.state (length table) (length c.args.output.now)) (link_length m s.state) long answer (sym c.in_ok-length.was ∙ c.write.ensures.answer)
  where
    inner : {x y : List ℕ} → Some x ≡ Some y → x ≡ y
    inner h = search rules
