-- One node more is stored behind those that are, and the walk steps on to the next. Assumes nothing.
use Rattle.std.proofs.Common.{◌≡◌, ◌+◌, sym, subst, add-zero, add_assoc, rules, arith}
use Rattle.link.specs.Walks.{StandsAt}
use Rattle.link.proofs.FillLaws.{none_stored, one_more, all_stored}
use Rattle.link.proofs.filling.store.Goals as goal

pub loop-k-init : goal.loop-k-init
loop-k-init g c =
    let m = g.S.Stage.meaning c.args.stage.now in
    record {
      stored = none_stored m c.args.grid.0 c.args.first c.args.count c.number-outs.result c.args.part.now (search rules);
      walk = rw add-zero (rw c.ins.ensures at c.at-walk.ensures);
    }

pub step-requires-clause-here : goal.step-requires-clause-here
step-requires-clause-here g c =
    let ins = (g.S.Stage.meaning c.args.stage.now).ins in
    let here = c.loop-k.invariant.walk in
    rw c.ins-in-loop-k.ensures (subst (λ points. StandsAt ins points (c.args.first + c.loop-k.k) c.loop-k.walk) (sym here.grid) here)

pub loop-k-preserved : goal.loop-k-preserved
loop-k-preserved g c =
    let m = g.S.Stage.meaning c.args.stage.now in
    let colour = c.loop-k.invariant.walk.colour in
    record {
      stored = one_more m c.args.grid.0 c.args.first c.args.count c.number-outs.result c.loop-k.k c.loop-k.part c.copy_from_slice.new.self (omega (arith, c.loop-k-test.true)) c.copy_from_slice.ensures.len (search rules) c.loop-k.invariant.stored;
      walk = rw (c.ins-in-loop-k.ensures, c.loop-k.invariant.walk.grid, add_assoc) at c.step.ensures;
    }

pub returns : goal.returns
returns g c =
    let all : c.loop-k.k ≡ c.args.count = omega (arith, c.loop-k-test.false, c.loop-k.auto.k-end) in
    all_stored (g.S.Stage.meaning c.args.stage.now) c.args.grid.0 c.args.first c.args.count c.number-outs.result c.loop-k.part (rw all at c.loop-k.invariant.stored)
