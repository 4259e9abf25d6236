use Rattle.profile.proofs.OpeningLaws.{passes_all, fails_first}
use Rattle.profile.proofs.PartLaws.{tables_lie, taken}
use Rattle.profile.proofs.opening.open.Goals as goal

pub returns : goal.returns
returns c =
    let b = c.args.bytes.now in
    let t = c.args.tag in
    let r = c.read.result in
    record {
      value = c.read.ensures;
      passing = passes_all b t r c.read.ensures;
      taken = taken b t r c.read.ensures;
      parts = tables_lie b t r c.read.ensures;
      first = fails_first b t r c.read.ensures;
    }
