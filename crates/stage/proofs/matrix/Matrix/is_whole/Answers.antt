use Rattle.std.proofs.Common.{rules, tests}
use Rattle.std.proofs.lemmas.Iterator.{YieldsList-from_slice}
use Rattle.std.proofs.lemmas.Iterator.Search.{all_from_yields_List}
use Rattle.meaning.specs.Matrices.{is_whole_number}
use Rattle.stage.proofs.matrix.Matrix.is_whole.Goals as goal

pub returns : goal.returns
returns c = all_from_yields_List is_whole_number c.all.new.self _ _ c.all.ensures.ran (YieldsList-from_slice c.args.self.now.coefficients cc) (λ x b q k. search (rules, tests))
