use Rattle.meaning.proofs.RowSums.{product_fits, product_small, product_value}
use Rattle.stage.proofs.matrix.product.Goals as goal

pub overflow_mul-result : goal.overflow_mul-result
overflow_mul-result c =
    product_fits c.args.e c.from.result c.from-2.result c.args.a c.ranges.e c.ranges.a.fits c.from.ensures c.from-2.ensures

pub returns : goal.returns
returns c =
    let e = c.args.e in
    let a = c.args.a in
    let is = product_value e c.from.result c.from-2.result a c.ranges.e c.ranges.a.fits c.from.ensures c.from-2.ensures in
    let small = product_small e a c.ranges.e c.ranges.a.fits in
    record { value = is; adds = rw is small.0; takes = rw is small.1 }
