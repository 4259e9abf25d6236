use Rattle.std.proofs.Common.{◌≡◌, ◌+◌, ◌-◌, ◌*◌, ◌/◌, ◌%◌, ◌∙◌, arith}
use Rattle.meaning.specs.Sums.{samples}
use Rattle.meaning.proofs.Sampling.{samples_limit}
use Rattle.stage.specs.Curves.{curve_entry}
use Rattle.stage.proofs.Blending.{blend_samples}
use Rattle.stage.proofs.curves.Curve.samples.Goals as goal

pub returns : goal.returns
returns g c =
    let t = curve_entry g.E.Entries.counts c.args.self.now.curves.now c.args.self.now.channel in
    let position = c.args.position in
    let low : c.from-low.result ≡ t (position / 65535) = c.from-low.ensures ∙ c.entry.ensures in
    let high : c.from-high.result ≡ t (position / 65535 + 1) = c.from-high.ensures ∙ c.entry-2.ensures in
    let blended : c.blend.result ≡ (65535 - position % 65535) * t (position / 65535) + position % 65535 * t (position / 65535 + 1) = rw (low, high) at c.blend.ensures in
    let sum : c.blend.result ≡ samples t 65535 position = blended ∙ blend_samples t position in
    record { value = sum; limit = let l = samples_limit t 65535 position 65535 (λ i. omega arith) in omega (arith, sum, l) }
