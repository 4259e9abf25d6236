-- Two entries weighed by the rest of a position are the samples of their table there. Assumes nothing.
use Rattle.std.proofs.Common.{◌≡◌, ℕ, ◌+◌, ◌-◌, ◌*◌, ◌/◌, ◌%◌, sym, ap, ◌∙◌, div-add-mod', arith}
use Rattle.meaning.specs.Sums.{samples}
use Rattle.meaning.proofs.Sampling.{samples_closed}

pub blend_samples : (t : ℕ → ℕ) (position : ℕ) → (65535 - position % 65535) * t (position / 65535) + position % 65535 * t (position / 65535 + 1) ≡ samples t 65535 position
blend_samples t position =
    sym (samples_closed t 65535 (position / 65535) (position % 65535) (omega arith) (omega arith)) ∙ ap (samples t 65535) (div-add-mod' position 65535)
