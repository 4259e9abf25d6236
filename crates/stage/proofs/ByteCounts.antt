-- The counts that pairs of bytes stand for. Assumes nothing.
use Rattle.std.proofs.Common.{◌≡◌, ℕ, suc, ◌+◌, ◌*◌, ◌/◌, List, [], ◌∷◌, map, length, slice_index, refl, arith}
use Rattle.std.specs.Simd.{first_chunks}
use Rattle.stage.specs.Entries.{wide}

-- the whole pairs, one by one
pub wide_pairs : (bytes : List ℕ) → wide bytes ≡ map (λ pair. 256 * slice_index pair 0 + slice_index pair 1) (first_chunks 2 (length bytes / 2) bytes)
wide_pairs [] = refl
wide_pairs (high ∷ []) = refl
wide_pairs (high ∷ (low ∷ bytes)) =
    let more : suc (suc (length bytes)) / 2 ≡ suc (length bytes / 2) = omega arith in
    rw (more, wide_pairs bytes) refl
