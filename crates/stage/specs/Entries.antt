-- The counts that profile bytes stand for.
use Rattle.std.specs.Prelude.{ℕ, ◌+◌, ◌*◌, List, [], ◌∷◌}

-- two bytes an entry, the high one first; a lone last byte is no entry
abbrev pub wide : List ℕ → List ℕ
wide [] = []
wide (high ∷ []) = []
wide (high ∷ (low ∷ bytes)) = (256 * high + low) ∷ wide bytes
