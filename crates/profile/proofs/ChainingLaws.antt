-- A profile that is refused ends the opening of a chain, whatever comes after it. Assumes nothing.
use Rattle.std.proofs.Common.{◌≡◌, ℕ, ◌+◌, ◌<◌, List, [], ◌∷◌, length, take, drop, get_or, Ok, Err, refl, sym, ap, ◌∙◌}
use Rattle.std.specs.List.{fold}
use Rattle.std.proofs.lemmas.List.{take_more, take-append-drop}
use Rattle.std.proofs.lemmas.List.Sums.{fold-append}
use Rattle.profile.specs.declared.chain.ChainError.{ChainError}
use Rattle.profile.specs.declared.chain.Source.{Source}
use Rattle.profile.specs.Chaining.{Chained, begun, lengthened, joined_on, offered, opened_chain}

-- an error stays
pub stuck : (e : ChainError) (rest : List Source) → fold joined_on (Err e) rest ≡ Err e
stuck e [] = refl
stuck e (s ∷ rest) = stuck e rest

module _ (first : Source) (rest : List Source) where
  -- an error of the first profile
  pub failed_first : (e : ChainError) → Err e ≡ begun (offered first) → Err e ≡ opened_chain first rest
  failed_first e h = sym (stuck e rest) ∙ ap (λ r. fold joined_on r rest) h

  module _ (i : ℕ) (d : Source) (l : i < length rest) where
    -- one profile more
    pub through : opened_chain first (take (i + 1) rest) ≡ joined_on (opened_chain first (take i rest)) (get_or rest i d)
    through =
        let start = begun (offered first) in
        ap (fold joined_on start) (take_more rest i d l) ∙ fold-append joined_on start (take i rest) (get_or rest i d ∷ [])

    -- what is answered is what the profiles up to one and then those after it give
    split : opened_chain first rest ≡ fold joined_on (joined_on (opened_chain first (take i rest)) (get_or rest i d)) (drop (i + 1) rest)
    split =
        let start = begun (offered first) in
        ap (fold joined_on start) (sym (take-append-drop (i + 1) rest))
        ∙ fold-append joined_on start (take (i + 1) rest) (drop (i + 1) rest)
        ∙ ap (λ r. fold joined_on r (drop (i + 1) rest)) through

    -- an error of a later one
    pub failed_later : (e : ChainError) (c : Chained) → Ok c ≡ opened_chain first (take i rest) → Err e ≡ lengthened c (offered (get_or rest i d)) → Err e ≡ opened_chain first rest
    failed_later e c so_far h =
        let after = drop (i + 1) rest in
        sym (stuck e after) ∙ ap (λ r. fold joined_on r after) (h ∙ ap (λ r. joined_on r (get_or rest i d)) so_far) ∙ sym split
