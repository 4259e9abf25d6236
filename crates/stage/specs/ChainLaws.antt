-- Chains keep the laws, since joining does, and take what their first stage takes. Proofs by recursion on the list, with no
-- tactic: they stand here because `Chain` cites them as its `lawful`, and a contract may cite no proofs/ of its own crate.
-- Assumes nothing.
use Rattle.std.specs.Prelude.{◌≡◌, List, [], ◌∷◌, fold, refl}
use Rattle.meaning.proofs.JoinLaws.{joining_lawful}
use Rattle.meaning.specs.Stages.{Meaning, Lawful, joined}

module _ {S : Type 0} (means : S → Meaning) where
  -- lawful stages joined on to a lawful meaning leave it lawful
  pub chained_lawful : ((s : S) → Lawful (means s)) → (before : Meaning) → Lawful before → (rest : List S) → Lawful (fold (λ m s. joined m (means s)) before rest)
  chained_lawful laws before l [] = l
  chained_lawful laws before l (next ∷ rest) = chained_lawful laws (joined before (means next)) (joining_lawful before (means next) l (laws next)) rest

  pub chained_ins : (before : Meaning) (rest : List S) → (fold (λ m s. joined m (means s)) before rest).ins ≡ before.ins
  chained_ins before [] = refl
  chained_ins before (next ∷ rest) = chained_ins (joined before (means next)) rest
