-- Checks that are made in an order: the first that fails gives the fault.
use Rattle.std.specs.Prelude.{◌≡◌, Bool, true, false, cond, List, [], ◌∷◌, ◌++◌, Result, Ok, Err}
use Rattle.std.specs.List.{All}

-- a test, and the fault where it fails
abbrev pub Check : Type 0 → Type 0
Check F = Bool × F

-- the answer a where all checks pass, else the fault of the first that fails
abbrev pub ruled : {F A : Type 0} → List (Check F) → A → Result A F
ruled [] a = Ok a
ruled (check ∷ checks) a = cond check.0 (ruled checks a) (Err check.1)

-- all of them pass
abbrev pub Passing : {F : Type 0} → List (Check F) → Type 0
Passing checks = All (λ check. check.0 ≡ true) checks

-- f is the fault of one that fails, and all before it pass
pub record FirstFailing {F : Type 0} (checks : List (Check F)) (f : F) : Type 0 where
  pub earlier : List (Check F)
  pub later : List (Check F)
  pub split : checks ≡ earlier ++ ((false, f) ∷ later)
  pub passing : Passing earlier
