-- Checks that pass let the next ones decide, and one that fails decides. Assumes nothing.
use Rattle.std.proofs.Common.{◌≡◌, refl, ap, true, false, List, [], ◌∷◌, ◌++◌, Ok, Err, rules}
use Rattle.std.proofs.lemmas.List.Elements.{All-cons, All-nil}
use Rattle.profile.specs.Checks.{Check, ruled, Passing, FirstFailing}

-- the answer where all pass is the one that was to be given
pub passed : {F A : Type 0} (cs : List (Check F)) (a s : A) → ruled cs a ≡ Ok s → a ≡ s
passed [] a s is = search rules
passed ((true, f) ∷ cs) a s is = passed cs a s is
passed ((false, f) ∷ cs) a s is = search rules

-- whether they pass, and which one fails, does not depend on what is answered; the next ones decide, or not
module _ {F A B : Type 0} where
  pub passes : (cs : List (Check F)) (a s : A) (b : B) → ruled cs a ≡ Ok s → ruled cs b ≡ Ok b
  passes [] a s b is = refl
  passes ((true, f) ∷ cs) a s b is = passes cs a s b is
  passes ((false, f) ∷ cs) a s b is = search rules

  pub fails : (cs : List (Check F)) (a : A) (f : F) (b : B) → ruled cs a ≡ Err f → ruled cs b ≡ Err f
  fails [] a f b is = search rules
  fails ((true, g) ∷ cs) a f b is = fails cs a f b is
  fails ((false, g) ∷ cs) a f b is = search rules

  pub after : (cs ds : List (Check F)) (a s : A) (b : B) → ruled cs a ≡ Ok s → ruled (cs ++ ds) b ≡ ruled ds b
  after [] ds a s b is = refl
  after ((true, f) ∷ cs) ds a s b is = after cs ds a s b is
  after ((false, f) ∷ cs) ds a s b is = search rules

  pub before : (cs ds : List (Check F)) (a : A) (f : F) (b : B) → ruled cs a ≡ Err f → ruled (cs ++ ds) b ≡ Err f
  before [] ds a f b is = search rules
  before ((true, g) ∷ cs) ds a f b is = before cs ds a f b is
  before ((false, g) ∷ cs) ds a f b is = search rules

-- in the subject's words: an answer where all pass, and else the fault of the first that fails
module _ {F A : Type 0} where
  pub all_pass : (cs : List (Check F)) (a s : A) → ruled cs a ≡ Ok s → Passing cs
  all_pass [] a s is = All-nil (λ check. check.0 ≡ true)
  all_pass ((true, f) ∷ cs) a s is = All-cons (λ check. check.0 ≡ true) (true, f) cs refl (all_pass cs a s is)
  all_pass ((false, f) ∷ cs) a s is = search rules

  pub first_fails : (cs : List (Check F)) (a : A) (f : F) → ruled cs a ≡ Err f → FirstFailing cs f
  first_fails [] a f is = search rules
  first_fails ((true, g) ∷ cs) a f is =
      let rest = first_fails cs a f is in
      record { earlier = (true, g) ∷ rest.earlier; later = rest.later; split = ap (λ ds. (true, g) ∷ ds) rest.split; passing = All-cons (λ check. check.0 ≡ true) (true, g) rest.earlier refl rest.passing }
  first_fails ((false, g) ∷ cs) a f is = record { earlier = []; later = cs; split = ap (λ h. (false, h) ∷ cs) (inner is); passing = All-nil (λ check. check.0 ≡ true) }
    where
      inner : ruled ((false, g) ∷ cs) a ≡ Err f → g ≡ f
      inner h = search rules
