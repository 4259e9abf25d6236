-- Why a call was refused, by its answer; and a refused call leaves what it was. Assumes nothing.
use Rattle.std.proofs.Common.{◌≡◌, Bool, true, false, List, [], ◌∷◌, ◌++◌, refl, ap, ◌∙◌, Some, None, Ok, Err, Option, Result, sym, rules}
use Rattle.link.specs.declared.refusal.Refusal.{Refusal}
use Rattle.link.specs.Refusals.{answered, refused, left, unless, first_refusal, Accepted}

told : {A : Type 0} (o : Option Refusal) (a : A) → refused (answered o a) ≡ o
told None a = refl
told (Some e) a = refl

-- the answer tells the refusal
pub refused_answered : {A : Type 0} (o : Option Refusal) (a : A) (r : Result A Refusal) → r ≡ answered o a → refused r ≡ o
refused_answered o a r is = ap refused is ∙ told o a

-- what nothing changes is left as it was, refused or not
pub left_same : {A : Type 0} (o : Option Refusal) (a : A) → a ≡ left o a a
left_same None a = refl
left_same (Some e) a = refl

-- what one answer was refused for, another that hands the refusal on is
pub handed_on : {A B : Type 0} (o : Option Refusal) (e : Refusal) (r : Result A Refusal) (q : Result B Refusal) → r ≡ Err e → q ≡ Err e → refused r ≡ o → refused q ≡ o
handed_on o e r q first second is = ap refused second ∙ sym (ap refused first) ∙ is

-- the value of an accepted answer
pub answered_value : {A : Type 0} (o : Option Refusal) (a v : A) → Ok v ≡ answered o a → v ≡ a
answered_value None a v h = search rules
answered_value (Some e) a v h = absurd (cc)

-- several checks and then others: what the first refuse is refused, and where they accept, the others decide
pub refused_first : (first later : List (Option Refusal)) (e : Refusal) → Some e ≡ first_refusal first → Some e ≡ first_refusal (first ++ later)
refused_first [] later e h = absurd (cc)
refused_first (None ∷ first) later e h = refused_first first later e h
refused_first (Some x ∷ first) later e h = h

pub accepted_first : (first later : List (Option Refusal)) → None ≡ first_refusal first → first_refusal later ≡ first_refusal (first ++ later)
accepted_first [] later h = refl
accepted_first (None ∷ first) later h = accepted_first first later h
accepted_first (Some x ∷ first) later h = absurd (cc)

-- where a call is accepted, neither its first check refuses it nor those after it
pub accepts : (o : Option Refusal) (later : List (Option Refusal)) → None ≡ first_refusal (o ∷ later) → (o ≡ None) × (None ≡ first_refusal later)
accepts None later h = (refl, h)
accepts (Some e) later h = absurd (cc)

-- a test that refuses nothing holds
pub holds : (b : Bool) (e : Refusal) → unless b e ≡ None → b ≡ true
holds true e h = refl
holds false e h = absurd (cc)

-- a test is the first check of an accepted call: it holds, and those after it accept
pub first_holds : (b : Bool) (e : Refusal) (later : List (Option Refusal)) → None ≡ first_refusal (unless b e ∷ later) → (b ≡ true) × (None ≡ first_refusal later)
first_holds b e later h = let first = accepts (unless b e) later h in (holds b e first.0, first.1)

-- what holds where a call is not refused holds of the value of an accepted call
pub accepted : {A : Type 0} (P : A → Type 0) (o : Option Refusal) (a : A) (r : Result A Refusal) → r ≡ answered o a → (None ≡ o → P a) → Accepted r P
accepted P None a r is h = rw is (h refl)
accepted P (Some e) a r is h = rw is tt

-- where one value is answered, each other is
pub answers_too : {A B : Type 0} (o : Option Refusal) (a v : A) (b : B) → Ok v ≡ answered o a → Ok b ≡ answered o b
answers_too None a v b h = refl
answers_too (Some e) a v b h = search rules
