-- The answer of a chain, which is worked out profile by profile, in the words of its profiles. Assumes nothing.
use Rattle.std.proofs.Common.{◌≡◌, ◌≢◌, ℕ, List, [], ◌∷◌, ◌++◌, length, map, Bool, true, false, ◌==◌, nat_lt, cond, Result, Ok, Err, append-nil, append_assoc, length-append, arith, refl, sym, ap, subst, ◌∙◌, rules}
use Rattle.std.specs.List.{fold}
use Rattle.std.proofs.lemmas.Bool.{ltb-false}
use Rattle.std.proofs.lemmas.List.{map-append}
use Rattle.profile.specs.declared.chain.ChainError.{ChainError}
use Rattle.profile.specs.declared.chain.ChainError.TheVariants.{Profile, Spaces, Room}
use Rattle.profile.specs.declared.chain.ElementChain.{ElementChain}
use Rattle.profile.specs.declared.chain.Source.{Source}
use Rattle.profile.specs.declared.fault.Fault.{Fault}
use Rattle.profile.specs.declared.space.Space.{Space}
use Rattle.profile.specs.declared.space.Space.TheVariants.{Gray, Rgb, Cmyk, Lab, Xyz}
use Rattle.profile.specs.Chaining.{Chained, begun, joined_on, lengthened, next_position, offered, opened_chain, opened_within}
use Rattle.profile.specs.ChainViews.{chain_answer, chain_view}
use Rattle.profile.specs.Meetings.{MeetFrom, Meet, OpenAndMeet, OpenUntil, Says}
use Rattle.profile.specs.Opening.{Opening}
use Rattle.profile.specs.Spaces.{letters}
use Rattle.profile.proofs.ChainingLaws.{stuck}

-- no two spaces have the same letters
same_letters : (s t : Space) → letters s == letters t ≡ true → s ≡ t
same_letters Gray Gray h = refl
same_letters Gray Rgb h = search rules
same_letters Gray Cmyk h = search rules
same_letters Gray Lab h = search rules
same_letters Gray Xyz h = search rules
same_letters Rgb Gray h = search rules
same_letters Rgb Rgb h = refl
same_letters Rgb Cmyk h = search rules
same_letters Rgb Lab h = search rules
same_letters Rgb Xyz h = search rules
same_letters Cmyk Gray h = search rules
same_letters Cmyk Rgb h = search rules
same_letters Cmyk Cmyk h = refl
same_letters Cmyk Lab h = search rules
same_letters Cmyk Xyz h = search rules
same_letters Lab Gray h = search rules
same_letters Lab Rgb h = search rules
same_letters Lab Cmyk h = search rules
same_letters Lab Lab h = refl
same_letters Lab Xyz h = search rules
same_letters Xyz Gray h = search rules
same_letters Xyz Rgb h = search rules
same_letters Xyz Cmyk h = search rules
same_letters Xyz Lab h = search rules
same_letters Xyz Xyz h = refl

-- one more that meets those before it
meet_from_more : (g : Space) (os : List Opening) (o p : Opening) → MeetFrom g (os ++ (o ∷ [])) → p.takes ≡ o.gives → MeetFrom g ((os ++ (o ∷ [])) ++ (p ∷ []))
meet_from_more g [] o p h e = (h.0, (e, tt))
meet_from_more g (q ∷ os) o p h e = (h.0, meet_from_more q.gives os o p h.1 e)

meet_more : (os : List Opening) (o p : Opening) → Meet (os ++ (o ∷ [])) → p.takes ≡ o.gives → Meet ((os ++ (o ∷ [])) ++ (p ∷ []))
meet_more [] o p h e = (e, tt)
meet_more (q ∷ os) o p h e = meet_from_more q.gives os o p h e

-- a chain of the profiles so far, and the openings that it is made of, the last one apart
record MadeOf (sources : List Source) (c : Chained) : Type 0 where
  pub earlier : List Opening
  pub last : Opening
  pub profiles : OpenAndMeet sources (earlier ++ (last ∷ []))
  pub elements : c.first ∷ c.rest ≡ map (λ o. o.element) (earlier ++ (last ∷ []))
  pub gives : c.gives ≡ last.gives
  pub count : next_position c ≡ length sources

one_more : (sources : List Source) (c : Chained) (s : Source) (o : Opening) → MadeOf sources c → offered s ≡ Ok o → letters o.takes == letters c.gives ≡ true → MadeOf (sources ++ (s ∷ [])) (record { first = c.first; rest = c.rest ++ (o.element ∷ []); gives = o.gives })
one_more sources c s o m opens meets =
    let openings = m.earlier ++ (m.last ∷ []) in
    record {
      earlier = openings;
      last = o;
      profiles = record {
        opened =
            map-append offered sources (s ∷ [])
            ∙ ap (λ rs. rs ++ (offered s ∷ [])) m.profiles.opened
            ∙ ap (λ r. map Ok openings ++ (r ∷ [])) opens
            ∙ sym (map-append Ok openings (o ∷ []));
        meet = meet_more m.earlier m.last o m.profiles.meet (same_letters o.takes c.gives meets ∙ m.gives);
      };
      elements = ap (λ es. es ++ (o.element ∷ [])) m.elements ∙ sym (map-append (λ p. p.element) openings (o ∷ []));
      gives = refl;
      count = omega (arith, m.count, length-append c.rest (o.element ∷ []), length-append sources (s ∷ []));
    }

module _ (room : ℕ) where
  -- what is said where the profiles so far make a chain and the later ones are still to be opened
  abbrev SaysLater : List Source → Type 0
  SaysLater later = (earlier : List Source) (c : Chained) → MadeOf earlier c → Says room (earlier ++ later) (fold joined_on (Ok c) later)

  module _ (earlier : List Source) (c : Chained) (m : MadeOf earlier c) (s : Source) (later : List Source) where
    reached : OpenUntil (earlier ++ (s ∷ later)) (next_position c) s (m.earlier ++ (m.last ∷ []))
    reached = record { earlier = earlier; later = later; split = refl; position = m.count; before = m.profiles }

    faulty : (f : Fault) → offered s ≡ Err f → Says room (earlier ++ (s ∷ later)) (fold joined_on (Err (Profile (next_position c) f)) later)
    faulty f is = subst (Says room (earlier ++ (s ∷ later))) (sym (stuck (Profile (next_position c) f) later)) (record { source = s; openings = m.earlier ++ (m.last ∷ []); reached = reached; fault = is })

    differ : (o : Opening) → letters o.takes == letters c.gives ≡ false → o.takes ≢ m.last.gives
    differ o unlike same =
        let gives : letters o.takes ≡ letters c.gives = ap letters (same ∙ sym m.gives) in
        grind (arith, gives)

    compared : SaysLater later → (o : Opening) → offered s ≡ Ok o → (b : Bool) → letters o.takes == letters c.gives ≡ b → Says room (earlier ++ (s ∷ later)) (fold joined_on (cond b (Ok (record { first = c.first; rest = c.rest ++ (o.element ∷ []); gives = o.gives })) (Err (Spaces (next_position c)))) later)
    compared goes_on o opens true is =
        subst (λ sources. Says room sources (fold joined_on (Ok (record { first = c.first; rest = c.rest ++ (o.element ∷ []); gives = o.gives })) later)) (append_assoc earlier (s ∷ []) later) (goes_on (earlier ++ (s ∷ [])) _ (one_more earlier c s o m opens is))
    compared goes_on o opens false is =
        subst (Says room (earlier ++ (s ∷ later))) (sym (stuck (Spaces (next_position c)) later)) (record { source = s; earlier = m.earlier; before = m.last; opening = o; reached = reached; opened = opens; apart = differ o is })

    offers : SaysLater later → (r : Result Opening Fault) → offered s ≡ r → Says room (earlier ++ (s ∷ later)) (fold joined_on (lengthened c r) later)
    offers goes_on (Ok o) is = compared goes_on o is (letters o.takes == letters c.gives) refl
    offers goes_on (Err f) is = faulty f is

  continues : (later : List Source) → SaysLater later
  continues [] earlier c m = rw append-nil (record { openings = m.earlier ++ (m.last ∷ []); profiles = m.profiles; elements = m.elements })
  continues (s ∷ later) earlier c m = offers earlier c m s later (continues later) (offered s) refl

  begins : (first : Source) (rest : List Source) (r : Result Opening Fault) → offered first ≡ r → Says room (first ∷ rest) (fold joined_on (begun r) rest)
  begins first rest (Ok o) is =
      continues rest (first ∷ []) _ (record { earlier = []; last = o; profiles = record { opened = ap (λ r. r ∷ []) is; meet = tt }; elements = refl; gives = refl; count = refl })
  begins first rest (Err f) is =
      subst (Says room (first ∷ rest)) (sym (stuck (Profile 0 f) rest)) (record { source = first; openings = []; reached = record { earlier = []; later = rest; split = refl; position = refl; before = record { opened = refl; meet = tt } }; fault = is })

  within : (first : Source) (rest : List Source) (b : Bool) → nat_lt (length rest) room ≡ b → Says room (first ∷ rest) (cond b (opened_chain first rest) (Err Room))
  within first rest true is = begins first rest (offered first) refl
  within first rest false is = let short = ltb-false _ _ is in omega arith

  -- whatever is answered
  says : (first : Source) (rest : List Source) → Says room (first ∷ rest) (opened_within room first rest)
  says first rest = within first rest (nat_lt (length rest) room) refl

-- and so what the code answers
pub says_of : (room : ℕ) (first : Source) (rest : List Source) (r : Result ElementChain ChainError) → chain_answer chain_view r ≡ opened_within room first rest → Says room (first ∷ rest) (chain_answer chain_view r)
says_of room first rest r is = subst (Says room (first ∷ rest)) (sym is) (says room first rest)
