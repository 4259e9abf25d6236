-- A row through a full link is within its bound of the stage's own exact values, after every run that led there. Assumes nothing.
use Rattle.std.proofs.Common.{◌≡◌, ℕ, ◌≤◌, ◌&&◌, List, [], ◌∷◌, length, nat_le, ◌==◌, Option, Some, None, Result, refl, sym, ap, subst, eqb-true}
use Rattle.std.proofs.lemmas.Bool.{and_parts}
use Rattle.meaning.specs.Colours.{number}
use Rattle.meaning.specs.Links.{baked, error_of_link, link, Plain}
use Rattle.meaning.specs.Stages.{Meaning, Lawful}
use Rattle.meaning.proofs.Baking.{link_answers}
use Rattle.meaning.proofs.LinkLaws.{links_are_close}
use Rattle.link.specs.declared.refusal.Refusal.{Refusal}
use Rattle.link.specs.declared.refusal.Refusal.TheVariants.{RowLengths, PixelChannels, TableLength}
use Rattle.link.specs.declared.state.State.{State}
use Rattle.link.specs.declared.state.State.TheVariants as state
use Rattle.link.specs.declared.state.Event.TheVariants.{LinkRow}
use Rattle.stage.specs.Lattices.{points}
use Rattle.link.specs.Calls.{link_checks, link_numbers, table_link, link_row_refusal, link_row_answer, link_row_left}
use Rattle.meaning.specs.Kinds.{Kind, LawfulKind}
use Rattle.link.specs.Refusals.{answered, first_refusal, left, unless, Accepted}
use Rattle.link.specs.Rows.{RowShape, shape_of, row_answer, row_bound, row_left, row_pixels, row_refusal, Delivers}
use Rattle.link.specs.Runs.{Log, Reached, EveryRunUpholds}
use Rattle.link.specs.States.{no_use}
use Rattle.link.proofs.LogLaws.{progress}
use Rattle.link.proofs.RowLaws.{near_deliver, row_accepted}
use Rattle.link.proofs.RefusalLaws.{accepts, first_holds}
use Rattle.link.proofs.RunLaws.{Stands, run_stands, run_logged}

-- a link row that is accepted has the stage's in-channels, and the link is full
link_row_accepts : (m : Meaning) (s : State) (numbers : ℕ) (r : RowShape) → None ≡ link_row_refusal m s numbers r → (number m.ins ≡ number r.enters) × (no_use s ≡ None)
link_row_accepts m s numbers r h =
    let linked = link_checks m s LinkRow numbers in
    let channels = first_holds (number m.ins == number r.enters && number m.outs == number r.leaves) PixelChannels (unless (r.entering == r.leaving) RowLengths ∷ linked) h in
    let lengths = first_holds (r.entering == r.leaving) RowLengths linked channels.1 in
    let used = accepts (no_use s) (unless (nat_le (link_numbers m s) numbers) TableLength ∷ []) lengths.1 in
    (eqb-true (number m.ins) (number r.enters) (and_parts (number m.ins == number r.enters) (number m.outs == number r.leaves) channels.0).0, used.0)

module _ {P Q : Type 0} (m : Meaning) (kp : Kind P) (kq : Kind Q) (laws : Lawful m) (lp : LawfulKind kp) (lq : LawfulKind kq) where
  -- what a pixel shows is 0 beyond the stage's in-channels, where these are the kind's
  shows_plain : number m.ins ≡ number kp.channels → (p : P) → Plain m.ins (kp.shown p)
  shows_plain same p k h = lp.zero_beyond p k (subst (λ n. n ≤ k) same h)

  -- the pixels of a row through the link of the stage's answers are within its bound of the stage's exact values
  baked_delivers : (g : ℕ) → 2 ≤ g → number m.ins ≡ number kp.channels → (entering : List P) →
      Delivers m kp kq entering (row_pixels (link m g (baked m g)) kp kq entering) (row_bound (link m g (baked m g)) kq.error)
  baked_delivers g grid same entering =
      let l = link m g (baked m g) in
      near_deliver m kp kq laws lp lq l.answer (error_of_link m.error m.steepness g)
      (λ p. link_answers m laws g (baked m g) (kp.shown p) (lp.shows p))
      (λ p. links_are_close m laws g grid (kp.shown p) (lp.shows p) (shows_plain same p)) entering

  -- so are those of a full link, by what a run leaves
  full_delivers : (p : Option (ℕ × ℕ)) (s : State) (t : List ℕ) → Stands m p s t → no_use s ≡ None → number m.ins ≡ number kp.channels → (entering : List P) →
      Delivers m kp kq entering (row_pixels (table_link m s t) kp kq entering) (row_bound (table_link m s t) kq.error)
  full_delivers p state.Empty t h is same entering = absurd (cc)
  full_delivers p (state.Filling g n) t h is same entering = absurd (cc)
  full_delivers p (state.Full g) t h is same entering =
      subst (λ nodes. Delivers m kp kq entering (row_pixels (link m (points g) nodes) kp kq entering) (row_bound (link m (points g) nodes) kq.error)) (sym h.nodes) (baked_delivers (points g) h.grid same entering)

  -- and so are those that an accepted link row leaves, after every run
  pub link_row_delivers : (s : State) (t : List ℕ) → m.ins ≡ kp.channels → None ≡ first_refusal (link_checks m s LinkRow (length t)) → (entering : List P) → (t₀ : List ℕ) (log : Log) → Reached m t₀ log s t →
      Delivers m kp kq entering (row_pixels (table_link m s t) kp kq entering) (row_bound (table_link m s t) kq.error)
  link_row_delivers s t same taken entering t₀ log run =
      let used = accepts (no_use s) (unless (nat_le (link_numbers m s) (length t)) TableLength ∷ []) taken in
      full_delivers (progress log) s t (run_stands m laws t₀ log s t run) used.0 (ap number same) entering

  -- a call that answers with the bound and leaves such pixels, unless it is refused, keeps the law
  delivers_accepted : (was now pixels : List Q) (bound : ℕ) (entering : List P) (o : Option Refusal) (r : Result ℕ Refusal) → r ≡ answered o bound → now ≡ left o was pixels →
      (None ≡ o → Delivers m kp kq entering pixels bound) → Accepted r (Delivers m kp kq entering now)
  delivers_accepted was now pixels bound entering None r answer leaves h = rw (answer, leaves) (h refl)
  delivers_accepted was now pixels bound entering (Some e) r answer leaves h = rw answer tt

  -- a link row in any state that a run led to keeps the law
  pub link_row_accepted : (s : State) (t : List ℕ) (entering : List P) (was now : List Q) (r : Result ℕ Refusal) → r ≡ link_row_answer m s t kp kq entering was → now ≡ link_row_left m s t kp kq entering was →
      (t₀ : List ℕ) (log : Log) → Reached m t₀ log s t → Accepted r (Delivers m kp kq entering now)
  link_row_accepted s t entering was now r answer leaves t₀ log run =
      delivers_accepted was now (row_pixels (table_link m s t) kp kq entering) (row_bound (table_link m s t) kq.error) entering
      (link_row_refusal m s (length t) (shape_of kp kq entering was)) r answer leaves
      (λ is.
      let taken = link_row_accepts m s (length t) (shape_of kp kq entering was) is in
      full_delivers (progress log) s t (run_stands m laws t₀ log s t run) taken.1 taken.0 entering)

  -- the whole promise
  pub every_run_upholds : EveryRunUpholds m kp kq
  unfolding EveryRunUpholds
  every_run_upholds t₀ log s t run = record {
    link = run_logged m laws t₀ log s t run;
    rows = λ entering leaving. row_accepted m kp kq laws lp lq entering leaving (row_left m kp kq entering leaving) (row_refusal m (shape_of kp kq entering leaving)) (row_answer m kp kq entering leaving) refl refl;
    link_rows = λ entering leaving. link_row_accepted s t entering leaving (link_row_left m s t kp kq entering leaving) (link_row_answer m s t kp kq entering leaving) refl refl t₀ log run;
  }
