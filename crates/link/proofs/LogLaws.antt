-- What a log says of the link: the grid that the last accepted begin gave it, and the budgets since. Assumes nothing.
use Rattle.std.proofs.Common.{◌≡◌, ℕ, ◌+◌, ◌^◌, ◌≤◌, [], ◌∷◌, ◌++◌, Option, Some, None, refl, sym, ap, ◌∙◌, subst, subst₂, zero-add}
use Rattle.std.proofs.lemmas.List.Elements.{All-nil, All-cons, All-head, All-tail}
use Rattle.meaning.specs.declared.Channels.{Channels}
use Rattle.meaning.specs.Colours.{number}
use Rattle.link.specs.declared.refusal.Refusal.{Refusal}
use Rattle.link.specs.Refusals.{left}
use Rattle.link.specs.Runs.{Call, begin, fill, row, link_row, quote, write, drop_link, Logged, Log, WasAccepted, Restarts, NoRestart, budget_of, accepted_budget, budgets, IsBaked}

-- a grid and the budgets since its begin, with one more budget
abbrev pub with_budget : ℕ → Option (ℕ × ℕ) → Option (ℕ × ℕ)
with_budget b None = None
with_budget b (Some p) = Some (p.0, b + p.1)

-- what an accepted call makes of them
abbrev pub onward : Call → Option (ℕ × ℕ) → Option (ℕ × ℕ)
onward (begin g) p = Some (g, 0)
onward (fill b) p = with_budget b p
onward (row r) p = p
onward (link_row r) p = p
onward quote p = p
onward (write n) p = p
onward drop_link p = None

-- the grid of the last accepted begin with no drop behind it, and the budgets since
abbrev pub progress : Log → Option (ℕ × ℕ)
progress [] = None
progress (logged ∷ log) = left logged.refused (progress log) (onward logged.call (progress log))

-- equal progress has equal parts
pub same_progress : (p q : ℕ × ℕ) → Some p ≡ Some q → (p.0 ≡ q.0) × (p.1 ≡ q.1)
same_progress p q h = (cc, cc)

-- a begin of g grid points was accepted, nothing began or dropped a link since, and the budgets since come to a total
pub record Since (log : Log) (g total : ℕ) : Type 0 where
  pub since : Log
  pub earlier : Log
  pub begun : log ≡ since ++ (record { call = begin g; refused = None } ∷ earlier)
  pub goes_on : NoRestart since
  pub sum : budgets since ≡ total

-- one more call that restarts nothing
since_more : (logged : Logged) (log : Log) (g total : ℕ) → (WasAccepted logged → Restarts logged.call → ⊥) → Since log g total → Since (logged ∷ log) g (accepted_budget logged + total)
since_more logged log g total on h = record {
  since = logged ∷ h.since;
  earlier = h.earlier;
  begun = ap (λ l. logged ∷ l) h.begun;
  goes_on = All-cons (λ (a : Logged). WasAccepted a → Restarts a.call → ⊥) logged h.since on h.goes_on;
  sum = ap (λ n. accepted_budget logged + n) h.sum;
}

-- one more call with no budget
since_same : (c : Call) (o : Option Refusal) (log : Log) (g total : ℕ) → (o ≡ None → Restarts c → ⊥) → left o 0 (budget_of c) ≡ 0 → Since log g total → Since (record { call = c; refused = o } ∷ log) g total
since_same c o log g total on none h =
    let is : left o 0 (budget_of c) + total ≡ total = ap (λ n. n + total) none ∙ zero-add total in
    subst (λ n. Since (record { call = c; refused = o } ∷ log) g n) is (since_more (record { call = c; refused = o }) log g total on h)

-- one more fill
since_filled : (b : ℕ) (log : Log) (g total : ℕ) (p : Option (ℕ × ℕ)) → p ≡ progress log → ((h n : ℕ) → progress log ≡ Some (h, n) → Since log h n) → with_budget b p ≡ Some (g, total) →
    Since (record { call = fill b; refused = None } ∷ log) g total
since_filled b log g total None is before h = absurd (cc)
since_filled b log g total (Some p) is before h =
    let parts = same_progress (p.0, b + p.1) (g, total) h in
    subst₂ (λ x y. Since (record { call = fill b; refused = None } ∷ log) x y) parts.0 parts.1
    (since_more (record { call = fill b; refused = None }) log p.0 p.1 (λ _ r. r) (before p.0 p.1 (sym is)))

-- one more call of any kind
since_call : (c : Call) (o : Option Refusal) (log : Log) → ((h n : ℕ) → progress log ≡ Some (h, n) → Since log h n) → (g total : ℕ) → left o (progress log) (onward c (progress log)) ≡ Some (g, total) →
    Since (record { call = c; refused = o } ∷ log) g total
since_call c (Some e) log before g total h = since_same c (Some e) log g total (λ a _. absurd (cc)) refl (before g total h)
since_call (begin k) None log before g total h =
    let parts = same_progress (k, 0) (g, total) h in
    subst₂ (λ x y. Since (record { call = begin k; refused = None } ∷ log) x y) parts.0 parts.1
    (record { since = []; earlier = log; begun = refl; goes_on = All-nil (λ (a : Logged). WasAccepted a → Restarts a.call → ⊥); sum = refl })
since_call (fill b) None log before g total h = since_filled b log g total (progress log) refl before h
since_call (row r) None log before g total h = since_same (row r) None log g total (λ _ r. r) refl (before g total h)
since_call (link_row r) None log before g total h = since_same (link_row r) None log g total (λ _ r. r) refl (before g total h)
since_call quote None log before g total h = since_same quote None log g total (λ _ r. r) refl (before g total h)
since_call (write n) None log before g total h = since_same (write n) None log g total (λ _ r. r) refl (before g total h)
since_call drop_link None log before g total h = absurd (cc)

-- a log with progress says since when
pub since_progress : (log : Log) (g total : ℕ) → progress log ≡ Some (g, total) → Since log g total
since_progress [] g total h = absurd (cc)
since_progress (logged ∷ log) g total h = since_call logged.call logged.refused log (since_progress log) g total h

-- a call that restarts nothing adds its budget
onward_on : (c : Call) (o : Option Refusal) (g total : ℕ) → (o ≡ None → Restarts c → ⊥) → left o (Some (g, total)) (onward c (Some (g, total))) ≡ Some (g, left o 0 (budget_of c) + total)
onward_on c (Some e) g total on = ap (λ n. Some (g, n)) (sym (zero-add total))
onward_on (begin k) None g total on = absurd (on refl tt)
onward_on (fill b) None g total on = refl
onward_on (row r) None g total on = ap (λ n. Some (g, n)) (sym (zero-add total))
onward_on (link_row r) None g total on = ap (λ n. Some (g, n)) (sym (zero-add total))
onward_on quote None g total on = ap (λ n. Some (g, n)) (sym (zero-add total))
onward_on (write n) None g total on = ap (λ n. Some (g, n)) (sym (zero-add total))
onward_on drop_link None g total on = absurd (on refl tt)

-- a log that goes on from an accepted begin has that grid, and the budgets since
progress_on : (since earlier : Log) (g : ℕ) → NoRestart since → progress (since ++ (record { call = begin g; refused = None } ∷ earlier)) ≡ Some (g, budgets since)
progress_on [] earlier g on = refl
progress_on (logged ∷ since) earlier g on =
    let P : Logged → Type 0 = λ a. WasAccepted a → Restarts a.call → ⊥ in
    ap (λ p. left logged.refused p (onward logged.call p)) (progress_on since earlier g (All-tail P logged since on))
    ∙ onward_on logged.call logged.refused g (budgets since) (All-head P logged since on)

-- a log that bakes a link has progress, which reaches the number of its nodes
pub baked_progress : (i : Channels) (log : Log) (g : ℕ) → IsBaked i log g → (total : ℕ) × (progress log ≡ Some (g, total)) × (g ^ number i ≤ total)
baked_progress i log g h = (budgets h.since, ap progress h.begun ∙ progress_on h.since h.earlier g h.goes_on, h.enough)

-- and progress that reaches it bakes the link
pub progress_baked : (i : Channels) (log : Log) (g total : ℕ) → progress log ≡ Some (g, total) → g ^ number i ≤ total → IsBaked i log g
progress_baked i log g total h enough =
    let s = since_progress log g total h in
    record { since = s.since; earlier = s.earlier; begun = s.begun; goes_on = s.goes_on; enough = subst (λ n. g ^ number i ≤ n) (sym s.sum) enough }
