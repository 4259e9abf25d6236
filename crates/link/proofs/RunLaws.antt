-- What holds after every run of a converter: its state and its table are as its log says. Assumes nothing.
use Rattle.std.proofs.Common.{◌≡◌, ℕ, ◌+◌, ◌-◌, ◌*◌, ◌^◌, ◌<◌, ◌≤◌, min, ◌&&◌, List, [], ◌∷◌, ◌++◌, length, take, drop, nat_lt, nat_le, Option, Some, None, refl, sym, ap, ◌∙◌, subst, subst₂, mul-le-mul_right, append_assoc, length-append, length-drop, leb-true, arith}
use Rattle.std.proofs.Math.Nat.{one-le-pow}
use Rattle.std.proofs.lemmas.Bool.{ltb-true, ltb-false, cond_both, and_parts}
use Rattle.std.proofs.lemmas.List.{take_at}
use Rattle.meaning.specs.Colours.{number}
use Rattle.meaning.specs.Links.{nodes_from, baked}
use Rattle.meaning.specs.Stages.{Meaning, Lawful}
use Rattle.meaning.proofs.Baking.{nodes_split, length_nodes}
use Rattle.stage.specs.declared.lattice.Grid.{Grid}
use Rattle.stage.specs.Lattices.{grid_with, points}
use Rattle.link.specs.declared.refusal.Refusal.{Refusal}
use Rattle.link.specs.declared.refusal.Refusal.TheVariants.{GridPoints, TableLength}
use Rattle.link.specs.declared.state.State.{State}
use Rattle.link.specs.declared.state.State.TheVariants as state
use Rattle.link.specs.Calls.{numbers_of, begin_refusal, fill_refusal, filled_table}
use Rattle.link.specs.Refusals.{left, unless}
use Rattle.link.specs.States.{filled_state}
use Rattle.link.specs.Runs.{Call, begin, fill, row, link_row, quote, write, drop_link, Logged, Log, call_refusal, state_after, table_after, Happened, Reached, IsBaked, LinkAsLogged, AfterRuns, Run, Starts, Continues}
use Rattle.link.proofs.RefusalLaws.{first_holds, left_same}
use Rattle.link.proofs.LogLaws.{progress, onward, same_progress, baked_progress, progress_baked}

-- ---- what a state says, with the progress p of its log and over the table t

module _ (m : Meaning) where
  -- the link is filling: it has grid points, a node is missing, the table has room, and the nodes before the next are stored
  pub record Fills (p : Option (ℕ × ℕ)) (g n : ℕ) (t : List ℕ) : Type 0 where
    pub progress : p ≡ Some (g, n)
    pub grid : 2 ≤ g
    pub inside : n < g ^ number m.ins
    pub room : numbers_of m g ≤ length t
    pub nodes : take (n * number m.outs) t ≡ nodes_from m g 0 n

  -- the link is full: the budgets reach the number of its nodes, and all are stored
  pub record Holds (p : Option (ℕ × ℕ)) (g : ℕ) (t : List ℕ) : Type 0 where
    pub total : ℕ
    pub progress : p ≡ Some (g, total)
    pub grid : 2 ≤ g
    pub enough : g ^ number m.ins ≤ total
    pub nodes : take (numbers_of m g) t ≡ baked m g

  -- the state and the table are as the progress says
  abbrev pub Stands : Option (ℕ × ℕ) → State → List ℕ → Type 0
  Stands p state.Empty t = p ≡ None
  Stands p (state.Filling g n) t = Fills p (points g) n t
  Stands p (state.Full g) t = Holds p (points g) t

  -- an accepted begin leaves a link that is filling, with no node stored
  begin_stands : (g : ℕ) (t : List ℕ) → None ≡ begin_refusal m g (length t) → Fills (Some (g, 0)) g 0 t
  unfolding nodes_from
  begin_stands g t h =
      let first = first_holds (nat_le 2 g && nat_le g 33) GridPoints (unless (nat_le (numbers_of m g) (length t)) TableLength ∷ []) h in
      let second = first_holds (nat_le (numbers_of m g) (length t)) TableLength [] first.1 in
      let grid : 2 ≤ g = leb-true 2 g (and_parts (nat_le 2 g) (nat_le g 33) first.0).0 in
      let some = one-le-pow (number m.ins) g (omega arith) in
      let none : 0 * number m.outs ≡ 0 = omega arith in
      record {
        progress = refl;
        grid = grid;
        inside = omega arith;
        room = leb-true (numbers_of m g) (length t) second.0;
        nodes = rw none refl;
      }

  -- ---- fill
  module _ (law : Lawful m) where
    -- c nodes more in a table that holds n nodes
    more_nodes : (g n c : ℕ) (t : List ℕ) → take (n * number m.outs) t ≡ nodes_from m g 0 n →
        take (n * number m.outs) t ++ (nodes_from m g n c ++ drop ((n + c) * number m.outs) t) ≡ nodes_from m g 0 (n + c) ++ drop ((n + c) * number m.outs) t
    more_nodes g n c t h =
        let o = number m.outs in
        let rest = drop ((n + c) * o) t in
        let here : 0 + n ≡ n = omega arith in
        sym (append_assoc (take (n * o) t) (nodes_from m g n c) rest)
        ∙ ap (λ l. (l ++ nodes_from m g n c) ++ rest) h
        ∙ ap (λ l. l ++ rest) (sym (nodes_split m g 0 n c ∙ ap (λ k. nodes_from m g 0 n ++ nodes_from m g k c) here))

    -- the nodes of such a table
    nodes_taken : (g n : ℕ) (rest : List ℕ) → take (n * number m.outs) (nodes_from m g 0 n ++ rest) ≡ nodes_from m g 0 n
    nodes_taken g n rest = take_at (nodes_from m g 0 n) rest (n * number m.outs) (length_nodes m law g 0 n)

    -- it is as long as the table was
    nodes_room : (g n : ℕ) (t : List ℕ) → n * number m.outs ≤ length t → length (nodes_from m g 0 n ++ drop (n * number m.outs) t) ≡ length t
    nodes_room g n t h =
        let all = length-append (nodes_from m g 0 n) (drop (n * number m.outs) t) in
        let front = length_nodes m law g 0 n in
        let back = length-drop (n * number m.outs) t in
        omega arith

    -- the table behind a fill, where it holds k nodes
    filled_nodes : (g : Grid) (n b : ℕ) (t : List ℕ) → n < points g ^ number m.ins → take (n * number m.outs) t ≡ nodes_from m (points g) 0 n →
        (k : ℕ) → n + min b (points g ^ number m.ins - n) ≡ k → filled_table m (state.Filling g n) b t ≡ nodes_from m (points g) 0 k ++ drop (k * number m.outs) t
    filled_nodes g n b t inside h k is =
        subst (λ j. filled_table m (state.Filling g n) b t ≡ nodes_from m (points g) 0 j ++ drop (j * number m.outs) t) is
        (more_nodes (points g) n (min b (points g ^ number m.ins - n)) t h)

    -- a fill leaves the state and the table that the progress says
    fill_stands : (g : Grid) (n b : ℕ) (p : Option (ℕ × ℕ)) (t : List ℕ) → Fills p (points g) n t → Stands (Some (points g, b + n)) (filled_state m.ins (state.Filling g n) b) (filled_table m (state.Filling g n) b t)
    fill_stands g n b p t h =
        let o = number m.outs in
        let nodes = points g ^ number m.ins in
        let sum : b + n ≡ n + b = omega arith in
        let inside : n < nodes = h.inside in
        let room : nodes * o ≤ length t = h.room in
        cond_both (nat_lt (n + b) nodes) (state.Filling g (n + b)) (state.Full g) (λ s. Stands (Some (points g, b + n)) s (filled_table m (state.Filling g n) b t))
        (λ less.
        let l : n + b < nodes = ltb-true (n + b) nodes less in
        let is = filled_nodes g n b t inside h.nodes (n + b) (omega arith) in
        let fits : (n + b) * o ≤ nodes * o = mul-le-mul_right o (omega arith) in
        subst (Fills (Some (points g, b + n)) (points g) (n + b)) (sym is)
        (record {
          progress = ap (λ k. Some (points g, k)) sum;
          grid = h.grid;
          inside = l;
          room = let long = nodes_room (points g) (n + b) t (omega arith) in omega arith;
          nodes = nodes_taken (points g) (n + b) (drop ((n + b) * o) t);
        }))
        (λ more.
        let l : nodes ≤ n + b = ltb-false (n + b) nodes more in
        let is = filled_nodes g n b t inside h.nodes nodes (omega arith) in
        subst (Holds (Some (points g, b + n)) (points g)) (sym is)
        (record {
          total = b + n;
          progress = refl;
          grid = h.grid;
          enough = omega arith;
          nodes = nodes_taken (points g) nodes (drop (nodes * o) t);
        }))

    -- in any state that accepts it
    fill_stands_any : (s : State) (b : ℕ) (p : Option (ℕ × ℕ)) (t : List ℕ) → Stands p s t → None ≡ fill_refusal m s b (length t) → Stands (onward (fill b) p) (filled_state m.ins s b) (filled_table m s b t)
    fill_stands_any state.Empty b p t h r = absurd (cc)
    fill_stands_any (state.Filling g n) b p t h r = subst (λ q. Stands (onward (fill b) q) (filled_state m.ins (state.Filling g n) b) (filled_table m (state.Filling g n) b t)) (sym h.progress) (fill_stands g n b p t h)
    fill_stands_any (state.Full g) b p t h r = absurd (cc)

    -- ---- every call

    -- an accepted call leaves what the progress says
    accepted_stands : (c : Call) (p : Option (ℕ × ℕ)) (s : State) (t : List ℕ) → Stands p s t → None ≡ call_refusal m s (length t) c → Stands (onward c p) (state_after m s c) (table_after m s t c)
    accepted_stands (begin g) p s t h r = begin_stands g t r
    accepted_stands (fill b) p s t h r = fill_stands_any s b p t h r
    accepted_stands (row _) p s t h r = h
    accepted_stands (link_row _) p s t h r = h
    accepted_stands quote p s t h r = h
    accepted_stands (write n) p s t h r = h
    accepted_stands drop_link p s t h r = refl

    -- and so does a refused one, which leaves all as it was
    call_stands : (c : Call) (o : Option Refusal) (p : Option (ℕ × ℕ)) (s : State) (t : List ℕ) → Stands p s t → o ≡ call_refusal m s (length t) c → Stands (left o p (onward c p)) (left o s (state_after m s c)) (left o t (table_after m s t c))
    call_stands c None p s t h r = accepted_stands c p s t h r
    call_stands c (Some e) p s t h r = h

    -- and so does every run
    pub run_stands : (t₀ : List ℕ) (log : Log) (s : State) (t : List ℕ) → Reached m t₀ log s t → Stands (progress log) s t
    run_stands t₀ [] s t r = subst (λ x. Stands None x t) (sym r.0) refl
    run_stands t₀ (logged ∷ log) s t r =
        let h = r.happened in
        subst₂ (Stands (progress (logged ∷ log))) (sym h.state) (sym h.table)
        (call_stands logged.call logged.refused (progress log) r.state r.table (run_stands t₀ log r.state r.table r.before) h.refused)

  -- ---- what is promised

  -- a full link is baked by its log
  full_baked : (log : Log) (s : State) (t : List ℕ) (g : ℕ) → Stands (progress log) s t → s ≡ state.Full (grid_with g) → IsBaked m.ins log g
  full_baked log s t g h is =
      let holds : Holds (progress log) g t = subst (λ x. Stands (progress log) x t) is h in
      progress_baked m.ins log g holds.total holds.progress holds.enough

  -- a link that its log bakes is full
  baked_full : (p : Option (ℕ × ℕ)) (s : State) (t : List ℕ) (g total : ℕ) → Stands p s t → p ≡ Some (g, total) → g ^ number m.ins ≤ total → s ≡ state.Full (grid_with g)
  baked_full p state.Empty t g total h is enough = absurd (cc)
  baked_full p (state.Filling f n) t g total h is enough =
      let same = same_progress (points f, n) (g, total) (sym h.progress ∙ is) in
      let inside : n < g ^ number m.ins = subst (λ k. n < k ^ number m.ins) same.0 h.inside in
      absurd (omega arith)
  baked_full p (state.Full f) t g total h is enough =
      let same = same_progress (points f, h.total) (g, total) (sym h.progress ∙ is) in
      ap (λ k. state.Full (grid_with k)) same.0

  -- the promise
  pub stands_logged : (log : Log) (s : State) (t : List ℕ) → Stands (progress log) s t → LinkAsLogged m log s t
  stands_logged log s t h = record {
    full_when_baked = λ g. (full_baked log s t g h, λ b. let p = baked_progress m.ins log g b in baked_full (progress log) s t g p.0 h p.1 p.2);
    nodes = λ g is. let holds : Holds (progress log) g t = subst (λ x. Stands (progress log) x t) is h in holds.nodes;
  }

-- any calls can be made one after the other
runs : (m : Meaning) (t₀ : List ℕ) (calls : List Call) → Run m t₀ calls
runs m t₀ [] = record { log = []; state = state.Empty; table = t₀; of_calls = refl; reached = (refl, refl) }
runs m t₀ (call ∷ calls) =
    let before = runs m t₀ calls in
    let logged : Logged = record { call = call; refused = call_refusal m before.state (length before.table) call } in
    record {
      log = logged ∷ before.log;
      state = left logged.refused before.state (state_after m before.state call);
      table = left logged.refused before.table (table_after m before.state before.table call);
      of_calls = ap (λ cs. call ∷ cs) before.of_calls;
      reached = record { state = before.state; table = before.table; before = before.reached; happened = record { refused = refl; state = refl; table = refl } };
    }

-- making a converter starts a run
pub starts : (m : Meaning) → Starts m state.Empty
unfolding Starts
starts m t₀ = ((refl, refl), stands_logged m [] state.Empty t₀ refl, runs m t₀)

module _ (m : Meaning) (law : Lawful m) (call : Call) (s : State) (t : List ℕ) where
  -- every call goes on with a run
  continues : (o : Option Refusal) (s' : State) (t' : List ℕ) → Happened m (record { call = call; refused = o }) s t s' t' → Continues m call o s t s' t'
  unfolding Continues
  continues o s' t' h t₀ log r =
      let logged : Logged = record { call = call; refused = o } in
      let all : Reached m t₀ (logged ∷ log) s' t' = record { state = s; table = t; before = r; happened = h } in
      (all, stands_logged m (logged ∷ log) s' t' (run_stands m law t₀ (logged ∷ log) s' t' all))

  -- a refused call, which leaves all as it was
  pub refused_on : (o : Option Refusal) (e : Refusal) → o ≡ Some e → o ≡ call_refusal m s (length t) call → Continues m call o s t s t
  refused_on o e is h = continues o s t (record { refused = h; state = rw is refl; table = rw is refl })

  -- an accepted one
  pub accepted_on : (o : Option Refusal) (s' : State) (t' : List ℕ) → o ≡ None → o ≡ call_refusal m s (length t) call → s' ≡ state_after m s call → t' ≡ table_after m s t call → Continues m call o s t s' t'
  accepted_on o s' t' is h state table = continues o s' t' (record { refused = h; state = rw is state; table = rw is table })

  -- any call that leaves the state and the table, refused or not
  pub same_on : (o : Option Refusal) → o ≡ call_refusal m s (length t) call → state_after m s call ≡ s → table_after m s t call ≡ t → Continues m call o s t s t
  same_on o h state table = continues o s t (record { refused = h; state = rw state (left_same o s); table = rw table (left_same o t) })

-- after every run the link is as its log says
pub run_logged : (m : Meaning) → Lawful m → (t₀ : List ℕ) (log : Log) (s : State) (t : List ℕ) → Reached m t₀ log s t → LinkAsLogged m log s t
run_logged m law t₀ log s t r = stands_logged m log s t (run_stands m law t₀ log s t r)

-- and what comes next does what it should, if it does so after every run
pub after_runs : (m : Meaning) → Lawful m → (s : State) (t : List ℕ) (Next : Type 0) → ((t₀ : List ℕ) (log : Log) → Reached m t₀ log s t → Next) → AfterRuns m s t Next
unfolding AfterRuns
after_runs m law s t Next next t₀ log r = (run_logged m law t₀ log s t r, next t₀ log r)
