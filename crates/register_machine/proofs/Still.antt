-- An update in place leaves each register that is still read as it was.
use Rattle.std.proofs.Common.{◌≡◌, ℕ, ◌-◌, ◌≤◌, Bool, true, false, List, [], ◌∷◌, ◌++◌, Option, Some, None, is_some, refl, sym, ap, subst, ◌∙◌, inl, inr, ◌⊎◌, ◌≢◌, Contains, IsTrue, map, arith, length, option_and_then, append_assoc}
use Rattle.std.specs.Prelude.{if◌then◌else◌, nat_lt}
use Rattle.std.specs.Option.{option_map_or}
use Rattle.std.proofs.lemmas.Bool.{cases_Bool, lt-ltb, le-ltb}
use Rattle.flat_core.specs.Stream.{has_event, is_fault}
use Rattle.flat_core.specs.Case.{Streams}
use Rattle.flat_core.specs.Events.{Inputs}
use Rattle.flat_core.specs.System.{System, runs, equation}
use Rattle.flat_core.specs.Members.{is_in}
use Rattle.tsl_value.proofs.Lists.{none_in_nil, cons_cases}
use Rattle.alias_rules.specs.Uses.{IsVariable}
use Rattle.alias_rules.specs.Conflict.{StandsBefore}
use Rattle.alias_rules.specs.Fine.{IsFine}
use Rattle.register_machine.specs.Run.{Plan, step_instr, body}
use Rattle.flat_core.specs.Kept.{keeps_of}
use Rattle.register_machine.proofs.Running.{Prints}
use Rattle.register_machine.proofs.Orders.{Agrees, steps_of, steps_cases, all_steps}
use Rattle.register_machine.specs.Machine.{Instr, Run, RunInPlace, Print, Keep, Timer, Held, Bare, Cell, Slot, Blank, Holds, Failed, Cells, Config, held, fires, view_of, Step, Steps}
use Rattle.register_machine.specs.Content.{Register, Own, LastOf, seen, print_of, taken_by, taken, IsTaken, IsOverwritten, IsStillRead}
use Rattle.register_machine.specs.Content as content
use Rattle.register_machine.proofs.Cells.{without, without-there, with-there}
use Rattle.register_machine.proofs.Middle.{Spoiled, LastSpoiled}
use Rattle.register_machine.proofs.Moves.{Between}
use Rattle.register_machine.proofs.Setting.{Setting, fires_is}
use Rattle.register_machine.proofs.Steps.{below, step_good}
use Rattle.register_machine.proofs.Taken.{in_one, in_if, own_same, own_last, not_taken_own, not_taken_last, not_taken_print}
use Rattle.register_machine.proofs.Walks.{IsEnding, cons_head, cons_tail, split_steps, in_place_step_slots, GoodHere, next_of, walk}
use Rattle.register_machine.proofs.Kept.{kept_stored, stored_kept}
use Rattle.register_machine.proofs.Uses.{not_overwritten}

pub instr_at : (xs : List Instr) (x : Instr) → Contains xs x → (pre : List Instr) × (post : List Instr) × (xs ≡ pre ++ x ∷ post)
instr_at [] x found = absurd (none_in_nil x found)
instr_at (y ∷ xs) x found = elim (cons_cases y x xs found) [
  | inl same ↦ ([], xs, ap (λ n. n ∷ xs) same)
  | inr in_rest ↦ let rest = instr_at xs x in_rest in (y ∷ rest.0, rest.1, ap (λ l. y ∷ l) rest.2)
]

keep_no_step : (s : System) (plan : Plan) (v n : ℕ) → Keep v ≡ step_instr s plan n → ⊥
keep_no_step s plan v n = go (nat_lt n (length s.equations)) (is_in plan.in_place n)
  where
    go : (low listed : Bool) → Keep v ≡ (if low then (if listed then RunInPlace n else Run n) else Print (n - length s.equations)) → ⊥
    go true true e = absurd (cc)
    go true false e = absurd (cc)
    go false listed e = absurd (cc)

module _ (s : System) (plan : Plan) (fine : IsFine s plan.in_place) (inputs : Inputs) (z : Streams) (t : ℕ) (last : ℕ → Option Held) (pend : ℕ → Option ℕ) (old : Cells) (given : Setting s inputs z t last pend) (between : Between s plan.in_place z t last old) (tail : List Instr) (ends : (instr : Instr) → Contains tail instr → IsEnding s instr) where
  abbrev pub Here : List ℕ → Config → Type 0
  Here rest c = GoodHere s plan inputs z t last pend old given between tail ends rest c

  spoiled_fewer : (rest fewer : List ℕ) (x : ℕ) → ((y : ℕ) → Contains fewer y → Contains rest y) → Spoiled s plan.in_place z t last old rest x → Spoiled s plan.in_place z t last old fewer x
  spoiled_fewer rest fewer x sub p = record { by = p.by; listed = p.listed; ran = λ r. p.ran (sub p.by r); runs_by = p.runs_by; fires = p.fires; bypasses = p.bypasses }

  last_spoiled_fewer : (rest fewer : List ℕ) (v : ℕ) → ((y : ℕ) → Contains fewer y → Contains rest y) → LastSpoiled s plan.in_place z t last old rest v → LastSpoiled s plan.in_place z t last old fewer v
  last_spoiled_fewer rest fewer v sub p = record { by = p.by; listed = p.listed; ran = λ r. p.ran (sub p.by r); runs_by = p.runs_by; fires = p.fires; source = p.source; written = p.written; kept = p.kept; comes = p.comes; shares = p.shares }

  -- the ending takes none that is spoiled
  ending_own : (rest : List ℕ) (mid : Config) (by : Instr) → IsEnding s by → (x : ℕ) → IsVariable s x → Spoiled s plan.in_place z t last old rest x → Contains (taken s mid by) (Own x) → ⊥
  ending_own rest mid (Keep v) is x variable p found =
      let same = own_same (in_one (Own v) (Own x) (in_if (fires mid v) (Own v ∷ []) (Own x) found)) in
      fine.none_kept p.by (record { inside = p.listed; other = x; conflict = record { bypasses = p.bypasses; stored = kept_stored s given.proper x variable (subst (Contains (keeps_of s)) same is) } })
  ending_own rest mid (Timer i) is x variable p found = absurd (none_in_nil (Own x) found)
  ending_own rest mid (Run i) is x variable p found = absurd is
  ending_own rest mid (RunInPlace i) is x variable p found = absurd is
  ending_own rest mid (Print i) is x variable p found = absurd is

  ending_last : (mid : Config) (by : Instr) → IsEnding s by → (v : ℕ) → Contains (taken s mid by) (LastOf v) → ⊥
  ending_last mid (Keep w) is v found = own_last (in_one (Own w) (LastOf v) (in_if (fires mid w) (Own w ∷ []) (LastOf v) found))
  ending_last mid (Timer i) is v found = absurd (none_in_nil (LastOf v) found)
  ending_last mid (Run i) is v found = absurd is
  ending_last mid (RunInPlace i) is v found = absurd is
  ending_last mid (Print i) is v found = absurd is

  -- what a step of the body takes
  body_takes : (mid : Config) (n : ℕ) (q : Register) → Contains (steps_of s) n → Contains (taken s mid (step_instr s plan n)) q
      → (IsTrue (runs s n) × Contains (taken_by mid (equation s n)) q) ⊎ ((x : ℕ) × (q ≡ Own x) × Prints s x n)
  body_takes mid n q in_steps found = elim (steps_cases s n in_steps) [
    | inl run ↦
        let low = (below s plan inputs z t last pend old given between n run).2 in
        inl (run, equation_takes (is_in plan.in_place n) (subst (λ b. Contains (taken s mid (if b then (if is_in plan.in_place n then RunInPlace n else Run n) else Print (n - length s.equations))) q) (lt-ltb n (length s.equations) low) found))
    | inr print ↦
        let high : length s.equations ≤ n = omega (arith, print.3) in
        let there = subst (λ b. Contains (taken s mid (if b then (if is_in plan.in_place n then RunInPlace n else Run n) else Print (n - length s.equations))) q) (le-ltb n (length s.equations) high) found in
        let x = print_of s (n - length s.equations) in
        let number : n - length s.equations ≡ print.0 = omega (arith, print.3) in
        inr (
          print_of s (n - length s.equations),
          sym (in_one (Own (print_of s (n - length s.equations))) q (in_if (fires mid (print_of s (n - length s.equations))) (Own (print_of s (n - length s.equations)) ∷ []) q there)),
          record { number = print.0; printed = record { output = print.1; is = print.2; of = ap (print_of s) number ∙ ap (λ q. option_map_or (λ o. o.equation) q 0) print.2 }; step_is = print.3 },
        )
  ]
    where
      equation_takes : (b : Bool) → Contains (taken s mid (if b then RunInPlace n else Run n)) q → Contains (taken_by mid (equation s n)) q
      equation_takes true there = there
      equation_takes false there = there

  -- no later instruction takes a register that is spoiled
  module _ (rest order : List ℕ) (agrees : Agrees (StandsBefore s plan.in_place) rest order) (steps : (x : ℕ) → Contains rest x → Contains (steps_of s) x) (end : Config) (good : Here rest end) (after : List Instr) (code_is : after ≡ map (step_instr s plan) order ++ tail) where
    not_taken : (x h : ℕ) → end.slots x ≡ Holds (Cell h) → Spoiled s plan.in_place z t last old rest x → IsTaken inputs t s after end (Own x) → ⊥
    not_taken x h holds p taken_later =
        let leads = walk s plan inputs z t last pend old given between tail ends taken_later.before (taken_later.by ∷ taken_later.rest) order rest end taken_later.mid agrees steps good (sym taken_later.is ∙ code_is) taken_later.leads in
        elim leads.place [
          | inl b ↦ in_body b.order b.rest b.agrees b.steps b.fewer b.good b.is (leads.holds x (Cell h) holds)
          | inr e ↦ ending_own rest taken_later.mid taken_later.by (ends taken_later.by (e.part taken_later.by (0, omega arith, refl))) x (good.mid.variable x h holds) p taken_later.takes
        ]
      where
        in_body : (order' rest' : List ℕ) → Agrees (StandsBefore s plan.in_place) rest' order' → ((y : ℕ) → Contains rest' y → Contains (steps_of s) y) → ((y : ℕ) → Contains rest' y → Contains rest y) → GoodHere s plan inputs z t last pend old given between tail ends rest' taken_later.mid → taken_later.by ∷ taken_later.rest ≡ map (step_instr s plan) order' ++ tail → taken_later.mid.slots x ≡ Holds (Cell h) → ⊥
        in_body [] rest' agrees' steps' fewer good' is holds' = ending_own rest taken_later.mid taken_later.by (ends taken_later.by (subst (λ l. Contains l taken_later.by) is (0, omega arith, refl))) x (good.mid.variable x h holds) p taken_later.takes
        in_body (n ∷ order') rest' agrees' steps' fewer good' is holds' =
            let next = next_of s plan inputs z t last pend old given between tail ends rest' n agrees'.0 in
            let p' = spoiled_fewer rest rest' x fewer p in
            elim (body_takes taken_later.mid n (Own x) (steps' n agrees'.0.remains) (subst (λ b. Contains (taken s taken_later.mid b) (Own x)) (cons_head is) taken_later.takes)) [
              | inl run ↦ let e = below s plan inputs z t last pend old given between n run.0 in not_taken_own s plan inputs z t last pend old given between rest' taken_later.mid good' n next e.0 e.1 x h holds' p' run.1
              | inr print ↦ not_taken_print s plan inputs z t last pend old given between rest' taken_later.mid good' n next x h holds' p' (subst (λ y. Prints s y n) (sym (own_same print.1)) print.2)
            ]

    not_taken_from_last : (v h : ℕ) → last v ≡ Some (Cell h) → LastSpoiled s plan.in_place z t last old rest v → IsTaken inputs t s after end (LastOf v) → ⊥
    not_taken_from_last v h is_last p taken_later =
        let leads = walk s plan inputs z t last pend old given between tail ends taken_later.before (taken_later.by ∷ taken_later.rest) order rest end taken_later.mid agrees steps good (sym taken_later.is ∙ code_is) taken_later.leads in
        elim leads.place [
          | inl b ↦ in_body b.order b.rest b.agrees b.steps b.fewer b.good b.is
          | inr e ↦ ending_last taken_later.mid taken_later.by (ends taken_later.by (e.part taken_later.by (0, omega arith, refl))) v taken_later.takes
        ]
      where
        in_body : (order' rest' : List ℕ) → Agrees (StandsBefore s plan.in_place) rest' order' → ((y : ℕ) → Contains rest' y → Contains (steps_of s) y) → ((y : ℕ) → Contains rest' y → Contains rest y) → GoodHere s plan inputs z t last pend old given between tail ends rest' taken_later.mid → taken_later.by ∷ taken_later.rest ≡ map (step_instr s plan) order' ++ tail → ⊥
        in_body [] rest' agrees' steps' fewer good' is = ending_last taken_later.mid taken_later.by (ends taken_later.by (subst (λ l. Contains l taken_later.by) is (0, omega arith, refl))) v taken_later.takes
        in_body (n ∷ order') rest' agrees' steps' fewer good' is =
            let next = next_of s plan inputs z t last pend old given between tail ends rest' n agrees'.0 in
            let p' = last_spoiled_fewer rest rest' v fewer p in
            elim (body_takes taken_later.mid n (LastOf v) (steps' n agrees'.0.remains) (subst (λ b. Contains (taken s taken_later.mid b) (LastOf v)) (cons_head is) taken_later.takes)) [
              | inl run ↦ let e = below s plan inputs z t last pend old given between n run.0 in not_taken_last s plan inputs z t last pend old given between rest' taken_later.mid good' n next e.0 e.1 v h is_last p' run.1
              | inr print ↦ own_last (sym print.1)
            ]

    -- the last register of a variable that an update has changed is overwritten, where the instant has no fault
    left_fires : (v h : ℕ) → last v ≡ Some (Cell h) → LastSpoiled s plan.in_place z t last old rest v → is_fault (z v t) ≡ false → has_event (z v t) ≡ true
    left_fires v h is_last p sound = elim (cases_Bool (has_event (z v t))) [
      | inl happens ↦ happens
      | inr quiet ↦ absurd (fine.all_overwritten p.by (record { inside = p.listed; other = v; conflict = not_overwritten s plan.in_place z t last old given.law (steps_of s) rest (all_steps s) end.slots end.cells good.mid v h is_last (between.stored v h is_last) sound quiet p }))
    ]

    not_left : (v h : ℕ) → last v ≡ Some (Cell h) → LastSpoiled s plan.in_place z t last old rest v → ((x : ℕ) → IsTrue (runs s x) → is_fault (z x t) ≡ false) → Contains tail (Keep v) → (final : Config) → Steps inputs t s after end final → (IsOverwritten inputs t s after end v → ⊥) → ⊥
    not_left v h is_last p sound keeps final run not_overwritten_yet =
        let variable = (between.stored v h is_last).taken.variable in
        let runs_v = variable.running in
        let happens = left_fires v h is_last p (sound v runs_v) in
        let cut = instr_at tail (Keep v) keeps in
        let whole : after ≡ (map (step_instr s plan) order ++ cut.0) ++ Keep v ∷ cut.1 = code_is ∙ ap (λ l. map (step_instr s plan) order ++ l) cut.2 ∙ sym (append_assoc (map (step_instr s plan) order) cut.0 (Keep v ∷ cut.1)) in
        let parts = split_steps inputs t s (map (step_instr s plan) order ++ cut.0) (Keep v ∷ cut.1) end final (subst (λ l. Steps inputs t s l end final) whole run) in
        let leads = walk s plan inputs z t last pend old given between tail ends (map (step_instr s plan) order ++ cut.0) (Keep v ∷ cut.1) order rest end parts.0 agrees steps good (sym whole ∙ code_is) parts.1 in
        let fires_v : fires parts.0 v ≡ true = elim leads.place [
          | inl b ↦ in_body runs_v happens parts.0 cut.1 b.order b.rest b.agrees b.good b.is
          | inr e ↦ ap (λ q. is_some (held (q v))) e.same.0 ∙ fires_is (z v t) (e.at.slots v) (e.good.mid.status v runs_v (λ found. none_in_nil v found)) ∙ happens
        ] in
        not_overwritten_yet (record { before = map (step_instr s plan) order ++ cut.0; rest = cut.1; is = whole; mid = parts.0; leads = parts.1; fires = fires_v })
      where
        in_body : IsTrue (runs s v) → has_event (z v t) ≡ true → (mid : Config) (post : List Instr) (order' rest' : List ℕ) → Agrees (StandsBefore s plan.in_place) rest' order' → GoodHere s plan inputs z t last pend old given between tail ends rest' mid → Keep v ∷ post ≡ map (step_instr s plan) order' ++ tail → fires mid v ≡ true
        in_body runs_v happens mid post [] rest' agrees' good' is = fires_is (z v t) (mid.slots v) (good'.mid.status v runs_v (λ found. none_in_nil v (subst (λ l. Contains l v) agrees' found))) ∙ happens
        in_body runs_v happens mid post (n ∷ order') rest' agrees' good' is = absurd (keep_no_step s plan v n (cons_head is))

  read_own : (faulty : Bool) (after : List Instr) (end : Config) (x : ℕ) → IsStillRead inputs t s faulty after end (Own x) → IsTaken inputs t s after end (Own x)
  read_own faulty after end x (content.later taken_later) = taken_later

  read_last : (faulty : Bool) (after : List Instr) (end : Config) (v : ℕ) → IsStillRead inputs t s faulty after end (LastOf v) → IsTaken inputs t s after end (LastOf v) ⊎ ((faulty ≡ false) × (IsOverwritten inputs t s after end v → ⊥))
  read_last faulty after end v (content.later taken_later) = inl taken_later
  read_last faulty after end v (content.stays sound not_kept) = inr (sound, not_kept)

  -- In an instant that runs to its end, each run in place leaves the view of each register that is still read, other than
  -- its own, as it was.
  pub leaves_read : (start : Config) → Here (steps_of s) start → Agrees (StandsBefore s plan.in_place) (steps_of s) plan.order
      → (faulty : Bool) → (faulty ≡ false → (x : ℕ) → IsTrue (runs s x) → is_fault (z x t) ≡ false) → (faulty ≡ false → (v : ℕ) → Contains (keeps_of s) v → Contains tail (Keep v))
      → (before after : List Instr) (y : ℕ) (mid end final : Config) → body s plan ++ tail ≡ before ++ RunInPlace y ∷ after → Steps inputs t s before start mid → Step inputs t s (RunInPlace y) mid end → Steps inputs t s after end final
      → (r : Register) → IsStillRead inputs t s faulty after end r → r ≢ Own y → seen end r ≡ seen mid r
  leaves_read start good0 agrees0 faulty sound keeps before after y mid end final code_is ran step_y rest_ran r still other =
      let leads = walk s plan inputs z t last pend old given between tail ends before (RunInPlace y ∷ after) plan.order (steps_of s) start mid agrees0 (λ x found. found) good0 (sym code_is) ran in
      elim leads.place [
        | inl b ↦ in_body b.order b.rest b.agrees b.steps b.good b.is
        | inr e ↦ absurd (ends (RunInPlace y) (e.part (RunInPlace y) (0, omega arith, refl)))
      ]
    where
      in_body : (order rest : List ℕ) → Agrees (StandsBefore s plan.in_place) rest order → ((x : ℕ) → Contains rest x → Contains (steps_of s) x) → GoodHere s plan inputs z t last pend old given between tail ends rest mid → RunInPlace y ∷ after ≡ map (step_instr s plan) order ++ tail → seen end r ≡ seen mid r
      in_body [] rest agrees steps good is = absurd (ends (RunInPlace y) (subst (λ l. Contains l (RunInPlace y)) is (0, omega arith, refl)))
      in_body (n ∷ order) rest agrees steps good is =
          let next = next_of s plan inputs z t last pend old given between tail ends rest n agrees.0 in
          let good' = step_good s plan inputs z t last pend old given between rest mid good n next end (steps n agrees.0.remains) (subst (λ x. Step inputs t s x mid end) (cons_head is) step_y) in
          go (λ x found. without-there n rest x found) good' (not_taken (without n rest) order agrees.1 (λ x found. steps x (without-there n rest x found)) end good' after (cons_tail is))
          (not_taken_from_last (without n rest) order agrees.1 (λ x found. steps x (without-there n rest x found)) end good' after (cons_tail is))
          (not_left (without n rest) order agrees.1 (λ x found. steps x (without-there n rest x found)) end good' after (cons_tail is))
          r still other
        where
          go : ((x : ℕ) → Contains (without n rest) x → Contains rest x) → GoodHere s plan inputs z t last pend old given between tail ends (without n rest) end
              → ((x h : ℕ) → end.slots x ≡ Holds (Cell h) → Spoiled s plan.in_place z t last old (without n rest) x → IsTaken inputs t s after end (Own x) → ⊥)
              → ((v h : ℕ) → last v ≡ Some (Cell h) → LastSpoiled s plan.in_place z t last old (without n rest) v → IsTaken inputs t s after end (LastOf v) → ⊥)
              → ((v h : ℕ) → last v ≡ Some (Cell h) → LastSpoiled s plan.in_place z t last old (without n rest) v → ((x : ℕ) → IsTrue (runs s x) → is_fault (z x t) ≡ false) → Contains tail (Keep v) → (final : Config) → Steps inputs t s after end final → (IsOverwritten inputs t s after end v → ⊥) → ⊥)
              → (q : Register) → IsStillRead inputs t s faulty after end q → q ≢ Own y → seen end q ≡ seen mid q
          go sub good' no_own no_last no_left (Own x) still_q other_q =
              let slots_are = in_place_step_slots inputs t s y mid end step_y in
              let same_x : end.slots x ≡ mid.slots x = ap (λ f. f x) slots_are.1 ∙ with-there mid.slots y slots_are.0 x (λ e. other_q (ap Own e)) in
              ap (λ k. option_and_then (view_of end.cells) (held k)) same_x ∙ value same_x (mid.slots x) refl
            where
              value : end.slots x ≡ mid.slots x → (slot : Slot) → mid.slots x ≡ slot → option_and_then (view_of end.cells) (held slot) ≡ option_and_then (view_of mid.cells) (held slot)
              value same_x Blank is_x = refl
              value same_x (Failed kind) is_x = refl
              value same_x (Holds (Bare v)) is_x = refl
              value same_x (Holds (Cell h)) is_x = elim (good'.mid.view x h (same_x ∙ is_x)) [
                | inl right_end ↦ elim (good.mid.view x h is_x) [
                  | inl right_mid ↦ right_end ∙ sym right_mid
                  | inr p ↦ absurd (no_own x h (same_x ∙ is_x) (spoiled_fewer rest (without n rest) x sub p) (read_own faulty after end x still_q))
                ]
                | inr p ↦ absurd (no_own x h (same_x ∙ is_x) p (read_own faulty after end x still_q))
              ]
          go sub good' no_own no_last no_left (LastOf v) still_q other_q =
              (λ k. option_and_then (view_of end.cells) (good'.lasts k v)) ∙ value (last v) refl ∙ (λ k. option_and_then (view_of mid.cells) (sym good.lasts k v))
            where
              no_way : (h : ℕ) → last v ≡ Some (Cell h) → LastSpoiled s plan.in_place z t last old (without n rest) v → ⊥
              no_way h is_v p = elim (read_last faulty after end v still_q) [
                | inl taken_later ↦ no_last v h is_v p taken_later
                | inr left ↦ no_left v h is_v p (sound left.0) (keeps left.0 v (stored_kept s v (between.stored v h is_v))) final rest_ran left.1
              ]

              value : (k : Option Held) → last v ≡ k → option_and_then (view_of end.cells) k ≡ option_and_then (view_of mid.cells) k
              value None is_v = refl
              value (Some (Bare x)) is_v = refl
              value (Some (Cell h)) is_v = elim (good'.mid.last_view v h is_v) [
                | inl right_end ↦ elim (good.mid.last_view v h is_v) [
                  | inl right_mid ↦ right_end ∙ sym right_mid
                  | inr p ↦ absurd (no_way h is_v (last_spoiled_fewer rest (without n rest) v sub p))
                ]
                | inr p ↦ absurd (no_way h is_v p)
              ]
