-- A step that is still to come takes no content that an update has changed in place.
use Rattle.std.proofs.Common.{◌≡◌, ℕ, Bool, true, false, ◌&&◌, ◌||◌, List, [], ◌∷◌, Option, Some, None, Ok, is_some, cond, refl, sym, ap, subst, ◌∙◌, inl, inr, ◌⊎◌, Contains, IsTrue, arith, filter}
use Rattle.std.specs.Prelude.{if◌then◌else◌}
use Rattle.std.specs.List.{list_all}
use Rattle.std.proofs.Math.Bool.{true≢false}
use Rattle.tsl_value.specs.declared.scalar.ValueType.{ValueType}
use Rattle.tsl_value.specs.declared.scalar.Scalar.TheVariants as scalar
use Rattle.flat_core.specs.declared.equation.Op.{Op}
use Rattle.flat_core.specs.declared.equation.Equation.{Equation}
use Rattle.flat_core.specs.Stream.{Outcome, Event, Fault, has_event, is_fault, latest}
use Rattle.flat_core.specs.Case.{Streams, used_of}
use Rattle.flat_core.specs.Events.{Inputs, outcome_of}
use Rattle.flat_core.specs.System.{System, runs, equation}
use Rattle.flat_core.specs.declared.equation.Op.TheVariants as op
use Rattle.tsl_value.proofs.Lists.{later, none_in_nil, cons_cases, in_kept}
use Rattle.tsl_value.specs.declared.operation.Update.{Update}
use Rattle.tsl_value.specs.declared.operation.Update.TheVariants as update
use Rattle.flat_core.specs.Updates.{operation_of, update_in, is_update}
use Rattle.flat_core.proofs.UpdateOps.{by_update}
use Rattle.alias_rules.specs.Uses.{first_of, written_of, IsVariable, IsLast}
use Rattle.alias_rules.specs.Roots.{IsOrigin}
use Rattle.alias_rules.specs.Conflict.{TakesBefore}
use Rattle.alias_rules.specs.Conflict as conflict
use Rattle.register_machine.specs.Run.{Plan}
use Rattle.register_machine.proofs.Running.{Running, Prints}
use Rattle.register_machine.proofs.Orders.{steps_of, all_steps}
use Rattle.register_machine.specs.Machine.{Held, Bare, Cell, Holds, Cells, Config, held, is_barred, fires, slot_of}
use Rattle.register_machine.specs.Content.{Register, Own, LastOf, chosen, is_true, owned, taken_of, taken_by}
use Rattle.register_machine.proofs.Reach.{IsEntered, not_passed_over}
use Rattle.register_machine.proofs.Middle.{SlotOf, Spoiled, LastSpoiled, IsNext, holds_event}
use Rattle.register_machine.proofs.Moves.{Between}
use Rattle.register_machine.proofs.UpdateEffects.{written_first}
use Rattle.register_machine.proofs.Setting.{Fit, FitIf, by_fit, Setting, fires_is, variable_too}
use Rattle.register_machine.proofs.Uses.{unspoiled, last_bypasses}
use Rattle.register_machine.proofs.Steps.{Good, done_args, barred_is, sound_args}

pub own_same : {x y : ℕ} → Own x ≡ Own y → x ≡ y
own_same e = cc

last_same : {x y : ℕ} → LastOf x ≡ LastOf y → x ≡ y
last_same e = cc

pub own_last : {x y : ℕ} {P : Type 0} → Own x ≡ LastOf y → P
own_last e = absurd (cc)

last_own : {x y : ℕ} {P : Type 0} → LastOf x ≡ Own y → P
last_own e = absurd (cc)

in_owned : (args : List ℕ) (x : ℕ) → Contains (owned args) (Own x) → Contains args x
in_owned [] x found = absurd (none_in_nil (Own x) found)
in_owned (a ∷ args) x found = elim (cons_cases (Own a) (Own x) (owned args) found) [ inl same ↦ (0, omega arith, own_same same) | inr after ↦ later a x args (in_owned args x after) ]

no_owned : (args : List ℕ) (v : ℕ) → Contains (owned args) (LastOf v) → ⊥
no_owned [] v found = absurd (none_in_nil (LastOf v) found)
no_owned (a ∷ args) v found = elim (cons_cases (Own a) (LastOf v) (owned args) found) [ inl same ↦ own_last same | inr after ↦ no_owned args v after ]

pub in_one : (r q : Register) → Contains (r ∷ []) q → r ≡ q
in_one r q found = elim (cons_cases r q [] found) [ inl same ↦ same | inr after ↦ absurd (none_in_nil q after) ]

pub in_if : (b : Bool) (rs : List Register) (q : Register) → Contains (if b then rs else []) q → Contains rs q
in_if true rs q found = found
in_if false rs q found = absurd (none_in_nil q found)

in_if_true : (b : Bool) (rs : List Register) (q : Register) → Contains (if b then rs else []) q → b ≡ true
in_if_true true rs q found = refl
in_if_true false rs q found = absurd (none_in_nil q found)

and_left : (a b : Bool) → (a && b) ≡ true → a ≡ true
and_left true b is = refl
and_left false b is = absurd (true≢false (sym is))

in_chosen : (k : Option Held) (a b : ℕ) (q : Register) → Contains (chosen k a b) q → (q ≡ Own a) ⊎ (q ≡ Own b)
in_chosen (Some (Bare (scalar.Bool true))) a b q found = inl (sym (in_one (Own a) q found))
in_chosen (Some (Bare (scalar.Bool false))) a b q found = inr (sym (in_one (Own b) q found))
in_chosen _ a b q found = absurd (none_in_nil q found)

pub event_no_fault : (o : Option Outcome) → has_event o ≡ true → is_fault o ≡ false
event_no_fault None is = absurd (true≢false (sym is))
event_no_fault (Some (Event v)) is = refl
event_no_fault (Some Fault) is = absurd (true≢false (sym is))

-- an update takes its first argument
own_taken : (c : Config) (u : Update) (args : List ℕ) → taken_of c (operation_of u) args ≡ (if is_update (operation_of u) && list_all (fires c) args then owned (first_of args) else [])
own_taken c update.SetAdd args = refl
own_taken c u args = refl

taken_update : (c : Config) (o : Op) (u : Update) → update_in o ≡ Some u → (args : List ℕ) → taken_of c o args ≡ (if is_update o && list_all (fires c) args then owned (first_of args) else [])
taken_update c o u is args = by_update (λ p u. taken_of c p args ≡ (if is_update p && list_all (fires c) args then owned (first_of args) else [])) (λ u. own_taken c u args) o u is

abbrev eq_of : Equation → Op → List ℕ → ValueType → Equation
eq_of e0 o args of = record e0 { op = o; args = args; of = of }

module _ (s : System) (plan : Plan) (inputs : Inputs) (z : Streams) (t : ℕ) (last : ℕ → Option Held) (pend : ℕ → Option ℕ) (old : Cells) (given : Setting s inputs z t last pend) (between : Between s plan.in_place z t last old) (rest : List ℕ) (c : Config) (good : Good s plan inputs z t last pend old given between rest c) (i : ℕ) (next : IsNext s plan.in_place z t last old (steps_of s) rest i) where
  abbrev SpoiledHere : ℕ → Type 0
  SpoiledHere x = Spoiled s plan.in_place z t last old rest x

  module _ (e0 : Equation) where
    -- the first argument of a merge that is there
    merge_takes : (a b : ℕ) → IsTrue (runs s a) → (Contains rest a → ⊥) → is_fault (z a t) ≡ false → (x : ℕ) → Contains (owned (first_of (filter (fires c) (a ∷ b ∷ [])))) (Own x) → ((x ≡ a) ⊎ (x ≡ b)) × IsEntered s plan.in_place z t last old x op.Merge (a ∷ b ∷ [])
    merge_takes a b run gone sound x found = go (fires c a) refl found
      where
        go : (fa : Bool) → fires c a ≡ fa → Contains (owned (first_of (cond fa (a ∷ cond (fires c b) (b ∷ []) []) (cond (fires c b) (b ∷ []) [])))) (Own x) → ((x ≡ a) ⊎ (x ≡ b)) × IsEntered s plan.in_place z t last old x op.Merge (a ∷ b ∷ [])
        go true is there = let same = sym (own_same (in_one (Own a) (Own x) there)) in (inl same, inl same)
        go false is there = second (fires c b) there
          where
            second : (fb : Bool) → Contains (owned (first_of (cond fb (b ∷ []) []))) (Own x) → ((x ≡ a) ⊎ (x ≡ b)) × IsEntered s plan.in_place z t last old x op.Merge (a ∷ b ∷ [])
            second true here = (inr (sym (own_same (in_one (Own b) (Own x) here))), inr (run, sound, sym (fires_is (z a t) (c.slots a) (good.mid.status a run gone)) ∙ is))
            second false here = absurd (none_in_nil (Own x) here)

    update_use : (o : Op) (u : Update) → update_in o ≡ Some u → (m : ℕ) (ks : List ℕ) (of : ValueType) → Running s i (eq_of e0 o (m ∷ ks) of) → (x : ℕ) → IsVariable s x → (p : SpoiledHere x) → Contains (taken_of c o (m ∷ ks)) (Own x) → TakesBefore s p.by x i
    update_use o u h m ks of running x variable p found =
        let same = own_same (in_one (Own m) (Own x) (in_if (is_update o && list_all (fires c) (m ∷ ks)) (Own m ∷ []) (Own x) (subst (λ l. Contains l (Own x)) (taken_update c o u h (m ∷ ks)) found))) in
        conflict.written (record { at = eq_of e0 o (m ∷ ks) of; is = running.is; running = running.runs_too; variable = variable; argument = subst (Contains (written_of o (m ∷ ks))) same (written_first o u h m ks) }) (λ is. p.ran (subst (Contains rest) is next.remains))

    others_use : (o : Op) (args : List ℕ) (of : ValueType) → FitIf s (is_update o) args of → Running s i (eq_of e0 o args of) → (x : ℕ) → IsVariable s x → (p : SpoiledHere x) → Contains (taken_of c o args) (Own x) → TakesBefore s p.by x i
    others_use o args of fit =
        by_fit s o of (λ args. Running s i (eq_of e0 o args of) → (x : ℕ) → IsVariable s x → (p : SpoiledHere x) → Contains (taken_of c o args) (Own x) → TakesBefore s p.by x i) (λ u h m ks fits. update_use o u h m ks of) args fit

    taken_uses : (o : Op) (args : List ℕ) (of : ValueType) → Running s i (eq_of e0 o args of) → Fit s o args of → ((a : ℕ) → Contains (used_of o args) a → IsTrue (runs s a) × (Contains rest a → ⊥)) → ((a : ℕ) → Contains (used_of o args) a → is_fault (z a t) ≡ false)
        → (x : ℕ) → IsVariable s x → (p : SpoiledHere x) → Contains (taken_of c o args) (Own x) → TakesBefore s p.by x i
    taken_uses (op.Lift body true) args of running fit done sound x variable p found = conflict.read (record { at = eq_of e0 (op.Lift body true) args of; is = running.is; running = running.runs_too; variable = variable; argument = in_owned args x (in_if (list_all (fires c) args) (owned args) (Own x) found) })
    taken_uses (op.Lift body false) args of running fit done sound x variable p found = conflict.read (record { at = eq_of e0 (op.Lift body false) args of; is = running.is; running = running.runs_too; variable = variable; argument = (in_kept (fires c) args x (in_owned (filter (fires c) args) x found)).0 })
    taken_uses op.Merge (a ∷ b ∷ []) of running fit done sound x variable p found =
        let da = done a (0, omega arith, refl) in
        let got = merge_takes a b da.0 da.1 (sound a (0, omega arith, refl)) x found in
        let passed : Contains (a ∷ b ∷ []) x = elim got.0 [ inl is ↦ (0, omega arith, sym is) | inr is ↦ (1, omega arith, sym is) ] in
        conflict.passed (record { at = eq_of e0 op.Merge (a ∷ b ∷ []) of; is = running.is; running = running.runs_too; variable = variable; argument = passed }) (not_passed_over s plan.in_place z t last old given.law p.by p.runs_by p.fires x i (eq_of e0 op.Merge (a ∷ b ∷ []) of) running.is got.1)
    taken_uses op.Filter (e ∷ d ∷ []) of running fit done sound x variable p found =
        let same = own_same (in_one (Own e) (Own x) (in_if (fires c e && is_true (held (c.slots d))) (Own e ∷ []) (Own x) found)) in
        conflict.passed (record { at = eq_of e0 op.Filter (e ∷ d ∷ []) of; is = running.is; running = running.runs_too; variable = variable; argument = (0, omega arith, same) }) (not_passed_over s plan.in_place z t last old given.law p.by p.runs_by p.fires x i (eq_of e0 op.Filter (e ∷ d ∷ []) of) running.is tt)
    taken_uses op.Pick (d ∷ a ∷ b ∷ []) of running fit done sound x variable p found =
        let got = in_chosen (held (c.slots d)) a b (Own x) (in_if (fires c a && fires c b) (chosen (held (c.slots d)) a b) (Own x) found) in
        let passed : Contains (a ∷ b ∷ []) x = elim got [ inl is ↦ (0, omega arith, sym (own_same is)) | inr is ↦ (1, omega arith, sym (own_same is)) ] in
        conflict.passed (record { at = eq_of e0 op.Pick (d ∷ a ∷ b ∷ []) of; is = running.is; running = running.runs_too; variable = variable; argument = passed }) (not_passed_over s plan.in_place z t last old given.law p.by p.runs_by p.fires x i (eq_of e0 op.Pick (d ∷ a ∷ b ∷ []) of) running.is tt)
    taken_uses op.Last (v ∷ r ∷ []) of running fit done sound x variable p found = last_own (in_one (LastOf v) (Own x) (in_if (fires c r && is_some (c.lasts v)) (LastOf v ∷ []) (Own x) found))
    taken_uses op.Input [] of running fit done sound x variable p found = absurd (none_in_nil (Own x) found)
    taken_uses op.Nil [] of running fit done sound x variable p found = absurd (none_in_nil (Own x) found)
    taken_uses op.Unit [] of running fit done sound x variable p found = absurd (none_in_nil (Own x) found)
    taken_uses op.Empty [] of running fit done sound x variable p found = absurd (none_in_nil (Own x) found)
    taken_uses op.Any args of running fit done sound x variable p found = absurd (none_in_nil (Own x) found)
    taken_uses op.Time (a ∷ []) of running fit done sound x variable p found = absurd (none_in_nil (Own x) found)
    taken_uses op.Delay (d ∷ r ∷ []) of running fit done sound x variable p found = absurd (none_in_nil (Own x) found)
    taken_uses o args of running fit done sound x variable p found = others_use o args of fit running x variable p found

    others_last : (o : Op) (args : List ℕ) (of : ValueType) → FitIf s (is_update o) args of → (v : ℕ) → Contains (taken_of c o args) (LastOf v) → (r : ℕ) × (o ≡ op.Last) × (args ≡ v ∷ r ∷ []) × (fires c r ≡ true)
    others_last o args of fit =
        by_fit s o of (λ args. (v : ℕ) → Contains (taken_of c o args) (LastOf v) → (r : ℕ) × (o ≡ op.Last) × (args ≡ v ∷ r ∷ []) × (fires c r ≡ true))
        (λ u h m ks fits v found. own_last (in_one (Own m) (LastOf v) (in_if (is_update o && list_all (fires c) (m ∷ ks)) (Own m ∷ []) (LastOf v) (subst (λ l. Contains l (LastOf v)) (taken_update c o u h (m ∷ ks)) found)))) args fit

    -- a last alone takes the content of a last register
    taken_last : (o : Op) (args : List ℕ) (of : ValueType) → Fit s o args of → (v : ℕ) → Contains (taken_of c o args) (LastOf v) → (r : ℕ) × (o ≡ op.Last) × (args ≡ v ∷ r ∷ []) × (fires c r ≡ true)
    taken_last op.Last (w ∷ r ∷ []) of fit v found =
        let same = last_same (in_one (LastOf w) (LastOf v) (in_if (fires c r && is_some (c.lasts w)) (LastOf w ∷ []) (LastOf v) found)) in
        (r, refl, ap (λ n. n ∷ r ∷ []) same, and_left (fires c r) (is_some (c.lasts w)) (in_if_true (fires c r && is_some (c.lasts w)) (LastOf w ∷ []) (LastOf v) found))
    taken_last (op.Lift body true) args of fit v found = absurd (no_owned args v (in_if (list_all (fires c) args) (owned args) (LastOf v) found))
    taken_last (op.Lift body false) args of fit v found = absurd (no_owned (filter (fires c) args) v found)
    taken_last op.Merge (a ∷ b ∷ []) of fit v found = absurd (no_owned (first_of (filter (fires c) (a ∷ b ∷ []))) v found)
    taken_last op.Filter (e ∷ d ∷ []) of fit v found = own_last (in_one (Own e) (LastOf v) (in_if (fires c e && is_true (held (c.slots d))) (Own e ∷ []) (LastOf v) found))
    taken_last op.Pick (d ∷ a ∷ b ∷ []) of fit v found = elim (in_chosen (held (c.slots d)) a b (LastOf v) (in_if (fires c a && fires c b) (chosen (held (c.slots d)) a b) (LastOf v) found)) [ inl is ↦ last_own is | inr is ↦ last_own is ]
    taken_last op.Input [] of fit v found = absurd (none_in_nil (LastOf v) found)
    taken_last op.Nil [] of fit v found = absurd (none_in_nil (LastOf v) found)
    taken_last op.Unit [] of fit v found = absurd (none_in_nil (LastOf v) found)
    taken_last op.Empty [] of fit v found = absurd (none_in_nil (LastOf v) found)
    taken_last op.Any args of fit v found = absurd (none_in_nil (LastOf v) found)
    taken_last op.Time (a ∷ []) of fit v found = absurd (none_in_nil (LastOf v) found)
    taken_last op.Delay (d ∷ r ∷ []) of fit v found = absurd (none_in_nil (LastOf v) found)
    taken_last o args of fit v found = others_last o args of fit v found

  in_else : (b : Bool) (rs : List Register) (q : Register) → Contains (if b then [] else rs) q → Contains rs q
  in_else true rs q found = absurd (none_in_nil q found)
  in_else false rs q found = found

  in_else_false : (b : Bool) (rs : List Register) (q : Register) → Contains (if b then [] else rs) q → b ≡ false
  in_else_false true rs q found = absurd (none_in_nil q found)
  in_else_false false rs q found = refl

  pub not_taken_own : (e : Equation) → Running s i e → (x h : ℕ) → c.slots x ≡ Holds (Cell h) → SpoiledHere x → Contains (taken_by c (equation s i)) (Own x) → ⊥
  not_taken_own e running x h holds p found =
      let there : Contains (taken_by c (Some e)) (Own x) = subst (λ q. Contains (taken_by c q) (Own x)) running.is found in
      let none = in_else_false (is_barred c e) (taken_of c e.op e.args) (Own x) there in
      let inside = in_else (is_barred c e) (taken_of c e.op e.args) (Own x) there in
      unspoiled s plan.in_place z t last old given.law (steps_of s) rest (all_steps s) c.slots c.cells good.mid x i next.remains p
      (taken_uses e e.op e.args e.of running (given.fitting i e running) (done_args s plan inputs z t last pend old given between rest c good i next e running) (sound_args s plan inputs z t last pend old given between rest c good i next e (sym (barred_is s plan inputs z t last pend old given between rest c good i next e running) ∙ none)) x (good.mid.variable x h holds) p inside)

  -- a last that remains and whose second argument has an event takes no last register that is spoiled
  last_spoils : (d0 : Equation) (of : ValueType) (v r h : ℕ) → Running s i (eq_of d0 op.Last (v ∷ r ∷ []) of) → last v ≡ Some (Cell h) → LastSpoiled s plan.in_place z t last old rest v → fires c r ≡ true → ⊥
  last_spoils d0 of v r h running same p fires_r =
      let d = done_args s plan inputs z t last pend old given between rest c good i next (eq_of d0 op.Last (v ∷ r ∷ []) of) running r (0, omega arith, refl) in
      let happens_r : has_event (z r t) ≡ true = sym (fires_is (z r t) (c.slots r) (good.mid.status r d.0 d.1)) ∙ fires_r in
      let sound_r = event_no_fault (z r t) happens_r in
      let is_v : z i t ≡ outcome_of (Ok (latest (z v) t)) = given.solves i (eq_of d0 op.Last (v ∷ r ∷ []) of) running ∙ (λ k. if sound_r k || false then Some Fault else outcome_of (Ok (if happens_r k then latest (z v) t else None))) in
      let status : SlotOf (z i t) (Holds (Cell h)) = subst (λ o. SlotOf o (Holds (Cell h))) (sym is_v) (subst (λ k. SlotOf (outcome_of (Ok (latest (z v) t))) (slot_of k)) same (given.lasts v i (eq_of d0 op.Last (v ∷ r ∷ []) of) running (0, omega arith, refl))) in
      let variable_v = (between.stored v h same).taken.variable in
      let variable_i = variable_too s v i (eq_of d0 op.Last (v ∷ r ∷ []) of) running variable_v (given.fitting i (eq_of d0 op.Last (v ∷ r ∷ []) of) running) in
      let takes : IsLast s v i = record { at = eq_of d0 op.Last (v ∷ r ∷ []) of; is = running.is; running = running.runs_too; variable = variable_v; argument = (0, omega arith, refl) } in
      let root : IsOrigin s plan.in_place i = record { variable = variable_i; at = eq_of d0 op.Last (v ∷ r ∷ []) of; is = running.is; begins = refl } in
      let happens = holds_event (z i t) (Holds (Cell h)) (Cell h) status refl in
      good.mid.past p.by i (all_steps s p.by p.runs_by) p.ran next.remains (conflict.bypasses p.listed (last_bypasses s plan.in_place z t last old given.law (steps_of s) rest (all_steps s) c.slots c.cells good.mid v h i same running.runs_too happens takes root variable_i p))

  pub not_taken_last : (e : Equation) → Running s i e → (v h : ℕ) → last v ≡ Some (Cell h) → LastSpoiled s plan.in_place z t last old rest v → Contains (taken_by c (equation s i)) (LastOf v) → ⊥
  not_taken_last e running v h is p found =
      let there : Contains (taken_by c (Some e)) (LastOf v) = subst (λ q. Contains (taken_by c q) (LastOf v)) running.is found in
      let inside = in_else (is_barred c e) (taken_of c e.op e.args) (LastOf v) there in
      let got = taken_last e e.op e.args e.of (given.fitting i e running) v inside in
      let same : e ≡ eq_of e op.Last (v ∷ got.0 ∷ []) e.of = λ k. record e { op = got.1 k; args = got.2 k } in
      last_spoils e e.of v got.0 h (subst (Running s i) same running) is p got.3

  -- a print
  pub not_taken_print : (x h : ℕ) → c.slots x ≡ Holds (Cell h) → SpoiledHere x → Prints s x i → ⊥
  not_taken_print x h holds p printed = unspoiled s plan.in_place z t last old given.law (steps_of s) rest (all_steps s) c.slots c.cells good.mid x i next.remains p (conflict.printed printed.number printed.printed printed.step_is)
