-- The pairs of steps, one kind after the other.
use Rattle.std.proofs.Common.{◌≡◌, ◌↔◌, ◌⊎◌, ℕ, ◌+◌, ◌-◌, ◌<◌, ◌≤◌, Bool, true, List, [], length, take, get_or, Some, refl, sym, ap, subst, ◌∙◌, inl, inr, arith}
use Rattle.std.specs.Prelude.{IsTrue, slice_get}
use Rattle.std.specs.List.{Contains}
use Rattle.std.proofs.Math.Seq.{take-length}
use Rattle.std.proofs.lemmas.Bool.{cases_lt}
use Rattle.std.proofs.lemmas.List.{get_or_read}
use Rattle.std.proofs.lemmas.Option.{same_Some, slice_get_within, get_or_from_slice_get}
use Rattle.flat_core.specs.declared.equation.Equation.{Equation}
use Rattle.flat_core.specs.declared.equation.Output.{Output}
use Rattle.flat_core.specs.Complete.{IsFlat}
use Rattle.flat_core.specs.inner.Marks.{has_mark}
use Rattle.flat_core.specs.Members.{is_in}
use Rattle.flat_core.specs.System.{System, equation, runs}
use Rattle.flat_core.specs.WellFormed.{unguarded_of}
use Rattle.flat_core.proofs.MarkLemmas.{mark_within}
use Rattle.flat_core.proofs.Members.{Contains-in, all_at}
use Rattle.flat_core.proofs.Depth.{unguarded_in}
use Rattle.translation_order.specs.Order.{Before, AreOfSteps}
use Rattle.alias_rules.specs.Uses.{AreUpdates, read_of, passed_of, written_of}
use Rattle.alias_rules.proofs.Updates.{update_low}
use Rattle.alias_rules.specs.Bypass.{Bypasses}
use Rattle.alias_rules.specs.Conflict.{TakesBefore, read, printed, passed, written, StandsBefore, needed}
use Rattle.alias_rules.specs.Conflict as conflict
use Rattle.alias_rules.specs.Steps.{step_count}
use Rattle.alias_rules.specs.Steps as steps
use Rattle.alias_paths.specs.declared.uses.Uses.{Uses}
use Rattle.alias_paths.specs.inner.Pairs.{ArePairs, Adds, IsWanted, IsGiven, IsKeyBelow}
use Rattle.alias_paths.specs.inner.Marking.{AreJust}
use Rattle.alias_paths.specs.inner.Kept.{AreUses}
use Rattle.alias_nears.specs.inner.Constraints.{IsArgumentAt, IsNeeded, IsPrintOf, IsMarkedBefore, IsTakenBefore, WritesMarked, IsWrittenBefore, PassesMarked, IsPassedBefore, IsPasserOf, HasMarkedPairs, IsPrintedBefore, IsAskedFor, StandsBeforeUpdate, bypasses, takes}
use Rattle.alias_paths.proofs.Adding.{adds_none, adds_as, adds_then, given_more, keyed_next, keyed_all, pairs_of, of_steps_from}
use Rattle.alias_paths.proofs.Using.{taker_low}
use Rattle.alias_nears.proofs.Conflicts.{is_inside}
use Rattle.recursion_check.proofs.FeedLemmas.{typed_low}

-- ---- arguments

abbrev pub GivesArgument : ℕ → Bool → ℕ → ℕ → ℕ → Type 0
GivesArgument number running x a i = IsWanted running x number a i

pub all_arguments : (number : ℕ) (running : Bool) (arguments : List ℕ) (k : ℕ) (old new : List (ℕ × ℕ)) → k ≡ length arguments → Adds old (IsGiven (take k arguments) (GivesArgument number running)) new → Adds old (IsArgumentAt arguments number running) new
all_arguments number running arguments k old new all h =
    let whole : take k arguments ≡ arguments = ap (λ m. take m arguments) all ∙ take-length arguments in
    adds_as old (IsGiven (take k arguments) (GivesArgument number running)) (IsArgumentAt arguments number running) new h
    (λ a i g. record { is = g.gives.second; is_running = g.gives.is_wanted; argument = subst (λ zs. Contains zs a) whole (subst (Contains (take k arguments)) (sym g.gives.first) g.among) })
    (λ a i t. record { item = a; among = subst (λ zs. Contains zs a) (sym whole) t.argument; gives = record { is_wanted = t.is_running; first = refl; second = t.is } })

abbrev pub second_key : ℕ → ℕ → ℕ
second_key a b = b

abbrev pub first_key : ℕ → ℕ → ℕ
first_key a b = a

module _ (s : System) where
  pub needed_next : (k : ℕ) (arguments : List ℕ) (running : Bool) (e : Equation) (old mid new : List (ℕ × ℕ)) → equation s k ≡ Some e → arguments ≡ unguarded_of e.op e.args → running ≡ runs s k → Adds old (IsKeyBelow second_key k (IsNeeded s)) mid → Adds mid (IsArgumentAt arguments k running) new → Adds old (IsKeyBelow second_key (k + 1) (IsNeeded s)) new
  needed_next k arguments running e old mid new found are run first second =
      keyed_next second_key (IsNeeded s) (IsArgumentAt arguments k running) k old mid new first second
      (λ a i t. (
        t.is,
        record {
          running = ap (runs s) t.is ∙ sym run ∙ t.is_running;
          needs = record { at = e; is = ap (equation s) t.is ∙ found; argument = subst (λ zs. Contains zs a) are t.argument };
        },
      ))
      (λ a i same need. record {
        is = same;
        is_running = run ∙ ap (runs s) (sym same) ∙ need.running;
        argument =
            let one : need.needs.at ≡ e = same_Some need.needs.at e (sym need.needs.is ∙ ap (equation s) same ∙ found) in
            subst (λ zs. Contains zs a) (sym are) (subst (λ (d : Equation). Contains (unguarded_of d.op d.args) a) one need.needs.argument);
      })

  pub needed_all : (k : ℕ) (old new : List (ℕ × ℕ)) → length s.equations ≤ k → Adds old (IsKeyBelow second_key k (IsNeeded s)) new → Adds old (IsNeeded s) new
  needed_all k old new all h = keyed_all second_key (IsNeeded s) k old new (λ a i need. let low = slice_get_within s.equations i need.needs.at need.needs.is in omega arith) h

  -- ---- prints

  abbrev pub print_key : ℕ → ℕ → ℕ
  print_key a b = b - length s.equations

  pub prints_next : (k count x : ℕ) (o : Output) (old mid new : List (ℕ × ℕ)) → slice_get s.outputs k ≡ Some o → count ≡ length s.equations → x ≡ o.equation → Adds old (IsKeyBelow print_key k (IsPrintOf s)) mid → Adds mid (IsWanted true x (count + k)) new → Adds old (IsKeyBelow print_key (k + 1) (IsPrintOf s)) new
  prints_next k count x o old mid new found all of first second =
      keyed_next print_key (IsPrintOf s) (IsWanted true x (count + k)) k old mid new first second
      (λ a b w. (
        let is = w.second in omega arith,
        record { place = k; output = o; is = found; of = w.first ∙ of; print = w.second ∙ ap (λ m. m + k) all },
      ))
      (λ a b same p.
      let print = p.print in
      let place : p.place ≡ k = omega arith in
      let one : p.output ≡ o = same_Some p.output o (sym p.is ∙ ap (slice_get s.outputs) place ∙ found) in
      record { is_wanted = refl; first = p.of ∙ ap (λ (q : Output). q.equation) one ∙ sym of; second = p.print ∙ (λ j. sym all j + place j) })

  pub prints_all : (k : ℕ) (old new : List (ℕ × ℕ)) → length s.outputs ≤ k → Adds old (IsKeyBelow print_key k (IsPrintOf s)) new → Adds old (IsPrintOf s) new
  prints_all k old new all h = keyed_all print_key (IsPrintOf s) k old new (λ a b p. let print = p.print in let low = slice_get_within s.outputs p.place p.output p.is in omega arith) h

  abbrev pub printer_key : ℕ → ℕ → ℕ
  printer_key a b = a - length s.equations

  pub printers_next : (marks : List Bool) (y k count : ℕ) (wanted : Bool) (o : Output) (old mid new : List (ℕ × ℕ)) → slice_get s.outputs k ≡ Some o → count ≡ length s.equations → wanted ≡ has_mark marks o.equation → Adds old (IsKeyBelow printer_key k (IsPrintedBefore s marks y)) mid → Adds mid (IsWanted wanted (count + k) y) new → Adds old (IsKeyBelow printer_key (k + 1) (IsPrintedBefore s marks y)) new
  printers_next marks y k count wanted o old mid new found all is first second =
      keyed_next printer_key (IsPrintedBefore s marks y) (IsWanted wanted (count + k) y) k old mid new first second
      (λ a b w. (
        let at = w.first in omega arith,
        record { place = k; output = o; output_is = found; marked = sym is ∙ w.is_wanted; print = w.first ∙ ap (λ m. m + k) all; is = w.second },
      ))
      (λ a b same p.
      let print = p.print in
      let place : p.place ≡ k = omega arith in
      let one : p.output ≡ o = same_Some p.output o (sym p.output_is ∙ ap (slice_get s.outputs) place ∙ found) in
      record { is_wanted = is ∙ ap (λ (q : Output). has_mark marks q.equation) (sym one) ∙ p.marked; first = p.print ∙ (λ j. sym all j + place j); second = p.is })

  pub printers_all : (marks : List Bool) (y k : ℕ) (old new : List (ℕ × ℕ)) → length s.outputs ≤ k → Adds old (IsKeyBelow printer_key k (IsPrintedBefore s marks y)) new → Adds old (IsPrintedBefore s marks y) new
  printers_all marks y k old new all h = keyed_all printer_key (IsPrintedBefore s marks y) k old new (λ a b p. let print = p.print in let low = slice_get_within s.outputs p.place p.output p.output_is in omega arith) h

-- ---- marked equations before an update

module _ (marks : List Bool) (y : ℕ) where
  pub marked_next : (k : ℕ) (old mid new : List (ℕ × ℕ)) → Adds old (IsKeyBelow first_key k (IsMarkedBefore marks y)) mid → Adds mid (IsWanted (has_mark marks k) k y) new → Adds old (IsKeyBelow first_key (k + 1) (IsMarkedBefore marks y)) new
  marked_next k old mid new first second =
      keyed_next first_key (IsMarkedBefore marks y) (IsWanted (has_mark marks k) k y) k old mid new first second
      (λ a b w. (w.first, record { marked = ap (has_mark marks) w.first ∙ w.is_wanted; is = w.second }))
      (λ a b same m. record { is_wanted = ap (has_mark marks) (sym same) ∙ m.marked; first = same; second = m.is })

  pub marked_all : (k : ℕ) (old new : List (ℕ × ℕ)) → length marks ≤ k → Adds old (IsKeyBelow first_key k (IsMarkedBefore marks y)) new → Adds old (IsMarkedBefore marks y) new
  marked_all k old new all h = keyed_all first_key (IsMarkedBefore marks y) k old new (λ a b m. let low = mark_within marks a m.marked in omega arith) h

  -- ---- uses of marked variables

  -- a pair of a variable and an equation that takes it gives that equation and the update
  pub record GivesTaker (Takes : ℕ → ℕ → Type 0) (p : ℕ × ℕ) (a b : ℕ) : Type 0 where
    pub counts : Takes p.0 p.1
    pub first : a ≡ p.1
    pub second : b ≡ y

  module _ (pairs : List (ℕ × ℕ)) (Counts : ℕ → ℕ → Type 0) where
    pub taker_more : (k z : ℕ) (p : ℕ × ℕ) (wanted : Bool) (old mid new : List (ℕ × ℕ)) → k < length pairs → p ≡ get_or pairs k p → z ≡ y → IsTrue wanted ↔ Counts p.0 p.1 → Adds old (IsGiven (take k pairs) (GivesTaker Counts)) mid → Adds mid (IsWanted wanted p.1 z) new → Adds old (IsGiven (take (k + 1) pairs) (GivesTaker Counts)) new
    taker_more k z p wanted old mid new lt is same exact before added =
        given_more pairs (GivesTaker Counts) k p old mid new lt is before (
        adds_as mid (IsWanted wanted p.1 z) (GivesTaker Counts p) new added
        (λ a b w. record { counts = exact.0 w.is_wanted; first = w.first; second = w.second ∙ same })
        (λ a b g. record { is_wanted = exact.1 g.counts; first = g.first; second = g.second ∙ sym same })
        )

    pub taker_given : (k : ℕ) (p : ℕ × ℕ) (Q : ℕ → ℕ → Type 0) (old mid new : List (ℕ × ℕ)) → k < length pairs → p ≡ get_or pairs k p → ((a b : ℕ) → Q a b → GivesTaker Counts p a b) → ((a b : ℕ) → GivesTaker Counts p a b → Q a b) → Adds old (IsGiven (take k pairs) (GivesTaker Counts)) mid → Adds mid Q new → Adds old (IsGiven (take (k + 1) pairs) (GivesTaker Counts)) new
    taker_given k p Q old mid new lt is to from before added = given_more pairs (GivesTaker Counts) k p old mid new lt is before (adds_as mid Q (GivesTaker Counts p) new added to from)

    -- some variable with this equation counts
    pub record HasTaker (a b : ℕ) : Type 0 where
      pub variable : ℕ
      pub among : Before pairs variable a
      pub counts : Counts variable a
      pub is : b ≡ y

    pub takers_all : (k : ℕ) (old new : List (ℕ × ℕ)) → k ≡ length pairs → Adds old (IsGiven (take k pairs) (GivesTaker Counts)) new → Adds old HasTaker new
    takers_all k old new all h =
        let whole : take k pairs ≡ pairs = ap (λ m. take m pairs) all ∙ take-length pairs in
        adds_as old (IsGiven (take k pairs) (GivesTaker Counts)) HasTaker new h
        (λ a b g. record {
          variable = g.item.0;
          among = subst (λ zs. Contains zs (g.item.0, a)) whole (subst (λ z. Contains (take k pairs) (g.item.0, z)) (sym g.gives.first) g.among);
          counts = subst (Counts g.item.0) (sym g.gives.first) g.gives.counts;
          is = g.gives.second;
        })
        (λ a b t. record { item = (t.variable, a); among = subst (λ zs. Contains zs (t.variable, a)) (sym whole) t.among; gives = record { counts = t.counts; first = refl; second = t.is } })

  pub readers_all : (pairs : List (ℕ × ℕ)) (k : ℕ) (old new : List (ℕ × ℕ)) → k ≡ length pairs → Adds old (IsGiven (take k pairs) (GivesTaker (λ v a. IsTrue (has_mark marks v)))) new → Adds old (IsTakenBefore pairs marks y) new
  readers_all pairs k old new all h =
      adds_as old (HasTaker pairs (λ v a. IsTrue (has_mark marks v))) (IsTakenBefore pairs marks y) new (takers_all pairs (λ v a. IsTrue (has_mark marks v)) k old new all h)
      (λ a b t. record { variable = t.variable; among = t.among; marked = t.counts; is = t.is })
      (λ a b t. record { variable = t.variable; among = t.among; counts = t.marked; is = t.is })

  pub writers_all : (pairs : List (ℕ × ℕ)) (k : ℕ) (old new : List (ℕ × ℕ)) → k ≡ length pairs → Adds old (IsGiven (take k pairs) (GivesTaker (WritesMarked marks y))) new → Adds old (IsWrittenBefore pairs marks y) new
  writers_all pairs k old new all h =
      adds_as old (HasTaker pairs (WritesMarked marks y)) (IsWrittenBefore pairs marks y) new (takers_all pairs (WritesMarked marks y) k old new all h)
      (λ a b t. record { variable = t.variable; among = t.among; writes = t.counts; is = t.is })
      (λ a b t. record { variable = t.variable; among = t.among; counts = t.writes; is = t.is })

  -- the pair of a marked equation is there
  pub passer_there : (s : System) (p : ℕ × ℕ) (pairs : List (ℕ × ℕ)) → HasMarkedPairs marks y pairs → IsTrue (has_mark marks p.1) → Adds pairs (IsPasserOf s marks y p.0 p.1) pairs
  passer_there s p pairs there marked = record {
    kept = λ a b h. h;
    there = λ a b g. subst (λ z. Before pairs z b) (sym g.first) (subst (Before pairs p.1) (sym g.is) (there p.1 marked));
    from = λ a b h. inl h;
  }

  pub passer_added : (s : System) (p : ℕ × ℕ) (z : ℕ) (wanted : Bool) (old new : List (ℕ × ℕ)) → z ≡ y → IsTrue wanted ↔ PassesMarked s marks y p.0 p.1 → Adds old (IsWanted wanted p.1 z) new → Adds old (IsPasserOf s marks y p.0 p.1) new
  passer_added s p z wanted old new same exact added =
      adds_as old (IsWanted wanted p.1 z) (IsPasserOf s marks y p.0 p.1) new added
      (λ a b w. record { passes = exact.0 w.is_wanted; first = w.first; is = w.second ∙ same })
      (λ a b g. record { is_wanted = exact.1 g.passes; first = g.first; second = g.is ∙ sym same })

  pub passer_more : (s : System) (pairs : List (ℕ × ℕ)) (k : ℕ) (p : ℕ × ℕ) (old mid new : List (ℕ × ℕ)) → k < length pairs → p ≡ get_or pairs k p → Adds old (IsGiven (take k pairs) (GivesTaker (PassesMarked s marks y))) mid → Adds mid (IsPasserOf s marks y p.0 p.1) new → Adds old (IsGiven (take (k + 1) pairs) (GivesTaker (PassesMarked s marks y))) new
  passer_more s pairs k p old mid new lt is before added =
      taker_given pairs (PassesMarked s marks y) k p (IsPasserOf s marks y p.0 p.1) old mid new lt is
      (λ a b g. record { counts = g.passes; first = g.first; second = g.is })
      (λ a b g. record { passes = g.counts; first = g.first; is = g.second }) before added

  pub passers_all : (s : System) (pairs : List (ℕ × ℕ)) (k : ℕ) (old new : List (ℕ × ℕ)) → k ≡ length pairs → Adds old (IsGiven (take k pairs) (GivesTaker (PassesMarked s marks y))) new → Adds old (IsPassedBefore s pairs marks y) new
  passers_all s pairs k old new all h =
      adds_as old (HasTaker pairs (PassesMarked s marks y)) (IsPassedBefore s pairs marks y) new (takers_all pairs (PassesMarked s marks y) k old new all h)
      (λ a b t. record { variable = t.variable; among = t.among; passes = t.counts; is = t.is })
      (λ a b t. record { variable = t.variable; among = t.among; counts = t.passes; is = t.is })

-- ---- one update

pub adds_both : (old mid new : List (ℕ × ℕ)) (P Q : ℕ → ℕ → Type 0) → Adds old P mid → Adds mid Q new → Adds old (λ a b. P a b ⊎ Q a b) new
adds_both old mid new P Q first second = adds_then old mid new P Q (λ a b. P a b ⊎ Q a b) first second (λ a b p. inl p) (λ a b q. inr q) (λ a b c. c)

module _ (s : System) (set : List ℕ) (uses : Uses) (are : AreUses s uses) (y : ℕ) (marks : List Bool) (just : AreJust (length s.equations) (Bypasses s set y) marks) where
  abbrev Marked : ℕ → ℕ → Type 0
  Marked = IsMarkedBefore marks y

  abbrev Read : ℕ → ℕ → Type 0
  Read = IsTakenBefore uses.read marks y

  abbrev Written : ℕ → ℕ → Type 0
  Written = IsWrittenBefore uses.written marks y

  abbrev Passed : ℕ → ℕ → Type 0
  Passed = IsPassedBefore s uses.passed marks y

  abbrev Printed : ℕ → ℕ → Type 0
  Printed = IsPrintedBefore s marks y

  abbrev Five : ℕ → ℕ → Type 0
  Five a b = Marked a b ⊎ (Read a b ⊎ (Written a b ⊎ (Passed a b ⊎ Printed a b)))

  to_asked : (a b : ℕ) → Five a b → StandsBeforeUpdate s set y a b
  to_asked a b (inl m) = bypasses ((just.each a).0 m.marked) m.is
  to_asked a b (inr (inl t)) = takes t.variable ((just.each t.variable).0 t.marked) (read ((are.read.each t.variable a).0 t.among)) t.is
  to_asked a b (inr (inr (inl t))) = takes t.variable ((just.each t.variable).0 t.writes.marked) (written ((are.written.each t.variable a).0 t.among) t.writes.differs) t.is
  to_asked a b (inr (inr (inr (inl t)))) = takes t.variable ((just.each t.variable).0 t.passes.marked) (passed ((are.passed.each t.variable a).0 t.among) t.passes.passes) t.is
  to_asked a b (inr (inr (inr (inr p)))) = takes p.output.equation ((just.each p.output.equation).0 p.marked) (printed p.place (record { output = p.output; is = p.output_is; of = refl }) p.print) p.is

  taken_asked : (x a b : ℕ) → IsTrue (has_mark marks x) → b ≡ y → TakesBefore s y x a → Five a b
  taken_asked x a b m is (read t) = inr (inl (record { variable = x; among = (are.read.each x a).1 t; marked = m; is = is }))
  taken_asked x a b m is (printed k p at) = inr (inr (inr (inr (record { place = k; output = p.output; output_is = p.is; marked = ap (has_mark marks) (sym p.of) ∙ m; print = at; is = is }))))
  taken_asked x a b m is (passed t over) = inr (inr (inr (inl (record { variable = x; among = (are.passed.each x a).1 t; passes = record { marked = m; passes = over }; is = is }))))
  taken_asked x a b m is (written t ne) = inr (inr (inl (record { variable = x; among = (are.written.each x a).1 t; writes = record { marked = m; differs = ne }; is = is })))

  from_asked : (a b : ℕ) → StandsBeforeUpdate s set y a b → Five a b
  from_asked a b (bypasses h is) = inl (record { marked = (just.each a).1 h; is = is })
  from_asked a b (takes x h t is) = taken_asked x a b ((just.each x).1 h) is t

  pub update_adds : (old one two three four new : List (ℕ × ℕ)) → Adds old Marked one → Adds one Read two → Adds two Written three → Adds three Passed four → Adds four Printed new → Adds old (StandsBeforeUpdate s set y) new
  update_adds old one two three four new a b c d e =
      let last = adds_both three four new Passed Printed d e in
      let third = adds_both two three new Written (λ x z. Passed x z ⊎ Printed x z) c last in
      let second = adds_both one two new Read (λ x z. Written x z ⊎ (Passed x z ⊎ Printed x z)) b third in
      let all = adds_both old one new Marked (λ x z. Read x z ⊎ (Written x z ⊎ (Passed x z ⊎ Printed x z))) a second in
      adds_as old Five (StandsBeforeUpdate s set y) new all to_asked from_asked

-- ---- all updates

module _ (s : System) (set : List ℕ) where
  abbrev pub Asks : ℕ → ℕ → ℕ → Type 0
  Asks y = StandsBeforeUpdate s set y

  pub none_asked : (old : List (ℕ × ℕ)) → Adds old (IsAskedFor s set Asks 0) old
  none_asked old = adds_none old (IsAskedFor s set Asks 0) (λ a b h. let low = h.low in absurd (omega arith))

  pub asked_next : (k y : ℕ) (old mid new : List (ℕ × ℕ)) → y ≡ get_or set k 0 → Adds old (IsAskedFor s set Asks k) mid → Adds mid (StandsBeforeUpdate s set y) new → Adds old (IsAskedFor s set Asks (k + 1)) new
  asked_next k y old mid new is first second =
      adds_then old mid new (IsAskedFor s set Asks k) (StandsBeforeUpdate s set y) (IsAskedFor s set Asks (k + 1)) first second
      (λ a b h. let low = h.low in record { place = h.place; low = omega arith; asks = h.asks })
      (λ a b h. record { place = k; low = omega arith; asks = subst (λ z. StandsBeforeUpdate s set z a b) is h })
      (λ a b h.
      elim (cases_lt h.place k) [
        | inl less ↦ inl (record { place = h.place; low = less; asks = h.asks })
        | inr not_less ↦
            let low = h.low in
            let same : h.place ≡ k = omega arith in
            inr (subst (λ z. StandsBeforeUpdate s set z a b) (ap (λ j. get_or set j 0) same ∙ sym is) h.asks)
      ])

  asked_before : (a b y : ℕ) → IsTrue (is_in set y) → StandsBeforeUpdate s set y a b → StandsBefore s set a b
  asked_before a b y inside (bypasses h is) = subst (StandsBefore s set a) (sym is) (conflict.bypasses inside h)
  asked_before a b y inside (takes x h t is) = subst (StandsBefore s set a) (sym is) (conflict.takes x inside h t)

  abbrev Whole : ℕ → ℕ → ℕ → Type 0
  Whole k a b = IsNeeded s a b ⊎ (IsPrintOf s a b ⊎ IsAskedFor s set Asks k a b)

  module _ (k : ℕ) (all : k ≡ length set) where
    to_before : (a b : ℕ) → Whole k a b → StandsBefore s set a b
    to_before a b (inl need) = needed (steps.argument need.running need.needs)
    to_before a b (inr (inl p)) = needed (steps.printed p.place p.output p.is p.of p.print)
    to_before a b (inr (inr h)) = let lt : h.place < length set = let low = h.low in omega arith in asked_before a b (get_or set h.place 0) (is_inside set h.place (get_or set h.place 0) lt refl) h.asks

    asked_of : (a y : ℕ) → IsTrue (is_in set y) → (b : ℕ) → StandsBeforeUpdate s set y a b → Whole k a b
    asked_of a y inside b h =
        let found = Contains-in set y inside in
        let same : y ≡ get_or set found.0 0 = get_or_read set found.0 y found.1 (sym found.2) 0 in
        inr (inr (record { place = found.0; low = let lt = found.1 in omega arith; asks = subst (λ z. StandsBeforeUpdate s set z a b) same h }))

    from_before : (a b : ℕ) → StandsBefore s set a b → Whole k a b
    from_before a b (needed (steps.argument run needs)) = inl (record { running = run; needs = needs })
    from_before a b (needed (steps.printed place o is of at)) = inr (inl (record { place = place; output = o; is = is; of = of; print = at }))
    from_before a b (conflict.bypasses inside h) = asked_of a b inside b (bypasses h refl)
    from_before a b (conflict.takes x inside h t) = asked_of a b inside b (takes x h t refl)

    pub constraints_are : (start one two new : List (ℕ × ℕ)) → start ≡ [] → Adds start (IsNeeded s) one → Adds one (IsPrintOf s) two → Adds two (IsAskedFor s set Asks k) new → ArePairs (StandsBefore s set) new
    constraints_are start one two new none a b c =
        let last = adds_both one two new (IsPrintOf s) (IsAskedFor s set Asks k) b c in
        let whole = adds_both start one new (IsNeeded s) (λ x z. IsPrintOf s x z ⊎ IsAskedFor s set Asks k x z) a last in
        pairs_of (StandsBefore s set) new (adds_as [] (Whole k) (StandsBefore s set) new (subst (λ l. Adds l (Whole k) new) none whole) to_before from_before)

  -- ---- all are steps

  module _ (flat : IsFlat s) (updates : AreUpdates s set) where
    equation_low : (x : ℕ) → x < length s.equations → x < step_count s
    equation_low x lt = omega arith

    variable_low : (y x : ℕ) → Bypasses s set y x → x < length s.equations
    variable_low y x h = slice_get_within s.equations x h.variable.at h.variable.is

    inside_low : (y : ℕ) → IsTrue (is_in set y) → y < length s.equations
    inside_low y inside = update_low s y (updates y inside)

    taker_step : (y x u : ℕ) → TakesBefore s y x u → u < step_count s
    taker_step y x u (read t) = equation_low u (taker_low s read_of x u t)
    taker_step y x u (printed k p is) = let low = slice_get_within s.outputs k p.output p.is in omega arith
    taker_step y x u (passed t over) = equation_low u (taker_low s passed_of x u t)
    taker_step y x u (written t ne) = equation_low u (taker_low s written_of x u t)

    step_low : (a b : ℕ) → StandsBefore s set a b → (a < step_count s) × (b < step_count s)
    step_low a b (needed (steps.argument run needs)) =
        let typed = flat.complete.typed.each b needs.at needs.is in
        (equation_low a (typed_low s needs.at.args typed.types typed.arguments a (unguarded_in needs.at.op needs.at.args a needs.argument)), equation_low b (slice_get_within s.equations b needs.at needs.is))
    step_low a b (needed (steps.printed k o is of at)) =
        let low = slice_get_within s.outputs k o is in
        let there = all_at (λ (p : Output). p.equation < length s.equations) s.outputs flat.complete.outputs_there o (k, low, get_or_from_slice_get s.outputs k o o is) in
        (equation_low a (subst (λ z. z < length s.equations) (sym of) there), omega arith)
    step_low a b (conflict.bypasses inside h) = (equation_low a (variable_low b a h), equation_low b (inside_low b inside))
    step_low a b (conflict.takes x inside h t) = (taker_step b x a t, equation_low b (inside_low b inside))

    pub constraints_of_steps : (pairs : List (ℕ × ℕ)) → ArePairs (StandsBefore s set) pairs → AreOfSteps (step_count s) pairs
    constraints_of_steps pairs are = of_steps_from (step_count s) pairs (λ a b c. step_low a b ((are.each a b).0 c))
