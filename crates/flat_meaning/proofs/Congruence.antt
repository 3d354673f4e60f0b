-- What a construct makes of streams depends on the times that count alone.
use Rattle.std.proofs.Common.{◌≡◌, ℕ, zero, suc, ◌<◌, ◌≤◌, ◌&&◌, ◌||◌, List, [], ◌∷◌, map, drop, Option, Some, None, Ok, refl, ap, arith}
use Rattle.std.specs.Prelude.{pos, if◌then◌else◌, is_some}
use Rattle.std.specs.List.{list_any, list_all}
use Rattle.std.specs.Option.{option_map, option_or}
use Rattle.tsl_value.specs.View.{View, Plain}
use Rattle.tsl_value.specs.declared.scalar.Scalar.TheVariants as scalar
use Rattle.lift_func.specs.Apply.{Answer, apply}
use Rattle.flat_core.specs.Stream.{Fault, History, event, has_event, is_fault}
use Rattle.flat_core.specs.Events.{Inputs, unit, merged, filtered, outcome_of, fault_of, refused}
use Rattle.flat_core.proofs.Locality.{latest-same, expires-same}
use Rattle.stream_constructs.specs.Construct.{Construct, now, signal, lift_of_options, operand_values, own, used, is_blocked, outcome, root}
use Rattle.stream_constructs.specs.Construct as construct
use Rattle.spec_meaning.specs.Happens.{counts_below}
use Rattle.lift_func.specs.Update.{update_answer}

-- two streams
pub record Two : Type 0 where
  pub one : History
  pub other : History

abbrev pub ones : List Two → List History
ones ps = map (λ p. p.one) ps

abbrev pub others : List Two → List History
others ps = map (λ p. p.other) ps

-- they agree at the times that count, where the first of them is part k
abbrev pub AgreeFrom : Construct → ℕ → ℕ → List Two → Type 0
AgreeFrom c t k [] = Unit {0}
AgreeFrom c t k (p ∷ ps) = ((u : ℕ) → u < counts_below c k t → p.one u ≡ p.other u) × AgreeFrom c t (suc k) ps

-- at a time
abbrev pub AgreeAt : ℕ → List Two → Type 0
AgreeAt t [] = Unit {0}
AgreeAt t (p ∷ ps) = (p.one t ≡ p.other t) × AgreeAt t ps

-- before a time, too
abbrev pub AgreeTo : ℕ → List Two → Type 0
AgreeTo t [] = Unit {0}
AgreeTo t (p ∷ ps) = ((u : ℕ) → u < suc t → p.one u ≡ p.other u) × AgreeTo t ps

at_from : (c : Construct) (t : ℕ) → ((k : ℕ) → counts_below c k t ≡ suc t) → (k : ℕ) (ps : List Two) → AgreeFrom c t k ps → AgreeTo t ps
at_from c t all k [] agree = tt
at_from c t all k (p ∷ ps) agree = ((λ u lt. agree.0 u (let e = all k in omega arith)), at_from c t all (suc k) ps agree.1)

at_to : (t : ℕ) (ps : List Two) → AgreeTo t ps → AgreeAt t ps
at_to t [] agree = tt
at_to t (p ∷ ps) agree = (agree.0 t (omega arith), at_to t ps agree.1)

module _ (t : ℕ) where
  events : (ps : List Two) → AgreeAt t ps → map (λ h. event (h t)) (ones ps) ≡ map (λ h. event (h t)) (others ps)
  events [] agree = refl
  events (p ∷ ps) agree = let rest = events ps agree.1 in λ i. event (agree.0 i) ∷ rest i

  now_same : (p : Two) → ((u : ℕ) → u < suc t → p.one u ≡ p.other u) → now p.one t ≡ now p.other t
  now_same p agree =
      let here = agree t (omega arith) in
      let before = latest-same p.one p.other t (λ u lt. agree u (omega arith)) in
      λ i. option_or (event (here i)) (before i)

  values : (ps : List Two) → AgreeTo t ps → map (λ g. now g t) (ones ps) ≡ map (λ g. now g t) (others ps)
  values [] agree = refl
  values (p ∷ ps) agree = let here = now_same p agree.0 in let rest = values ps agree.1 in λ i. here i ∷ rest i

  any_event : (ps : List Two) → AgreeAt t ps → list_any (λ g. has_event (g t)) (ones ps) ≡ list_any (λ g. has_event (g t)) (others ps)
  any_event [] agree = refl
  any_event (p ∷ ps) agree = let rest = any_event ps agree.1 in λ i. has_event (agree.0 i) || rest i

  each_value : (ps : List Two) → AgreeTo t ps → list_all (λ g. is_some (now g t)) (ones ps) ≡ list_all (λ g. is_some (now g t)) (others ps)
  each_value [] agree = refl
  each_value (p ∷ ps) agree = let here = now_same p agree.0 in let rest = each_value ps agree.1 in λ i. is_some (here i) && rest i

  any_fault : (ps : List Two) → AgreeAt t ps → list_any (λ h. is_fault (h t)) (ones ps) ≡ list_any (λ h. is_fault (h t)) (others ps)
  any_fault [] agree = refl
  any_fault (p ∷ ps) agree = let rest = any_fault ps agree.1 in λ i. is_fault (agree.0 i) || rest i

  signal_same : (f : List (Option View) → Answer) (ps : List Two) → AgreeTo t ps → signal f (ones ps) t ≡ signal f (others ps) t
  signal_same f [] agree = refl
  signal_same f (p ∷ ps) agree =
      let some = any_event (p ∷ ps) (at_to t (p ∷ ps) agree) in
      let all = each_value (p ∷ ps) agree in
      let same = values (p ∷ ps) agree in
      λ i. if some i && all i then f (same i) else Ok None

module _ (inputs : Inputs) (t : ℕ) where
  own_same : (c : Construct) (ps : List Two) → AgreeFrom c t 0 ps → own inputs c (ones ps) t ≡ own inputs c (others ps) t
  own_same construct.Same (a ∷ []) agree = ap (λ x. Ok (event x)) (agree.0 t (omega arith))
  own_same construct.Time (a ∷ []) agree = ap (λ x. Ok (option_map (λ _. Plain (scalar.Int (pos t))) (event x))) (agree.0 t (omega arith))
  own_same construct.Last (v ∷ r ∷ []) agree =
      let before = latest-same v.one v.other t agree.0 in
      let here = agree.1.0 t (omega arith) in
      λ i. Ok (if has_event (here i) then before i else None)
  own_same construct.Delay (d ∷ r ∷ x ∷ []) agree =
      let same = expires-same d.one d.other r.one r.other x.one x.other t agree.0 agree.1.0 agree.1.1.0 in
      λ i. Ok (if same i then Some unit else None)
  own_same construct.Merge (a ∷ b ∷ []) agree =
      let first = agree.0 t (omega arith) in
      let second = agree.1.0 t (omega arith) in
      λ i. Ok (merged (event (first i)) (event (second i)))
  own_same (construct.Const s) (a ∷ []) agree = ap (λ x. Ok (option_map (λ _. Plain s) (event x))) (agree.0 t (omega arith))
  own_same construct.Filter (a ∷ c ∷ []) agree =
      let first = agree.0 t (omega arith) in
      let second = now_same t c agree.1.0 in
      λ i. Ok (filtered (event (first i)) (second i))
  own_same (construct.FilterBy b) (a ∷ []) agree = ap (λ x. Ok (if b then event x else None)) (agree.0 t (omega arith))
  own_same (construct.Lift f) ps agree = ap (lift_of_options f) (events t ps (at_to t ps (at_from (construct.Lift f) t (λ k. refl) 0 ps agree)))
  own_same (construct.Signal f) ps agree = signal_same t (apply f) ps (at_from (construct.Signal f) t (λ k. refl) 0 ps agree)
  own_same (construct.Update o os) ps agree = signal_same t (λ vs. update_answer o (operand_values os vs)) ps (at_from (construct.Update o os) t (λ k. refl) 0 ps agree)
  own_same (construct.Input k) [] agree = refl
  own_same construct.Nil [] agree = refl
  own_same construct.Unit [] agree = refl
  own_same (construct.Literal s) [] agree = refl
  own_same (construct.Empty of) [] agree = refl
  own_same c ps agree = refl

  last_used : (ps : List Two) → AgreeFrom construct.Last t 0 ps → list_any (λ h. is_fault (h t)) (drop 1 (ones ps)) ≡ list_any (λ h. is_fault (h t)) (drop 1 (others ps))
  last_used [] agree = refl
  last_used (v ∷ ps) agree = any_fault t ps (at_to t ps (after 0 ps agree.1))
    where
      after : (k : ℕ) (qs : List Two) → AgreeFrom construct.Last t (suc k) qs → AgreeTo t qs
      after k [] agree = tt
      after k (q ∷ qs) agree = (agree.0, after (suc k) qs agree.1)

  blocked_same : (c : Construct) (ps : List Two) → AgreeFrom c t 0 ps → is_blocked c (ones ps) t ≡ is_blocked c (others ps) t
  blocked_same construct.Last ps agree = last_used ps agree
  blocked_same construct.Delay ps agree = refl
  blocked_same c ps agree = any_fault t ps (at_to t ps (at_from c t (λ k. refl) 0 ps agree))

  pub outcome_same : (c : Construct) (ps : List Two) → AgreeFrom c t 0 ps → outcome inputs c (ones ps) t ≡ outcome inputs c (others ps) t
  outcome_same c ps agree =
      let blocked = blocked_same c ps agree in
      let same = own_same c ps agree in
      λ i. if blocked i then Some Fault else outcome_of (same i)

  from_to : (c : Construct) (k : ℕ) (ps : List Two) → AgreeTo t ps → AgreeFrom c t k ps
  from_to c k [] agree = tt
  from_to c k (p ∷ ps) agree = ((λ u lt. agree.0 u (let few = at_most c k in omega arith)), from_to c (suc k) ps agree.1)
    where
      at_most : (c : Construct) (k : ℕ) → counts_below c k t ≤ suc t
      at_most construct.Last zero = omega arith
      at_most construct.Delay k = omega arith
      at_most c k = omega arith

  pub root_same : (c : Construct) (ps : List Two) → AgreeTo t ps → root inputs c (ones ps) t ≡ root inputs c (others ps) t
  root_same construct.Delay [] agree = refl
  root_same construct.Delay (d ∷ ps) agree = ap (λ x. refused (event x)) (agree.0 t (omega arith))
  root_same c ps agree =
      let from = from_to c 0 ps agree in
      let blocked = blocked_same c ps from in
      let same = own_same c ps from in
      λ i. if blocked i then None else fault_of (same i)
