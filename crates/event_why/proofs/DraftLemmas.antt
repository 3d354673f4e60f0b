-- Steps that are put to a draft.
use Rattle.std.proofs.Common.{◌≡◌, ℕ, ◌<◌, List, [], ◌∷◌, ◌++◌, Option, Some, None, length, refl, sym, ap, subst, ◌∙◌, inl, inr, arith}
use Rattle.std.proofs.lemmas.Bool.{cases_lt}
use Rattle.std.proofs.lemmas.List.{length-append}
use Rattle.std.proofs.lemmas.Option.{none-some, same_Some, slice_get_within}
use Rattle.std.specs.Prelude.{IfOk, Result, Ok, Err, slice_get}
use Rattle.std.specs.Option.{option_map}
use Rattle.tsl_value.proofs.Lists.{get_left, get_seam}
use Rattle.flat_core.specs.Events.{Inputs}
use Rattle.flat_core.specs.System.{System}
use Rattle.why_rules.specs.Facts.{Fact}
use Rattle.why_rules.specs.Rules.{Follows}
use Rattle.event_why.specs.declared.draft.Draft.{Draft}
use Rattle.event_why.specs.declared.fact.WhyStep.{WhyStep}
use Rattle.event_why.specs.Check.{AreNamed, AreRight, HaveSame, IsRight}
use Rattle.event_why.specs.Check as check
use Rattle.event_why.specs.Said.{said}
use Rattle.event_why.specs.inner.Drafted.{HasSameTables, IsGrounded, IsGrown, IsPut, fact_at, there}

abbrev pub told : WhyStep → Fact
told step = said step.fact

-- what holds of an answer holds of what is there
pub ok_then : {A E : Type 0} (r : Result A E) {P Q : A → Type 0} → IfOk r P → ((x : A) → P x → Q x) → IfOk r Q
ok_then (Ok x) has go = go x has
ok_then (Err e) has go = tt

-- the step that has a fact
pub fact_within : (steps : List WhyStep) (k : ℕ) (f : Fact) → fact_at steps (Some k) ≡ Some f → (step : WhyStep) × (k < length steps) × (slice_get steps k ≡ Some step) × (said step.fact ≡ f)
fact_within steps k f is = found (slice_get steps k) refl is
  where
    found : (o : Option WhyStep) → slice_get steps k ≡ o → option_map told o ≡ Some f → (step : WhyStep) × (k < length steps) × (slice_get steps k ≡ Some step) × (said step.fact ≡ f)
    found None at same = absurd (none-some f same)
    found (Some step) at same = (step, slice_get_within steps k step at, at, same_Some (said step.fact) f same)

pub fact_here : (steps : List WhyStep) (k : ℕ) (step : WhyStep) (f : Fact) → slice_get steps k ≡ Some step → said step.fact ≡ f → fact_at steps (Some k) ≡ Some f
fact_here steps k step f at is = ap (option_map told) at ∙ ap Some is

-- ---- naming facts
pub name_next : (steps : List WhyStep) (k n : ℕ) (f : Fact) (ns : List ℕ) (fs : List Fact) → n < k → fact_at steps (Some n) ≡ Some f → AreNamed steps k ns fs → AreNamed steps k (n ∷ ns) (f ∷ fs)
name_next steps k n f ns fs lt at rest =
    let found = fact_within steps n f at in
    subst (λ g. AreNamed steps k (n ∷ ns) (g ∷ fs)) found.3 (check.AreNamed.next found.0 lt found.2 rest)

pub there_next : (steps : List WhyStep) (x : Option ℕ) (f : Fact) (ns : List (Option ℕ)) (fs : List Fact) → fact_at steps x ≡ Some f → AreNamed steps (length steps) (there ns) fs → AreNamed steps (length steps) (there (x ∷ ns)) (f ∷ fs)
there_next steps None f ns fs at rest = absurd (none-some f at)
there_next steps (Some n) f ns fs at rest = name_next steps (length steps) n f (there ns) fs (fact_within steps n f at).1 at rest

pub there_not : (steps : List WhyStep) (x : Option ℕ) (ns : List (Option ℕ)) (fs : List Fact) → x ≡ None → AreNamed steps (length steps) (there ns) fs → AreNamed steps (length steps) (there (x ∷ ns)) fs
there_not steps x ns fs is rest = subst (λ y. AreNamed steps (length steps) (there (y ∷ ns)) fs) (sym is) rest

pub there_end : (steps : List WhyStep) → AreNamed steps (length steps) (there []) []
there_end steps = check.AreNamed.done

pub ground : (s : System) (slice : List ℕ) (p : Inputs) (steps : List WhyStep) (f : Fact) (by : List ℕ) (facts : List Fact) → AreNamed steps (length steps) by facts → Follows s slice p f facts → IsGrounded s slice p steps f by
ground s slice p steps f by facts named follows = record { facts = facts; named = named; uses = facts; same = λ g. (λ c. c, λ c. c); follows = follows }

-- ---- one more step
named_more : (steps more : List WhyStep) (k : ℕ) (ns : List ℕ) (fs : List Fact) → AreNamed steps k ns fs → AreNamed (steps ++ more) k ns fs
named_more steps more k [] fs check.AreNamed.done = check.AreNamed.done
named_more steps more k (n ∷ ns) fs (check.AreNamed.next {fs = gs} step lt at rest) =
    check.AreNamed.next step lt (get_left steps more n step at) (named_more steps more k ns gs rest)

-- facts stay
pub put_still : (old new : Draft) (step : WhyStep) (n : ℕ) → IsPut old new step n → (k : ℕ) (f : Fact) → fact_at old.steps.items (Some k) ≡ Some f → fact_at new.steps.items (Some k) ≡ Some f
put_still old new step n put k f at =
    let steps = old.steps.items in
    let found = fact_within steps k f at in
    subst (λ xs. fact_at xs (Some k) ≡ Some f) (sym put.steps) (fact_here (steps ++ step ∷ []) k found.0 f (get_left steps (step ∷ []) k found.0 found.2) found.3)

module _ (s : System) (slice : List ℕ) (p : Inputs) where
  right_left : (steps more : List WhyStep) (k : ℕ) → IsRight s slice p steps k → IsRight s slice p (steps ++ more) k
  right_left steps more k r = record {
    step = r.step;
    is = get_left steps more k r.step r.is;
    facts = r.facts;
    named = named_more steps more k r.step.by.items r.facts r.named;
    uses = r.uses;
    same = r.same;
    follows = r.follows;
  }

  right_last : (steps : List WhyStep) (step : WhyStep) → IsGrounded s slice p steps (said step.fact) step.by.items → IsRight s slice p (steps ++ step ∷ []) (length steps)
  right_last steps step g = record {
    step = step;
    is = get_seam steps step [];
    facts = g.facts;
    named = named_more steps (step ∷ []) (length steps) step.by.items g.facts g.named;
    uses = g.uses;
    same = g.same;
    follows = g.follows;
  }

  right_put : (steps : List WhyStep) (step : WhyStep) → IsGrounded s slice p steps (said step.fact) step.by.items → AreRight s slice p steps (length steps) → AreRight s slice p (steps ++ step ∷ []) (length (steps ++ step ∷ []))
  right_put steps step g right k lt =
      let total = length-append steps (step ∷ []) in
      elim (cases_lt k (length steps)) [
        | inl before ↦ right_left steps (step ∷ []) k (right k before)
        | inr after ↦
            let last : length steps ≡ k = omega (arith, total) in
            subst (IsRight s slice p (steps ++ step ∷ [])) last (right_last steps step g)
      ]

  pub grown_by : (old new : Draft) (step : WhyStep) (n : ℕ) → IsPut old new step n → IsGrounded s slice p old.steps.items (said step.fact) step.by.items → IsGrown s slice p old new n (said step.fact)
  grown_by old new step n put g =
      let steps = old.steps.items in
      let total = length-append steps (step ∷ []) in
      let count = ap length put.steps in
      record {
        longer = omega (arith, total, count);
        same = λ k f at. put_still old new step n put k f at;
        right = λ right. subst (λ xs. AreRight s slice p xs (length xs)) (sym put.steps) (right_put steps step g right);
        tables = put.tables;
        here =
            subst (λ xs. fact_at xs (Some n) ≡ Some (said step.fact)) (sym put.steps)
            (ap (λ k. fact_at (steps ++ step ∷ []) (Some k)) put.number ∙ fact_here (steps ++ step ∷ []) (length steps) step (said step.fact) (get_seam steps step []) refl);
      }

  pub same_tables : (a b c : Draft) → HasSameTables a b → HasSameTables b c → HasSameTables a c
  same_tables a b c first then = record {
    here = then.here ∙ first.here;
    latest = then.latest ∙ first.latest;
    quiet = then.quiet ∙ first.quiet;
    pending = then.pending ∙ first.pending;
  }

  pub grown_on : (a b c : Draft) (n m : ℕ) (f g : Fact) → IsGrown s slice p a b n f → IsGrown s slice p b c m g → IsGrown s slice p a c m g
  grown_on a b c n m f g first then = record {
    longer = let l = first.longer in let r = then.longer in omega (arith, l, r);
    same = λ k h at. then.same k h (first.same k h at);
    right = λ right. then.right (first.right right);
    tables = same_tables a b c first.tables then.tables;
    here = then.here;
  }
