-- What facts tell, as it is computed and by the rules.
use Rattle.std.proofs.Common.{◌≡◌, ◌==◌, ◌&&◌, ℕ, suc, true, List, [], ◌∷◌, ◌++◌, length, Option, Some, None, refl, ap, subst, sym, ◌∙◌, append_assoc}
use Rattle.std.proofs.lemmas.Bool.{and_from, and_parts, eq-eqb, eqb-true, false≢true, le-leb, leb-true}
use Rattle.std.proofs.lemmas.Option.{cond_some, none-some, same_Some}
use Rattle.std.specs.Prelude.{if◌then◌else◌, is_some, nat_le}
use Rattle.tsl_value.specs.View.{View}
use Rattle.why_rules.specs.Facts.{Fact, Happens, Silent, Gap, Pending}
use Rattle.why_rules.specs.Rules.{Tells, TellsEach}
use Rattle.why_rules.specs.Rules as rule
use Rattle.event_why.specs.inner.Told.{due_in, event_in, is_silent_in, told_all, told_before, told_in}

-- ---- one equation

module _ (i t : ℕ) where
  pub tells_from : (f : Fact) (v : Option View) → told_in i t f ≡ Some v → Tells i t v f
  tells_from (Happens j u w) v is =
      let found = cond_some ((j == i) && (u == t)) (Some w) v is in
      let same = and_parts (j == i) (u == t) found.0 in
      subst (λ x. Tells i t x (Happens j u w)) found.1
      (subst (λ n. Tells i t (Some w) (Happens n u w)) (sym (eqb-true j i same.0))
      (subst (λ n. Tells i t (Some w) (Happens i n w)) (sym (eqb-true u t same.1)) rule.Tells.event))
  tells_from (Silent j from to) v is =
      let found = cond_some ((j == i) && (nat_le from t && nat_le t to)) None v is in
      let same = and_parts (j == i) (nat_le from t && nat_le t to) found.0 in
      let within = and_parts (nat_le from t) (nat_le t to) same.1 in
      subst (λ x. Tells i t x (Silent j from to)) found.1
      (subst (λ n. Tells i t None (Silent n from to)) (sym (eqb-true j i same.0)) (rule.Tells.none (leb-true from t within.0) (leb-true t to within.1)))
  tells_from (Gap from to) v is = absurd (none-some v is)
  tells_from (Pending j u due) v is = absurd (none-some v is)

  pub tells_so : (f : Fact) (v : Option View) → Tells i t v f → told_in i t f ≡ Some v
  tells_so f v (rule.Tells.event {v = w}) =
      let here : ((i == i) && (t == t)) ≡ true = and_from (i == i) (t == t) (eq-eqb i i refl) (eq-eqb t t refl) in
      λ k. if here k then Some (Some w) else None
  tells_so f v (rule.Tells.none {from = from} {to = to} low high) =
      let within : (nat_le from t && nat_le t to) ≡ true = and_from (nat_le from t) (nat_le t to) (le-leb from t low) (le-leb t to high) in
      let here : ((i == i) && (nat_le from t && nat_le t to)) ≡ true = and_from (i == i) (nat_le from t && nat_le t to) (eq-eqb i i refl) within in
      λ k. if here k then Some None else None

  pub silent_from : (f : Fact) → is_silent_in i t f ≡ true → Tells i t None f
  silent_from (Silent j from to) is =
      let same = and_parts (j == i) (nat_le from t && nat_le t to) is in
      let within = and_parts (nat_le from t) (nat_le t to) same.1 in
      subst (λ n. Tells i t None (Silent n from to)) (sym (eqb-true j i same.0)) (rule.Tells.none (leb-true from t within.0) (leb-true t to within.1))
  silent_from (Happens j u v) is = absurd (false≢true is)
  silent_from (Gap from to) is = absurd (false≢true is)
  silent_from (Pending j u due) is = absurd (false≢true is)

  pub silent_so : (f : Fact) → Tells i t None f → is_silent_in i t f ≡ true
  silent_so f (rule.Tells.none {from = from} {to = to} low high) =
      and_from (i == i) (nat_le from t && nat_le t to) (eq-eqb i i refl) (and_from (nat_le from t) (nat_le t to) (le-leb from t low) (le-leb t to high))

  -- its event
  pub event_from : (f : Fact) (v : View) → event_in i t f ≡ Some v → f ≡ Happens i t v
  event_from (Happens j u w) v is =
      let found = cond_some ((j == i) && (u == t)) w v is in
      let same = and_parts (j == i) (u == t) found.0 in
      λ k. Happens (eqb-true j i same.0 k) (eqb-true u t same.1 k) (found.1 k)
  event_from (Silent j from to) v is = absurd (none-some v is)
  event_from (Gap from to) v is = absurd (none-some v is)
  event_from (Pending j u due) v is = absurd (none-some v is)

  pub event_so : (v : View) → event_in i t (Happens i t v) ≡ Some v
  event_so v =
      let here : ((i == i) && (t == t)) ≡ true = and_from (i == i) (t == t) (eq-eqb i i refl) (eq-eqb t t refl) in
      λ k. if here k then Some v else None

  pub event_there : (f : Fact) → is_some (event_in i t f) ≡ true → (v : View) × (f ≡ Happens i t v)
  event_there f is = of_some (event_in i t f) refl is
    where
      of_some : (x : Option View) → event_in i t f ≡ x → is_some x ≡ true → (v : View) × (f ≡ Happens i t v)
      of_some None at is = absurd (false≢true is)
      of_some (Some v) at is = (v, event_from f v at)

  pub event_is : (f : Fact) (v : View) → f ≡ Happens i t v → is_some (event_in i t f) ≡ true
  event_is f v is = ap (λ g. is_some (event_in i t g)) is ∙ ap is_some (event_so v)

  -- when a delay is due
  pub due_from : (f : Fact) (due : Option ℕ) → due_in i t f ≡ Some due → f ≡ Pending i t due
  due_from (Pending j u d) due is =
      let found = cond_some ((j == i) && (u == t)) d due is in
      let same = and_parts (j == i) (u == t) found.0 in
      λ k. Pending (eqb-true j i same.0 k) (eqb-true u t same.1 k) (found.1 k)
  due_from (Happens j u v) due is = absurd (none-some due is)
  due_from (Silent j from to) due is = absurd (none-some due is)
  due_from (Gap from to) due is = absurd (none-some due is)

  pub due_so : (due : Option ℕ) → due_in i t (Pending i t due) ≡ Some due
  due_so due =
      let here : ((i == i) && (t == t)) ≡ true = and_from (i == i) (t == t) (eq-eqb i i refl) (eq-eqb t t refl) in
      λ k. if here k then Some due else None

-- ---- all arguments

before_cases : (P : Type 0) (x : Option (Option View)) (y : Option (List (Option View))) (values : List (Option View)) → told_before x y ≡ Some values → ((v : Option View) (vs : List (Option View)) → x ≡ Some v → y ≡ Some vs → v ∷ vs ≡ values → P) → P
before_cases P None y values is go = absurd (none-some values is)
before_cases P (Some v) None values is go = absurd (none-some values is)
before_cases P (Some v) (Some vs) values is go = go v vs refl refl (same_Some (v ∷ vs) values is)

module _ (t : ℕ) where
  pub each_from : (args : List ℕ) (fs : List Fact) (values : List (Option View)) → told_all t args fs ≡ Some values → TellsEach t args values fs
  each_from [] [] values is = subst (λ vs. TellsEach t [] vs []) (same_Some [] values is) rule.TellsEach.done
  each_from [] (f ∷ fs) values is = absurd (none-some values is)
  each_from (a ∷ args) [] values is = absurd (none-some values is)
  each_from (a ∷ args) (f ∷ fs) values is =
      before_cases (TellsEach t (a ∷ args) values (f ∷ fs)) (told_in a t f) (told_all t args fs) values is (λ v vs first rest same.
      subst (λ ws. TellsEach t (a ∷ args) ws (f ∷ fs)) same (rule.TellsEach.next (tells_from a t f v first) (each_from args fs vs rest)))

  pub each_so : (args : List ℕ) (fs : List Fact) (values : List (Option View)) → TellsEach t args values fs → told_all t args fs ≡ Some values
  each_so args fs values rule.TellsEach.done = refl
  each_so args fs values (rule.TellsEach.next {a = a} {args = others} {v = v} {vs = vs} {f = f} {fs = gs} tells rest) =
      λ k. told_before (tells_so a t f v tells k) (each_so others gs vs rest k)

-- ---- as the facts are gone through

abbrev pub told_after : List (Option View) → Option (List (Option View)) → Option (List (Option View))
told_after front None = None
told_after front (Some values) = Some (front ++ values)

module _ (t : ℕ) where
  pub told_step : (front : List (Option View)) (v : Option View) (a : ℕ) (args : List ℕ) (f : Fact) (fs : List Fact) → told_in a t f ≡ Some v → told_after (front ++ v ∷ []) (told_all t args fs) ≡ told_after front (told_all t (a ∷ args) (f ∷ fs))
  told_step front v a args f fs is = joined (told_all t args fs) ∙ (λ k. told_after front (told_before (sym is k) (told_all t args fs)))
    where
      joined : (rest : Option (List (Option View))) → told_after (front ++ v ∷ []) rest ≡ told_after front (told_before (Some v) rest)
      joined None = refl
      joined (Some vs) = ap Some (append_assoc front (v ∷ []) vs)

  pub told_stop : (front : List (Option View)) (a : ℕ) (args : List ℕ) (f : Fact) (fs : List Fact) → told_in a t f ≡ None → told_after front (told_all t (a ∷ args) (f ∷ fs)) ≡ None
  told_stop front a args f fs is = λ k. told_after front (told_before (is k) (told_all t args fs))

  -- lists that are not as long
  pub told_short : (args : List ℕ) (fs : List Fact) → (length args ≡ length fs → ⊥) → told_all t args fs ≡ None
  told_short [] [] apart = absurd (apart refl)
  told_short [] (f ∷ fs) apart = refl
  told_short (a ∷ args) [] apart = refl
  told_short (a ∷ args) (f ∷ fs) apart = (λ k. told_before (told_in a t f) (told_short args fs (λ same. apart (ap suc same)) k)) ∙ nothing (told_in a t f)
    where
      nothing : (x : Option (Option View)) → told_before x None ≡ None
      nothing None = refl
      nothing (Some v) = refl
