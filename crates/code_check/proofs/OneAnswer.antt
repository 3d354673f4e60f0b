-- Bytes are one code, or one fault.
use Rattle.std.proofs.Common.{◌≡◌, ◌++◌, ◌<◌, ◌≤◌, ℕ, List, [], length, refl, sym, ap, subst, ◌∙◌, arith}
use Rattle.translation_order.specs.Least.{IsLeast}
use Rattle.register_code.specs.Code.{Code}
use Rattle.code_file.specs.declared.fault.CodeFault.{CodeFault}
use Rattle.code_file.specs.declared.fault.CodeFault.TheVariants as fault
use Rattle.code_file.specs.declared.limits.TheConstants.{MOST_CODE_BYTES}
use Rattle.code_file.proofs.Whole.{spell_one_code}
use Rattle.code_check.specs.Checked.{BreaksTypesIn, HasCycle, HasTypes, IsChecked, IsNotFine, IsRefusedFor}
use Rattle.code_check.specs.Laws.{OneAnswer}
use Rattle.code_check.specs.Read.{IsReadFault, SpellCode, SpellNoCode, SpellRefused}

-- ---- one refusal of code

taken_not_refused : (c : Code) (why : CodeFault) → IsChecked c → IsRefusedFor c why → why ≡ fault.Memory
taken_not_refused c (fault.WrongTypes i) checked refused = absurd (checked.types.none_breaks i refused.holds)
taken_not_refused c fault.Cycle checked refused = absurd (refused.cycle checked.well_formed)
taken_not_refused c fault.NotFine checked refused = absurd (refused.not_fine checked.fine)
taken_not_refused c fault.Memory checked refused = refl
taken_not_refused c fault.TooLong checked refused = absurd refused
taken_not_refused c fault.WrongForm checked refused = absurd refused

one_least : (P : ℕ → Type 0) (i j : ℕ) → IsLeast P i → IsLeast P j → i ≡ j
one_least P i j p q = let low = p.least j q.holds in let high = q.least i p.holds in omega arith

broken : (c : Code) (i : ℕ) → IsLeast (BreaksTypesIn c) i → HasTypes c → ⊥
broken c i least types = types.none_breaks i least.holds

abbrev IsOther : CodeFault → Type 0
IsOther why = ¬ (why ≡ fault.Memory)

with_broken : (c : Code) (i : ℕ) (other : CodeFault) → IsLeast (BreaksTypesIn c) i → IsRefusedFor c other → IsOther other → fault.WrongTypes i ≡ other
with_broken c i (fault.WrongTypes j) p q m = ap (λ n. fault.WrongTypes n) (one_least (BreaksTypesIn c) i j p q)
with_broken c i fault.Cycle p q m = absurd (broken c i p q.types)
with_broken c i fault.NotFine p q m = absurd (broken c i p q.types)
with_broken c i fault.Memory p q m = absurd (m refl)
with_broken c i fault.TooLong p q m = absurd q
with_broken c i fault.WrongForm p q m = absurd q

with_cycle : (c : Code) (other : CodeFault) → HasCycle c → IsRefusedFor c other → IsOther other → fault.Cycle ≡ other
with_cycle c (fault.WrongTypes j) p q m = absurd (broken c j q p.types)
with_cycle c fault.Cycle p q m = refl
with_cycle c fault.NotFine p q m = absurd (p.cycle q.well_formed)
with_cycle c fault.Memory p q m = absurd (m refl)
with_cycle c fault.TooLong p q m = absurd q
with_cycle c fault.WrongForm p q m = absurd q

with_plan : (c : Code) (other : CodeFault) → IsNotFine c → IsRefusedFor c other → IsOther other → fault.NotFine ≡ other
with_plan c (fault.WrongTypes j) p q m = absurd (broken c j q p.types)
with_plan c fault.Cycle p q m = absurd (q.cycle p.well_formed)
with_plan c fault.NotFine p q m = refl
with_plan c fault.Memory p q m = absurd (m refl)
with_plan c fault.TooLong p q m = absurd q
with_plan c fault.WrongForm p q m = absurd q

one_refusal : (c : Code) (why other : CodeFault) → IsRefusedFor c why → IsRefusedFor c other → IsOther why → IsOther other → why ≡ other
one_refusal c (fault.WrongTypes i) other p q n m = with_broken c i other p q m
one_refusal c fault.Cycle other p q n m = with_cycle c other p q m
one_refusal c fault.NotFine other p q n m = with_plan c other p q m
one_refusal c fault.Memory other p q n m = absurd (n refl)
one_refusal c fault.TooLong other p q n m = absurd p
one_refusal c fault.WrongForm other p q n m = absurd p

-- ---- one answer for bytes

module _ (bytes : List ℕ) where
  one_code : (c d : Code) → SpellCode bytes c → SpellCode bytes d → c ≡ d
  one_code c d p q =
      let both = spell_one_code c d [] [] p.form q.form (ap (λ b. b ++ []) (sym p.is ∙ q.is)) in
      sym p.bare ∙ both.0 ∙ q.bare

  refused_as : (c : Code) (why : CodeFault) → SpellCode bytes c → SpellRefused bytes why → IsRefusedFor c why
  refused_as c why spelled r = subst (λ (d : Code). IsRefusedFor d why) (one_code r.code c r.spelled spelled) r.refused

  code_or_fault : (c : Code) (why : CodeFault) → SpellCode bytes c → IsChecked c → IsReadFault bytes why → why ≡ fault.Memory
  code_or_fault c fault.TooLong spelled checked long = let short = spelled.short in absurd (omega arith)
  code_or_fault c fault.WrongForm spelled checked none = absurd (none.none c spelled.form spelled.is)
  code_or_fault c (fault.WrongTypes i) spelled checked r = taken_not_refused c (fault.WrongTypes i) checked (refused_as c (fault.WrongTypes i) spelled r)
  code_or_fault c fault.Cycle spelled checked r = taken_not_refused c fault.Cycle checked (refused_as c fault.Cycle spelled r)
  code_or_fault c fault.NotFine spelled checked r = taken_not_refused c fault.NotFine checked (refused_as c fault.NotFine spelled r)
  code_or_fault c fault.Memory spelled checked r = refl

  not_long : MOST_CODE_BYTES < length bytes → length bytes ≤ MOST_CODE_BYTES → ⊥
  not_long long short = omega arith

  is_long : (other : CodeFault) → MOST_CODE_BYTES < length bytes → IsReadFault bytes other → IsOther other → fault.TooLong ≡ other
  is_long fault.TooLong long f m = refl
  is_long fault.WrongForm long f m = absurd (not_long long f.short)
  is_long (fault.WrongTypes i) long f m = absurd (not_long long f.spelled.short)
  is_long fault.Cycle long f m = absurd (not_long long f.spelled.short)
  is_long fault.NotFine long f m = absurd (not_long long f.spelled.short)
  is_long fault.Memory long f m = absurd (m refl)

  not_spelled : (why : CodeFault) → SpellNoCode bytes → SpellRefused bytes why → ⊥
  not_spelled why none f = none.none f.code f.spelled.form f.spelled.is

  is_formless : (other : CodeFault) → SpellNoCode bytes → IsReadFault bytes other → IsOther other → fault.WrongForm ≡ other
  is_formless fault.TooLong none f m = absurd (not_long f none.short)
  is_formless fault.WrongForm none f m = refl
  is_formless (fault.WrongTypes i) none f m = absurd (not_spelled (fault.WrongTypes i) none f)
  is_formless fault.Cycle none f m = absurd (not_spelled fault.Cycle none f)
  is_formless fault.NotFine none f m = absurd (not_spelled fault.NotFine none f)
  is_formless fault.Memory none f m = absurd (m refl)

  both_refused : (why other : CodeFault) → SpellRefused bytes why → SpellRefused bytes other → IsOther why → IsOther other → why ≡ other
  both_refused why other f g n m = one_refusal f.code why other f.refused (refused_as f.code other f.spelled g) n m

  is_refused : (why other : CodeFault) → SpellRefused bytes why → IsReadFault bytes other → IsOther why → IsOther other → why ≡ other
  is_refused why fault.TooLong f g n m = absurd (not_long g f.spelled.short)
  is_refused why fault.WrongForm f g n m = absurd (not_spelled why g f)
  is_refused why (fault.WrongTypes i) f g n m = both_refused why (fault.WrongTypes i) f g n m
  is_refused why fault.Cycle f g n m = both_refused why fault.Cycle f g n m
  is_refused why fault.NotFine f g n m = both_refused why fault.NotFine f g n m
  is_refused why fault.Memory f g n m = absurd (m refl)

  one_fault : (why other : CodeFault) → IsReadFault bytes why → IsReadFault bytes other → IsOther why → IsOther other → why ≡ other
  one_fault fault.TooLong other f g n m = is_long other f g m
  one_fault fault.WrongForm other f g n m = is_formless other f g m
  one_fault (fault.WrongTypes i) other f g n m = is_refused (fault.WrongTypes i) other f g n m
  one_fault fault.Cycle other f g n m = is_refused fault.Cycle other f g n m
  one_fault fault.NotFine other f g n m = is_refused fault.NotFine other f g n m
  one_fault fault.Memory other f g n m = absurd (n refl)

  pub one_answer : OneAnswer bytes
  one_answer = record { one_code = one_code; code_or_fault = code_or_fault; one_fault = one_fault }
