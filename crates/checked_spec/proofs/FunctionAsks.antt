-- What a rule asks of its parts, read from what it allows.
use Rattle.std.proofs.Common.{◌≡◌, Bool, true, false, cond, refl, ap, ◌∙◌}
use Rattle.std.specs.Prelude.{Result, Ok, Err}
use Rattle.std.proofs.lemmas.Bool.{false≢true}
use Rattle.tsl_value.specs.declared.scalar.ValueType.{ValueType}
use Rattle.type_rules.specs.declared.rule.ExprType.{ExprType}
use Rattle.type_rules.specs.declared.rule.ExprType.TheVariants as expr_type
use Rattle.type_rules.specs.declared.rule.Family.{Family}
use Rattle.type_rules.specs.declared.rule.Setting.{Setting}
use Rattle.type_rules.specs.declared.rule.Setting.TheVariants as setting
use Rattle.type_rules.specs.declared.rule.Asked.{Asked}
use Rattle.type_rules.specs.declared.rule.Asked.TheVariants as asked
use Rattle.type_rules.specs.declared.rule.Clash.{Clash}
use Rattle.type_rules.specs.Asked.{is_in, fits, Check, Verdict, ask, and_then, lifted, lifted_of, inner, unit}
use Rattle.type_rules.specs.Rules.{ask_two, ask_both}
use Rattle.checked_spec.proofs.SameLemmas.{exactly}

-- ---- tests that go on
pub checked : {A : Type 0} (c : Check) (next : Result A Clash) (x : A) → and_then c next ≡ Ok x → (c ≡ Ok tt) × (next ≡ Ok x)
checked (Ok u) next x h = (refl, h)
checked (Err clash) next x h = (cc)

pub fits_asked : (q : Asked) (t : ExprType) → ask q t ≡ Ok tt → fits q t ≡ true
fits_asked q t h = either (fits q t) (record { have = t; want = q }) h
  where
    either : (b : Bool) (clash : Clash) → (let x : Check = cond b (Ok tt) (Err clash) in x ≡ Ok tt) → b ≡ true
    either true clash h = refl
    either false clash h = (cc)

-- ---- what operations take where they stand, streams or values, of a family
pub record IsOfFamily (at : Setting) (f : Family) (u : ExprType) : Type 0 where
  pub of : ValueType
  pub is : u ≡ lifted at of
  pub within : is_in f of ≡ true

pub of_family : (at : Setting) (f : Family) (u : ExprType) → ask (lifted_of at f) u ≡ Ok tt → IsOfFamily at f u
of_family setting.Streams f (expr_type.Stream t) h = record { of = t; is = refl; within = fits_asked (asked.StreamOf f) (expr_type.Stream t) h }
of_family setting.Streams f (expr_type.Value t) h = absurd (false≢true (fits_asked (asked.StreamOf f) (expr_type.Value t) h))
of_family setting.Streams f (expr_type.Optional t) h = absurd (false≢true (fits_asked (asked.StreamOf f) (expr_type.Optional t) h))
of_family setting.Values f (expr_type.Stream t) h = absurd (false≢true (fits_asked (asked.ValueOf f) (expr_type.Stream t) h))
of_family setting.Values f (expr_type.Value t) h = record { of = t; is = refl; within = fits_asked (asked.ValueOf f) (expr_type.Value t) h }
of_family setting.Values f (expr_type.Optional t) h = absurd (false≢true (fits_asked (asked.ValueOf f) (expr_type.Optional t) h))

pub option_of : (f : Family) (u : ExprType) → ask (asked.OptionOf f) u ≡ Ok tt → u ≡ expr_type.Optional (inner u)
option_of f (expr_type.Stream t) h = absurd (false≢true (fits_asked (asked.OptionOf f) (expr_type.Stream t) h))
option_of f (expr_type.Value t) h = absurd (false≢true (fits_asked (asked.OptionOf f) (expr_type.Value t) h))
option_of f (expr_type.Optional t) h = refl

pub both_are : (t a b : ExprType) → ask_both t a b ≡ Ok tt → (a ≡ t) × (b ≡ t)
both_are t a b h =
    let two = checked (ask (asked.Exactly t) a) (ask (asked.Exactly t) b) tt h in
    (exactly t a two.0, exactly t b two.1)

-- two parts of one type of a family
pub record AreAlike (at : Setting) (f : Family) (a b : ExprType) : Type 0 where
  pub of : ValueType
  pub first : a ≡ lifted at of
  pub second : b ≡ lifted at of
  pub within : is_in f of ≡ true

pub alike : (at : Setting) (f : Family) (a b : ExprType) → ask_two (lifted_of at f) a b ≡ Ok tt → AreAlike at f a b
alike at f a b h =
    let two = checked (ask (lifted_of at f) a) (ask (asked.Exactly a) b) tt h in
    let one = of_family at f a two.0 in
    record { of = one.of; first = one.is; second = exactly a b two.1 ∙ one.is; within = one.within }

pub inner_lifted : (at : Setting) (t : ValueType) → inner (lifted at t) ≡ t
inner_lifted setting.Streams t = refl
inner_lifted setting.Values t = refl

-- ---- what is allowed
abbrev type_in : Verdict → ExprType
type_in (Ok t) = t
type_in (Err clash) = expr_type.Stream unit

pub same_Ok : (t u : ExprType) → (let x : Verdict = Ok t in x ≡ Ok u) → t ≡ u
same_Ok t u h = ap type_in h
