-- At most one place is the first.
use Rattle.std.proofs.Common.{◌≡◌, ℕ, List, Option, Some, None, refl, sym, ap, ◌∙◌, arith}
use Rattle.std.specs.Prelude.{slice_get}
use Rattle.tsl_value.specs.declared.place.Place.{Place}
use Rattle.definition_cycles.specs.Cycles.{IsFirstPlace}
use Rattle.call_limits.specs.Nesting.{MacroCycle, IsTooDeep}
use Rattle.call_limits.specs.inner.Laws.{OneMacroCycle, OneTooDeep}

pub one_place : (P : ℕ → Type 0) (places : List Place) (a b : Option Place) → IsFirstPlace P places a → IsFirstPlace P places b → a ≡ b
one_place P places None None f g = refl
one_place P places None (Some q) f g = absurd (f g.number g.is_least.holds)
one_place P places (Some p) None f g = absurd (g f.number f.is_least.holds)
one_place P places (Some p) (Some q) f g =
    let under = f.is_least.least g.number g.is_least.holds in
    let over = g.is_least.least f.number f.is_least.holds in
    let same : f.number ≡ g.number = omega arith in
    sym f.at ∙ ap (slice_get places) same ∙ g.at

pub one_macro_cycle : OneMacroCycle
one_macro_cycle items = one_place (MacroCycle items) _

pub one_too_deep : OneTooDeep
one_too_deep items = one_place (IsTooDeep items) _
