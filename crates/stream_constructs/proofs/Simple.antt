-- The constructs that are one equation, or two or three over each other.
use Rattle.std.proofs.Common.{◌≡◌, ℕ, zero, suc, ◌+◌, Bool, true, false, ◌||◌, ◌&&◌, List, [], ◌∷◌, map, Option, Some, None, Ok, refl, sym, ap, ◌∙◌}
use Rattle.std.specs.Prelude.{if◌then◌else◌, is_some}
use Rattle.std.specs.List.{list_any}
use Rattle.std.specs.Option.{option_or, option_map}
use Rattle.tsl_value.specs.View.{View, Plain}
use Rattle.tsl_value.specs.declared.place.Place.{Place}
use Rattle.tsl_value.specs.declared.scalar.Scalar.{Scalar}
use Rattle.tsl_value.specs.declared.scalar.Scalar.TheVariants as scalar
use Rattle.tsl_value.specs.declared.scalar.ValueType.{ValueType}
use Rattle.lift_func.specs.BodyTree.{BodyTree}
use Rattle.lift_func.specs.Apply.{Answer, apply}
use Rattle.flat_core.specs.Stream.{Outcome, Event, Fault, event, has_event, is_fault, latest}
use Rattle.flat_core.specs.Case.{Streams}
use Rattle.flat_core.specs.Events.{Inputs, unit, filtered, outcome_of, fault_of, expires}
use Rattle.stream_constructs.specs.declared.construct.Stream.{Stream}
use Rattle.stream_constructs.specs.Construct as construct
use Rattle.stream_constructs.specs.Construct.{now}
use Rattle.stream_constructs.specs.Equations.{numbers, own_equations, alias_equation}
use Rattle.stream_constructs.specs.Agree.{history_of, MakesStream}
use Rattle.stream_constructs.proofs.Numbered.{At, at_none, at_more, at_first, at_second, at_after}
use Rattle.stream_constructs.proofs.Fetched.{held_case, merge_case, literal_case}
use Rattle.stream_constructs.proofs.LiftedOutcomes.{HasCase}
use Rattle.stream_constructs.proofs.Making.{no_root, no_literal_root, makes, makes_one}

module _ (p : Place) (of : ValueType) (n : ℕ) (inputs : Inputs) (z : Streams) (t : ℕ) where
  abbrev Has : construct.Construct → List Stream → Type 0
  Has c parts = At (HasCase inputs z t) n (own_equations p of n c parts) → MakesStream c (own_equations p of n c parts) n parts inputs z t

  pub nil_made : Has construct.Nil []
  nil_made at = makes_one inputs z t construct.Nil n [] _ (at_first at) refl

  pub unit_made : Has construct.Unit []
  unit_made at = makes_one inputs z t construct.Unit n [] _ (at_first at) refl

  pub empty_made : (of' : ValueType) → Has (construct.Empty of') []
  empty_made of' at = makes_one inputs z t (construct.Empty of') n [] _ (at_first at) refl

  pub time_made : (a : Stream) → Has construct.Time (a ∷ [])
  time_made a at = makes_one inputs z t construct.Time n (a ∷ []) _ (at_first at) refl

  pub last_made : (v r : Stream) → Has construct.Last (v ∷ r ∷ [])
  last_made v r at = makes_one inputs z t construct.Last n (v ∷ r ∷ []) _ (at_first at) refl

  pub delay_made : (d r x : Stream) → x.id ≡ n → Has construct.Delay (d ∷ r ∷ x ∷ [])
  delay_made d r x itself at =
      makes_one inputs z t construct.Delay n (d ∷ r ∷ x ∷ []) _ (at_first at ∙ (λ k. outcome_of (Ok (if expires (z d.id) (z r.id) (z (sym itself k)) t then Some unit else None)))) refl

  pub merge_made : (a b : Stream) → Has construct.Merge (a ∷ b ∷ [])
  merge_made a b at = makes_one inputs z t construct.Merge n (a ∷ b ∷ []) _ (at_first at) refl

  -- a literal over one
  literal_is : (s : Scalar) (o : Option Outcome) → ◌≡◌ {A = Answer} (if is_some (event o) && true then Ok (Some (Plain s)) else Ok None) (Ok (option_map (λ v. Plain s) (event o)))
  literal_is s None = refl
  literal_is s (Some (Event v)) = refl
  literal_is s (Some Fault) = refl

  pub const_made : (s : Scalar) (a : Stream) → Has (construct.Const s) (a ∷ [])
  const_made s a at =
      let is = literal_is s (z a.id t) in
      makes_one inputs z t (construct.Const s) n (a ∷ []) _
      (at_first at ∙ (λ k. if is_fault (z a.id t) || false then Some Fault else outcome_of (is k)))
      (λ k. if is_fault (z a.id t) || false then None else fault_of (is k))

  literal_at : (s : Scalar) (t : ℕ) (o : Option Outcome) → o ≡ outcome_of (Ok (Rattle.flat_core.specs.Events.at_zero t unit)) → literal_case s o ≡ outcome_of (Ok (Rattle.flat_core.specs.Events.at_zero t (Plain s)))
  literal_at s zero o is = ap (literal_case s) is
  literal_at s (suc u) o is = ap (literal_case s) is

  pub literal_made : (s : Scalar) → Has (construct.Literal s) []
  literal_made s at =
      makes inputs z t (construct.Literal s) n [] (_ ∷ []) _ (at_more refl at_none)
      (at_second at ∙ literal_at s t (z n t) (at_first at))
      (no_literal_root (is_fault (z n t) || false) (is_some (event (z n t)) && true) s)

  -- a filter by a literal
  by_literal : (b : Bool) (e : Option Outcome) → (if is_fault e || (is_fault (literal_case (scalar.Bool b) e) || false) then Some Fault else outcome_of (Ok (filtered (event e) (event (literal_case (scalar.Bool b) e))))) ≡ (if is_fault e || false then Some Fault else outcome_of (Ok (if b then event e else None)))
  by_literal true None = refl
  by_literal false None = refl
  by_literal true (Some (Event v)) = refl
  by_literal false (Some (Event v)) = refl
  by_literal b (Some Fault) = refl

  pub filter_by_made : (b : Bool) (e : Stream) → Has (construct.FilterBy b) (e ∷ [])
  filter_by_made b e at =
      makes inputs z t (construct.FilterBy b) n (e ∷ []) (_ ∷ []) _ (at_more (no_literal_root (is_fault (z e.id t) || false) (is_some (event (z e.id t)) && true) (scalar.Bool b)) at_none)
      (at_second at ∙ (λ k. if is_fault (z e.id t) || (is_fault (at_first at k) || false) then Some Fault else outcome_of (Ok (filtered (event (z e.id t)) (event (at_first at k))))) ∙ by_literal b (z e.id t))
      (no_root (is_fault (z e.id t) || (is_fault (z n t) || false)) (filtered (event (z e.id t)) (event (z n t))) ∙ sym (no_root (is_fault (z e.id t) || false) (if b then event (z e.id t) else None)))

  -- a filter by a condition that is held
  filtered_none : (v : Option View) → filtered None v ≡ None
  filtered_none None = refl
  filtered_none (Some (Plain (scalar.Bool true))) = refl
  filtered_none (Some v) = refl

  filter_held : (e c : Option Outcome) (before : Option View) → (if is_fault e || (is_fault (held_case c e before) || false) then Some Fault else outcome_of (Ok (filtered (event e) (event (held_case c e before))))) ≡ (if is_fault e || (is_fault c || false) then Some Fault else outcome_of (Ok (filtered (event e) (option_or (event c) before))))
  filter_held (Some Fault) c before = refl
  filter_held None (Some Fault) before = refl
  filter_held (Some (Event v)) (Some Fault) before = refl
  filter_held None None None = refl
  filter_held None None (Some u) = λ k. outcome_of (Ok (sym (filtered_none (Some u)) k))
  filter_held None (Some (Event w)) before = refl
  filter_held (Some (Event v)) None None = refl
  filter_held (Some (Event v)) None (Some u) = refl
  filter_held (Some (Event v)) (Some (Event w)) None = refl
  filter_held (Some (Event v)) (Some (Event w)) (Some u) = refl

  pub filter_made : (e c : Stream) → Has construct.Filter (e ∷ c ∷ [])
  filter_made e c at =
      let held : z (n + 1) t ≡ held_case (z c.id t) (z e.id t) (latest (z c.id) t) = at_second at ∙ ap (λ o. merge_case (z c.id t) o) (at_first at) in
      makes inputs z t construct.Filter n (e ∷ c ∷ []) (_ ∷ _ ∷ []) _
      (at_more (no_root (is_fault (z e.id t) || false) (if has_event (z e.id t) then latest (z c.id) t else None)) (at_more (no_root (is_fault (z c.id t) || (is_fault (z n t) || false)) (option_or (event (z c.id t)) (event (z n t)))) at_none))
      (at_first (at_after at) ∙ (λ k. if is_fault (z e.id t) || (is_fault (held k) || false) then Some Fault else outcome_of (Ok (filtered (event (z e.id t)) (event (held k))))) ∙ filter_held (z e.id t) (z c.id t) (latest (z c.id) t))
      (no_root (is_fault (z e.id t) || (is_fault (z (n + 1) t) || false)) (filtered (event (z e.id t)) (event (z (n + 1) t))) ∙ sym (no_root (is_fault (z e.id t) || (is_fault (z c.id t) || false)) (filtered (event (z e.id t)) (now (z c.id) t))))

  -- a function of options
  fault_parts : (parts : List Stream) → list_any (λ a. is_fault (z a t)) (numbers parts) ≡ list_any (λ h. is_fault (h t)) (history_of z parts)
  fault_parts [] = refl
  fault_parts (a ∷ rest) = ap (λ b. is_fault (z a.id t) || b) (fault_parts rest)

  event_parts : (parts : List Stream) → map (λ a. event (z a t)) (numbers parts) ≡ map (λ h. event (h t)) (history_of z parts)
  event_parts [] = refl
  event_parts (a ∷ rest) = ap (λ vs. event (z a.id t) ∷ vs) (event_parts rest)

  pub lift_made : (f : BodyTree) (parts : List Stream) → Has (construct.Lift f) parts
  lift_made f parts at =
      let blocked = fault_parts parts in
      let values = event_parts parts in
      makes_one inputs z t (construct.Lift f) n parts _
      (at_first at ∙ (λ k. if blocked k then Some Fault else outcome_of (if list_any is_some (values k) then apply f (values k) else Ok None)))
      (λ k. if blocked k then None else fault_of (if list_any is_some (values k) then apply f (values k) else Ok None))

-- a name as a definition
alias_case : (a : Option Outcome) → merge_case a a ≡ (if is_fault a || false then Some Fault else outcome_of (Ok (event a)))
alias_case None = refl
alias_case (Some (Event v)) = refl
alias_case (Some Fault) = refl

pub alias_made : (p : Place) (n : ℕ) (a : Stream) (inputs : Inputs) (z : Streams) (t : ℕ) → At (HasCase inputs z t) n (alias_equation p a ∷ []) → MakesStream construct.Same (alias_equation p a ∷ []) n (a ∷ []) inputs z t
alias_made p n a inputs z t at =
    makes_one inputs z t construct.Same n (a ∷ []) _ (at_first at ∙ alias_case (z a.id t))
    (no_root (is_fault (z a.id t) || (is_fault (z a.id t) || false)) (option_or (event (z a.id t)) (event (z a.id t))) ∙ sym (no_root (is_fault (z a.id t) || false) (event (z a.id t))))
