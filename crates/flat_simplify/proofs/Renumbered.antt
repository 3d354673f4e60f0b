-- An equation with other arguments makes of streams what the equation makes of these streams at the other numbers.
use Rattle.std.proofs.Common.{◌≡◌, ℕ, ◌||◌, List, [], ◌∷◌, map, Some, None, Ok, refl, sym, ap, ◌∙◌}
use Rattle.std.specs.Prelude.{if◌then◌else◌}
use Rattle.std.specs.List.{list_any}
use Rattle.std.proofs.lemmas.Simd.{map-map}
use Rattle.tsl_value.specs.declared.scalar.ValueType.{ValueType}
use Rattle.flat_core.specs.declared.equation.Equation.{Equation}
use Rattle.flat_core.specs.declared.equation.Op.{Op}
use Rattle.flat_core.specs.declared.equation.Op.TheVariants as op
use Rattle.flat_core.specs.Stream.{Fault, event, is_fault}
use Rattle.flat_core.specs.Case.{Streams, own_of, used_of, is_blocked, case_of, amount_fault, root_of}
use Rattle.flat_core.specs.Events.{Inputs, unit, at_once, expires, outcome_of, fault_of}

module _ (f : ℕ → ℕ) (inputs : Inputs) (w : Streams) (i t : ℕ) (self : f i ≡ i) where
  -- the streams at the other numbers
  abbrev pub moved : Streams
  moved a = w (f a)

  own_moved : (o : Op) (args : List ℕ) (of : ValueType) → own_of inputs w i o (map f args) of t ≡ own_of inputs moved i o args of t
  own_moved op.Input args of = refl
  own_moved op.Last (v ∷ r ∷ []) of = refl
  own_moved op.Last [] of = refl
  own_moved op.Last (v ∷ []) of = refl
  own_moved op.Last (v ∷ r ∷ a ∷ args) of = refl
  own_moved op.Delay (d ∷ r ∷ []) of = ap (λ j. Ok (if expires (w (f d)) (w (f r)) (w j) t then Some unit else None)) (sym self)
  own_moved op.Delay [] of = refl
  own_moved op.Delay (d ∷ []) of = refl
  own_moved op.Delay (d ∷ r ∷ a ∷ args) of = refl
  own_moved o args of = ap (λ values. at_once o of values t) (map-map (λ a. event (w a t)) f args)

  used_map : (o : Op) (args : List ℕ) → used_of o (map f args) ≡ map f (used_of o args)
  used_map op.Last [] = refl
  used_map op.Last (a ∷ args) = refl
  used_map op.Delay args = refl
  used_map o args = refl

  blocks : (args : List ℕ) → list_any (λ a. is_fault (w a t)) (map f args) ≡ list_any (λ a. is_fault (w (f a) t)) args
  blocks [] = refl
  blocks (a ∷ args) = ap (λ b. is_fault (w (f a) t) || b) (blocks args)

  module _ (e : Equation) where
    abbrev at : Equation
    at = record e { args = map f e.args }

    blocked_moved : is_blocked w at t ≡ is_blocked moved e t
    blocked_moved = ap (list_any (λ a. is_fault (w a t))) (used_map e.op e.args) ∙ blocks (used_of e.op e.args)

    pub case_moved : case_of inputs w i at t ≡ case_of inputs moved i e t
    case_moved =
        let blocked = blocked_moved in
        let own = own_moved e.op e.args e.of in
        λ k. if blocked k then Some Fault else outcome_of (own k)

    amount_moved : (args : List ℕ) → amount_fault w (map f args) t ≡ amount_fault moved args t
    amount_moved [] = refl
    amount_moved (d ∷ []) = refl
    amount_moved (d ∷ r ∷ []) = refl
    amount_moved (d ∷ r ∷ a ∷ args) = refl

    pub root_moved : (o : Op) → root_of inputs w i at o t ≡ root_of inputs moved i e o t
    root_moved op.Delay = amount_moved e.args
    root_moved _ =
        let blocked = blocked_moved in
        let own = own_moved e.op e.args e.of in
        λ k. if blocked k then None else fault_of (own k)
