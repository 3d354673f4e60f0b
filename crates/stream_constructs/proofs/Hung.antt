-- The equations of each construct, and of a choice, hang together.
use Rattle.std.proofs.Common.{◌≡◌, ℕ, ◌≤◌, List, [], ◌∷◌, length, refl, ap, arith}
use Rattle.std.specs.Prelude.{is_some}
use Rattle.tsl_value.specs.declared.place.Place.{Place}
use Rattle.tsl_value.specs.declared.scalar.ValueType.{ValueType}
use Rattle.flat_core.specs.declared.equation.Op.{Op}
use Rattle.flat_core.specs.declared.equation.Op.TheVariants as op
use Rattle.flat_core.specs.System.{System}
use Rattle.flat_core.specs.Typed as typed
use Rattle.flat_core.specs.WellFormed.{unguarded_of}
use Rattle.stream_constructs.specs.declared.construct.Stream.{Stream}
use Rattle.tsl_value.specs.declared.operation.Update.{Update}
use Rattle.stream_constructs.specs.Construct as construct
use Rattle.stream_constructs.specs.Construct.{Construct, Operand, operand_trees}
use Rattle.stream_constructs.specs.Equations.{with_literals, own_equations, choice_equations, choice}
use Rattle.stream_constructs.specs.Agree.{Fits, FitsChoice, IsItself, HangTogether, AreOperands}
use Rattle.lift_func.specs.Update.{UpdateTypes}
use Rattle.lift_func.proofs.Updates.{updates_aggregate, beside_is, beside_few}
use Rattle.flat_core.specs.Updates.{operation_of}
use Rattle.flat_core.proofs.UpdateOps.{updates_itself, unguarded_update}
use Rattle.stream_constructs.proofs.Numbered.{At}
use Rattle.stream_constructs.proofs.Hanging.{Stands}
use Rattle.stream_constructs.proofs.LiftingHangs.{operands_few}
use Rattle.stream_constructs.proofs.Operands.{Behind, Chooses, after_aggregate, chooses_of, after, by_literal, by_stream}
use Rattle.stream_constructs.proofs.Hangs.{nil_hangs, unit_hangs, literal_hangs, empty_hangs, time_hangs, last_hangs, delay_hangs, merge_hangs, const_hangs, filter_hangs, filter_by_hangs, lift_hangs, signal_alone_hangs, signal_hangs, literals_hang}

module _ (p : Place) (of : ValueType) (n : ℕ) (s : System) where
  -- an operation on operands of which the first varies
  led : (c : Construct) (o : Op) {Rest : List Operand → List Stream → Type 0} {os : List Operand} {parts : List Stream} (ts : List ValueType) → Behind Rest os parts → ((args : List ℕ) → unguarded_of o args ≡ args) → AreOperands os parts ts → length ts ≤ 8 → typed.IsTyped o ts of → At (Stands s) n (with_literals p o of n os parts) → HangTogether c (with_literals p o of n os parts) n parts s
  led c o ts (after {a} {os} {parts} rest) unguarded operands few is_typed stands =
      let fewer = operands_few (construct.Varying ∷ os) (a ∷ parts) ts operands in
      literals_hang c p o of n (construct.Varying ∷ os) a parts ts s unguarded operands (omega arith) is_typed stands

  chosen : (c : Construct) {os : List Operand} {parts : List Stream} (ts : List ValueType) → Chooses os parts → AreOperands os parts ts → length ts ≤ 8 → typed.IsTyped op.Pick ts of → At (Stands s) n (with_literals p op.Pick of n os parts) → HangTogether c (with_literals p op.Pick of n os parts) n parts s
  chosen c ts (by_literal {s = r} {a} {b}) operands few is_typed stands = literals_hang c p op.Pick of n (construct.Fixed r ∷ construct.Varying ∷ construct.Varying ∷ []) a (b ∷ []) ts s (λ args. refl) operands (omega arith) is_typed stands
  chosen c ts (by_stream {c = d} {a} {b}) operands few is_typed stands = literals_hang c p op.Pick of n (construct.Varying ∷ construct.Varying ∷ construct.Varying ∷ []) d (a ∷ b ∷ []) ts s (λ args. refl) operands (omega arith) is_typed stands

  pub choice_hangs : (os : List Operand) (parts : List Stream) → FitsChoice os parts of → At (Stands s) n (choice_equations p of n os parts) → HangTogether (construct.Signal (choice (operand_trees 0 os))) (choice_equations p of n os parts) n parts s
  choice_hangs os parts fits stands = chosen _ (typed.bool_type ∷ of ∷ of ∷ []) (chooses_of os parts typed.bool_type of fits.1 fits.0) fits.0 (omega arith) (typed.pick fits.1) stands

module _ (p : Place) (n : ℕ) (s : System) where
  update_hangs : (o : Update) (os : List Operand) (parts : List Stream) (ts : List ValueType) (of : ValueType) → AreOperands os parts (of ∷ ts) → UpdateTypes o of ts → At (Stands s) n (own_equations p of n (construct.Update o os) parts) → HangTogether (construct.Update o os) (own_equations p of n (construct.Update o os) parts) n parts s
  update_hangs o os parts ts of operands row stands =
      led p of n s _ (operation_of o) (of ∷ ts) (after_aggregate os parts of ts (updates_aggregate row) (λ os parts h. h) operands) (unguarded_update (operation_of o) (ap is_some (updates_itself o))) operands (omega (arith, beside_is row, beside_few o)) (typed.update (updates_itself o) row) stands

  pub construct_hangs : (c : Construct) (of : ValueType) (parts : List Stream) → Fits c parts of → IsItself c n parts → At (Stands s) n (own_equations p of n c parts) → HangTogether c (own_equations p of n c parts) n parts s
  construct_hangs construct.Nil of [] fits itself = nil_hangs p of n s fits
  construct_hangs construct.Unit of [] fits itself = unit_hangs p of n s fits
  construct_hangs (construct.Literal r) of [] fits itself = literal_hangs p of n s r fits
  construct_hangs (construct.Empty e) of [] fits itself = empty_hangs p of n s e fits
  construct_hangs construct.Time of (a ∷ []) fits itself = time_hangs p of n s a fits
  construct_hangs construct.Last of (v ∷ r ∷ []) fits itself = last_hangs p of n s v r fits
  construct_hangs construct.Delay of (d ∷ r ∷ x ∷ []) fits itself = delay_hangs p of n s d r x itself fits
  construct_hangs construct.Merge of (a ∷ b ∷ []) fits itself = merge_hangs p of n s a b fits
  construct_hangs (construct.Const r) of (a ∷ []) fits itself = const_hangs p of n s r a fits
  construct_hangs construct.Filter of (e ∷ c ∷ []) fits itself = filter_hangs p of n s e c fits
  construct_hangs (construct.FilterBy b) of (e ∷ []) fits itself = filter_by_hangs p of n s b e fits
  construct_hangs (construct.Lift f) of parts fits itself = lift_hangs p of n s f parts fits
  construct_hangs (construct.Signal f) of [] fits itself = signal_alone_hangs p of n s f fits
  construct_hangs (construct.Signal f) of (a ∷ rest) fits itself = signal_hangs p of n s f a rest fits
  construct_hangs (construct.Update o os) of parts fits itself = update_hangs o os parts fits.0 of fits.1 fits.2
  construct_hangs c of parts fits itself = absurd fits
