-- One step of the evaluation of a body over cells.
use Rattle.std.proofs.Common.{◌≡◌, ℕ, true, false, List, Option, None, Ok, Err, refl, sym, ap, subst, ◌∙◌}
use Rattle.std.specs.Prelude.{All, IsTrue, Result, slice_index_or}
use Rattle.std.specs.Option.{option_map}
use Rattle.std.proofs.lemmas.Bool.{false≢true}
use Rattle.tsl_value.specs.View.{View, Plain}
use Rattle.tsl_value.specs.declared.scalar.Scalar.{Scalar}
use Rattle.tsl_value.specs.declared.scalar.ScalarType.TheVariants as scalar_type
use Rattle.tsl_value.specs.declared.operation.Unary.{Unary}
use Rattle.tsl_value.specs.declared.operation.Binary.{Binary}
use Rattle.tsl_value.specs.declared.operation.Binary.TheVariants as binary
use Rattle.lift_func.specs.declared.fault.FaultKind.{FaultKind}
use Rattle.body_eval.specs.declared.eval.EvalFault.{EvalFault}
use Rattle.body_eval.specs.declared.eval.EvalFault.TheVariants as eval_fault
use Rattle.body_eval.specs.declared.register.Register.{Register}
use Rattle.body_eval.specs.declared.register.Register.TheVariants as register
use Rattle.body_eval.specs.inner.Answered.{Decides, IsValue, NeedsSecond}
use Rattle.lift_func.specs.Apply.{Answer, and_then, of_one, of_two, apply}
use Rattle.cell_reader.specs.inner.Cells.{Cells}
use Rattle.body_eval.specs.inner.Registers.{HoldsLive, arguments, held, register_of, scalar_in}
use Rattle.body_eval.specs.inner.Evaluable.{CanRead, FitsOperand, IsEvaluable, IsHeld, IsHeldValue, IsTypedAt, is_read}
use Rattle.lift_func.specs.BodyTree.{BodyTree, Argument, One, Two, Choice}
use Rattle.lift_func.specs.Typing as typing
use Rattle.lift_func.specs.Typing.{ValueKind, plain, HasKind, TypesOne, TypesTwo, AllFit, FitsAnswer, fits}
use Rattle.lift_func.proofs.Fits.{apply_fits}
use Rattle.body_eval.proofs.CellReads.{can_read, held_register, held_scalar, live_register, plain_operands}

-- the kinds of a body's parts
one_parts : {kinds : List ValueKind} {o : Unary} {a : BodyTree} {k : ValueKind} → HasKind kinds (One o a) k → (j : ValueKind) × HasKind kinds a j × TypesOne o j k
one_parts (typing.one {j = j} p types) = (j, p, types)

two_parts : {kinds : List ValueKind} {o : Binary} {a b : BodyTree} {k : ValueKind} → HasKind kinds (Two o a b) k → (i : ValueKind) × (j : ValueKind) × HasKind kinds a i × HasKind kinds b j × TypesTwo o i j k
two_parts (typing.two {i = i} {j = j} p q types) = (i, j, p, q, types)

choice_parts : {kinds : List ValueKind} {c a b : BodyTree} {k : ValueKind} → HasKind kinds (Choice c a b) k → HasKind kinds c (plain scalar_type.Bool) × HasKind kinds a k × HasKind kinds b k
choice_parts (typing.choice o p q) = (o, p, q)

-- a fault of the first operand, and one of the second where both are taken
err_first : (o : Binary) (kind : FaultKind) (y : Answer) → of_two o (Err kind) y ≡ Err kind
err_first binary.And kind y = refl
err_first _ kind y = refl

err_read : (o : Binary) (v : Option View) (kind : FaultKind) → is_read o ≡ true → of_two o (Ok v) (Err kind) ≡ Err kind
err_read binary.Contains v kind is = refl
err_read binary.Get v kind is = refl
err_read _ v kind is = absurd (false≢true is)

module _ (cells : Cells) (registers : List Register) (args : List ℕ) where
  abbrev values : List (Option View)
  values = arguments cells registers args

  abbrev TypedAt : BodyTree → Type 0
  TypedAt = IsTypedAt cells registers args

  -- a register holds the value of a body
  abbrev Gives : BodyTree → Register → Type 0
  Gives a r = IsHeld cells r (apply a values)

  with_kind : (a b : BodyTree) → (t : TypedAt a) → (k : ValueKind) → HasKind t.kinds b k → TypedAt b
  with_kind a b t k p = record { kinds = t.kinds; kind = k; named = t.named; live = t.live; fit = t.fit; typed = p }

  pub typed_one : (o : Unary) (a : BodyTree) → TypedAt (One o a) → TypedAt a
  typed_one o a t = let p = one_parts t.typed in with_kind (One o a) a t p.0 p.1

  pub typed_first : (o : Binary) (a b : BodyTree) → TypedAt (Two o a b) → TypedAt a
  typed_first o a b t = let p = two_parts t.typed in with_kind (Two o a b) a t p.0 p.2

  pub typed_second : (o : Binary) (a b : BodyTree) → TypedAt (Two o a b) → TypedAt b
  typed_second o a b t = let p = two_parts t.typed in with_kind (Two o a b) b t p.1 p.3

  pub typed_condition : (c a b : BodyTree) → TypedAt (Choice c a b) → TypedAt c
  typed_condition c a b t = with_kind (Choice c a b) c t (plain scalar_type.Bool) (choice_parts t.typed).0

  pub typed_then : (c a b : BodyTree) → TypedAt (Choice c a b) → TypedAt a
  typed_then c a b t = with_kind (Choice c a b) a t t.kind (choice_parts t.typed).1

  pub typed_else : (c a b : BodyTree) → TypedAt (Choice c a b) → TypedAt b
  typed_else c a b t = with_kind (Choice c a b) b t t.kind (choice_parts t.typed).2

  fits_at : (kinds : List ValueKind) → AllFit kinds values → (a : BodyTree) (k : ValueKind) → HasKind kinds a k → (r : Register) → Gives a r → IsTrue (fits k (held cells r))
  fits_at kinds fit a k p r gives = subst (FitsAnswer k) gives.0 (apply_fits kinds values fit p)

  -- an operation of one operand
  pub fits_operand : (o : Unary) (a : BodyTree) → TypedAt (One o a) → (r : Register) → Gives a r → FitsOperand o (held cells r)
  fits_operand o a t r gives =
      let p = one_parts t.typed in
      record { kind = p.0; to = t.kind; types = p.2; fit = fits_at t.kinds t.fit a p.0 p.1 r gives }

  pub one_step : (o : Unary) (a : BodyTree) (r : Register) (result : Result Register EvalFault) → Gives a r → IsHeldValue cells result (of_one o (held cells r)) → IsHeldValue cells result (apply (One o a) values)
  one_step o a r result gives h = subst (λ x. IsHeldValue cells result (and_then x (of_one o))) (sym gives.0) h

  module _ (o : Binary) (a b : BodyTree) where
    pub first_fault : (kind : FaultKind) → apply a values ≡ Err kind → apply (Two o a b) values ≡ Err kind
    first_fault kind is = (λ k. of_two o (is k) (apply b values)) ∙ err_first o kind (apply b values)

    module _ (t : TypedAt (Two o a b)) (r : Register) (x : Gives a r) where
      -- one that reads an aggregate
      pub reads : is_read o ≡ true → (q : Register) → Gives b q → CanRead cells o r q
      reads is q y =
          let p = two_parts t.typed in
          can_read cells p.4 is r q y.1 (fits_at t.kinds t.fit a p.0 p.2 r x) (fits_at t.kinds t.fit b p.1 p.3 q y)

      pub key_fault : is_read o ≡ true → (kind : FaultKind) → apply b values ≡ Err kind → apply (Two o a b) values ≡ Err kind
      key_fault is kind fault = (λ k. of_two o (x.0 k) (fault k)) ∙ err_read o (held cells r) kind is

      pub read_step : (q : Register) → Gives b q → (result : Result Register EvalFault) → IsHeldValue cells result (of_two o (Ok (held cells r)) (Ok (held cells q))) → IsHeldValue cells result (apply (Two o a b) values)
      read_step q y result h = subst (λ z. IsHeldValue cells result (of_two o z (apply b values))) (sym x.0) (subst (λ z. IsHeldValue cells result (of_two o (Ok (held cells r)) z)) (sym y.0) h)

      -- one at scalars
      module _ (is : is_read o ≡ false) where
        first_is : apply a values ≡ Ok (option_map Plain (scalar_in r))
        first_is =
            let p = two_parts t.typed in
            x.0 ∙ ap Ok (held_scalar cells p.0 (plain_operands p.4 is).0 r x.1 (fits_at t.kinds t.fit a p.0 p.2 r x))

        second_is : (q : Register) → Gives b q → apply b values ≡ Ok (option_map Plain (scalar_in q))
        second_is q y =
            let p = two_parts t.typed in
            y.0 ∙ ap Ok (held_scalar cells p.1 (plain_operands p.4 is).1 q y.1 (fits_at t.kinds t.fit b p.1 p.3 q y))

        pub decided_step : (v : Option Scalar) → Decides o (option_map Plain (scalar_in r)) (option_map Plain v) → IsHeld cells (register_of v) (apply (Two o a b) values)
        decided_step v h = (
          (λ k. of_two o (first_is k) (apply b values)) ∙ h (apply b values) ∙ ap Ok (sym (held_register cells v)),
          live_register cells v,
        )

        pub second_fault : NeedsSecond o (option_map Plain (scalar_in r)) → (kind : FaultKind) → apply b values ≡ Err kind → apply (Two o a b) values ≡ Err kind
        second_fault h kind fault = (λ k. of_two o (first_is k) (fault k)) ∙ h kind

        pub second_faults : NeedsSecond o (option_map Plain (scalar_in r)) → (e : EvalFault) → IsHeldValue cells (Err e) (apply b values) → IsHeldValue cells (Err e) (apply (Two o a b) values)
        second_faults h (eval_fault.Fault kind) fault = second_fault h kind fault
        second_faults h eval_fault.Memory fault = tt

        both_are : (q : Register) → Gives b q → apply (Two o a b) values ≡ of_two o (Ok (option_map Plain (scalar_in r))) (Ok (option_map Plain (scalar_in q)))
        both_are q y = λ k. of_two o (first_is k) (second_is q y k)

        pub scalars_step : (q : Register) → Gives b q → (v : Option Scalar) → of_two o (Ok (option_map Plain (scalar_in r))) (Ok (option_map Plain (scalar_in q))) ≡ Ok (option_map Plain v) → IsHeld cells (register_of v) (apply (Two o a b) values)
        scalars_step q y v h = (both_are q y ∙ h ∙ ap Ok (sym (held_register cells v)), live_register cells v)

        pub scalars_fault : (q : Register) → Gives b q → (e : EvalFault) → IsValue (Err e) (of_two o (Ok (option_map Plain (scalar_in r))) (Ok (option_map Plain (scalar_in q)))) → IsHeldValue cells (Err e) (apply (Two o a b) values)
        scalars_fault q y (eval_fault.Fault kind) h = both_are q y ∙ h
        scalars_fault q y eval_fault.Memory h = tt

  -- the condition of a choice
  pub condition_is : (c a b : BodyTree) → TypedAt (Choice c a b) → (r : Register) → Gives c r → apply c values ≡ Ok (option_map Plain (scalar_in r))
  condition_is c a b t r gives =
      gives.0 ∙ ap Ok (held_scalar cells (plain scalar_type.Bool) tt r gives.1 (fits_at t.kinds t.fit c (plain scalar_type.Bool) (choice_parts t.typed).0 r gives))

  -- the value of a body of a scalar's kind
  pub value_is : (a : BodyTree) → IsEvaluable cells registers args a → (r : Register) → Gives a r → apply a values ≡ Ok (option_map Plain (scalar_in r))
  value_is a e r gives =
      gives.0 ∙ ap Ok (held_scalar cells e.body.kind e.scalar r gives.1 (fits_at e.body.kinds e.body.fit a e.body.kind e.body.typed r gives))

  -- the same steps of a body that is such a tree
  pub argument_of : (tree : BodyTree) (k : ℕ) (r : Register) → tree ≡ Argument k → TypedAt tree → slice_index_or values k None ≡ held cells r → (All (λ a. HoldsLive cells (slice_index_or registers a register.Empty)) args → HoldsLive cells r) → IsHeld cells r (apply tree values)
  argument_of tree k r is t h live = (ap (λ a. apply a values) is ∙ ap Ok h, live t.live)

  pub operand_of : (tree : BodyTree) (o : Unary) (a b : BodyTree) (r : Register) → tree ≡ One o a → b ≡ a → TypedAt tree → Gives b r → FitsOperand o (held cells r)
  operand_of tree o a b r is same t gives = fits_operand o a (subst TypedAt is t) r (subst (λ a. Gives a r) same gives)

  module _ (tree : BodyTree) (o : Binary) (a b first : BodyTree) (r : Register) (is : tree ≡ Two o a b) (first_same : first ≡ a) (t : TypedAt tree) (x : Gives first r) where
    pub reads_of : is_read o ≡ true → (second : BodyTree) (q : Register) → second ≡ b → Gives second q → CanRead cells o r q
    reads_of read second q same y =
        reads o a b (subst TypedAt is t) r (subst (λ a. Gives a r) first_same x) read q (subst (λ b. Gives b q) same y)

    module _ (read : is_read o ≡ false) (v : Option Scalar) (v_is : v ≡ scalar_in r) where
      pub decided_of : (w : Option Scalar) → Decides o (option_map Plain v) (option_map Plain w) → (s : Register) → s ≡ register_of w → IsHeld cells s (apply tree values)
      decided_of w h s s_is =
          subst (λ (s : Register). IsHeld cells s (apply tree values)) (sym s_is)
          (subst (λ (u : BodyTree). IsHeld cells (register_of w) (apply u values)) (sym is)
          (decided_step o a b (subst TypedAt is t) r (subst (λ a. Gives a r) first_same x) read w
          (subst (λ (v : Option Scalar). Decides o (option_map Plain v) (option_map Plain w)) v_is h)))

      pub faults_of : NeedsSecond o (option_map Plain v) → (second : BodyTree) → second ≡ b → (e : EvalFault) → IsHeldValue cells (Err e) (apply second values) → (result : Result Register EvalFault) → result ≡ Err e → IsHeldValue cells result (apply tree values)
      faults_of h second same e fault result result_is =
          subst (λ (z : Result Register EvalFault). IsHeldValue cells z (apply tree values)) (sym result_is)
          (subst (λ (u : BodyTree). IsHeldValue cells (Err e) (apply u values)) (sym is)
          (second_faults o a b (subst TypedAt is t) r (subst (λ a. Gives a r) first_same x) read
          (subst (λ (v : Option Scalar). NeedsSecond o (option_map Plain v)) v_is h) e
          (subst (λ (b : BodyTree). IsHeldValue cells (Err e) (apply b values)) same fault)))

      pub scalars_of : (second : BodyTree) → second ≡ b → (q : Register) → Gives second q → (y : Option Scalar) → y ≡ scalar_in q → (w : Option Scalar) → of_two o (Ok (option_map Plain v)) (Ok (option_map Plain y)) ≡ Ok (option_map Plain w) → (s : Register) → s ≡ register_of w → IsHeld cells s (apply tree values)
      scalars_of second same q gives y y_is w h s s_is =
          subst (λ (s : Register). IsHeld cells s (apply tree values)) (sym s_is)
          (subst (λ (u : BodyTree). IsHeld cells (register_of w) (apply u values)) (sym is)
          (scalars_step o a b (subst TypedAt is t) r (subst (λ a. Gives a r) first_same x) read q (subst (λ b. Gives b q) same gives) w
          ((λ k. of_two o (Ok (option_map Plain (sym v_is k))) (Ok (option_map Plain (sym y_is k)))) ∙ h)))
