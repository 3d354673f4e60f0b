-- What two derivations of the same expression have in common, and that of a construct.
use Rattle.std.proofs.Common.{◌≡◌, ℕ, ◌+◌, true, false, ◌&&◌, List, [], ◌∷◌, ◌++◌, length, Some, refl, ap, sym, subst, ◌∙◌}
use Rattle.std.specs.Prelude.{slice_get}
use Rattle.std.proofs.lemmas.Bool.{true≢false, and_parts}
use Rattle.std.proofs.lemmas.List.{map-append}
use Rattle.std.proofs.lemmas.Option.{same_Some}
use Rattle.tsl_value.specs.declared.scalar.ValueType.{ValueType}
use Rattle.flat_core.specs.declared.equation.Equation.{Equation}
use Rattle.tsl_value.specs.Aggregate.{is_aggregate}
use Rattle.flat_core.specs.Typed.{unit_type}
use Rattle.syntax_tree.specs.Tree as tree
use Rattle.syntax_tree.specs.Tree.{Expr, place_of}
use Rattle.stream_constructs.specs.declared.construct.Stream.{Stream}
use Rattle.stream_constructs.specs.Construct.{Construct, operand_trees}
use Rattle.stream_constructs.specs.Construct as construct
use Rattle.stream_constructs.specs.Equations.{own_equations, choice_equations}
use Rattle.stream_constructs.specs.Agree.{Fits, FitsChoice}
use Rattle.spec_meaning.specs.Occurrence.{Call}
use Rattle.spec_meaning.specs.Shape.{Shape, expr_shape}
use Rattle.spec_meaning.specs.Makes.{Standing, last_of, with_itself, is_choice, choice_operands, IsAsWritten}
use Rattle.flat_meaning.proofs.Scopes.{IsInputItem, IsStreamItem}
use Rattle.flat_meaning.proofs.Shapes.{choice_construct}
use Rattle.flat_meaning.proofs.Lengths.{both_lengths, own_length, choice_length}
use Rattle.flat_meaning.proofs.OneType.{types, one_type, one_choice, choice_type}
use Rattle.flat_meaning.proofs.OneShapes.{no_nil}

-- ---- where two derivations stand
-- the same calls, with streams of the same types
pub record Alike (at by : Standing) : Type 0 where
  pub calls : at.calls ≡ by.calls
  pub params : types at.params ≡ types by.params
  pub locals : types at.locals ≡ types by.locals

-- the same streams
pub record IsSame (at by : Standing) : Type 0 where
  pub params : at.params ≡ by.params
  pub locals : at.locals ≡ by.locals

-- what the inputs and the streams of the top are agrees
pub record Agree (items : List tree.Item) (R : Stream → Stream → Type 0) (top other : ℕ → Stream) : Type 0 where
  pub inputs : (i : ℕ) → IsInputItem (slice_get items i) → R (top i) (other i)
  pub streams : (i : ℕ) → IsStreamItem (slice_get items i) → R (top i) (other i)

module _ (items : List tree.Item) (top other : ℕ → Stream) where
  abbrev pub IsOne : Type 0
  IsOne = Agree items (λ s u. s ≡ u) top other

  -- Two derivations make as many equations, of the same types; where they begin with the same number and stand at the same streams, they
  -- make the same.
  pub record Once {A : Type 0} (Typed : A → A → Type 0) (n m : ℕ) (at by : Standing) (xs ys : List Equation) (s u : A) : Type 0 where
    pub lengths : length xs ≡ length ys
    pub typed : Typed s u
    pub whole : IsOne → n ≡ m → IsSame at by → (xs ≡ ys) × (s ≡ u)

  abbrev pub OneStream : ℕ → ℕ → Standing → Standing → List Equation → List Equation → Stream → Stream → Type 0
  OneStream n m at by xs ys s u = Once (λ (v w : Stream). v.of ≡ w.of) n m at by xs ys s u

  abbrev pub OneList : ℕ → ℕ → Standing → Standing → List Equation → List Equation → List Stream → List Stream → Type 0
  OneList n m at by xs ys ss us = Once (λ vs ws. types vs ≡ types ws) n m at by xs ys ss us

-- ---- what a derivation of a construct has after its parts
-- these equations follow, and the last one is its stream
pub record IsAfter (equations : ValueType → ℕ → List Stream → List Equation) (of : ValueType) (k : ℕ) (parts : List Stream) (before made : List Equation) (s : Stream) : Type 0 where
  pub after : List Equation
  pub after_is : after ≡ equations of k parts
  pub made_is : made ≡ before ++ after
  pub stream_is : s ≡ last_of k after of

abbrev pub own_of : Expr → Construct → ValueType → ℕ → List Stream → List Equation
own_of e c of k parts = own_equations (place_of e) of k c (with_itself c k parts)

abbrev pub choice_of : Expr → ValueType → ℕ → List Stream → List Equation
choice_of e of k parts = choice_equations (place_of e) of k (choice_operands e) parts

pub record IsOwn (e : Expr) (c : Construct) (k : ℕ) (parts : List Stream) (before made : List Equation) (s : Stream) : Type 0 where
  pub of : ValueType
  pub no_choice : (is_choice e && is_aggregate of) ≡ false
  pub written : IsAsWritten e of
  pub fits : Fits c (with_itself c k parts) of
  pub is_after : IsAfter (own_of e c) of k parts before made s

pub record IsChoice (e : Expr) (k : ℕ) (parts : List Stream) (before made : List Equation) (s : Stream) : Type 0 where
  pub of : ValueType
  pub chosen : (is_choice e && is_aggregate of) ≡ true
  pub fits : FitsChoice (choice_operands e) parts of
  pub is_after : IsAfter (choice_of e) of k parts before made s

itself_types : (c : Construct) (k l : ℕ) (parts parts_too : List Stream) → types parts ≡ types parts_too → types (with_itself c k parts) ≡ types (with_itself c l parts_too)
itself_types construct.Delay k l parts parts_too same =
    map-append (λ (a : Stream). a.of) parts (record { id = k; of = unit_type } ∷ []) ∙ (λ i. same i ++ unit_type ∷ []) ∙ sym (map-append (λ (a : Stream). a.of) parts_too (record { id = l; of = unit_type } ∷ []))
itself_types c k l parts parts_too same = same

-- the type of a construct
own_type : (items : List tree.Item) (cs : List Call) (e : Expr) (sh : Shape) (parts parts_too : List Stream) (of at : ValueType) → expr_shape items cs e ≡ Some sh → types parts ≡ types parts_too → IsAsWritten e of → IsAsWritten e at → Fits sh.construct parts of → Fits sh.construct parts_too at → of ≡ at
own_type items cs (tree.Nil p y) sh parts parts_too of at is same written be g h = same_Some of at (sym written ∙ be)
own_type items cs e sh parts parts_too of at is same written be g h = one_type sh.construct parts parts_too of at (no_nil items cs e sh refl is) same g h

module _ (items : List tree.Item) (top other : ℕ → Stream) where
  -- equations whose number follows from the types of the parts
  after_once : {n m : ℕ} {at by : Standing} {parts parts_too : List Stream} {before before_too made all : List Equation} {s u : Stream} (equations : ValueType → ℕ → List Stream → List Equation) (of be : ValueType) → of ≡ be → length (equations of (n + length before) parts) ≡ length (equations be (m + length before_too) parts_too) → OneList items top other n m at by before before_too parts parts_too → IsAfter equations of (n + length before) parts before made s → IsAfter equations be (m + length before_too) parts_too before_too all u → OneStream items top other n m at by made all s u
  after_once {n} {m} {before = before} {before_too = before_too} equations of be of_same many once g h = record {
    lengths = ap length g.made_is ∙ both_lengths before before_too g.after h.after once.lengths (ap length g.after_is ∙ many ∙ sym (ap length h.after_is)) ∙ sym (ap length h.made_is);
    typed = ap (λ (a : Stream). a.of) g.stream_is ∙ of_same ∙ sym (ap (λ (a : Stream). a.of) h.stream_is);
    whole = λ exact n_same at_same.
        let parts_same = once.whole exact n_same at_same in
        let k_same : n + length before ≡ m + length before_too = λ i. n_same i + length (parts_same.0 i) in
        let after_same : g.after ≡ h.after = g.after_is ∙ (λ i. equations (of_same i) (k_same i) (parts_same.1 i)) ∙ sym h.after_is in
        (g.made_is ∙ (λ i. parts_same.0 i ++ after_same i) ∙ sym h.made_is, g.stream_is ∙ (λ i. last_of (k_same i) (after_same i) (of_same i)) ∙ sym h.stream_is);
  }

  pub own_once : {n m : ℕ} {at by : Standing} {e : Expr} {sh : Shape} {parts parts_too : List Stream} {before before_too made all : List Equation} {s u : Stream} → expr_shape items at.calls e ≡ Some sh → OneList items top other n m at by before before_too parts parts_too → IsOwn e sh.construct (n + length before) parts before made s → IsOwn e sh.construct (m + length before_too) parts_too before_too all u → OneStream items top other n m at by made all s u
  own_once {n} {m} {at} {by} {e} {sh} {parts} {parts_too} {before} {before_too} is once g h =
      let c = sh.construct in
      let k = n + length before in
      let l = m + length before_too in
      let same = itself_types c k l parts parts_too once.typed in
      let of_same = own_type items at.calls e sh (with_itself c k parts) (with_itself c l parts_too) g.of h.of is same g.written h.written g.fits h.fits in
      after_once (own_of e c) g.of h.of of_same (own_length (place_of e) g.of h.of k l c (with_itself c k parts) (with_itself c l parts_too) same) once g.is_after h.is_after

  pub choice_once : {n m : ℕ} {at by : Standing} {e : Expr} {parts parts_too : List Stream} {before before_too made all : List Equation} {s u : Stream} → OneList items top other n m at by before before_too parts parts_too → IsChoice e (n + length before) parts before made s → IsChoice e (m + length before_too) parts_too before_too all u → OneStream items top other n m at by made all s u
  choice_once {n} {m} {e = e} {parts = parts} {parts_too = parts_too} {before = before} {before_too = before_too} once g h =
      let os = choice_operands e in
      let of_same = one_choice os parts parts_too g.of h.of once.typed g.fits h.fits in
      after_once (choice_of e) g.of h.of of_same (choice_length (place_of e) g.of h.of (n + length before) (m + length before_too) os parts parts_too once.typed) once g.is_after h.is_after

  -- an operation on streams is no choice between sets or maps
  pub no_choice : {P : Type 0} (cs : List Call) {e : Expr} {sh : Shape} {k l : ℕ} {parts parts_too : List Stream} {before before_too made all : List Equation} {s u : Stream} → expr_shape items cs e ≡ Some sh → types parts ≡ types parts_too → IsOwn e sh.construct k parts before made s → IsChoice e l parts_too before_too all u → P
  no_choice cs {e = e} {sh = sh} {k = k} {parts = parts} {parts_too = parts_too} is same g h =
      let both = and_parts (is_choice e) (is_aggregate h.of) h.chosen in
      let construct_is = choice_construct items cs e sh both.0 is in
      let fits = subst (λ c. Fits c (with_itself c k parts) g.of) construct_is g.fits in
      let of_same = choice_type (choice_operands e) parts parts_too g.of h.of same fits h.fits in
      absurd (true≢false (sym h.chosen ∙ ap (λ of. is_choice e && is_aggregate of) (sym of_same) ∙ g.no_choice))
