-- The derivations for which names stand: of arguments, of the definitions in blocks, and of those at the top.
use Rattle.std.proofs.Common.{◌≡◌, ℕ, zero, suc, ◌+◌, List, [], ◌∷◌, map, Option, Some, refl, ap, sym, subst, ◌∙◌, arith}
use Rattle.std.specs.Prelude.{slice_get}
use Rattle.std.proofs.lemmas.Option.{same_Some, none-some}
use Rattle.tsl_value.specs.declared.place.Place.{Place}
use Rattle.tsl_value.specs.declared.scalar.ValueType.{ValueType}
use Rattle.flat_core.specs.declared.equation.Op.TheVariants as op
use Rattle.flat_core.specs.declared.equation.Equation.{Equation}
use Rattle.flat_core.specs.System.{System}
use Rattle.syntax_tree.specs.Tree as tree
use Rattle.syntax_tree.specs.Tree.{Expr, Exprs, no_exprs, more_exprs}
use Rattle.type_rules.specs.Kinds.{Kinds}
use Rattle.stream_constructs.specs.declared.construct.Stream.{Stream}
use Rattle.stream_constructs.specs.Equations.{equation}
use Rattle.spec_meaning.specs.Occurrence.{Occurrence, argument, local, result_of}
use Rattle.spec_meaning.specs.Shape.{expressions, input_number}
use Rattle.spec_meaning.specs.Makes.{Standing, MakesAll, MakesBody, MakesBlock, no_part, part, no_definition, definition}
use Rattle.spec_meaning.specs.Flat.{outermost, named, MakesInputs, MakesStreams}
use Rattle.spec_meaning.specs.Flat as flat
use Rattle.flat_meaning.proofs.Plain.{unnamed, Within, within_left, within_right, within_named, named_length}
use Rattle.flat_meaning.proofs.Placed.{Each, Entered, IsMade, IsMadeBody, Placed, placed, IsPlaced}
use Rattle.flat_meaning.proofs.Shapes.{AreBeside}

module _ (items : List tree.Item) (kinds : Kinds) (top : ℕ → Stream) (s : System) where
  -- each expression of a list
  pub all_made : {at : Standing} {es : List Expr} {n : ℕ} {made : List Equation} {parts : List Stream} → MakesAll items kinds top at es n made parts → Within s n made → Each (IsMade items kinds top s at) es parts
  all_made no_part within = tt
  all_made {n = n} (part first rest one more is) within =
      let both = subst (Within s n) is within in
      (record { number = n; made = first; makes = one; within = within_left s n first rest both }, all_made more (within_right s n first rest both))

  -- the parts of a construct
  pub parts_placed : {at : Standing} → Entered items kinds top s at → (os : List Occurrence) (parts : List Stream) → AreBeside at.calls os → Each (IsMade items kinds top s at) (map (λ o. o.expr) os) parts → Each (IsPlaced items kinds top s) os parts
  parts_placed entered [] [] beside each = tt
  parts_placed entered [] (a ∷ parts) beside each = absurd each
  parts_placed entered (o ∷ os) [] beside each = absurd each
  parts_placed {at} entered (o ∷ os) (a ∷ parts) beside each =
      let here : Placed items kinds top s (record { calls = at.calls; expr = o.expr }) a.id = placed entered each.0 in
      (subst (λ cs. Placed items kinds top s (record { calls = cs; expr = o.expr }) a.id) (sym beside.0) here, parts_placed entered os parts beside.1 each.1)

  -- an argument, by its number
  pub record IsArgument (at : Standing) (k : ℕ) (es : Exprs) (stream : Stream) : Type 0 where
    pub expr : Expr
    pub is : argument k es ≡ Some expr
    pub made : IsMade items kinds top s at expr stream

  pub argument_at : (at : Standing) (es : Exprs) (params : List Stream) → Each (IsMade items kinds top s at) (expressions es) params → (k : ℕ) (stream : Stream) → slice_get params k ≡ Some stream → IsArgument at k es stream
  argument_at at no_exprs [] each k stream is = absurd (none-some stream is)
  argument_at at no_exprs (a ∷ params) each k stream is = absurd each
  argument_at at (more_exprs e es) [] each k stream is = absurd each
  argument_at at (more_exprs e es) (a ∷ params) each zero stream is = record { expr = e; is = refl; made = subst (IsMade items kinds top s at e) (same_Some a stream is) each.0 }
  argument_at at (more_exprs e es) (a ∷ params) each (suc k) stream is =
      let rest = argument_at at es params each.1 k stream is in
      record { expr = rest.expr; is = rest.is; made = rest.made }

  -- a definition in a block
  pub record IsLocal (at : Standing) (k : ℕ) (ds : tree.Definitions) (stream : Stream) : Type 0 where
    pub body : tree.Body
    pub is : local k ds ≡ Some body
    pub made : IsMadeBody items kinds top s at (result_of body) stream

  pub local_at : {at : Standing} {ds : tree.Definitions} {n : ℕ} {made : List Equation} {locals : List Stream} → MakesBlock items kinds top at ds n made locals → Within s n made → (k : ℕ) (stream : Stream) → slice_get locals k ≡ Some stream → IsLocal at k ds stream
  local_at no_definition within k stream is = absurd (none-some stream is)
  local_at {at} {n = n} (definition {b = b} first rest {s = a} one more made_is) within zero stream is =
      record {
        body = b;
        is = refl;
        made = subst (IsMadeBody items kinds top s at (result_of b)) (same_Some a stream is) (record { number = n; made = first; makes = one; within = within_left s n first rest (subst (Within s n) made_is within) });
      }
  local_at {n = n} (definition first rest one more made_is) within (suc k) stream is =
      let found = local_at more (within_right s n first rest (subst (Within s n) made_is within)) k stream is in
      record { body = found.body; is = found.is; made = found.made }

  -- a definition of the top
  next_is : (i k : ℕ) (P : ℕ → Type 0) → P (suc i + k) → P (i + suc k)
  next_is i k P h = let e : suc i + k ≡ i + suc k = omega arith in subst P e h

  first_is : (i : ℕ) (P : ℕ → Type 0) → P i → P (i + 0)
  first_is i P h = let e : i ≡ i + 0 = omega arith in subst P e h

  pub stream_at : {i : ℕ} {rest : List tree.Item} {n : ℕ} {made : List Equation} → MakesStreams items kinds top i rest n made → Within s n made → (k : ℕ) (p q : Place) (x : List ℕ) (w : Option tree.TypeName) (b : tree.Body) → slice_get rest k ≡ Some (tree.Defined p (tree.Define q x [] w b)) → IsMadeBody items kinds top s outermost (result_of b) (top (i + k))
  stream_at flat.MakesStreams.end within k p q x w b is = absurd (none-some _ is)
  stream_at {i} {n = n} (flat.MakesStreams.stream {x = y} {b = c} a first made top_is typed one more all_is) within zero p q x w b is =
      let both = within_named s n y first (within_left s n (named y first) made (subst (Within s n) all_is within)) in
      let here : IsMadeBody items kinds top s outermost (result_of c) (top i) = record { number = n; made = first; makes = subst (MakesBody items kinds top outermost (result_of c) n first) (sym top_is) one; within = both } in
      let same : result_of c ≡ result_of b = ap body_in (same_Some _ _ is) in
      first_is i (λ j. IsMadeBody items kinds top s outermost (result_of b) (top j)) (subst (λ e. IsMadeBody items kinds top s outermost e (top i)) same here)
    where
      body_in : tree.Item → Expr
      body_in (tree.Defined p (tree.Define q n ps w b)) = result_of b
      body_in item = result_of b
  stream_at {i} {n = n} (flat.MakesStreams.stream {x = y} a first made top_is typed one more all_is) within (suc k) p q x w b is =
      let rest = within_right s n (named y first) made (subst (Within s n) all_is within) in
      let there = subst (λ m. Within s (n + m) made) (named_length y first) rest in
      next_is i k (λ j. IsMadeBody items kinds top s outermost (result_of b) (top j)) (stream_at more there k p q x w b is)
  stream_at {i} (flat.MakesStreams.with_parameters more) within zero p q x w b is = cc
  stream_at {i} (flat.MakesStreams.with_parameters more) within (suc k) p q x w b is = next_is i k (λ j. IsMadeBody items kinds top s outermost (result_of b) (top j)) (stream_at more within k p q x w b is)
  stream_at {i} (flat.MakesStreams.input more) within zero p q x w b is = cc
  stream_at {i} (flat.MakesStreams.input more) within (suc k) p q x w b is = next_is i k (λ j. IsMadeBody items kinds top s outermost (result_of b) (top j)) (stream_at more within k p q x w b is)
  stream_at {i} (flat.MakesStreams.output more) within zero p q x w b is = cc
  stream_at {i} (flat.MakesStreams.output more) within (suc k) p q x w b is = next_is i k (λ j. IsMadeBody items kinds top s outermost (result_of b) (top j)) (stream_at more within k p q x w b is)
  stream_at {i} (flat.MakesStreams.output_as more) within zero p q x w b is = cc
  stream_at {i} (flat.MakesStreams.output_as more) within (suc k) p q x w b is = next_is i k (λ j. IsMadeBody items kinds top s outermost (result_of b) (top j)) (stream_at more within k p q x w b is)

  -- an input
  pub record IsInputAt (stream : Stream) (number : ℕ) : Type 0 where
    pub number_is : stream.id ≡ number
    pub place : Place
    pub of : ValueType
    pub within : Within s number (equation place op.Input [] of ∷ [])

  pub input_at : {i : ℕ} {rest : List tree.Item} {n : ℕ} {made : List Equation} → MakesInputs items kinds top i rest n made → Within s n made → (k : ℕ) (p q : Place) (x : List ℕ) (y : tree.TypeName) → slice_get rest k ≡ Some (tree.Input p q x y) → IsInputAt (top (i + k)) (n + input_number rest k)
  input_at flat.MakesInputs.end within k p q x y is = absurd (none-some _ is)
  input_at {i} {n = n} (flat.MakesInputs.input {q = r} {x = w} of made event top_is more all_is) within zero p q x y is =
      let here : Within s n (equation r op.Input [] of ∷ []) = alone (subst (Within s n) all_is within) in
      first_is i (λ j. IsInputAt (top j) (n + 0)) (first_is n (λ m. IsInputAt (top i) m) (record { number_is = ap (λ a. a.id) top_is; place = r; of = of; within = here }))
    where
      alone : Within s n (record (equation r op.Input [] of) { name = Some w } ∷ made) → Within s n (equation r op.Input [] of ∷ [])
      alone all zero e is = all 0 (record (equation r op.Input [] of) { name = Some w }) refl ∙ ap (λ f. Some (unnamed f)) (same_Some (equation r op.Input [] of) e is)
      alone all (suc k) e is = absurd (none-some e is)
  input_at {i} {n = n} (flat.MakesInputs.input {rest = rest} of made event top_is more all_is) within (suc k) p q x y is =
      let there = within_right s n (_ ∷ []) made (subst (Within s n) all_is within) in
      let moved : Within s (suc n) made = let e : n + 1 ≡ suc n = omega arith in subst (λ m. Within s m made) e there in
      let found = input_at more moved k p q x y is in
      next_is i k (λ j. IsInputAt (top j) (n + suc (input_number rest k))) (let e : suc n + input_number rest k ≡ n + suc (input_number rest k) = omega arith in subst (λ m. IsInputAt (top (suc i + k)) m) e found)
  input_at (flat.MakesInputs.defined more) within zero p q x y is = cc
  input_at {i} {n = n} (flat.MakesInputs.defined {rest = rest} more) within (suc k) p q x y is = next_is i k (λ j. IsInputAt (top j) (n + input_number rest k)) (input_at more within k p q x y is)
  input_at (flat.MakesInputs.output more) within zero p q x y is = cc
  input_at {i} {n = n} (flat.MakesInputs.output {rest = rest} more) within (suc k) p q x y is = next_is i k (λ j. IsInputAt (top j) (n + input_number rest k)) (input_at more within k p q x y is)
  input_at (flat.MakesInputs.output_as more) within zero p q x y is = cc
  input_at {i} {n = n} (flat.MakesInputs.output_as {rest = rest} more) within (suc k) p q x y is = next_is i k (λ j. IsInputAt (top j) (n + input_number rest k)) (input_at more within k p q x y is)
