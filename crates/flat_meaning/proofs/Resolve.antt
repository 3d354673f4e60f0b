-- Each occurrence that stands in a flat system leads to equations that make its stream.
use Rattle.std.proofs.Common.{◌≡◌, ℕ, ◌+◌, true, false, ◌&&◌, List, [], ◌∷◌, ◌++◌, map, length, Some, refl, ap, sym, subst, ◌∙◌, arith, length-append}
use Rattle.std.specs.Prelude.{slice_get, if◌then◌else◌}
use Rattle.std.specs.Option.{option_map}
use Rattle.std.proofs.lemmas.Bool.{true≢false, and_parts}
use Rattle.std.proofs.lemmas.Option.{none-some}
use Rattle.tsl_value.specs.declared.scalar.ValueType.{ValueType}
use Rattle.flat_core.specs.declared.equation.Equation.{Equation}
use Rattle.flat_core.specs.System.{System}
use Rattle.tsl_value.specs.Aggregate.{is_aggregate}
use Rattle.syntax_tree.specs.Tree as tree
use Rattle.syntax_tree.specs.Tree.{Expr, Exprs, place_of, no_links}
use Rattle.name_check.specs.declared.declaration.Declaration.{Declaration}
use Rattle.name_check.specs.declared.declaration.Declaration.TheVariants as declaration
use Rattle.type_rules.specs.Kinds.{Kinds}
use Rattle.stream_constructs.specs.declared.construct.Stream.{Stream}
use Rattle.stream_constructs.specs.Construct as construct
use Rattle.stream_constructs.specs.Equations.{own_equations, choice_equations, alias_equation}
use Rattle.stream_constructs.specs.Agree.{Fits, FitsChoice, last_number}
use Rattle.spec_meaning.specs.Occurrence.{Occurrence, stands_for, result_of, body_of, block_of, local}
use Rattle.spec_meaning.specs.Shape.{Shape, shape, same_as, name_shape, input_number}
use Rattle.spec_meaning.specs.Makes.{Standing, Stands, Makes, MakesAll, MakesBody, MakesBlock, last_of, is_name, is_own, is_choice, choice_operands, with_itself, IsAsWritten, inside_call}
use Rattle.spec_meaning.specs.Makes as makes
use Rattle.spec_meaning.specs.Flat.{outermost}
use Rattle.flat_meaning.proofs.Plain.{Within, within_left, within_right}
use Rattle.flat_meaning.proofs.Shapes.{call_is, name_is}
use Rattle.flat_meaning.proofs.Scopes.{IsInputItem, IsStreamItem, IsRight, meaning_right}
use Rattle.flat_meaning.proofs.Placed.{Entered, outside, inside, IsMadeBody, Placed, placed, IsBuilt, Leads, here, onward}
use Rattle.flat_meaning.proofs.Lookup.{all_made, argument_at, local_at, IsInputAt}
use Rattle.flat_meaning.proofs.Built.{TheLaws, own_built, choice_built, alias_built, input_built}

abbrev pub same_shape : Occurrence → Shape
same_shape o = record { construct = construct.Same; parts = o ∷ [] }

module _ (items : List tree.Item) (kinds : Kinds) (top : ℕ → Stream) (s : System) (laws : TheLaws) where
  within_block : (n : ℕ) (before block after made : List Equation) → made ≡ before ++ block ++ after → Within s n made → Within s n before × Within s (n + length before) block × Within s (n + length before + length block) after
  within_block n before block after made is within =
      let all = subst (Within s n) is within in
      let front = within_left s n (before ++ block) after all in
      let same : n + length (before ++ block) ≡ n + length before + length block = omega (arith, length-append before block) in
      (within_left s n before block front, within_right s n before block front, subst (λ m. Within s m after) same (within_right s n (before ++ block) after all))

  -- a construct's own derivation, and that of a choice
  own_leads : {at : Standing} {e : Expr} {n : ℕ} (sh : Shape) (parts : List Stream) (before after : List Equation) {of : ValueType} {made : List Equation} {stream : Stream} → shape items (record { calls = at.calls; expr = e }) ≡ Some sh → is_own sh.construct ≡ true → (is_choice e && is_aggregate of) ≡ false → MakesAll items kinds top at (map (λ o. o.expr) sh.parts) n before parts → IsAsWritten e of → Fits sh.construct (with_itself sh.construct (n + length before) parts) of → after ≡ own_equations (place_of e) of (n + length before) sh.construct (with_itself sh.construct (n + length before) parts) → made ≡ before ++ after → stream ≡ last_of (n + length before) after of → Entered items kinds top s at → Within s n made → Leads items kinds top s (record { calls = at.calls; expr = e }) stream.id
  own_leads {at} {e} {n} sh parts before after {of} {made} {stream} is own_sh no_choice parts_made written fits after_is made_is stream_is entered within =
      let m = n + length before in
      let both = subst (Within s n) made_is within in
      let own : List Equation = own_equations (place_of e) of m sh.construct (with_itself sh.construct m parts) in
      let number : stream.id ≡ last_number m own = ap (λ (a : Stream). a.id) stream_is ∙ ap (last_number m) after_is in
      here (own_built items kinds top s laws at e n m sh parts before of stream entered is own_sh parts_made (within_left s n before after both) fits (subst (Within s m) after_is (within_right s n before after both)) number
      (record { number = n; made = made; makes = makes.Makes.own sh parts before after is own_sh no_choice parts_made written fits after_is made_is stream_is; within = within }))

  choice_leads : {at : Standing} {e : Expr} {n : ℕ} (sh : Shape) (parts : List Stream) (before after : List Equation) {of : ValueType} {made : List Equation} {stream : Stream} → shape items (record { calls = at.calls; expr = e }) ≡ Some sh → (is_choice e && is_aggregate of) ≡ true → MakesAll items kinds top at (map (λ o. o.expr) sh.parts) n before parts → FitsChoice (choice_operands e) parts of → after ≡ choice_equations (place_of e) of (n + length before) (choice_operands e) parts → made ≡ before ++ after → stream ≡ last_of (n + length before) after of → Entered items kinds top s at → Within s n made → Leads items kinds top s (record { calls = at.calls; expr = e }) stream.id
  choice_leads {at} {e} {n} sh parts before after {of} {made} {stream} is chosen parts_made fits after_is made_is stream_is entered within =
      let m = n + length before in
      let both = subst (Within s n) made_is within in
      let number = ap (λ (a : Stream). a.id) stream_is ∙ ap (last_number m) after_is in
      here (choice_built items kinds top s laws at e n m sh parts before of stream entered is (and_parts (is_choice e) (is_aggregate of) chosen).0 parts_made (within_left s n before after both) fits (subst (Within s m) after_is (within_right s n before after both)) number)

  -- a body
  alias_leads : (o : Occurrence) (at : Standing) (e : Expr) (n : ℕ) (made : List Equation) (stream a : Stream) → shape items o ≡ Some (same_shape (record { calls = at.calls; expr = e })) → Makes items kinds top at e n [] a → made ≡ alias_equation (place_of e) a ∷ [] → stream ≡ record { id = n; of = a.of } → Entered items kinds top s at → Within s n made → Leads items kinds top s o stream.id
  alias_leads o at e n made stream a is one made_is stream_is entered within =
      let nothing_more : Within s n [] = λ k f none. absurd (none-some f none) in
      let there = placed entered (record { number = n; made = []; makes = one; within = nothing_more }) in
      let built = alias_built items kinds top s laws o (record { calls = at.calls; expr = e }) (place_of e) n a is there (subst (Within s n) made_is within) in
      here (subst (IsBuilt items kinds top s o) (sym (ap (λ (b : Stream). b.id) stream_is)) built)

  -- an expression that is no name
  made_leads : {at : Standing} {e : Expr} {n : ℕ} {made : List Equation} {stream : Stream} → Makes items kinds top at e n made stream → Entered items kinds top s at → Within s n made → is_name e ≡ false → Leads items kinds top s (record { calls = at.calls; expr = e }) stream.id
  made_leads (makes.Makes.name {x = x} d other is stands) entered within none = absurd (true≢false (sym (λ i. if other i then false else true) ∙ none))
  made_leads {at} {n = n} (makes.Makes.chain {e = e} {made = made} one) entered within none =
      onward (record { calls = at.calls; expr = e }) refl (placed entered (record { number = n; made = made; makes = one; within = within })) (made_leads one entered within none)
  made_leads (makes.Makes.own sh parts before after is own_sh no_choice parts_made written fits after_is made_is stream_is) entered within none =
      own_leads sh parts before after is own_sh no_choice parts_made written fits after_is made_is stream_is entered within
  made_leads (makes.Makes.choice sh parts before after is chosen parts_made fits after_is made_is stream_is) entered within none = choice_leads sh parts before after is chosen parts_made fits after_is made_is stream_is entered within
  made_leads {at} {n = n} (makes.Makes.call {p = p} {x = x} {es = es} i params locals b before block after {made} other is body arguments typed definitions (makes.MakesBody.plain no_name one) made_is) entered within none =
      let parts = within_block n before block after made made_is within in
      let within_call = inside i b entered body arguments parts.0 definitions parts.1 in
      onward (record { calls = record { item = i; arguments = es } ∷ at.calls; expr = result_of b }) (call_is items at.calls p x es i b other is body) (placed within_call (record { number = n + length before + length block; made = after; makes = one; within = parts.2 })) (made_leads one within_call parts.2 no_name)
  made_leads {at} {n = n} (makes.Makes.call {p = p} {x = x} {es = es} i params locals b before block after {made} {s = stream} other is body arguments typed definitions (makes.MakesBody.alias a only_name one after_is stream_is) made_is) entered within none =
      let parts = within_block n before block after made made_is within in
      let within_call = inside i b entered body arguments parts.0 definitions parts.1 in
      alias_leads (record { calls = at.calls; expr = tree.Call p x es }) (inside_call items top at i es params locals) (result_of b) (n + length before + length block) after stream a (call_is items at.calls p x es i b other is body) one after_is stream_is within_call parts.2

  body_leads : (o : Occurrence) (at : Standing) (e : Expr) (stream : Stream) → shape items o ≡ Some (same_shape (record { calls = at.calls; expr = e })) → Entered items kinds top s at → IsMadeBody items kinds top s at e stream → Leads items kinds top s o stream.id
  body_leads o at e stream is entered made = either made.makes made.within
    where
      either : {n : ℕ} {made : List Equation} → MakesBody items kinds top at e n made stream → Within s n made → Leads items kinds top s o stream.id
      either {n} {made} (makes.MakesBody.plain no_name one) within = onward (record { calls = at.calls; expr = e }) is (placed entered (record { number = n; made = made; makes = one; within = within })) (made_leads one entered within no_name)
      either {n} {made} (makes.MakesBody.alias a only_name one made_is stream_is) within = alias_leads o at e n made stream a is one made_is stream_is entered within

  module _ (input_of : (i : ℕ) → IsInputItem (slice_get items i) → IsInputAt items kinds top s (top i) (input_number items i)) (stream_of : (i : ℕ) (item : IsStreamItem (slice_get items i)) → IsMadeBody items kinds top s outermost (result_of item.body) (top i)) where
    -- what the parameters and the definitions of a block stand for
    record IsParameter (at : Standing) (k : ℕ) (stream : Stream) : Type 0 where
      next : Occurrence
      is : stands_for items at.calls (declaration.Parameter k) ≡ Some next
      there : Placed items kinds top s next stream.id
      leads : Leads items kinds top s next stream.id

    record IsInBlock (at : Standing) (k : ℕ) (stream : Stream) : Type 0 where
      body : tree.Body
      is : stands_for items at.calls (declaration.Local k) ≡ Some (record { calls = at.calls; expr = result_of body })
      made : IsMadeBody items kinds top s at (result_of body) stream

    record AreKnown (at : Standing) : Type 0 where
      params : (k : ℕ) (stream : Stream) → slice_get at.params k ≡ Some stream → IsParameter at k stream
      locals : (k : ℕ) (stream : Stream) → slice_get at.locals k ≡ Some stream → IsInBlock at k stream

    name_leads : {at : Standing} {d : Declaration} {stream : Stream} → Stands items top at d stream → Entered items kinds top s at → AreKnown at → (o : Occurrence) → IsRight items d → shape items o ≡ name_shape items at.calls (Some d) → Leads items kinds top s o stream.id
    name_leads (makes.Stands.input {i}) entered known o right is =
        let found = input_of i right in
        let built = input_built items kinds top s laws o found.place found.of (input_number items i) is found.within in
        here (subst (IsBuilt items kinds top s o) (sym found.number_is) built)
    name_leads (makes.Stands.stream {i}) entered known o right is =
        let next : Occurrence = record { calls = []; expr = result_of right.body } in
        let same : shape items o ≡ Some (same_shape next) = is ∙ ap (λ v. same_as (option_map (λ e. record { calls = []; expr = e }) (option_map result_of (body_of v)))) right.is in
        body_leads o outermost (result_of right.body) (top i) same outside (stream_of i right)
    name_leads {stream = stream} (makes.Stands.parameter {k} there) entered known o right is =
        let found = known.params k stream there in
        onward found.next (is ∙ ap same_as found.is) found.there found.leads
    name_leads {at} {stream = stream} (makes.Stands.local {k} there) entered known o right is =
        let found = known.locals k stream there in
        body_leads o at (result_of found.body) stream (is ∙ ap same_as found.is) entered found.made

    at_leads : {at : Standing} {e : Expr} {n : ℕ} {made : List Equation} {stream : Stream} → Makes items kinds top at e n made stream → Entered items kinds top s at → AreKnown at → Within s n made → Leads items kinds top s (record { calls = at.calls; expr = e }) stream.id
    at_leads {at} (makes.Makes.name {p = p} {x = x} d other is stands) entered known within =
        name_leads stands entered known (record { calls = at.calls; expr = tree.Name p x }) (meaning_right items at.calls x d is) (name_is items at.calls p x d other is)
    at_leads {at} {n = n} (makes.Makes.chain {e = e} {made = made} one) entered known within =
        onward (record { calls = at.calls; expr = e }) refl (placed entered (record { number = n; made = made; makes = one; within = within })) (at_leads one entered known within)
    at_leads (makes.Makes.own sh parts before after is own_sh no_choice parts_made written fits after_is made_is stream_is) entered known within =
        own_leads sh parts before after is own_sh no_choice parts_made written fits after_is made_is stream_is entered within
    at_leads (makes.Makes.choice sh parts before after is chosen parts_made fits after_is made_is stream_is) entered known within = choice_leads sh parts before after is chosen parts_made fits after_is made_is stream_is entered within
    at_leads (makes.Makes.call i params locals b before block after other is body arguments typed definitions result made_is) entered known within =
        made_leads (makes.Makes.call i params locals b before block after other is body arguments typed definitions result made_is) entered within refl

    known_at : {at : Standing} → Entered items kinds top s at → AreKnown at
    known_at outside = record { params = λ k stream is. absurd (none-some stream is); locals = λ k stream is. absurd (none-some stream is) }
    known_at (inside {at} {es} i {params} {locals} b entered body arguments before_within definitions block_within) =
        let known = known_at entered in
        record {
          params = λ k stream is.
              let found = argument_at items kinds top s at es params (all_made items kinds top s arguments before_within) k stream is in
              record {
                next = record { calls = at.calls; expr = found.expr };
                is = ap (option_map (λ e. record { calls = at.calls; expr = e })) found.is;
                there = placed entered found.made;
                leads = at_leads found.made.makes entered known found.made.within;
              };
          locals = λ k stream is.
              let found = local_at items kinds top s definitions block_within k stream is in
              record {
                body = found.body;
                is = ap (λ v. option_map (λ c. record { calls = record { item = i; arguments = es } ∷ at.calls; expr = result_of c }) (local k (block_of v))) body ∙ ap (option_map (λ c. record { calls = record { item = i; arguments = es } ∷ at.calls; expr = result_of c })) found.is;
                made = found.made;
              };
        }

    -- an occurrence that stands in the system leads to the equations of its stream
    pub leads : {o : Occurrence} {i : ℕ} → Placed items kinds top s o i → Leads items kinds top s o i
    leads (placed entered made) = at_leads made.makes entered (known_at entered) made.within
