-- Equations that are made one after the other.
use Rattle.std.proofs.Common.{◌≡◌, ℕ, suc, ◌+◌, Bool, true, false, ◌&&◌, List, [], ◌∷◌, ◌++◌, map, length, Some, refl, ap, sym, subst, ◌∙◌, append_assoc, length-append, arith}
use Rattle.std.specs.Prelude.{Ok, Err, Result, if◌then◌else◌}
use Rattle.std.specs.List.{flat_map}
use Rattle.std.proofs.lemmas.List.{append-nil, length-map, map-append}
use Rattle.tsl_value.specs.declared.scalar.ValueType.{ValueType}
use Rattle.flat_core.specs.declared.equation.Equation.{Equation}
use Rattle.flat_core.specs.System.{System}
use Rattle.tsl_value.specs.Aggregate.{is_aggregate}
use Rattle.syntax_tree.specs.Tree.{Expr, place_of}
use Rattle.name_check.specs.Scope.{Agree}
use Rattle.name_check.proofs.AgreeLemmas.{agree_same}
use Rattle.type_rules.specs.declared.rule.ExprType.TheVariants as expr_type
use Rattle.expr_types.specs.Around.{Around}
use Rattle.expr_types.specs.Judge.{type_of}
use Rattle.stream_constructs.specs.declared.construct.Stream.{Stream}
use Rattle.stream_constructs.specs.declared.maker.MakeFault.{MakeFault}
use Rattle.stream_constructs.specs.Agree.{Fits}
use Rattle.stream_constructs.specs.Equations.{alias_equation, choice_equations, own_equations}
use Rattle.stream_constructs.specs.Limits.{IsRefusal}
use Rattle.stream_constructs.specs.Made.{stream_of, with_equations}
use Rattle.spec_meaning.specs.Occurrence.{Occurrence, scope_at}
use Rattle.spec_meaning.specs.Shape.{Shape, shape}
use Rattle.spec_meaning.specs.Makes as makes
use Rattle.spec_meaning.specs.Makes.{IsAsWritten, Makes, MakesAll, MakesBody, choice_operands, is_choice, is_name, is_own, last_of, occurrence, with_itself}
use Rattle.checked_spec.specs.inner.Matches.{HaveTheirTypes, IsTypedAt}
use Rattle.checked_spec.proofs.Whole.{choice_fits, construct_fits}
use Rattle.equation_marks.specs.Marks.{Mark, alias_own_marks, body_marks, choice_own_marks, holds_aggregate, mark_of, own_marks}
use Rattle.equation_marks.specs.inner.Own.{marks_of_shape}
use Rattle.equation_marks.proofs.ByShape.{marks_by_shape, marks_of_choice, marks_of_own}
use Rattle.equation_marks.proofs.CallMarks.{body_of_name, body_of_other}
use Rattle.equation_marks.proofs.OwnMarks.{alias_marks, choice_equations_marks, own_equations_marks}
use Rattle.equation_marks.proofs.Refusing.{are_refused-append, are_refused_of}
use Rattle.equation_marks.specs.Refused.{AreRefused}
use Rattle.macro_flatten.specs.inner.Answers.{AreMade, IsBodyAnswer, IsBodyMade, IsMadeAt, IsRefusedAfter, marks_all, marks_at, marks_called}
use Rattle.macro_flatten.specs.inner.Here.{Site}
use Rattle.macro_flatten.proofs.Named.{name_marks, no_equations}
use Rattle.macro_flatten.specs.inner.Own.{AliasedBy, FitsOwn, IsAliased, own_of}

-- ---- systems to which equations are added
pub with_both : (old mid new : System) (first rest : List Equation) → mid ≡ with_equations old first → new ≡ with_equations mid rest → new ≡ with_equations old (first ++ rest)
with_both old mid new first rest first_is rest_is =
    rest_is ∙ ap (λ s. with_equations s rest) first_is
    ∙ ap (λ es. record old { equations = es }) (append_assoc old.equations first rest)

pub with_none : (old : System) → old ≡ with_equations old []
with_none old = ap (λ es. record old { equations = es }) (sym (append-nil old.equations))

pub many_made : (old mid : System) (first : List Equation) → mid ≡ with_equations old first → length mid.equations ≡ length old.equations + length first
many_made old mid first is = ap (λ (s : System). length s.equations) is ∙ length-append old.equations first

marks_made : (old mid : System) (first : List Equation) (ms : List Mark) → mid ≡ with_equations old first → map mark_of first ≡ ms → map mark_of mid.equations ≡ map mark_of old.equations ++ ms
marks_made old mid first ms is marked =
    ap (λ (s : System). map mark_of s.equations) is ∙ map-append mark_of old.equations first ∙ ap (λ xs. map mark_of old.equations ++ xs) marked

-- ---- refusals of what is made after others
pub refused_front : (old : System) (ms ns : List Mark) (f : MakeFault) → IsRefusedAfter old ms f → IsRefusedAfter old (ms ++ ns) f
refused_front old ms ns f h =
    subst (λ xs. AreRefused xs f) (append_assoc (map mark_of old.equations) ms ns) (are_refused-append (map mark_of old.equations ++ ms) ns f h)

pub refused_after : (old mid : System) (first : List Equation) (ms ns : List Mark) (f : MakeFault) → mid ≡ with_equations old first → map mark_of first ≡ ms → IsRefusedAfter mid ns f → IsRefusedAfter old (ms ++ ns) f
refused_after old mid first ms ns f is marked h =
    subst (λ xs. AreRefused xs f) (ap (λ xs. xs ++ ns) (marks_made old mid first ms is marked) ∙ append_assoc (map mark_of old.equations) ms ns) h

pub refused_same : (old : System) (ms ns : List Mark) (f : MakeFault) → ms ≡ ns → IsRefusedAfter old ms f → IsRefusedAfter old ns f
refused_same old ms ns f same h = subst (λ xs. IsRefusedAfter old xs f) same h

-- of equations that are refused
pub refused_equations : (old : System) (own : List Equation) (ms : List Mark) (f : MakeFault) → map mark_of own ≡ ms → IsRefusal (old.equations ++ own) f → IsRefusedAfter old ms f
refused_equations old own ms f marked h =
    subst (λ xs. AreRefused xs f) (map-append mark_of old.equations own ∙ ap (λ xs. map mark_of old.equations ++ xs) marked) (are_refused_of (old.equations ++ own) f h)

-- ---- expressions, one after the other
module _ (site : Site) (deep : ℕ) where
  pub none_made : (old : System) → AreMade site deep [] old old []
  none_made old = record { made = []; new_is = with_none old; makes = makes.MakesAll.no_part; marks_are = refl; typed = tt }

  pub one_made : (e : Expr) (es : List Expr) (old mid new : System) (s : Stream) (ss : List Stream) → IsMadeAt site deep e old mid s → AreMade site deep es mid new ss → AreMade site deep (e ∷ es) old new (s ∷ ss)
  one_made e es old mid new s ss first rest =
      let moved = subst (λ n. MakesAll site.items site.kinds site.top site.st es n rest.made ss) (many_made old mid first.made first.new_is) rest.makes in
      record {
        made = first.made ++ rest.made;
        new_is = with_both old mid new first.made rest.made first.new_is rest.new_is;
        makes = makes.MakesAll.part first.made rest.made first.makes moved refl;
        marks_are = map-append mark_of first.made rest.made ∙ (λ i. first.marks_are i ++ rest.marks_are i);
        typed = (first.of_is, rest.typed);
      }

-- ---- an expression with a construct of its own, where its parts are made
pub typed_long : (at : Around) (es : List Expr) (ss : List Stream) → HaveTheirTypes at es ss → length ss ≡ length es
typed_long at [] [] h = refl
typed_long at [] (s ∷ ss) h = absurd h
typed_long at (e ∷ es) [] h = absurd h
typed_long at (e ∷ es) (s ∷ ss) h = ap suc (typed_long at es ss h.1)

all_marks : (of : Expr → List Mark) (os : List Occurrence) → flat_map of (map (λ o. o.expr) os) ≡ flat_map (λ o. of o.expr) os
all_marks of [] = refl
all_marks of (o ∷ os) = ap (λ ms. of o.expr ++ ms) (all_marks of os)

module _ (site : Site) (deep : ℕ) (e : Expr) (t : ValueType) (typed : IsTypedAt site.items site.top site.at site.st e t) (sh : Shape) (is : shape site.items (occurrence site.items site.top site.st e) ≡ Some sh) (own : is_own sh.construct ≡ true) where
  abbrev parts_of : List Expr
  parts_of = map (λ o. o.expr) sh.parts

  agrees : Agree site.at.scope (scope_at site.items site.st.calls)
  agrees = agree_same site.at.scope (scope_at site.items site.st.calls) typed.matches.scope_is

  pub own_fits : (ss : List Stream) (n : ℕ) → HaveTheirTypes site.at parts_of ss → FitsOwn e t n sh.construct ss
  own_fits ss n theirs = record {
    choice = λ chosen. choice_fits site.items site.top site.at site.st e t sh ss typed is theirs chosen;
    construct = λ other. (construct_fits site.items site.top site.at site.st e t sh ss n typed is own theirs other).0;
  }

  -- what is made after its parts
  abbrev IsOwnMade : Bool → Type 0
  IsOwnMade chosen = (old mid new : System) (s : Stream) (ss : List Stream) → AreMade site deep parts_of old mid ss → new ≡ with_equations mid (if chosen then choice_equations (place_of e) t (length mid.equations) (choice_operands e) ss else own_equations (place_of e) t (length mid.equations) sh.construct (with_itself sh.construct (length mid.equations) ss)) → s ≡ stream_of mid (if chosen then choice_equations (place_of e) t (length mid.equations) (choice_operands e) ss else own_equations (place_of e) t (length mid.equations) sh.construct (with_itself sh.construct (length mid.equations) ss)) t → IsMadeAt site deep e old new s

  of_stream : (s : Stream) (u : ValueType) → s.of ≡ u → t ≡ u → type_of site.at e ≡ Some (expr_type.Stream s.of)
  of_stream s u first second = typed.is ∙ ap (λ v. Some (expr_type.Stream v)) (second ∙ sym first)

  holds : (b : Bool) → (is_choice e && is_aggregate t) ≡ b → (is_choice e && holds_aggregate (type_of site.at e)) ≡ b
  holds b h = ap (λ o. is_choice e && holds_aggregate o) typed.is ∙ h

  choice_made : (is_choice e && is_aggregate t) ≡ true → IsOwnMade true
  choice_made chosen old mid new s ss parts new_is s_is =
      let many = many_made old mid parts.made parts.new_is in
      let fits = choice_fits site.items site.top site.at site.st e t sh ss typed is parts.typed chosen in
      let after = choice_equations (place_of e) t (length mid.equations) (choice_operands e) ss in
      record {
        made = parts.made ++ after;
        new_is = with_both old mid new parts.made after parts.new_is new_is;
        makes = makes.Makes.choice sh ss parts.made after is chosen parts.makes fits (ap (λ n. choice_equations (place_of e) t n (choice_operands e) ss) many) refl (s_is ∙ ap (λ n. last_of n after t) many);
        marks_are =
            map-append mark_of parts.made after
            ∙ (λ i. parts.marks_are i ++ choice_equations_marks (place_of e) t (length mid.equations) (choice_operands e) ss fits i)
            ∙ (λ i. all_marks (marks_at site deep) sh.parts i ++ choice_own_marks (place_of e) ((typed_long site.at parts_of ss parts.typed ∙ length-map sh.parts (λ o. o.expr)) i) (choice_operands e))
            ∙ sym (marks_of_choice site.items site.st.calls site.at (marks_called site deep) e sh agrees is own (holds true chosen));
        of_is = of_stream s t (ap (λ a. a.of) s_is) refl;
      }

  construct_made : (is_choice e && is_aggregate t) ≡ false → IsOwnMade false
  construct_made other old mid new s ss parts new_is s_is =
      let many = many_made old mid parts.made parts.new_is in
      let n = length old.equations + length parts.made in
      let both = construct_fits site.items site.top site.at site.st e t sh ss (length mid.equations) typed is own parts.typed other in
      let after = own_equations (place_of e) t (length mid.equations) sh.construct (with_itself sh.construct (length mid.equations) ss) in
      record {
        made = parts.made ++ after;
        new_is = with_both old mid new parts.made after parts.new_is new_is;
        makes = makes.Makes.own sh ss parts.made after is own other parts.makes both.1 (subst (λ k. Fits sh.construct (with_itself sh.construct k ss) t) many both.0) (ap (λ k. own_equations (place_of e) t k sh.construct (with_itself sh.construct k ss)) many) refl (s_is ∙ ap (λ k. last_of k after t) many);
        marks_are =
            map-append mark_of parts.made after
            ∙ (λ i. parts.marks_are i ++ own_equations_marks (place_of e) t (length mid.equations) sh.construct ss both.0 i)
            ∙ (λ i. all_marks (marks_at site deep) sh.parts i ++ own_marks (place_of e) sh.construct ((typed_long site.at parts_of ss parts.typed ∙ length-map sh.parts (λ o. o.expr)) i))
            ∙ sym (marks_of_own site.items site.st.calls site.at (marks_called site deep) e sh agrees is own (holds false other));
        of_is = of_stream s t (ap (λ a. a.of) s_is) refl;
      }

  pub own_made : IsOwnMade (is_choice e && is_aggregate t)
  own_made = by (is_choice e && is_aggregate t) refl
    where
      by : (b : Bool) → (is_choice e && is_aggregate t) ≡ b → IsOwnMade b
      by true h = choice_made h
      by false h = construct_made h

  -- its marks are those of the parts and those of what is made after them
  abbrev IsMarked : Bool → Type 0
  IsMarked chosen = (n : ℕ) (ss : List Stream) → HaveTheirTypes site.at parts_of ss → marks_at site deep e ≡ marks_all site deep parts_of ++ map mark_of (if chosen then choice_equations (place_of e) t n (choice_operands e) ss else own_equations (place_of e) t n sh.construct (with_itself sh.construct n ss))

  pub marked_parts : IsMarked (is_choice e && is_aggregate t)
  marked_parts = by (is_choice e && is_aggregate t) refl
    where
      by : (b : Bool) → (is_choice e && is_aggregate t) ≡ b → IsMarked b
      by true chosen n ss theirs =
          let fits = choice_fits site.items site.top site.at site.st e t sh ss typed is theirs chosen in
          marks_of_choice site.items site.st.calls site.at (marks_called site deep) e sh agrees is own (holds true chosen)
          ∙ sym (λ i. all_marks (marks_at site deep) sh.parts i ++ choice_own_marks (place_of e) ((typed_long site.at parts_of ss theirs ∙ length-map sh.parts (λ o. o.expr)) i) (choice_operands e))
          ∙ sym (λ i. marks_all site deep parts_of ++ choice_equations_marks (place_of e) t n (choice_operands e) ss fits i)
      by false other n ss theirs =
          let both = construct_fits site.items site.top site.at site.st e t sh ss n typed is own theirs other in
          marks_of_own site.items site.st.calls site.at (marks_called site deep) e sh agrees is own (holds false other)
          ∙ sym (λ i. all_marks (marks_at site deep) sh.parts i ++ own_marks (place_of e) sh.construct ((typed_long site.at parts_of ss theirs ∙ length-map sh.parts (λ o. o.expr)) i))
          ∙ sym (λ i. marks_all site deep parts_of ++ own_equations_marks (place_of e) t n sh.construct ss both.0 i)

  -- ---- where they are refused
  pub parts_refused : (old : System) (f : MakeFault) → IsRefusedAfter old (marks_all site deep parts_of) f → IsRefusedAfter old (marks_at site deep e) f
  parts_refused old f h =
      let rest = marks_of_shape site.at e sh in
      refused_same old (marks_all site deep parts_of ++ rest) (marks_at site deep e) f
      ((λ i. all_marks (marks_at site deep) sh.parts i ++ rest) ∙ sym (marks_by_shape site.items site.st.calls site.at (marks_called site deep) e sh agrees is own))
      (refused_front old (marks_all site deep parts_of) rest f h)

  pub own_refused : (old mid : System) (ss : List Stream) (f : MakeFault) → AreMade site deep parts_of old mid ss → IsRefusal (mid.equations ++ own_of e t (length mid.equations) sh.construct ss) f → IsRefusedAfter old (marks_at site deep e) f
  own_refused old mid ss f parts h =
      let after = own_of e t (length mid.equations) sh.construct ss in
      refused_same old (marks_all site deep parts_of ++ map mark_of after) (marks_at site deep e) f (sym (marked_parts (length mid.equations) ss parts.typed))
      (refused_after old mid parts.made (marks_all site deep parts_of) (map mark_of after) f parts.new_is parts.marks_are (refused_equations mid after (map mark_of after) f refl h))

-- ---- bodies
module _ (site : Site) (deep : ℕ) (e : Expr) where
  abbrev body_marks_at : List Mark
  body_marks_at = body_marks site.at (marks_called site deep) e

  pub body_refused : (old : System) (f : MakeFault) → IsRefusedAfter old (marks_at site deep e) f → IsRefusedAfter old body_marks_at f
  body_refused old f h = by (is_name e) refl
    where
      by : (b : Bool) → is_name e ≡ b → IsRefusedAfter old body_marks_at f
      by true is =
          refused_same old ([] ++ alias_own_marks (place_of e)) body_marks_at f (sym (body_of_name site.at (marks_called site deep) e is))
          (refused_front old [] (alias_own_marks (place_of e)) f (refused_same old (marks_at site deep e) [] f (name_marks site.at (marks_called site deep) e is) h))
      by false is = refused_same old (marks_at site deep e) body_marks_at f (sym (body_of_other site.at (marks_called site deep) e is)) h

  -- a name has made nothing
  named_body : (old mid new : System) (a s : Stream) → is_name e ≡ true → IsMadeAt site deep e old mid a → new ≡ with_equations mid (alias_equation (place_of e) a ∷ []) → s ≡ stream_of mid (alias_equation (place_of e) a ∷ []) a.of → IsBodyMade site deep e old new s
  named_body old mid new a s is h new_is s_is =
      let none : h.made ≡ [] = no_equations h.made (h.marks_are ∙ name_marks site.at (marks_called site deep) e is) in
      let same : mid ≡ old = h.new_is ∙ ap (with_equations old) none ∙ sym (with_none old) in
      let number : stream_of old (alias_equation (place_of e) a ∷ []) a.of ≡ record { id = length old.equations; of = a.of } = ap (λ n. record { id = n; of = a.of }) (omega arith) in
      record {
        made = alias_equation (place_of e) a ∷ [];
        new_is = new_is ∙ ap (λ s. with_equations s (alias_equation (place_of e) a ∷ [])) same;
        makes = makes.MakesBody.alias a is (subst (λ es. Makes site.items site.kinds site.top site.st e (length old.equations) es a) none h.makes) refl (s_is ∙ ap (λ s. stream_of s (alias_equation (place_of e) a ∷ []) a.of) same ∙ number);
        marks_are = alias_marks (place_of e) a ∙ sym (body_of_name site.at (marks_called site deep) e is);
        of_is = h.of_is ∙ ap (λ (b : Stream). Some (expr_type.Stream b.of)) (sym s_is);
      }

  other_body : (old mid new : System) (a s : Stream) → is_name e ≡ false → IsMadeAt site deep e old mid a → new ≡ mid → s ≡ a → IsBodyMade site deep e old new s
  other_body old mid new a s is h new_is s_is = record {
    made = h.made;
    new_is = new_is ∙ h.new_is;
    makes = makes.MakesBody.plain is (subst (λ b. Makes site.items site.kinds site.top site.st e (length old.equations) h.made b) (sym s_is) h.makes);
    marks_are = h.marks_are ∙ sym (body_of_other site.at (marks_called site deep) e is);
    of_is = h.of_is ∙ ap (λ (b : Stream). Some (expr_type.Stream b.of)) (sym s_is);
  }

  pub body_made : (old mid new : System) (a : Stream) (r : Result Stream MakeFault) → IsMadeAt site deep e old mid a → IsAliased e a mid new r → IsBodyAnswer site deep e old new r
  body_made old mid new a r h aliased = by (is_name e) refl r aliased
    where
      by : (b : Bool) → is_name e ≡ b → (r : Result Stream MakeFault) → AliasedBy b (place_of e) a mid new r → IsBodyAnswer site deep e old new r
      by true is (Ok s) k = named_body old mid new a s is h k.0 k.1
      by true is (Err f) k =
          let own_refusal = refused_equations mid (alias_equation (place_of e) a ∷ []) (alias_own_marks (place_of e)) f (alias_marks (place_of e) a) k in
          refused_same old ([] ++ alias_own_marks (place_of e)) body_marks_at f (sym (body_of_name site.at (marks_called site deep) e is))
          (refused_after old mid h.made [] (alias_own_marks (place_of e)) f h.new_is (h.marks_are ∙ name_marks site.at (marks_called site deep) e is) own_refusal)
      by false is (Ok s) k = other_body old mid new a s is h k.0 k.1
      by false is (Err f) k = absurd k
