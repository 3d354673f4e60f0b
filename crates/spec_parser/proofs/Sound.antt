-- What is read is spelled so: types and expressions.
use Rattle.std.proofs.Common.{◌≡◌, ℕ, zero, suc, Bool, true, false, not, List, [], ◌∷◌, Option, Some, None, is_some, refl, sym, ap, subst, ◌∙◌}
use Rattle.std.specs.Option.{option_map}
use Rattle.spec_lexer.specs.declared.token.Token.{Token}
use Rattle.spec_lexer.specs.declared.token.TokenKind.{TokenKind}
use Rattle.spec_lexer.specs.declared.token.TokenKind.TheVariants as kind
use Rattle.spec_lexer.specs.declared.token.Word.TheVariants as word
use Rattle.spec_lexer.specs.declared.token.Symbol.TheVariants as symbol
use Rattle.token_reader.specs.inner.Reader.{Outcome, give, ◌>>=◌, when, taken, tried, if_next, chosen, opened, many}
use Rattle.token_reader.proofs.Meets.{Meets, meets_bind, weaker, meets_expect, meets-many}
use Rattle.syntax_tree.specs.declared.tree.Level.{Level}
use Rattle.syntax_tree.specs.declared.tree.Level.TheVariants as level
use Rattle.syntax_tree.specs.declared.tree.Operator.{Operator}
use Rattle.syntax_tree.specs.declared.tree.Comparison.{Comparison}
use Rattle.vocabulary.specs.declared.kind.Kind.{Kind}
use Rattle.vocabulary.specs.declared.kind.Kind.TheVariants as aggregate_kind
use Rattle.vocabulary.specs.declared.dotted.Dotted.{Dotted}
use Rattle.spec_parser.specs.declared.words.TypeWord.{TypeWord}
use Rattle.spec_parser.specs.declared.words.TypeWord.TheVariants as type_word
use Rattle.spec_parser.specs.declared.words.TypedWord.{TypedWord}
use Rattle.spec_parser.specs.declared.words.TypedWord.TheVariants as typed_word
use Rattle.vocabulary.specs.declared.dotted.Family.{Family}
use Rattle.spec_parser.specs.declared.words.Member.{Member}
use Rattle.spec_parser.specs.declared.words.Member.TheVariants as member
use Rattle.syntax_tree.specs.Tree as tree
use Rattle.syntax_tree.specs.Tree.{TypeName, Aggregate, kind_in, Expr, Exprs, no_exprs, more_exprs, Links, no_links, more_links, place_of}
use Rattle.vocabulary.specs.Kinds.{kind_name}
use Rattle.vocabulary.specs.Table.{family_of, family_name, family_in, member_name}
use Rattle.spec_parser.specs.Words.{operator_at, comparison_at, opens_call, is_number, is_close, is_open_bracket, is_close_bracket, is_comma, is_if, is_then, is_else, type_word_of, typed_word_of, goes_on}
use Rattle.spec_parser.specs.Grammar.{Is, IsNamed, IsPast, IsType, unit, int, bool, string, aggregate, option, events, IsAggregate, set, map, queue, chained, IsExpr, choice, chain, IsLevel, operands, AreLinks, no_link, one_link, IsOperand, conjunction, no_comparison, comparison, product, unary, IsUnary, negative, negate, negation, primary, IsPrimary, number, text, truth, falsity, parens, nothing, name, call, call_dotted, nil, none, empty_aggregate, AreOthers, no_other, one_other}
use Rattle.spec_parser.specs.inner.Reading as read
use Rattle.spec_parser.specs.inner.Reading.{Reader, must, in_brackets, two_in_brackets, an_aggregate, type_after, at_type, a_type, type_in, link, links_of, after_operand, others_of, after_argument, arguments, typed, member_of, member_after, at_member, a_member, after_name, name_or_call, at_number, negated, in_parens, at_unary, second_sum, compared, if_false, if_true, all_levels, expression, within, prefixed, unary_at, operand_at}
use Rattle.spec_parser.proofs.Ends.{signs, close_is, open_bracket_is, close_bracket_is, comma_is, if_is, then_is, else_is}
use Rattle.spec_parser.proofs.Names.{type_name, type_word_is, typed_name, typed_word_is, family_is, member_spelling, member_family, member_is}
use Rattle.spec_parser.proofs.ExprLaws.{turn_others}
use Rattle.spec_parser.proofs.LevelLaws.{within_known}
use Rattle.spec_parser.proofs.Levels.{links_local}

some_reader : {A : Type 0} (p q : Reader A) → Some p ≡ Some q → p ≡ q
some_reader p q h = cc

-- brackets
module _ {A : Type 0} (r : ℕ) (i : Reader TypeName) (sound : (ts : List Token) → Meets (IsType r ts) (i ts)) (Q : A → List Token → Type 0) where
  brackets_sound : (f : TypeName → A) (ts : List Token) → ((y : TypeName) (v : Token) (rest : List Token) → IsType r ts y (v ∷ rest) → Is v symbol.CloseBracket → Q (f y) rest) → Meets Q (in_brackets i f ts)
  brackets_sound f ts k = meets_bind (IsType r ts) Q (i ts) (λ y. must is_close_bracket (give (f y))) (sound ts) (λ y us d.
      meets_expect (λ t. is_close_bracket t.kind) (give (f y)) (IsType r ts y) Q us d (λ v rest d closes. k y v rest d (close_bracket_is v.kind closes)))

  two_sound : (f : TypeName → TypeName → A) (ts : List Token) → ((x y : TypeName) (v w : Token) (us rest : List Token) → IsType r ts x (v ∷ us) → Is v symbol.Comma → IsType r us y (w ∷ rest) → Is w symbol.CloseBracket → Q (f x y) rest) → Meets Q (two_in_brackets i f ts)
  two_sound f ts k = meets_bind (IsType r ts) Q (i ts) (λ x. must is_comma (in_brackets i (f x))) (sound ts) (λ x us d.
      meets_expect (λ t. is_comma t.kind) (in_brackets i (f x)) (IsType r ts x) Q us d (λ v vs d comma.
      meets_bind (IsType r vs) Q (i vs) (λ y. must is_close_bracket (give (f x y))) (sound vs) (λ y us e.
      meets_expect (λ t. is_close_bracket t.kind) (give (f x y)) (IsType r vs y) Q us e (λ w rest e closes. k x y v w vs rest d (comma_is v.kind comma) e (close_bracket_is w.kind closes)))))

abbrev IsIn : ℕ → List Token → TypeName → List Token → Type 0
IsIn zero ts y rest = ⊥
IsIn (suc room) ts y rest = IsType room ts y rest

-- a bracket and what stands in it, where a level is left
module _ {A : Type 0} (Q : A → List Token → Type 0) where
  opened_sound : (room : ℕ) → ((ts : List Token) → Meets (IsIn room ts) (type_in room ts)) → (f : TypeName → A) (ts : List Token) → ((r : ℕ) → room ≡ suc r → (y : TypeName) (v : Token) (rest : List Token) → IsType r ts y (v ∷ rest) → Is v symbol.CloseBracket → Q (f y) rest) → Meets Q (opened room (in_brackets (type_in room) f) ts)
  opened_sound zero sound f ts k = tt
  opened_sound (suc r) sound f ts k = brackets_sound r (type_in (suc r)) sound Q f ts (k r refl)

  opened_two_sound : (room : ℕ) → ((ts : List Token) → Meets (IsIn room ts) (type_in room ts)) → (f : TypeName → TypeName → A) (ts : List Token) → ((r : ℕ) → room ≡ suc r → (x y : TypeName) (v w : Token) (us rest : List Token) → IsType r ts x (v ∷ us) → Is v symbol.Comma → IsType r us y (w ∷ rest) → Is w symbol.CloseBracket → Q (f x y) rest) → Meets Q (opened room (two_in_brackets (type_in room) f) ts)
  opened_two_sound zero sound f ts k = tt
  opened_two_sound (suc r) sound f ts k = two_sound r (type_in (suc r)) sound Q f ts (k r refl)

  must_sound : (room : ℕ) → ((ts : List Token) → Meets (IsIn room ts) (type_in room ts)) → (f : TypeName → A) (us : List Token) → ((u : Token) (ts : List Token) → us ≡ u ∷ ts → Is u symbol.OpenBracket → (r : ℕ) → room ≡ suc r → (y : TypeName) (v : Token) (rest : List Token) → IsType r ts y (v ∷ rest) → Is v symbol.CloseBracket → Q (f y) rest) → Meets Q (must is_open_bracket (opened room (in_brackets (type_in room) f)) us)
  must_sound room sound f us k = meets_expect (λ t. is_open_bracket t.kind) (opened room (in_brackets (type_in room) f)) (λ vs. us ≡ vs) Q us refl (λ u ts e opens. opened_sound room sound f ts (k u ts e (open_bracket_is u.kind opens)))

  must_two_sound : (room : ℕ) → ((ts : List Token) → Meets (IsIn room ts) (type_in room ts)) → (f : TypeName → TypeName → A) (us : List Token) → ((u : Token) (ts : List Token) → us ≡ u ∷ ts → Is u symbol.OpenBracket → (r : ℕ) → room ≡ suc r → (x y : TypeName) (v w : Token) (vs rest : List Token) → IsType r ts x (v ∷ vs) → Is v symbol.Comma → IsType r vs y (w ∷ rest) → Is w symbol.CloseBracket → Q (f x y) rest) → Meets Q (must is_open_bracket (opened room (two_in_brackets (type_in room) f)) us)
  must_two_sound room sound f us k = meets_expect (λ t. is_open_bracket t.kind) (opened room (two_in_brackets (type_in room) f)) (λ vs. us ≡ vs) Q us refl (λ u ts e opens. opened_two_sound room sound f ts (k u ts e (open_bracket_is u.kind opens)))

-- an aggregate of this kind
abbrev IsOf : Kind → ℕ → List Token → Aggregate → List Token → Type 0
IsOf g room ts a rest = (g ≡ kind_in a) × IsAggregate room ts a rest

aggregate_sound : (room : ℕ) → ((ts : List Token) → Meets (IsIn room ts) (type_in room ts)) → (g : Kind) (us : List Token) → Meets (IsOf g room us) (an_aggregate room (type_in room) g us)
aggregate_sound room sound aggregate_kind.Set us = must_sound (IsOf aggregate_kind.Set room us) room sound tree.SetOf us (λ u ts e opens r s y v rest d closes. (refl, subst (λ vs. IsAggregate room vs (tree.SetOf y) rest) (sym e) (subst (λ n. IsAggregate n (u ∷ ts) (tree.SetOf y) rest) (sym s) (set opens d closes))))
aggregate_sound room sound aggregate_kind.Map us = must_two_sound (IsOf aggregate_kind.Map room us) room sound tree.MapOf us (λ u ts e opens r s x y v w vs rest d comma d2 closes. (refl, subst (λ vs. IsAggregate room vs (tree.MapOf x y) rest) (sym e) (subst (λ n. IsAggregate n (u ∷ ts) (tree.MapOf x y) rest) (sym s) (map opens d comma d2 closes))))
aggregate_sound room sound aggregate_kind.Queue us = must_sound (IsOf aggregate_kind.Queue room us) room sound tree.QueueOf us (λ u ts e opens r s y v rest d closes. (refl, subst (λ vs. IsAggregate room vs (tree.QueueOf y) rest) (sym e) (subst (λ n. IsAggregate n (u ∷ ts) (tree.QueueOf y) rest) (sym s) (queue opens d closes))))

module _ (room : ℕ) (sound : (ts : List Token) → Meets (IsIn room ts) (type_in room ts)) (t : Token) where
  of_word : (w : TypeWord) → IsNamed t (type_name w) → (us : List Token) → Meets (IsType room (t ∷ us)) (type_after room (type_in room) t.place w us)
  of_word type_word.Unit is us = unit is
  of_word type_word.Int is us = int is
  of_word type_word.Bool is us = bool is
  of_word type_word.Text is us = string is
  of_word (type_word.Of g) is us =
      meets_bind (IsOf g room us) (IsType room (t ∷ us)) (an_aggregate room (type_in room) g us) (λ a. give (tree.AggregateType t.place a)) (aggregate_sound room sound g us)
      (λ a rest d. aggregate (is ∙ ap (λ h. kind.Name (kind_name h)) d.0) d.1)
  of_word type_word.Option is us = must_sound (IsType room (t ∷ us)) room sound (tree.OptionType t.place) us (λ u ts e opens r s y v rest d closes. subst (λ vs. IsType room (t ∷ vs) (tree.OptionType t.place y) rest) (sym e) (subst (λ n. IsType n (t ∷ u ∷ ts) (tree.OptionType t.place y) rest) (sym s) (option is opens d closes)))
  of_word type_word.Events is us = must_sound (IsType room (t ∷ us)) room sound (tree.EventsType t.place) us (λ u ts e opens r s y v rest d closes. subst (λ vs. IsType room (t ∷ vs) (tree.EventsType t.place y) rest) (sym e) (subst (λ n. IsType n (t ∷ u ∷ ts) (tree.EventsType t.place y) rest) (sym s) (events is opens d closes)))

  of_option : (n : List ℕ) → t.kind ≡ kind.Name n → (o : Option TypeWord) → type_word_of n ≡ o → (us : List Token) → Meets (IsType room (t ∷ us)) (taken (option_map (type_after room (type_in room) t.place) o) t us)
  of_option n is None h us = tt
  of_option n is (Some w) h us = of_word w (is ∙ ap kind.Name (type_word_is n w h)) us

  of_kind : (k : TokenKind) → t.kind ≡ k → (us : List Token) → Meets (IsType room (t ∷ us)) (taken (at_type room (type_in room) t.place k) t us)
  of_kind (kind.Name n) is us = of_option n is (type_word_of n) refl us
  of_kind (kind.Number n) is us = tt
  of_kind (kind.Text n) is us = tt
  of_kind (kind.Word w) is us = tt
  of_kind (kind.Symbol s) is us = tt

pub type_in_sound : (room : ℕ) (ts : List Token) → Meets (IsIn room ts) (type_in room ts)
unfolding type_in
type_in_sound zero ts = tt
type_in_sound (suc room) [] = tt
type_in_sound (suc room) (t ∷ ts) = of_kind room (type_in_sound room) t t.kind refl ts

pub type_sound : (room : ℕ) (ts : List Token) → Meets (IsType room ts) (type_in (suc room) ts)
type_sound room ts = type_in_sound (suc room) ts

-- what a parenthesis opens, and what a prefix operator opens
abbrev pub IsInner : ℕ → List Token → Expr → List Token → Type 0
IsInner zero ts e rest = ⊥
IsInner (suc room) ts e rest = IsExpr room ts e rest

abbrev pub IsPrefixed : ℕ → List Token → Expr → List Token → Type 0
IsPrefixed zero ts e rest = ⊥
IsPrefixed (suc room) ts e rest = IsUnary room ts e rest

-- the arguments of a call
module _ (r : ℕ) (sound : (ts : List Token) → Meets (IsExpr r ts) (within (suc r) ts)) where
  abbrev inner : Reader Expr
  inner = within (suc r)

  comma_none : (b : Bool) → when b inner ≡ None → b ≡ false
  comma_none true h = cc
  comma_none false h = refl

  comma_go : (t : Token) (b : Bool) → is_comma t.kind ≡ b → (p : Reader Expr) → when b inner ≡ Some p → (ts : List Token) → Meets (λ e us. (es : Exprs) (rest : List Token) → AreOthers r us es rest → AreOthers r (t ∷ ts) (more_exprs e es) rest) (p ts)
  comma_go t false is p h ts = cc
  comma_go t true is p h ts =
      let Q : Expr → List Token → Type 0 = λ e us. (es : Exprs) (rest : List Token) → AreOthers r us es rest → AreOthers r (t ∷ ts) (more_exprs e es) rest in
      subst (λ (q : Reader Expr). Meets Q (q ts)) (some_reader inner p h) (weaker (IsExpr r ts) Q (within (suc r) ts) (λ e us d es rest o. one_other (comma_is t.kind is) d o) (sound ts))

  others_sound : (ts : List Token) → Meets (AreOthers r ts) (many (others_of inner) ts)
  others_sound = meets-many signs (others_of inner) (turn_others inner (within_known (suc r)).fine.local) (AreOthers r) (no_other tt) (λ t ts h. no_other (comma_none (is_comma t.kind) h)) (λ t p is ts. comma_go t (is_comma t.kind) refl p is ts)

  arguments_sound : {A : Type 0} (f : Exprs → A) (Q : A → List Token → Type 0) (ts : List Token) → ((e : Expr) (es : Exprs) (us : List Token) (v : Token) (rest : List Token) → IsExpr r ts e us → AreOthers r us es (v ∷ rest) → Is v symbol.Close → Q (f (more_exprs e es)) rest) → Meets Q (arguments inner f ts)
  arguments_sound f Q ts k = meets_bind (IsExpr r ts) Q (within (suc r) ts) (after_argument inner f) (sound ts) (λ e us d.
      meets_bind (AreOthers r us) Q (many (others_of inner) us) (λ es. must is_close (give (f (more_exprs e es)))) (others_sound us) (λ es vs o.
      meets_expect (λ t. is_close t.kind) (give (f (more_exprs e es))) (AreOthers r us es) Q vs o (λ v rest o closes. k e es us v rest d o (close_is v.kind closes))))

abbrev Sound : ℕ → Type 0
Sound room = (ts : List Token) → Meets (IsInner room ts) (within room ts)

call_sound : (room : ℕ) → Sound room → (t u : Token) (n : List ℕ) → IsNamed t n → opens_call u.kind u.first ≡ true → (ts : List Token) → Meets (IsPrimary room (t ∷ u ∷ ts)) (opened room (arguments (within room) (tree.Call t.place n)) ts)
call_sound zero sound t u n is opens ts = tt
call_sound (suc r) sound t u n is opens ts = arguments_sound r sound (tree.Call t.place n) (IsPrimary (suc r) (t ∷ u ∷ ts)) ts (λ e es us v rest d o closes. call is opens d o closes)

dotted_sound : (room : ℕ) → Sound room → (t d m u : Token) (o : Dotted) → IsNamed t (family_name (family_in o)) → Is d symbol.Dot → IsNamed m (member_name o) → opens_call u.kind u.first ≡ true → (ts : List Token) → Meets (IsPrimary room (t ∷ d ∷ m ∷ u ∷ ts)) (opened room (arguments (within room) (tree.CallDotted t.place o)) ts)
dotted_sound zero sound t d m u o is dot named opens ts = tt
dotted_sound (suc r) sound t d m u o is dot named opens ts = arguments_sound r sound (tree.CallDotted t.place o) (IsPrimary (suc r) (t ∷ d ∷ m ∷ u ∷ ts)) ts (λ e es us v rest x others closes. call_dotted is dot named opens x others closes)

parens_sound : (room : ℕ) → Sound room → (t : Token) → Is t symbol.Open → (ts : List Token) → Meets (IsPrimary room (t ∷ ts)) (opened room (in_parens (within room) t.place) ts)
parens_sound zero sound t is ts = tt
parens_sound (suc r) sound t is [] = meets_bind (IsExpr r []) (IsPrimary (suc r) (t ∷ [])) (within (suc r) []) (λ e. must is_close (give e)) (sound []) (λ e us d.
    meets_expect (λ t. is_close t.kind) (give e) (IsExpr r [] e) (IsPrimary (suc r) (t ∷ [])) us d (λ v rest d closes. parens is d (close_is v.kind closes)))
parens_sound (suc r) sound t is (u ∷ ts) = by (is_close u.kind) refl
  where
    by : (b : Bool) → is_close u.kind ≡ b → Meets (IsPrimary (suc r) (t ∷ u ∷ ts)) (chosen (when b (give (tree.Unit t.place))) (within (suc r) >>= λ e. must is_close (give e)) u ts)
    by true h = nothing is (close_is u.kind h)
    by false h = meets_bind (IsExpr r (u ∷ ts)) (IsPrimary (suc r) (t ∷ u ∷ ts)) (within (suc r) (u ∷ ts)) (λ e. must is_close (give e)) (sound (u ∷ ts)) (λ e us d.
        meets_expect (λ t. is_close t.kind) (give e) (IsExpr r (u ∷ ts) e) (IsPrimary (suc r) (t ∷ u ∷ ts)) us d (λ v rest d closes. parens is d (close_is v.kind closes)))

none_is : {A B : Type 0} (f : A → B) (o : Option A) → option_map f o ≡ None → is_some o ≡ false
none_is f None h = refl
none_is f (Some a) h = cc

when_none : {A : Type 0} (b : Bool) (p : Reader A) → when b p ≡ None → b ≡ false
when_none true p h = cc
when_none false p h = refl

module _ (room : ℕ) (sound : Sound room) (t : Token) where
  abbrev Here : List Token → Expr → List Token → Type 0
  Here us e rest = IsPrimary room (t ∷ us) e rest

  -- a name that knows a dot
  member_sound : (d m : Token) (w : Member) → IsNamed t (family_name (member_family w)) → Is d symbol.Dot → IsNamed m (member_spelling w) → (us : List Token) → Meets (Here (d ∷ m ∷ us)) (member_after room (type_in room) (within room) t.place w us)
  member_sound d m (member.Called o) is dot named us = meets_expect (λ t. opens_call t.kind t.first) (opened room (arguments (within room) (tree.CallDotted t.place o))) (λ vs. us ≡ vs) (Here (d ∷ m ∷ us)) us refl (λ u ts e opens. subst (λ vs. Meets (Here (d ∷ m ∷ vs)) (opened room (arguments (within room) (tree.CallDotted t.place o)) ts)) (sym e) (dotted_sound room sound t d m u o is dot named opens ts))
  member_sound d m (member.Empty g) is dot named us =
      meets_bind (IsOf g room us) (Here (d ∷ m ∷ us)) (an_aggregate room (type_in room) g us) (λ a. give (tree.Empty t.place a)) (aggregate_sound room (type_in_sound room) g us)
      (λ a rest x. empty_aggregate (is ∙ ap (λ h. kind.Name (kind_name h)) x.0) dot named x.1)

  member_option : (d m : Token) (f : Family) (n : List ℕ) → IsNamed t (family_name f) → Is d symbol.Dot → m.kind ≡ kind.Name n → (o : Option Member) → member_of f n ≡ o → (us : List Token) → Meets (Here (d ∷ m ∷ us)) (taken (option_map (member_after room (type_in room) (within room) t.place) o) m us)
  member_option d m f n is dot named None h us = tt
  member_option d m f n is dot named (Some w) h us = let k = member_is f n w h in member_sound d m w (is ∙ ap (λ g. kind.Name (family_name g)) k.0) dot (named ∙ ap kind.Name k.1) us

  member_kind : (d m : Token) (f : Family) → IsNamed t (family_name f) → Is d symbol.Dot → (k : TokenKind) → m.kind ≡ k → (us : List Token) → Meets (Here (d ∷ m ∷ us)) (taken (at_member room (type_in room) (within room) t.place f k) m us)
  member_kind d m f is dot (kind.Name n) named us = member_option d m f n is dot named (member_of f n) refl us
  member_kind d m f is dot (kind.Number n) named us = tt
  member_kind d m f is dot (kind.Text n) named us = tt
  member_kind d m f is dot (kind.Word w) named us = tt
  member_kind d m f is dot (kind.Symbol s) named us = tt

  a_member_sound : (d : Token) (f : Family) → IsNamed t (family_name f) → Is d symbol.Dot → (ts : List Token) → Meets (Here (d ∷ ts)) (a_member room (type_in room) (within room) t.place f ts)
  a_member_sound d f is dot [] = tt
  a_member_sound d f is dot (m ∷ us) = member_kind d m f is dot m.kind refl us

  typed_sound : (u : Token) (w : TypedWord) → IsNamed t (typed_name w) → Is u symbol.OpenBracket → (ts : List Token) → Meets (Here (u ∷ ts)) (typed room (type_in room) t.place w ts)
  typed_sound u typed_word.Nil is opens ts = opened_sound (Here (u ∷ ts)) room (type_in_sound room) (tree.Nil t.place) ts (λ r s y v rest d closes. subst (λ n. IsPrimary n (t ∷ u ∷ ts) (tree.Nil t.place y) rest) (sym s) (nil is opens d closes))
  typed_sound u typed_word.None is opens ts = opened_sound (Here (u ∷ ts)) room (type_in_sound room) (tree.None t.place) ts (λ r s y v rest d closes. subst (λ n. IsPrimary n (t ∷ u ∷ ts) (tree.None t.place y) rest) (sym s) (none is opens d closes))

  module _ (n : List ℕ) (is : IsNamed t n) where
    abbrev Answer : Token → List Token → Option (Reader Expr) → Type 0
    Answer u us o = Meets (Here (u ∷ us)) (tried o (tree.Name t.place n) u us)

    alone : (u : Token) (us : List Token) → goes_on n u.kind u.first ≡ false → Here (u ∷ us) (tree.Name t.place n) (u ∷ us)
    alone u us h = name is h

    at_open : (u : Token) (us : List Token) → Is u symbol.Open → (b : Bool) → not u.first ≡ b → Answer u us (when b (opened room (arguments (within room) (tree.Call t.place n))))
    at_open u us opens true h = call_sound room sound t u n is (ap (λ k. opens_call k u.first) opens ∙ h) us
    at_open u us opens false h = alone u us (ap (λ k. goes_on n k u.first) opens ∙ h)

    at_bracket : (u : Token) (us : List Token) → Is u symbol.OpenBracket → (o : Option TypedWord) → typed_word_of n ≡ o → Answer u us (option_map (typed room (type_in room) t.place) o)
    at_bracket u us opens None h = alone u us (ap (λ k. goes_on n k u.first) opens ∙ ap is_some h)
    at_bracket u us opens (Some w) h = typed_sound u w (is ∙ ap kind.Name (typed_word_is n w h)) opens us

    at_dot : (u : Token) (us : List Token) → Is u symbol.Dot → (o : Option Family) → family_of n ≡ o → Answer u us (option_map (a_member room (type_in room) (within room) t.place) o)
    at_dot u us dot None h = alone u us (ap (λ k. goes_on n k u.first) dot ∙ ap is_some h)
    at_dot u us dot (Some f) h = a_member_sound u f (is ∙ ap kind.Name (family_is n f h)) dot us

    next_sound : (u : Token) (us : List Token) (k : TokenKind) → u.kind ≡ k → Answer u us (after_name room (type_in room) (within room) t.place n k u.first)
    next_sound u us (kind.Symbol symbol.Open) e = at_open u us e (not u.first) refl
    next_sound u us (kind.Symbol symbol.OpenBracket) e = at_bracket u us e (typed_word_of n) refl
    next_sound u us (kind.Symbol symbol.Dot) e = at_dot u us e (family_of n) refl
    next_sound u us _ e = alone u us (ap (λ k. goes_on n k u.first) e)

    name_sound : (ts : List Token) → Meets (Here ts) (name_or_call room (type_in room) (within room) t.place n ts)
    name_sound [] = name is tt
    name_sound (u ∷ us) = next_sound u us u.kind refl

abbrev SoundPrefix : ℕ → Type 0
SoundPrefix room = (ts : List Token) → Meets (IsPrefixed room ts) (prefixed room ts)

negate_of : (room : ℕ) → SoundPrefix room → (t : Token) → Is t symbol.Minus → (ts : List Token) → IsPast is_number ts → Meets (IsUnary room (t ∷ ts)) (opened room (prefixed room >>= λ e. give (tree.Negate t.place e)) ts)
negate_of zero sound t is ts h = tt
negate_of (suc r) sound t is ts h = meets_bind (IsUnary r ts) (IsUnary (suc r) (t ∷ ts)) (prefixed (suc r) ts) (λ e. give (tree.Negate t.place e)) (sound ts) (λ e rest d. negate is h d)

negation_of : (room : ℕ) → SoundPrefix room → (t : Token) → Is t symbol.Not → (ts : List Token) → Meets (IsUnary room (t ∷ ts)) (opened room (prefixed room >>= λ e. give (tree.Not t.place e)) ts)
negation_of zero sound t is ts = tt
negation_of (suc r) sound t is ts = meets_bind (IsUnary r ts) (IsUnary (suc r) (t ∷ ts)) (prefixed (suc r) ts) (λ e. give (tree.Not t.place e)) (sound ts) (λ e rest d. negation is d)

choice_of : (room : ℕ) → Sound room → (t : Token) → t.kind ≡ kind.Word word.If → (ts : List Token) → Meets (IsExpr room (t ∷ ts)) (opened room (read.choice (within room) t.place) ts)
choice_of zero sound t is ts = tt
choice_of (suc r) sound t is ts =
    let Q : Expr → List Token → Type 0 = IsExpr (suc r) (t ∷ ts) in
    let i : Reader Expr = within (suc r) in
    meets_bind (IsExpr r ts) Q (within (suc r) ts) (if_true i t.place) (sound ts) (λ c us dc.
    meets_expect (λ t. is_then t.kind) (i >>= if_false i t.place c) (IsExpr r ts c) Q us dc (λ u us dc h.
    meets_bind (IsExpr r us) Q (within (suc r) us) (if_false i t.place c) (sound us) (λ a vs da.
    meets_expect (λ t. is_else t.kind) (i >>= λ b. give (tree.If t.place c a b)) (IsExpr r us a) Q vs da (λ v vs da k.
    meets_bind (IsExpr r vs) Q (within (suc r) vs) (λ b. give (tree.If t.place c a b)) (sound vs) (λ b rest db. choice is dc (then_is u.kind h) da (else_is v.kind k) db)))))

module _ (room : ℕ) (sound : Sound room) (prefix_sound : SoundPrefix room) where
  module _ (t : Token) where
    minus_sound : Is t symbol.Minus → (ts : List Token) → Meets (IsUnary room (t ∷ ts)) (negated room (prefixed room) t.place ts)
    minus_sound is [] = negate_of room prefix_sound t is [] tt
    minus_sound is (u ∷ ts) = by u.kind refl
      where
        other : is_number u.kind ≡ false → Meets (IsUnary room (t ∷ u ∷ ts)) (opened room (prefixed room >>= λ e. give (tree.Negate t.place e)) (u ∷ ts))
        other h = negate_of room prefix_sound t is (u ∷ ts) h

        by : (k : TokenKind) → u.kind ≡ k → Meets (IsUnary room (t ∷ u ∷ ts)) (chosen (at_number t.place k) (opened room (prefixed room >>= λ e. give (tree.Negate t.place e))) u ts)
        by (kind.Number n) h = negative is h
        by (kind.Name n) h = other (ap is_number h)
        by (kind.Text n) h = other (ap is_number h)
        by (kind.Word n) h = other (ap is_number h)
        by (kind.Symbol n) h = other (ap is_number h)

    as_unary : (ts : List Token) (o : Outcome Token Expr) → Meets (IsPrimary room (t ∷ ts)) o → Meets (IsUnary room (t ∷ ts)) o
    as_unary ts o m = weaker (IsPrimary room (t ∷ ts)) (IsUnary room (t ∷ ts)) o (λ e us d. primary d) m

    unary_kind : (ts : List Token) (k : TokenKind) → t.kind ≡ k → Meets (IsUnary room (t ∷ ts)) (taken (at_unary room (type_in room) (within room) (prefixed room) k t.place) t ts)
    unary_kind ts (kind.Number n) is = primary (number is)
    unary_kind ts (kind.Text n) is = primary (text is)
    unary_kind ts (kind.Word word.True) is = primary (truth is)
    unary_kind ts (kind.Word word.False) is = primary (falsity is)
    unary_kind ts (kind.Name n) is = as_unary ts (name_or_call room (type_in room) (within room) t.place n ts) (name_sound room sound t n is ts)
    unary_kind ts (kind.Symbol symbol.Open) is = as_unary ts (opened room (in_parens (within room) t.place) ts) (parens_sound room sound t is ts)
    unary_kind ts (kind.Symbol symbol.Minus) is = minus_sound is ts
    unary_kind ts (kind.Symbol symbol.Not) is = negation_of room prefix_sound t is ts
    unary_kind ts _ is = tt

  unary_sound : (ts : List Token) → Meets (IsUnary room ts) (unary_at room ts)
  unary_sound [] = tt
  unary_sound (t ∷ ts) = unary_kind t ts t.kind refl

  -- levels
  module _ (l : Level) (operand_sound : (ts : List Token) → Meets (IsOperand l room ts) (operand_at l room ts)) where
    abbrev operand : Reader Expr
    operand = operand_at l room

    link_meets : (t : Token) (o : Option Operator) → operator_at l t.kind t.first ≡ o → (p : Reader (Operator × Expr)) → option_map (link operand) o ≡ Some p → (ts : List Token) → Meets (λ a us. (others : Links) (rest : List Token) → AreLinks l room us others rest → AreLinks l room (t ∷ ts) (more_links a.0 a.1 others) rest) (p ts)
    link_meets t None is p h ts = cc
    link_meets t (Some o) is p h ts =
        let Q : (Operator × Expr) → List Token → Type 0 = λ a us. (others : Links) (rest : List Token) → AreLinks l room us others rest → AreLinks l room (t ∷ ts) (more_links a.0 a.1 others) rest in
        subst (λ (q : Reader (Operator × Expr)). Meets Q (q ts)) (some_reader (link operand o) p h)
        (meets_bind (IsOperand l room ts) Q (operand ts) (λ e. give (o, e)) (operand_sound ts) (λ e us k others rest r. one_link is k r))

    link_none : (o : Option Operator) → option_map (link operand) o ≡ None → o ≡ None
    link_none None h = refl
    link_none (Some o) h = cc

    links_sound : (ts : List Token) → Meets (AreLinks l room ts) (many (links_of l operand) ts)
    links_sound = meets-many signs (links_of l operand) (links_local l room) (AreLinks l room) (no_link tt) (λ t ts h. no_link (link_none (operator_at l t.kind t.first) h)) (λ t p is ts. link_meets t (operator_at l t.kind t.first) refl p is ts)

    level_sound : (ts : List Token) → Meets (IsLevel l room ts) (read.chain l operand ts)
    level_sound ts = meets_bind (IsOperand l room ts) (IsLevel l room ts) (operand ts) (after_operand l operand) (operand_sound ts) (λ e us first.
        meets_bind (AreLinks l room us) (IsLevel l room ts) (many (links_of l operand) us) (λ ls. give (chained l e ls)) (links_sound us) (λ ls rest others. operands first others))

  product_sound : (ts : List Token) → Meets (IsOperand level.Product room ts) (unary_at room ts)
  product_sound ts = weaker (IsUnary room ts) (IsOperand level.Product room ts) (unary_at room ts) (λ e us d. unary d) (unary_sound ts)

  sum_sound : (ts : List Token) → Meets (IsOperand level.Sum room ts) (operand_at level.Sum room ts)
  sum_sound ts = weaker (IsLevel level.Product room ts) (IsOperand level.Sum room ts) (operand_at level.Sum room ts) (λ e us d. product d) (level_sound level.Product product_sound ts)

  abbrev sums : Reader Expr
  sums = read.chain level.Sum (operand_at level.Sum room)

  sums_sound : (ts : List Token) → Meets (IsLevel level.Sum room ts) (sums ts)
  sums_sound ts = level_sound level.Sum sum_sound ts

  comparison_sound : (ts us : List Token) (a : Expr) → IsLevel level.Sum room ts a us → Meets (IsOperand level.Conjunction room ts) (if_next (λ t. option_map (second_sum sums a) (comparison_at t.kind)) a us)
  comparison_sound ts [] a d = no_comparison d tt
  comparison_sound ts (t ∷ us) a d = by (comparison_at t.kind) refl
    where
      by : (o : Option Comparison) → comparison_at t.kind ≡ o → Meets (IsOperand level.Conjunction room ts) (tried (option_map (second_sum sums a) o) a t us)
      by None h = no_comparison d h
      by (Some o) h = meets_bind (IsLevel level.Sum room us) (IsOperand level.Conjunction room ts) (sums us) (λ b. give (tree.Compare (place_of a) o a b)) (sums_sound us) (λ b rest e. comparison d h e)

  conjunction_sound : (ts : List Token) → Meets (IsOperand level.Conjunction room ts) (operand_at level.Conjunction room ts)
  conjunction_sound ts = meets_bind (IsLevel level.Sum room ts) (IsOperand level.Conjunction room ts) (sums ts) (λ a. if_next (λ t. option_map (second_sum sums a) (comparison_at t.kind)) a) (sums_sound ts) (λ a us d. comparison_sound ts us a d)

  disjunction_sound : (ts : List Token) → Meets (IsOperand level.Disjunction room ts) (operand_at level.Disjunction room ts)
  disjunction_sound ts = weaker (IsLevel level.Conjunction room ts) (IsOperand level.Disjunction room ts) (operand_at level.Disjunction room ts) (λ e us d. conjunction d) (level_sound level.Conjunction conjunction_sound ts)

  all_sound : (ts : List Token) → Meets (IsExpr room ts) (all_levels (unary_at room) ts)
  all_sound ts = weaker (IsLevel level.Disjunction room ts) (IsExpr room ts) (all_levels (unary_at room) ts) (λ e us d. chain d) (level_sound level.Disjunction disjunction_sound ts)

  expression_sound : (ts : List Token) → Meets (IsExpr room ts) (expression room (type_in room) (within room) (prefixed room) ts)
  expression_sound [] = all_sound []
  expression_sound (t ∷ ts) = by (is_if t.kind) refl
    where
      by : (b : Bool) → is_if t.kind ≡ b → Meets (IsExpr room (t ∷ ts)) (chosen (when b (opened room (read.choice (within room) t.place))) (all_levels (unary_at room)) t ts)
      by true h = choice_of room sound t (if_is t.kind h) ts
      by false h = all_sound (t ∷ ts)

mutual
  unfolding within prefixed

  pub within_sound : (room : ℕ) (ts : List Token) → Meets (IsInner room ts) (within room ts)
  within_sound zero ts = tt
  within_sound (suc room) ts = expression_sound room (within_sound room) (prefixed_sound room) ts

  pub prefixed_sound : (room : ℕ) (ts : List Token) → Meets (IsPrefixed room ts) (prefixed room ts)
  prefixed_sound zero ts = tt
  prefixed_sound (suc room) ts = unary_sound room (within_sound room) (prefixed_sound room) ts

pub expr_sound : (room : ℕ) (ts : List Token) → Meets (IsExpr room ts) (within (suc room) ts)
expr_sound room ts = within_sound (suc room) ts
