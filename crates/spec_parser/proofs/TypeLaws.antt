-- The laws of the readers of types.
use Rattle.std.proofs.Common.{◌≡◌, ℕ, zero, suc, true, false, List, [], ◌∷◌, Option, Some, None, refl, ap, ◌∙◌}
use Rattle.std.specs.Option.{option_map}
use Rattle.tsl_value.specs.declared.place.Place.{Place}
use Rattle.spec_lexer.specs.declared.token.Token.{Token}
use Rattle.spec_lexer.specs.declared.token.TokenKind.{TokenKind}
use Rattle.spec_lexer.specs.declared.token.TokenKind.TheVariants as kind
use Rattle.spec_lexer.specs.declared.token.Symbol.TheVariants as symbol
use Rattle.token_reader.specs.inner.Reader.{TooDeep, give, refuse, take_by, opened}
use Rattle.token_reader.proofs.LocalLaws.{IsCareful, IsLocal, local-give, local-take_by, local-bind, local-expect}
use Rattle.token_reader.proofs.CarefulLaws.{careful-give, careful-test, careful-take_by, careful-bind, local-closed}
use Rattle.token_reader.proofs.ViableLaws.{Passes, plainly, opening, at_once, unless, Completes, CompletesAll, completes-bind, each-give, each-bind, all-expect}
use Rattle.token_reader.proofs.Fine.{IsFine, IsFineTurn, fine-give, fine-too_deep, fine-bind, fine-take_by, fine-expect, fine_opened, mapped, passes_opened, closed, turn_local}
use Rattle.token_reader.proofs.Fewer.{fine_fewer, completes_fewer, at_fewer}
use Rattle.vocabulary.specs.declared.kind.Kind.{Kind}
use Rattle.vocabulary.specs.declared.kind.Kind.TheVariants as aggregate_kind
use Rattle.spec_parser.specs.declared.words.TypeWord.{TypeWord}
use Rattle.spec_parser.specs.declared.words.TypeWord.TheVariants as type_word
use Rattle.syntax_tree.specs.Tree as tree
use Rattle.syntax_tree.specs.Tree.{TypeName}
use Rattle.spec_parser.specs.Words.{is_open_bracket, is_close_bracket, is_comma, is_number, may_open, opens_level, is_minus, type_word_of}
use Rattle.spec_parser.specs.inner.Reading.{Reader, must, in_brackets, two_in_brackets, an_aggregate, empty_after, type_after, at_type, a_type, type_in}
use Rattle.spec_parser.proofs.Ends.{ends, ends_type, ends_fewer, ends_quiet, type_quiet, close_bracket_is, comma_is, signs, type_signs, start, sample, a_name, open_bracket_is, opens_by}

-- a token that opens a level before whatever stands there
abbrev pub Opens : Token → Type 0
Opens t = (may_open t.kind ≡ true) × ((more : List Token) → opens_level t more ≡ true)

pub opens_as : (t : Token) (k : TokenKind) → t.kind ≡ k → may_open k ≡ true → is_minus k ≡ false → Opens t
opens_as t k e o m = (ap may_open e ∙ o, λ more. opens_by k k refl o m t e more)

pub bracket_opens : (t : Token) → is_open_bracket t.kind ≡ true → Opens t
bracket_opens t h = opens_as t (kind.Symbol symbol.OpenBracket) (open_bracket_is t.kind h) refl refl

-- a reader that passes any token: it stands for one that is not yet known
abbrev pub any_token : {A : Type 0} → A → Reader A
any_token a = take_by (λ t. Some (give a))

-- what stands in brackets
module _ {A : Type 0} (i j : Reader TypeName) where
  pub brackets_local : (f : TypeName → A) → IsLocal type_signs j → IsLocal type_signs (in_brackets j f)
  brackets_local f lj = local-closed type_signs (λ t. is_close_bracket t.kind) j f lj

  close_all : (f : TypeName → A) → CompletesAll type_signs (λ y. must is_close_bracket (give (f y)))
  close_all f = all-expect type_signs (λ t. is_close_bracket t.kind) (sample (kind.Symbol symbol.CloseBracket)) refl (λ y. give (f y)) (each-give type_signs f) refl

  pub brackets_complete : (f : TypeName → A) → Completes type_signs j → Completes type_signs (in_brackets j f)
  brackets_complete f cj = completes-bind type_signs j (λ y. must is_close_bracket (give (f y))) (close_all f) cj

  pub brackets_fine : (f : TypeName → A) → IsFine type_signs i j → IsFine type_signs (in_brackets i f) (in_brackets j f)
  brackets_fine f ij = closed type_signs (λ t. is_close_bracket t.kind) (sample (kind.Symbol symbol.CloseBracket)) refl refl (λ t h. ap may_open (close_bracket_is t.kind h)) i j f ij

module _ {A : Type 0} (i j : Reader TypeName) (f : TypeName → TypeName → A) where
  abbrev second : Reader TypeName → TypeName → Reader A
  second p x = must is_comma (in_brackets p (f x))

  two_each : (p : Reader TypeName) → Completes type_signs p → (x : TypeName) → Completes type_signs (in_brackets p (f x))
  two_each p cp x = brackets_complete p p (f x) cp

  pub two_local : IsLocal type_signs j → IsLocal type_signs (two_in_brackets j f)
  two_local lj = local-bind type_signs j (second j) lj (λ x. careful-test type_signs (λ t. is_comma t.kind) (in_brackets j (f x)) (brackets_local j j (f x) lj)) (λ x. local-expect type_signs (λ t. is_comma t.kind) (in_brackets j (f x)) (brackets_local j j (f x) lj))

  second_all : (p : Reader TypeName) → Completes type_signs p → CompletesAll type_signs (second p)
  second_all p cp = all-expect type_signs (λ t. is_comma t.kind) (sample (kind.Symbol symbol.Comma)) refl (λ x. in_brackets p (f x))
      (each-bind type_signs p (λ x y. must is_close_bracket (give (f x y))) (all-expect type_signs (λ t. is_close_bracket t.kind) (sample (kind.Symbol symbol.CloseBracket)) refl (λ (z : TypeName × TypeName). give (f z.0 z.1)) (each-give type_signs (λ (z : TypeName × TypeName). f z.0 z.1)) refl) cp) refl

  pub two_complete : Completes type_signs j → Completes type_signs (two_in_brackets j f)
  two_complete cj = completes-bind type_signs j (second j) (second_all j cj) cj

  pub two_fine : IsCareful type_signs i → Completes type_signs i → Completes type_signs j → IsFine type_signs i j → IsFine type_signs (two_in_brackets i f) (two_in_brackets j f)
  two_fine careful ci cj ij = fine-bind type_signs i j (second i) (second j) ij (record {
    each = λ x. fine-expect type_signs (λ t. is_comma t.kind) (sample (kind.Symbol symbol.Comma)) refl (in_brackets i (f x)) (in_brackets j (f x)) (brackets_fine i j (f x) ij) (λ t h. plainly (ap may_open (comma_is t.kind h)) (careful-bind type_signs i (λ y. must is_close_bracket (give (f x y))) ij.local careful (λ y. careful-test type_signs (λ t. is_close_bracket t.kind) (give (f x y)) (local-give type_signs (f x y))))) (two_each j cj x);
    careful = λ x. careful-test type_signs (λ t. is_comma t.kind) (in_brackets i (f x)) (brackets_local i i (f x) ij.local);
    deeper_careful = λ x. careful-test type_signs (λ t. is_comma t.kind) (in_brackets j (f x)) (brackets_local j j (f x) ij.deeper);
    completes = second_all i ci;
    deeper = second_all j cj;
  })

-- a type, where so many levels may be open in it
module _ (room : ℕ) (i j : Reader TypeName) (ij : IsFine type_signs i j) (ci : (r : ℕ) → room ≡ suc r → Completes type_signs i) (cj : Completes type_signs j) (careful : (r : ℕ) → room ≡ suc r → IsCareful type_signs i) where
  module _ {A : Type 0} where
    pub opened_brackets : (f : TypeName → A) → IsFine type_signs (opened room (in_brackets i f)) (in_brackets j f)
    opened_brackets f = fine_opened type_signs room (in_brackets i f) (in_brackets j f) (λ r e. brackets_fine i j f ij) (brackets_local j j f ij.deeper) (brackets_complete j j f cj)

    pub opened_two : (f : TypeName → TypeName → A) → IsFine type_signs (opened room (two_in_brackets i f)) (two_in_brackets j f)
    opened_two f = fine_opened type_signs room (two_in_brackets i f) (two_in_brackets j f) (λ r e. two_fine i j f (careful r e) (ci r e) cj ij) (two_local j j f ij.deeper) (two_complete j j f cj)

    pub brackets_pass : (f : TypeName → A) (t : Token) → Opens t → Passes type_signs t (opened room (in_brackets i f))
    brackets_pass f t o = passes_opened type_signs t room (in_brackets i f) o.0 o.1 (λ r e. careful-bind type_signs i (λ y. must is_close_bracket (give (f y))) ij.local (careful r e) (λ y. careful-test type_signs (λ t. is_close_bracket t.kind) (give (f y)) (local-give type_signs (f y)))) (λ r e. brackets_complete i i f (ci r e))

    pub two_pass : (f : TypeName → TypeName → A) (t : Token) → Opens t → Passes type_signs t (opened room (two_in_brackets i f))
    two_pass f t o = passes_opened type_signs t room (two_in_brackets i f) o.0 o.1 (λ r e. careful-bind type_signs i (λ x. must is_comma (in_brackets i (f x))) ij.local (careful r e) (λ x. careful-test type_signs (λ t. is_comma t.kind) (in_brackets i (f x)) (brackets_local i i (f x) ij.local))) (λ r e. two_complete i i f (ci r e))

    pub must_brackets : (f : TypeName → A) → IsFine type_signs (must is_open_bracket (opened room (in_brackets i f))) (must is_open_bracket (in_brackets j f))
    must_brackets f = fine-expect type_signs (λ t. is_open_bracket t.kind) (sample (kind.Symbol symbol.OpenBracket)) refl (opened room (in_brackets i f)) (in_brackets j f) (opened_brackets f) (λ t h. brackets_pass f t (bracket_opens t h)) (brackets_complete j j f cj)

    pub must_two : (f : TypeName → TypeName → A) → IsFine type_signs (must is_open_bracket (opened room (two_in_brackets i f))) (must is_open_bracket (two_in_brackets j f))
    must_two f = fine-expect type_signs (λ t. is_open_bracket t.kind) (sample (kind.Symbol symbol.OpenBracket)) refl (opened room (two_in_brackets i f)) (two_in_brackets j f) (opened_two f) (λ t h. two_pass f t (bracket_opens t h)) (two_complete j j f cj)

    pub must_careful : (p : Reader A) → IsLocal type_signs p → IsCareful type_signs (must is_open_bracket p)
    must_careful p lp = careful-test type_signs (λ t. is_open_bracket t.kind) p lp

  pub aggregate_fine : (g : Kind) → IsFine type_signs (an_aggregate room i g) (an_aggregate (suc room) j g)
  aggregate_fine aggregate_kind.Set = must_brackets tree.SetOf
  aggregate_fine aggregate_kind.Map = must_two tree.MapOf
  aggregate_fine aggregate_kind.Queue = must_brackets tree.QueueOf

  pub aggregate_careful : (g : Kind) → IsCareful type_signs (an_aggregate room i g)
  aggregate_careful aggregate_kind.Set = must_careful _ (opened_brackets tree.SetOf).local
  aggregate_careful aggregate_kind.Map = must_careful _ (opened_two tree.MapOf).local
  aggregate_careful aggregate_kind.Queue = must_careful _ (opened_brackets tree.QueueOf).local

  type_after_fine : (place : Place) (w : TypeWord) → IsFine type_signs (type_after room i place w) (type_after (suc room) j place w)
  type_after_fine place type_word.Unit = fine-give type_signs (tree.UnitType place)
  type_after_fine place type_word.Int = fine-give type_signs (tree.IntType place)
  type_after_fine place type_word.Bool = fine-give type_signs (tree.BoolType place)
  type_after_fine place type_word.Text = fine-give type_signs (tree.TextType place)
  type_after_fine place (type_word.Of g) = mapped type_signs (an_aggregate room i g) (an_aggregate (suc room) j g) (tree.AggregateType place) (aggregate_fine g)
  type_after_fine place type_word.Option = must_brackets (tree.OptionType place)
  type_after_fine place type_word.Events = must_brackets (tree.EventsType place)

  type_after_careful : (place : Place) (w : TypeWord) → IsCareful type_signs (type_after room i place w)
  type_after_careful place type_word.Unit = careful-give type_signs (tree.UnitType place)
  type_after_careful place type_word.Int = careful-give type_signs (tree.IntType place)
  type_after_careful place type_word.Bool = careful-give type_signs (tree.BoolType place)
  type_after_careful place type_word.Text = careful-give type_signs (tree.TextType place)
  type_after_careful place (type_word.Of g) =
      careful-bind type_signs (an_aggregate room i g) (λ a. give (tree.AggregateType place a)) (aggregate_fine g).local (aggregate_careful g) (λ a. careful-give type_signs (tree.AggregateType place a))
  type_after_careful place type_word.Option = must_careful _ (opened_brackets (tree.OptionType place)).local
  type_after_careful place type_word.Events = must_careful _ (opened_brackets (tree.EventsType place)).local

  type_turn : (t : Token) → may_open t.kind ≡ false → (o : Option TypeWord) → IsFineTurn type_signs t (option_map (type_after room i t.place) o) (option_map (type_after (suc room) j t.place) o)
  type_turn t plain None = tt
  type_turn t plain (Some w) = (type_after_fine t.place w, plainly plain (type_after_careful t.place w))

  at_type_turn : (t : Token) (k : TokenKind) → t.kind ≡ k → IsFineTurn type_signs t (at_type room i t.place k) (at_type (suc room) j t.place k)
  at_type_turn t (kind.Name n) e = type_turn t (ap may_open e) (type_word_of n)
  at_type_turn t (kind.Number n) e = tt
  at_type_turn t (kind.Text n) e = tt
  at_type_turn t (kind.Word w) e = tt
  at_type_turn t (kind.Symbol s) e = tt

  pub a_type_fine : IsFine type_signs (a_type room i) (a_type (suc room) j)
  a_type_fine = fine-take_by type_signs (λ t. at_type room i t.place t.kind) (λ t. at_type (suc room) j t.place t.kind) (λ t. at_type_turn t t.kind refl) (λ r h. (a_name ∷ [], tree.IntType start, refl))

  pub a_type_careful : IsCareful type_signs (a_type room i)
  a_type_careful = careful-take_by type_signs (λ t. at_type room i t.place t.kind) (λ t. turn_local type_signs t _ _ (at_type_turn t t.kind refl))

pub type_completes_in : (room : ℕ) → Completes type_signs (type_in (suc room))
unfolding type_in
type_completes_in room r h = (a_name ∷ [], tree.IntType start, refl)

any_complete : {A : Type 0} (a : A) → Completes type_signs (any_token a)
any_complete a r h = (a_name ∷ [], a, refl)

any_local : {A : Type 0} (a : A) → IsLocal type_signs (any_token a)
any_local a = local-take_by type_signs (λ t. Some (give a)) (λ t. local-give type_signs a)

pub no_room : (r : ℕ) → 0 ≡ suc r → ⊥
no_room r e = cc

mutual
  unfolding type_in

  pub type_fine_in : (room : ℕ) → IsFine type_signs (type_in room) (type_in (suc room))
  type_fine_in zero = fine-too_deep type_signs (type_in 1) (a_type_fine 0 (refuse TooDeep) (any_token (tree.UnitType start)) (fine-too_deep type_signs (any_token (tree.UnitType start)) (any_local (tree.UnitType start)) (any_complete (tree.UnitType start))) (λ r e. absurd (no_room r e)) (any_complete (tree.UnitType start)) (λ r e. absurd (no_room r e))).local (type_completes_in 0)
  type_fine_in (suc room) = a_type_fine room (type_in room) (type_in (suc room)) (type_fine_in room) (λ r e. completes_at room r e) (type_completes_in room) (λ r e. careful_at room r e)

  completes_at : (room r : ℕ) → room ≡ suc r → Completes type_signs (type_in room)
  completes_at zero r e = absurd (no_room r e)
  completes_at (suc room) r e = type_completes_in room

  careful_at : (room r : ℕ) → room ≡ suc r → IsCareful type_signs (type_in room)
  careful_at zero r e = absurd (no_room r e)
  careful_at (suc room) r e = a_type_careful room (type_in room) (type_in (suc room)) (type_fine_in room) (λ r e. completes_at room r e) (type_completes_in room) (λ r e. careful_at room r e)

-- the same at fewer ending tokens, as they stand in expressions
pub fine_in : {A : Type 0} (p q : Reader A) → IsFine type_signs p q → IsFine signs p q
fine_in p q h = fine_fewer (λ t. ends t.kind) (λ t. ends_type t.kind) (λ t. may_open t.kind) (λ t. is_number t.kind) opens_level (λ t. ends_fewer t.kind) (λ t. ends_quiet t.kind) (λ t. type_quiet t.kind) p q h

pub complete_in : {A : Type 0} (p : Reader A) → Completes type_signs p → Completes signs p
complete_in p h = completes_fewer (λ t. ends t.kind) (λ t. ends_type t.kind) (λ t. may_open t.kind) (λ t. is_number t.kind) opens_level (λ t. ends_fewer t.kind) (λ t. ends_quiet t.kind) (λ t. type_quiet t.kind) p h

pub pass_in : {A : Type 0} (t : Token) (p : Reader A) → Passes type_signs t p → Passes signs t p
pass_in t p (plainly o c) = plainly o c
pass_in t p (opening o d c) = opening o d (at_fewer (λ t. ends t.kind) (λ t. ends_type t.kind) (λ t. may_open t.kind) (λ t. is_number t.kind) opens_level (λ t. ends_fewer t.kind) (λ t. ends_quiet t.kind) (λ t. type_quiet t.kind) t p c)
pass_in t p (at_once o b h) = at_once o b h
pass_in t p (unless o c h d) = unless o (complete_in p c) h d

module _ {A : Type 0} (room : ℕ) where
  pub type_brackets : (f : TypeName → A) → IsFine signs (opened room (in_brackets (type_in room) f)) (in_brackets (type_in (suc room)) f)
  type_brackets f = fine_in _ _ (opened_brackets room (type_in room) (type_in (suc room)) (type_fine_in room) (completes_at room) (type_completes_in room) (careful_at room) f)

  pub type_brackets_pass : (f : TypeName → A) (t : Token) → Opens t → Passes signs t (opened room (in_brackets (type_in room) f))
  type_brackets_pass f t o = pass_in t _ (brackets_pass room (type_in room) (type_in (suc room)) (type_fine_in room) (completes_at room) (type_completes_in room) (careful_at room) f t o)

-- an empty aggregate
module _ (room : ℕ) (g : Kind) where
  made_fine : IsFine type_signs (an_aggregate room (type_in room) g) (an_aggregate (suc room) (type_in (suc room)) g)
  made_fine = aggregate_fine room (type_in room) (type_in (suc room)) (type_fine_in room) (completes_at room) (type_completes_in room) (careful_at room) g

  pub empty_fine : (place : Place) → IsFine signs (empty_after room (type_in room) place g) (empty_after (suc room) (type_in (suc room)) place g)
  empty_fine place = mapped signs (an_aggregate room (type_in room) g) (an_aggregate (suc room) (type_in (suc room)) g) (tree.Empty place) (fine_in _ _ made_fine)

  pub empty_careful : (place : Place) → IsCareful signs (empty_after room (type_in room) place g)
  empty_careful place =
      careful-bind type_signs (an_aggregate room (type_in room) g) (λ a. give (tree.Empty place a)) made_fine.local
      (aggregate_careful room (type_in room) (type_in (suc room)) (type_fine_in room) (completes_at room) (type_completes_in room) (careful_at room) g)
      (λ a. careful-give type_signs (tree.Empty place a))

-- as they stand in definitions and items
pub type_fine : (room : ℕ) → IsFine signs (type_in room) (type_in (suc room))
type_fine room = fine_in _ _ (type_fine_in room)

pub type_completes : (room : ℕ) → Completes signs (type_in (suc room))
type_completes room = complete_in (type_in (suc room)) (type_completes_in room)

pub type_careful : (room : ℕ) → IsCareful signs (type_in (suc room))
type_careful room = careful_at (suc room) room refl
