-- The laws of the readers of expressions.
use Rattle.std.proofs.Common.{◌≡◌, ℕ, zero, suc, Bool, true, false, not, ◌&&◌, List, [], ◌∷◌, Option, Some, None, refl, sym, ap, subst, ◌∙◌, inr}
use Rattle.std.specs.Prelude.{codes}
use Rattle.std.specs.Option.{option_map}
use Rattle.tsl_value.specs.declared.place.Place.{Place}
use Rattle.spec_lexer.specs.declared.token.Token.{Token}
use Rattle.spec_lexer.specs.declared.token.TokenKind.{TokenKind}
use Rattle.spec_lexer.specs.declared.token.TokenKind.TheVariants as kind
use Rattle.spec_lexer.specs.declared.token.Word.TheVariants as word
use Rattle.spec_lexer.specs.declared.token.Symbol.TheVariants as symbol
use Rattle.token_reader.specs.inner.Reader.{TooDeep, give, refuse, and_then, ◌>>=◌, when, chosen, opened, many}
use Rattle.token_reader.proofs.LocalLaws.{CarefulAt, IsCareful, IsLocal, IsLocalTurn, IsEager, Declines, Stays, eagerly, calmly, local-give, local-bind, local-expect, local-or_else, local_when, eager-take_by, eager-bind}
use Rattle.token_reader.proofs.ManyLaws.{many_end, careful-many, local-many}
use Rattle.token_reader.proofs.CarefulLaws.{careful-give, careful-test, careful-bind, careful-or_else, local-closed, local-mapped}
use Rattle.token_reader.proofs.ViableLaws.{Passes, plainly, opening, unless, Completes, CompletesAt, CompletesEach, Begins, Skips, completes-give, completes-bind, completes-begins, each-give, each-bind, all-expect, all-skips}
use Rattle.token_reader.proofs.Fine.{IsFine, IsFineTurn, GoesOn, fine-give, fine-bind, fine-take_by, fine-if_next, fine-or_else, fine-many, fine-expect, fine_when, fine_opened, mapped, careful-turns, careful-deeper, careful-may, on-expect, on-close, on-skips, closed, passes_opened, turn_local, turn_deeper}
use Rattle.vocabulary.specs.declared.kind.Kind.TheVariants as aggregate_kind
use Rattle.vocabulary.specs.declared.dotted.Dotted.TheVariants as dotted
use Rattle.spec_parser.specs.declared.words.TypedWord.{TypedWord}
use Rattle.spec_parser.specs.declared.words.TypedWord.TheVariants as typed_word
use Rattle.vocabulary.specs.declared.dotted.Family.{Family}
use Rattle.vocabulary.specs.declared.dotted.Family.TheVariants as family
use Rattle.spec_parser.specs.declared.words.Member.{Member}
use Rattle.spec_parser.specs.declared.words.Member.TheVariants as member
use Rattle.syntax_tree.specs.Tree as tree
use Rattle.syntax_tree.specs.Tree.{TypeName, Expr, Exprs, no_exprs, more_exprs, Links, no_links, more_links, place_of}
use Rattle.vocabulary.specs.Table.{family_of, dotted_of}
use Rattle.spec_parser.specs.Words.{opens_call, is_number, is_close, is_comma, is_then, is_else, may_open, is_minus, is_number_next, opens_level, typed_word_of}
use Rattle.spec_parser.specs.inner.Reading.{Reader, must, type_in, others_of, after_argument, arguments, typed, member_of, member_after, at_member, a_member, after_name, name_or_call, at_number, negated, in_parens, at_unary, unary, if_false, if_true, choice}
use Rattle.spec_parser.proofs.Ends.{ends, signs, start, sample, a_truth, comma_goes_on, close_is, comma_is, else_is, then_is, call_is}
use Rattle.spec_parser.proofs.TypeLaws.{Opens, opens_as, type_brackets, type_brackets_pass, empty_fine, empty_careful, no_room}

abbrev a_close : Token
a_close = sample (kind.Symbol symbol.Close)

abbrev closes : Token → Bool
closes t = is_close t.kind

close_plain : (t : Token) → is_close t.kind ≡ true → may_open t.kind ≡ false
close_plain t h = ap may_open (close_is t.kind h)

-- of a reader alone: the arguments of a call, and the three parts of a choice
module _ (j : Reader Expr) (lj : IsLocal signs j) where
  pub turn_others : (t : Token) → IsLocalTurn signs ((others_of j).turn t)
  turn_others t = local_when signs j lj (is_comma t.kind)

  pub declines_others : Declines signs (others_of j).turn
  declines_others t h = λ k. when (comma_goes_on t.kind h k) j

  pub local_others : IsLocal signs (many (others_of j))
  local_others = local-many signs (others_of j) turn_others declines_others

  careful_others : IsCareful signs (many (others_of j))
  careful_others = careful-many signs (others_of j) turn_others

  skips_others : Skips signs no_exprs (many (others_of j))
  skips_others r h = many_end signs (others_of j) turn_others declines_others r h

  module _ {A : Type 0} (f : Exprs → A) where
    after_argument_careful : (e : Expr) → IsCareful signs (after_argument j f e)
    after_argument_careful e = careful-bind signs (many (others_of j)) (λ es. must is_close (give (f (more_exprs e es)))) local_others careful_others (λ es. careful-test signs closes (give (f (more_exprs e es))) (local-give signs (f (more_exprs e es))))

    arguments_local : IsLocal signs (arguments j f)
    arguments_local = local-bind signs j (after_argument j f) lj
        (λ e. careful-bind signs (many (others_of j)) (λ es. must is_close (give (f (more_exprs e es)))) local_others careful_others (λ es. careful-test signs closes (give (f (more_exprs e es))) (local-give signs (f (more_exprs e es)))))
        (λ e. local-closed signs closes (many (others_of j)) (λ es. f (more_exprs e es)) local_others)

    arguments_complete : Completes signs j → Completes signs (arguments j f)
    arguments_complete cj = completes-bind signs j (after_argument j f) (all-skips signs (many (others_of j)) (λ e es. must is_close (give (f (more_exprs e es)))) (all-expect signs closes a_close refl (λ (x : Expr × Exprs). give (f (more_exprs x.0 x.1))) (each-give signs (λ (x : Expr × Exprs). f (more_exprs x.0 x.1))) refl) no_exprs skips_others) cj

  module _ (place : Place) where
    false_each : (c : Expr) → Completes signs j → CompletesEach signs (λ a. j >>= λ b. give (tree.If place c a b))
    false_each c cj = each-bind signs j (λ a b. give (tree.If place c a b)) (completes-give signs (λ (x : Expr × Expr). tree.If place c x.0 x.1)) cj

    true_each : Completes signs j → CompletesEach signs (λ c. j >>= if_false j place c)
    true_each cj = each-bind signs j (λ c a. if_false j place c a) (all-expect signs (λ t. is_else t.kind) (sample (kind.Word word.Else)) refl (λ (x : Expr × Expr). j >>= λ b. give (tree.If place x.0 x.1 b)) (each-bind signs j (λ (x : Expr × Expr) b. give (tree.If place x.0 x.1 b)) (completes-give signs (λ (y : (Expr × Expr) × Expr). tree.If place y.0.0 y.0.1 y.1)) cj) refl) cj

    false_local : (c a : Expr) → IsLocal signs (j >>= λ b. give (tree.If place c a b))
    false_local c a = local-mapped signs j (tree.If place c a) lj

    true_local : (c : Expr) → IsLocal signs (j >>= if_false j place c)
    true_local c = local-bind signs j (if_false j place c) lj (λ a. careful-test signs (λ t. is_else t.kind) (j >>= λ b. give (tree.If place c a b)) (false_local c a)) (λ a. local-expect signs (λ t. is_else t.kind) (j >>= λ b. give (tree.If place c a b)) (false_local c a))

    choice_local : IsLocal signs (choice j place)
    choice_local = local-bind signs j (if_true j place) lj (λ c. careful-test signs (λ t. is_then t.kind) (j >>= if_false j place c) (true_local c)) (λ c. local-expect signs (λ t. is_then t.kind) (j >>= if_false j place c) (true_local c))

    choice_complete : Completes signs j → Completes signs (choice j place)
    choice_complete cj = completes-bind signs j (if_true j place) (all-expect signs (λ t. is_then t.kind) (sample (kind.Word word.Then)) refl (λ c. j >>= if_false j place c) (true_each cj) refl) cj

    parens_complete : Completes signs (in_parens j place)
    parens_complete r h = (a_close ∷ [], tree.Unit place, refl)

    parens_turn : (t : Token) → IsLocalTurn signs (when (is_close t.kind) (give (tree.Unit place)))
    parens_turn t = local_when signs (give (tree.Unit place)) (local-give signs (tree.Unit place)) (is_close t.kind)

    parens_stays : IsEager signs j → IsCareful signs j → Stays signs (λ t. when (is_close t.kind) (give (tree.Unit place))) (j >>= λ e. must is_close (give e))
    parens_stays ej cj = eagerly (eager-bind signs j (λ e. must is_close (give e)) ej (λ e. local-expect signs closes (give e) (local-give signs e))) (careful-bind signs j (λ e. must is_close (give e)) lj cj (λ e. careful-test signs closes (give e) (local-give signs e)))

    parens_local : IsEager signs j → IsCareful signs j → IsLocal signs (in_parens j place)
    parens_local ej cj = local-or_else signs (λ t. when (is_close t.kind) (give (tree.Unit place))) (j >>= λ e. must is_close (give e)) (local-closed signs closes j (λ e. e) lj) (parens_stays ej cj) parens_turn

-- of the readers of two rooms
module _ (i j : Reader Expr) (ij : IsFine signs i j) (ci : Completes signs i) (cj : Completes signs j) (di : IsCareful signs i) (dj : IsCareful signs j) where
  comma_turn : (t : Token) → IsFineTurn signs t ((others_of i).turn t) ((others_of j).turn t)
  comma_turn t = fine_when signs t i j ij (is_comma t.kind) (λ h. plainly (ap may_open (comma_is t.kind h)) di)

  arguments_fine : {A : Type 0} (f : Exprs → A) → IsFine signs (arguments i f) (arguments j f)
  arguments_fine f = fine-bind signs i j (after_argument i f) (after_argument j f) ij
      (on-skips signs (many (others_of i)) (many (others_of j)) (fine-many signs no_exprs more_exprs (others_of i).turn (others_of j).turn comma_turn (declines_others i ij.local) (declines_others j ij.deeper)) (careful_others i ij.local) (careful_others j ij.deeper)
      (λ e es. must is_close (give (f (more_exprs e es)))) (λ e es. must is_close (give (f (more_exprs e es)))) (on-close signs closes a_close refl refl close_plain (λ (x : Expr × Exprs). f (more_exprs x.0 x.1))) no_exprs (skips_others i ij.local) (skips_others j ij.deeper))

  module _ (place : Place) where
    ends_careful : (c a : Expr) → IsCareful signs (i >>= λ b. give (tree.If place c a b))
    ends_careful c a = careful-bind signs i (λ b. give (tree.If place c a b)) ij.local di (λ b. careful-give signs (tree.If place c a b))

    on_false : (c : Expr) → GoesOn signs (if_false i place c) (if_false j place c)
    on_false c = on-expect signs (λ t. is_else t.kind) (sample (kind.Word word.Else)) refl refl (λ a. i >>= λ b. give (tree.If place c a b)) (λ a. j >>= λ b. give (tree.If place c a b)) (λ a. mapped signs i j (tree.If place c a) ij) (λ a t h. plainly (ap may_open (else_is t.kind h)) (ends_careful c a)) (false_each i ij.local place c ci) (false_each j ij.deeper place c cj)

    on_true : GoesOn signs (if_true i place) (if_true j place)
    on_true = on-expect signs (λ t. is_then t.kind) (sample (kind.Word word.Then)) refl refl (λ c. i >>= if_false i place c) (λ c. j >>= if_false j place c) (λ c. fine-bind signs i j (if_false i place c) (if_false j place c) ij (on_false c)) (λ c t h. plainly (ap may_open (then_is t.kind h)) (careful-bind signs i (if_false i place c) ij.local di (on_false c).careful)) (true_each i ij.local place ci) (true_each j ij.deeper place cj)

    choice_fine : IsFine signs (choice i place) (choice j place)
    choice_fine = fine-bind signs i j (if_true i place) (if_true j place) ij on_true

    parens_fine : IsEager signs i → IsEager signs j → IsFine signs (in_parens i place) (in_parens j place)
    parens_fine ei ej = fine-or_else signs (λ t. when (is_close t.kind) (give (tree.Unit place))) (λ t. when (is_close t.kind) (give (tree.Unit place)))
        (λ t. fine_when signs t (give (tree.Unit place)) (give (tree.Unit place)) (fine-give signs (tree.Unit place)) (is_close t.kind) (λ h. plainly (close_plain t h) (careful-give signs (tree.Unit place))))
        (i >>= λ e. must is_close (give e)) (j >>= λ e. must is_close (give e)) (closed signs closes a_close refl refl close_plain i j (λ e. e) ij)
        (parens_complete i ij.local place) (parens_complete j ij.deeper place) (parens_stays i ij.local place ei di) (parens_stays j ij.deeper place ej dj)

-- what is known of a reader inside an opened level
pub record Known (room : ℕ) (i j : Reader Expr) : Type 0 where
  pub fine : IsFine signs i j
  pub completes : (r : ℕ) → room ≡ suc r → Completes signs i
  pub deeper : Completes signs j
  pub careful : (r : ℕ) → room ≡ suc r → IsCareful signs i
  pub deeper_careful : IsCareful signs j
  pub begins : (r : ℕ) → room ≡ suc r → Begins signs a_truth i
  pub eager : (r : ℕ) → room ≡ suc r → IsEager signs i
  pub deeper_eager : IsEager signs j

module _ (room : ℕ) (i j : Reader Expr) (inner : Known room i j) where
  opened_arguments : {A : Type 0} (f : Exprs → A) → IsFine signs (opened room (arguments i f)) (arguments j f)
  opened_arguments f = fine_opened signs room (arguments i f) (arguments j f) (λ r e. arguments_fine i j inner.fine (inner.completes r e) inner.deeper (inner.careful r e) inner.deeper_careful f) (arguments_local j inner.fine.deeper f) (arguments_complete j inner.fine.deeper f inner.deeper)

  arguments_pass : {A : Type 0} (f : Exprs → A) (t : Token) → Opens t → Passes signs t (opened room (arguments i f))
  arguments_pass f t o = passes_opened signs t room (arguments i f) o.0 o.1 (λ r e. careful-bind signs i (after_argument i f) inner.fine.local (inner.careful r e) (λ x. after_argument_careful i inner.fine.local f x)) (λ r e. arguments_complete i inner.fine.local f (inner.completes r e))

  pub opened_choice : (place : Place) → IsFine signs (opened room (choice i place)) (choice j place)
  opened_choice place = fine_opened signs room (choice i place) (choice j place) (λ r e. choice_fine i j inner.fine (inner.completes r e) inner.deeper (inner.careful r e) inner.deeper_careful place) (choice_local j inner.fine.deeper place) (choice_complete j inner.fine.deeper place inner.deeper)

  pub choice_pass : (place : Place) (t : Token) → Opens t → Passes signs t (opened room (choice i place))
  choice_pass place t o = passes_opened signs t room (choice i place) o.0 o.1 (λ r e. careful-bind signs i (if_true i place) inner.fine.local (inner.careful r e) (λ c. careful-test signs (λ t. is_then t.kind) (i >>= if_false i place c) (true_local i inner.fine.local place c))) (λ r e. choice_complete i inner.fine.local place (inner.completes r e))

  opened_parens : (place : Place) → IsFine signs (opened room (in_parens i place)) (in_parens j place)
  opened_parens place = fine_opened signs room (in_parens i place) (in_parens j place) (λ r e. parens_fine i j inner.fine (inner.completes r e) inner.deeper (inner.careful r e) inner.deeper_careful place (inner.eager r e) inner.deeper_eager) (parens_local j inner.fine.deeper place inner.deeper_eager inner.deeper_careful) (parens_complete j inner.fine.deeper place)

  parens_pass : (place : Place) (t : Token) → Opens t → Passes signs t (opened room (in_parens i place))
  parens_pass place t o = passes_opened signs t room (in_parens i place) o.0 o.1 (λ r e. careful-or_else signs (λ t. when (is_close t.kind) (give (tree.Unit place))) (parens_turn i inner.fine.local place) (i >>= λ e. must is_close (give e)) (careful-bind signs i (λ e. must is_close (give e)) inner.fine.local (inner.careful r e) (λ e. careful-test signs closes (give e) (local-give signs e)))) (λ r e. parens_complete i inner.fine.local place)

  -- names
  typed_turn : (t : Token) (place : Place) → Opens t → (o : Option TypedWord) → IsFineTurn signs t (option_map (typed room (type_in room) place) o) (option_map (typed (suc room) (type_in (suc room)) place) o)
  typed_turn t place o None = tt
  typed_turn t place o (Some typed_word.Nil) = (type_brackets room (tree.Nil place), type_brackets_pass room (tree.Nil place) t o)
  typed_turn t place o (Some typed_word.None) = (type_brackets room (tree.None place), type_brackets_pass room (tree.None place) t o)

  call_opens : (t : Token) → opens_call t.kind t.first ≡ true → Opens t
  call_opens t h = opens_as t (kind.Symbol symbol.Open) (call_is t.kind t.first h).0 refl refl

  abbrev opening_at : Token → Bool
  opening_at t = opens_call t.kind t.first

  member_fine : (place : Place) (m : Member) → IsFine signs (member_after room (type_in room) i place m) (member_after (suc room) (type_in (suc room)) j place m)
  member_fine place (member.Called o) = fine-expect signs opening_at (sample (kind.Symbol symbol.Open)) refl (opened room (arguments i (tree.CallDotted place o))) (arguments j (tree.CallDotted place o)) (opened_arguments (tree.CallDotted place o)) (λ t h. arguments_pass (tree.CallDotted place o) t (call_opens t h)) (arguments_complete j inner.fine.deeper (tree.CallDotted place o) inner.deeper)
  member_fine place (member.Empty g) = empty_fine room g place

  member_careful : (place : Place) (m : Member) → IsCareful signs (member_after room (type_in room) i place m)
  member_careful place (member.Called o) = careful-test signs opening_at (opened room (arguments i (tree.CallDotted place o))) (opened_arguments (tree.CallDotted place o)).local
  member_careful place (member.Empty g) = empty_careful room g place

  member_turn : (t : Token) (place : Place) → may_open t.kind ≡ false → (o : Option Member) → IsFineTurn signs t (option_map (member_after room (type_in room) i place) o) (option_map (member_after (suc room) (type_in (suc room)) j place) o)
  member_turn t place plain None = tt
  member_turn t place plain (Some m) = (member_fine place m, plainly plain (member_careful place m))

  at_member_turn : (t : Token) (place : Place) (f : Family) (k : TokenKind) → t.kind ≡ k → IsFineTurn signs t (at_member room (type_in room) i place f k) (at_member (suc room) (type_in (suc room)) j place f k)
  at_member_turn t place f (kind.Name n) e = member_turn t place (ap may_open e) (member_of f n)
  at_member_turn t place f (kind.Number n) e = tt
  at_member_turn t place f (kind.Text n) e = tt
  at_member_turn t place f (kind.Word w) e = tt
  at_member_turn t place f (kind.Symbol s) e = tt

  -- each family has a function of this name
  a_member_complete : (place : Place) (f : Family) → Completes signs (a_member (suc room) (type_in (suc room)) j place f)
  unfolding member_of dotted_of
  a_member_complete place (family.Of aggregate_kind.Set) r h = let c = arguments_complete j inner.fine.deeper (tree.CallDotted place dotted.SetSize) inner.deeper r h in (sample (kind.Name (codes "size")) ∷ sample (kind.Symbol symbol.Open) ∷ c.0, c.1, c.2)
  a_member_complete place (family.Of aggregate_kind.Map) r h = let c = arguments_complete j inner.fine.deeper (tree.CallDotted place dotted.MapSize) inner.deeper r h in (sample (kind.Name (codes "size")) ∷ sample (kind.Symbol symbol.Open) ∷ c.0, c.1, c.2)
  a_member_complete place (family.Of aggregate_kind.Queue) r h = let c = arguments_complete j inner.fine.deeper (tree.CallDotted place dotted.QueueSize) inner.deeper r h in (sample (kind.Name (codes "size")) ∷ sample (kind.Symbol symbol.Open) ∷ c.0, c.1, c.2)
  a_member_complete place family.Text r h = let c = arguments_complete j inner.fine.deeper (tree.CallDotted place dotted.StringSize) inner.deeper r h in (sample (kind.Name (codes "size")) ∷ sample (kind.Symbol symbol.Open) ∷ c.0, c.1, c.2)

  a_member_fine : (place : Place) (f : Family) → IsFine signs (a_member room (type_in room) i place f) (a_member (suc room) (type_in (suc room)) j place f)
  a_member_fine place f = fine-take_by signs (λ t. at_member room (type_in room) i place f t.kind) (λ t. at_member (suc room) (type_in (suc room)) j place f t.kind) (λ t. at_member_turn t place f t.kind refl) (a_member_complete place f)

  a_member_careful : (place : Place) (f : Family) → IsCareful signs (a_member room (type_in room) i place f)
  a_member_careful place f = careful-turns signs (λ t. at_member room (type_in room) i place f t.kind) (λ t. at_member (suc room) (type_in (suc room)) j place f t.kind) (λ t. at_member_turn t place f t.kind refl)

  dot_turn : (t : Token) (place : Place) → may_open t.kind ≡ false → (o : Option Family) → IsFineTurn signs t (option_map (a_member room (type_in room) i place) o) (option_map (a_member (suc room) (type_in (suc room)) j place) o)
  dot_turn t place plain None = tt
  dot_turn t place plain (Some f) = (a_member_fine place f, plainly plain (a_member_careful place f))

  name_turn : (t : Token) (place : Place) (n : List ℕ) (k : TokenKind) → t.kind ≡ k → IsFineTurn signs t (after_name room (type_in room) i place n k t.first) (after_name (suc room) (type_in (suc room)) j place n k t.first)
  name_turn t place n (kind.Symbol symbol.Open) e = fine_when signs t (opened room (arguments i (tree.Call place n))) (arguments j (tree.Call place n)) (opened_arguments (tree.Call place n)) (not t.first) (λ h. arguments_pass (tree.Call place n) t (opens_as t (kind.Symbol symbol.Open) e refl refl))
  name_turn t place n (kind.Symbol symbol.OpenBracket) e = typed_turn t place (opens_as t (kind.Symbol symbol.OpenBracket) e refl refl) (typed_word_of n)
  name_turn t place n (kind.Symbol symbol.Dot) e = dot_turn t place (ap may_open e) (family_of n)
  name_turn t place n _ e = tt

  name_declines : (types : Reader TypeName) (x : Reader Expr) (room : ℕ) (place : Place) (n : List ℕ) (k : TokenKind) (first : Bool) → ends k ≡ true → after_name room types x place n k first ≡ None
  name_declines types x room place n (kind.Symbol symbol.Open) first h = cc
  name_declines types x room place n (kind.Symbol symbol.OpenBracket) first h = cc
  name_declines types x room place n (kind.Symbol symbol.Dot) first h = cc
  name_declines types x room place n (kind.Symbol _) first h = refl
  name_declines types x room place n (kind.Word w) first h = refl
  name_declines types x room place n (kind.Name m) first h = refl
  name_declines types x room place n (kind.Number m) first h = refl
  name_declines types x room place n (kind.Text m) first h = refl

  called_fine : (place : Place) (n : List ℕ) → IsFine signs (name_or_call room (type_in room) i place n) (name_or_call (suc room) (type_in (suc room)) j place n)
  called_fine place n = fine-if_next signs (λ t. after_name room (type_in room) i place n t.kind t.first) (λ t. after_name (suc room) (type_in (suc room)) j place n t.kind t.first) (λ t. name_turn t place n t.kind refl) (λ t h. name_declines (type_in room) i room place n t.kind t.first h) (λ t h. name_declines (type_in (suc room)) j (suc room) place n t.kind t.first h) (tree.Name place n)

  called_careful : (place : Place) (n : List ℕ) → IsCareful signs (name_or_call room (type_in room) i place n)
  called_careful place n = careful-may signs (λ t. after_name room (type_in room) i place n t.kind t.first) (λ t. after_name (suc room) (type_in (suc room)) j place n t.kind t.first) (λ t. name_turn t place n t.kind refl) (tree.Name place n)

-- prefix operators
module _ (room : ℕ) (p q : Reader Expr) (operand : Known room p q) where
  module _ (h : Expr → Expr) where
    opened_prefix : IsFine signs (opened room (p >>= λ e. give (h e))) (q >>= λ e. give (h e))
    opened_prefix = fine_opened signs room (p >>= λ e. give (h e)) (q >>= λ e. give (h e)) (λ r e. mapped signs p q h operand.fine) (local-mapped signs q h operand.fine.deeper) (completes-bind signs q (λ e. give (h e)) (completes-give signs h) operand.deeper)

    prefix_pass : (t : Token) → Opens t → Passes signs t (opened room (p >>= λ e. give (h e)))
    prefix_pass t o = passes_opened signs t room (p >>= λ e. give (h e)) o.0 o.1 (λ r e. careful-bind signs p (λ e. give (h e)) operand.fine.local (operand.careful r e) (λ e. careful-give signs (h e))) (λ r e. completes-bind signs p (λ e. give (h e)) (completes-give signs h) (operand.completes r e))

  number_turn : (t : Token) (place : Place) (k : TokenKind) → t.kind ≡ k → IsFineTurn signs t (at_number place k) (at_number place k)
  number_turn t place (kind.Number n) e = (fine-give signs (tree.Negative place n), plainly (ap may_open e) (careful-give signs (tree.Negative place n)))
  number_turn t place (kind.Name n) e = tt
  number_turn t place (kind.Text n) e = tt
  number_turn t place (kind.Word w) e = tt
  number_turn t place (kind.Symbol s) e = tt

  number_declines : (place : Place) (k : TokenKind) → ends k ≡ true → at_number place k ≡ None
  number_declines place (kind.Number n) h = cc
  number_declines place (kind.Name n) h = refl
  number_declines place (kind.Text n) h = refl
  number_declines place (kind.Word w) h = refl
  number_declines place (kind.Symbol s) h = refl

  number_calm : (place : Place) (k : TokenKind) → is_number k ≡ false → at_number place k ≡ None
  number_calm place (kind.Number n) h = cc
  number_calm place (kind.Name n) h = refl
  number_calm place (kind.Text n) h = refl
  number_calm place (kind.Word w) h = refl
  number_calm place (kind.Symbol s) h = refl

  number_none : (place : Place) (k : TokenKind) → at_number place k ≡ None → is_number k ≡ false
  number_none place (kind.Number n) h = cc
  number_none place (kind.Name n) h = refl
  number_none place (kind.Text n) h = refl
  number_none place (kind.Word w) h = refl
  number_none place (kind.Symbol s) h = refl

  number_stays : (place : Place) (x : Reader Expr) → Stays signs (λ t. at_number place t.kind) x
  number_stays place x = calmly (λ t. number_declines place t.kind) (λ t. number_calm place t.kind) (λ t. number_none place t.kind)

  negated_complete : (room : ℕ) (x : Reader Expr) (place : Place) → Completes signs (negated room x place)
  negated_complete room x place r h = (sample (kind.Number 0) ∷ [], tree.Negative place 0, refl)

  negated_fine : (place : Place) → IsFine signs (negated room p place) (negated (suc room) q place)
  negated_fine place = fine-or_else signs (λ t. at_number place t.kind) (λ t. at_number place t.kind) (λ t. number_turn t place t.kind refl) (opened room (p >>= λ e. give (tree.Negate place e))) (q >>= λ e. give (tree.Negate place e)) (opened_prefix (tree.Negate place)) (negated_complete room p place) (negated_complete (suc room) q place) (number_stays place (opened room (p >>= λ e. give (tree.Negate place e)))) (number_stays place (q >>= λ e. give (tree.Negate place e)))

  -- a minus at the last level is too deep, but before a number
  module _ (t : Token) (is : t.kind ≡ kind.Symbol symbol.Minus) where
    bars_is : (ts : List Token) → opens_level t ts ≡ not (is_number_next ts)
    bars_is ts = λ i. may_open (is i) && not (is_minus (is i) && is_number_next ts)

    negated_careful : (r : ℕ) → room ≡ suc r → IsCareful signs (opened room (p >>= λ e. give (tree.Negate t.place e))) → IsCareful signs (negated room p t.place)
    negated_careful r e c = careful-or_else signs (λ u. at_number t.place u.kind) (λ u. turn_local signs u (at_number t.place u.kind) (at_number t.place u.kind) (number_turn u t.place u.kind refl)) (opened room (p >>= λ e. give (tree.Negate t.place e))) c

    opened_careful : (n : ℕ) (r : ℕ) → n ≡ suc r → IsCareful signs (p >>= λ e. give (tree.Negate t.place e)) → IsCareful signs (opened n (p >>= λ e. give (tree.Negate t.place e)))
    opened_careful zero r e c = absurd (no_room r e)
    opened_careful (suc n) r e c = c

    not_at_number : (ts : List Token) → is_number_next ts ≡ false → negated 0 p t.place ts ≡ refuse TooDeep ts
    not_at_number [] h = refl
    not_at_number (u ∷ ts) h = λ k. chosen (number_calm t.place u.kind h k) (refuse TooDeep) u ts

    at_number_careful : (ts : List Token) → is_number_next ts ≡ true → CarefulAt signs ts (negated 0 p t.place ts)
    at_number_careful [] h = cc
    at_number_careful (u ∷ ts) h = by u.kind h
      where
        by : (k : TokenKind) → is_number k ≡ true → CarefulAt signs (u ∷ ts) (chosen (at_number t.place k) (refuse TooDeep) u ts)
        by (kind.Number n) h = tt
        by (kind.Name n) h = cc
        by (kind.Text n) h = cc
        by (kind.Word n) h = cc
        by (kind.Symbol n) h = cc

    not_not : (b : Bool) → not b ≡ true → b ≡ false
    not_not true h = cc
    not_not false h = refl

    not_false : (b : Bool) → not b ≡ false → b ≡ true
    not_false true h = refl
    not_false false h = cc

    -- a word may stand after a minus that opens a level
    negated_begun : (r : ℕ) → Begins signs a_truth p → CompletesAt signs t (negated (suc r) p t.place)
    negated_begun r b k h = let x = b k h in (a_truth ∷ [], tree.Negate t.place x.0, ap (λ q. and_then q (λ e. give (tree.Negate t.place e))) x.1, inr refl)

    pass_at : (n : ℕ) → room ≡ n → Passes signs t (negated n p t.place)
    pass_at zero e = unless (ap may_open is) (negated_complete 0 p t.place) (λ ts h. not_at_number ts (not_not (is_number_next ts) (sym (bars_is ts) ∙ h))) (λ ts h. at_number_careful ts (not_false (is_number_next ts) (sym (bars_is ts) ∙ h)))
    pass_at (suc r) e = opening (ap may_open is) (subst (λ n. IsCareful signs (negated n p t.place)) e (negated_careful r e (opened_careful room r e (careful-bind signs p (λ e. give (tree.Negate t.place e)) operand.fine.local (operand.careful r e) (λ e. careful-give signs (tree.Negate t.place e)))))) (negated_begun r (operand.begins r e))

    negated_pass : Passes signs t (negated room p t.place)
    negated_pass = pass_at room refl

  module _ (i j : Reader Expr) (inner : Known room i j) where
    unary_turn : (t : Token) (k : TokenKind) → t.kind ≡ k → IsFineTurn signs t (at_unary room (type_in room) i p k t.place) (at_unary (suc room) (type_in (suc room)) j q k t.place)
    unary_turn t (kind.Number n) e = (fine-give signs (tree.Number t.place n), plainly (ap may_open e) (careful-give signs (tree.Number t.place n)))
    unary_turn t (kind.Text n) e = (fine-give signs (tree.Text t.place n), plainly (ap may_open e) (careful-give signs (tree.Text t.place n)))
    unary_turn t (kind.Word word.True) e = (fine-give signs (tree.Boolean t.place true), plainly (ap may_open e) (careful-give signs (tree.Boolean t.place true)))
    unary_turn t (kind.Word word.False) e = (fine-give signs (tree.Boolean t.place false), plainly (ap may_open e) (careful-give signs (tree.Boolean t.place false)))
    unary_turn t (kind.Name n) e = (called_fine room i j inner t.place n, plainly (ap may_open e) (called_careful room i j inner t.place n))
    unary_turn t (kind.Symbol symbol.Open) e = (opened_parens room i j inner t.place, parens_pass room i j inner t.place t (opens_as t (kind.Symbol symbol.Open) e refl refl))
    unary_turn t (kind.Symbol symbol.Minus) e = (negated_fine t.place, negated_pass t e)
    unary_turn t (kind.Symbol symbol.Not) e = (opened_prefix (tree.Not t.place), prefix_pass (tree.Not t.place) t (opens_as t (kind.Symbol symbol.Not) e refl refl))
    unary_turn t _ e = tt

    abbrev turn_at : Token → Option (Reader Expr)
    turn_at t = at_unary room (type_in room) i p t.kind t.place

    abbrev turn_deep : Token → Option (Reader Expr)
    turn_deep t = at_unary (suc room) (type_in (suc room)) j q t.kind t.place

    pub unary_begins : Begins signs a_truth (unary room (type_in room) i p)
    unary_begins r h = (tree.Boolean start true, refl)

    pub unary_deeper : Begins signs a_truth (unary (suc room) (type_in (suc room)) j q)
    unary_deeper r h = (tree.Boolean start true, refl)

    pub unary_fine : IsFine signs (unary room (type_in room) i p) (unary (suc room) (type_in (suc room)) j q)
    unary_fine = fine-take_by signs turn_at turn_deep (λ t. unary_turn t t.kind refl) (completes-begins signs a_truth (unary (suc room) (type_in (suc room)) j q) unary_deeper)

    pub unary_careful : IsCareful signs (unary room (type_in room) i p)
    unary_careful = careful-turns signs turn_at turn_deep (λ t. unary_turn t t.kind refl)

    pub unary_deeper_careful : IsCareful signs (unary (suc room) (type_in (suc room)) j q)
    unary_deeper_careful = careful-deeper signs turn_at turn_deep (λ t. unary_turn t t.kind refl)

    pub unary_eager : IsEager signs (unary room (type_in room) i p)
    unary_eager = eager-take_by signs turn_at (λ t. turn_local signs t (turn_at t) (turn_deep t) (unary_turn t t.kind refl))

    pub unary_deeper_eager : IsEager signs (unary (suc room) (type_in (suc room)) j q)
    unary_deeper_eager = eager-take_by signs turn_deep (λ t. turn_deeper signs t (turn_at t) (turn_deep t) (unary_turn t t.kind refl))
