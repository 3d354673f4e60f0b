-- The marks of what fits are printable.
use Rattle.std.proofs.Common.{◌≡◌, ℕ, Bool, true, false, ◌&&◌, List, [], ◌∷◌, ◌++◌, length, Option, Some, None, is_none, refl, sym, subst, lit≤}
use Rattle.std.specs.Prelude.{leb}
use Rattle.std.specs.List.{list_all}
use Rattle.std.specs.Char.{is_ascii_alphabetic}
use Rattle.std.proofs.lemmas.Bool.{and_parts, false≢true, leb-true}
use Rattle.spec_lexer.specs.declared.limits.TheConstants.{MOST_NAME_BYTES}
use Rattle.spec_lexer.specs.declared.token.TokenKind.TheVariants as kind
use Rattle.spec_lexer.specs.declared.token.Word.{Word}
use Rattle.spec_lexer.specs.declared.token.Word.TheVariants as word
use Rattle.spec_lexer.specs.declared.token.Symbol.{Symbol}
use Rattle.spec_lexer.specs.declared.token.Symbol.TheVariants as symbol
use Rattle.syntax_tree.specs.declared.tree.Level.{Level}
use Rattle.spec_lexer.specs.Found.{word_of}
use Rattle.vocabulary.specs.declared.kind.Kind.{Kind}
use Rattle.vocabulary.specs.declared.kind.Kind.TheVariants as aggregate_kind
use Rattle.vocabulary.specs.declared.dotted.Family.{Family}
use Rattle.vocabulary.specs.declared.dotted.Family.TheVariants as family
use Rattle.vocabulary.specs.declared.dotted.Dotted.{Dotted}
use Rattle.vocabulary.specs.Kinds.{kind_name}
use Rattle.vocabulary.specs.Table.{family_name, family_in, member_name}
use Rattle.vocabulary.proofs.Listed.{all_true}
use Rattle.syntax_tree.specs.Tree as tree
use Rattle.syntax_tree.specs.Tree.{TypeName, Aggregate, kind_in, Expr, Exprs, Links, Param, Body, Definition, Definitions, Item}
use Rattle.spec_printer.specs.inner.Marks as mark
use Rattle.spec_printer.specs.inner.Marks.{Mark, line_end}
use Rattle.spec_printer.specs.inner.Print.{truth_word, type_marks, aggregate_marks, bracketed, both_bracketed, enclosed, operand_marks, expr_marks, expr_marks_after, link_marks, least_operand, param_marks, param_marks_after, params_marks, written_marks, head_marks, body_marks, definition_marks, definitions_marks, item_marks, items_marks}
use Rattle.spec_printer.proofs.Printable.{Printable, word_printable, symbol_printable, known_printable}
use Rattle.spec_printer.proofs.Lexing.{ArePrintable, printable-append}
use Rattle.spec_printer.proofs.Fits as fits
use Rattle.spec_printer.proofs.Fits.{Fits, FitsAt, FitExprs, FitLinks, FitsParam, FitParams, MayFitParams, MayFitType, FitsBody, FitDefinitions, FitsItem, FitItems}

-- a name of some letters that is no word
abbrev is_known : List ℕ → Bool
is_known [] = false
is_known (c ∷ cs) = list_all is_ascii_alphabetic (c ∷ cs) && (is_none (word_of (c ∷ cs)) && leb (length (c ∷ cs)) MOST_NAME_BYTES)

no_word : (o : Option Word) → is_none o ≡ true → o ≡ None
no_word None h = refl
no_word (Some w) h = absurd (false≢true h)

known : (n : List ℕ) → is_known n ≡ true → Printable (kind.Name n)
known [] h = absurd (false≢true h)
known (c ∷ cs) h =
    let letters = and_parts (list_all is_ascii_alphabetic (c ∷ cs)) (is_none (word_of (c ∷ cs)) && leb (length (c ∷ cs)) MOST_NAME_BYTES) h in
    let others = and_parts (is_none (word_of (c ∷ cs))) (leb (length (c ∷ cs)) MOST_NAME_BYTES) letters.1 in
    known_printable c cs letters.0 (no_word (word_of (c ∷ cs)) others.0) (leb-true (length (c ∷ cs)) MOST_NAME_BYTES others.1)

kind_known : (g : Kind) → is_known (kind_name g) ≡ true
kind_known aggregate_kind.Set = refl
kind_known g = refl

kind_printable : (g : Kind) → Printable (kind.Name (kind_name g))
kind_printable g = known (kind_name g) (kind_known g)

family_printable : (f : Family) → Printable (kind.Name (family_name f))
family_printable (family.Of g) = kind_printable g
family_printable family.Text = known_printable _ _ refl refl (lit≤ tt)

member_printable : (d : Dotted) → Printable (kind.Name (member_name d))
member_printable d = known (member_name d) (all_true (λ d. is_known (member_name d)) refl d)

before_symbol : (ms : List Mark) (s : Symbol) → ArePrintable ms → ArePrintable (ms ++ (mark.symbol s ∷ []))
before_symbol ms s h = printable-append ms (mark.symbol s ∷ []) h (symbol_printable s, tt)

one_marked : (y : TypeName) → ArePrintable (type_marks y) → ArePrintable (bracketed y)
one_marked y h = (symbol_printable symbol.OpenBracket, before_symbol (type_marks y) symbol.CloseBracket h)

two_marked : (x y : TypeName) → ArePrintable (type_marks x) → ArePrintable (type_marks y) → ArePrintable (both_bracketed x y)
two_marked x y h k =
    (symbol_printable symbol.OpenBracket, printable-append (type_marks x) (mark.symbol symbol.Comma ∷ (type_marks y ++ (mark.symbol symbol.CloseBracket ∷ []))) h (symbol_printable symbol.Comma, before_symbol (type_marks y) symbol.CloseBracket k))

mutual
  type_printable : (y : TypeName) → ArePrintable (type_marks y)
  type_printable (tree.UnitType p) = (known_printable _ _ refl refl (lit≤ tt), tt)
  type_printable (tree.IntType p) = (known_printable _ _ refl refl (lit≤ tt), tt)
  type_printable (tree.BoolType p) = (known_printable _ _ refl refl (lit≤ tt), tt)
  type_printable (tree.TextType p) = (known_printable _ _ refl refl (lit≤ tt), tt)
  type_printable (tree.AggregateType p a) = (kind_printable (kind_in a), aggregate_printable a)
  type_printable (tree.OptionType p y) = (known_printable _ _ refl refl (lit≤ tt), one_marked y (type_printable y))
  type_printable (tree.EventsType p y) = (known_printable _ _ refl refl (lit≤ tt), one_marked y (type_printable y))

  aggregate_printable : (a : Aggregate) → ArePrintable (aggregate_marks a)
  aggregate_printable (tree.SetOf y) = one_marked y (type_printable y)
  aggregate_printable (tree.MapOf x y) = two_marked x y (type_printable x) (type_printable y)
  aggregate_printable (tree.QueueOf y) = one_marked y (type_printable y)

one_printable : (y : TypeName) → ArePrintable (bracketed y)
one_printable y = one_marked y (type_printable y)

mutual
  expr_printable : {room : ℕ} {e : Expr} → Fits room e → ArePrintable (expr_marks e)
  expr_printable (fits.choice {c = c} {a = a} {b = b} f g h) = (
    word_printable word.If,
    printable-append (expr_marks c) (mark.word word.Then ∷ (expr_marks a ++ (mark.word word.Else ∷ expr_marks b))) (expr_printable f)
        (word_printable word.Then, printable-append (expr_marks a) (mark.word word.Else ∷ expr_marks b) (expr_printable g) (word_printable word.Else, expr_printable h)),
  )
  expr_printable (fits.chain {l = l} {e = e} {f = f} {o = o} {ls = ls} h links) =
      printable-append (operand_marks (least_operand l) e) (link_marks (least_operand l) (tree.more_links o f ls)) (operand_printable h) (links_printable links)
  expr_printable (fits.comparison {a = a} {b = b} f g) =
      printable-append (operand_marks 4 a) (_ ∷ operand_marks 4 b) (operand_printable f) (symbol_printable _, operand_printable g)
  expr_printable (fits.negate f) = (symbol_printable symbol.Minus, operand_printable f)
  expr_printable (fits.negation f) = (symbol_printable symbol.Not, operand_printable f)
  expr_printable (fits.number p) = (p, tt)
  expr_printable (fits.negative p) = (symbol_printable symbol.Minus, (p, tt))
  expr_printable (fits.text p) = (p, tt)
  expr_printable (fits.boolean {b = b}) = (word_printable (truth_word b), tt)
  expr_printable fits.nothing = (symbol_printable symbol.Open, (symbol_printable symbol.Close, tt))
  expr_printable (fits.name p) = (p, tt)
  expr_printable (fits.call {e = e} {es = es} p f g) = (
    p,
    before_symbol (expr_marks_after symbol.Open (tree.more_exprs e es)) symbol.Close
        (symbol_printable symbol.Open, printable-append (expr_marks e) (expr_marks_after symbol.Comma es) (expr_printable f) (others_printable g)),
  )
  expr_printable (fits.call_dotted {d = d} {e = e} {es = es} f g) = (
    family_printable (family_in d),
    (
      symbol_printable symbol.Dot,
      (
        member_printable d,
        before_symbol (expr_marks_after symbol.Open (tree.more_exprs e es)) symbol.Close
            (symbol_printable symbol.Open, printable-append (expr_marks e) (expr_marks_after symbol.Comma es) (expr_printable f) (others_printable g)),
      ),
    ),
  )
  expr_printable (fits.nil {y = y} f) = (known_printable _ _ refl refl (lit≤ tt), one_printable y)
  expr_printable (fits.none {y = y} f) = (known_printable _ _ refl refl (lit≤ tt), one_printable y)
  expr_printable (fits.empty {a = a} f) = (kind_printable (kind_in a), (symbol_printable symbol.Dot, (known_printable _ _ refl refl (lit≤ tt), aggregate_printable a)))

  operand_printable : {least room : ℕ} {e : Expr} → FitsAt least room e → ArePrintable (operand_marks least e)
  operand_printable (fits.as_it_is {e = e} h f) = subst (λ b. ArePrintable (enclosed b (expr_marks e))) (sym h) (expr_printable f)
  operand_printable (fits.enclosed {e = e} h f) =
      subst (λ b. ArePrintable (enclosed b (expr_marks e))) (sym h) (symbol_printable symbol.Open, before_symbol (expr_marks e) symbol.Close (expr_printable f))

  others_printable : {room : ℕ} {es : Exprs} → FitExprs room es → ArePrintable (expr_marks_after symbol.Comma es)
  others_printable fits.no_expr = tt
  others_printable (fits.one_expr {e = e} {es = es} f g) =
      (symbol_printable symbol.Comma, printable-append (expr_marks e) (expr_marks_after symbol.Comma es) (expr_printable f) (others_printable g))

  links_printable : {l : Level} {room : ℕ} {ls : Links} → FitLinks l room ls → ArePrintable (link_marks (least_operand l) ls)
  links_printable fits.no_link = tt
  links_printable (fits.one_link {l = l} {e = e} {ls = ls} is f g) =
      (symbol_printable _, printable-append (operand_marks (least_operand l) e) (link_marks (least_operand l) ls) (operand_printable f) (links_printable g))

param_printable : {room : ℕ} {p : Param} → FitsParam room p → ArePrintable (param_marks p)
param_printable (fits.param {p = p} h y) = (h, (symbol_printable symbol.Colon, type_printable p.of))

other_params_printable : {room : ℕ} {ps : List Param} → FitParams room ps → ArePrintable (param_marks_after symbol.Comma ps)
other_params_printable fits.no_param = tt
other_params_printable (fits.one_param {p = p} {ps = ps} f g) =
    (symbol_printable symbol.Comma, printable-append (param_marks p) (param_marks_after symbol.Comma ps) (param_printable f) (other_params_printable g))

params_printable : {room : ℕ} {ps : List Param} → MayFitParams room ps → ArePrintable (params_marks ps)
params_printable fits.without_params = tt
params_printable (fits.with_params {p = p} {ps = ps} f g) =
    before_symbol (param_marks_after symbol.Open (p ∷ ps)) symbol.Close
    (symbol_printable symbol.Open, printable-append (param_marks p) (param_marks_after symbol.Comma ps) (param_printable f) (other_params_printable g))

written_printable : (w : Option TypeName) → ArePrintable (written_marks w)
written_printable None = tt
written_printable (Some y) = (symbol_printable symbol.Colon, type_printable y)

head_printable : {room : ℕ} (n : List ℕ) (ps : List Param) (w : Option TypeName) → Printable (kind.Name n) → MayFitParams room ps → ArePrintable (head_marks n ps w)
head_printable n ps w h f = (word_printable word.Def, (h, printable-append (params_marks ps) (written_marks w ++ (mark.symbol symbol.Define ∷ [])) (params_printable f) (before_symbol (written_marks w) symbol.Define (written_printable w))))

definition_printable : {room : ℕ} (n : List ℕ) (ps : List Param) (w : Option TypeName) (b : Body) → Printable (kind.Name n) → MayFitParams room ps → ArePrintable (body_marks b) → ArePrintable (head_marks n ps w ++ body_marks b)
definition_printable n ps w b h f g = printable-append (head_marks n ps w) (body_marks b) (head_printable n ps w h f) g

mutual
  body_printable : {room : ℕ} {b : Body} → FitsBody room b → ArePrintable (body_marks b)
  body_printable (fits.plain f) = expr_printable f
  body_printable (fits.block {ds = ds} {e = e} fs f) = (symbol_printable symbol.OpenBrace, printable-append (definitions_marks ds) (expr_marks e ++ (mark.symbol symbol.CloseBrace ∷ [])) (definitions_printable fs) (before_symbol (expr_marks e) symbol.CloseBrace (expr_printable f)))

  definitions_printable : {room : ℕ} {ds : Definitions} → FitDefinitions room ds → ArePrintable (definitions_marks ds)
  definitions_printable fits.no_definition = tt
  definitions_printable (fits.one_definition {room = room} {p = p} {n = n} {w = w} {b = b} {ds = ds} h t f fs) =
      printable-append (definition_marks (tree.Define p n [] w b)) (line_end ∷ definitions_marks ds) (definition_printable {room = room} n [] w b h fits.without_params (body_printable f)) (definitions_printable fs)

item_printable : {room : ℕ} {i : Item} → FitsItem room i → ArePrintable (item_marks i)
item_printable (fits.input {y = y} h f) = (word_printable word.In, (h, (symbol_printable symbol.Colon, type_printable y)))
item_printable (fits.definition {n = n} {ps = ps} {w = w} {b = b} h f t g) = definition_printable n ps w b h f (body_printable g)
item_printable (fits.output h) = (word_printable word.Out, (h, tt))
item_printable (fits.output_as {n = n} {e = e} h f) =
    (word_printable word.Out, printable-append (expr_marks e) (mark.word word.As ∷ (mark.named n ∷ [])) (expr_printable f) (word_printable word.As, (h, tt)))

pub items_printable : {room : ℕ} {items : List Item} → FitItems room items → ArePrintable (items_marks items)
items_printable fits.no_item = tt
items_printable (fits.one_item {i = i} {is = is} f fs) =
    printable-append (item_marks i ++ (line_end ∷ [])) (items_marks is) (printable-append (item_marks i) (line_end ∷ []) (item_printable f) tt) (items_printable fs)
