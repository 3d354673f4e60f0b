-- Lists of which one more is printed.
use Rattle.std.proofs.Common.{◌≡◌, ℕ, ◌+◌, ◌<◌, List, [], ◌∷◌, ◌++◌, length, take, get_or, refl, sym, ap, ◌∙◌, append_assoc, arith}
use Rattle.std.proofs.lemmas.List.{take_more, map-append}
use Rattle.std.proofs.lemmas.List.{append-nil}
use Rattle.spec_lexer.specs.declared.token.Symbol.{Symbol}
use Rattle.spec_lexer.specs.declared.token.Symbol.TheVariants as symbol
use Rattle.syntax_tree.specs.Tree as tree
use Rattle.syntax_tree.specs.Tree.{Expr}
use Rattle.syntax_tree.specs.declared.tree.Link.{Link}
use Rattle.syntax_tree.specs.declared.tree.Param.{Param}
use Rattle.syntax_tree.specs.inner.OneLevel.{exprs_of, links_in, param_of, params_in, definitions_of}
use Rattle.spec_printer.specs.inner.Marks as mark
use Rattle.spec_printer.specs.inner.Marks.{line_end, text_of}
use Rattle.spec_printer.proofs.Joined.{after}
use Rattle.spec_printer.specs.inner.Print.{operator_symbol, expr_marks, expr_marks_after, operand_marks, link_marks, param_marks, param_marks_after, params_marks, definition_marks, definitions_marks}

-- what stands before the next of a list
abbrev pub separator : {A : Type 0} → Symbol → List A → Symbol
separator s [] = s
separator s (x ∷ xs) = symbol.Comma

commas : {A : Type 0} (xs : List A) → separator symbol.Comma xs ≡ symbol.Comma
commas [] = refl
commas (x ∷ xs) = refl

pub separator_more : {A : Type 0} (s : Symbol) (xs : List A) (x : A) → separator s (xs ++ x ∷ []) ≡ symbol.Comma
separator_more s [] x = refl
separator_more s (y ∷ ys) x = refl

pub arguments_more : (s : Symbol) (es : List Expr) (e : Expr) → expr_marks_after s (exprs_of (es ++ e ∷ [])) ≡ expr_marks_after s (exprs_of es) ++ (mark.symbol (separator s es) ∷ expr_marks e)
arguments_more s [] e = ap (λ l. mark.symbol s ∷ l) (append-nil (expr_marks e))
arguments_more s (x ∷ xs) e =
    ap (λ l. mark.symbol s ∷ (expr_marks x ++ l)) (arguments_more symbol.Comma xs e ∙ ap (λ c. expr_marks_after symbol.Comma (exprs_of xs) ++ (mark.symbol c ∷ expr_marks e)) (commas xs))
    ∙ ap (λ l. mark.symbol s ∷ l) (sym (append_assoc (expr_marks x) (expr_marks_after symbol.Comma (exprs_of xs)) (mark.symbol symbol.Comma ∷ expr_marks e)))

pub params_more : (s : Symbol) (ps : List tree.Param) (p : tree.Param) → param_marks_after s (ps ++ p ∷ []) ≡ param_marks_after s ps ++ (mark.symbol (separator s ps) ∷ param_marks p)
params_more s [] p = ap (λ l. mark.symbol s ∷ l) (append-nil (param_marks p))
params_more s (x ∷ xs) p =
    ap (λ l. mark.symbol s ∷ (param_marks x ++ l)) (params_more symbol.Comma xs p ∙ ap (λ c. param_marks_after symbol.Comma xs ++ (mark.symbol c ∷ param_marks p)) (commas xs))
    ∙ ap (λ l. mark.symbol s ∷ l) (sym (append_assoc (param_marks x) (param_marks_after symbol.Comma xs) (mark.symbol symbol.Comma ∷ param_marks p)))

pub links_more : (least : ℕ) (ls : List Link) (l : Link) → link_marks least (links_in (ls ++ l ∷ [])) ≡ link_marks least (links_in ls) ++ (mark.symbol (operator_symbol l.operator) ∷ operand_marks least l.operand)
links_more least [] l = ap (λ m. mark.symbol (operator_symbol l.operator) ∷ m) (append-nil (operand_marks least l.operand))
links_more least (x ∷ xs) l =
    ap (λ m. mark.symbol (operator_symbol x.operator) ∷ (operand_marks least x.operand ++ m)) (links_more least xs l)
    ∙ ap (λ m. mark.symbol (operator_symbol x.operator) ∷ m) (sym (append_assoc (operand_marks least x.operand) (link_marks least (links_in xs)) (mark.symbol (operator_symbol l.operator) ∷ operand_marks least l.operand)))

pub definitions_more : (ds : List tree.Definition) (d : tree.Definition) → definitions_marks (definitions_of (ds ++ d ∷ [])) ≡ definitions_marks (definitions_of ds) ++ (definition_marks d ++ (line_end ∷ []))
definitions_more [] d = refl
definitions_more (x ∷ xs) d =
    ap (λ m. definition_marks x ++ (line_end ∷ m)) (definitions_more xs d)
    ∙ sym (append_assoc (definition_marks x) (line_end ∷ definitions_marks (definitions_of xs)) (definition_marks d ++ (line_end ∷ [])))

-- ---- a turn of each loop
one_more : {A : Type 0} (xs : List A) (i : ℕ) (x : A) → i < length xs → x ≡ get_or xs i x → take (i + 1) xs ≡ take i xs ++ x ∷ []
one_more xs i x h is = take_more xs i x h ∙ ap (λ y. take i xs ++ y ∷ []) (sym is)

pub arguments_turn : (es : List Expr) (i : ℕ) (e : Expr) (before : Symbol) (start a b c : List ℕ) → i < length es → e ≡ get_or es i e → before ≡ separator symbol.Open (take i es) → a ≡ start ++ text_of (expr_marks_after symbol.Open (exprs_of (take i es))) → b ≡ a ++ text_of (mark.symbol before ∷ []) → c ≡ b ++ text_of (expr_marks e) → (symbol.Comma ≡ separator symbol.Open (take (i + 1) es)) × (c ≡ start ++ text_of (expr_marks_after symbol.Open (exprs_of (take (i + 1) es))))
arguments_turn es i e before start a b c h is sep done first second =
    let more = one_more es i e h is in
    let so_far = expr_marks_after symbol.Open (exprs_of (take i es)) in
    let both = after start b c (so_far ++ (mark.symbol before ∷ [])) (expr_marks e) (after start a b so_far (mark.symbol before ∷ []) done first) second in (
      sym (ap (separator symbol.Open) more ∙ separator_more symbol.Open (take i es) e),
      both ∙ ap (λ m. start ++ text_of m)
          (append_assoc so_far (mark.symbol before ∷ []) (expr_marks e) ∙ ap (λ s. so_far ++ (mark.symbol s ∷ expr_marks e)) sep
          ∙ sym (ap (λ l. expr_marks_after symbol.Open (exprs_of l)) more ∙ arguments_more symbol.Open (take i es) e)),
    )

pub links_turn : (least : ℕ) (ls : List Link) (i : ℕ) (l : Link) (s : Symbol) (start a b c : List ℕ) → i < length ls → l ≡ get_or ls i l → s ≡ operator_symbol l.operator → a ≡ start ++ text_of (link_marks least (links_in (take i ls))) → b ≡ a ++ text_of (mark.symbol s ∷ []) → c ≡ b ++ text_of (operand_marks least l.operand) → c ≡ start ++ text_of (link_marks least (links_in (take (i + 1) ls)))
links_turn least ls i l s start a b c h is sign done first second =
    let more = one_more ls i l h is in
    let so_far = link_marks least (links_in (take i ls)) in
    let both = after start b c (so_far ++ (mark.symbol (operator_symbol l.operator) ∷ [])) (operand_marks least l.operand) (after start a b so_far (mark.symbol (operator_symbol l.operator) ∷ []) done (first ∙ ap (λ s. a ++ text_of (mark.symbol s ∷ [])) sign)) second in
    both ∙ ap (λ m. start ++ text_of m)
    (append_assoc so_far (mark.symbol (operator_symbol l.operator) ∷ []) (operand_marks least l.operand)
    ∙ sym (ap (λ l. link_marks least (links_in l)) more ∙ links_more least (take i ls) l))

pub definitions_turn : (ds : List tree.Definition) (i : ℕ) (d : tree.Definition) (start a b c : List ℕ) → i < length ds → d ≡ get_or ds i d → a ≡ start ++ text_of (definitions_marks (definitions_of (take i ds))) → b ≡ a ++ text_of (definition_marks d) → c ≡ b ++ text_of (line_end ∷ []) → c ≡ start ++ text_of (definitions_marks (definitions_of (take (i + 1) ds)))
definitions_turn ds i d start a b c h is done first second =
    let more = one_more ds i d h is in
    let so_far = definitions_marks (definitions_of (take i ds)) in
    let both = after start b c (so_far ++ definition_marks d) (line_end ∷ []) (after start a b so_far (definition_marks d) done first) second in
    both ∙ ap (λ m. start ++ text_of m)
    (append_assoc so_far (definition_marks d) (line_end ∷ [])
    ∙ sym (ap (λ l. definitions_marks (definitions_of l)) more ∙ definitions_more (take i ds) d))

pub params_turn : (ps : List Param) (i : ℕ) (p : Param) (before : Symbol) (start a b c : List ℕ) → i < length ps → p ≡ get_or ps i p → before ≡ separator symbol.Open (params_in (take i ps)) → a ≡ start ++ text_of (param_marks_after symbol.Open (params_in (take i ps))) → b ≡ a ++ text_of (mark.symbol before ∷ []) → c ≡ b ++ text_of (param_marks (param_of p)) → (symbol.Comma ≡ separator symbol.Open (params_in (take (i + 1) ps))) × (c ≡ start ++ text_of (param_marks_after symbol.Open (params_in (take (i + 1) ps))))
params_turn ps i p before start a b c h is sep done first second =
    let more : params_in (take (i + 1) ps) ≡ params_in (take i ps) ++ param_of p ∷ [] = ap params_in (one_more ps i p h is) ∙ map-append param_of (take i ps) (p ∷ []) in
    let so_far = param_marks_after symbol.Open (params_in (take i ps)) in
    let both = after start b c (so_far ++ (mark.symbol before ∷ [])) (param_marks (param_of p)) (after start a b so_far (mark.symbol before ∷ []) done first) second in (
      sym (ap (separator symbol.Open) more ∙ separator_more symbol.Open (params_in (take i ps)) (param_of p)),
      both ∙ ap (λ m. start ++ text_of m)
          (append_assoc so_far (mark.symbol before ∷ []) (param_marks (param_of p)) ∙ ap (λ s. so_far ++ (mark.symbol s ∷ param_marks (param_of p))) sep
          ∙ sym (ap (param_marks_after symbol.Open) more ∙ params_more symbol.Open (params_in (take i ps)) (param_of p))),
    )

pub no_params : (ps : List Param) → length ps ≡ 0 → params_marks (params_in ps) ≡ []
no_params [] h = refl
no_params (p ∷ ps) h = absurd (omega arith)

pub some_params : (ps : List Param) → 0 < length ps → params_marks (params_in ps) ≡ param_marks_after symbol.Open (params_in ps) ++ (mark.symbol symbol.Close ∷ [])
some_params [] h = absurd (omega arith)
some_params (p ∷ ps) h = refl
