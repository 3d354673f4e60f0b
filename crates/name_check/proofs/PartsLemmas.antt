-- The parts of an expression, one after the other.
use Rattle.std.proofs.Common.{◌≡◌, ℕ, ◌+◌, ◌<◌, ◌≤◌, List, [], ◌∷◌, ◌++◌, length, get_or, drop, refl, sym, ap, ◌∙◌, append_assoc, arith}
use Rattle.std.proofs.lemmas.List.{append-nil, map-append, drop_all}
use Rattle.tsl_value.specs.declared.place.Place.{Place}
use Rattle.syntax_tree.specs.Tree.{Expr, place_of}
use Rattle.syntax_tree.specs.declared.tree.Link.{Link}
use Rattle.syntax_tree.specs.declared.tree.Node.{Node}
use Rattle.syntax_tree.specs.declared.tree.Node.TheVariants as node
use Rattle.syntax_tree.specs.inner.OneLevel.{exprs_of, links_in, expr_of}
use Rattle.name_check.specs.Parts as spec
use Rattle.name_check.specs.Parts.{parts, argument_parts, lift_parts, link_parts}
use Rattle.name_check.specs.declared.parts.Part.{Part}
use Rattle.name_check.specs.inner.Shown.{part_of, parts_in, nowhere, inner_parts}
use Rattle.tsl_value.proofs.Lists.{left_at}

-- one more part
pub parts_more : (ps : List Part) (p : Part) → parts_in (ps ++ p ∷ []) ≡ parts_in ps ++ part_of p ∷ []
parts_more ps p = map-append part_of ps (p ∷ [])

-- itself, and what stands in it, wherever it stands
parts_anywhere : (p : Place) (n : Node) → parts (expr_of p n) ≡ spec.Operand (expr_of p n) ∷ inner_parts (expr_of nowhere n)
parts_anywhere p (node.If a b c) = refl
parts_anywhere p (node.Chain a b c) = refl
parts_anywhere p (node.Compare a b c) = refl
parts_anywhere p (node.Negate a) = refl
parts_anywhere p (node.Not a) = refl
parts_anywhere p (node.Number a) = refl
parts_anywhere p (node.Negative a) = refl
parts_anywhere p (node.Text a) = refl
parts_anywhere p (node.Boolean a) = refl
parts_anywhere p node.Unit = refl
parts_anywhere p (node.Name a) = refl
parts_anywhere p (node.Call a b) = refl
parts_anywhere p (node.CallDotted a b) = refl
parts_anywhere p (node.Nil a) = refl
parts_anywhere p (node.None a) = refl
parts_anywhere p (node.Empty a) = refl

parts_of_node : (e : Expr) (n : Node) → expr_of (place_of e) n ≡ e → parts e ≡ spec.Operand e ∷ inner_parts (expr_of nowhere n)
parts_of_node e n is =
    ap parts (sym is) ∙ parts_anywhere (place_of e) n
    ∙ ap (λ x. spec.Operand x ∷ inner_parts (expr_of nowhere n)) is

-- an expression is added, and then what stands in it
pub with_inner : (e : Expr) (n : Node) (a b c : List spec.Part) → expr_of (place_of e) n ≡ e → b ≡ a ++ spec.Operand e ∷ [] → c ≡ b ++ inner_parts (expr_of nowhere n) → c ≡ a ++ parts e
with_inner e n a b c is h k =
    k ∙ ap (λ l. l ++ inner_parts (expr_of nowhere n)) h
    ∙ append_assoc a (spec.Operand e ∷ []) (inner_parts (expr_of nowhere n))
    ∙ ap (λ l. a ++ l) (sym (parts_of_node e n is))

-- two and three lists, one after the other
pub both_added : {A : Type 0} (a b c x y : List A) → b ≡ a ++ x → c ≡ b ++ y → c ≡ a ++ (x ++ y)
both_added a b c x y h k = k ∙ ap (λ l. l ++ y) h ∙ append_assoc a x y

pub three_added : {A : Type 0} (a b c d x y z : List A) → b ≡ a ++ x → c ≡ b ++ y → d ≡ c ++ z → d ≡ a ++ ((x ++ y) ++ z)
three_added a b c d x y z h k l = both_added a c d (x ++ y) z (both_added a b c x y h k) l

-- ---- a turn of each loop
turn : {A : Type 0} (a b all x rest left : List A) → left ≡ x ++ rest → a ++ left ≡ all → b ≡ a ++ x → b ++ rest ≡ all
turn a b all x rest left step done more = ap (λ l. l ++ rest) more ∙ append_assoc a x rest ∙ ap (λ l. a ++ l) (sym step) ∙ done

pub arguments_turn : (es : List Expr) (i : ℕ) (e : Expr) (a b all : List spec.Part) → i < length es → e ≡ get_or es i e → a ++ argument_parts (exprs_of (drop i es)) ≡ all → b ≡ a ++ parts e → b ++ argument_parts (exprs_of (drop (i + 1) es)) ≡ all
arguments_turn es i e a b all h is done more =
    turn a b all (parts e) (argument_parts (exprs_of (drop (i + 1) es))) (argument_parts (exprs_of (drop i es)))
    (ap (λ l. argument_parts (exprs_of l)) (left_at es i e h is))
    done more

pub arguments_end : (es : List Expr) (i : ℕ) (a all : List spec.Part) → length es ≤ i → a ++ argument_parts (exprs_of (drop i es)) ≡ all → a ≡ all
arguments_end es i a all h done =
    sym (append-nil a) ∙ ap (λ l. a ++ argument_parts (exprs_of l)) (sym (drop_all i es h)) ∙ done

pub links_turn : (ls : List Link) (i : ℕ) (l : Link) (a b all : List spec.Part) → i < length ls → l ≡ get_or ls i l → a ++ link_parts (links_in (drop i ls)) ≡ all → b ≡ a ++ parts l.operand → b ++ link_parts (links_in (drop (i + 1) ls)) ≡ all
links_turn ls i l a b all h is done more =
    turn a b all (parts l.operand) (link_parts (links_in (drop (i + 1) ls))) (link_parts (links_in (drop i ls)))
    (ap (λ x. link_parts (links_in x)) (left_at ls i l h is))
    done more

pub links_end : (ls : List Link) (i : ℕ) (a all : List spec.Part) → length ls ≤ i → a ++ link_parts (links_in (drop i ls)) ≡ all → a ≡ all
links_end ls i a all h done =
    sym (append-nil a) ∙ ap (λ l. a ++ link_parts (links_in l)) (sym (drop_all i ls h)) ∙ done

-- ---- the arguments of `lift`
lift_last : (es : List Expr) (f : Expr) → lift_parts (exprs_of (es ++ f ∷ [])) ≡ argument_parts (exprs_of es) ++ spec.Function f ∷ []
lift_last [] f = refl
lift_last (e ∷ []) f = sym (append_assoc (parts e) [] (spec.Function f ∷ []))
lift_last (e ∷ x ∷ xs) f =
    ap (λ l. parts e ++ l) (lift_last (x ∷ xs) f) ∙ sym (append_assoc (parts e) (argument_parts (exprs_of (x ∷ xs))) (spec.Function f ∷ []))

pub lift_added : (all es : List Expr) (f : Expr) (a b c : List spec.Part) → all ≡ es ++ f ∷ [] → b ≡ a ++ argument_parts (exprs_of es) → c ≡ b ++ spec.Function f ∷ [] → c ≡ a ++ lift_parts (exprs_of all)
lift_added all es f a b c is h k =
    both_added a b c (argument_parts (exprs_of es)) (spec.Function f ∷ []) h k
    ∙ ap (λ l. a ++ l) (sym (lift_last es f) ∙ ap (λ l. lift_parts (exprs_of l)) (sym is))

pub no_lift : (all : List Expr) (a : List spec.Part) → length all ≡ 0 → a ≡ a ++ lift_parts (exprs_of all)
no_lift [] a h = sym (append-nil a)
no_lift (e ∷ es) a h = absurd (omega arith)
