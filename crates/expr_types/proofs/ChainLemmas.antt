-- The links of a chain, one after the other.
use Rattle.std.proofs.Common.{◌≡◌, ℕ, ◌+◌, ◌<◌, ◌≤◌, List, [], ◌++◌, length, get_or, drop, Option, Some, None, Result, Ok, Err, refl, sym, ap, subst, ◌∙◌}
use Rattle.std.proofs.lemmas.List.{drop_all}
use Rattle.syntax_tree.specs.Tree.{Expr, Links, no_links, more_links}
use Rattle.syntax_tree.specs.declared.tree.Level.{Level}
use Rattle.syntax_tree.specs.declared.tree.Operator.{Operator}
use Rattle.syntax_tree.specs.declared.tree.Link.{Link}
use Rattle.syntax_tree.specs.inner.OneLevel.{links_in}
use Rattle.type_rules.specs.declared.rule.ExprType.{ExprType}
use Rattle.type_rules.specs.declared.rule.Clash.{Clash}
use Rattle.type_rules.specs.Asked.{Verdict}
use Rattle.type_rules.specs.Rules.{link_rule}
use Rattle.expr_types.specs.declared.wrong.Wrong.{Wrong}
use Rattle.expr_types.specs.declared.stop.Stop.{Stop}
use Rattle.expr_types.specs.Around.{Around}
use Rattle.expr_types.specs.Judge.{type_of, judge_links, next_link, continued, with_two, is_just, of_verdict, wrongs}
use Rattle.expr_types.specs.inner.Steps.{link_wrongs, chain_verdict, clash_in}
use Rattle.expr_types.specs.inner.Answers.{Stops, IsWhole, IsJudged}
use Rattle.expr_types.proofs.StopLemmas.{stops_front, stops_after, stops_same, is_whole}
use Rattle.tsl_value.proofs.Lists.{left_at}
use Rattle.expr_types.proofs.WrongLemmas.{clash_is}

-- the rest of a chain after a link of this verdict
abbrev after : Around → Level → Option Verdict → Links → Option Verdict
after at l None ls = None
after at l (Some (Err clash)) ls = Some (Err clash)
after at l (Some (Ok t)) ls = judge_links at l t ls

goes_on : (at : Around) (l : Level) (v : Verdict) (ls : Links) → continued v (λ u. judge_links at l u ls) ≡ after at l (Some v) ls
goes_on at l (Ok t) ls = refl
goes_on at l (Err clash) ls = refl

next_is : (at : Around) (l : Level) (t : ExprType) (u : Option ExprType) (ls : Links) → next_link at.setting l t u (λ x. judge_links at l x ls) ≡ after at l (with_two (link_rule at.setting l) (Some t) u) ls
next_is at l t None ls = refl
next_is at l t (Some u) ls = goes_on at l (link_rule at.setting l t u) ls

one_link : (at : Around) (l : Level) (t : Option ExprType) (o : Operator) (e : Expr) (ls : Links) → chain_verdict at l t (more_links o e ls) ≡ after at l (with_two (link_rule at.setting l) t (type_of at e)) ls
one_link at l None o e ls = refl
one_link at l (Some t) o e ls = next_is at l t (type_of at e) ls

nothing_chained : (at : Around) (l : Level) (t : Option ExprType) → with_two (link_rule at.setting l) t None ≡ None
nothing_chained at l None = refl
nothing_chained at l (Some t) = refl

-- ---- a turn of the loop
rest_wrong : (at : Around) (ls : List Link) (i : ℕ) (k : Link) → i < length ls → k ≡ get_or ls i k → link_wrongs at (links_in (drop i ls)) ≡ wrongs at k.operand ++ link_wrongs at (links_in (drop (i + 1) ls))
rest_wrong at ls i k h is = ap (λ l. link_wrongs at (links_in l)) (left_at ls i k h is)

rest_judged : (at : Around) (l : Level) (t : Option ExprType) (ls : List Link) (i : ℕ) (k : Link) → i < length ls → k ≡ get_or ls i k → chain_verdict at l t (links_in (drop i ls)) ≡ after at l (with_two (link_rule at.setting l) t (type_of at k.operand)) (links_in (drop (i + 1) ls))
rest_judged at l t ls i k h is =
    ap (λ x. chain_verdict at l t (links_in x)) (left_at ls i k h is) ∙ one_link at l t k.operator k.operand (links_in (drop (i + 1) ls))

pub links_fine : (at : Around) (ls : List Link) (i : ℕ) (k : Link) (all : List Wrong) (u : Option ExprType) → i < length ls → k ≡ get_or ls i k → all ≡ link_wrongs at (links_in (drop i ls)) → (wrongs at k.operand ≡ []) × (u ≡ type_of at k.operand) → all ≡ link_wrongs at (links_in (drop (i + 1) ls))
links_fine at ls i k all u h is done found =
    done ∙ rest_wrong at ls i k h is ∙ ap (λ l. l ++ link_wrongs at (links_in (drop (i + 1) ls))) found.0

turned : (at : Around) (l : Level) (ls : List Link) (i : ℕ) (k : Link) (t u : Option ExprType) (v all : Option Verdict) → i < length ls → k ≡ get_or ls i k → chain_verdict at l t (links_in (drop i ls)) ≡ all → (wrongs at k.operand ≡ []) × (u ≡ type_of at k.operand) → v ≡ with_two (link_rule at.setting l) t u → after at l v (links_in (drop (i + 1) ls)) ≡ all
turned at l ls i k t u v all h is done found here =
    ap (λ x. after at l x (links_in (drop (i + 1) ls))) (here ∙ ap (with_two (link_rule at.setting l) t) found.1)
    ∙ sym (rest_judged at l t ls i k h is) ∙ done

-- a link that is not refused
allowed_after : (at : Around) (l : Level) (v : Option Verdict) (ls : Links) → None ≡ clash_in v → chain_verdict at l (of_verdict v) ls ≡ after at l v ls
allowed_after at l None ls h = refl
allowed_after at l (Some (Ok t)) ls h = refl
allowed_after at l (Some (Err clash)) ls h = absurd (cc h)

pub links_more : (at : Around) (l : Level) (ls : List Link) (i : ℕ) (k : Link) (t u r : Option ExprType) (v all : Option Verdict) → i < length ls → k ≡ get_or ls i k → chain_verdict at l t (links_in (drop i ls)) ≡ all → (wrongs at k.operand ≡ []) × (u ≡ type_of at k.operand) → v ≡ with_two (link_rule at.setting l) t u → None ≡ clash_in v → r ≡ of_verdict v → chain_verdict at l r (links_in (drop (i + 1) ls)) ≡ all
links_more at l ls i k t u r v all h is done found here none more =
    ap (λ x. chain_verdict at l x (links_in (drop (i + 1) ls))) more ∙ allowed_after at l v (links_in (drop (i + 1) ls)) none
    ∙ turned at l ls i k t u v all h is done found here

pub links_clash : (at : Around) (l : Level) (ls : List Link) (i : ℕ) (k : Link) (t u : Option ExprType) (v all : Option Verdict) (clash : Clash) → i < length ls → k ≡ get_or ls i k → chain_verdict at l t (links_in (drop i ls)) ≡ all → (wrongs at k.operand ≡ []) × (u ≡ type_of at k.operand) → v ≡ with_two (link_rule at.setting l) t u → Some clash ≡ clash_in v → Some (Err clash) ≡ all
links_clash at l ls i k t u v all clash h is done found here refused =
    ap (λ x. after at l x (links_in (drop (i + 1) ls))) (clash_is v clash refused) ∙ turned at l ls i k t u v all h is done found here

pub links_stop : (at : Around) (l : Level) (ls : List Link) (i : ℕ) (k : Link) (t : Option ExprType) (all : Option Verdict) (ws : List Wrong) (s : Stop) → i < length ls → k ≡ get_or ls i k → ws ≡ link_wrongs at (links_in (drop i ls)) → chain_verdict at l t (links_in (drop i ls)) ≡ all → Stops (wrongs at k.operand) (type_of at k.operand) s → Stops ws all s
links_stop at l ls i k t all ws s h is fine done found =
    let rest = link_wrongs at (links_in (drop (i + 1) ls)) in
    stops_same s (wrongs at k.operand ++ rest) ws all all (sym (fine ∙ rest_wrong at ls i k h is)) refl
    (stops_front s (wrongs at k.operand) rest (type_of at k.operand) all
    (λ none. sym done ∙ rest_judged at l t ls i k h is
    ∙ ap (λ x. after at l (with_two (link_rule at.setting l) t x) (links_in (drop (i + 1) ls))) none
    ∙ ap (λ x. after at l x (links_in (drop (i + 1) ls))) (nothing_chained at l t)) found)

alone : (at : Around) (l : Level) (t : Option ExprType) → chain_verdict at l t no_links ≡ is_just t
alone at l None = refl
alone at l (Some t) = refl

pub links_end : (at : Around) (l : Level) (ls : List Link) (i : ℕ) (t : Option ExprType) (v all : Option Verdict) (ws : List Wrong) → length ls ≤ i → ws ≡ link_wrongs at (links_in (drop i ls)) → chain_verdict at l t (links_in (drop i ls)) ≡ all → v ≡ is_just t → IsWhole ws v × (v ≡ all)
links_end at l ls i t v all ws h fine done here = (
  is_whole ws v (fine ∙ ap (λ x. link_wrongs at (links_in x)) (drop_all i ls h)),
  here ∙ sym (alone at l t) ∙ ap (λ x. chain_verdict at l t (links_in x)) (sym (drop_all i ls h)) ∙ done,
)

-- ---- the first operand before the links
pub chain_first : (at : Around) (l : Level) (ls : Links) (s : Stop) (xs : List Wrong) (t : Option ExprType) → Stops xs t s → Stops (xs ++ link_wrongs at ls) (chain_verdict at l t ls) s
chain_first at l ls s xs t h =
    stops_front s xs (link_wrongs at ls) t (chain_verdict at l t ls) (λ none. ap (λ x. chain_verdict at l x ls) none) h

pub chain_rest : (at : Around) (l : Level) (ls : Links) (s : Stop) (xs : List Wrong) (t u : Option ExprType) → (xs ≡ []) × (u ≡ t) → Stops (link_wrongs at ls) (chain_verdict at l u ls) s → Stops (xs ++ link_wrongs at ls) (chain_verdict at l t ls) s
chain_rest at l ls s xs t u h k =
    stops_after s xs (link_wrongs at ls) (chain_verdict at l u ls) (chain_verdict at l t ls) h.0 (λ none. ap (λ x. chain_verdict at l x ls) (sym h.1) ∙ none) k

-- the same operands
pub same_chain : (at : Around) (l : Level) (e f : Expr) (ls ms : List Link) (r : Result (Option Verdict) Stop) → e ≡ f → ls ≡ ms → IsJudged (wrongs at e ++ link_wrongs at (links_in ls)) (chain_verdict at l (type_of at e) (links_in ls)) r → IsJudged (wrongs at f ++ link_wrongs at (links_in ms)) (chain_verdict at l (type_of at f) (links_in ms)) r
same_chain at l e f ls ms r same equal h =
    let P : Expr → Type 0 = λ x. IsJudged (wrongs at x ++ link_wrongs at (links_in ls)) (chain_verdict at l (type_of at x) (links_in ls)) r in
    let Q : List Link → Type 0 = λ xs. IsJudged (wrongs at f ++ link_wrongs at (links_in xs)) (chain_verdict at l (type_of at f) (links_in xs)) r in
    subst Q equal (subst P same h)
