-- What diagrams keep.
use Rattle.std.proofs.Common.{◌≡◌, ℕ, zero, suc, ◌<◌, ◌↔◌, Bool, false, List, [], length, get_or, replicate, Contains, Option, None, refl, sym, ap, subst, ◌∙◌, arith}
use Rattle.std.specs.Prelude.{IsTrue, is_some, unwrap_or}
use Rattle.std.proofs.lemmas.Bool.{false≢true}
use mathlib.Core.Logic.Iff.{trans}
use Rattle.flat_core.specs.inner.Dependency.{IsRunOrder}
use Rattle.flat_core.specs.System.{System}
use Rattle.trigger_rules.specs.declared.atom.Atom.{Atom}
use Rattle.trigger_rules.specs.Formula.{Assignment}
use Rattle.trigger_rules.specs.Question.{Fires}
use Rattle.trigger_starts.specs.declared.rules.Rule.{Rule}
use Rattle.trigger_starts.specs.inner.AtomLists.{AreDifferent, atoms_at}
use Rattle.trigger_starts.specs.inner.Kept.{AreAtomsOf, AreFiring, AreRulesOf, AreStarts, IsOrder}
use Rattle.trigger_starts.specs.inner.Rules.{AreClosed, rules_of}
use Rattle.trigger_starts.specs.inner.Truth.{IsMet}
use Rattle.trigger_starts.proofs.Orders.{order_from}
use Rattle.trigger_starts.proofs.Systems.{fires_is, has_stands}
use Rattle.decision_diagrams.specs.declared.arena.Branch.{Branch}
use Rattle.decision_diagrams.specs.inner.Arena.{AreCanonical, Grows, IsNode}
use Rattle.trigger_diagram.specs.inner.Kept.{AreAlike, AreFiringIn, AreKept, HaveAtoms, IsNodeIn, IsNodeOf, Keeps, Kept}
use Rattle.trigger_diagram.specs.inner.Made.{node_at, AreNodesOf, IsMade}
use Rattle.trigger_diagram.specs.inner.Truth.{truth}
use Rattle.trigger_diagram.proofs.Questions.{alike_is}
use Rattle.trigger_diagram.proofs.Truths.{node_on, truth_kept}

-- the nodes that were there
pub keeps_told : (old : Kept) (rules : List Rule) (bs new : List Branch) → record { rules = rules; branches = bs } ≡ old → Grows bs new → Keeps old (record { rules = rules; branches = new })
keeps_told old rules bs new seen grows =
    subst (λ (k : Kept). Keeps k (record { rules = rules; branches = new })) seen
    (record { rules = refl; there = λ n node. node_on bs new n grows node; same = λ n node holds. truth_kept bs new n grows node holds })

-- ---- the node of a formula
module _ (rules seen_rules : List Rule) (starts seen_starts : List Bool) (bs : List Branch) (nodes seen_nodes : List (Option ℕ)) (a n : ℕ) (rules_are : seen_rules ≡ rules) (starts_is : seen_starts ≡ starts) (nodes_is : seen_nodes ≡ nodes) (are : AreNodesOf seen_rules seen_starts bs nodes) (is : n ≡ node_at seen_nodes a) where
  abbrev view : Kept
  view = record { rules = rules; branches = bs }

  here : AreNodesOf rules starts bs nodes
  here = subst (λ l. AreNodesOf l starts bs nodes) rules_are (subst (λ l. AreNodesOf seen_rules l bs nodes) starts_is are)

  at : n ≡ node_at nodes a
  at = is ∙ ap (λ l. node_at l a) nodes_is

  pub formula_told : AreStarts rules starts → IsMade nodes a → IsNodeOf view a n
  formula_told starts_are made s of_s holds =
      trans (subst (λ m. IsTrue (truth bs m holds) ↔ IsMet false rules starts holds a) (sym at) (here.exact a made holds)) (fires_is s rules of_s starts (starts_are s of_s) holds a)

  pub once_told : AreCanonical bs → (m : ℕ) → IsNode bs m → (m ≡ n) ↔ AreAlike view m n
  once_told can m node = alike_is view can m n node (subst (IsNode bs) (sym at) (here.there a))

-- ---- a new one
abbrev nothing : Option ℕ
nothing = None

none_at : (n x : ℕ) → get_or (replicate n nothing) x nothing ≡ nothing
none_at zero x = refl
none_at (suc n) zero = refl
none_at (suc n) (suc x) = none_at n x

-- an order to run the system in is one of its rules
pub order_told : (s : System) (order seen_order : List ℕ) → seen_order ≡ order → IsRunOrder s order → IsOrder (rules_of s) seen_order
order_told s order seen_order same run = order_from s seen_order (subst (IsRunOrder s) (sym same) run)

pub kept_new : (s : System) (rules seen_rules : List Rule) (order : List ℕ) (starts : List Bool) (bs : List Branch) (nodes : List (Option ℕ)) (n : ℕ) → AreRulesOf rules s → AreClosed rules → IsOrder (rules_of s) order → seen_rules ≡ rules → length starts ≡ length seen_rules → AreStarts seen_rules starts → bs ≡ [] → nodes ≡ replicate n None → length nodes ≡ length rules → AreKept rules order starts bs nodes
kept_new s rules seen_rules order starts bs nodes n are closed ordered seen each exact empty nodes_are many = record {
  closed = closed;
  ordered = subst (λ rs. IsOrder rs order) (sym are) ordered;
  starts_each = each ∙ ap length seen;
  starts_are = subst (λ rs. AreStarts rs starts) seen exact;
  nodes_each = many;
  nodes_are = record {
    there = λ x. subst (IsNode bs) (sym (ap (λ o. unwrap_or o 0) (nowhere x))) (omega arith);
    exact = λ x made holds. absurd (false≢true (sym (ap is_some (nowhere x)) ∙ made));
  };
}
  where
    nowhere : (x : ℕ) → get_or nodes x None ≡ None
    nowhere x = ap (λ l. get_or l x None) nodes_are ∙ none_at n x

-- ---- atoms
module _ (d : Kept) (rules seen_rules : List Rule) (starts seen_starts : List Bool) (order seen_order : List ℕ) (bs : List Branch) (all : List (List Atom)) (seen : record { rules = rules; branches = bs } ≡ d) (rules_are : seen_rules ≡ rules) (starts_is : seen_starts ≡ starts) (order_is : seen_order ≡ order) (ordered : IsOrder rules order) (are : AreAtomsOf false seen_rules seen_starts seen_order all) where
  same : rules ≡ d.rules
  same = ap (λ (k : Kept). k.rules) seen

  listed : AreAtomsOf false rules starts order all
  listed = subst (λ l. AreAtomsOf false l starts order all) rules_are (subst (λ l. AreAtomsOf false seen_rules l order all) starts_is (subst (λ l. AreAtomsOf false seen_rules seen_starts l all) order_is are))

  there : (x : ℕ) → x < length d.rules → Contains order x
  there x low = ordered.all x (subst (λ l. x < length l) (sym same) low)

  pub different_told : (x : ℕ) → x < length d.rules → AreDifferent (atoms_at all x)
  different_told x low = (listed x (there x low)).different

  pub atoms_told : AreStarts rules starts → HaveAtoms d all
  atoms_told starts_are s of_d x low =
      let of_s : AreRulesOf rules s = same ∙ of_d in
      has_stands s rules of_s starts (starts_are s of_s) x (atoms_at all x) (listed x (there x low))

-- ---- which formulas are true
pub firing_told : (d : Kept) (rules seen_rules : List Rule) (starts seen_starts : List Bool) (order seen_order : List ℕ) (bs : List Branch) (holds : Assignment) (marks : List Bool) → record { rules = rules; branches = bs } ≡ d → seen_rules ≡ rules → seen_starts ≡ starts → seen_order ≡ order → IsOrder rules order → AreStarts rules starts → AreFiring seen_rules seen_starts seen_order holds marks → AreFiringIn d holds marks
firing_told d rules seen_rules starts seen_starts order seen_order bs holds marks seen rules_are starts_is order_is ordered starts_are are s of_d x low =
    let same : rules ≡ d.rules = ap (λ (k : Kept). k.rules) seen in
    let of_s : AreRulesOf rules s = same ∙ of_d in
    let all : AreFiring rules starts order holds marks = subst (λ l. AreFiring l starts order holds marks) rules_are (subst (λ l. AreFiring seen_rules l order holds marks) starts_is (subst (λ l. AreFiring seen_rules seen_starts l holds marks) order_is are)) in
    trans (all x (ordered.all x (subst (λ l. x < length l) (sym same) low))) (fires_is s rules of_s starts (starts_are s of_s) holds x)

-- ---- one call after another
pub keeps_on : (a b c : Kept) → Keeps a b → Keeps b c → Keeps a c
keeps_on a b c one two = record {
  rules = two.rules ∙ one.rules;
  there = λ n node. two.there n (one.there n node);
  same = λ n node holds. two.same n (one.there n node) holds ∙ one.same n node holds;
}

pub node_kept : (a b : Kept) → Keeps a b → (x n : ℕ) → IsNodeIn a n → IsNodeOf a x n → IsNodeOf b x n
node_kept a b keeps x n node exact s of_s holds = subst (λ t. IsTrue t ↔ Fires s holds x) (sym (keeps.same n node holds)) (exact s (sym keeps.rules ∙ of_s) holds)
