-- The variables of atoms, and the values of nodes in assignments.
use Rattle.std.proofs.Common.{◌≡◌, ℕ, zero, suc, ◌+◌, ◌*◌, ◌<◌, Bool, true, false, not, ◌&&◌, ◌||◌, List, length, take, get_or, Option, Result, Ok, Err, refl, sym, ap, subst, ◌∙◌, arith}
use Rattle.std.specs.Prelude.{IfOk}
use Rattle.std.specs.List.{list_all, list_any}
use Rattle.std.proofs.lemmas.List.Folds.{list_all_more, list_any_more}
use Rattle.trigger_rules.specs.declared.atom.Atom.{Atom}
use Rattle.trigger_rules.specs.declared.atom.Atom.TheVariants.{Start, Happens, Holds}
use Rattle.trigger_rules.specs.Formula.{Assignment}
use Rattle.trigger_starts.specs.declared.rules.Rule.{Rule}
use Rattle.trigger_starts.specs.declared.rules.Rule.TheVariants as rule
use Rattle.trigger_starts.specs.inner.Truth.{value_by}
use Rattle.decision_diagrams.specs.declared.arena.Branch.{Branch}
use Rattle.decision_diagrams.specs.declared.join.Connective.{Connective}
use Rattle.decision_diagrams.specs.declared.join.Connective.TheVariants as connective
use Rattle.decision_diagrams.specs.declared.join.Pair.{Pair}
use Rattle.decision_diagrams.specs.inner.DecisionTree.{Valuation, value}
use Rattle.decision_diagrams.specs.inner.Arena.{tree_at, IsNode, Grows}
use Rattle.decision_diagrams.specs.inner.Join.{connected, AreNodes, IsJoin}
use Rattle.trigger_diagram.specs.inner.Made.{node_at, value_at, AreThere}
use Rattle.trigger_diagram.specs.inner.Truth.{following, variable_of, atom_of, valuation_of, truth, Tells}
use Rattle.decision_diagrams.proofs.Nodes.{no_is, yes_is}

-- ---- atoms by their variables
variable_following : (a : Atom) → variable_of (following a) ≡ suc (variable_of a)
variable_following Start = refl
variable_following (Happens x) = omega arith
variable_following (Holds x) = omega arith

pub variable_at : (n : ℕ) → variable_of (atom_of n) ≡ n
variable_at zero = refl
variable_at (suc n) = variable_following (atom_of n) ∙ ap suc (variable_at n)

happens_at : (x : ℕ) → atom_of (2 * x + 1) ≡ Happens x
happens_at zero = refl
happens_at (suc x) =
    let two : 2 * suc x + 1 ≡ suc (suc (2 * x + 1)) = omega arith in
    ap atom_of two ∙ ap (λ a. following (following a)) (happens_at x)

pub atom_at : (a : Atom) → atom_of (variable_of a) ≡ a
atom_at Start = refl
atom_at (Happens x) = happens_at x
atom_at (Holds x) =
    let one : 2 * x + 2 ≡ suc (2 * x + 1) = omega arith in
    ap atom_of one ∙ ap following (happens_at x)

-- each valuation is that of an assignment
abbrev pub assignment_of : Valuation → Assignment
assignment_of v a = v (variable_of a)

pub valuation_is : (v : Valuation) → valuation_of (assignment_of v) ≡ v
valuation_is v i n = ap v (variable_at n) i

-- ---- single nodes
pub truth_is : (bs : List Branch) (n : ℕ) (holds : Assignment) → truth bs n holds ≡ value (valuation_of holds) (tree_at bs n)
unfolding truth
truth_is bs n holds = refl

pub truth_kept : (a b : List Branch) (n : ℕ) → Grows a b → IsNode a n → (holds : Assignment) → truth b n holds ≡ truth a n holds
truth_kept a b n grows node holds = truth_is b n holds ∙ ap (value (valuation_of holds)) (grows.kept n node) ∙ sym (truth_is a n holds)

pub node_on : (a b : List Branch) (n : ℕ) → Grows a b → IsNode a n → IsNode b n
node_on a b n grows node = let m = grows.many in omega arith

pub tells_no : (bs : List Branch) → Tells bs 0 (λ h. false)
tells_no bs = record { there = omega arith; is = λ h. truth_is bs 0 h ∙ ap (value (valuation_of h)) (no_is bs) }

pub tells_yes : (bs : List Branch) → Tells bs 1 (λ h. true)
tells_yes bs = record { there = omega arith; is = λ h. truth_is bs 1 h ∙ ap (value (valuation_of h)) (yes_is bs) }

pub tells_atom : (bs : List Branch) (n x : ℕ) (a : Atom) → x ≡ variable_of a → IsNode bs n → ((v : Valuation) → value v (tree_at bs n) ≡ v x) → Tells bs n (λ h. h a)
tells_atom bs n x a is node exact = record { there = node; is = λ h. truth_is bs n h ∙ exact (valuation_of h) ∙ ap h (ap atom_of is ∙ atom_at a) }

pub tells_denied : (bs : List Branch) (n x : ℕ) (a : Atom) → x ≡ variable_of a → IsNode bs n → ((v : Valuation) → value v (tree_at bs n) ≡ not (v x)) → Tells bs n (λ h. not (h a))
tells_denied bs n x a is node exact = record { there = node; is = λ h. truth_is bs n h ∙ exact (valuation_of h) ∙ ap (λ b. not (h b)) (ap atom_of is ∙ atom_at a) }

pub tells_join : (c : Connective) (old new : List Branch) (p : Pair) (n : ℕ) → Grows old new → AreNodes old p → IsJoin c new p n → Tells new n (λ h. connected c (truth old p.first h) (truth old p.second h))
tells_join c old new p n grows nodes join = record {
  there = join.there;
  is = λ h.
      truth_is new n h ∙ join.exact (valuation_of h)
      ∙ (λ i. connected c ((sym (truth_is new p.first h) ∙ truth_kept old new p.first grows nodes.0 h) i) ((sym (truth_is new p.second h) ∙ truth_kept old new p.second grows nodes.1 h) i));
}

-- ---- nodes of nodes
pub tells_on : {f : Assignment → Bool} (a b : List Branch) (n : ℕ) → Grows a b → Tells a n f → Tells b n f
tells_on a b n grows tells = record { there = node_on a b n grows tells.there; is = λ h. truth_kept a b n grows tells.there h ∙ tells.is h }

pub tells_old : (a b : List Branch) (n : ℕ) → Grows a b → IsNode a n → Tells b n (λ h. truth a n h)
tells_old a b n grows node = record { there = node_on a b n grows node; is = truth_kept a b n grows node }

pub tells_both : {f g : Assignment → Bool} (b c : List Branch) (m n k : ℕ) → Tells b m f → Tells b n g → Tells c k (λ h. truth b m h && truth b n h) → Tells c k (λ h. f h && g h)
tells_both b c m n k first second both = record { there = both.there; is = λ h. both.is h ∙ (λ i. first.is h i && second.is h i) }

-- ---- loops over arguments
module _ (start mid new : List Branch) (nodes : List (Option ℕ)) (args : List ℕ) (k x m node more : ℕ) (lt : k < length args) (is : x ≡ get_or args k x) (read : m ≡ node_at nodes x) (grows : Grows start mid) (there : AreThere start nodes) where
  abbrev at : Assignment → ℕ → Bool
  at h a = value_at start nodes h a

  last_is : (h : Assignment) → truth mid m h ≡ at h (get_or args k x)
  last_is h = ap (λ n. truth mid n h) read ∙ truth_kept start mid (node_at nodes x) grows (there x) h ∙ ap (at h) is

  pub all_next : Tells mid node (λ h. list_all (at h) (take k args)) → Tells new more (λ h. truth mid node h && truth mid m h) → Tells new more (λ h. list_all (at h) (take (k + 1) args))
  all_next before both = record { there = both.there; is = λ h. both.is h ∙ (λ i. before.is h i && last_is h i) ∙ sym (list_all_more (at h) args k x lt) }

  pub any_next : Tells mid node (λ h. list_any (at h) (take k args)) → Tells new more (λ h. truth mid node h || truth mid m h) → Tells new more (λ h. list_any (at h) (take (k + 1) args))
  any_next before either = record { there = either.there; is = λ h. either.is h ∙ (λ i. before.is h i || last_is h i) ∙ sym (list_any_more (at h) args k x lt) }

-- ---- answers
pub atom_told : {E : Type 0} (new : List Branch) (x : ℕ) (a : Atom) (r : Result ℕ E) → x ≡ variable_of a → IfOk r (λ n. IsNode new n) → IfOk r (λ n. (v : Valuation) → value v (tree_at new n) ≡ v x) → IfOk r (λ n. Tells new n (λ h. h a))
atom_told new x a (Ok n) is node exact = tells_atom new n x a is node exact
atom_told new x a (Err e) is node exact = tt

pub denied_told : {E : Type 0} (new : List Branch) (x : ℕ) (a : Atom) (r : Result ℕ E) → x ≡ variable_of a → IfOk r (λ n. IsNode new n) → IfOk r (λ n. (v : Valuation) → value v (tree_at new n) ≡ not (v x)) → IfOk r (λ n. Tells new n (λ h. not (h a)))
denied_told new x a (Ok n) is node exact = tells_denied new n x a is node exact
denied_told new x a (Err e) is node exact = tt

pub both_told : {E : Type 0} (old new : List Branch) (m n : ℕ) (r : Result ℕ E) → Grows old new → IsNode old m → IsNode old n → IfOk r (λ k. IsJoin connective.And new (record { first = m; second = n }) k) → IfOk r (λ k. Tells new k (λ h. truth old m h && truth old n h))
both_told old new m n (Ok k) grows first second join = tells_join connective.And old new (record { first = m; second = n }) k grows (first, second) join
both_told old new m n (Err e) grows first second join = tt

pub either_told : {E : Type 0} (old new : List Branch) (m n : ℕ) (r : Result ℕ E) → Grows old new → IsNode old m → IsNode old n → IfOk r (λ k. IsJoin connective.Or new (record { first = m; second = n }) k) → IfOk r (λ k. Tells new k (λ h. truth old m h || truth old n h))
either_told old new m n (Ok k) grows first second join = tells_join connective.Or old new (record { first = m; second = n }) k grows (first, second) join
either_told old new m n (Err e) grows first second join = tt

pub both_of : {E : Type 0} {f g : Assignment → Bool} (b c : List Branch) (m n : ℕ) (r : Result ℕ E) → Tells b m f → Tells b n g → IfOk r (λ k. Tells c k (λ h. truth b m h && truth b n h)) → IfOk r (λ k. Tells c k (λ h. f h && g h))
both_of b c m n (Ok k) first second both = tells_both b c m n k first second both
both_of b c m n (Err e) first second both = tt

pub tells_started : (bs : List Branch) (b : Bool) (a : Atom) → b ≡ true → Tells bs 1 (λ h. b || h a)
tells_started bs b a is = subst (λ t. Tells bs 1 (λ h. t || h a)) (sym is) (tells_yes bs)

pub never_told : (bs : List Branch) (it : Rule) (own : ℕ) (starts : List Bool) (f : Assignment → ℕ → Bool) → it ≡ rule.Never → Tells bs 0 (λ h. value_by it own starts (f h) h)
never_told bs it own starts f is = subst (λ r. Tells bs 0 (λ h. value_by r own starts (f h) h)) (sym is) (tells_no bs)
