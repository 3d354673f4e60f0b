-- Questions about two equations.
use Rattle.std.proofs.Common.{◌≡◌, ℕ, ◌<◌, ◌≤◌, ◌↔◌, ◌⊎◌, Bool, true, false, not, ◌&&◌, ◌||◌, List, length, get_or, set, replicate, Option, Some, None, sym, ap, subst, ◌∙◌, inl, inr, refl, arith}
use Rattle.std.specs.Prelude.{IfSome, IsTrue}
use Rattle.std.proofs.lemmas.Bool.{cases_eq, cases_lt, false≢true}
use Rattle.std.proofs.lemmas.Option.{none-some, same_Some}
use Rattle.std.proofs.lemmas.List.{get_or_past, get_or-replicate, get_or-set_other, get_or-set_same, length-replicate, length-set}
use mathlib.Core.Logic.Iff.{trans}
use Rattle.flat_core.specs.inner.Dependency.{IsRunOrder}
use Rattle.flat_core.specs.System.{System}
use Rattle.gate_circuits.specs.Circuit.{Implies as GateImplies}
use Rattle.trigger_rules.specs.declared.atom.Atom.{Atom}
use Rattle.trigger_rules.specs.declared.limit.TheConstants.{ATOMS}
use Rattle.trigger_rules.specs.Formula.{Assignment}
use Rattle.trigger_rules.specs.Question.{AreFew, AreMet, Fires, Implies, Stands, StandsInOne, Together}
use Rattle.trigger_starts.specs.declared.rules.Rule.{Rule}
use Rattle.trigger_starts.specs.inner.AtomLists.{AreDifferent, HasAtoms, IsInEither, atoms_at}
use Rattle.trigger_starts.specs.inner.Kept.{AreRulesOf, IsOrder}
use Rattle.trigger_starts.specs.inner.Rules.{is_marked}
use Rattle.trigger_starts.specs.inner.Truth.{all_but_start}
use Rattle.trigger_starts.proofs.Gathered.{no_more}
use Rattle.trigger_starts.proofs.Meaning.{both_true, either_true}
use Rattle.trigger_starts.proofs.Orders.{order_from}
use Rattle.trigger_starts.proofs.Systems.{fires_is, has_stands, met_is}
use Rattle.trigger_circuits.specs.inner.Circuits.{gate_at}
use Rattle.trigger_circuits.proofs.Circuits.{follows_is}
use Rattle.trigger_diagram.specs.inner.Kept as diagrams
use Rattle.trigger_diagram.specs.inner.Kept.{Keeps}
use Rattle.trigger_diagram.proofs.Keeping.{node_kept}
use Rattle.trigger_formulas.specs.declared.side.Side.{Side}
use Rattle.trigger_formulas.specs.inner.Kept.{both, AreNodesIn, Follows, IsKept, IsNodeFor, IsSideOf}

-- two tests, of which the second is asked where the first fails
pub or_then : (P : Type 0) (x y p : Bool) → p ≡ x → p ≡ true → IsTrue (x || y) ↔ P → IsTrue p ↔ P
or_then P x y p same on exact = subst (λ b. IsTrue b ↔ P) (sym on) (subst (λ b. IsTrue (b || y) ↔ P) (sym same ∙ on) exact)

pub or_else : (P : Type 0) (x y p q : Bool) → p ≡ x → p ≡ false → q ≡ y → IsTrue (x || y) ↔ P → IsTrue q ↔ P
or_else P x y p q same off is exact = subst (λ b. IsTrue b ↔ P) (sym is) (subst (λ b. IsTrue (b || y) ↔ P) (sym same ∙ off) exact)

-- ---- answers that may be none
both_told : (P Q R : Type 0) (first second : Option Bool) → IfSome first (λ r. IsTrue r ↔ P) → IfSome second (λ r. IsTrue r ↔ Q) → (Q × P) ↔ R → IfSome (both first second) (λ r. IsTrue r ↔ R)
both_told P Q R (Some true) None p q is = tt
both_told P Q R (Some true) (Some told) p q is = (λ h. is.0 (q.0 h, p.0 refl), λ r. q.1 (is.1 r).0)
both_told P Q R (Some false) second p q is = (λ h. absurd (false≢true h), λ r. p.1 (is.1 r).1)
both_told P Q R None (Some false) p q is = (λ h. absurd (false≢true h), λ r. q.1 (is.1 r).0)
both_told P Q R None (Some true) p q is = tt
both_told P Q R None None p q is = tt

told_of_each : (A : System → Type 0) (P : System → Type 0) (told : Option Bool) → ((s : System) → A s → IfSome told (λ r. IsTrue r ↔ P s)) → IfSome told (λ r. (s : System) → A s → IsTrue r ↔ P s)
told_of_each A P None each = tt
told_of_each A P (Some r) each = each

-- ---- nodes
pub no_nodes : (d : diagrams.Kept) (nodes : List (Option ℕ)) (count : ℕ) → nodes ≡ replicate count None → count ≡ length d.rules → AreNodesIn d nodes
no_nodes d nodes count is same = record {
  each = ap length is ∙ length-replicate count None ∙ same;
  made = λ x n at. absurd (none-some n (sym (elim (cases_lt x count) [
    | inl low ↦ ap (λ l. get_or l x None) is ∙ get_or-replicate count x None None low
    | inr past ↦ get_or_past nodes x None (let e = ap length is ∙ length-replicate count None in omega arith)
  ]) ∙ at));
}

-- those that were there stay
pub nodes_kept : (d new : diagrams.Kept) (nodes : List (Option ℕ)) → Keeps d new → AreNodesIn d nodes → AreNodesIn new nodes
nodes_kept d new nodes keeps are = record {
  each = are.each ∙ ap length (sym keeps.rules);
  made = λ x n at.
      let node = are.made x n at in
      record { there = keeps.there n node.there; exact = node_kept d new keeps x n node.there node.exact };
}

-- and one is new
pub nodes_more : (d : diagrams.Kept) (nodes : List (Option ℕ)) (x n : ℕ) → AreNodesIn d nodes → IsNodeFor d x n → AreNodesIn d (set nodes x (Some n))
nodes_more d nodes x n are node = record {
  each = length-set nodes x (Some n) ∙ are.each;
  made = λ y m at. elim (cases_eq y x) [
    | inl same ↦ elim (cases_lt x (length nodes)) [
      | inl low ↦
          let put : Some n ≡ Some m = sym (get_or-set_same nodes x (Some n) None low) ∙ ap (λ k. get_or (set nodes x (Some n)) k None) (sym same) ∙ at in
          subst (λ k. IsNodeFor d k m) (sym same) (subst (λ k. IsNodeFor d x k) (same_Some n m put) node)
      | inr past ↦ absurd (none-some m (sym (get_or_past (set nodes x (Some n)) y None (let e = length-set nodes x (Some n) in omega arith)) ∙ at))
    ]
    | inr ne ↦ are.made y m (sym (get_or-set_other nodes x y (Some n) None ne) ∙ at)
  ];
}

-- what two nodes say of their formulas
pub nodes_told : (d : diagrams.Kept) (a b m n : ℕ) → IsNodeFor d a m → IsNodeFor d b n → (told : Bool) → IsTrue told ↔ diagrams.Follows d m n → (s : System) → diagrams.AreDiagramsOf d s → IsTrue told ↔ Follows s a b
nodes_told d a b m n first second told is s are = (
  λ h holds f. (second.exact s are holds).0 (is.0 h holds ((first.exact s are holds).1 f)),
  λ follows. is.1 (λ holds t. (second.exact s are holds).1 (follows holds ((first.exact s are holds).0 t))),
)

-- ---- few atoms of two equations
few_is : (P Q : Atom → Type 0) (xs ys : List Atom) → HasAtoms P xs → HasAtoms Q ys → AreFew (IsInEither xs ys) ↔ AreFew (λ a. P a ⊎ Q a)
few_is P Q xs ys p q = (
  λ few.
      let low = few.few in
      let first = no_more xs few.atoms p.different (λ a c. few.all a (inl c)) in
      let second = no_more ys few.atoms q.different (λ a c. few.all a (inr c)) in
      record {
        atoms = few.atoms;
        all = λ a either. elim either [
          | inl h ↦ few.all a (inl (p.there (omega arith) a h))
          | inr h ↦ few.all a (inr (q.there (omega arith) a h))
        ];
        few = few.few;
      },
  λ few. record {
    atoms = few.atoms;
    all = λ a either. elim either [
      | inl c ↦ few.all a (inl (p.from a c))
      | inr c ↦ few.all a (inr (q.from a c))
    ];
    few = few.few;
  },
)

-- few of both are few of each
few_each : (xs ys : List Atom) → AreDifferent xs → AreDifferent ys → AreFew (IsInEither xs ys) → (length xs ≤ ATOMS) × (length ys ≤ ATOMS)
few_each xs ys p q few =
    let low = few.few in
    let first = no_more xs few.atoms p (λ a c. few.all a (inl c)) in
    let second = no_more ys few.atoms q (λ a c. few.all a (inr c)) in
    (omega arith, omega arith)

module _ (s : System) (x y : ℕ) where
  -- what is refuted
  pub implies_not : ((AreFew (StandsInOne s x y)) → ((holds : Assignment) → Fires s holds x → Fires s holds y) → ⊥) → (x ≡ y → ⊥) → IsTrue false ↔ Implies s x y
  implies_not refuted differ = (
    λ h. absurd (false≢true h),
    λ h. elim h [
      | inl same ↦ absurd (differ same)
      | inr entails ↦ absurd (refuted entails.few entails.fires)
    ],
  )

  -- what is told of the formulas, and whether they have few atoms
  pub implies_by : (x ≡ y → ⊥) → (told few : Bool) → IsTrue told ↔ Follows s x y → IsTrue few ↔ AreFew (StandsInOne s x y) → IsTrue (told && few) ↔ Implies s x y
  implies_by differ told few follows is = (
    λ h.
        let yes = (both_true told few).0 h in
        inr (record { few = is.0 yes.1; fires = follows.0 yes.0 }),
    λ h. elim h [
      | inl same ↦ absurd (differ same)
      | inr entails ↦ (both_true told few).1 (follows.1 entails.fires, is.1 entails.few)
    ],
  )

  -- the same, where they have few
  pub implies_few : (x ≡ y → ⊥) → (told few : Bool) → few ≡ true → IsTrue told ↔ Follows s x y → IsTrue few ↔ AreFew (StandsInOne s x y) → IsTrue told ↔ Implies s x y
  implies_few differ told few is_few follows is = (
    λ h. inr (record { few = is.0 is_few; fires = follows.0 h }),
    λ h. elim h [
      | inl same ↦ absurd (differ same)
      | inr entails ↦ follows.1 entails.fires
    ],
  )

  -- whether two equations may meet, by whether they do and whether they have few atoms
  pub together_by : (met few : Bool) → IsTrue met ↔ AreMet s x y → IsTrue few ↔ AreFew (StandsInOne s x y) → IsTrue (met || not few) ↔ Together s x y
  together_by true few is_met is_few = (λ h. inr (is_met.0 refl), λ h. refl)
  together_by false true is_met is_few = (
    λ h. absurd (false≢true h),
    λ h. elim h [
      | inl many ↦ absurd (many (is_few.0 refl))
      | inr met ↦ absurd (false≢true (is_met.1 met))
    ],
  )
  together_by false false is_met is_few = (λ h. inl (λ f. false≢true (is_few.1 f)), λ h. refl)

  -- whether they meet, by the formulas that are true where all but the start is
  pub met_by : (zero_x zero_y later_x later_y : Bool) → IsTrue zero_x ↔ Fires s (all_but_start true) x → IsTrue zero_y ↔ Fires s (all_but_start true) y → IsTrue later_x ↔ Fires s (all_but_start false) x → IsTrue later_y ↔ Fires s (all_but_start false) y → IsTrue ((zero_x && zero_y) || (later_x && later_y)) ↔ AreMet s x y
  met_by zero_x zero_y later_x later_y p q r t = (
    λ h. (met_is s x y).1 (elim ((either_true (zero_x && zero_y) (later_x && later_y)).0 h) [
      | inl zero ↦ let both = (both_true zero_x zero_y).0 zero in inl (p.0 both.0, q.0 both.1)
      | inr later ↦ let both = (both_true later_x later_y).0 later in inr (r.0 both.0, t.0 both.1)
    ]),
    λ met. (either_true (zero_x && zero_y) (later_x && later_y)).1 (elim ((met_is s x y).0 met) [
      | inl zero ↦ inl ((both_true zero_x zero_y).1 (p.1 zero.0, q.1 zero.1))
      | inr later ↦ inr ((both_true later_x later_y).1 (r.1 later.0, t.1 later.1))
    ]),
  )

-- ---- what is kept, as the questions read it
module _ (rules : List Rule) (starts : List Bool) (atoms : List (List Atom)) (at_zero later : Side) (kept : IsKept rules starts atoms at_zero later) (a b : ℕ) (a_low : a < length rules) (b_low : b < length rules) where
  module _ (s : System) (are : AreRulesOf rules s) where
    has : (x : ℕ) → x < length rules → HasAtoms (Stands s x) (atoms_at atoms x)
    has x low = has_stands s rules are starts (kept.starts_are s are) x (atoms_at atoms x) (kept.atoms_are x low)

    pub pair_few : AreFew (IsInEither (atoms_at atoms a) (atoms_at atoms b)) ↔ AreFew (StandsInOne s a b)
    pair_few = few_is (Stands s a) (Stands s b) (atoms_at atoms a) (atoms_at atoms b) (has a a_low) (has b b_low)

    pub pair_each : AreFew (StandsInOne s a b) → (length (atoms_at atoms a) ≤ ATOMS) × (length (atoms_at atoms b) ≤ ATOMS)
    pair_each few = few_each (atoms_at atoms a) (atoms_at atoms b) (kept.atoms_are a a_low).different (kept.atoms_are b b_low).different (pair_few.1 few)

    fires : (zero : Bool) (side : Side) → IsSideOf zero rules starts side → (x : ℕ) → x < length rules → IsTrue (is_marked side.met.items x) ↔ Fires s (all_but_start zero) x
    fires zero side of x low = trans (of.met_are x low) (fires_is s rules are starts (kept.starts_are s are) (all_but_start zero) x)

    pub pair_met : IsTrue ((is_marked at_zero.met.items a && is_marked at_zero.met.items b) || (is_marked later.met.items a && is_marked later.met.items b)) ↔ AreMet s a b
    pair_met =
        met_by s a b (is_marked at_zero.met.items a) (is_marked at_zero.met.items b) (is_marked later.met.items a) (is_marked later.met.items b)
        (fires true at_zero kept.zero_of a a_low) (fires true at_zero kept.zero_of b b_low) (fires false later kept.later_of a a_low) (fires false later kept.later_of b b_low)

    pub pair_follows : (GateImplies at_zero.implied (gate_at at_zero.gates.items a) (gate_at at_zero.gates.items b) × GateImplies later.implied (gate_at later.gates.items a) (gate_at later.gates.items b)) ↔ ((holds : Assignment) → Fires s holds a → Fires s holds b)
    pair_follows = follows_is s rules are starts kept.starts_are a b a_low b_low at_zero.implied later.implied at_zero.gates.items later.gates.items kept.zero_of.circuit_of kept.later_of.circuit_of

  -- what was found after 0 and at 0
  pub pair_found : (second first : Option Bool) → IfSome second (λ r. IsTrue r ↔ GateImplies later.implied (gate_at later.gates.items a) (gate_at later.gates.items b)) → IfSome first (λ r. IsTrue r ↔ GateImplies at_zero.implied (gate_at at_zero.gates.items a) (gate_at at_zero.gates.items b)) → (now : List Rule) → rules ≡ now → IfSome (both second first) (λ r. (s : System) → AreRulesOf now s → IsTrue r ↔ Follows s a b)
  pair_found second first in_later in_zero now same = told_of_each (AreRulesOf now) (λ s. Follows s a b) (both second first) (λ s are.
      both_told (GateImplies later.implied (gate_at later.gates.items a) (gate_at later.gates.items b)) (GateImplies at_zero.implied (gate_at at_zero.gates.items a) (gate_at at_zero.gates.items b)) (Follows s a b) second first in_later in_zero (pair_follows s (same ∙ are)))

  -- whether they have few atoms, as it is told of the lists that are read
  module _ (seen : List (List Atom)) (is : seen ≡ atoms) (told : Bool) where
    pub few_told : IsTrue told ↔ AreFew (IsInEither (atoms_at seen a) (atoms_at seen b)) → (s : System) → AreRulesOf rules s → IsTrue told ↔ AreFew (StandsInOne s a b)
    few_told says s are = trans (subst (λ l. IsTrue told ↔ AreFew (IsInEither (atoms_at l a) (atoms_at l b))) is says) (pair_few s are)

    pub each_told : IsTrue told ↔ ((length (atoms_at seen a) ≤ ATOMS) × (length (atoms_at seen b) ≤ ATOMS)) → told ≡ false → (s : System) → AreRulesOf rules s → AreFew (StandsInOne s a b) → ⊥
    each_told says not s are few =
        let each = pair_each s are few in
        false≢true (sym not ∙ (subst (λ l. IsTrue told ↔ ((length (atoms_at l a) ≤ ATOMS) × (length (atoms_at l b) ≤ ATOMS))) is says).1 each)

-- an order to run the system in is one of its rules
pub order_told : (s : System) (rules seen : List Rule) (order seen_order : List ℕ) → AreRulesOf rules s → seen ≡ rules → seen_order ≡ order → IsRunOrder s order → IsOrder seen seen_order
order_told s rules seen order seen_order are is same run = subst (λ rs. IsOrder rs seen_order) (sym (is ∙ are)) (order_from s seen_order (subst (IsRunOrder s) (sym same) run))
