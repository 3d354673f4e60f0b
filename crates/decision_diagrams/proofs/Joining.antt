-- The node of two nodes.
use Rattle.std.proofs.Common.{◌≡◌, ℕ, ◌<◌, ◌==◌, Bool, true, false, cond, ◌&&◌, ◌||◌, if◌then◌else◌, List, Some, None, refl, sym, ap, subst, ◌∙◌, inl, inr, arith}
use Rattle.std.proofs.lemmas.Bool.{cases_Bool, true≢false, false≢true, eqb-true}
use Rattle.std.proofs.lemmas.Option.{same_Some}
use Rattle.indexmap.specs.IndexMap.{IndexMap, get}
use Rattle.decision_diagrams.specs.declared.arena.Branch.{Branch}
use Rattle.decision_diagrams.specs.declared.join.Connective.{Connective}
use Rattle.decision_diagrams.specs.declared.join.Connective.TheVariants as connective
use Rattle.decision_diagrams.specs.declared.join.Pair.{Pair}
use Rattle.decision_diagrams.specs.declared.join.Split.{Split}
use Rattle.decision_diagrams.specs.inner.DecisionTree.{Valuation, value, IsAfter}
use Rattle.decision_diagrams.specs.inner.Arena.{tree_at, IsNode, Grows}
use Rattle.decision_diagrams.specs.inner.Join.{connected, settled, same_pair, AreNodes, AreJoined, IsJoin, IsSplit}
use Rattle.decision_diagrams.proofs.Nodes.{no_is, yes_is, grows_on, both}

-- ---- where no branch is looked at
and_no : (p q : Bool) → p ≡ false → false ≡ (p && q)
and_no true q e = absurd (true≢false e)
and_no false q e = refl

and_no_second : (p q : Bool) → q ≡ false → false ≡ (p && q)
and_no_second true q e = sym e
and_no_second false q e = refl

and_yes : (p q : Bool) → p ≡ true → q ≡ (p && q)
and_yes true q e = refl
and_yes false q e = absurd (false≢true e)

and_yes_second : (p q : Bool) → q ≡ true → p ≡ (p && q)
and_yes_second true q e = sym e
and_yes_second false q e = refl

or_yes : (p q : Bool) → p ≡ true → true ≡ (p || q)
or_yes true q e = refl
or_yes false q e = absurd (false≢true e)

or_yes_second : (p q : Bool) → q ≡ true → true ≡ (p || q)
or_yes_second true q e = refl
or_yes_second false q e = sym e

or_no : (p q : Bool) → p ≡ false → q ≡ (p || q)
or_no true q e = absurd (true≢false e)
or_no false q e = refl

or_no_second : (p q : Bool) → q ≡ false → p ≡ (p || q)
or_no_second true q e = refl
or_no_second false q e = sym e

pub value_no : (bs : List Branch) (n : ℕ) (v : Valuation) → n ≡ 0 → value v (tree_at bs n) ≡ false
value_no bs n v e = ap (value v) (ap (tree_at bs) e ∙ no_is bs)

pub value_yes : (bs : List Branch) (n : ℕ) (v : Valuation) → n ≡ 1 → value v (tree_at bs n) ≡ true
value_yes bs n v e = ap (value v) (ap (tree_at bs) e ∙ yes_is bs)

module _ (bs : List Branch) (p : Pair) (nodes : AreNodes bs p) where
  join_no : (c : Connective) → ((v : Valuation) → false ≡ connected c (value v (tree_at bs p.first)) (value v (tree_at bs p.second))) → IsJoin c bs p 0
  join_no c same = record { there = omega arith; exact = λ v. ap (value v) (no_is bs) ∙ same v; deeper = λ x f s. subst (IsAfter x) (sym (no_is bs)) tt }

  join_yes : (c : Connective) → ((v : Valuation) → true ≡ connected c (value v (tree_at bs p.first)) (value v (tree_at bs p.second))) → IsJoin c bs p 1
  join_yes c same = record { there = omega arith; exact = λ v. ap (value v) (yes_is bs) ∙ same v; deeper = λ x f s. subst (IsAfter x) (sym (yes_is bs)) tt }

  join_first : (c : Connective) → ((v : Valuation) → value v (tree_at bs p.first) ≡ connected c (value v (tree_at bs p.first)) (value v (tree_at bs p.second))) → IsJoin c bs p p.first
  join_first c same = record { there = nodes.0; exact = same; deeper = λ x f s. f }

  join_second : (c : Connective) → ((v : Valuation) → value v (tree_at bs p.second) ≡ connected c (value v (tree_at bs p.first)) (value v (tree_at bs p.second))) → IsJoin c bs p p.second
  join_second c same = record { there = nodes.1; exact = same; deeper = λ x f s. s }

  and_by : (a0 b0 a1 b1 : Bool) (n : ℕ) → (a0 ≡ true → p.first ≡ 0) → (b0 ≡ true → p.second ≡ 0) → (a1 ≡ true → p.first ≡ 1) → (b1 ≡ true → p.second ≡ 1) → (if a0 || b0 then Some 0 else if a1 then Some p.second else if b1 then Some p.first else None) ≡ Some n → IsJoin connective.And bs p n
  and_by true b0 a1 b1 n f g h k e = subst (IsJoin connective.And bs p) (same_Some 0 n e) (join_no connective.And (λ v. and_no (value v (tree_at bs p.first)) (value v (tree_at bs p.second)) (value_no bs p.first v (f refl))))
  and_by false true a1 b1 n f g h k e = subst (IsJoin connective.And bs p) (same_Some 0 n e) (join_no connective.And (λ v. and_no_second (value v (tree_at bs p.first)) (value v (tree_at bs p.second)) (value_no bs p.second v (g refl))))
  and_by false false true b1 n f g h k e = subst (IsJoin connective.And bs p) (same_Some p.second n e) (join_second connective.And (λ v. and_yes (value v (tree_at bs p.first)) (value v (tree_at bs p.second)) (value_yes bs p.first v (h refl))))
  and_by false false false true n f g h k e = subst (IsJoin connective.And bs p) (same_Some p.first n e) (join_first connective.And (λ v. and_yes_second (value v (tree_at bs p.first)) (value v (tree_at bs p.second)) (value_yes bs p.second v (k refl))))
  and_by false false false false n f g h k e = cc

  or_by : (a1 b1 a0 b0 : Bool) (n : ℕ) → (a1 ≡ true → p.first ≡ 1) → (b1 ≡ true → p.second ≡ 1) → (a0 ≡ true → p.first ≡ 0) → (b0 ≡ true → p.second ≡ 0) → (if a1 || b1 then Some 1 else if a0 then Some p.second else if b0 then Some p.first else None) ≡ Some n → IsJoin connective.Or bs p n
  or_by true b1 a0 b0 n f g h k e = subst (IsJoin connective.Or bs p) (same_Some 1 n e) (join_yes connective.Or (λ v. or_yes (value v (tree_at bs p.first)) (value v (tree_at bs p.second)) (value_yes bs p.first v (f refl))))
  or_by false true a0 b0 n f g h k e = subst (IsJoin connective.Or bs p) (same_Some 1 n e) (join_yes connective.Or (λ v. or_yes_second (value v (tree_at bs p.first)) (value v (tree_at bs p.second)) (value_yes bs p.second v (g refl))))
  or_by false false true b0 n f g h k e = subst (IsJoin connective.Or bs p) (same_Some p.second n e) (join_second connective.Or (λ v. or_no (value v (tree_at bs p.first)) (value v (tree_at bs p.second)) (value_no bs p.first v (h refl))))
  or_by false false false true n f g h k e = subst (IsJoin connective.Or bs p) (same_Some p.first n e) (join_first connective.Or (λ v. or_no_second (value v (tree_at bs p.first)) (value v (tree_at bs p.second)) (value_no bs p.second v (k refl))))
  or_by false false false false n f g h k e = cc

  pub settled_is : (c : Connective) (n : ℕ) → settled c p ≡ Some n → IsJoin c bs p n
  settled_is connective.And n e = and_by (p.first == 0) (p.second == 0) (p.first == 1) (p.second == 1) n (eqb-true p.first 0) (eqb-true p.second 0) (eqb-true p.first 1) (eqb-true p.second 1) e
  settled_is connective.Or n e = or_by (p.first == 1) (p.second == 1) (p.first == 0) (p.second == 0) n (eqb-true p.first 1) (eqb-true p.second 1) (eqb-true p.first 0) (eqb-true p.second 0) e

-- ---- more nodes
value_kept : (a b : List Branch) (n : ℕ) (v : Valuation) → Grows a b → IsNode a n → value v (tree_at b n) ≡ value v (tree_at a n)
value_kept a b n v grows node = ap (value v) (grows.kept n node)

pub nodes_on : (a b : List Branch) (p : Pair) → Grows a b → AreNodes a p → AreNodes b p
nodes_on a b p grows nodes = let m = grows.many in ((let f = nodes.0 in omega arith), (let s = nodes.1 in omega arith))

connected_same : (c : Connective) (p q r s : Bool) → p ≡ r → q ≡ s → connected c p q ≡ connected c r s
connected_same c p q r s e f = λ i. connected c (e i) (f i)

pub join_on : (c : Connective) (a b : List Branch) (p : Pair) (n : ℕ) → Grows a b → AreNodes a p → IsJoin c a p n → IsJoin c b p n
join_on c a b p n grows nodes join = record {
  there = (let m = grows.many in let t = join.there in omega arith);
  exact = λ v.
      value_kept a b n v grows join.there ∙ join.exact v
      ∙ connected_same c (value v (tree_at a p.first)) (value v (tree_at a p.second)) (value v (tree_at b p.first)) (value v (tree_at b p.second)) (sym (value_kept a b p.first v grows nodes.0)) (sym (value_kept a b p.second v grows nodes.1));
  deeper = λ x f s. subst (IsAfter x) (sym (grows.kept n join.there)) (join.deeper x (subst (IsAfter x) (grows.kept p.first nodes.0) f) (subst (IsAfter x) (grows.kept p.second nodes.1) s));
}

pub join_after : (c : Connective) (a b d : List Branch) (x : ℕ) (q : Pair) (n : ℕ) → Grows a b → Grows b d → AreNodes a q → IsAfter x (tree_at a q.first) × IsAfter x (tree_at a q.second) → IsJoin c b q n → IsAfter x (tree_at d n)
join_after c a b d x q n one two nodes deeper join =
    subst (IsAfter x) (sym (two.kept n join.there)) (join.deeper x (subst (IsAfter x) (sym (one.kept q.first nodes.0)) deeper.0) (subst (IsAfter x) (sym (one.kept q.second nodes.1)) deeper.1))

spread : (c : Connective) (b p q r s : Bool) → (if b then connected c p q else connected c r s) ≡ connected c (if b then p else r) (if b then q else s)
spread c true p q r s = refl
spread c false p q r s = refl

chosen : (b p q r s : Bool) → p ≡ r → q ≡ s → (if b then p else q) ≡ (if b then r else s)
chosen true p q r s e f = e
chosen false p q r s e f = f

-- the step of the recursion
module _ (c : Connective) (a b d e : List Branch) (p : Pair) (s : Split) (low high node : ℕ) (nodes : AreNodes a p) (split : IsSplit a p s) (one : Grows a b) (two : Grows b d) (three : Grows d e) (lows : IsJoin c b s.low low) (highs : IsJoin c d s.high high) (there : IsNode e node) (exact : (v : Valuation) → value v (tree_at e node) ≡ (if v s.variable then value v (tree_at d high) else value v (tree_at d low))) (deeper : (x : ℕ) → x < s.variable → IsAfter x (tree_at e node)) where
  abbrev at : Valuation → List Branch → ℕ → Bool
  at v l n = value v (tree_at l n)

  low_is : (v : Valuation) → at v d low ≡ connected c (at v a s.low.first) (at v a s.low.second)
  low_is v = value_kept b d low v two lows.there ∙ lows.exact v ∙ connected_same c _ _ _ _ (value_kept a b s.low.first v one split.low.0) (value_kept a b s.low.second v one split.low.1)

  high_is : (v : Valuation) → at v d high ≡ connected c (at v a s.high.first) (at v a s.high.second)
  high_is v = highs.exact v ∙ connected_same c _ _ _ _ (value_kept a d s.high.first v (grows_on a b d one two) split.high.0) (value_kept a d s.high.second v (grows_on a b d one two) split.high.1)

  all_on : Grows a e
  all_on = grows_on a b e one (grows_on b d e two three)

  pub joined_is : IsJoin c e p node
  joined_is = record {
    there = there;
    exact = λ v.
        exact v ∙ chosen (v s.variable) _ _ _ _ (high_is v) (low_is v) ∙ spread c (v s.variable) (at v a s.high.first) (at v a s.high.second) (at v a s.low.first) (at v a s.low.second)
        ∙ connected_same c _ _ _ _ (sym (split.first v)) (sym (split.second v))
        ∙ connected_same c _ _ _ _ (sym (value_kept a e p.first v all_on nodes.0)) (sym (value_kept a e p.second v all_on nodes.1));
    deeper = λ x f g. deeper x (split.before x (subst (IsAfter x) (all_on.kept p.first nodes.0) f) (subst (IsAfter x) (all_on.kept p.second nodes.1) g));
  }

-- ---- what is known
pub pair_to : (p q : Pair) → same_pair p q ≡ true → p ≡ q
pair_to p q e =
    let it = both (p.first == q.first) (p.second == q.second) e in
    let f = eqb-true p.first q.first it.0 in
    let g = eqb-true p.second q.second it.1 in
    λ i. record { first = f i; second = g i }

pub known_more : {S : Type 0} (c : Connective) (a b : List Branch) (old new : IndexMap Pair ℕ S) (p : Pair) (n : ℕ) → Grows a b → AreJoined c a old → AreNodes b p → IsJoin c b p n → ((q : Pair) → get same_pair new q ≡ cond (same_pair p q) (Some n) (get same_pair old q)) → AreJoined c b new
known_more c a b old new p n grows known nodes join updates q m found = elim (cases_Bool (same_pair p q)) [
  | inl same ↦
      let is : Some n ≡ Some m = sym (ap (λ t. cond t (Some n) (get same_pair old q)) same) ∙ sym (updates q) ∙ found in
      let number : n ≡ m = cc in
      let it : AreNodes b p × IsJoin c b p m = (nodes, subst (IsJoin c b p) number join) in
      subst (λ r. AreNodes b r × IsJoin c b r m) (pair_to p q same) it
  | inr other ↦
      let it = known q m (sym (ap (λ t. cond t (Some n) (get same_pair old q)) other) ∙ sym (updates q) ∙ found) in
      (nodes_on a b q grows it.0, join_on c a b q m grows it.0 it.1)
]
