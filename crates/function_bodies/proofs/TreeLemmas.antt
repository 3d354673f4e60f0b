-- Trees of one expression, where arguments and calls are alike.
use Rattle.std.proofs.Common.{◌≡◌, ℕ, Bool, true, false, if◌then◌else◌, List, [], ◌∷◌, ◌++◌, Option, Some, None, refl, sym, subst}
use Rattle.std.specs.Prelude.{slice_index_or}
use Rattle.std.specs.List.{AllZip, AllByRecursion}
use Rattle.std.specs.Option.{option_map_or}
use Rattle.std.proofs.lemmas.Slice.Eq.{bytes_eq-Decides}
use Rattle.tsl_value.specs.declared.scalar.Scalar.{Scalar}
use Rattle.tsl_value.specs.declared.scalar.Scalar.TheVariants as scalar
use Rattle.tsl_value.specs.declared.scalar.ValueType.{ValueType}
use Rattle.tsl_value.specs.declared.operation.Unary.{Unary}
use Rattle.tsl_value.specs.declared.operation.Unary.TheVariants as unary
use Rattle.tsl_value.specs.declared.operation.Binary.{Binary}
use Rattle.lift_func.specs.BodyTree.{BodyTree, Literal, Absent, One, Two, Choice}
use Rattle.syntax_tree.specs.Tree as tree
use Rattle.syntax_tree.specs.Tree.{Expr, Exprs, no_exprs, more_exprs, Links, no_links, more_links}
use Rattle.vocabulary.specs.declared.signature.Role.{Role}
use Rattle.vocabulary.specs.declared.signature.Role.TheVariants as role
use Rattle.vocabulary.specs.Table.{role_of}
use Rattle.vocabulary.specs.PlainTable.{plain_role, entries, look_up}
use Rattle.type_rules.specs.Written.{value_of}
use Rattle.name_check.specs.declared.declaration.Declaration.{Declaration}
use Rattle.name_check.specs.declared.declaration.Declaration.TheVariants as declaration
use Rattle.name_check.specs.Builtin.{is_lift, lift_name}
use Rattle.name_check.specs.Scope.{Scope, meaning, Agree}
use Rattle.name_check.specs.Parts.{Part, Operand, parts, argument_parts, lift_parts, link_parts}
use Rattle.spec_meaning.specs.Function.{no_tree, operation_of, comparison_of, role_tree, option_tree, absent, named_tree, call_tree, tree_of, trees_of, chain_tree}

-- ---- parts, where what is called is good
abbrev pub MayCall : (Option Declaration) → (ℕ → Type 0) → Type 0
MayCall (Some (declaration.Function j)) good = good j
MayCall d good = Unit {0}

abbrev pub IsGoodPart : Scope → (ℕ → Type 0) → Part → Type 0
IsGoodPart scope good (Operand (tree.Call p n es)) = MayCall (meaning scope n) good
IsGoodPart scope good p = Unit {0}

abbrev pub AreGood : Scope → (ℕ → Type 0) → List Part → Type 0
AreGood scope good ps = AllByRecursion (IsGoodPart scope good) ps

split : (scope : Scope) (good : ℕ → Type 0) (ps qs : List Part) → AreGood scope good (ps ++ qs) → AreGood scope good ps × AreGood scope good qs
split scope good [] qs h = (tt, h)
split scope good (p ∷ ps) qs h = let both = split scope good ps qs h.1 in ((h.0, both.0), both.1)

-- ---- a relation of trees that goes on from parts to the whole
pub record IsCongruence (R : BodyTree → BodyTree → Type 0) : Type 0 where
  pub literal : (s : Scalar) → R (Literal s) (Literal s)
  pub absent : (t : ValueType) → R (Absent t) (Absent t)
  pub one : (o : Unary) (a b : BodyTree) → R a b → R (One o a) (One o b)
  pub two : (o : Binary) (a b c d : BodyTree) → R a b → R c d → R (Two o a c) (Two o b d)
  pub choice : (a b c d e f : BodyTree) → R a b → R c d → R e f → R (Choice a c e) (Choice b d f)

absent_alike : (R : BodyTree → BodyTree → Type 0) → IsCongruence R → (t : Option ValueType) → R (absent t) (absent t)
absent_alike R r None = r.literal scalar.Unit
absent_alike R r (Some t) = r.absent t

role_alike : (R : BodyTree → BodyTree → Type 0) → IsCongruence R → (o : Role) (us vs : List BodyTree) → AllZip R us vs → R (role_tree o us) (role_tree o vs)
role_alike R r (role.Unary o) [] [] h = r.literal scalar.Unit
role_alike R r (role.Unary o) [] (x ∷ vs) h = absurd h
role_alike R r (role.Unary o) (a ∷ us) [] h = absurd h
role_alike R r (role.Unary o) (a ∷ []) (x ∷ []) h = r.one o a x h.0
role_alike R r (role.Unary o) (a ∷ []) (x ∷ y ∷ vs) h = absurd h.1
role_alike R r (role.Unary o) (a ∷ b ∷ us) (x ∷ []) h = absurd h.1
role_alike R r (role.Unary o) (a ∷ b ∷ us) (x ∷ y ∷ vs) h = r.literal scalar.Unit
role_alike R r (role.Binary o) [] [] h = r.literal scalar.Unit
role_alike R r (role.Binary o) [] (x ∷ vs) h = absurd h
role_alike R r (role.Binary o) (a ∷ us) [] h = absurd h
role_alike R r (role.Binary o) (a ∷ []) (x ∷ []) h = r.literal scalar.Unit
role_alike R r (role.Binary o) (a ∷ []) (x ∷ y ∷ vs) h = absurd h.1
role_alike R r (role.Binary o) (a ∷ b ∷ us) (x ∷ []) h = absurd h.1
role_alike R r (role.Binary o) (a ∷ b ∷ []) (x ∷ y ∷ []) h = r.two o a x b y h.0 h.1.0
role_alike R r (role.Binary o) (a ∷ b ∷ []) (x ∷ y ∷ z ∷ vs) h = absurd h.1.1
role_alike R r (role.Binary o) (a ∷ b ∷ c ∷ us) (x ∷ y ∷ []) h = absurd h.1.1
role_alike R r (role.Binary o) (a ∷ b ∷ c ∷ us) (x ∷ y ∷ z ∷ vs) h = r.literal scalar.Unit
role_alike R r (role.Update o) us vs h = r.literal scalar.Unit

option_alike : (R : BodyTree → BodyTree → Type 0) → IsCongruence R → (n : List ℕ) (a b : BodyTree) → R a b → R (option_tree n a) (option_tree n b)
option_alike R r n a b h = by (look_up (entries plain_role) n)
  where
    by : (o : Option Role) → R (option_map_or (λ x. role_tree x (a ∷ [])) o no_tree) (option_map_or (λ x. role_tree x (b ∷ [])) o no_tree)
    by None = r.literal scalar.Unit
    by (Some o) = role_alike R r o (a ∷ []) (b ∷ []) (h, tt)

-- ---- where names, arguments and calls are alike
pub record AreAlike (R : BodyTree → BodyTree → Type 0) (good : ℕ → Type 0) (from to : Scope) (args others : List BodyTree) (call other : ℕ → List BodyTree → BodyTree) : Type 0 where
  pub congruence : IsCongruence R
  pub names : Agree from to
  pub arguments : (n : List ℕ) (k : ℕ) → meaning from n ≡ Some (declaration.Parameter k) → R (slice_index_or args k no_tree) (slice_index_or others k no_tree)
  pub calls : (j : ℕ) → good j → (us vs : List BodyTree) → AllZip R us vs → R (call j us) (other j vs)
  pub no_lift : (j : ℕ) → meaning from lift_name ≡ Some (declaration.Function j) → ⊥

module _ (R : BodyTree → BodyTree → Type 0) (good : ℕ → Type 0) (from to : Scope) (args others : List BodyTree) (call other : ℕ → List BodyTree → BodyTree) (s : AreAlike R good from to args others call other) where
  named_by : (n : List ℕ) (d : Option Declaration) → meaning from n ≡ d → R (named_tree from args call d) (named_tree to others other d)
  named_by n (Some (declaration.Parameter k)) h = s.arguments n k h
  named_by n d h = s.congruence.literal scalar.Unit

  named_alike : (n : List ℕ) → R (named_tree from args call (meaning from n)) (named_tree to others other (meaning to n))
  named_alike n =
      let P : Option Declaration → Type 0 = λ d. R (named_tree from args call (meaning from n)) (named_tree to others other d) in
      subst P (s.names.at n) (named_by n (meaning from n) refl)

  called_none : (n : List ℕ) (us vs : List BodyTree) → AllZip R us vs → R (call_tree from args call None n us) (call_tree to others other None n vs)
  called_none n [] [] h = s.congruence.literal scalar.Unit
  called_none n [] (x ∷ vs) h = absurd h
  called_none n (a ∷ us) [] h = absurd h
  called_none n (a ∷ []) (x ∷ []) h = option_alike R s.congruence n a x h.0
  called_none n (a ∷ []) (x ∷ y ∷ vs) h = absurd h.1
  called_none n (a ∷ b ∷ us) (x ∷ []) h = absurd h.1
  called_none n (a ∷ b ∷ us) (x ∷ y ∷ vs) h = s.congruence.literal scalar.Unit

  called_by : (n : List ℕ) (us vs : List BodyTree) (d : Option Declaration) → MayCall d good → AllZip R us vs → R (call_tree from args call d n us) (call_tree to others other d n vs)
  called_by n us vs None may h = called_none n us vs h
  called_by n us vs (Some (declaration.Function j)) may h = s.calls j may us vs h
  called_by n us vs (Some d) may h = s.congruence.literal scalar.Unit

  called_alike : (n : List ℕ) (us vs : List BodyTree) → MayCall (meaning from n) good → AllZip R us vs → R (call_tree from args call (meaning from n) n us) (call_tree to others other (meaning to n) n vs)
  called_alike n us vs may h =
      let P : Option Declaration → Type 0 = λ d. R (call_tree from args call (meaning from n) n us) (call_tree to others other d n vs) in
      subst P (s.names.at n) (called_by n us vs (meaning from n) may h)

  -- `lift` gives nothing in a value function
  lifted_none : (es : Exprs) → R (call_tree from args call None lift_name (trees_of from args call es)) (call_tree to others other None lift_name (trees_of to others other es))
  lifted_none no_exprs = s.congruence.literal scalar.Unit
  lifted_none (more_exprs e no_exprs) = s.congruence.literal scalar.Unit
  lifted_none (more_exprs e (more_exprs f es)) = s.congruence.literal scalar.Unit

  lifted_by : (es : Exprs) (d : Option Declaration) → meaning from lift_name ≡ d → R (call_tree from args call d lift_name (trees_of from args call es)) (call_tree to others other d lift_name (trees_of to others other es))
  lifted_by es None h = lifted_none es
  lifted_by es (Some (declaration.Function j)) h = absurd (s.no_lift j h)
  lifted_by es (Some d) h = s.congruence.literal scalar.Unit

  lifted_at : (es : Exprs) → R (call_tree from args call (meaning from lift_name) lift_name (trees_of from args call es)) (call_tree to others other (meaning to lift_name) lift_name (trees_of to others other es))
  lifted_at es =
      let P : Option Declaration → Type 0 = λ d. R (call_tree from args call (meaning from lift_name) lift_name (trees_of from args call es)) (call_tree to others other d lift_name (trees_of to others other es)) in
      subst P (s.names.at lift_name) (lifted_by es (meaning from lift_name) refl)

  is_the_name : (n : List ℕ) → is_lift n ≡ true → n ≡ lift_name
  unfolding is_lift
  is_the_name n h = (bytes_eq-Decides n lift_name).0 h

  lifted_alike : (n : List ℕ) (es : Exprs) → is_lift n ≡ true → R (call_tree from args call (meaning from n) n (trees_of from args call es)) (call_tree to others other (meaning to n) n (trees_of to others other es))
  lifted_alike n es h =
      let P : List ℕ → Type 0 = λ m. R (call_tree from args call (meaning from m) m (trees_of from args call es)) (call_tree to others other (meaning to m) m (trees_of to others other es)) in
      subst P (sym (is_the_name n h)) (lifted_at es)

  either : (n : List ℕ) (es : Exprs) (b : Bool) → is_lift n ≡ b → MayCall (meaning from n) good → AreGood from good (if b then lift_parts es else argument_parts es) → (AreGood from good (argument_parts es) → AllZip R (trees_of from args call es) (trees_of to others other es)) → R (call_tree from args call (meaning from n) n (trees_of from args call es)) (call_tree to others other (meaning to n) n (trees_of to others other es))
  either n es true is may h f = lifted_alike n es is
  either n es false is may h f = called_alike n _ _ may (f h)

  mutual
    alike : (e : Expr) → AreGood from good (parts e) → R (tree_of from args call e) (tree_of to others other e)
    alike (tree.If p c a b) h =
        let outer = split from good (parts c ++ parts a) (parts b) h.1 in
        let inner = split from good (parts c) (parts a) outer.0 in
        s.congruence.choice _ _ _ _ _ _ (alike c inner.0) (alike a inner.1) (alike b outer.1)
    alike (tree.Chain p l e ls) h =
        let both = split from good (parts e) (link_parts ls) h.1 in
        chain_alike ls _ _ (alike e both.0) both.1
    alike (tree.Compare p o a b) h =
        let both = split from good (parts a) (parts b) h.1 in
        s.congruence.two (comparison_of o) _ _ _ _ (alike a both.0) (alike b both.1)
    alike (tree.Negate p e) h = s.congruence.one unary.Neg _ _ (alike e h.1)
    alike (tree.Not p e) h = s.congruence.one unary.Not _ _ (alike e h.1)
    alike (tree.Number p n) h = s.congruence.literal _
    alike (tree.Negative p n) h = s.congruence.literal _
    alike (tree.Text p t) h = s.congruence.literal _
    alike (tree.Boolean p b) h = s.congruence.literal _
    alike (tree.Unit p) h = s.congruence.literal _
    alike (tree.Name p n) h = named_alike n
    alike (tree.Call p n es) h = either n es (is_lift n) refl h.0 h.1 (all_alike es)
    alike (tree.CallDotted p d es) h = role_alike R s.congruence (role_of d) _ _ (all_alike es h.1)
    alike (tree.Nil p y) h = s.congruence.literal _
    alike (tree.None p y) h = absent_alike R s.congruence (value_of y)
    alike (tree.Empty p a) h = s.congruence.literal _

    all_alike : (es : Exprs) → AreGood from good (argument_parts es) → AllZip R (trees_of from args call es) (trees_of to others other es)
    all_alike no_exprs h = tt
    all_alike (more_exprs e es) h =
        let both = split from good (parts e) (argument_parts es) h in
        (alike e both.0, all_alike es both.1)

    chain_alike : (ls : Links) (t u : BodyTree) → R t u → AreGood from good (link_parts ls) → R (chain_tree from args call t ls) (chain_tree to others other u ls)
    chain_alike no_links t u r h = r
    chain_alike (more_links o e ls) t u r h =
        let both = split from good (parts e) (link_parts ls) h in
        chain_alike ls _ _ (s.congruence.two (operation_of o) t u _ _ r (alike e both.0)) both.1

pub trees_alike : (R : BodyTree → BodyTree → Type 0) (good : ℕ → Type 0) (from to : Scope) (args others : List BodyTree) (call other : ℕ → List BodyTree → BodyTree) → AreAlike R good from to args others call other → (e : Expr) → AreGood from good (parts e) → R (tree_of from args call e) (tree_of to others other e)
trees_alike R good from to args others call other s e h = alike R good from to args others call other s e h
