-- The finite maps and sets that ordered collections hold.
use Rattle.std.proofs.Common.{◌≡◌, ◌+◌, Bool, true, false, ◌||◌, ◌&&◌, not, cond, List, [], ◌∷◌, Some, None, map, length, refl, sym, ap, subst, ◌∙◌, arith}
use Rattle.std.specs.BTreeMap.{is_at}
use Rattle.std.specs.FinMap as finite_map
use Rattle.std.specs.FinMap.{FinMap, IsAntisymmetric}
use Rattle.std.specs.FinSet as set
use Rattle.std.specs.Cmp.{Equal-is, IsTotalOrder, eq_by_cmp_equiv}
use Rattle.std.specs.Map.{keys_of, lookup}
use Rattle.std.specs.List.{list_any, AllByRecursion}
use Rattle.std.specs.List.Sorted.{IsStrictlySortedBy}
use Rattle.std.specs.Ordering.{eq_by_cmp}
use Rattle.std.specs.declared.cmp.Ordering.{Ordering}
use Rattle.std.specs.declared.cmp.Ordering.TheVariants.{Less}
use Rattle.std.proofs.lemmas.Map.Keys.{IsDistinct-from_sorted, IsDistinct-head, Less-from_sorted, sorted_tail}
use Rattle.lift_func.proofs.FiniteMaps.{entries-empty, get-of_entries, is_remove}

-- ---- one change

module _ {K X : Type 0} {R : K → K → Ordering} (o : IsTotalOrder R) (same : IsAntisymmetric R) where
  pub is_insert : (a b : FinMap R X) (k : K) (v : X) → ((q : K) → finite_map.get b q ≡ cond (eq_by_cmp R k q) (Some v) (finite_map.get a q)) → b ≡ finite_map.insert a k v
  is_insert a b k v is = finite_map.same_map o same b (finite_map.insert a k v) (λ q.
      is q ∙ ap (λ t. cond t (Some v) (finite_map.get a q)) ((eq_by_cmp_equiv o).symm k q) ∙ sym (finite_map.get-insert o a k v q))

true_or : (b x : Bool) → cond b true x ≡ (b || x)
true_or true x = refl
true_or false x = refl

not_and : (b x : Bool) → cond b false x ≡ (not b && x)
not_and true x = refl
not_and false x = refl

moved : (a b c : Bool) → ((a || b) || c) ≡ (b || (a || c))
moved true true c = refl
moved true false c = refl
moved false b c = refl

or-false : (a : Bool) → (a || false) ≡ a
or-false true = refl
or-false false = refl

-- ---- a map's entries, and a set's keys

first_put : {K X : Type 0} (R : K → K → Ordering) (k : K) (v : X) (e : K × X) (es : List (K × X)) → R k e.0 ≡ Less → finite_map.put R k v (e ∷ es) ≡ (k, v) ∷ e ∷ es
first_put R k v e es less = rw less refl

-- ---- a set as a map

abbrev pub marks : {K : Type 0} → List K → List (K × Unit {0})
marks ks = map (λ k. (k, tt)) ks

pub find-marks : {K : Type 0} (R : K → K → Ordering) (q : K) (ks : List K) → finite_map.find R q (marks ks) ≡ cond (list_any (eq_by_cmp R q) ks) (Some tt) None
find-marks R q [] = refl
find-marks R q (k ∷ ks) = elim (eq_by_cmp R q k) as (λ b. cond b (Some tt) (finite_map.find R q (marks ks)) ≡ cond (b || list_any (eq_by_cmp R q) ks) (Some tt) None) [ true ↦ refl | false ↦ find-marks R q ks ]

keys-marks : {K : Type 0} (ks : List K) → keys_of (marks ks) ≡ ks
keys-marks [] = refl
keys-marks (k ∷ ks) = ap (λ ns. k ∷ ns) (keys-marks ks)

module _ {K : Type 0} {R : K → K → Ordering} (o : IsTotalOrder R) where
  module _ {X : Type 0} where
    -- the entries of a map in order are those that it was made of
    pub entries-of_entries : (es : List (K × X)) → IsStrictlySortedBy R (keys_of es) → finite_map.entries (finite_map.from_entries {R = R} es) ≡ es
    entries-of_entries [] ordered = entries-empty R X
    entries-of_entries (e ∷ []) ordered =
        finite_map.entries-insert o finite_map.empty e.0 e.1 ∙ ap (finite_map.put R e.0 e.1) (entries-empty R X)
    entries-of_entries (e ∷ f ∷ es) ordered =
        finite_map.entries-insert o _ e.0 e.1
        ∙ ap (finite_map.put R e.0 e.1) (entries-of_entries (f ∷ es) (sorted_tail R e.0 (keys_of (f ∷ es)) ordered))
        ∙ first_put R e.0 e.1 f es (Less-from_sorted R (keys_of (e ∷ f ∷ es)) 0 1 e.0 ordered (omega arith) (omega arith))

    pub len-of_entries : (es : List (K × X)) → IsStrictlySortedBy R (keys_of es) → finite_map.len (finite_map.from_entries {R = R} es) ≡ length es
    len-of_entries es ordered = finite_map.len-entries _ ∙ ap length (entries-of_entries es ordered)

  none_equal : (k : K) (ks : List K) → AllByRecursion (λ y. eq_by_cmp R k y ≡ false) ks → list_any (eq_by_cmp R k) ks ≡ false
  none_equal k [] apart = refl
  none_equal k (x ∷ ks) apart = ap (λ b. b || list_any (eq_by_cmp R k) ks) apart.0 ∙ none_equal k ks apart.1

  -- as many as the keys that a set was made of, where these ascend
  pub len-of_keys : (ks : List K) → IsStrictlySortedBy R ks → set.len (set.from_list {R = R} ks) ≡ length ks
  len-of_keys [] ordered = set.len-empty R
  len-of_keys (k ∷ ks) ordered =
      let new : set.contains (set.from_list {R = R} ks) k ≡ false = set.contains-from_list o ks k ∙ none_equal k ks (IsDistinct-head (eq_by_cmp R) k ks (IsDistinct-from_sorted R (k ∷ ks) ordered)) in
      set.len-insert o (set.from_list ks) k
      ∙ ap (λ b. cond b (set.len (set.from_list {R = R} ks)) (set.len (set.from_list {R = R} ks) + 1)) new
      ∙ ap (λ n. n + 1) (len-of_keys ks (sorted_tail R k ks ordered)) ∙ (omega arith)

  -- the keys of a set in order are those that it was made of
  pub keys-of_keys : IsAntisymmetric R → (ks : List K) → IsStrictlySortedBy R ks → finite_map.keys (finite_map.from_entries {R = R} (marks (set.items (set.from_list {R = R} ks)))) ≡ ks
  keys-of_keys same ks ordered =
      let items = set.items (set.from_list {R = R} ks) in
      let alike : finite_map.from_entries {R = R} (marks items) ≡ finite_map.from_entries (marks ks) = finite_map.same_map o same _ _ (λ q.
      finite_map.get-from_entries o (marks items) q ∙ find-marks R q items
      ∙ ap (λ b. cond b (Some tt) None) (sym (set.contains-items (set.from_list ks) q) ∙ set.contains-from_list o ks q)
      ∙ sym (finite_map.get-from_entries o (marks ks) q ∙ find-marks R q ks)) in
      ap finite_map.keys alike
      ∙ ap keys_of (entries-of_entries (marks ks) (subst (IsStrictlySortedBy R) (sym (keys-marks ks)) ordered))
      ∙ keys-marks ks

  -- ---- what the calls of ordered collections do

  module _ {X : Type 0} (same : IsAntisymmetric R) (old new : List (K × X)) (k : K) where
    pub table-insert : (v : X) → ((q : K) → lookup (is_at (R q)) new ≡ cond (eq_by_cmp R k q) (Some v) (lookup (is_at (R q)) old)) → finite_map.from_entries {R = R} new ≡ finite_map.insert (finite_map.from_entries old) k v
    table-insert v is = is_insert o same _ _ k v (λ q.
        get-of_entries o new q ∙ is q ∙ ap (cond (eq_by_cmp R k q) (Some v)) (sym (get-of_entries o old q)))

    pub table-remove : ((q : K) → lookup (is_at (R q)) new ≡ cond (eq_by_cmp R k q) None (lookup (is_at (R q)) old)) → finite_map.from_entries {R = R} new ≡ finite_map.remove (finite_map.from_entries old) k
    table-remove is = is_remove o same _ _ k (λ q.
        get-of_entries o new q ∙ is q ∙ ap (cond (eq_by_cmp R k q) None) (sym (get-of_entries o old q)))

  module _ (same : IsAntisymmetric R) (old new : List K) (k : K) where
    pub set-insert : ((q : K) → list_any (eq_by_cmp R q) new ≡ cond (eq_by_cmp R k q) true (list_any (eq_by_cmp R q) old)) → set.from_list {R = R} new ≡ set.insert (set.from_list old) k
    set-insert is = set.same_set o same _ _ (λ q.
        set.contains-from_list o new q ∙ is q ∙ true_or (eq_by_cmp R k q) _
        ∙ ap (λ b. b || list_any (eq_by_cmp R q) old) ((eq_by_cmp_equiv o).symm k q)
        ∙ sym (set.contains-insert o (set.from_list old) k q ∙ ap (λ b. eq_by_cmp R q k || b) (set.contains-from_list o old q)))

    pub set-remove : ((q : K) → list_any (eq_by_cmp R q) new ≡ cond (eq_by_cmp R k q) false (list_any (eq_by_cmp R q) old)) → set.from_list {R = R} new ≡ set.remove (set.from_list old) k
    set-remove is = set.same_set o same _ _ (λ q.
        set.contains-from_list o new q ∙ is q ∙ not_and (eq_by_cmp R k q) _
        ∙ ap (λ b. not b && list_any (eq_by_cmp R q) old) ((eq_by_cmp_equiv o).symm k q)
        ∙ sym (set.contains-remove o (set.from_list old) k q ∙ ap (λ b. not (eq_by_cmp R q k) && b) (set.contains-from_list o old q)))

  module _ (same : IsAntisymmetric R) (s : set.FinSet R) (k : K) where
    -- a key that is there, added again
    pub insert-present : set.contains s k ≡ true → set.insert s k ≡ s
    insert-present there = set.same_set o same (set.insert s k) s (λ q.
        set.contains-insert o s k q
        ∙ elim (eq_by_cmp R q k) as (λ b. eq_by_cmp R q k ≡ b → (b || set.contains s q) ≡ set.contains s q) [
          | true ↦ λ tied. sym there ∙ ap (set.contains s) (sym (same q k ((Equal-is (R q k)).0 tied)))
          | false ↦ λ _. refl
        ] refl)

    -- a key that is not there, taken out
    pub remove-absent : set.contains s k ≡ false → set.remove s k ≡ s
    remove-absent absent = set.same_set o same (set.remove s k) s (λ q.
        set.contains-remove o s k q
        ∙ elim (eq_by_cmp R q k) as (λ b. eq_by_cmp R q k ≡ b → (not b && set.contains s q) ≡ set.contains s q) [
          | true ↦ λ tied. sym absent ∙ ap (set.contains s) (sym (same q k ((Equal-is (R q k)).0 tied)))
          | false ↦ λ _. refl
        ] refl)

  module _ {X : Type 0} (same : IsAntisymmetric R) (m : FinMap R X) (k : K) where
    -- a key at which nothing stands, taken out
    pub table-without : finite_map.get m k ≡ None → finite_map.remove m k ≡ m
    table-without absent = finite_map.same_map o same (finite_map.remove m k) m (λ q.
        finite_map.get-remove o m k q
        ∙ elim (eq_by_cmp R q k) as (λ b. eq_by_cmp R q k ≡ b → cond b None (finite_map.get m q) ≡ finite_map.get m q) [
          | true ↦ λ tied. sym absent ∙ ap (finite_map.get m) (sym (same q k ((Equal-is (R q k)).0 tied)))
          | false ↦ λ _. refl
        ] refl)

  -- ---- a set to which the keys of a list are added, one after the other

  -- what a set has and what is left to be added make all
  abbrev pub Lacks : set.FinSet R → List K → List K → Type 0
  Lacks s left all = (q : K) → (set.contains s q || list_any (eq_by_cmp R q) left) ≡ list_any (eq_by_cmp R q) all

  pub lacks_all : (s : set.FinSet R) (left all : List K) → s ≡ set.empty → left ≡ all → Lacks s left all
  lacks_all s left all none same q =
      ap (λ t. set.contains t q || list_any (eq_by_cmp R q) left) none
      ∙ ap (λ b. b || list_any (eq_by_cmp R q) left) (set.contains-empty R q)
      ∙ ap (list_any (eq_by_cmp R q)) same

  pub lacks_less : (s t : set.FinSet R) (k : K) (left all : List K) → t ≡ set.insert s k → Lacks s (k ∷ left) all → Lacks t left all
  lacks_less s t k left all is lacks q =
      ap (λ u. set.contains u q || list_any (eq_by_cmp R q) left) is
      ∙ ap (λ b. b || list_any (eq_by_cmp R q) left) (set.contains-insert o s k q)
      ∙ moved (eq_by_cmp R q k) (set.contains s q) (list_any (eq_by_cmp R q) left)
      ∙ lacks q

  pub lacks_none : IsAntisymmetric R → (s : set.FinSet R) (left all : List K) → left ≡ [] → Lacks s left all → s ≡ set.from_list all
  lacks_none same s left all none lacks = set.same_set o same s (set.from_list all) (λ q.
      sym (or-false (set.contains s q))
      ∙ sym (ap (λ ks. set.contains s q || list_any (eq_by_cmp R q) ks) none)
      ∙ lacks q
      ∙ sym (set.contains-from_list o all q))
