-- Names that are declared twice, one item after the other.
use Rattle.std.proofs.Common.{◌≡◌, ℕ, suc, ◌+◌, ◌<◌, ◌≤◌, Bool, true, false, not, ◌||◌, ◌&&◌, cond, if◌then◌else◌, List, [], ◌∷◌, ◌++◌, map, length, get_or, drop, Option, Some, None, is_some, is_none, Result, Ok, Err, IfOk, refl, sym, ap, ◌∙◌, append_assoc, add-one, arith}
use Rattle.std.specs.Prelude.{IfNone}
use Rattle.std.specs.Option.{option_map}
use Rattle.std.specs.List.{find, list_any, list_all}
use Rattle.std.specs.Str.{bytes_eq}
use Rattle.std.specs.Cmp.Lexicographic.{nat_list_eq_equiv}
use Rattle.std.proofs.lemmas.List.{append-nil, drop_all}
use Rattle.std.proofs.lemmas.List.Folds.{list_all-map}
use Rattle.tsl_value.specs.declared.place.Place.{Place}
use Rattle.syntax_tree.specs.Tree as tree
use Rattle.syntax_tree.specs.declared.tree.Param.{Param}
use Rattle.syntax_tree.specs.declared.tree.Item.{Item}
use Rattle.syntax_tree.specs.inner.OneLevel.{param_of, params_in, definitions_of, item_of}
use Rattle.name_check.specs.declared.declaration.Declaration.{Declaration}
use Rattle.name_check.specs.declared.declaration.Declaration.TheVariants as declaration
use Rattle.name_check.specs.Builtin.{is_built_in}
use Rattle.name_check.specs.Scope.{Scope, Entry, meaning, declared_from, declared_as, is_events, are_values}
use Rattle.name_check.specs.Faults.{first, again, twice_in_params, twice_in_block, twice_from, declared_twice}
use Rattle.name_check.specs.inner.Steps.{names_onto, names_of, local_name, twice_in_local, declared_by, twice_in_item}
use Rattle.tsl_value.proofs.Lists.{left_at}
use Rattle.name_check.proofs.FirstLemmas.{list_any-map, first_after, first_of_front, empty_without_first}

-- ---- names so far
names_onto-append : (before : List (List ℕ)) (a b : Scope) → names_onto before (a ++ b) ≡ names_onto (names_onto before a) b
names_onto-append before [] b = refl
names_onto-append before (e ∷ es) b = names_onto-append (e.name ∷ before) es b

pub one_more_name : (s t : Scope) (n : List ℕ) (d : Declaration) → t ≡ s ++ record { name = n; is = d } ∷ [] → names_of t ≡ n ∷ names_of s
one_more_name s t n d h = ap names_of h ∙ names_onto-append [] s (record { name = n; is = d } ∷ [])

some_or : {A : Type 0} (o : Option A) (c : Bool) → (is_some o || true) ≡ true
some_or None c = refl
some_or (Some x) c = refl

shuffle : (b : Bool) (e : Entry) (o : Option Entry) (c : Bool) → (is_some (option_map (λ x. x.is) o) || (b || c)) ≡ (is_some (option_map (λ x. x.is) (cond b (Some e) o)) || c)
shuffle true e o c = some_or (option_map (λ x. x.is) o) c
shuffle false e o c = refl

any_name : (n : List ℕ) (before : List (List ℕ)) (s : Scope) → list_any (bytes_eq n) (names_onto before s) ≡ (is_some (meaning s n) || list_any (bytes_eq n) before)
any_name n before [] = refl
any_name n before (e ∷ es) =
    any_name n (e.name ∷ before) es
    ∙ ap (λ b. is_some (meaning es n) || (b || list_any (bytes_eq n) before)) (nat_list_eq_equiv.symm n e.name)
    ∙ shuffle (bytes_eq e.name n) e (find (λ x. bytes_eq x.name n) es) (list_any (bytes_eq n) before)

-- ---- one name
pub again_built_in : (before : List (List ℕ)) (p : Place) (n : List ℕ) → is_built_in n ≡ true → Some p ≡ first (again before p n)
again_built_in before p n h = sym (ap (λ b. first (if b || list_any (bytes_eq n) before then p ∷ [] else [])) h)

some_is_not_none : {A : Type 0} (o : Option A) → (is_some o || false) ≡ not (is_none o)
some_is_not_none None = refl
some_is_not_none (Some x) = refl

again_new : (s : Scope) (p : Place) (n : List ℕ) (new : Bool) → is_built_in n ≡ false → new ≡ is_none (meaning s n) → first (again (names_of s) p n) ≡ first (if not new then p ∷ [] else [])
again_new s p n new h k =
    ap (λ b. first (if b then p ∷ [] else []))
    (ap (λ b. b || list_any (bytes_eq n) (names_of s)) h ∙ any_name n [] s ∙ some_is_not_none (meaning s n) ∙ ap not (sym k))

pub is_new : (s : Scope) (p : Place) (n : List ℕ) (new : Bool) → is_built_in n ≡ false → new ≡ is_none (meaning s n) → new ≡ true → None ≡ first (again (names_of s) p n)
is_new s p n new h k is = sym (again_new s p n new h k ∙ ap (λ b. first (if not b then p ∷ [] else [])) is)

pub is_known : (s : Scope) (p : Place) (n : List ℕ) (new : Bool) → is_built_in n ≡ false → new ≡ is_none (meaning s n) → new ≡ false → Some p ≡ first (again (names_of s) p n)
is_known s p n new h k is = sym (again_new s p n new h k ∙ ap (λ b. first (if not b then p ∷ [] else [])) is)

pub added : (s t : Scope) (e : Entry) (new : Bool) → t ≡ (if new then s ++ e ∷ [] else s) → new ≡ true → t ≡ s ++ e ∷ []
added s t e new h is = h ∙ ap (λ b. if b then s ++ e ∷ [] else s) is

-- ---- a turn of a loop: what is left begins with the faults of one item
turn : (left one rest : List Place) (all : Option Place) → left ≡ one ++ rest → first left ≡ all → first one ≡ None → first rest ≡ all
turn left one rest all step done none = sym (ap first step ∙ first_after one rest none) ∙ done

hit : (left one rest : List Place) (all : Option Place) (p : Place) → left ≡ one ++ rest → first left ≡ all → first one ≡ Some p → Some p ≡ all
hit left one rest all p step done found = sym (ap first step ∙ first_of_front one rest p found) ∙ done

-- parameters
params_left : (before : List (List ℕ)) (ps : List Param) (i : ℕ) (p : Param) → i < length ps → p ≡ get_or ps i p → twice_in_params before (params_in (drop i ps)) ≡ again before p.place p.name ++ twice_in_params (p.name ∷ before) (params_in (drop (i + 1) ps))
params_left before ps i p h is = ap (λ l. twice_in_params before (params_in l)) (left_at ps i p h is)

pub params_turn : (ps : List Param) (i : ℕ) (p : Param) (s t : Scope) (d : Declaration) (all : Option Place) → i < length ps → p ≡ get_or ps i p → first (twice_in_params (names_of s) (params_in (drop i ps))) ≡ all → None ≡ first (again (names_of s) p.place p.name) → t ≡ s ++ record { name = p.name; is = d } ∷ [] → first (twice_in_params (names_of t) (params_in (drop (i + 1) ps))) ≡ all
params_turn ps i p s t d all h is done none more =
    ap (λ b. first (twice_in_params b (params_in (drop (i + 1) ps)))) (one_more_name s t p.name d more)
    ∙ turn (twice_in_params (names_of s) (params_in (drop i ps))) (again (names_of s) p.place p.name) (twice_in_params (p.name ∷ names_of s) (params_in (drop (i + 1) ps))) all (params_left (names_of s) ps i p h is) done (sym none)

pub params_hit : (ps : List Param) (i : ℕ) (p : Param) (s : Scope) (q : Place) (all : Option Place) → i < length ps → p ≡ get_or ps i p → first (twice_in_params (names_of s) (params_in (drop i ps))) ≡ all → Some q ≡ first (again (names_of s) p.place p.name) → Some q ≡ all
params_hit ps i p s q all h is done found =
    hit (twice_in_params (names_of s) (params_in (drop i ps))) (again (names_of s) p.place p.name) (twice_in_params (p.name ∷ names_of s) (params_in (drop (i + 1) ps))) all q (params_left (names_of s) ps i p h is) done (sym found)

pub params_end : (ps : List Param) (i : ℕ) (s : Scope) (all : Option Place) → length ps ≤ i → first (twice_in_params (names_of s) (params_in (drop i ps))) ≡ all → None ≡ all
params_end ps i s all h done = ap (λ l. first (twice_in_params (names_of s) (params_in l))) (sym (drop_all i ps h)) ∙ done

-- definitions of a block
block-cons : (before : List (List ℕ)) (d : tree.Definition) (ds : tree.Definitions) → twice_in_block before (tree.more_definitions d ds) ≡ twice_in_local before d ++ twice_in_block (local_name d ∷ before) ds
block-cons before (tree.Define q n ps w b) ds = refl

block_left : (before : List (List ℕ)) (ds : List tree.Definition) (i : ℕ) (d e : tree.Definition) → i < length ds → d ≡ get_or ds i d → e ≡ d → twice_in_block before (definitions_of (drop i ds)) ≡ twice_in_local before e ++ twice_in_block (local_name e ∷ before) (definitions_of (drop (i + 1) ds))
block_left before ds i d e h is same =
    ap (λ l. twice_in_block before (definitions_of l)) (left_at ds i d h is)
    ∙ block-cons before d (definitions_of (drop (i + 1) ds))
    ∙ ap (λ x. twice_in_local before x ++ twice_in_block (local_name x ∷ before) (definitions_of (drop (i + 1) ds))) (sym same)

pub block_turn : (ds : List tree.Definition) (i : ℕ) (d e : tree.Definition) (s t : Scope) (all : Option Place) → i < length ds → d ≡ get_or ds i d → e ≡ d → first (twice_in_block (names_of s) (definitions_of (drop i ds))) ≡ all → None ≡ first (twice_in_local (names_of s) e) → names_of t ≡ local_name e ∷ names_of s → first (twice_in_block (names_of t) (definitions_of (drop (i + 1) ds))) ≡ all
block_turn ds i d e s t all h is same done none more =
    ap (λ b. first (twice_in_block b (definitions_of (drop (i + 1) ds)))) more
    ∙ turn (twice_in_block (names_of s) (definitions_of (drop i ds))) (twice_in_local (names_of s) e) (twice_in_block (local_name e ∷ names_of s) (definitions_of (drop (i + 1) ds))) all (block_left (names_of s) ds i d e h is same) done (sym none)

pub block_hit : (ds : List tree.Definition) (i : ℕ) (d e : tree.Definition) (s : Scope) (q : Place) (all : Option Place) → i < length ds → d ≡ get_or ds i d → e ≡ d → first (twice_in_block (names_of s) (definitions_of (drop i ds))) ≡ all → Some q ≡ first (twice_in_local (names_of s) e) → Some q ≡ all
block_hit ds i d e s q all h is same done found =
    hit (twice_in_block (names_of s) (definitions_of (drop i ds))) (twice_in_local (names_of s) e) (twice_in_block (local_name e ∷ names_of s) (definitions_of (drop (i + 1) ds))) all q (block_left (names_of s) ds i d e h is same) done (sym found)

pub block_end : (ds : List tree.Definition) (i : ℕ) (s : Scope) (all : Option Place) → length ds ≤ i → first (twice_in_block (names_of s) (definitions_of (drop i ds))) ≡ all → None ≡ all
block_end ds i s all h done = ap (λ l. first (twice_in_block (names_of s) (definitions_of l))) (sym (drop_all i ds h)) ∙ done

-- ---- one definition: its name, and then what is in it
pub two_hit : (a b : List Place) (p : Place) → Some p ≡ first a → Some p ≡ first (a ++ b)
two_hit a b p h = sym (first_of_front a b p (sym h))

pub two_rest : (a b : List Place) (r : Option Place) → None ≡ first a → r ≡ first b → r ≡ first (a ++ b)
two_rest a b r none h = h ∙ sym (first_after a b (sym none))

pub two_none : (a b : List Place) → None ≡ first a → None ≡ first b → None ≡ first (a ++ b)
two_none a b h k = two_rest a b None h k

-- a fact that holds whatever is found
pub whatever : {E : Type 0} (P : Type 0) (r : Result (Option Place) E) → P → IfOk r (λ found. IfNone found P)
whatever P (Ok None) h = h
whatever P (Ok (Some p)) h = tt
whatever P (Err e) h = tt

-- ---- items
from-cons : (before : List (List ℕ)) (i : tree.Item) (is : List tree.Item) (k : ℕ) → twice_from before (i ∷ is) ≡ twice_in_item before i ++ twice_from (names_onto before (declared_by k i)) is
from-cons before (tree.Input p q n y) is k = refl
from-cons before (tree.Defined p (tree.Define q n ps w b)) is k = refl
from-cons before (tree.Output p q n) is k = refl
from-cons before (tree.OutputAs p e q n) is k = refl

pub declared_from-cons : (k : ℕ) (i : tree.Item) (is : List tree.Item) → declared_from k (i ∷ is) ≡ declared_by k i ++ declared_from (suc k) is
declared_from-cons k (tree.Input p q n y) is = refl
declared_from-cons k (tree.Defined p (tree.Define q n ps w b)) is = refl
declared_from-cons k (tree.Output p q n) is = refl
declared_from-cons k (tree.OutputAs p e q n) is = refl

items_left : (before : List (List ℕ)) (items : List Item) (i : ℕ) (x : Item) → i < length items → x ≡ get_or items i x → twice_from before (map item_of (drop i items)) ≡ twice_in_item before (item_of x) ++ twice_from (names_onto before (declared_by i (item_of x))) (map item_of (drop (i + 1) items))
items_left before items i x h is =
    ap (λ l. twice_from before (map item_of l)) (left_at items i x h is)
    ∙ from-cons before (item_of x) (map item_of (drop (i + 1) items)) i

pub items_turn : (items : List Item) (i : ℕ) (x : Item) (s t : Scope) (all : Option Place) → i < length items → x ≡ get_or items i x → first (twice_from (names_of s) (map item_of (drop i items))) ≡ all → None ≡ first (twice_in_item (names_of s) (item_of x)) → t ≡ s ++ declared_by i (item_of x) → first (twice_from (names_of t) (map item_of (drop (i + 1) items))) ≡ all
items_turn items i x s t all h is done none more =
    ap (λ b. first (twice_from b (map item_of (drop (i + 1) items)))) (ap names_of more ∙ names_onto-append [] s (declared_by i (item_of x)))
    ∙ turn (twice_from (names_of s) (map item_of (drop i items))) (twice_in_item (names_of s) (item_of x)) (twice_from (names_onto (names_of s) (declared_by i (item_of x))) (map item_of (drop (i + 1) items))) all (items_left (names_of s) items i x h is) done (sym none)

pub items_hit : (items : List Item) (i : ℕ) (x : Item) (s : Scope) (q : Place) (all : Option Place) → i < length items → x ≡ get_or items i x → first (twice_from (names_of s) (map item_of (drop i items))) ≡ all → Some q ≡ first (twice_in_item (names_of s) (item_of x)) → Some q ≡ all
items_hit items i x s q all h is done found =
    hit (twice_from (names_of s) (map item_of (drop i items))) (twice_in_item (names_of s) (item_of x)) (twice_from (names_onto (names_of s) (declared_by i (item_of x))) (map item_of (drop (i + 1) items))) all q (items_left (names_of s) items i x h is) done (sym found)

pub declared_turn : (items : List Item) (i : ℕ) (x : Item) (s t all : Scope) → i < length items → x ≡ get_or items i x → s ++ declared_from i (map item_of (drop i items)) ≡ all → t ≡ s ++ declared_by i (item_of x) → t ++ declared_from (i + 1) (map item_of (drop (i + 1) items)) ≡ all
declared_turn items i x s t all h is done more =
    ap (λ l. l ++ declared_from (i + 1) (map item_of (drop (i + 1) items))) more
    ∙ append_assoc s (declared_by i (item_of x)) (declared_from (i + 1) (map item_of (drop (i + 1) items)))
    ∙ ap (λ j. s ++ (declared_by i (item_of x) ++ declared_from j (map item_of (drop (i + 1) items)))) (add-one i)
    ∙ ap (λ l. s ++ l) (sym (ap (λ l. declared_from i (map item_of l)) (left_at items i x h is) ∙ declared_from-cons i (item_of x) (map item_of (drop (i + 1) items))))
    ∙ done

pub none_twice : (items : List Item) (i : ℕ) (s : Scope) → length items ≤ i → first (twice_from (names_of s) (map item_of (drop i items))) ≡ first (declared_twice (map item_of items)) → declared_twice (map item_of items) ≡ []
none_twice items i s h done =
    empty_without_first _ (sym (ap (λ l. first (twice_from (names_of s) (map item_of l))) (sym (drop_all i items h)) ∙ done))

pub all_declared : (items : List Item) (i : ℕ) (s all : Scope) → length items ≤ i → s ++ declared_from i (map item_of (drop i items)) ≡ all → s ≡ all
all_declared items i s all h done =
    sym (append-nil s) ∙ ap (λ l. s ++ declared_from i (map item_of l)) (sym (drop_all i items h)) ∙ done

-- a fact that holds where nothing is found
pub if_none : {A : Type 0} (r : Option A) (P : Type 0) → IfNone r P → r ≡ None → P
if_none None P h is = h
if_none (Some x) P h is = cc

-- ---- what a definition is declared as, by its parameters
all_mapped : (ps : List Param) → list_all (λ q. is_events q.of) (params_in ps) ≡ list_all (λ q. is_events q.of) ps
all_mapped ps = list_all-map (λ q. is_events q.of) param_of ps

any_mapped : (ps : List Param) → list_any (λ q. is_events q.of) (params_in ps) ≡ list_any (λ q. is_events q.of) ps
any_mapped ps = list_any-map (λ q. is_events q.of) param_of ps

by_tests : (i : ℕ) (ps : List Param) (a b : Bool) → 0 < length ps → list_all (λ q. is_events q.of) ps ≡ a → list_any (λ q. is_events q.of) ps ≡ b → declared_as i (params_in ps) ≡ (if a then declaration.Macro i else if b then declaration.Mixed i else declaration.Function i)
by_tests i [] a b h k l = absurd (omega arith)
by_tests i (p ∷ ps) a b h k l =
    ap (λ c. if c then declaration.Macro i else if list_any (λ q. is_events q.of) (params_in (p ∷ ps)) then declaration.Mixed i else declaration.Function i) (all_mapped (p ∷ ps) ∙ k)
    ∙ ap (λ c. if a then declaration.Macro i else if c then declaration.Mixed i else declaration.Function i) (any_mapped (p ∷ ps) ∙ l)

pub is_macro : (i : ℕ) (ps : List Param) → 0 < length ps → true ≡ list_all (λ q. is_events q.of) ps → declaration.Macro i ≡ declared_as i (params_in ps)
is_macro i ps h k = sym (by_tests i ps true (list_any (λ q. is_events q.of) ps) h (sym k) refl)

pub is_mixed : (i : ℕ) (ps : List Param) → 0 < length ps → false ≡ list_all (λ q. is_events q.of) ps → true ≡ list_any (λ q. is_events q.of) ps → declaration.Mixed i ≡ declared_as i (params_in ps)
is_mixed i ps h k l = sym (by_tests i ps false true h (sym k) (sym l))

pub is_value_function : (i : ℕ) (ps : List Param) → 0 < length ps → false ≡ list_all (λ q. is_events q.of) ps → false ≡ list_any (λ q. is_events q.of) ps → declaration.Function i ≡ declared_as i (params_in ps)
is_value_function i ps h k l = sym (by_tests i ps false false h (sym k) (sym l))

none_by_any : (ps : List tree.Param) → list_all (λ q. if is_events q.of then false else true) ps ≡ not (list_any (λ q. is_events q.of) ps)
none_by_any [] = refl
none_by_any (p ∷ ps) = by (is_events p.of) (list_all (λ q. if is_events q.of then false else true) ps) (list_any (λ q. is_events q.of) ps) (none_by_any ps)
  where
    by : (e a b : Bool) → a ≡ not b → ((if e then false else true) && a) ≡ not (e || b)
    by true a b h = refl
    by false a b h = h

pub have_values : (ps : List Param) (b : Bool) → 0 < length ps → b ≡ list_any (λ q. is_events q.of) ps → not b ≡ are_values (params_in ps)
have_values [] b h k = absurd (omega arith)
have_values (p ∷ ps) b h k = ap not (k ∙ sym (any_mapped (p ∷ ps))) ∙ sym (none_by_any (params_in (p ∷ ps)))
