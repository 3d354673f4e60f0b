-- The bodies that are made along an order in which called functions come first.
use Rattle.std.proofs.Common.{◌≡◌, ℕ, zero, suc, ◌<◌, ◌≤◌, Bool, true, false, eqb, leb, if◌then◌else◌, List, [], ◌∷◌, ◌++◌, length, map, Option, Some, None, refl, sym, ap, subst, ◌∙◌, ◌⊎◌, inl, inr, arith, length-set, get_or-set_other, get_or-set_same}
use Rattle.std.specs.Prelude.{slice_get, slice_index_or}
use Rattle.std.specs.Option.{option_map}
use Rattle.std.specs.List.{AllZip, Contains}
use Rattle.std.proofs.lemmas.Bool.{eqb-true, leb-false}
use Rattle.std.proofs.lemmas.Bool.Decides.{nat_tests}
use Rattle.std.proofs.lemmas.List.{append-nil, length-map, set_past, get_or_past}
use Rattle.std.proofs.lemmas.List.Elements.{Contains-append_cases}
use Rattle.std.proofs.lemmas.Option.{slice_get-map, slice_get_past, slice_get_within}
use Rattle.lift_func.specs.declared.limits.TheConstants.{MOST_NODES}
use Rattle.lift_func.specs.BodyTree.{BodyTree, node_count}
use Rattle.lift_func.specs.inner.Placed.{placed, within, one_within, two_within, choice_within, placed_within}
use Rattle.lift_func.proofs.PlacedLemmas.{one_same, two_same, choice_same, placed_same}
use Rattle.syntax_tree.specs.Tree as tree
use Rattle.syntax_tree.specs.Tree.{Expr}
use Rattle.syntax_tree.specs.declared.tree.Item.{Item}
use Rattle.syntax_tree.specs.inner.OneLevel.{item_of}
use Rattle.name_check.specs.Scope.{Scope, top, are_values, functions_of, parameters_from, seen, Agree}
use Rattle.name_check.proofs.AgreeLemmas.{agree_same, agree_append}
use Rattle.spec_meaning.specs.Occurrence.{body_of, result_of}
use Rattle.syntax_tree.specs.Tree.{params_of}
use Rattle.spec_meaning.specs.Function.{arguments_from, tree_of, function_tree, function_body}
use Rattle.definition_cycles.specs.Calls.{Calls}
use Rattle.function_bodies.specs.inner.Calls.{IsCallOrder, IsFunction, ArePlain}
use Rattle.function_bodies.specs.inner.Laws.{NestsWithin}
use Rattle.function_bodies.specs.inner.Around.{call_of, too_large, tree_or}
use Rattle.function_bodies.specs.Bodies.{body_at, AreBodies}
use Rattle.function_bodies.specs.inner.Made.{IsFunctionMade, IsItemMade, IsStep, AreMade}
use Rattle.function_bodies.proofs.TreeLemmas.{IsCongruence, trees_alike}
use Rattle.function_bodies.proofs.ScopeLemmas.{within_function, no_lift_within, function_below, good_parts}
use Rattle.function_bodies.proofs.DepthLemmas.{nests}
use Rattle.function_bodies.proofs.LawLemmas.{at_body, depth_is_enough, bodies_are_placed}
use Rattle.function_bodies.proofs.CallLemmas.{large_stays, too_large_is}
use Rattle.tsl_value.proofs.Lists.{only}

-- ---- trees that are the same where they are small enough
abbrev pub Same : BodyTree → BodyTree → Type 0
Same a b = within a ≡ within b

same_congruence : IsCongruence (λ a b. Same a b)
same_congruence = record {
  literal = λ s. refl;
  absent = λ t. refl;
  one = λ o a b h. sym (one_same o a) ∙ ap (one_within o) h ∙ one_same o b;
  two = λ o a b c d h k. sym (two_same o a c) ∙ (λ i. two_within o (h i) (k i)) ∙ two_same o b d;
  choice = λ a b c d e f h k l. sym (choice_same a c e) ∙ (λ i. choice_within (h i) (k i) (l i)) ∙ choice_same b d f;
}

zip_same : (us vs : List BodyTree) → AllZip (λ a b. Same a b) us vs → map within us ≡ map within vs
zip_same [] [] h = refl
zip_same [] (v ∷ vs) h = absurd h
zip_same (u ∷ us) [] h = absurd h
zip_same (u ∷ us) (v ∷ vs) h = λ i. h.0 i ∷ zip_same us vs h.1 i

placed_alike : (us vs : List BodyTree) (t : BodyTree) → AllZip (λ a b. Same a b) us vs → Same (placed us t) (placed vs t)
placed_alike us vs t h = sym (placed_same us t) ∙ ap (λ os. placed_within os t) (zip_same us vs h) ∙ placed_same vs t

-- a body that is too large may be missing
missing_alike : (vs : List BodyTree) (t : BodyTree) → Same (placed vs t) (placed vs (tree_or (within t)))
missing_alike vs t = by (leb (node_count t) MOST_NODES) refl
  where
    by : (b : Bool) → leb (node_count t) MOST_NODES ≡ b → Same (placed vs t) (placed vs (tree_or (if b then Some t else None)))
    by true e = refl
    by false e = large_stays vs t (leb-false (node_count t) MOST_NODES e) ∙ sym (large_stays vs too_large too_large_is)

-- a call from bodies that are right
pub call_right : (functions : List (Option BodyTree)) (j : ℕ) (us vs : List BodyTree) (t : BodyTree) → AllZip (λ a b. Same a b) us vs → slice_index_or functions j None ≡ within t → Same (placed us t) (call_of functions j vs)
call_right functions j us vs t h is =
    placed_alike us vs t h ∙ missing_alike vs t ∙ ap (λ o. within (placed vs (tree_or o))) (sym is)

-- ---- steps
none_past : {A : Type 0} (xs : List A) (i : ℕ) → slice_get xs i ≡ None → length xs ≤ i
none_past [] i h = omega arith
none_past (x ∷ xs) zero h = cc
none_past (x ∷ xs) (suc i) h = omega (arith, none_past xs i h)

pub step_past : (items : List Item) (names : Scope) (number : ℕ) (bodies : List (Option BodyTree)) → length items ≤ number → length bodies ≡ length items → IsStep (map item_of items) names number bodies bodies
step_past items names number bodies past count =
    let after : length bodies ≤ number = omega arith in
    record {
      made = None;
      is = sym (set_past bodies number None after);
      right = λ item is. cc (slice_get-map item_of items number, ap (option_map item_of) (slice_get_past items number past), is);
    }

pub none_made : (items : List Item) (bodies : List (Option BodyTree)) → length bodies ≡ length items → AreMade (map item_of items) [] bodies
none_made items bodies count = record {
  count = count ∙ sym (length-map items item_of);
  made = λ i (k, below, is). absurd (omega arith);
}

-- ---- the body of a value function, where those that it calls have theirs
level_agrees : (level : Scope) (ps : List tree.Param) (functions : Scope) → Agree level (parameters_from 0 ps) → Agree (parameters_from 0 ps ++ functions) (level ++ (functions ++ []))
level_agrees level ps functions h =
    agree_append (parameters_from 0 ps) level functions (functions ++ []) (record { at = λ n. sym (h.at n) }) (agree_same functions (functions ++ []) (sym (append-nil functions)))

module _ (items : List tree.Item) (order : List ℕ) (is_order : IsCallOrder items order) (plain : ArePlain items) where
  call_same : (old : List (Option BodyTree)) (m i j : ℕ) (us vs : List BodyTree) → IsFunction items j → NestsWithin items m j → slice_index_or old j None ≡ body_at items j → AllZip (λ a b. Same a b) us vs → Same (function_tree items m j us) (call_of old j vs)
  call_same old m i j us vs function deep is z =
      let here : function_tree items m j us ≡ placed us (function_body items j) = depth_is_enough items order is_order plain m j us function deep ∙ bodies_are_placed items order is_order plain j us function in
      let body : slice_index_or old j None ≡ within (function_body items j) = is ∙ ap (λ b. if b then within (function_body items j) else None) function in
      ap within here ∙ call_right old j us vs (function_body items j) z body

  -- the number of items, as one more than another number
  made_at : (old : List (Option BodyTree)) (x n : ℕ) (ps : List tree.Param) (b : tree.Body) (e : Expr) (made : Option BodyTree) → length items ≡ n → x < n → IsFunction items x → params_of (slice_get items x) ≡ ps → body_of (slice_get items x) ≡ Some b → b ≡ tree.Plain e → ((j : ℕ) → Calls items x j → slice_index_or old j None ≡ body_at items j) → IsFunctionMade old (top items) ps b made → made ≡ within (function_body items x)
  made_at old x zero ps b e made count lt function is_ps is_body is_plain callees h = absurd (omega arith)
  made_at old x (suc m) ps b e made count lt function is_ps is_body is_plain callees h =
      let scope = within_function items (params_of (slice_get items x)) in
      let args = arguments_from 0 (params_of (slice_get items x)) in
      let levels = seen (h.level ∷ functions_of (top items) ∷ []) in
      let standing : body_of (slice_get items x) ≡ Some (tree.Plain e) = is_body ∙ ap Some is_plain in
      let deep : NestsWithin items (suc m) x = (let P : ℕ → Type 0 = λ n. NestsWithin items n x in subst P count (nests items order is_order x (omega arith))) in
      let good : ℕ → Type 0 = λ j. Calls items x j × NestsWithin items m j × IsFunction items j in
      let agrees : Agree h.level (parameters_from 0 (params_of (slice_get items x))) = (let P : List tree.Param → Type 0 = λ qs. Agree h.level (parameters_from 0 qs) in subst P (sym is_ps) h.agrees) in
      let same : Same (tree_of scope args (function_tree items m) e) (tree_of levels args (call_of old) e) =
      trees_alike (λ a b. Same a b) good scope levels args args (function_tree items m) (call_of old)
      (record {
        congruence = same_congruence;
        names = level_agrees h.level (params_of (slice_get items x)) (functions_of (top items)) agrees;
        arguments = λ n k is. refl;
        calls = λ j g us vs z. call_same old m x j us vs g.2 g.1 (callees j g.0) z;
        no_lift = no_lift_within items (params_of (slice_get items x)) plain;
      })
      e
      (good_parts items x e function standing good (λ j calls f. (calls, deep j calls, f))) in
      h.is
      ∙ ap (λ qs. within (tree_of levels (arguments_from 0 qs) (call_of old) (result_of b))) (sym is_ps)
      ∙ ap (λ c. within (tree_of levels args (call_of old) (result_of c))) is_plain
      ∙ sym same
      ∙ ap within (sym (at_body items m x args e function standing))
      ∙ ap (λ n. within (function_tree items n x args)) (sym count)

  function_right : (old : List (Option BodyTree)) (x : ℕ) (ps : List tree.Param) (b : tree.Body) (made : Option BodyTree) → IsFunction items x → params_of (slice_get items x) ≡ ps → body_of (slice_get items x) ≡ Some b → ((j : ℕ) → Calls items x j → slice_index_or old j None ≡ body_at items j) → IsFunctionMade old (top items) ps b made → made ≡ within (function_body items x)
  function_right old x ps b made function is_ps is_body callees h =
      let it = plain.no_braces x function in
      let is_plain : b ≡ tree.Plain it.0 = cc (is_body, it.1) in
      made_at old x (length items) ps b it.0 made refl (function_below items x function) function is_ps is_body is_plain callees h

  -- whether its parameters make it a value function or not
  defined_right : (old : List (Option BodyTree)) (x : ℕ) (ps : List tree.Param) (b : tree.Body) (made : Option BodyTree) (v : Bool) → are_values ps ≡ v → params_of (slice_get items x) ≡ ps → body_of (slice_get items x) ≡ Some b → ((j : ℕ) → Calls items x j → slice_index_or old j None ≡ body_at items j) → (are_values ps ≡ true → IsFunctionMade old (top items) ps b made) → (are_values ps ≡ false → made ≡ None) → made ≡ (if are_values ps then within (function_body items x) else None)
  defined_right old x ps b made true is is_ps is_body callees there missing =
      function_right old x ps b made (ap are_values is_ps ∙ is) is_ps is_body callees (there is)
      ∙ ap (λ v. if v then within (function_body items x) else None) (sym is)
  defined_right old x ps b made false is is_ps is_body callees there missing =
      missing is ∙ ap (λ v. if v then within (function_body items x) else None) (sym is)

  item_right : (old : List (Option BodyTree)) (x : ℕ) (item : tree.Item) (made : Option BodyTree) → slice_get items x ≡ Some item → ((j : ℕ) → Calls items x j → slice_index_or old j None ≡ body_at items j) → IsItemMade old (top items) item made → made ≡ (if are_values (params_of (Some item)) then within (function_body items x) else None)
  item_right old x (tree.Input p q n y) made is callees h = h
  item_right old x (tree.Defined p (tree.Define q n ps w b)) made is callees h = defined_right old x ps b made (are_values ps) refl (ap params_of is) (ap body_of is) callees h.0 h.1
  item_right old x (tree.Output p q n) made is callees h = h
  item_right old x (tree.OutputAs p e q n) made is callees h = h

  body_right : (old : List (Option BodyTree)) (x : ℕ) (item : tree.Item) (made : Option BodyTree) → slice_get items x ≡ Some item → ((j : ℕ) → Calls items x j → slice_index_or old j None ≡ body_at items j) → IsItemMade old (top items) item made → made ≡ body_at items x
  body_right old x item made is callees h =
      item_right old x item made is callees h ∙ ap (λ m. if are_values (params_of m) then within (function_body items x) else None) (sym is)

  past_is_none : (old : List (Option BodyTree)) (x : ℕ) → length old ≡ length items → slice_get items x ≡ None → slice_index_or old x None ≡ body_at items x
  past_is_none old x count none =
      let past = none_past items x none in
      get_or_past old x None (omega arith) ∙ ap (λ m. if are_values (params_of m) then within (function_body items x) else None) (sym none)

  here_right : (front rest : List ℕ) (x : ℕ) (old new : List (Option BodyTree)) → order ≡ front ++ x ∷ rest → AreMade items front old → IsStep items (top items) x old new → (m : Option tree.Item) → slice_get items x ≡ m → slice_index_or new x None ≡ body_at items x
  here_right front rest x old new is h s None none =
      past_is_none new x (ap length s.is ∙ length-set old x s.made ∙ h.count) none
  here_right front rest x old new is h s (Some item) found =
      let inside : x < length items = slice_get_within items x item found in
      let below : x < length old = omega (arith, h.count) in
      ap (λ l. slice_index_or l x None) s.is ∙ get_or-set_same old x s.made None below
      ∙ body_right old x item s.made found (λ j calls. h.made j (is_order.called_first front rest x j is calls)) (s.right item found)

  eqb_other : (x y : ℕ) → eqb x y ≡ false → x ≡ y → ⊥
  eqb_other x y h is = grind (arith, nat_tests)

  there_right : (front rest : List ℕ) (x : ℕ) (old new : List (Option BodyTree)) → order ≡ front ++ x ∷ rest → AreMade items front old → IsStep items (top items) x old new → (i : ℕ) → Contains front i ⊎ Contains (x ∷ []) i → (b : Bool) → eqb x i ≡ b → slice_index_or new i None ≡ body_at items i
  there_right front rest x old new is h s i there true e =
      let P : ℕ → Type 0 = λ y. slice_index_or new y None ≡ body_at items y in
      subst P (eqb-true x i e) (here_right front rest x old new is h s (slice_get items x) refl)
  there_right front rest x old new is h s i (inl c) false e =
      let other : i ≡ x → ⊥ = λ same. eqb_other x i e (sym same) in
      ap (λ l. slice_index_or l i None) s.is ∙ get_or-set_other old x i s.made None other ∙ h.made i c
  there_right front rest x old new is h s i (inr c) false e = absurd (eqb_other x i e (only x i c))

  pub step_right : (front rest : List ℕ) (x : ℕ) (old new : List (Option BodyTree)) → order ≡ front ++ x ∷ rest → AreMade items front old → IsStep items (top items) x old new → AreMade items (front ++ x ∷ []) new
  step_right front rest x old new is h s = record {
    count = ap length s.is ∙ length-set old x s.made ∙ h.count;
    made = λ i c. there_right front rest x old new is h s i (Contains-append_cases front (x ∷ []) i c) (eqb x i) refl;
  }

  pub bodies_right : (bodies : List (Option BodyTree)) → AreMade items order bodies → AreBodies items bodies
  bodies_right bodies h = record {
    count = h.count;
    at = λ i. by i (slice_get items i) refl;
    placed = λ i ts function. bodies_are_placed items order is_order plain i ts function;
  }
    where
      by : (i : ℕ) (m : Option tree.Item) → slice_get items i ≡ m → slice_index_or bodies i None ≡ body_at items i
      by i None none = past_is_none bodies i h.count none
      by i (Some item) found = h.made i (is_order.all i (slice_get_within items i item found))
