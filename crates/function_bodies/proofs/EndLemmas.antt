-- Calls of bodies that are made, those that are too large, and the next step along an order.
use Rattle.std.proofs.Common.{◌≡◌, ℕ, suc, ◌+◌, ◌<◌, ◌≤◌, if◌then◌else◌, List, [], ◌∷◌, ◌++◌, length, map, take, drop, get_or, Option, Some, None, Result, Ok, Err, IfOk, refl, sym, ap, subst, ◌∙◌, arith}
use Rattle.std.specs.Prelude.{slice_get, slice_index_or}
use Rattle.std.specs.Option.{option_map}
use Rattle.std.specs.List.{AllZip}
use Rattle.std.proofs.lemmas.List.{get_or_default, take_all, take_more, take-append-drop}
use Rattle.std.proofs.lemmas.Option.{slice_get-get_or, slice_get-map}
use Rattle.tsl_value.specs.declared.place.Place.{Place}
use Rattle.lift_func.specs.BodyTree.{BodyTree}
use Rattle.lift_func.specs.inner.Placed.{within}
use Rattle.syntax_tree.specs.Tree as tree
use Rattle.syntax_tree.specs.declared.tree.Item.{Item}
use Rattle.syntax_tree.specs.inner.OneLevel.{item_of}
use Rattle.name_check.specs.Scope.{Scope, top}
use Rattle.name_check.specs.Faults.{first}
use Rattle.tsl_value.proofs.Lists.{left_at}
use Rattle.name_check.proofs.FirstLemmas.{first_after, first_of_front}
use Rattle.spec_meaning.specs.Function.{function_at, function_body}
use Rattle.function_bodies.specs.inner.Calls.{IsCallOrder, IsFunction, ArePlain}
use Rattle.function_bodies.specs.inner.Around.{call_of}
use Rattle.function_bodies.specs.Bodies.{AreBodies, too_large_in, too_large_from}
use Rattle.function_bodies.specs.inner.Made.{IsStep, AreMade}
use Rattle.function_bodies.proofs.MadeLemmas.{Same, call_right, step_right, bodies_right}

-- ---- a call
zip_itself : (ts : List BodyTree) → AllZip (λ a b. Same a b) ts ts
zip_itself [] = tt
zip_itself (t ∷ ts) = (refl, zip_itself ts)

at_right : (items : List tree.Item) (functions : List (Option BodyTree)) (i : ℕ) (ts : List BodyTree) (b : Option BodyTree) → AreBodies items functions → IsFunction items i → b ≡ within (call_of functions i ts) → b ≡ within (function_at items i ts)
at_right items functions i ts b h function is =
    let body : slice_index_or functions i None ≡ within (function_body items i) = h.at i ∙ ap (λ v. if v then within (function_body items i) else None) function in
    is ∙ sym (call_right functions i ts ts (function_body items i) (zip_itself ts) body) ∙ ap within (sym (h.placed i ts function))

pub at_answer : {E : Type 0} (r : Result (Option BodyTree) E) (functions found os : List (Option BodyTree)) (ts : List BodyTree) (i : ℕ) → found ≡ functions → os ≡ map within ts → IfOk r (λ b. (us : List BodyTree) → os ≡ map within us → b ≡ within (call_of found i us)) → IfOk r (λ b. (items : List tree.Item) → AreBodies items functions → IsFunction items i → b ≡ within (function_at items i ts))
at_answer (Ok b) functions found os ts i same is h = λ items bodies function. at_right items functions i ts b bodies function (h ts is ∙ ap (λ l. within (call_of l i ts)) same)
at_answer (Err e) functions found os ts i same is h = tt

-- ---- the items one after the other
too_large_after : (tops : List tree.Item) (items : List Item) (i : ℕ) (x : Item) → i < length items → x ≡ get_or items i x → too_large_from tops i (map item_of (drop i items)) ≡ too_large_in tops i (item_of x) ++ too_large_from tops (i + 1) (map item_of (drop (i + 1) items))
too_large_after tops items i x lt is =
    let number : suc i ≡ i + 1 = omega arith in
    ap (λ l. too_large_from tops i (map item_of l)) (left_at items i x lt is)
    ∙ ap (λ n. too_large_in tops i (item_of x) ++ too_large_from tops n (map item_of (drop (i + 1) items))) number

pub item_at : (items : List Item) (i : ℕ) (x : Item) → i < length items → x ≡ get_or items i x → slice_get (map item_of items) i ≡ Some (item_of x)
item_at items i x lt is = slice_get-map item_of items i ∙ ap (option_map item_of) (slice_get-get_or items i x lt ∙ ap Some (sym is))

-- what is known of the place of one item
abbrev pub IsTooLargeAt : List (Option BodyTree) → ℕ → Item → Option Place → Type 0
IsTooLargeAt functions i x found = (tops : List tree.Item) → AreBodies tops functions → slice_get tops i ≡ Some (item_of x) → found ≡ first (too_large_in tops i (item_of x))

pub found_turn : (items : List Item) (functions : List (Option BodyTree)) (i : ℕ) (x : Item) (p : Place) (all : Option Place) → i < length items → x ≡ get_or items i x → IsTooLargeAt functions i x (Some p) → (AreBodies (map item_of items) functions → first (too_large_from (map item_of items) i (map item_of (drop i items))) ≡ all) → AreBodies (map item_of items) functions → Some p ≡ all
found_turn items functions i x p all lt is here done bodies =
    let tops = map item_of items in
    let after = too_large_from tops (i + 1) (map item_of (drop (i + 1) items)) in
    sym (first_of_front (too_large_in tops i (item_of x)) after p (sym (here tops bodies (item_at items i x lt is))))
    ∙ sym (ap first (too_large_after tops items i x lt is))
    ∙ done bodies

pub none_turn : (items : List Item) (functions : List (Option BodyTree)) (i : ℕ) (x : Item) (found all : Option Place) → i < length items → x ≡ get_or items i x → IsTooLargeAt functions i x found → found ≡ None → (AreBodies (map item_of items) functions → first (too_large_from (map item_of items) i (map item_of (drop i items))) ≡ all) → AreBodies (map item_of items) functions → first (too_large_from (map item_of items) (i + 1) (map item_of (drop (i + 1) items))) ≡ all
none_turn items functions i x found all lt is here none done bodies =
    let tops = map item_of items in
    let after = too_large_from tops (i + 1) (map item_of (drop (i + 1) items)) in
    sym (first_after (too_large_in tops i (item_of x)) after (sym (here tops bodies (item_at items i x lt is)) ∙ none))
    ∙ sym (ap first (too_large_after tops items i x lt is))
    ∙ done bodies

-- ---- along the order
pub one_more_made : (items : List tree.Item) (names : Scope) (order steps : List ℕ) → IsCallOrder items order → ArePlain items → names ≡ top items → steps ≡ order → (k : ℕ) → k < length steps → (old new : List (Option BodyTree)) → AreMade items (take k steps) old → IsStep items names (get_or steps k 0) old new → AreMade items (take (k + 1) steps) new
one_more_made items names order steps is_order plain is_names is_steps k lt old new h s =
    let x = get_or steps k 0 in
    let same : x ≡ get_or steps k x = get_or_default steps k 0 x lt in
    let split : order ≡ take k steps ++ x ∷ drop (k + 1) steps = sym is_steps ∙ sym (take-append-drop k steps) ∙ ap (λ l. take k steps ++ l) (left_at steps k x lt same) in
    let P : Scope → Type 0 = λ t. IsStep items t x old new in
    let Q : List ℕ → Type 0 = λ l. AreMade items l new in
    subst Q (sym (take_more steps k 0 lt)) (step_right items order is_order plain (take k steps) (drop (k + 1) steps) x old new split h (subst P is_names s))

pub all_made : (items : List tree.Item) (order steps : List ℕ) → IsCallOrder items order → ArePlain items → steps ≡ order → (k : ℕ) → length steps ≤ k → (bodies : List (Option BodyTree)) → AreMade items (take k steps) bodies → AreBodies items bodies
all_made items order steps is_order plain is_steps k past bodies h =
    let P : List ℕ → Type 0 = λ l. AreMade items l bodies in
    bodies_right items order is_order plain bodies (subst P (take_all k steps past ∙ is_steps) h)
