-- The names of the top, one item after the other.
use Rattle.std.proofs.Common.{◌≡◌, ℕ, ◌+◌, ◌<◌, ◌≤◌, List, [], ◌∷◌, ◌++◌, map, length, get_or, drop, is_none, if◌then◌else◌, Bool, refl, sym, ap, ◌∙◌, append_assoc, add-one}
use Rattle.std.proofs.lemmas.List.{append-nil, drop_all}
use Rattle.std.proofs.lemmas.List.Elements.{filter-append}
use Rattle.syntax_tree.specs.declared.tree.Item.{Item}
use Rattle.syntax_tree.specs.inner.OneLevel.{item_of}
use Rattle.name_check.specs.Scope.{Scope, Entry, meaning, Agree, is_function, functions_of, declared_from}
use Rattle.name_check.specs.inner.Steps.{declared_by}
use Rattle.name_check.proofs.AgreeLemmas.{agree_same, agree_trans, agree_append, declared_agrees}
use Rattle.tsl_value.proofs.Lists.{left_at}
use Rattle.name_check.proofs.TwiceLemmas.{declared_from-cons}

-- one more name
pub added : (s t : Scope) (e : Entry) (new : Bool) → new ≡ is_none (meaning s e.name) → t ≡ (if new then s ++ e ∷ [] else s) → Agree t (s ++ e ∷ [])
added s t e new h more =
    agree_trans t ((if new then s ++ e ∷ [] else s) ++ []) (s ++ e ∷ [])
    (agree_same _ _ (more ∙ sym (append-nil (if new then s ++ e ∷ [] else s))))
    (declared_agrees s e [] new h)

turn : (s t more left rest all : Scope) → left ≡ more ++ rest → Agree (s ++ left) all → Agree t (s ++ more) → Agree (t ++ rest) all
turn s t more left rest all step done h =
    agree_trans (t ++ rest) ((s ++ more) ++ rest) all
    (agree_append t (s ++ more) rest rest h (agree_same _ _ refl))
    (agree_trans ((s ++ more) ++ rest) (s ++ left) all (agree_same _ _ (append_assoc s more rest ∙ ap (λ l. s ++ l) (sym step))) done)

end : (s left all : Scope) → left ≡ [] → Agree (s ++ left) all → Agree s all
end s left all none done =
    agree_trans s (s ++ left) all (agree_same s (s ++ left) (sym (append-nil s) ∙ ap (λ l. s ++ l) (sym none))) done

declared_left : (items : List Item) (i : ℕ) (x : Item) → i < length items → x ≡ get_or items i x → declared_from i (map item_of (drop i items)) ≡ declared_by i (item_of x) ++ declared_from (i + 1) (map item_of (drop (i + 1) items))
declared_left items i x h is =
    ap (λ l. declared_from i (map item_of l)) (left_at items i x h is)
    ∙ declared_from-cons i (item_of x) (map item_of (drop (i + 1) items))
    ∙ ap (λ j. declared_by i (item_of x) ++ declared_from j (map item_of (drop (i + 1) items))) (sym (add-one i))

pub items_turn : (items : List Item) (i : ℕ) (x : Item) (s t all : Scope) → i < length items → x ≡ get_or items i x → Agree (s ++ declared_from i (map item_of (drop i items))) all → Agree t (s ++ declared_by i (item_of x)) → Agree (t ++ declared_from (i + 1) (map item_of (drop (i + 1) items))) all
items_turn items i x s t all h is done more =
    turn s t (declared_by i (item_of x)) (declared_from i (map item_of (drop i items))) (declared_from (i + 1) (map item_of (drop (i + 1) items))) all (declared_left items i x h is) done more

pub items_end : (items : List Item) (i : ℕ) (s all : Scope) → length items ≤ i → Agree (s ++ declared_from i (map item_of (drop i items))) all → Agree s all
items_end items i s all h done = end s (declared_from i (map item_of (drop i items))) all (ap (λ l. declared_from i (map item_of l)) (drop_all i items h)) done

pub functions_turn : (items : List Item) (i : ℕ) (x : Item) (s t all : Scope) → i < length items → x ≡ get_or items i x → Agree (s ++ functions_of (declared_from i (map item_of (drop i items)))) all → Agree t (s ++ functions_of (declared_by i (item_of x))) → Agree (t ++ functions_of (declared_from (i + 1) (map item_of (drop (i + 1) items)))) all
functions_turn items i x s t all h is done more =
    turn s t (functions_of (declared_by i (item_of x))) (functions_of (declared_from i (map item_of (drop i items)))) (functions_of (declared_from (i + 1) (map item_of (drop (i + 1) items)))) all
    (ap functions_of (declared_left items i x h is) ∙ filter-append (λ e. is_function e.is) (declared_by i (item_of x)) (declared_from (i + 1) (map item_of (drop (i + 1) items))))
    done more

pub functions_end : (items : List Item) (i : ℕ) (s all : Scope) → length items ≤ i → Agree (s ++ functions_of (declared_from i (map item_of (drop i items)))) all → Agree s all
functions_end items i s all h done = end s (functions_of (declared_from i (map item_of (drop i items)))) all (ap (λ l. functions_of (declared_from i (map item_of l))) (drop_all i items h)) done
