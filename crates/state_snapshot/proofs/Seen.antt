-- The set of the open events' equations, and the bytes of one line.
use Rattle.std.proofs.Common.{◌≡◌, ◌==◌, ◌||◌, ℕ, ◌+◌, ◌<◌, ◌≤◌, Bool, true, false, List, [], ◌∷◌, ◌++◌, map, length, take, get_or, Option, Some, None, is_none, is_some, not, position, refl, sym, ap, ◌∙◌}
use Rattle.std.specs.List.Sorted.{IsStrictlyIncreasing}
use Rattle.std.proofs.lemmas.Bool.{false≢true}
use Rattle.std.proofs.lemmas.List.{map_push, take_all, take_more}
use Rattle.std.proofs.lemmas.List.Folds.{list_any-append}
use Rattle.std.proofs.lemmas.List.Kept.{AllPairs-from_increasing}
use Rattle.flat_core.specs.Members.{is_in}
use Rattle.flat_core.proofs.Rising.{same_rising}
use Rattle.trace_reader.specs.Form.{split_once}
use Rattle.trace_reader.proofs.SplitLemmas.{split_once-none, split_once-some}
use Rattle.monitor_state.specs.declared.state.OpenEvent.{OpenEvent}

abbrev pub ids_of : List OpenEvent → List ℕ
ids_of es = map (λ e. e.equation) es

swapped : (a b : Bool) → (a || b) ≡ (b || (a || false))
swapped true true = refl
swapped true false = refl
swapped false true = refl
swapped false false = refl

-- an event more
pub seen_more : (es : List OpenEvent) (n : ℕ) (e : OpenEvent) (old new : List ℕ) → n < length es → e ≡ get_or es n e
    → ((j : ℕ) → is_in new j ≡ (e.equation == j) || is_in old j)
    → ((j : ℕ) → is_in old j ≡ is_in (ids_of (take n es)) j)
    → (j : ℕ) → is_in new j ≡ is_in (ids_of (take (n + 1) es)) j
seen_more es n e old new lt item added so_far j =
    added j ∙ swapped (e.equation == j) (is_in old j)
    ∙ ap (λ b. b || ((e.equation == j) || false)) (so_far j)
    ∙ sym (list_any-append (λ i. i == j) (ids_of (take n es)) (e.equation ∷ []))
    ∙ ap (λ l. is_in l j) (sym (map_push (λ x. x.equation) (take n es) e))
    ∙ ap (λ l. is_in (ids_of l) j) ((λ i. take n es ++ item i ∷ []) ∙ sym (take_more es n e lt))

-- all of them
pub seen_all : (es : List OpenEvent) (n : ℕ) (set : List ℕ) → length es ≤ n → IsStrictlyIncreasing set → IsStrictlyIncreasing (ids_of es)
    → ((j : ℕ) → is_in set j ≡ is_in (ids_of (take n es)) j) → set ≡ ids_of es
seen_all es n set le ascending rising members =
    let all = λ (j : ℕ). members j ∙ ap (λ l. is_in (ids_of l) j) (take_all n es le) in
    same_rising set (ids_of es) (AllPairs-from_increasing set ascending) (AllPairs-from_increasing (ids_of es) rising) (λ j is. sym (all j) ∙ is) (λ j is. all j ∙ is)

-- there is no end of a line where its place is none
pub no_end : (bytes : List ℕ) (place : Option ℕ) → place ≡ position (λ b. b == 10) bytes → is_none place ≡ is_none (split_once 10 bytes)
no_end bytes None is = sym (ap is_none (split_once-none 10 bytes is))
no_end bytes (Some at) is = sym (ap is_none (split_once-some 10 at bytes is))

-- what `is_none` answers
pub none_from : (place : Option ℕ) (r : Bool) → is_some place ≡ not r → r ≡ is_none place
none_from (Some at) true is = absurd (false≢true (sym is))
none_from (Some at) false is = refl
none_from None true is = refl
none_from None false is = absurd (false≢true is)
