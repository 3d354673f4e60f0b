-- A circle read backwards from its least step on.
use Rattle.std.proofs.Common.{◌≡◌, ℕ, ◌+◌, ◌≤◌, List, [], ◌∷◌, ◌++◌, length, get_or, take, drop, reverse, nat_lt, Contains, sym, ap, subst, ◌∙◌, inl, inr, take-append-drop, arith}
use Rattle.std.proofs.lemmas.Bool.{ltb-false}
use Rattle.std.proofs.lemmas.List.{drop_more, get_or_default}
use Rattle.std.proofs.lemmas.List.Elements.{Contains-append_left, Contains-append_right, Contains-append_cases}
use Rattle.std.specs.List.{IsFirstBest}
use Rattle.translation_order.specs.Cycle.{IsTurned}
use Rattle.tsl_value.proofs.Lists.{here}

none_less : (xs : List ℕ) (place : ℕ) → IsFirstBest nat_lt xs (length xs) place → (y : ℕ) → Contains xs y → get_or xs place 0 ≤ y
none_less xs place best y (k, lt, is) =
    let not_less = best.1 k y lt in
    let value : get_or xs place y ≡ get_or xs place 0 = get_or_default xs place y 0 best.0 in
    let le = ltb-false (get_or xs k y) (get_or xs place y) not_less in
    omega arith

pub turned_from : (steps backward front back first cycle : List ℕ) (place : ℕ) → backward ≡ reverse steps → IsFirstBest nat_lt backward (length backward) place → front ≡ take place backward → back ≡ drop place backward → first ≡ [] ++ back → cycle ≡ first ++ front → IsTurned steps cycle
turned_from steps backward front back first cycle place is best at_front at_back one two =
    let least = get_or backward place 0 in
    let after = drop (place + 1) backward in
    let split : drop place backward ≡ least ∷ after = drop_more backward place 0 best.0 in
    let whole : backward ≡ take place backward ++ (least ∷ after) = sym (take-append-drop place backward) ∙ ap (λ v. take place backward ++ v) split in
    let circle : cycle ≡ least ∷ (after ++ take place backward) = two ∙ ap (λ v. v ++ front) (one ∙ at_back ∙ split) ∙ ap (λ v. (least ∷ after) ++ v) at_front in
    record {
      before = take place backward;
      least = least;
      after = after;
      backward = sym is ∙ whole;
      is = circle;
      least_first = record {
        holds = subst (λ v. Contains v least) (sym circle) (here least (after ++ take place backward));
        least = λ y c. none_less backward place best y (subst (λ v. Contains v y) (sym whole) (elim (Contains-append_cases (least ∷ after) (take place backward) y (subst (λ v. Contains v y) circle c)) [
          | inl last ↦ Contains-append_right (take place backward) (least ∷ after) y last
          | inr first ↦ Contains-append_left (take place backward) (least ∷ after) y first
        ]));
      };
    }
