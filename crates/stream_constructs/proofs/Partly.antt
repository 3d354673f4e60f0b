-- What stands after an error: the first of the equations that were to be made.
use Rattle.std.proofs.Common.{◌≡◌, ◌+◌, List, [], ◌++◌, length, length-append, refl, sym, ap, subst, ◌∙◌}
use Rattle.std.proofs.lemmas.List.{append-nil, append_assoc, append_cancel_left}
use Rattle.flat_core.specs.declared.equation.Equation.{Equation}
use Rattle.flat_core.specs.System.{System}
use Rattle.stream_constructs.specs.Made.{HasFirst, with_equations}

no_more : (s : System) → s ≡ with_equations s []
no_more s = ap (λ (es : List Equation). record s { equations = es }) (sym (append-nil s.equations))

more_after : (s : System) (before more : List Equation) → with_equations (with_equations s before) more ≡ with_equations s (before ++ more)
more_after s before more = ap (λ (es : List Equation). record s { equations = es }) (append_assoc s.equations before more)

-- how many there are then
pub count_then : (s m : System) (before : List Equation) → m ≡ with_equations s before → length m.equations ≡ length s.equations + length before
count_then s m before is = ap (λ (n : System). length n.equations) is ∙ length-append s.equations before

-- more was made after others
pub made_after : (s m t : System) (before own : List Equation) → m ≡ with_equations s before → t ≡ with_equations m own → t ≡ with_equations s (before ++ own)
made_after s m t before own made is = is ∙ ap (λ (n : System). with_equations n own) made ∙ more_after s before own

-- these were made
pub has_made : (s t : System) (made rest whole : List Equation) → made ++ rest ≡ whole → t ≡ with_equations s made → HasFirst s whole t
has_made s t made rest whole all is = record { made = made; rest = rest; split = sym all; is = is }

-- nothing was made
pub has_none : (s t : System) (whole : List Equation) → t ≡ s → HasFirst s whole t
has_none s t whole is = has_made s t [] whole whole refl (is ∙ no_more s)

-- what stands among the first ones
pub has_early : (s t : System) (before own whole : List Equation) → before ++ own ≡ whole → HasFirst s before t → HasFirst s whole t
has_early s t before own whole all h =
    has_made s t h.made (h.rest ++ own) whole (sym (append_assoc h.made h.rest own) ∙ ap (λ (es : List Equation). es ++ own) (sym h.split) ∙ all) h.is

-- what stands after others that were made
pub has_after : (s m t : System) (before middle own whole : List Equation) → m ≡ with_equations s before → before ++ (middle ++ own) ≡ whole → HasFirst m middle t → HasFirst s whole t
has_after s m t before middle own whole made all h =
    has_made s t (before ++ h.made) (h.rest ++ own) whole
    (append_assoc before h.made (h.rest ++ own) ∙ ap (λ (es : List Equation). before ++ es) (sym (append_assoc h.made h.rest own) ∙ ap (λ (es : List Equation). es ++ own) (sym h.split)) ∙ all)
    (h.is ∙ ap (λ (n : System). with_equations n h.made) made ∙ more_after s before h.made)

-- the same in a turn of a loop
pub has_later : (s m t : System) (middle own rest whole : List Equation) → HasFirst s whole m → middle ++ own ≡ rest → with_equations m rest ≡ with_equations s whole → HasFirst m middle t → HasFirst s whole t
has_later s m t middle own rest whole first split all h =
    let same : s.equations ++ (first.made ++ rest) ≡ s.equations ++ whole =
    sym (append_assoc s.equations first.made rest) ∙ ap (λ (n : System). n.equations ++ rest) (sym first.is) ∙ ap (λ (n : System). n.equations) all in
    has_after s m t first.made middle own whole first.is (ap (λ (es : List Equation). first.made ++ es) split ∙ append_cancel_left s.equations (first.made ++ rest) whole same) h

-- nothing more was made
pub has_same : (s m t : System) (whole : List Equation) → t ≡ m → HasFirst s whole m → HasFirst s whole t
has_same s m t whole is first = subst (λ (n : System). HasFirst s whole n) (sym is) first
