-- Where equations pass the limits, more of them pass them too, and marks tell as much as equations.
use Rattle.std.proofs.Common.{◌≡◌, ◌==◌, ℕ, suc, ◌+◌, Bool, true, false, ◌&&◌, List, [], ◌∷◌, ◌++◌, map, Option, Some, refl, sym, ap, ◌∙◌}
use Rattle.std.specs.Prelude.{if◌then◌else◌}
use Rattle.flat_core.specs.declared.equation.Equation.{Equation}
use Rattle.flat_core.specs.declared.limits.TheConstants.{MOST_EQUATIONS}
use Rattle.flat_core.specs.Updates.{is_update}
use Rattle.stream_constructs.specs.Limits.{one_if, refusal_from, refusal, IsRefusal}
use Rattle.stream_constructs.specs.declared.maker.MakeFault.{MakeFault}
use Rattle.stream_constructs.specs.declared.maker.MakeFault.TheVariants as fault
use Rattle.stream_constructs.specs.declared.limits.TheConstants.{MOST_UPDATES}
use Rattle.equation_marks.specs.Marks.{Mark, mark_of}
use Rattle.equation_marks.specs.Refused.{refused_from, refused, AreRefused}

-- a refusal stays where more is made after it
either_stays : (f : MakeFault) (a b : Bool) (x y : Option MakeFault) (rest more : Option MakeFault) → (rest ≡ Some f → more ≡ Some f) → (if a then x else if b then y else rest) ≡ Some f → (if a then x else if b then y else more) ≡ Some f
either_stays f true b x y rest more stays h = h
either_stays f false true x y rest more stays h = h
either_stays f false false x y rest more stays h = stays h

pub refused_from-append : (made updates : ℕ) (xs ys : List Mark) (f : MakeFault) → refused_from made updates xs ≡ Some f → refused_from made updates (xs ++ ys) ≡ Some f
refused_from-append made updates [] ys f h = (cc)
refused_from-append made updates (m ∷ ms) ys f h =
    either_stays f (made == MOST_EQUATIONS) (m.is_update && (updates == MOST_UPDATES)) (Some (fault.TooManyEquations m.place)) (Some (fault.TooManyUpdates m.place)) (refused_from (suc made) (updates + one_if m.is_update) ms) (refused_from (suc made) (updates + one_if m.is_update) (ms ++ ys))
    (refused_from-append (suc made) (updates + one_if m.is_update) ms ys f) h

pub refused-append : (xs ys : List Mark) (f : MakeFault) → refused xs ≡ Some f → refused (xs ++ ys) ≡ Some f
refused-append xs ys f h = refused_from-append 0 0 xs ys f h

pub are_refused-append : (xs ys : List Mark) (f : MakeFault) → AreRefused xs f → AreRefused (xs ++ ys) f
are_refused-append xs ys fault.Memory h = tt
are_refused-append xs ys (fault.TooManyEquations p) h = refused-append xs ys (fault.TooManyEquations p) h
are_refused-append xs ys (fault.TooManyUpdates p) h = refused-append xs ys (fault.TooManyUpdates p) h

-- ---- equations and their marks
pub refusal_from_marks : (made updates : ℕ) (es : List Equation) → refusal_from made updates es ≡ refused_from made updates (map mark_of es)
refusal_from_marks made updates [] = refl
refusal_from_marks made updates (e ∷ es) =
    ap (λ rest. if made == MOST_EQUATIONS then Some (fault.TooManyEquations e.place) else if is_update e.op && (updates == MOST_UPDATES) then Some (fault.TooManyUpdates e.place) else rest) (refusal_from_marks (suc made) (updates + one_if (is_update e.op)) es)

pub refusal_marks : (es : List Equation) → refusal es ≡ refused (map mark_of es)
refusal_marks es = refusal_from_marks 0 0 es

pub are_refused_of : (es : List Equation) (f : MakeFault) → IsRefusal es f → AreRefused (map mark_of es) f
are_refused_of es fault.Memory h = tt
are_refused_of es (fault.TooManyEquations p) h = sym (refusal_marks es) ∙ h
are_refused_of es (fault.TooManyUpdates p) h = sym (refusal_marks es) ∙ h

pub is_refusal_of : (es : List Equation) (f : MakeFault) → AreRefused (map mark_of es) f → IsRefusal es f
is_refusal_of es fault.Memory h = tt
is_refusal_of es (fault.TooManyEquations p) h = refusal_marks es ∙ h
is_refusal_of es (fault.TooManyUpdates p) h = refusal_marks es ∙ h
