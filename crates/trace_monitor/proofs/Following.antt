-- The lines that follow a line that is read.
use Rattle.std.proofs.Common.{◌≡◌, ◌≤◌, ℕ, Bool, ◌&&◌, List, [], ◌∷◌, ◌++◌, sym, ap, subst, ◌∙◌, arith, append-nil, append_assoc}
use Rattle.std.specs.Prelude.{is_none}
use Rattle.flat_core.specs.inner.BoundLaws.{AreFrom}
use Rattle.flat_core.specs.Line.{Line, last_time}
use Rattle.flat_core.specs.System.{System}
use Rattle.trace_reader.specs.Closed.{closed_below}
use Rattle.trace_reader.specs.Reading.{reading}
use Rattle.trace_reader.proofs.LineLemmas.{StandAfter, more, all_after_later, last_rises, last_time-push, reading_stands, at_least}

after_at : {s : System} {before : List Line} (ls ms : List Line) → StandAfter s before (ls ++ ms) → StandAfter s (before ++ ls) ms
after_at {s} {before} [] ms it = subst (λ (b : List Line). StandAfter s b ms) (sym (append-nil before)) it
after_at {s} {before} (x ∷ ls) ms (more stands after) =
    subst (λ (b : List Line). StandAfter s b ms) (append_assoc before (x ∷ []) ls) (after_at {before = before ++ x ∷ []} ls ms after)

module _ (s : System) (strict : Bool) (limit : ℕ) (bytes : List ℕ) (ended : Bool) (ls : List Line) (l : Line) (rest : List Line) (is : (reading s strict limit bytes ended).lines ≡ ls ++ l ∷ rest) where
  stand : StandAfter s [] (ls ++ l ∷ rest)
  stand = subst (StandAfter s []) is (reading_stands s strict limit bytes ended)

  -- this line and those after it have no earlier times
  pub from_line : AreFrom l.time (l ∷ rest)
  from_line = (omega arith, all_after_later (l ∷ []) rest (after_at ls (l ∷ rest) stand))

  pub line_closed : (until : ℕ) → l.time ≤ closed_below (reading s strict limit bytes ended) until ended
  line_closed until =
      let r = reading s strict limit bytes ended in
      let rises = last_rises (ls ++ l ∷ []) rest (subst (StandAfter s []) (sym (append_assoc ls (l ∷ []) rest)) stand) in
      let last = last_time-push ls l in
      let whole : last_time r.lines ≡ last_time ((ls ++ l ∷ []) ++ rest) = ap last_time (is ∙ sym (append_assoc ls (l ∷ []) rest)) in
      at_least l.time (last_time r.lines) until (ended && is_none r.refused) (omega arith)
