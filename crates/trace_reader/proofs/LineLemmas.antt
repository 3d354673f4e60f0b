-- What holds of the lines of every reading.
use Rattle.std.proofs.Common.{◌≡◌, ◌==◌, ◌≤◌, ℕ, ◌+◌, max, Bool, true, false, ◌&&◌, ◌||◌, List, [], ◌∷◌, ◌++◌, take, Option, Some, None, Result, Ok, Err, refl, sym, ap, subst, ◌∙◌, arith, append-nil, append_assoc}
use Rattle.std.proofs.lemmas.Bool.{true≢false, eq-eqb}
use Rattle.std.proofs.lemmas.List.Folds.{list_any-append}
use Rattle.std.specs.Prelude.{if◌then◌else◌, is_none, option_to_list, slice_get}
use Rattle.std.specs.List.{AllByRecursion}
use Rattle.std.proofs.Math.Bool.{or-true}
use Rattle.tsl_value.specs.declared.scalar.Scalar.{Scalar}
use Rattle.flat_core.specs.System.{System}
use Rattle.flat_core.specs.Line.{Line, IsSorted, last_time}
use Rattle.trace_reader.specs.declared.fault.TraceFault.{TraceFault}
use Rattle.trace_reader.specs.Reading.{Reading, input_in, inputs_at, is_among, had_event, judged, go_on, read, lines_of, reading}
use Rattle.trace_reader.specs.Closed.{closed_below}
use Rattle.trace_reader.specs.inner.Laws.{NoneAt, AreDistinct, IsProperLine}
use Rattle.trace_reader.proofs.JudgedLemmas.{Stands, IfStands, judged_stands}
use Rattle.trace_reader.proofs.LawLemmas.{reading_begins}

-- one more line
pub last_time-push : (ls : List Line) (l : Line) → last_time (ls ++ l ∷ []) ≡ l.time
last_time-push [] l = refl
last_time-push (m ∷ []) l = refl
last_time-push (m ∷ k ∷ ls) l = last_time-push (k ∷ ls) l

pub inputs_at-append : (t : ℕ) (xs ys : List Line) → inputs_at t (xs ++ ys) ≡ inputs_at t xs ++ inputs_at t ys
inputs_at-append t [] ys = refl
inputs_at-append t (x ∷ xs) ys =
    let one = if x.time == t then input_in x.event else [] in
    ap (λ is. one ++ is) (inputs_at-append t xs ys) ∙ sym (append_assoc one (inputs_at t xs) (inputs_at t ys))

-- Lines that each stand after those before them.
pub data StandAfter (s : System) : List Line → List Line → Type 0 where
  none : {before : List Line} → StandAfter s before []
  more : {before : List Line} {l : Line} {ls : List Line} → Stands s (had_event before) (last_time before) l → StandAfter s (before ++ l ∷ []) ls → StandAfter s before (l ∷ ls)

go_on_stands : (s : System) (strict : Bool) (before : List Line) (n : ℕ) (j : Result (Option Line) TraceFault) (rest : Option Line → Reading) → IfStands s strict (had_event before) (last_time before) n j →
    ((l : Option Line) → StandAfter s (before ++ option_to_list l) (rest l).lines) → StandAfter s before (go_on j rest).lines
go_on_stands s strict before n (Err f) rest stands after = none
go_on_stands s strict before n (Ok None) rest stands after = subst (λ (ls : List Line). StandAfter s ls (rest None).lines) (append-nil before) (after None)
go_on_stands s strict before n (Ok (Some l)) rest stands after = more stands (after (Some l))

pub read_stands : (s : System) (strict : Bool) (before : List Line) (n : ℕ) (lines : List (List ℕ)) → StandAfter s before (read s strict before n lines).lines
read_stands s strict before n [] = none
read_stands s strict before n (bytes ∷ lines) =
    go_on_stands s strict before n (judged s strict (had_event before) (last_time before) n bytes) _ (judged_stands s strict (had_event before) (last_time before) n bytes)
    (λ l. read_stands s strict (before ++ option_to_list l) (n + 1) lines)

-- the times
all_later : {s : System} {before : List Line} (ls : List Line) (t : ℕ) → t ≤ last_time before → StandAfter s before ls → AllByRecursion (λ (l : Line). t ≤ l.time) ls
all_later [] t low it = tt
all_later {s} {before} (l ∷ ls) t low (more stands after) =
    let later = stands.later in
    let same = last_time-push before l in
    let le : t ≤ l.time = omega arith in
    let next : t ≤ last_time (before ++ l ∷ []) = omega arith in
    (le, all_later ls t next after)

sorted : {s : System} {before : List Line} (ls : List Line) → StandAfter s before ls → IsSorted ls
sorted [] it = tt
sorted (l ∷ []) it = tt
sorted {s} {before} (l ∷ m ∷ ls) (more stands (more stands2 after)) =
    let later = stands2.later in
    let same = last_time-push before l in
    (omega arith, sorted {before = before ++ l ∷ []} (m ∷ ls) (more stands2 after))

later_rest : {s : System} {before : List Line} (l : Line) (ls rest : List Line) → StandAfter s before (l ∷ ls ++ rest) → AllByRecursion (λ (m : Line). last_time (l ∷ ls) ≤ m.time) rest
later_rest {s} {before} l [] rest (more stands after) = let same = last_time-push before l in all_later rest l.time (omega arith) after
later_rest l (m ∷ ls) rest (more stands after) = later_rest m ls rest after

pub all_after_later : {s : System} {before : List Line} (ls rest : List Line) → StandAfter s before (ls ++ rest) → AllByRecursion (λ (m : Line). last_time ls ≤ m.time) rest
all_after_later [] rest it = all_later rest 0 (omega arith) it
all_after_later (l ∷ ls) rest it = later_rest l ls rest it

last_above : (t : ℕ) (l : Line) (ls : List Line) → AllByRecursion (λ (m : Line). t ≤ m.time) (l ∷ ls) → t ≤ last_time (l ∷ ls)
last_above t l [] all = all.0
last_above t l (m ∷ ls) all = last_above t m ls all.1

last_after : (ls : List Line) (m : Line) (rest : List Line) → last_time (ls ++ m ∷ rest) ≡ last_time (m ∷ rest)
last_after [] m rest = refl
last_after (l ∷ []) m rest = refl
last_after (l ∷ k ∷ ls) m rest = last_after (k ∷ ls) m rest

pub last_rises : {s : System} {before : List Line} (ls rest : List Line) → StandAfter s before (ls ++ rest) → last_time ls ≤ last_time (ls ++ rest)
last_rises ls [] it = let same : last_time (ls ++ []) ≡ last_time ls = ap last_time (append-nil ls) in omega arith
last_rises ls (m ∷ rest) it =
    let above = last_above (last_time ls) m rest (all_after_later ls (m ∷ rest) it) in
    let same = last_after ls m rest in
    omega arith

-- the events
had_still : (before later : List Line) (t i : ℕ) → had_event before t i ≡ true → had_event (before ++ later) t i ≡ true
had_still before later t i had =
    ap (λ is. is_among is i) (inputs_at-append t before later)
    ∙ list_any-append (λ j. j == i) (inputs_at t before) (inputs_at t later) ∙ ap (λ b. b || is_among (inputs_at t later) i) had

had_here : (l : Line) (i : ℕ) (v : Scalar) → l.event ≡ Some (i, v) → had_event (l ∷ []) l.time i ≡ true
had_here l i v is = (λ k. is_among ((if eq-eqb l.time l.time refl k then input_in (is k) else []) ++ []) i) ∙ ap (λ b. b || false) (eq-eqb i i refl)

had_now : (before : List Line) (l : Line) (i : ℕ) (v : Scalar) → l.event ≡ Some (i, v) → had_event (before ++ l ∷ []) l.time i ≡ true
had_now before l i v is =
    ap (λ js. is_among js i) (inputs_at-append l.time before (l ∷ []))
    ∙ list_any-append (λ j. j == i) (inputs_at l.time before) (inputs_at l.time (l ∷ []))
    ∙ ap (λ b. is_among (inputs_at l.time before) i || b) (had_here l i v is)
    ∙ or-true (is_among (inputs_at l.time before) i)

none_at : {s : System} {before : List Line} (t i : ℕ) (ls : List Line) → had_event before t i ≡ true → StandAfter s before ls → NoneAt t i ls
none_at t i [] had it = tt
none_at {s} {before} t i (l ∷ ls) had (more stands after) = (
  λ v time event. absurd (true≢false (sym had ∙ ap (λ u. had_event before u i) (sym time) ∙ stands.new i v event)),
  none_at t i ls (had_still before (l ∷ []) t i had) after,
)

distinct : {s : System} {before : List Line} (ls : List Line) → StandAfter s before ls → AreDistinct ls
distinct [] it = tt
distinct {s} {before} (l ∷ ls) (more stands after) = (λ i v is. none_at l.time i ls (had_now before l i v is) after, distinct ls after)

proper : {s : System} {before : List Line} (ls : List Line) → StandAfter s before ls → AllByRecursion (IsProperLine s) ls
proper [] it = tt
proper (l ∷ ls) (more stands after) = (stands.proper, proper ls after)

pub at_least : (low last until : ℕ) (through : Bool) → low ≤ last → low ≤ (if through then max last until + 1 else last)
at_least low last until true le = omega arith
at_least low last until false le = le

-- a whole reading
module _ (s : System) (strict : Bool) (limit : ℕ) where
  pub reading_stands : (bytes : List ℕ) (ended : Bool) → StandAfter s [] (reading s strict limit bytes ended).lines
  unfolding reading
  reading_stands bytes ended = read_stands s strict [] 1 (lines_of (take limit bytes) (ended && is_none (slice_get bytes limit)))

  pub reading_sorted : (bytes : List ℕ) (ended : Bool) → IsSorted (reading s strict limit bytes ended).lines
  reading_sorted bytes ended = sorted (reading s strict limit bytes ended).lines (reading_stands bytes ended)

  pub reading_proper : (bytes : List ℕ) (ended : Bool) → AllByRecursion (IsProperLine s) (reading s strict limit bytes ended).lines
  reading_proper bytes ended = proper (reading s strict limit bytes ended).lines (reading_stands bytes ended)

  pub reading_distinct : (bytes : List ℕ) (ended : Bool) → AreDistinct (reading s strict limit bytes ended).lines
  reading_distinct bytes ended = distinct (reading s strict limit bytes ended).lines (reading_stands bytes ended)

  pub reading_later : (bytes beyond : List ℕ) (ended : Bool) (rest : List Line) →
      (reading s strict limit (bytes ++ beyond) ended).lines ≡ (reading s strict limit bytes false).lines ++ rest → AllByRecursion (λ (l : Line). last_time (reading s strict limit bytes false).lines ≤ l.time) rest
  reading_later bytes beyond ended rest is =
      all_after_later (reading s strict limit bytes false).lines rest (subst (StandAfter s []) is (reading_stands (bytes ++ beyond) ended))

  closed_rises : (bytes beyond : List ℕ) (ended : Bool) → last_time (reading s strict limit bytes false).lines ≤ last_time (reading s strict limit (bytes ++ beyond) ended).lines
  closed_rises bytes beyond ended =
      let first = (reading s strict limit bytes false).lines in
      let it = reading_begins s strict limit bytes beyond ended in
      subst (λ (ls : List Line). last_time first ≤ last_time ls) (sym it.is)
      (last_rises first it.rest (subst (StandAfter s []) it.is (reading_stands (bytes ++ beyond) ended)))

  pub reading_closed : (until : ℕ) (bytes beyond : List ℕ) (ended : Bool) → closed_below (reading s strict limit bytes false) until false ≤ closed_below (reading s strict limit (bytes ++ beyond) ended) until ended
  reading_closed until bytes beyond ended =
      let whole = reading s strict limit (bytes ++ beyond) ended in
      at_least (last_time (reading s strict limit bytes false).lines) (last_time whole.lines) until (ended && is_none whole.refused) (closed_rises bytes beyond ended)
