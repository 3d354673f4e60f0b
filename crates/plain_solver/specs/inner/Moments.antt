-- What happens in a stream, as a stream.
use Rattle.std.specs.Prelude.{ℕ, zero, suc, ◌+◌, ◌<◌, ◌≤◌, Bool, true, false, ◌&&◌, List, [], ◌∷◌, map, ⊤, Option, None, Some, nat_lt}
use Rattle.std.specs.Prelude.{if◌then◌else◌}
use Rattle.plain_solver.specs.declared.events.Outcome.TheVariants as outcome
use Rattle.plain_solver.specs.declared.events.Outcome as code
use Rattle.plain_solver.specs.declared.events.Moment.{Moment}
use Rattle.flat_core.specs.Stream.{Outcome, Stream, History, Event, Fault, has_event}

abbrev pub seen : code.Outcome → Outcome
seen (outcome.Event v) = Event v
seen outcome.Fault = Fault

abbrev pub is_event : code.Outcome → Bool
is_event (outcome.Event v) = true
is_event outcome.Fault = false

abbrev pub stream_of : List Moment → Stream
stream_of moments = map (λ m. (m.time, seen m.outcome)) moments

-- the times rise, from low on
abbrev pub IsRising : ℕ → List Moment → Type 0
IsRising low [] = ⊤
IsRising low (m ∷ ms) = (low ≤ m.time) × IsRising (m.time + 1) ms

-- all of them are before a time
abbrev pub AllBefore : ℕ → List Moment → Type 0
AllBefore t [] = ⊤
AllBefore t (m ∷ ms) = (m.time < t) × AllBefore t ms

-- the time of the latest event before a time
abbrev pub latest_time : History → ℕ → Option ℕ
latest_time h zero = None
latest_time h (suc t) = if has_event (h t) then Some t else latest_time h t

-- the time of the last event among them that is before a time, else what was found before
abbrev pub time_onto : Option ℕ → List Moment → ℕ → Option ℕ
time_onto found [] t = found
time_onto found (m ∷ ms) t = time_onto (if nat_lt m.time t && is_event m.outcome then Some m.time else found) ms t
