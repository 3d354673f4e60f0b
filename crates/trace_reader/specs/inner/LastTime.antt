-- The time of the last line, if there is one.
use Rattle.std.specs.Prelude.{ℕ, ℤ, pos, negsuc, Bool, true, nat_lt, List, [], ◌∷◌, Option, Some, None, unwrap_or}
use Rattle.flat_core.specs.Line.{Line, last_time}

-- the number that keeps it: a time, or below 0 for none
abbrev pub last_of : ℤ → Option ℕ
last_of (pos n) = Some n
last_of (negsuc n) = None

-- the time of the last of some lines
abbrev pub last_read : List Line → Option ℕ
last_read [] = None
last_read (l ∷ lines) = Some (last_time (l ∷ lines))

-- the last time, or 0 where there is none
abbrev pub or_zero : Option ℕ → ℕ
or_zero last = unwrap_or last 0

-- a time is later than the last one, or there is none
abbrev pub is_later : Option ℕ → ℕ → Bool
is_later None t = true
is_later (Some last) t = nat_lt last t
