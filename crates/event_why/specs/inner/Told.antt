-- What facts tell of equations at a time, as it is computed.
use Rattle.std.specs.Prelude.{◌==◌, ℕ, Bool, false, ◌&&◌, if◌then◌else◌, nat_le, nat_lt, List, [], ◌∷◌, pos, Option, Some, None}
use Rattle.tsl_value.specs.View.{View, Plain}
use Rattle.tsl_value.specs.declared.scalar.Scalar.TheVariants as scalar
use Rattle.why_rules.specs.Facts.{Fact, Happens, Silent, Pending}

-- the event of equation i at t, if the fact says which
abbrev pub event_in : ℕ → ℕ → Fact → Option View
event_in i t (Happens j u v) = if (j == i) && (u == t) then Some v else None
event_in i t _ = None

-- the number above 0 that a value is, if it is one
abbrev pub amount_of : Option View → Option ℕ
amount_of (Some (Plain (scalar.Int (pos n)))) = if nat_lt 0 n then Some n else None
amount_of _ = None

-- when delay i is due by what happened up to t, if the fact says it
abbrev pub due_in : ℕ → ℕ → Fact → Option (Option ℕ)
due_in i t (Pending j u due) = if (j == i) && (u == t) then Some due else None
due_in i t _ = None

-- the fact says that equation i has no event at t
abbrev pub is_silent_in : ℕ → ℕ → Fact → Bool
is_silent_in i t (Silent j from to) = (j == i) && (nat_le from t && nat_le t to)
is_silent_in i t _ = false

-- the event of equation i at t, or that it has none, if the fact tells one of them
abbrev pub told_in : ℕ → ℕ → Fact → Option (Option View)
told_in i t (Happens j u v) = if (j == i) && (u == t) then Some (Some v) else None
told_in i t (Silent j from to) = if (j == i) && (nat_le from t && nat_le t to) then Some None else None
told_in i t _ = None

abbrev pub told_before : Option (Option View) → Option (List (Option View)) → Option (List (Option View))
told_before (Some v) (Some values) = Some (v ∷ values)
told_before _ _ = None

-- what the facts tell of these equations, each by one fact, in order
abbrev pub told_all : ℕ → List ℕ → List Fact → Option (List (Option View))
told_all t [] [] = Some []
told_all t (a ∷ args) (f ∷ fs) = told_before (told_in a t f) (told_all t args fs)
told_all t _ _ = None
