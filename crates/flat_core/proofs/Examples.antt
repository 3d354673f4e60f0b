-- The definitions at small systems, by computation.
use Rattle.std.proofs.Common.{◌≡◌, ℕ, Bool, List, [], ◌∷◌, map, Option, Some, None, refl, true, false}
use Rattle.std.specs.Prelude.{pos, slice_index_or}
use Rattle.std.specs.FinSet as set
use Rattle.tsl_value.specs.Aggregate.{empty_of}
use Rattle.tsl_value.specs.View.{Plain, Keyed, Listed}
use Rattle.tsl_value.specs.declared.scalar.Scalar.TheVariants as scalar
use Rattle.tsl_value.specs.declared.scalar.ScalarType.TheVariants as scalar_type
use Rattle.tsl_value.specs.declared.scalar.KeyType.TheVariants as key_type
use Rattle.tsl_value.specs.declared.scalar.ValueType.{ValueType}
use Rattle.tsl_value.specs.declared.scalar.ValueType.TheVariants as value_type
use Rattle.lift_func.specs.BodyTree.{Literal, Argument, One, Two}
use Rattle.tsl_value.specs.declared.operation.Unary.TheVariants as unary
use Rattle.tsl_value.specs.declared.operation.Binary.TheVariants as binary
use Rattle.lift_func.specs.declared.fault.FaultKind.{FaultKind}
use Rattle.lift_func.specs.declared.fault.FaultKind.TheVariants.{DivideByZero, EmptyQueue, DelayNotPositive}
use Rattle.flat_core.specs.declared.equation.Op.{Op}
use Rattle.flat_core.specs.declared.equation.Op.TheVariants as op
use Rattle.flat_core.specs.declared.equation.Equation.{Equation}
use Rattle.flat_core.specs.Stream.{Stream, Outcome, Event, Fault, at, has_event}
use Rattle.flat_core.specs.Case.{Streams, case_of, root_fault}
use Rattle.flat_core.specs.Events.{unit, expires}
use Rattle.flat_core.specs.Line.{Line, inputs_of}
use Rattle.flat_core.specs.System.{System}
use Rattle.flat_core.specs.Instant.{instants}
use Rattle.flat_core.specs.Fault.{root_at, is_faulty, is_over}
use Rattle.flat_core.proofs.Existence.{solved}

abbrev eq : Op → List ℕ → ValueType → Equation
eq o args of = record { op = o; args = args; of = of; place = record { line = 1; column = 1 }; name = None }

abbrev int_type : ValueType
int_type = value_type.Scalar scalar_type.Int

abbrev unit_type : ValueType
unit_type = value_type.Scalar scalar_type.Unit

abbrev int_at : ℕ → ℕ → Option Outcome
int_at t n = Some (Event (Plain (scalar.Int (pos n))))

-- p := last(i, i), as in the first run
abbrev first_system : System
first_system = record { equations = eq op.Input [] int_type ∷ eq op.Last (0 ∷ 0 ∷ []) int_type ∷ []; outputs = []; running = 0 ∷ 1 ∷ [] }

abbrev lines : List Line
lines = record { time = 1; event = Some (0, scalar.Int (pos 4)) } ∷ record { time = 3; event = Some (0, scalar.Int (pos 9)) } ∷ []

abbrev first_streams : Streams
first_streams = solved first_system (inputs_of lines) (0 ∷ 1 ∷ []) 5

at_three : first_streams 1 3 ≡ Some (Event (Plain (scalar.Int (pos 4))))
at_three = refl

at_one : first_streams 1 1 ≡ None
at_one = refl

first_instants : instants first_system lines first_streams 5 ≡ 0 ∷ 1 ∷ 3 ∷ []
first_instants = refl

-- a delay that is set at 0 to 10: a reset at 7 cancels it, and one at 10 does not
abbrev amount : Stream
amount = (0, Event (Plain (scalar.Int (pos 10)))) ∷ []

abbrev never : Stream
never = []

cancelled : expires (at amount) (at ((0, Event unit) ∷ (7, Event unit) ∷ [])) (at never) 10 ≡ false
cancelled = refl

at_expiry : expires (at amount) (at ((0, Event unit) ∷ (10, Event unit) ∷ [])) (at never) 10 ≡ true
at_expiry = refl

-- p := delay(const(10, merge(unit, p)), unit)
abbrev ticking : System
ticking = record {
  equations = eq op.Unit [] unit_type ∷ eq op.Merge (0 ∷ 3 ∷ []) unit_type ∷ eq (op.Lift (Literal (scalar.Int (pos 10))) true) (1 ∷ []) int_type
      ∷ eq op.Delay (2 ∷ 0 ∷ []) unit_type ∷ [];
  outputs = [];
  running = 0 ∷ 1 ∷ 2 ∷ 3 ∷ [];
}

abbrev ticks : Streams
ticks = solved ticking (inputs_of []) (0 ∷ 3 ∷ 1 ∷ 2 ∷ []) 25

tick_times : instants ticking [] ticks 25 ≡ 0 ∷ 10 ∷ 20 ∷ []
tick_times = refl

-- q := 1 / i at 0
abbrev dividing : System
dividing = record {
  equations = eq op.Input [] int_type ∷ eq (op.Lift (Two binary.Div (Literal (scalar.Int (pos 1))) (Argument 0)) true) (0 ∷ []) int_type ∷ [];
  outputs = [];
  running = 0 ∷ 1 ∷ [];
}

abbrev zero_line : List Line
zero_line = record { time = 3; event = Some (0, scalar.Int (pos 0)) } ∷ []

faults_at_three : is_faulty dividing (inputs_of zero_line) (solved dividing (inputs_of zero_line) (0 ∷ 1 ∷ []) 5) 3 ≡ true
faults_at_three = refl

not_before : is_over dividing (inputs_of zero_line) (solved dividing (inputs_of zero_line) (0 ∷ 1 ∷ []) 5) 2 ≡ false
not_before = refl

-- the instant of the fault is the last one, and it is named
dividing_instants : instants dividing zero_line (solved dividing (inputs_of zero_line) (0 ∷ 1 ∷ []) 5) 5 ≡ 0 ∷ 3 ∷ []
dividing_instants = refl

divides_by_zero : root_at dividing (inputs_of zero_line) (solved dividing (inputs_of zero_line) (0 ∷ 1 ∷ []) 5) 3 1 ≡ Some DivideByZero
divides_by_zero = refl

-- m := merge(i, j) and t := time(m), with both inputs at 2 and j alone at 4
abbrev merging : System
merging = record {
  equations = eq op.Input [] int_type ∷ eq op.Input [] int_type ∷ eq op.Merge (0 ∷ 1 ∷ []) int_type ∷ eq op.Time (2 ∷ []) int_type ∷ [];
  outputs = [];
  running = 0 ∷ 1 ∷ 2 ∷ 3 ∷ [];
}

abbrev both_lines : List Line
both_lines =
    record { time = 2; event = Some (1, scalar.Int (pos 7)) } ∷ record { time = 2; event = Some (0, scalar.Int (pos 5)) }
    ∷ record { time = 4; event = Some (1, scalar.Int (pos 8)) } ∷ record { time = 6; event = None } ∷ []

abbrev merged_streams : Streams
merged_streams = solved merging (inputs_of both_lines) (0 ∷ 1 ∷ 2 ∷ 3 ∷ []) 7

first_wins : merged_streams 2 2 ≡ int_at 2 5
first_wins = refl

second_alone : merged_streams 2 4 ≡ int_at 4 8
second_alone = refl

times : map (merged_streams 3) (1 ∷ 2 ∷ 3 ∷ 4 ∷ []) ≡ None ∷ int_at 2 2 ∷ None ∷ int_at 4 4 ∷ []
times = refl

-- a line without an event makes no instant
merged_instants : instants merging both_lines merged_streams 7 ≡ 0 ∷ 2 ∷ 4 ∷ []
merged_instants = refl

-- unit has its event at 0, which is an instant of each system
abbrev unit_system : System
unit_system = record { equations = eq op.Unit [] unit_type ∷ []; outputs = []; running = 0 ∷ [] }

unit_at_zero : map (solved unit_system (inputs_of []) (0 ∷ []) 3 0) (0 ∷ 1 ∷ 2 ∷ []) ≡ Some (Event unit) ∷ None ∷ None ∷ []
unit_at_zero = refl

-- one time of streams that are given: 0 has the Int 7, 1 is true, 2 is false, 3 has nothing, 4 is a fault, 5 has the Int 0
abbrev given : Streams
given i t =
    slice_index_or (int_at 0 7 ∷ Some (Event (Plain (scalar.Bool true))) ∷ Some (Event (Plain (scalar.Bool false))) ∷ None ∷ Some Fault ∷ int_at 0 0 ∷ []) i None

abbrev at_given : Op → List ℕ → Option Outcome
at_given o args = case_of (inputs_of []) given 9 (eq o args int_type) 6

merges : at_given op.Merge (3 ∷ 0 ∷ []) ≡ int_at 6 7
merges = refl

-- a fault of either side is passed on, also where the other has an event
merge_faults : at_given op.Merge (0 ∷ 4 ∷ []) ≡ Some Fault
merge_faults = refl

filter_true : at_given op.Filter (0 ∷ 1 ∷ []) ≡ int_at 6 7
filter_true = refl

filter_false : at_given op.Filter (0 ∷ 2 ∷ []) ≡ None
filter_false = refl

filter_nothing : at_given op.Filter (0 ∷ 3 ∷ []) ≡ None
filter_nothing = refl

pick_first : at_given op.Pick (1 ∷ 0 ∷ 5 ∷ []) ≡ int_at 6 7
pick_first = refl

pick_second : at_given op.Pick (2 ∷ 0 ∷ 5 ∷ []) ≡ int_at 6 0
pick_second = refl

-- all three have to be there
pick_nothing : at_given op.Pick (1 ∷ 0 ∷ 3 ∷ []) ≡ None
pick_nothing = refl

any_one : at_given op.Any (3 ∷ 0 ∷ 3 ∷ []) ≡ Some (Event unit)
any_one = refl

any_none : at_given op.Any (3 ∷ 3 ∷ 3 ∷ []) ≡ None
any_none = refl

nil_never : at_given op.Nil [] ≡ None
nil_never = refl

-- a strict lift wants all arguments, and another one any of them
abbrev plus : Op
plus = op.Lift (Two binary.Add (Argument 0) (Argument 1)) true

abbrev is_there : Op
is_there = op.Lift (One unary.IsSome (Argument 0)) false

lift_all : at_given plus (0 ∷ 5 ∷ []) ≡ int_at 6 7
lift_all = refl

lift_missing : at_given plus (0 ∷ 3 ∷ []) ≡ None
lift_missing = refl

lift_any : at_given is_there (3 ∷ 0 ∷ []) ≡ Some (Event (Plain (scalar.Bool false)))
lift_any = refl

lift_no_argument : at_given is_there (3 ∷ 3 ∷ []) ≡ None
lift_no_argument = refl

lift_blocked : at_given is_there (0 ∷ 4 ∷ []) ≡ Some Fault
lift_blocked = refl

-- last looks at its first argument only before, so a fault of it there is not passed on, and a fault of the second is
last_over_fault : at_given op.Last (4 ∷ 0 ∷ []) ≡ None
last_over_fault = refl

last_of_fault : at_given op.Last (0 ∷ 4 ∷ []) ≡ Some Fault
last_of_fault = refl

-- a delay is never a fault: here neither the amount nor the reset is one that sets it
delay_over_fault : at_given op.Delay (4 ∷ 4 ∷ []) ≡ None
delay_over_fault = refl

-- an amount of 0 is refused, also where nothing sets the delay
abbrev root_given : Op → List ℕ → Option FaultKind
root_given o args = root_fault (inputs_of []) given 9 (eq o args int_type) 6

refused_unset : root_given op.Delay (5 ∷ 3 ∷ []) ≡ Some DelayNotPositive
refused_unset = refl

positive_amount : root_given op.Delay (0 ∷ 3 ∷ []) ≡ None
positive_amount = refl

-- a fault that is passed on is no root fault, and one of the own case is
passed_on : root_given op.Merge (0 ∷ 4 ∷ []) ≡ None
passed_on = refl

divided : root_given (op.Lift (Two binary.Div (Argument 0) (Argument 1)) true) (0 ∷ 5 ∷ []) ≡ Some DivideByZero
divided = refl

-- an empty set at 0, and updates where all their arguments have events
empty_later : at_given op.Empty [] ≡ None
empty_later = refl

added_nothing : at_given op.SetAdd (0 ∷ 3 ∷ []) ≡ None
added_nothing = refl

abbrev with_sets : Streams
with_sets i t =
    slice_index_or (Some (Event (empty_of (value_type.Set key_type.Int))) ∷ Some (Event (empty_of (value_type.Map key_type.Int scalar_type.Int))) ∷ int_at 0 3 ∷ []) i None

abbrev at_sets : Op → List ℕ → Bool
at_sets o args = has_event (case_of (inputs_of []) with_sets 9 (eq o args int_type) 6)

updates : map (λ (u : Op × List ℕ). at_sets u.0 u.1) ((op.SetAdd, 0 ∷ 2 ∷ []) ∷ (op.SetRemove, 0 ∷ 2 ∷ []) ∷ (op.MapAdd, 1 ∷ 2 ∷ 2 ∷ []) ∷ (op.MapRemove, 1 ∷ 2 ∷ []) ∷ []) ≡ true ∷ true ∷ true ∷ true ∷ []
updates = refl

not_updated : map (λ (u : Op × List ℕ). at_sets u.0 u.1) ((op.SetAdd, 0 ∷ 3 ∷ []) ∷ (op.MapAdd, 1 ∷ 2 ∷ 3 ∷ []) ∷ (op.MapRemove, 3 ∷ 2 ∷ []) ∷ []) ≡ false ∷ false ∷ false ∷ []
not_updated = refl

set_added : case_of (inputs_of []) with_sets 9 (eq op.SetAdd (0 ∷ 2 ∷ []) (value_type.Set key_type.Int)) 6 ≡ Some (Event (Keyed (set.insert set.empty (scalar.Int (pos 3)))))
set_added = refl

-- a queue of all numbers that an input had: what it was before, with each number after its last element
abbrev queue_type : ValueType
queue_type = value_type.Queue scalar_type.Int

abbrev queueing : System
queueing = record {
  equations = eq op.Input [] int_type ∷ eq op.Empty [] queue_type ∷ eq op.Merge (4 ∷ 1 ∷ []) queue_type ∷ eq op.Last (2 ∷ 0 ∷ []) queue_type
      ∷ eq op.QueueAdd (3 ∷ 0 ∷ []) queue_type ∷ [];
  outputs = [];
  running = 0 ∷ 1 ∷ 2 ∷ 3 ∷ 4 ∷ [];
}

abbrev queue_lines : List Line
queue_lines = record { time = 1; event = Some (0, scalar.Int (pos 5)) } ∷ record { time = 2; event = Some (0, scalar.Int (pos 7)) } ∷ []

abbrev queued : ℕ → Option Outcome
queued = solved queueing (inputs_of queue_lines) (0 ∷ 1 ∷ 3 ∷ 4 ∷ 2 ∷ []) 3 2

empty_first : queued 0 ≡ Some (Event (Listed []))
empty_first = refl

last_added : queued 2 ≡ Some (Event (Listed (scalar.Int (pos 5) ∷ scalar.Int (pos 7) ∷ [])))
last_added = refl

-- the element in front is taken; of an empty queue that is a fault
abbrev with_queues : Streams
with_queues i t = slice_index_or (Some (Event (Listed [])) ∷ Some (Event (Listed (scalar.Int (pos 5) ∷ scalar.Int (pos 7) ∷ []))) ∷ int_at 0 3 ∷ []) i None

front_taken : case_of (inputs_of []) with_queues 9 (eq op.QueueTake (1 ∷ []) queue_type) 6 ≡ Some (Event (Listed (scalar.Int (pos 7) ∷ [])))
front_taken = refl

taken_of_none : case_of (inputs_of []) with_queues 9 (eq op.QueueTake (3 ∷ []) queue_type) 6 ≡ None
taken_of_none = refl

abbrev taking : System
taking = record { equations = eq op.Empty [] queue_type ∷ eq op.QueueTake (0 ∷ []) queue_type ∷ []; outputs = []; running = 0 ∷ 1 ∷ [] }

taken_of_empty : root_at taking (inputs_of []) (solved taking (inputs_of []) (0 ∷ 1 ∷ []) 1) 0 1 ≡ Some EmptyQueue
taken_of_empty = refl
