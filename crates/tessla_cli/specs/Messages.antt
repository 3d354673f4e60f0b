-- The lines on standard error.
use Rattle.std.specs.Prelude.{ℕ, List, [], ◌∷◌, ◌++◌, codes}
use Rattle.std.specs.Fmt.{decimal}
use Rattle.tsl_value.specs.declared.place.Place.{Place}
use Rattle.event_writer.specs.Text.{place_text, fault_line}
use Rattle.code_file.specs.declared.fault.CodeFault.{CodeFault}
use Rattle.code_file.specs.declared.fault.CodeFault.TheVariants as code
use Rattle.spec_lexer.specs.declared.fault.LexFault.{LexFault}
use Rattle.spec_lexer.specs.declared.fault.LexFault.TheVariants as lex
use Rattle.spec_parser.specs.declared.parse.ParseFault.{ParseFault}
use Rattle.spec_parser.specs.declared.parse.ParseFault.TheVariants as parse
use Rattle.type_check.specs.declared.fault.Kind.{Kind}
use Rattle.type_check.specs.declared.fault.TypeFault.{TypeFault}
use Rattle.type_check.specs.declared.fault.TypeFault.TheVariants as types
use Rattle.type_check.specs.Text.{kind_text as type_text}
use Rattle.source_rules.specs.declared.fault.FlatFault.{FlatFault}
use Rattle.source_rules.specs.declared.fault.FlatFault.TheVariants as flat
use Rattle.source_rules.specs.declared.fault.SpecFault.{SpecFault}
use Rattle.source_rules.specs.declared.fault.SpecFault.TheVariants as spec
use Rattle.state_snapshot.specs.declared.fault.StateFault.{StateFault}
use Rattle.state_snapshot.specs.declared.fault.StateFault.TheVariants as state
use Rattle.trace_reader.specs.declared.fault.TraceFault.{TraceFault}
use Rattle.trace_reader.specs.declared.fault.TraceFault.TheVariants as trace
use Rattle.tessla_cli.specs.declared.ending.Ending.{Ending}
use Rattle.tessla_cli.specs.declared.ending.Ending.TheVariants as ending
use Rattle.tsl_world.specs.declared.broken.Broken.{Broken}
use Rattle.tsl_world.specs.declared.broken.Broken.TheVariants as broken

-- the number of a refused line, and why it is refused; out of memory is told otherwise
abbrev pub line_text : ℕ → List ℕ → List ℕ
line_text line cause = decimal line ++ (codes ": " ++ cause)

-- the two times of a line that goes back in time
abbrev pub back_text : ℕ → ℕ → List ℕ
back_text before now = decimal now ++ (codes " after " ++ decimal before)

-- the input whose value is wrong, and one that has an event already
abbrev pub wrong_text : ℕ → List ℕ → List ℕ
wrong_text line name = line_text line (codes "wrong value for " ++ name)

abbrev pub twice_text : ℕ → List ℕ → List ℕ
twice_text line name = line_text line (name ++ codes " twice at one time")

abbrev pub trace_text : TraceFault → List ℕ
trace_text (trace.BadLine line) = line_text line (codes "not a trace line")
trace_text (trace.TimeTooLarge line) = line_text line (codes "time too large")
trace_text (trace.TimeBack line before now) = line_text line (codes "time " ++ back_text before now)
trace_text (trace.UnknownStream line) = line_text line (codes "unknown stream")
trace_text (trace.WrongValue line name) = wrong_text line name
trace_text (trace.Twice line name) = twice_text line name
trace_text (trace.LineTooLong line) = line_text line (codes "line too long")
trace_text (trace.TraceTooLong line) = line_text line (codes "trace too long")
trace_text trace.Memory = []

-- where and how a specification is refused
abbrev pub at_text : Place → List ℕ → List ℕ
at_text place kind = place_text place ++ (codes ": " ++ kind)

abbrev pub lex_text : LexFault → List ℕ
lex_text (lex.SpecTooLong place) = at_text place (codes "SpecTooLong")
lex_text (lex.BadUtf8 place) = at_text place (codes "BadUtf8")
lex_text (lex.BadCharacter place) = at_text place (codes "BadCharacter")
lex_text (lex.OpenText place) = at_text place (codes "OpenText")
lex_text (lex.BadEscape place) = at_text place (codes "BadEscape")
lex_text (lex.LiteralTooWide place) = at_text place (codes "LiteralTooWide")
lex_text (lex.TextTooLong place) = at_text place (codes "TextTooLong")
lex_text (lex.NameTooLong place) = at_text place (codes "NameTooLong")
lex_text lex.Memory = []

abbrev pub parse_text : ParseFault → List ℕ
parse_text (parse.Unexpected place) = at_text place (codes "Unexpected")
parse_text (parse.TooDeep place) = at_text place (codes "TooDeep")
parse_text parse.Memory = []

-- what an expression is, and what is asked of it
abbrev pub clash_text : Kind → Kind → List ℕ
clash_text have want = codes ": have " ++ (type_text have ++ (codes ", want " ++ type_text want))

abbrev pub types_text : TypeFault → List ℕ
types_text (types.DefinedTwice place) = at_text place (codes "DefinedTwice")
types_text (types.UnknownName place) = at_text place (codes "UnknownName")
types_text (types.BadType place) = at_text place (codes "BadType")
types_text (types.MixedParameters place) = at_text place (codes "MixedParameters")
types_text (types.AggregateInput place) = at_text place (codes "AggregateInput")
types_text (types.FunctionCycle place) = at_text place (codes "FunctionCycle")
types_text (types.NeedsType place) = at_text place (codes "NeedsType")
types_text (types.WrongArity place) = at_text place (codes "WrongArity")
types_text (types.WrongType place have want) = at_text place (codes "WrongType" ++ clash_text have want)
types_text (types.AggregateResult place) = at_text place (codes "AggregateResult")
types_text (types.OutputTwice place) = at_text place (codes "OutputTwice")
types_text (types.NoOutput place) = at_text place (codes "NoOutput")
types_text types.Memory = []

abbrev pub flat_text : FlatFault → List ℕ
flat_text (flat.MacroCycle place) = at_text place (codes "MacroCycle")
flat_text (flat.CallsTooDeep place) = at_text place (codes "CallsTooDeep")
flat_text (flat.BodyTooLarge place) = at_text place (codes "BodyTooLarge")
flat_text (flat.TooManyEquations place) = at_text place (codes "TooManyEquations")
flat_text (flat.TooManyUpdates place) = at_text place (codes "TooManyUpdates")

-- the names of a cycle, each with an arrow after it
abbrev pub members_text : List (List ℕ) → List ℕ
members_text [] = []
members_text (name ∷ names) = name ++ (codes " -> " ++ members_text names)

-- a cycle ends with the name with which it begins
abbrev pub cycle_text : Place → List (List ℕ) → List ℕ
cycle_text place [] = at_text place (codes "cycle ")
cycle_text place (name ∷ names) = at_text place (codes "cycle " ++ (members_text (name ∷ names) ++ name))

abbrev pub spec_text : SpecFault → List ℕ
spec_text (spec.Lex fault) = lex_text fault
spec_text (spec.Parse fault) = parse_text fault
spec_text (spec.Types fault) = types_text fault
spec_text (spec.Flat fault) = flat_text fault
spec_text (spec.Cycle place names) = cycle_text place names.items
spec_text spec.Memory = []

-- the equation of code whose types are wrong
abbrev pub wrong_types_text : ℕ → List ℕ
wrong_types_text equation = codes "wrong types in equation " ++ decimal equation

-- why there is no code file, or why it has no code
abbrev pub code_text : CodeFault → List ℕ
code_text code.TooLong = codes "too long"
code_text code.WrongForm = codes "wrong form"
code_text (code.WrongTypes equation) = wrong_types_text equation
code_text code.Cycle = codes "cycle"
code_text code.NotFine = codes "plan not fine"
code_text code.Memory = []

-- why there is no state that a run can go on from; out of memory is told otherwise
abbrev pub state_text : StateFault → List ℕ
state_text state.OtherProgram = codes "other program"
state_text state.WrongForm = codes "wrong form"
state_text state.Memory = []

-- how many instants ran, and when the next one comes
abbrev pub next_text : ℕ → List ℕ
next_text time = codes " instants before time " ++ decimal time

abbrev pub limit_text : ℕ → ℕ → List ℕ
limit_text count time = codes "limit: " ++ (decimal count ++ next_text time)

-- that an output has no event at a time
abbrev pub at_time_text : ℕ → List ℕ
at_time_text time = codes " at " ++ decimal time

abbrev pub no_event_text : List ℕ → ℕ → List ℕ
no_event_text name time = codes "no event of " ++ (name ++ at_time_text time)

-- with the end of a line
abbrev pub as_line : List ℕ → List ℕ
as_line text = text ++ 10 ∷ []

-- the line that tells an ending; where all was done nothing is told
abbrev pub ending_line : Ending → List ℕ
ending_line ending.Done = []
ending_line ending.Words = as_line (codes "words not accepted")
ending_line (ending.Spec fault) = as_line (codes "spec " ++ spec_text fault)
ending_line (ending.Code fault) = as_line (codes "code: " ++ code_text fault)
ending_line (ending.State fault) = as_line (codes "state: " ++ state_text fault)
ending_line (ending.NoOutput name) = as_line (codes "no output " ++ name)
ending_line (ending.NoEvent name time) = as_line (no_event_text name time)
ending_line (ending.Trace fault) = as_line (codes "trace " ++ trace_text fault)
ending_line (ending.Fault time kind place) = fault_line time kind place
ending_line (ending.Limit count time) = as_line (limit_text count time)

-- what tells that a run was cut short
abbrev pub broken_line : Broken → List ℕ
broken_line broken.Outside = as_line (codes "outside: a call failed")
broken_line broken.Memory = as_line (codes "out of memory")

-- the status with which the program ends where a run is cut short
abbrev pub broken_status : Broken → ℕ
broken_status broken.Outside = 5
broken_status broken.Memory = 6

-- the status with which an ending ends the program
abbrev pub status_of : Ending → ℕ
status_of ending.Done = 0
status_of (ending.Fault time kind place) = 1
status_of ending.Words = 2
status_of (ending.Spec fault) = 3
status_of (ending.Trace fault) = 4
status_of (ending.Limit count time) = 7
status_of (ending.State fault) = 8
status_of (ending.Code fault) = 9
status_of (ending.NoOutput name) = 10
status_of (ending.NoEvent name time) = 10
