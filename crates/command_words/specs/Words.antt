-- What the words after the program's name ask for.
use Rattle.std.specs.Prelude.{◌<◌, ◌≤◌, ◌==◌, ◌^◌, ℕ, Bool, true, false, not, ◌&&◌, ◌||◌, if◌then◌else◌, nat_le, ⊤, List, [], ◌∷◌, length}
use Rattle.std.specs.Prelude.{map, Option, Some, None, codes, drop, option_map, option_and_then, unwrap_or, slice_get}
use Rattle.std.specs.List.{list_all, list_any, before_first, after_first}
use Rattle.std.specs.Str.{bytes_eq}
use Rattle.std.specs.Str.Parse.{digits_value}
use Rattle.tsl_value.specs.Literal.{are_digits}
use Rattle.tsl_value.specs.declared.limits.TheConstants.{MOST_INSTANTS, MOST_TRACE_BYTES}
use Rattle.command_words.specs.declared.command.Command.{Command}
use Rattle.command_words.specs.declared.command.Command.TheVariants as command
use Rattle.command_words.specs.declared.command.Form.TheVariants as form
use Rattle.command_words.specs.declared.command.Origin.{Origin}
use Rattle.command_words.specs.declared.command.Origin.TheVariants as origin
use Rattle.command_words.specs.declared.command.Run.{Run}
use Rattle.command_words.specs.declared.command.Why.{Why}
use Rattle.command_words.specs.declared.command.Workload.{Workload}
use Rattle.command_words.specs.declared.command.Workload.TheVariants as kind
use Rattle.command_words.specs.declared.room.Room.{Room}
use Rattle.command_words.specs.declared.words.Files.{Files}
use Rattle.command_words.specs.declared.words.Limits.{Limits}
use Rattle.command_words.specs.declared.words.Source.{Source}
use Rattle.command_words.specs.declared.words.Source.TheVariants as source
use Rattle.command_words.specs.declared.words.Subject.{Subject}
use Rattle.command_words.specs.declared.words.Verb.{Verb}
use Rattle.command_words.specs.declared.words.Verb.TheVariants as verb
use Rattle.command_words.specs.declared.words.Word.{Word}
use Rattle.command_words.specs.declared.limits.TheConstants.{MOST_TIME, MOST_LINES}

-- the options that have a value
pub data Name : Type 0 where
  until_name : Name
  instants_name : Name
  bytes_name : Name
  save_name : Name
  resume_name : Name

-- the options that have none
pub data Flag : Type 0 where
  strict_flag : Flag
  stats_flag : Flag

-- what words say together: a plain word, an option with its value, a flag
pub data Piece : Type 0 where
  plain : List ℕ → Piece
  option : Name → List ℕ → Piece
  flag : Flag → Piece

-- what a word may be where no value is waited for: a piece, an option whose value is the next word, `--`, or refused
pub data Class : Type 0 where
  whole : Piece → Class
  waits : Name → Class
  ends : Class
  refused : Class

-- the word has no byte
abbrev pub is_empty : List ℕ → Bool
is_empty word = length word == 0

-- the word begins with `-` (45), and is not `-` alone
abbrev pub is_dashed : List ℕ → Bool
is_dashed [] = false
is_dashed (b ∷ []) = false
is_dashed (b ∷ c ∷ more) = b == 45

-- `=`
abbrev pub is_equals : ℕ → Bool
is_equals b = b == 61

-- what stands after the first `=`, if there is one
abbrev pub value_in : List ℕ → Option (List ℕ)
value_in word = if list_any is_equals word then Some (after_first is_equals word) else None

-- which option it is
abbrev pub name_of : List ℕ → Option Name
name_of word =
    if bytes_eq (codes "--until") word then Some until_name
    else (if bytes_eq (codes "--instants") word then Some instants_name
    else (if bytes_eq (codes "--bytes") word then Some bytes_name
    else (if bytes_eq (codes "--save") word then Some save_name
    else (if bytes_eq (codes "--resume") word then Some resume_name else None))))

-- a flag has no value
abbrev pub flag_class : Flag → Option (List ℕ) → Class
flag_class f None = whole (flag f)
flag_class f (Some value) = refused

-- an option has its value after `=`, or in the next word
abbrev pub option_class : Option Name → Option (List ℕ) → Class
option_class None value = refused
option_class (Some name) None = waits name
option_class (Some name) (Some value) = whole (option name value)

-- by what stands before the first `=`, and what stands after it
abbrev pub named_class : List ℕ → Option (List ℕ) → Class
named_class name value =
    if bytes_eq (codes "--strict") name then flag_class strict_flag value
    else (if bytes_eq (codes "--stats") name then flag_class stats_flag value else option_class (name_of name) value)

-- what a word is
abbrev pub class_of : List ℕ → Class
class_of word =
    if not (is_dashed word) then whole (plain word)
    else (if bytes_eq word (codes "--") then ends
    else named_class (before_first is_equals word) (value_in word))

-- one piece more
abbrev pub before : Piece → Option (List Piece) → Option (List Piece)
before piece = option_map (λ pieces. piece ∷ pieces)

-- the pieces that words say, of which the first is the value of an option where one waits; `None` where a word is refused or
-- a value is missing. After `--` every word is a plain one
abbrev pub pieces : Option Name → List (List ℕ) → Option (List Piece)
pieces None [] = Some []
pieces (Some name) [] = None
pieces (Some name) (word ∷ words) =
    elim (is_dashed word) [
      | true ↦ None
      | false ↦ before (option name word) (pieces None words)
    ]
pieces None (word ∷ words) =
    elim (class_of word) [
      | whole piece ↦ before piece (pieces None words)
      | waits name ↦ pieces (Some name) words
      | ends ↦ Some (map plain words)
      | refused ↦ None
    ]

-- the same option
abbrev pub same_name : Name → Name → Bool
same_name until_name until_name = true
same_name instants_name instants_name = true
same_name bytes_name bytes_name = true
same_name save_name save_name = true
same_name resume_name resume_name = true
same_name _ _ = false

-- the same flag
abbrev pub same_flag : Flag → Flag → Bool
same_flag strict_flag strict_flag = true
same_flag stats_flag stats_flag = true
same_flag _ _ = false

-- the plain words, in their order
abbrev pub plains : List Piece → List (List ℕ)
plains [] = []
plains (plain word ∷ pieces) = word ∷ plains pieces
plains (piece ∷ pieces) = plains pieces

-- the values of an option
abbrev pub values : Name → List Piece → List (List ℕ)
values name [] = []
values name (option other value ∷ pieces) = if same_name name other then value ∷ values name pieces else values name pieces
values name (piece ∷ pieces) = values name pieces

-- the uses of a flag
abbrev pub uses : Flag → List Piece → List Flag
uses f [] = []
uses f (flag other ∷ pieces) = if same_flag f other then f ∷ uses f pieces else uses f pieces
uses f (piece ∷ pieces) = uses f pieces

-- one digit or more, which spell a number from the least to the most
abbrev pub number : ℕ → ℕ → List ℕ → Option ℕ
number least most word =
    if are_digits word && (nat_le least (digits_value 10 word) && nat_le (digits_value 10 word) most) then Some (digits_value 10 word)
    else None

-- the number that an option's value spells, or another where the option does not stand
abbrev pub number_or : ℕ → ℕ → ℕ → Option (List ℕ) → Option ℕ
number_or other least most None = Some other
number_or other least most (Some word) = number least most word

-- how often an option may stand, by whether it says how a trace is read
abbrev pub times_of : Room → Name → ℕ
times_of room instants_name = room.limits
times_of room bytes_name = room.limits
times_of room until_name = room.others
times_of room save_name = room.others
times_of room resume_name = room.others

-- and a flag
abbrev pub uses_of : Room → Flag → ℕ
uses_of room strict_flag = room.limits
uses_of room stats_flag = room.others

abbrev pub all_names : List Name
all_names = until_name ∷ instants_name ∷ bytes_name ∷ save_name ∷ resume_name ∷ []

abbrev pub all_flags : List Flag
all_flags = strict_flag ∷ stats_flag ∷ []

-- the options that pieces have stand no more often than they may
abbrev pub options_fit : Room → List Piece → Bool
options_fit room ps = list_all (λ name. nat_le (length (values name ps)) (times_of room name)) all_names

-- and their flags
abbrev pub flags_fit : Room → List Piece → Bool
flags_fit room ps = list_all (λ f. nat_le (length (uses f ps)) (uses_of room f)) all_flags

-- pieces that have room
abbrev pub fits : Room → List Piece → Bool
fits room ps =
    nat_le room.least (length (plains ps)) && (nat_le (length (plains ps)) room.most && (options_fit room ps && flags_fit room ps))

-- the value of an option, if it stands
abbrev pub value_of : Name → List Piece → Option (List ℕ)
value_of name ps = slice_get (values name ps) 0

-- an option stands, or a flag
abbrev pub has_value : Name → List Piece → Bool
has_value name ps = nat_le 1 (length (values name ps))

abbrev pub has_use : Flag → List Piece → Bool
has_use f ps = nat_le 1 (length (uses f ps))

-- the options and flags may stand together: a run that saves its state closes nothing at its end, and one that goes on keeps the
-- limits that it began with
abbrev pub agree : List Piece → Bool
agree ps =
    not (has_value save_name ps && has_value until_name ps)
    && not (has_value resume_name ps && (has_value instants_name ps || (has_value bytes_name ps || has_use strict_flag ps)))

-- a file that is named has a name: `--save=` names none
abbrev pub is_filled : Option (List ℕ) → Bool
is_filled None = true
is_filled (Some word) = not (is_empty word)

abbrev pub are_filled : List Piece → Bool
are_filled ps = is_filled (value_of save_name ps) && is_filled (value_of resume_name ps)

-- the pieces of words that have room
abbrev pub read : Room → List (List ℕ) → Option (List Piece)
read room words = option_and_then (λ ps. if fits room ps then Some ps else None) (pieces None words)

-- `SPEC`
abbrev pub one_room : Room
one_room = record { least = 1; most = 1; limits = 0; others = 0 }

-- `SPEC [TRACE]` or `FILE [TRACE]` with all options and flags
abbrev pub run_room : Room
run_room = record { least = 1; most = 2; limits = 1; others = 1 }

-- `SPEC NAME`, `SPEC FILE` or `KIND N`
abbrev pub pair_room : Room
pair_room = record { least = 2; most = 2; limits = 0; others = 0 }

-- `SPEC TRACE NAME TIME` with the options and flags on how a trace is read
abbrev pub why_room : Room
why_room = record { least = 4; most = 4; limits = 1; others = 0 }

-- the file of a kind that has a name
abbrev pub origin_of : Source → List ℕ → Origin
origin_of source.Spec name = origin.Spec name
origin_of source.Code name = origin.Code name

-- the files of a run, of which the first word names what runs. Where the trace has no name it is `-`, the standard input
abbrev pub files_by : Option (List ℕ) → Option (List ℕ) → Option (List ℕ) → Option (List ℕ) → Option Files
files_by file trace save resume =
    option_map (λ name. record { file = name; trace = unwrap_or trace (codes "-"); save = save; resume = resume }) file

abbrev pub files_of : List Piece → Option Files
files_of ps = files_by (slice_get (plains ps) 0) (slice_get (plains ps) 1) (value_of save_name ps) (value_of resume_name ps)

-- the limits of a run or a question
abbrev pub limits_by : Option (List ℕ) → Option (List ℕ) → Option (List ℕ) → Option Limits
limits_by until instants bytes =
    option_and_then (λ until. option_and_then (λ instants. option_map (λ bytes. record {
      until = until;
      instants = instants;
      bytes = bytes;
    })
    (number_or MOST_TRACE_BYTES 1 MOST_TRACE_BYTES bytes))
    (number_or MOST_INSTANTS 1 MOST_INSTANTS instants))
    (number_or 0 0 MOST_TIME until)

abbrev pub limits_of : List Piece → Option Limits
limits_of ps = limits_by (value_of until_name ps) (value_of instants_name ps) (value_of bytes_name ps)

-- the run of a kind of file with these limits and flags
abbrev pub run_by : Source → Option Files → Option Limits → Bool → Bool → Option Run
run_by from files limits strict stats =
    option_and_then (λ f. option_map (λ l. record {
      origin = origin_of from f.file;
      trace = f.trace;
      until = l.until;
      instants = l.instants;
      bytes = l.bytes;
      strict = strict;
      stats = stats;
      save = f.save;
      resume = f.resume;
    }) limits) files

-- the run that pieces ask for that may stand together
abbrev pub run_of : Source → List Piece → Option Run
run_of from ps =
    if agree ps && are_filled ps then run_by from (files_of ps) (limits_of ps) (has_use strict_flag ps) (has_use stats_flag ps)
    else None

-- what a question is about: the files, the name of an output, and the time of its event, which the last word spells
abbrev pub subject_by : Option (List ℕ) → Option (List ℕ) → Option (List ℕ) → Option (List ℕ) → Option Subject
subject_by spec trace output time =
    option_and_then (λ s. option_and_then (λ t. option_and_then (λ o. option_map (λ n. record {
      spec = s;
      trace = t;
      output = o;
      time = n;
    })
    (option_and_then (number 0 MOST_TIME) time)) output) trace) spec

abbrev pub subject_of : List Piece → Option Subject
subject_of ps =
    subject_by (slice_get (plains ps) 0) (slice_get (plains ps) 1) (slice_get (plains ps) 2) (slice_get (plains ps) 3)

-- the question with these limits and this flag; it takes no time to close
abbrev pub why_by : Option Subject → Option Limits → Bool → Option Why
why_by subject limits strict =
    option_and_then (λ s. option_map (λ l. record {
      spec = s.spec;
      trace = s.trace;
      output = s.output;
      time = s.time;
      instants = l.instants;
      bytes = l.bytes;
      strict = strict;
    }) limits) subject

-- the question that pieces ask
abbrev pub why_of : List Piece → Option Why
why_of ps = why_by (subject_of ps) (limits_of ps) (has_use strict_flag ps)

-- the specification that pieces name
abbrev pub spec_of : List Piece → Option (List ℕ)
spec_of ps = slice_get (plains ps) 0

-- the two names that pieces have
abbrev pub two_by : Option (List ℕ) → Option (List ℕ) → Option (List ℕ × List ℕ)
two_by first second = option_and_then (λ a. option_map (λ b. (a, b)) second) first

abbrev pub two_of : List Piece → Option (List ℕ × List ℕ)
two_of ps = two_by (slice_get (plains ps) 0) (slice_get (plains ps) 1)

-- the kinds of traces
abbrev pub kind_of : List ℕ → Option Workload
kind_of word =
    if bytes_eq word (codes "seen") then Some kind.Seen else (if bytes_eq word (codes "copy") then Some kind.Copy else None)

abbrev pub counted_by : Option (List ℕ) → Option (List ℕ) → Option (Workload × ℕ)
counted_by name count =
    option_and_then (λ k. option_map (λ n. (k, n)) (option_and_then (number 1 MOST_LINES) count)) (option_and_then kind_of name)

-- the kind and the number that pieces ask for
abbrev pub counted_of : List Piece → Option (Workload × ℕ)
counted_of ps = counted_by (slice_get (plains ps) 0) (slice_get (plains ps) 1)

-- which command a name is
abbrev pub verb_of : List ℕ → Option Verb
verb_of word =
    if bytes_eq word (codes "run") then Some verb.Run
    else (if bytes_eq word (codes "exec") then Some verb.Exec
    else (if bytes_eq word (codes "why") then Some verb.Why
    else (if bytes_eq word (codes "check") then Some verb.Check
    else (if bytes_eq word (codes "flat") then Some verb.Flat
    else (if bytes_eq word (codes "show") then Some verb.Show
    else (if bytes_eq word (codes "code") then Some verb.Code
    else (if bytes_eq word (codes "slice") then Some verb.Slice
    else (if bytes_eq word (codes "compile") then Some verb.Compile
    else (if bytes_eq word (codes "gen") then Some verb.Generate
    else (if bytes_eq word (codes "bench") then Some verb.Bench else None))))))))))

-- what is asked for after the name of a command
abbrev pub asked_by : Verb → List (List ℕ) → Option Command
asked_by verb.Run words = option_map command.Run (option_and_then (run_of source.Spec) (read run_room words))
asked_by verb.Exec words = option_map command.Run (option_and_then (run_of source.Code) (read run_room words))
asked_by verb.Why words = option_map command.Why (option_and_then why_of (read why_room words))
asked_by verb.Check words = option_map (λ spec. command.Write spec form.Check) (option_and_then spec_of (read one_room words))
asked_by verb.Flat words = option_map (λ spec. command.Write spec form.Flat) (option_and_then spec_of (read one_room words))
asked_by verb.Show words = option_map (λ spec. command.Write spec form.Show) (option_and_then spec_of (read one_room words))
asked_by verb.Code words = option_map (λ spec. command.Write spec form.Code) (option_and_then spec_of (read one_room words))
asked_by verb.Slice words = option_map (λ p. command.Write p.0 (form.Slice p.1)) (option_and_then two_of (read pair_room words))
asked_by verb.Compile words = option_map (λ p. command.Write p.0 (form.File p.1)) (option_and_then two_of (read pair_room words))
asked_by verb.Generate words = option_map (λ c. command.Generate c.1) (option_and_then counted_of (read pair_room words))
asked_by verb.Bench words = option_map (λ c. command.Bench c.0 c.1) (option_and_then counted_of (read pair_room words))

-- the command that the first word names
abbrev pub first_verb : List (List ℕ) → Option Verb
first_verb [] = None
first_verb (name ∷ words) = verb_of name

-- what is asked for: the name of a command and then what is asked for after it, in words of which none is empty
abbrev pub command_of : List (List ℕ) → Option Command
command_of words = if list_any is_empty words then None else option_and_then (λ v. asked_by v (drop 1 words)) (first_verb words)

-- the texts of the code's words
abbrev pub texts_of : List Word → List (List ℕ)
texts_of = map (λ word. word.text)

-- what holds of each run that is asked for
pub record IsLimitedRun (run : Run) : Type 0 where
  pub until : run.until < 2 ^ 63
  pub some_instants : 1 ≤ run.instants
  pub instants : run.instants ≤ MOST_INSTANTS
  pub some_bytes : 1 ≤ run.bytes
  pub bytes : run.bytes ≤ MOST_TRACE_BYTES

-- and of each question
pub record IsLimitedWhy (why : Why) : Type 0 where
  pub some_instants : 1 ≤ why.instants
  pub instants : why.instants ≤ MOST_INSTANTS
  pub some_bytes : 1 ≤ why.bytes
  pub bytes : why.bytes ≤ MOST_TRACE_BYTES

-- and of each number of lines
pub record IsLimitedCount (n : ℕ) : Type 0 where
  pub some : 1 ≤ n
  pub most : n ≤ MOST_LINES

-- what holds of each command that is asked for
abbrev pub IsLimited : Command → Type 0
IsLimited (command.Write spec f) = ⊤
IsLimited (command.Run r) = IsLimitedRun r
IsLimited (command.Why w) = IsLimitedWhy w
IsLimited (command.Generate n) = IsLimitedCount n
IsLimited (command.Bench k n) = IsLimitedCount n
