-- How `clap` reads the words after a command's name, and what its matches say of them.
use Rattle.std.specs.Prelude.{◌≡◌, ◌≤◌, ℕ, zero, suc, Bool, true, List, [], ◌∷◌, Option, Some, None, codes, fold, length, nat_le, slice_get}
use Rattle.clap.specs.Matches.{first_value, found_of, one_text}
use Rattle.clap.specs.Simple.{App, new_app, new_rule, on_top, with_rule}
use Rattle.clap.specs.Values.{bool_text}
use Rattle.clap.specs.Walk.{Rule, Text}
use Rattle.clap.specs.declared.builder.action.ArgAction.TheVariants.{SetTrue}
use Rattle.clap.specs.declared.parser.matches.ArgMatches.{ArgMatches}
use Rattle.clap.specs.declared.parser.matches.Found.{Found}
use Rattle.command_words.specs.declared.command.Run.{Run}
use Rattle.command_words.specs.declared.command.Why.{Why}
use Rattle.command_words.specs.declared.words.Files.{Files}
use Rattle.command_words.specs.declared.words.Limits.{Limits}
use Rattle.command_words.specs.declared.words.Source.{Source}
use Rattle.command_words.specs.declared.words.Subject.{Subject}
use Rattle.command_words.specs.Words.{Name, until_name, instants_name, bytes_name, save_name, resume_name, Flag, strict_flag, stats_flag}
use Rattle.command_words.specs.Words.{Piece, pieces, plains, values, uses, read, files_by, limits_by, run_by, subject_by, why_by}
use Rattle.command_words.specs.Words.{one_room, run_room, pair_room, why_room}

-- the names of the arguments
abbrev pub id_of : Name → Text
id_of until_name = codes "until"
id_of instants_name = codes "instants"
id_of bytes_name = codes "bytes"
id_of save_name = codes "save"
id_of resume_name = codes "resume"

abbrev pub flag_id : Flag → Text
flag_id strict_flag = codes "strict"
flag_id stats_flag = codes "stats"

-- and those of the plain words, by their places
abbrev pub word_id : ℕ → Text
word_id zero = codes "first"
word_id (suc zero) = codes "second"
word_id (suc (suc zero)) = codes "third"
word_id (suc (suc (suc n))) = codes "fourth"

-- the first plain word is needed
abbrev pub first_rule : Rule
first_rule = record (new_rule (codes "first")) { required = true }

-- an option, whose value is a text
abbrev pub option_rule : Text → Rule
option_rule name = record (new_rule name) { long = Some name }

abbrev pub flag_rule : Text → Rule
flag_rule name = record (option_rule name) { action = Some SetTrue }

-- without help
abbrev pub helpless_app : App
helpless_app = on_top (λ s. record s { disable_help_flag = true }) (new_app (codes "run"))

-- four plain words, five options and two flags
abbrev pub run_rules : List Rule
run_rules =
    first_rule ∷ new_rule (codes "second") ∷ new_rule (codes "third") ∷ new_rule (codes "fourth")
    ∷ option_rule (codes "until") ∷ option_rule (codes "instants") ∷ option_rule (codes "bytes")
    ∷ option_rule (codes "save") ∷ option_rule (codes "resume")
    ∷ flag_rule (codes "strict") ∷ flag_rule (codes "stats") ∷ []

abbrev pub run_app : App
run_app = fold with_rule helpless_app run_rules

-- the matches hold these pieces, of which each option and each flag stands once at most
pub record Holds (ps : List Piece) (found : Found) : Type 0 where
  pub first : first_value found (codes "first") ≡ slice_get (plains ps) 0
  pub second : first_value found (codes "second") ≡ slice_get (plains ps) 1
  pub third : first_value found (codes "third") ≡ slice_get (plains ps) 2
  pub fourth : first_value found (codes "fourth") ≡ slice_get (plains ps) 3
  pub named : (name : Name) → first_value found (id_of name) ≡ slice_get (values name ps) 0
  pub flags : (f : Flag) → one_text found (flag_id f) ≡ Some (bool_text (nat_le 1 (length (uses f ps))))
  pub some_word : 1 ≤ length (plains ps)
  pub few_words : length (plains ps) ≤ 4
  pub one_value : (name : Name) → length (values name ps) ≤ 1
  pub one_use : (f : Flag) → length (uses f ps) ≤ 1

-- the matches hold the pieces that the words say
abbrev pub Matches : List (List ℕ) → ArgMatches → Type 0
Matches words m = (ps : List Piece) × (pieces None words ≡ Some ps) × Holds ps (found_of m)

-- the files of a run that the values in the matches name
abbrev pub files_found : Found → Option Files
files_found found =
    files_by (first_value found (codes "first")) (first_value found (codes "second")) (first_value found (codes "save"))
    (first_value found (codes "resume"))

-- its limits
abbrev pub limits_found : Found → Option Limits
limits_found found =
    limits_by (first_value found (codes "until")) (first_value found (codes "instants")) (first_value found (codes "bytes"))

-- the run of a file of a kind that the values in the matches ask for
abbrev pub run_found : Source → Found → Bool → Bool → Option Run
run_found from found strict stats = run_by from (files_found found) (limits_found found) strict stats

-- what a question is about, by the plain words in the matches
abbrev pub subject_found : Found → Option Subject
subject_found found =
    subject_by (first_value found (codes "first")) (first_value found (codes "second")) (first_value found (codes "third"))
    (first_value found (codes "fourth"))

-- the question that the values in the matches ask
abbrev pub why_found : Found → Bool → Option Why
why_found found strict = why_by (subject_found found) (limits_found found) strict

-- what the matches say of a flag
abbrev pub says : Found → Text → Bool → Type 0
says found id b = one_text found id ≡ Some (bool_text b)

-- no command reads the words
pub record IsRefused (words : List (List ℕ)) : Type 0 where
  pub run : read run_room words ≡ None
  pub why : read why_room words ≡ None
  pub spec : read one_room words ≡ None
  pub count : read pair_room words ≡ None
