-- What runs, and what stands before it.
use Rattle.std.specs.Prelude.{◌≡◌, ◌+◌, ◌≤◌, ℕ, false, ⊤, List, length, Option, Some, None}
use Rattle.code_check.specs.Checked.{IsChecked}
use Rattle.code_check.specs.Read.{SpellCode}
use Rattle.command_words.specs.declared.command.Origin.{Origin}
use Rattle.command_words.specs.declared.command.Origin.TheVariants as origin
use Rattle.command_words.specs.declared.command.Run.{Run}
use Rattle.compiled_meaning.specs.Compiled.{Compiles}
use Rattle.flat_core.specs.System.{System}
use Rattle.register_code.specs.Code.{Code}
use Rattle.syntax_tree.specs.Tree as tree
use Rattle.trace_monitor.specs.declared.options.Options.{Options}
use Rattle.trace_monitor.specs.Saved.{IsSavedAs, SpellsState}
use Rattle.trace_run.specs.Before.{Before, nothing_before}
use Rattle.trace_run.specs.Means.{IsDueAs}
use Rattle.trace_run.specs.Program.{IsCodeOf, Program, coded, specified}
use Rattle.tsl_world.specs.Seen.{Seen}
use Rattle.tsl_world.specs.declared.outside.Slot.TheVariants as slot
use Rattle.tessla_cli.specs.declared.limits.TheConstants.{MOST_STATE_BYTES}
use Rattle.tessla_cli.specs.Asked.{options_of}

-- ---- what runs

-- a fact about the items that the specification spells, as far as it was taken, and about their flat system once it is simplified
pub record OfSource (x : Seen) (P : List tree.Item → System → Type 0) : Type 0 where
  pub items : List tree.Item
  pub system : System
  pub compiled : Compiles (x.taken slot.Spec) items system
  pub holds : P items system

-- Bytes are read as this code, whoever wrote them: they spell it, its equations have arity and types, its system is well-formed and its
-- plan is fine.
pub record IsReadAs (bytes : List ℕ) (c : Code) : Type 0 where
  pub spelled : SpellCode bytes c
  pub checked : IsChecked c

-- a fact about the code as which the file was read, as far as it was taken
pub record OfCode (x : Seen) (P : Code → Type 0) : Type 0 where
  pub code : Code
  pub read : IsReadAs (x.taken slot.Code) code
  pub holds : P code

-- a fact about what runs, and that it is accepted
abbrev pub OfProgram : Origin → Seen → (Program → Type 0) → Type 0
OfProgram (origin.Spec name) x P = OfSource x (λ items s. P (specified items s))
OfProgram (origin.Code name) x P = OfCode x (λ c. P (coded c))

-- ---- what stands before it

-- These bytes are a state that the code can go on from: they are not too many, and spell a state that fits it.
pub record CanGoOnFrom (c : Code) (bytes : List ℕ) : Type 0 where
  pub short : length bytes ≤ MOST_STATE_BYTES
  pub spells : SpellsState c bytes

-- These bytes are the saved state of a run of the program by its code, within these limits, after earlier bytes of its trace.
pub record IsStateOf (p : Program) (o : Options) (earlier bytes : List ℕ) : Type 0 where
  pub code : Code
  pub is_code : IsCodeOf p code
  pub saved : IsSavedAs code o earlier bytes

-- The state that was taken is what these earlier bytes leave of what runs, and this text was due of them. It closes times at the end as the
-- words say.
pub record IsLeftBy (r : Run) (p : Program) (x : Seen) (b : Before) : Type 0 where
  pub until_is : b.options.until ≡ r.until
  pub short : length (x.taken slot.State) ≤ MOST_STATE_BYTES
  pub state : IsStateOf p b.options b.bytes (x.taken slot.State)
  pub due : IsDueAs p b.options b.bytes false b.text

-- What stands before a run. Where the words name no state, nothing does. Else it is any earlier bytes that leave the state that was taken;
-- of a state that no run wrote there are none.
abbrev pub IsBefore : Option (List ℕ) → Run → Program → Seen → Before → Type 0
IsBefore None r p x b = b ≡ nothing_before (options_of r)
IsBefore (Some file) r p x b = IsLeftBy r p x b

-- the state that was taken, where the words name one, is one that the program can go on from
abbrev pub HasState : Option (List ℕ) → Program → Seen → Type 0
HasState None p x = ⊤
HasState (Some file) p x = (c : Code) × IsCodeOf p c × CanGoOnFrom c (x.taken slot.State)

-- ---- how much of its trace it may take

-- The bytes that were taken of the trace, with as many as the state says were taken before, are no more than it says a run may take. This
-- holds of each state that the program can go on from, also of one that no run wrote.
pub record IsWithinState (p : Program) (x : Seen) : Type 0 where
  pub code : Code
  pub is_code : IsCodeOf p code
  pub spells : SpellsState code (x.taken slot.State)
  pub within : spells.state.reader.taken + length (x.taken slot.Trace) ≤ spells.state.bytes_limit

-- where the words name no state they are no more than the words say
abbrev pub IsWithinBytes : Option (List ℕ) → Run → Program → Seen → Type 0
IsWithinBytes None r p x = length (x.taken slot.Trace) ≤ r.bytes
IsWithinBytes (Some file) r p x = IsWithinState p x

-- ---- facts about a run

-- A fact about a run: what runs is accepted, and so is the state that it goes on from.
abbrev pub OfRun : Run → Seen → (Program → Type 0) → Type 0
OfRun r x P = OfProgram r.origin x (λ p. HasState r.resume p x × P p)

-- a fact about a run, whatever stands before it
abbrev pub OfRunSince : Run → Seen → (Program → Before → Type 0) → Type 0
OfRunSince r x P = OfRun r x (λ p. (b : Before) → IsBefore r.resume r p x b → P p b)

-- a fact about a run with something that stands before it
abbrev pub InRun : Run → Seen → (Program → Before → Type 0) → Type 0
InRun r x P = OfProgram r.origin x (λ p. (b : Before) × IsBefore r.resume r p x b × P p b)
