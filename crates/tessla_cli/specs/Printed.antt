-- What is written of a specification that is compiled.
use Rattle.std.specs.Prelude.{◌≡◌, ◌<◌, ◌≤◌, ℕ, ⊤, List, ◌++◌, codes, length}
use Rattle.std.specs.Fmt.{decimal}
use Rattle.alias_nears.specs.declared.reason.Reason.{Reason}
use Rattle.alias_rules.specs.Fine.{IsTakenPlan}
use Rattle.choice_text.specs.Text.{show_text}
use Rattle.code_file.specs.declared.fault.CodeFault.TheVariants.{TooLong}
use Rattle.code_file.specs.declared.limits.TheConstants.{MOST_CODE_BYTES}
use Rattle.code_file.specs.Spelling.{spelling}
use Rattle.flat_core.specs.System.{System}
use Rattle.program_text.specs.Text.{flat_text, running}
use Rattle.register_code.specs.Code.{Code}
use Rattle.register_code.specs.Text.{code_text}
use Rattle.last_use.specs.Reasons.{AreReasons}
use Rattle.compiled_meaning.specs.Compiled.{Compiles}
use Rattle.syntax_tree.specs.Tree as tree
use Rattle.flat_core.specs.Updates.{running_updates}
use Rattle.command_words.specs.declared.command.Form.{Form}
use Rattle.command_words.specs.declared.command.Form.TheVariants as form
use Rattle.slice_text.specs.Text.{HasOutput, HasSliceText}
use Rattle.tsl_world.specs.declared.outside.Channel.{Channel}
use Rattle.tsl_world.specs.declared.outside.Channel.TheVariants as channel
use Rattle.tsl_world.specs.declared.outside.Slot.TheVariants.{Spec}
use Rattle.tsl_world.specs.Seen.{Seen}
use Rattle.tessla_cli.specs.Stages.{HasWhole}
use Rattle.tessla_cli.specs.declared.ending.Ending.{Ending}
use Rattle.tessla_cli.specs.declared.ending.Ending.TheVariants as ending

-- how many equations and how many updates run
abbrev pub updates_text : ℕ → List ℕ
updates_text updates = codes " " ++ (decimal updates ++ codes "\n")

abbrev pub counts_text : ℕ → ℕ → List ℕ
counts_text equations updates = codes "ok " ++ (decimal equations ++ updates_text updates)

abbrev pub check_text : System → List ℕ
check_text s = counts_text (length (running s)) (length (running_updates s))

-- this text tells of each update whether it happens in place, or why it copies: those copy that are outside the set
pub record ShowsReasons (s : System) (set : List ℕ) (text : List ℕ) : Type 0 where
  pub reasons : List (ℕ × Reason)
  pub are : AreReasons s set reasons
  pub is : text ≡ show_text s reasons

-- where a text of a form goes
abbrev pub channel_of : Form → Channel
channel_of (form.File name) = channel.Code
channel_of f = channel.Out

-- the text that code has in a form
abbrev pub HasText : Form → Code → List ℕ → Type 0
HasText form.Check c text = text ≡ check_text c.system
HasText form.Flat c text = text ≡ flat_text c.system
HasText form.Show c text = ShowsReasons c.system c.in_place text
HasText form.Code c text = text ≡ code_text c
HasText (form.Slice name) c text = HasSliceText c.system name text
HasText (form.File name) c text = (text ≡ spelling c) × (length text ≤ MOST_CODE_BYTES)

-- The text of a form that the source has: that of its simplified system, of its listed set, or of the code by the plan that is taken.
pub record IsTextOf (source : List ℕ) (f : Form) (text : List ℕ) : Type 0 where
  pub items : List tree.Item
  pub system : System
  pub set : List ℕ
  pub order : List ℕ
  pub compiles : Compiles source items system
  pub taken : IsTakenPlan system set order
  pub is : HasText f (record { system = system; in_place = set; order = order }) text

-- A fact about the text that the specification has in a form. It was read whole.
pub record OfText (f : Form) (x : Seen) (P : List ℕ → Type 0) : Type 0 where
  pub whole : HasWhole Spec x
  pub text : List ℕ
  pub is : IsTextOf (x.taken Spec) f text
  pub holds : P text

-- a fact about the code of a system by the plan that is taken
pub record OfTakenCode (s : System) (P : Code → Type 0) : Type 0 where
  pub set : List ℕ
  pub order : List ℕ
  pub taken : IsTakenPlan s set order
  pub holds : P (record { system = s; in_place = set; order = order })

-- The ending that stands against a text of a form: no output has the name, or the code is too long.
abbrev pub RefusesForm : Form → System → Ending → Type 0
RefusesForm (form.Slice name) s by = (by ≡ ending.NoOutput name) × (HasOutput s name → ⊥)
RefusesForm (form.File name) s by = (by ≡ ending.Code TooLong) × OfTakenCode s (λ c. MOST_CODE_BYTES < length (spelling c))
RefusesForm f s by = ⊥

-- Nothing stands against a text of a form. Where any system has one nothing is asked for.
abbrev pub AllowsForm : Form → System → Type 0
AllowsForm (form.Slice name) s = HasOutput s name
AllowsForm (form.File name) s = OfTakenCode s (λ c. length (spelling c) ≤ MOST_CODE_BYTES)
AllowsForm f s = ⊤
