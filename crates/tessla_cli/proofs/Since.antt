-- A state that is refused is none that a run goes on from.
use Rattle.std.proofs.Common.{◌≡◌, ◌++◌, inl, inr, ℕ, ◌<◌, ◌^◌, List, length, Option, Some, None, refl, sym, ap, ◌∙◌, subst, arith}
use Rattle.std.proofs.lemmas.List.{length-append}
use Rattle.command_words.specs.declared.command.Run.{Run}
use Rattle.register_code.specs.Code.{Code}
use Rattle.register_code.specs.Text.{code_text}
use Rattle.run_state.specs.Spelling.{IsOfOther, mark, number, text}
use Rattle.state_snapshot.proofs.Alone.{same_front, same_text}
use Rattle.state_snapshot.proofs.RunFields.{fields_bytes}
use Rattle.state_snapshot.specs.declared.fault.StateFault.{StateFault}
use Rattle.state_snapshot.specs.declared.fault.StateFault.TheVariants as state
use Rattle.trace_run.proofs.OneCode.{one_code}
use Rattle.trace_run.specs.Before.{Before}
use Rattle.trace_run.specs.Program.{Program}
use Rattle.tsl_world.specs.declared.outside.Slot.TheVariants.{State}
use Rattle.tsl_world.specs.Seen.{Seen}
use Rattle.tessla_cli.specs.Causes.{IsStateFault, RefusesState}
use Rattle.tessla_cli.specs.Running.{CanGoOnFrom, HasState, IsBefore}

module _ (c : Code) (bytes : List ℕ) where
  -- Bytes that begin as a state of a code does are none of another program.
  begins_no_other : (rest : List ℕ) → bytes ≡ mark ++ (text (code_text c) ++ rest) → length bytes < 2 ^ 64 → IsOfOther c bytes → ⊥
  begins_no_other rest is few other =
      let program = code_text c in
      let long = ap length is in
      let short : length program < 2 ^ 64 = omega (arith, few, long, length-append mark (text program ++ rest), length-append (text program) rest, length-append (number (length program)) program) in
      let after = same_front mark (text other.program ++ other.rest) mark (text program ++ rest) refl (sym other.is ∙ is) in
      other.other (same_text other.program program other.rest rest other.short short after.1).0

  -- a state that the code can go on from is not refused
  unrefused : CanGoOnFrom c bytes → (fault : StateFault) → IsStateFault c bytes fault → ⊥
  unrefused can state.OtherProgram refused =
      let few = can.short in
      begins_no_other (fields_bytes can.spells.state) can.spells.is (omega arith) refused.1
  unrefused can state.WrongForm (inl long) =
      let few = can.short in
      absurd (omega arith)
  unrefused can state.WrongForm (inr wrong) = wrong.1 can.spells
  unrefused can state.Memory refused = refused

module _ (p : Program) (x : Seen) where
  -- so neither is the one that a run goes on from
  pub state_unrefused : (resume : Option (List ℕ)) (fault : StateFault) → HasState resume p x → RefusesState resume p x fault → ⊥
  state_unrefused None fault has refused = refused
  state_unrefused (Some file) fault has refused =
      let same = one_code p has.0 refused.0 has.1 refused.1 in
      unrefused refused.0 (x.taken State) (subst (λ (c : Code). CanGoOnFrom c (x.taken State)) same has.2) fault refused.2

  -- what some run has left, the program can go on from
  pub left_can_go_on : (resume : Option (List ℕ)) (r : Run) (b : Before) → IsBefore resume r p x b → HasState resume p x
  left_can_go_on None r b is = tt
  left_can_go_on (Some file) r b is =
      let saved = is.state.saved in (
        is.state.code,
        is.state.is_code,
        record { short = is.short; spells = record { state = saved.state; fits = saved.fits; is = saved.is } },
      )
