-- Why bytes are read as no code, from what reading and checking answer.
use Rattle.std.proofs.Common.{ℕ, List}
use Rattle.register_code.specs.Code.{Code}
use Rattle.code_file.specs.declared.fault.CodeFault.{CodeFault}
use Rattle.code_file.specs.declared.fault.CodeFault.TheVariants as fault
use Rattle.code_reader.specs.Fault.{IsFormFault}
use Rattle.code_check.specs.Checked.{IsRefusedFor}
use Rattle.code_check.specs.Read.{IsReadFault, SpellCode, SpellRefused}

module _ (bytes : List ℕ) where
  pub form_fault : (why : CodeFault) → IsFormFault bytes why → IsReadFault bytes why
  form_fault fault.TooLong f = f
  form_fault fault.WrongForm f = record { short = f.0; none = f.1 }
  form_fault (fault.WrongTypes i) f = absurd f
  form_fault fault.Cycle f = absurd f
  form_fault fault.NotFine f = absurd f
  form_fault fault.Memory f = tt

  refused_with : (c : Code) (why : CodeFault) → SpellCode bytes c → IsRefusedFor c why → SpellRefused bytes why
  refused_with c why spelled refused = record { code = c; spelled = spelled; refused = refused }

  pub check_fault : (c : Code) (why : CodeFault) → SpellCode bytes c → IsRefusedFor c why → IsReadFault bytes why
  check_fault c fault.TooLong spelled f = absurd f
  check_fault c fault.WrongForm spelled f = absurd f
  check_fault c (fault.WrongTypes i) spelled f = refused_with c (fault.WrongTypes i) spelled f
  check_fault c fault.Cycle spelled f = refused_with c fault.Cycle spelled f
  check_fault c fault.NotFine spelled f = refused_with c fault.NotFine spelled f
  check_fault c fault.Memory spelled f = tt
