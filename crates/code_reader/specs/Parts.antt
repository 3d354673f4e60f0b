-- What is read of a code file, as code.
use Rattle.register_code.specs.Code.{Code}
use Rattle.code_reader.specs.declared.parts.Parts.{Parts}

abbrev pub code_in : Parts → Code
code_in p = record {
  system = record { equations = p.equations.items; outputs = p.outputs.items; running = p.running };
  in_place = p.plan.in_place;
  order = p.plan.order;
}
