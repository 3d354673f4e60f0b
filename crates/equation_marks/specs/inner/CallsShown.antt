-- What calls are made of, without where it lies in memory.
use Rattle.std.specs.Prelude.{◌≡◌, min}
use Rattle.equation_marks.specs.declared.call.CallParts.{CallParts as Code}
use Rattle.equation_marks.specs.inner.Calls.{CallParts}
use Rattle.equation_marks.specs.declared.own.TheConstants.{ENOUGH}

-- the same, where no equations are counted beyond 4,097
pub record IsParts (c : Code) (p : CallParts) : Type 0 where
  pub streams : c.streams.now ≡ p.streams
  pub operands : c.operands.now ≡ p.operands
  pub own : c.own ≡ min p.own ENOUGH
  pub callee : c.callee ≡ p.callee
