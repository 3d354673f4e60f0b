-- Systems that differ in equations alone that neither run nor are inputs.
use Rattle.std.specs.Prelude.{◌≡◌, ◌↔◌, ℕ, Some, length, IsTrue}
use Rattle.flat_core.specs.declared.equation.Equation.{Equation}
use Rattle.flat_core.specs.declared.equation.Op.TheVariants as op
use Rattle.flat_core.specs.System.{System, runs, equation}

-- equation i is this input, whether it runs or not
pub record IsInputAt (s : System) (i : ℕ) (e : Equation) : Type 0 where
  pub is : equation s i ≡ Some e
  pub input : e.op ≡ op.Input

-- As many equations, the same outputs, and under the same numbers the same running equations and the same inputs. Places and names of
-- both are the same as well.
pub record AreAlike (s u : System) : Type 0 where
  pub count : length s.equations ≡ length u.equations
  pub outputs_are : s.outputs ≡ u.outputs
  pub running_are : s.running ≡ u.running
  pub ran_are : (i : ℕ) → IsTrue (runs s i) → equation s i ≡ equation u i
  pub inputs_are : (i : ℕ) (e : Equation) → IsInputAt s i e ↔ IsInputAt u i e
