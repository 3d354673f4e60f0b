-- A system is like that which a file keeps of it.
use Rattle.std.proofs.Common.{◌≡◌, ℕ, zero, suc, ◌+◌, Bool, true, false, List, [], ◌∷◌, map, length, Option, Some, None, refl, sym, ap, ◌∙◌, arith}
use Rattle.std.specs.Prelude.{slice_get, if◌then◌else◌, IsTrue}
use Rattle.std.specs.List.{range_with_len}
use Rattle.std.specs.Option.{option_map}
use Rattle.flat_core.specs.declared.equation.Equation.{Equation}
use Rattle.flat_core.specs.declared.equation.Op.TheVariants as op
use Rattle.flat_core.specs.System.{System, runs, equation}
use Rattle.flat_core.proofs.Renumbering.{old_of}
use Rattle.trace_reader.specs.Reading.{is_input}
use Rattle.alike_systems.specs.Alike.{IsInputAt}
use Rattle.code_file.specs.Form.{nothing, is_spelled, bare_equation, bare_in, bare_system}
use Rattle.compiled_code.specs.Spelled.{BareIsAlike}

count_is : (f : ℕ → Equation) (n len : ℕ) → length (map f (range_with_len n len)) ≡ len
count_is f n zero = refl
count_is f n (suc len) = ap suc (count_is f (n + 1) len)

numbered_at : (f : ℕ → Equation) (n : ℕ) (es : List Equation) (i : ℕ) → slice_get (map f (range_with_len n (length es))) i ≡ option_map (λ _. f (n + i)) (slice_get es i)
numbered_at f n [] i = refl
numbered_at f n (e ∷ es) zero = let same : n ≡ n + 0 = omega arith in ap (λ k. Some (f k)) same
numbered_at f n (e ∷ es) (suc i) =
    let same : n + 1 + i ≡ n + suc i = omega arith in
    numbered_at f (n + 1) es i ∙ ap (λ k. option_map (λ _. f k) (slice_get es i)) same

inside : (runs : Bool) (o : Option Equation) → option_map (λ _. bare_in runs o) o ≡ option_map (bare_equation runs) o
inside runs None = refl
inside runs (Some e) = refl

ran_kept : (o : Option Equation) → option_map (bare_equation true) o ≡ o
ran_kept None = refl
ran_kept (Some e) = refl

input_kept : (runs : Bool) (e : Equation) → e.op ≡ op.Input → bare_equation runs e ≡ e
input_kept true e input = refl
input_kept false e input = ap (λ o. if is_input o then e else nothing) input

-- what is kept of an equation is an input only where it was one
input_back : (kept : Bool) (x e : Equation) → (if kept then x else nothing) ≡ e → e.op ≡ op.Input → x ≡ e
input_back true x e is input = is
input_back false x e is input = absurd (other (ap (λ (f : Equation). f.op) is ∙ input))
  where
    other : op.Nil ≡ op.Input → ⊥
    other h = cc

module _ (s : System) where
  bare_at : (i : ℕ) → equation (bare_system s) i ≡ option_map (bare_equation (runs s i)) (equation s i)
  bare_at i =
      let same : 0 + i ≡ i = omega arith in
      numbered_at (λ k. bare_in (runs s k) (equation s k)) 0 s.equations i
      ∙ ap (λ k. option_map (λ _. bare_in (runs s k) (equation s k)) (equation s i)) same
      ∙ inside (runs s i) (equation s i)

  ran_same : (i : ℕ) → IsTrue (runs s i) → equation s i ≡ equation (bare_system s) i
  ran_same i run = sym (bare_at i ∙ ap (λ r. option_map (bare_equation r) (equation s i)) run ∙ ran_kept (equation s i))

  input_there : (i : ℕ) (e : Equation) → IsInputAt s i e → IsInputAt (bare_system s) i e
  input_there i e at = record {
    is = bare_at i ∙ ap (option_map (bare_equation (runs s i))) at.is ∙ ap Some (input_kept (runs s i) e at.input);
    input = at.input;
  }

  input_was : (i : ℕ) (e : Equation) → IsInputAt (bare_system s) i e → IsInputAt s i e
  input_was i e at =
      let old = old_of (bare_equation (runs s i)) (equation s i) e (sym (bare_at i) ∙ at.is) in
      record {
        is = old.1 ∙ ap Some (input_back (is_spelled (runs s i) old.0.op) old.0 e old.2 at.input);
        input = at.input;
      }

pub bare_is_alike : BareIsAlike
bare_is_alike s = record {
  count = sym (count_is (λ k. bare_in (runs s k) (equation s k)) 0 (length s.equations));
  outputs_are = refl;
  running_are = refl;
  ran_are = ran_same s;
  inputs_are = λ i e. (input_there s i e, input_was s i e);
}
