-- Collecting the uses of content.
use Rattle.std.proofs.Common.{◌≡◌, ◌↔◌, ℕ, ◌+◌, ◌<◌, ◌≤◌, Bool, List, [], length, take, get_or, Some, refl, sym, ap, subst, ◌∙◌, inl, inr, arith}
use Rattle.std.specs.Prelude.{IsTrue}
use Rattle.std.specs.List.{Contains}
use Rattle.std.proofs.Math.Seq.{take-length}
use Rattle.std.proofs.lemmas.Bool.{cases_lt}
use Rattle.std.proofs.lemmas.Option.{same_Some, slice_get_within}
use Rattle.flat_core.specs.declared.equation.Equation.{Equation}
use Rattle.flat_core.specs.declared.equation.Op.{Op}
use Rattle.flat_core.specs.System.{System, equation, runs}
use Rattle.translation_order.specs.Order.{AreOfSteps}
use Rattle.alias_rules.specs.Uses.{read_of, passed_of, last_of, written_of, IsVariable, Takes}
use Rattle.alias_paths.specs.declared.uses.Uses.{Uses}
use Rattle.alias_paths.specs.inner.Pairs.{ArePairs, Adds, IsWanted, IsGiven}
use Rattle.alias_paths.specs.inner.Kept.{IsTakenAt, IsUseAt, IsUseBelow, AddsUses, HasUsesBelow, AreUses}
use Rattle.alias_paths.proofs.Adding.{adds_none, adds_as, adds_then, given_more, pairs_of, of_steps_from}

-- ---- one list of arguments

-- the pair of this argument, if it is a variable
pub record IsOfArgument (s : System) (number x a i : ℕ) : Type 0 where
  pub same : a ≡ x
  pub is : i ≡ number
  pub variable : IsVariable s a

pub argument_more : (s : System) (number : ℕ) (arguments : List ℕ) (k x y : ℕ) (wanted : Bool) (old mid new : List (ℕ × ℕ)) → k < length arguments → x ≡ get_or arguments k x → y ≡ x → IsTrue wanted ↔ IsVariable s x → Adds old (IsGiven (take k arguments) (IsOfArgument s number)) mid → Adds mid (IsWanted wanted y number) new → Adds old (IsGiven (take (k + 1) arguments) (IsOfArgument s number)) new
argument_more s number arguments k x y wanted old mid new lt is same exact before added =
    given_more arguments (IsOfArgument s number) k x old mid new lt is before (
    adds_as mid (IsWanted wanted y number) (IsOfArgument s number x) new added
    (λ a i w. record { same = w.first ∙ same; is = w.second; variable = subst (IsVariable s) (sym (w.first ∙ same)) (exact.0 w.is_wanted) })
    (λ a i o. record { is_wanted = exact.1 (subst (IsVariable s) o.same o.variable); first = o.same ∙ sym same; second = o.is })
    )

pub arguments_all : (s : System) (number : ℕ) (arguments : List ℕ) (k : ℕ) (old new : List (ℕ × ℕ)) → k ≡ length arguments → Adds old (IsGiven (take k arguments) (IsOfArgument s number)) new → Adds old (IsTakenAt s arguments number) new
arguments_all s number arguments k old new all h =
    let same : take k arguments ≡ arguments = ap (λ n. take n arguments) all ∙ take-length arguments in
    adds_as old (IsGiven (take k arguments) (IsOfArgument s number)) (IsTakenAt s arguments number) new h
    (λ a i g. record { is = g.gives.is; variable = g.gives.variable; argument = subst (λ zs. Contains zs a) same (subst (Contains (take k arguments)) (sym g.gives.same) g.among) })
    (λ a i t. record { item = a; among = subst (λ zs. Contains zs a) (sym same) t.argument; gives = record { same = refl; is = t.is; variable = t.variable } })

-- ---- one equation

module _ (s : System) (number : ℕ) (f : Op → List ℕ → List ℕ) where
  pub use_added : (arguments : List ℕ) (e : Equation) (old new : List (ℕ × ℕ)) → equation s number ≡ Some e → IsTrue (runs s number) → arguments ≡ f e.op e.args → Adds old (IsTakenAt s arguments number) new → Adds old (IsUseAt s f number) new
  use_added arguments e old new found run are h =
      adds_as old (IsTakenAt s arguments number) (IsUseAt s f number) new h
      (λ a i t. record {
        is = t.is;
        takes = record { variable = t.variable; at = e; is = ap (equation s) t.is ∙ found; running = subst (λ j. IsTrue (runs s j)) (sym t.is) run; argument = subst (λ zs. Contains zs a) are t.argument };
      })
      (λ a i u. record {
        is = u.is;
        variable = u.takes.variable;
        argument =
            let same : u.takes.at ≡ e = same_Some u.takes.at e (sym u.takes.is ∙ ap (equation s) u.is ∙ found) in
            subst (λ zs. Contains zs a) (sym are) (subst (λ (d : Equation). Contains (f d.op d.args) a) same u.takes.argument);
      })

  pub no_use : (old : List (ℕ × ℕ)) → (IsTrue (runs s number) → ⊥) → Adds old (IsUseAt s f number) old
  no_use old idle = adds_none old (IsUseAt s f number) (λ a i u. idle (subst (λ j. IsTrue (runs s j)) u.is u.takes.running))

-- ---- all equations

module _ (s : System) (f : Op → List ℕ → List ℕ) where
  pub no_use_below : (old : List (ℕ × ℕ)) → Adds old (IsUseBelow s f 0) old
  no_use_below old = adds_none old (IsUseBelow s f 0) (λ a i u. let low = u.low in absurd (omega arith))

  pub uses_next : (k : ℕ) (old mid new : List (ℕ × ℕ)) → Adds old (IsUseBelow s f k) mid → Adds mid (IsUseAt s f k) new → Adds old (IsUseBelow s f (k + 1)) new
  uses_next k old mid new first second =
      adds_then old mid new (IsUseBelow s f k) (IsUseAt s f k) (IsUseBelow s f (k + 1)) first second
      (λ a i u. let low = u.low in record { low = omega arith; takes = u.takes })
      (λ a i u. let is = u.is in record { low = omega arith; takes = u.takes })
      (λ a i u.
      elim (cases_lt i k) [
        | inl less ↦ inl (record { low = less; takes = u.takes })
        | inr not_less ↦ let low = u.low in inr (record { is = omega arith; takes = u.takes })
      ])

  -- who takes and what is taken are there
  pub taker_low : (a i : ℕ) → Takes s f a i → i < length s.equations
  taker_low a i t = slice_get_within s.equations i t.at t.is

  pub taken_low : (a i : ℕ) → Takes s f a i → a < length s.equations
  taken_low a i t = slice_get_within s.equations a t.variable.at t.variable.is

  pub uses_all : (k : ℕ) (pairs : List (ℕ × ℕ)) → length s.equations ≤ k → Adds [] (IsUseBelow s f k) pairs → ArePairs (Takes s f) pairs
  uses_all k pairs all h =
      pairs_of (Takes s f) pairs (adds_as [] (IsUseBelow s f k) (Takes s f) pairs h (λ a i u. u.takes) (λ a i t. let low = taker_low a i t in record { low = omega arith; takes = t }))

  pub uses_of_steps : (pairs : List (ℕ × ℕ)) → ArePairs (Takes s f) pairs → AreOfSteps (length s.equations) pairs
  uses_of_steps pairs are = of_steps_from (length s.equations) pairs (λ a i c. let t = (are.each a i).0 c in (taken_low a i t, taker_low a i t))

pub no_uses_below : (s : System) (uses : Uses) → uses.read ≡ [] → uses.passed ≡ [] → uses.lasts ≡ [] → uses.written ≡ [] → HasUsesBelow s 0 uses
no_uses_below s uses r p l w = record {
  read = subst (Adds [] (IsUseBelow s read_of 0)) (sym r) (no_use_below s read_of []);
  passed = subst (Adds [] (IsUseBelow s passed_of 0)) (sym p) (no_use_below s passed_of []);
  lasts = subst (Adds [] (IsUseBelow s last_of 0)) (sym l) (no_use_below s last_of []);
  written = subst (Adds [] (IsUseBelow s written_of 0)) (sym w) (no_use_below s written_of []);
}

pub all_uses_next : (s : System) (k : ℕ) (old new : Uses) → HasUsesBelow s k old → AddsUses s k old new → HasUsesBelow s (k + 1) new
all_uses_next s k old new h more = record {
  read = uses_next s read_of k [] old.read new.read h.read more.read;
  passed = uses_next s passed_of k [] old.passed new.passed h.passed more.passed;
  lasts = uses_next s last_of k [] old.lasts new.lasts h.lasts more.lasts;
  written = uses_next s written_of k [] old.written new.written h.written more.written;
}

pub all_uses : (s : System) (k : ℕ) (uses : Uses) → length s.equations ≤ k → HasUsesBelow s k uses → AreUses s uses
all_uses s k uses all h = record {
  read = uses_all s read_of k uses.read all h.read;
  passed = uses_all s passed_of k uses.passed all h.passed;
  lasts = uses_all s last_of k uses.lasts all h.lasts;
  written = uses_all s written_of k uses.written all h.written;
}
