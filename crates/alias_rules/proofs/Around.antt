-- No update of a set bypasses itself: nothing leads to it around it, and no content begins there.
use Rattle.std.proofs.Common.{◌≡◌, ℕ, Bool, true, false, if◌then◌else◌, List, [], refl, sym, subst, arith}
use Rattle.std.specs.Prelude.{IsTrue}
use Rattle.std.specs.List.{Contains}
use Rattle.std.proofs.lemmas.Bool.{false≢true}
use Rattle.flat_core.specs.declared.equation.Op.{Op}
use Rattle.translation_order.specs.Graph.{Walk, stay, onward}
use Rattle.flat_core.specs.Members.{is_in}
use Rattle.flat_core.specs.System.{System}
use Rattle.alias_rules.specs.Bypass.{GoesAround, Bypasses}
use Rattle.alias_rules.specs.Roots.{begins_content, IsOrigin}
use Rattle.tsl_value.specs.declared.operation.Update.{Update}
use Rattle.tsl_value.specs.declared.operation.Update.TheVariants as update
use Rattle.flat_core.specs.Updates.{operation_of, is_update}
use Rattle.flat_core.proofs.UpdateOps.{each_update}
use Rattle.alias_rules.specs.Uses.{first_of, written_of, IsWritten}

where_some : (b : Bool) (xs : List ℕ) (x : ℕ) → Contains (if b then xs else []) x → b ≡ true
where_some true xs x c = refl
where_some false xs x (k, lt, is) = absurd (omega arith)

-- what is written by an operation is written by an update
pub written_by_update : (o : Op) (args : List ℕ) (x : ℕ) → Contains (written_of o args) x → is_update o ≡ true
written_by_update o args x c = where_some (is_update o) (first_of args) x c

no_own_content : (u : Update) → begins_content (operation_of u) true ≡ true → ⊥
no_own_content update.SetAdd b = false≢true b
no_own_content u b = false≢true b

no_content_begins : (o : Op) → is_update o ≡ true → begins_content o true ≡ true → ⊥
no_content_begins o u = each_update (λ p. begins_content p true ≡ true → ⊥) no_own_content o u

module _ (s : System) (set : List ℕ) (y : ℕ) where
  ends_away : {a b : ℕ} → Walk (GoesAround s set y) a b → (a ≡ y → ⊥) → b ≡ y → ⊥
  ends_away stay start is = start is
  ends_away (onward e w) start is = ends_away w e.avoids is

  no_origin : IsTrue (is_in set y) → (m : ℕ) → IsWritten s m y → (r : ℕ) → IsOrigin s set r → r ≡ y → ⊥
  no_origin inside m written r origin is =
      let same : origin.at ≡ written.at = let found = origin.is in let also = written.is in cc in
      let begins : begins_content written.at.op (is_in set r) ≡ true = subst (λ e. begins_content e.op (is_in set r) ≡ true) same origin.begins in
      let there : is_in set r ≡ true = subst (λ x. is_in set x ≡ true) (sym is) inside in
      no_content_begins written.at.op (written_by_update written.at.op written.at.args m written.argument) (subst (λ b. begins_content written.at.op b ≡ true) there begins)

  pub none_bypassed : IsTrue (is_in set y) → Bypasses s set y y → ⊥
  none_bypassed inside b = ends_away b.around (no_origin inside b.source b.written b.origin b.begins) refl
