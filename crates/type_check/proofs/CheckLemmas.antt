-- From the answers of the parts of the check to that of the whole.
use Rattle.std.specs.Prelude.{◌≡◌, List, [], ◌∷◌, ◌++◌, Some}
use Rattle.std.proofs.Common.{ap, sym, ◌∙◌}
use Rattle.tsl_value.specs.declared.place.Place.{Place}
use Rattle.syntax_tree.specs.Tree as tree
use Rattle.type_rules.specs.Kinds.{Kinds}
use Rattle.expr_types.specs.Bodies.{AreKinds}
use Rattle.type_check.specs.declared.fault.TypeFault.{TypeFault}
use Rattle.type_check.specs.declared.fault.TypeFault.TheVariants as fault
use Rattle.type_check.specs.inner.Answer.{IsFaultOf}
use Rattle.type_check.specs.Faults.{first_fault, name_faults, form_faults, early, late, HasNoCycle, IsFirstFault, before_cycles, cycle, after_cycles}
use Rattle.type_check.specs.inner.FirstFault.{IsFirstOf, IsCycleOf}

-- the first of some faults is that of them and of others after them, and where there are none it is that of the others
first_in_front : (xs ys : List TypeFault) (f : TypeFault) → first_fault xs ≡ Some f → first_fault (xs ++ ys) ≡ Some f
first_in_front [] ys f h = cc
first_in_front (x ∷ xs) ys f h = h

module _ (items : List tree.Item) (end : Place) where
  from_first : (fs : List TypeFault) (f : TypeFault) → (first_fault fs ≡ Some f → IsFirstFault items end f) → IsFirstOf fs f → IsFaultOf items end f
  from_first fs fault.Memory to h = tt
  from_first fs f to h = to h

  pub from_names : (f : TypeFault) → IsFirstOf (name_faults items) f → IsFaultOf items end f
  from_names f h =
      from_first (name_faults items) f (λ e. before_cycles (first_in_front (name_faults items) (form_faults items) f e)) h

  -- the same items, as they lie in memory
  module _ (held : List tree.Item) (same : held ≡ items) (names : name_faults items ≡ []) where
    pub from_forms : (f : TypeFault) → IsFirstOf (form_faults held) f → IsFaultOf items end f
    from_forms f h =
        from_first (form_faults held) f (λ e. before_cycles (ap (λ fs. first_fault (fs ++ form_faults items)) names ∙ (ap (λ is. first_fault (form_faults is)) (sym same) ∙ e))) h

    module _ (forms : form_faults held ≡ []) where
      no_early : early items ≡ []
      no_early = ap (λ fs. fs ++ form_faults items) names ∙ (ap form_faults (sym same) ∙ forms)

      pub from_cycle : (f : TypeFault) → IsCycleOf items f → IsFaultOf items end f
      from_cycle fault.Memory h = tt
      from_cycle f h = cycle no_early h

      pub from_late : (kinds : Kinds) (f : TypeFault) → HasNoCycle items → AreKinds items kinds → IsFirstOf (late items end kinds) f → IsFaultOf items end f
      from_late kinds f none are h = from_first (late items end kinds) f (λ e. after_cycles kinds no_early none are e) h
