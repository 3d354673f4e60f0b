-- Nothing is asked where no part is left.
use Rattle.std.specs.Prelude.{◌≡◌, ◌⊎◌, List, [], ◌∷◌, map, Ok, refl}
use Rattle.std.proofs.Common.{inl, inr, sym, subst}
use Rattle.type_rules.specs.declared.rule.ExprType.{ExprType}
use Rattle.type_rules.specs.Rules.{ask_each, ask_options}

without_args : (params : List ExprType) → ask_each params [] ≡ Ok tt
without_args [] = refl
without_args (p ∷ ps) = refl

without_params : (streams : List ExprType) → ask_options streams [] ≡ Ok tt
without_params [] = refl
without_params (e ∷ es) = refl

pub ask_each_ends : (params args : List ExprType) → (params ≡ []) ⊎ (args ≡ []) → ask_each params args ≡ Ok tt
ask_each_ends params args (inl e) = subst (λ ps. ask_each ps args ≡ Ok tt) (sym e) refl
ask_each_ends params args (inr e) = subst (λ rest. ask_each params rest ≡ Ok tt) (sym e) (without_args params)

pub mapped_ends : (f : ExprType → ExprType) (params args : List ExprType) → (params ≡ []) ⊎ (args ≡ []) → ask_each (map f params) args ≡ Ok tt
mapped_ends f params args (inl e) = subst (λ ps. ask_each (map f ps) args ≡ Ok tt) (sym e) refl
mapped_ends f params args (inr e) = subst (λ rest. ask_each (map f params) rest ≡ Ok tt) (sym e) (without_args (map f params))

pub ask_options_ends : (streams params : List ExprType) → (streams ≡ []) ⊎ (params ≡ []) → ask_options streams params ≡ Ok tt
ask_options_ends streams params (inl e) = subst (λ es. ask_options es params ≡ Ok tt) (sym e) refl
ask_options_ends streams params (inr e) = subst (λ ps. ask_options streams ps ≡ Ok tt) (sym e) (without_params streams)
