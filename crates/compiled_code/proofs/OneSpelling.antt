-- Codes of one spelling are alike.
use Rattle.std.proofs.Common.{◌≡◌, ℕ, List, [], ◌++◌, sym, ap, subst}
use Rattle.flat_core.specs.System.{System}
use Rattle.register_code.specs.Code.{Code}
use Rattle.alike_systems.specs.Alike.{AreAlike}
use Rattle.alike_systems.proofs.Saying.{alike_either_way, alike_through_other}
use Rattle.code_file.specs.Form.{bare, bare_system}
use Rattle.code_file.proofs.Whole.{spell_one_code}
use Rattle.compiled_code.specs.Spelled.{OneSpellingIsAlike}
use Rattle.compiled_code.proofs.Bare.{bare_is_alike}

pub one_spelling_is_alike : OneSpellingIsAlike
one_spelling_is_alike c d form_c form_d is =
    let same : bare c ≡ bare d = (spell_one_code c d [] [] form_c form_d (ap (λ (bytes : List ℕ). bytes ++ []) is)).0 in
    let back : AreAlike (bare_system d.system) d.system = alike_either_way d.system (bare_system d.system) (bare_is_alike d.system) in
    let kept : bare_system c.system ≡ bare_system d.system = ap (λ (e : Code). e.system) same in
    record {
      alike = alike_through_other c.system (bare_system c.system) d.system (bare_is_alike c.system) (subst (λ (s : System). AreAlike s d.system) (sym kept) back);
      one_set = ap (λ (e : Code). e.in_place) same;
      one_order = ap (λ (e : Code). e.order) same;
    }
