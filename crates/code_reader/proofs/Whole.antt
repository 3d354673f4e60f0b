-- The bytes of a code file that are read as parts, and those that no code has as its spelling.
use Rattle.std.proofs.Common.{◌≡◌, ℕ, ◌<◌, ◌≤◌, true, false, cond, eqb, List, [], ◌∷◌, ◌++◌, length, get_or, Option, Some, None, refl, sym, ap, subst, ◌∙◌, arith}
use Rattle.std.specs.Prelude.{IsTrue}
use Rattle.std.proofs.lemmas.Bool.{eqb-false, eqb-true, false≢true}
use Rattle.std.proofs.lemmas.List.{append-nil}
use Rattle.flat_core.specs.declared.limits.TheConstants.{MOST_EQUATIONS}
use Rattle.register_code.specs.Code.{Code}
use Rattle.code_file.specs.declared.fault.CodeFault.{CodeFault}
use Rattle.code_file.specs.declared.fault.CodeFault.TheVariants as fault
use Rattle.code_file.specs.Form.{IsForm, bare}
use Rattle.code_file.specs.inner.Reading.{◌>>=◌, code_at}
use Rattle.code_file.proofs.Whole.{bare_is, code_again}
use Rattle.code_reader.specs.inner.Gives.{Fails}
use Rattle.code_reader.specs.inner.Joined.{is_joined}
use Rattle.code_reader.specs.inner.Rising.{if_rising, parts_at, rises_from}
use Rattle.code_reader.specs.inner.Whole.{AnswersForm, HasSpelled, IsNoForm, after_mark}
use Rattle.code_reader.proofs.Fitting.{joined_bare, joined_from, joined_to}
use Rattle.code_reader.proofs.Formed.{form_from, joined_of}
use Rattle.code_reader.proofs.Rising.{rises_if, rising_from, rising_is}
use Rattle.code_reader.proofs.Taken.{bind_some, passed_test, some_is}
use Rattle.code_reader.proofs.TakenWhole.{code_taken}

-- ---- what code with this spelling would have been read as

abbrev pair : Code → Option (Code × List ℕ)
pair d = Some (d, [])

module _ (c : Code) (form : IsForm c) (bytes : List ℕ) (is : bytes ≡ after_mark c) where
  again : code_at bytes ≡ Some (bare c, [])
  again =
      ap code_at (is ∙ sym (append-nil (after_mark c)))
      ∙ code_again c form []
      ∙ ap (λ (d : Code). pair d) (bare_is c form)

  pub read_again : parts_at bytes ≡ Some (bare c, [])
  read_again =
      sym (rising_is bytes)
      ∙ ap (λ (r : Option (Code × List ℕ)). r >>= λ d. if_rising d.0.in_place >>= λ set. Some d) again
      ∙ ap (λ b. cond b (Some c.in_place) None >>= λ set. Some (bare c, [])) (rises_if 0 c.in_place form.ascending (λ some. omega arith))

  pub joined_again : IsTrue (is_joined (bare c))
  joined_again = joined_from (bare c) (joined_bare c (joined_of c form))

-- ---- what was read

module _ (bytes : List ℕ) (c : Code) (rest : List ℕ) (fits : (i : ℕ) → get_or bytes i 0 < 256) (read : parts_at bytes ≡ Some (c, rest)) where
  code_read : (code_at bytes ≡ Some (c, rest)) × IsTrue (rises_from 0 c.in_place)
  code_read =
      let a = bind_some (code_at bytes) (λ d. if_rising d.0.in_place >>= λ set. Some d) (c, rest) (rising_is bytes ∙ read) in
      let b = bind_some (if_rising a.0.0.in_place) (λ set. Some a.0) (c, rest) a.2 in
      let same = some_is a.0 (c, rest) b.2 in
      let test = passed_test (rises_from 0 a.0.0.in_place) a.0.0.in_place b.0 b.1 in
      (a.1 ∙ ap (λ (p : Code × List ℕ). Some p) same, subst (λ (p : Code × List ℕ). IsTrue (rises_from 0 p.0.in_place)) same test.0)

  pub few_read : length c.system.equations ≤ MOST_EQUATIONS
  few_read = (code_taken bytes c rest fits code_read.0).1.few_equations

  pub parts_taken : eqb (length rest) 0 ≡ true → IsTrue (is_joined c) → HasSpelled bytes c
  parts_taken none joined =
      let taken = code_taken bytes c rest fits code_read.0 in
      record {
        form = form_from c taken.1 (rising_from 0 c.in_place code_read.1).0 (joined_to c joined);
        bare_is = taken.1.bare_is;
        spelled = taken.0.parts ∙ ap (λ (l : List ℕ). after_mark c ++ l) (empty rest (eqb-true (length rest) 0 none)) ∙ append-nil (after_mark c);
      }
    where
      empty : (l : List ℕ) → length l ≡ 0 → l ≡ []
      empty [] is = refl
      empty (x ∷ l) is = absurd (omega arith)

-- what was refused
pub none_read : (e : CodeFault) (bytes : List ℕ) → Fails e (parts_at bytes) → AnswersForm bytes e
none_read fault.WrongForm bytes none = λ c form is. let both : None ≡ Some (bare c, []) = sym none ∙ read_again c form bytes is in absurd (cc both)
none_read fault.Memory bytes none = tt
none_read _ bytes none = absurd none

pub more_follow : (bytes : List ℕ) (c : Code) (rest : List ℕ) → parts_at bytes ≡ Some (c, rest) → eqb (length rest) 0 ≡ false → IsNoForm bytes
more_follow bytes c rest read some d form is =
    let same = some_is (c, rest) (bare d, []) (sym read ∙ read_again d form bytes is) in
    eqb-false (length rest) 0 some (ap (λ (p : Code × List ℕ). length p.1) same)

pub not_joined : (bytes : List ℕ) (c : Code) (rest : List ℕ) → parts_at bytes ≡ Some (c, rest) → is_joined c ≡ false → IsNoForm bytes
not_joined bytes c rest read other d form is =
    let same = some_is (c, rest) (bare d, []) (sym read ∙ read_again d form bytes is) in
    false≢true (sym other ∙ ap (λ (p : Code × List ℕ). is_joined p.0) same ∙ joined_again d form bytes is)
