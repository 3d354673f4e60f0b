-- Numbers that rise, and code whose set of updates in place rises.
use Rattle.std.proofs.Common.{◌≡◌, ℕ, zero, suc, ◌+◌, ◌<◌, ◌≤◌, Bool, true, false, cond, List, [], ◌∷◌, length, get_or, Option, Some, None, refl, sym, ap, subst, ◌∙◌, arith}
use Rattle.std.specs.Prelude.{IsTrue, nat_le}
use Rattle.std.specs.List.Sorted.{IsStrictlyIncreasing}
use Rattle.std.proofs.lemmas.Bool.{and_from, and_parts, le-leb, leb-true}
use Rattle.flat_core.specs.declared.equation.Equation.{Equation}
use Rattle.flat_core.specs.declared.equation.Output.{Output}
use Rattle.flat_core.specs.declared.limits.TheConstants.{MOST_EQUATIONS}
use Rattle.register_code.specs.Code.{Code}
use Rattle.code_file.specs.inner.Reading.{◌>>=◌, Read, code_at, code_of, count_at, entry_read, items_at, list_at, output_at}
use Rattle.code_reader.specs.inner.Rising.{equations_at, equations_of, if_rising, parts_at, plan_at, rises_from, rising_at, system_of}

-- ---- rising

-- one place further in a list with one item more in front
next_at : (n : ℕ) (ns : List ℕ) (k : ℕ) → get_or (n ∷ ns) (suc k + 1) 0 ≡ get_or ns (k + 1) 0
next_at n ns k = let there : suc k + 1 ≡ suc (k + 1) = omega arith in ap (λ j. get_or (n ∷ ns) j 0) there

up_from : (n : ℕ) (ns : List ℕ) → IsStrictlyIncreasing ns → (0 < length ns → n + 1 ≤ get_or ns 0 0) → IsStrictlyIncreasing (n ∷ ns)
up_from n ns rest first zero lt =
    let above = first (omega arith) in
    let low : n < get_or ns 0 0 = omega (arith, above) in
    low
up_from n ns rest first (suc k) lt = subst (λ x. get_or ns k 0 < x) (sym (next_at n ns k)) (rest k (omega arith))

pub rising_from : (least : ℕ) (ns : List ℕ) → IsTrue (rises_from least ns) → IsStrictlyIncreasing ns × (0 < length ns → least ≤ get_or ns 0 0)
rising_from least [] rises = ((λ k lt. absurd (omega arith)), (λ lt. absurd (omega arith)))
rising_from least (n ∷ ns) rises =
    let both = and_parts (nat_le least n) (rises_from (n + 1) ns) rises in
    let rest = rising_from (n + 1) ns both.1 in
    (up_from n ns rest.0 rest.1, (λ lt. leb-true least n both.0))

pub rises_if : (least : ℕ) (ns : List ℕ) → IsStrictlyIncreasing ns → (0 < length ns → least ≤ get_or ns 0 0) → IsTrue (rises_from least ns)
rises_if least [] up first = refl
rises_if least (n ∷ ns) up first =
    and_from (nat_le least n) (rises_from (n + 1) ns) (le-leb least n (first (omega arith)))
    (rises_if (n + 1) ns (λ k lt. subst (λ x. get_or ns k 0 < x) (next_at n ns k) (up (suc k) (omega arith))) (λ some. let above : n < get_or ns 0 0 = up 0 (omega arith) in omega (arith, above)))

-- ---- reading the parts one after another is reading code and asking whether its set rises

bind_bind : {A B C : Type 0} (r : Option A) (f : A → Option B) (g : B → Option C) → ((r >>= f) >>= g) ≡ (r >>= λ x. f x >>= g)
bind_bind (Some x) f g = refl
bind_bind None f g = refl

bind_same : {A B : Type 0} (r : Option A) (f g : A → Option B) → ((x : A) → f x ≡ g x) → (r >>= f) ≡ (r >>= g)
bind_same (Some x) f g same = same x
bind_same None f g same = refl

abbrev if_fine : Code × List ℕ → Read Code
if_fine c = if_rising c.0.in_place >>= λ set. Some c

abbrev Entries : Type 0
Entries = List (Bool × Equation)

module _ (es : Entries) (os : List Output) where
  abbrev order_then : List ℕ → List ℕ × List ℕ → Read Code
  order_then p q = Some (code_of es os p q.0, q.1)

  abbrev plan_then : List ℕ × List ℕ → Read Code
  plan_then p = list_at p.1 >>= order_then p.0

  abbrev with_set : List ℕ × List ℕ → List ℕ → Read (List ℕ × List ℕ)
  with_set q set = Some ((set, q.0), q.1)

  abbrev done : (List ℕ × List ℕ) × List ℕ → Read Code
  done x = Some (system_of (equations_of es) os x.0, x.1)

  abbrev code_with : List ℕ → List ℕ × List ℕ → List ℕ → Read Code
  code_with p q set = order_then p q

  kept : (p : List ℕ) (r : Option (List ℕ)) (q : List ℕ × List ℕ) → ((set : List ℕ) → r ≡ Some set → set ≡ p) → (r >>= code_with p q) ≡ ((r >>= with_set q) >>= done)
  kept p (Some set) q same = let is = same set refl in λ k. Some (code_of es os (sym is k) q.0, q.1)
  kept p None q same = refl

  rising_same : (ns : List ℕ) (b : Bool) (set : List ℕ) → cond b (Some ns) None ≡ Some set → set ≡ ns
  rising_same ns true set is = cc
  rising_same ns false set is = absurd cc

  abbrev whole : List ℕ × List ℕ → Read (List ℕ × List ℕ)
  whole p = list_at p.1 >>= λ q. if_rising p.0 >>= with_set q

  plan_is : (bytes : List ℕ) → ((list_at bytes >>= plan_then) >>= if_fine) ≡ (plan_at bytes >>= done)
  plan_is bytes =
      bind_bind (list_at bytes) plan_then if_fine
      ∙ bind_same (list_at bytes) (λ p. plan_then p >>= if_fine) (λ p. whole p >>= done) (λ p.
      bind_bind (list_at p.1) (order_then p.0) if_fine
      ∙ bind_same (list_at p.1) (λ q. if_rising p.0 >>= code_with p.0 q) (λ q. (if_rising p.0 >>= with_set q) >>= done)
      (λ q. kept p.0 (if_rising p.0) q (rising_same p.0 (rises_from 0 p.0)))
      ∙ sym (bind_bind (list_at p.1) (λ q. if_rising p.0 >>= with_set q) done))
      ∙ sym (bind_bind (list_at bytes) whole done)

module _ (es : Entries) where
  abbrev each_then : List Output × List ℕ → Read Code
  each_then os = list_at os.1 >>= plan_then es os.0

  abbrev each_parts : List Equation × List ℕ → List Output × List ℕ → Read Code
  each_parts x os = plan_at os.1 >>= λ p. Some (system_of x os.0 p.0, p.1)

  outputs_is : (bytes : List ℕ) → ((count_at 0x8000_0000 bytes >>= λ m. items_at output_at m.0 m.1 >>= each_then) >>= if_fine)
      ≡ (count_at 0x8000_0000 bytes >>= λ m. items_at output_at m.0 m.1 >>= each_parts (equations_of es))
  outputs_is bytes =
      bind_bind (count_at 0x8000_0000 bytes) (λ m. items_at output_at m.0 m.1 >>= each_then) if_fine
      ∙ bind_same (count_at 0x8000_0000 bytes) (λ m. (items_at output_at m.0 m.1 >>= each_then) >>= if_fine) (λ m. items_at output_at m.0 m.1 >>= each_parts (equations_of es)) (λ m.
      bind_bind (items_at output_at m.0 m.1) each_then if_fine
      ∙ bind_same (items_at output_at m.0 m.1) (λ os. each_then os >>= if_fine) (each_parts (equations_of es)) (λ os. plan_is es os.0 os.1))

abbrev after_entries : Entries × List ℕ → Read Code
after_entries es = count_at 0x8000_0000 es.1 >>= λ m. items_at output_at m.0 m.1 >>= each_then es.0

abbrev after_equations : (List Equation × List ℕ) × List ℕ → Read Code
after_equations x = count_at 0x8000_0000 x.1 >>= λ m. items_at output_at m.0 m.1 >>= λ os. plan_at os.1 >>= λ p. Some (system_of x.0 os.0 p.0, p.1)

pub rising_is : (bytes : List ℕ) → rising_at bytes ≡ parts_at bytes
unfolding code_at
rising_is bytes =
    bind_bind (count_at MOST_EQUATIONS bytes) (λ n. items_at entry_read n.0 n.1 >>= after_entries) if_fine
    ∙ bind_same (count_at MOST_EQUATIONS bytes) (λ n. (items_at entry_read n.0 n.1 >>= after_entries) >>= if_fine) (λ n. equations_at n.0 n.1 >>= after_equations) (λ n.
    bind_bind (items_at entry_read n.0 n.1) after_entries if_fine
    ∙ bind_same (items_at entry_read n.0 n.1) (λ es. after_entries es >>= if_fine) (λ es. after_equations (equations_of es.0, es.1)) (λ es. outputs_is es.0 es.1)
    ∙ sym (bind_bind (items_at entry_read n.0 n.1) (λ es. Some (equations_of es.0, es.1)) after_equations))
