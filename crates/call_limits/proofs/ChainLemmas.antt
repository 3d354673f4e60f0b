-- Chains of calls, and what nests by them.
use Rattle.std.proofs.Common.{◌≡◌, ℕ, zero, suc, ◌<◌, ◌≤◌, List, None, refl, sym, subst, inl, inr, arith}
use Rattle.syntax_tree.specs.Tree as tree
use Rattle.call_limits.specs.Nesting.{CallsMacro, CallsFunction, Chain, none, link, IsFirstTooDeep}
use Rattle.call_limits.specs.inner.Depths.{Nests, ends, counts, passes}
use Rattle.definition_cycles.specs.declared.limits.TheConstants.{MOST_CALLS}

-- ---- chains of calls of macros
-- where nothing is too deep, no chain of macros is longer than may be
pub macros_limited : (items : List tree.Item) → IsFirstTooDeep items None → (i to : ℕ) → Chain (CallsMacro items) (suc MOST_CALLS) i to → ⊥
macros_limited items first i to c = first i (inl (record { to = to; chain = c }))

-- nor one of value functions, after any chain of macros
pub functions_limited : (items : List tree.Item) → IsFirstTooDeep items None → (i depth through to : ℕ) → Chain (CallsMacro items) depth i through → Chain (CallsFunction items) (suc MOST_CALLS) through to → ⊥
functions_limited items first i depth through to m f = first i (inr (record { through = through; depth = depth; macros = m; to = to; functions = f }))

-- a chain grows at its front
pub chain_grows : (items : List tree.Item) (i j n to : ℕ) → CallsMacro items i j → Chain (CallsMacro items) n j to → Chain (CallsMacro items) (suc n) i to
chain_grows items i j n to call c = link call c

-- what calls nest in a macro that is called is less by one
pub called_less : (items : List tree.Item) (i j n : ℕ) → CallsMacro items i j → ((to : ℕ) → Chain (CallsMacro items) (suc (suc n)) i to → ⊥) → (to : ℕ) → Chain (CallsMacro items) (suc n) j to → ⊥
called_less items i j n call limited to c = limited to (chain_grows items i j (suc n) to call c)

pub chain_alike : (E F : ℕ → ℕ → Type 0) → ((a b : ℕ) → E a b → F a b) → (n a b : ℕ) → Chain E n a b → Chain F n a b
chain_alike E F like _ a _ none = none
chain_alike E F like _ a c (link {n = n} {b = b} e r) = link (like a b e) (chain_alike E F like n b c r)

-- ---- edges that count, and edges that do not
pub nests_alike : (C D P Q : ℕ → ℕ → Type 0) → ((a b : ℕ) → C a b → D a b) → ((a b : ℕ) → P a b → Q a b) → (n a : ℕ) → Nests C P n a → Nests D Q n a
nests_alike C D P Q counted passed _ a ends = ends
nests_alike C D P Q counted passed _ a (counts {n = n} {b = b} e r) = counts (counted a b e) (nests_alike C D P Q counted passed n b r)
nests_alike C D P Q counted passed n a (passes {b = b} e r) = passes (passed a b e) (nests_alike C D P Q counted passed n b r)

-- fewer nest too
pub nests_fewer : (C P : ℕ → ℕ → Type 0) (m a : ℕ) → Nests C P m a → (n : ℕ) → n ≤ m → Nests C P n a
nests_fewer C P _ a ends n few = let none_left : n ≡ 0 = omega arith in subst (λ k. Nests C P k a) (sym none_left) ends
nests_fewer C P _ a (counts {n = m} {b = b} e r) zero few = ends
nests_fewer C P _ a (counts {n = m} {b = b} e r) (suc n) few = counts e (nests_fewer C P m b r n (omega arith))
nests_fewer C P m a (passes {b = b} e r) n few = passes e (nests_fewer C P m b r n few)

-- what nests begins with an edge
pub nests_at : (C P : ℕ → ℕ → Type 0) (A : Type 0) (n a : ℕ) → ((b : ℕ) → C a b → A) → ((b : ℕ) → P a b → A) → Nests C P n a → 0 < n → A
nests_at C P A _ a counted passed ends some = absurd (omega arith)
nests_at C P A _ a counted passed (counts {b = b} e r) some = counted b e
nests_at C P A n a counted passed (passes {b = b} e r) some = passed b e

chain_nests : (C P : ℕ → ℕ → Type 0) (n a b : ℕ) → Chain C n a b → Nests C P n a
chain_nests C P _ a _ none = ends
chain_nests C P _ a c (link {n = n} {b = b} e r) = counts e (chain_nests C P n b c r)

after_chain : (C P : ℕ → ℕ → Type 0) (n k a b : ℕ) → Chain P k a b → Nests C P n b → Nests C P n a
after_chain C P n _ a _ none r = r
after_chain C P n _ a c (link {n = k} {b = b} e l) r = passes e (after_chain C P n k b c l r)

-- a chain of macros, and one of value functions after it
pub record FunctionsAfter (M F : ℕ → ℕ → Type 0) (n a : ℕ) : Type 0 where
  pub through : ℕ
  pub depth : ℕ
  pub macros : Chain M depth a through
  pub to : ℕ
  pub functions : Chain F n through to

pub macros_nest : (M F : ℕ → ℕ → Type 0) (n a to : ℕ) → Chain M n a to → Nests M F n a
macros_nest M F n a to c = chain_nests M F n a to c

pub functions_nest : (M F : ℕ → ℕ → Type 0) (n a : ℕ) → FunctionsAfter M F n a → Nests F M n a
functions_nest M F n a c = after_chain F M n c.depth a c.through c.macros (chain_nests F M n c.through c.to c.functions)

-- value functions call no macros
module _ (M F : ℕ → ℕ → Type 0) (apart : (a b c : ℕ) → F a b → M b c → ⊥) where
  no_macros : (n a : ℕ) → ((b : ℕ) → M a b → ⊥) → Nests M F n a → n ≡ 0
  no_macros _ a free ends = refl
  no_macros _ a free (counts {b = b} e r) = absurd (free b e)
  no_macros n a free (passes {b = b} e r) = no_macros n b (λ c m. apart a b c e m) r

  pub macros_chain : (n a : ℕ) → Nests M F n a → (to : ℕ) × Chain M n a to
  macros_chain _ a ends = (a, none)
  macros_chain _ a (counts {n = n} {b = b} e r) = let c = macros_chain n b r in (c.0, link e c.1)
  macros_chain n a (passes {b = b} e r) =
      let end = no_macros n b (λ c m. apart a b c e m) r in (a, subst (λ k. Chain M k a a) (sym end) none)

  functions_alone : (n a : ℕ) → ((b : ℕ) → M a b → ⊥) → Nests F M n a → (to : ℕ) × Chain F n a to
  functions_alone _ a free ends = (a, none)
  functions_alone _ a free (counts {n = n} {b = b} e r) =
      let c = functions_alone n b (λ c m. apart a b c e m) r in (c.0, link e c.1)
  functions_alone n a free (passes {b = b} e r) = absurd (free b e)

  pub functions_chain : (n a : ℕ) → Nests F M n a → FunctionsAfter M F n a
  functions_chain _ a ends = record { through = a; depth = 0; macros = none; to = a; functions = none }
  functions_chain _ a (counts {n = n} {b = b} e r) =
      let c = functions_alone n b (λ c m. apart a b c e m) r in
      record { through = a; depth = 0; macros = none; to = c.0; functions = link e c.1 }
  functions_chain n a (passes {b = b} e r) =
      let c = functions_chain n b r in
      record { through = c.through; depth = suc c.depth; macros = link e c.macros; to = c.to; functions = c.functions }
