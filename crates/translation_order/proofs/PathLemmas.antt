-- Paths and walks along edges.
use Rattle.std.proofs.Common.{ℕ}
use Rattle.translation_order.specs.Graph.{Path, edge, step, Walk, stay, onward}

pub path_on : {E : ℕ → ℕ → Type 0} {a b c : ℕ} → Path E a b → E b c → Path E a c
path_on (edge e) f = step e (edge f)
path_on (step e p) f = step e (path_on p f)

pub path_join : {E : ℕ → ℕ → Type 0} {a b c : ℕ} → Path E a b → Path E b c → Path E a c
path_join (edge e) q = step e q
path_join (step e p) q = step e (path_join p q)

pub walk_on : {E : ℕ → ℕ → Type 0} {a b c : ℕ} → Walk E a b → E b c → Walk E a c
walk_on stay f = onward f stay
walk_on (onward e w) f = onward e (walk_on w f)

-- what holds at the start and along each edge holds at the end
pub walk_keeps : {E : ℕ → ℕ → Type 0} (P : ℕ → Type 0) → ((a b : ℕ) → E a b → P a → P b) → {a b : ℕ} → Walk E a b → P a → P b
walk_keeps P along stay h = h
walk_keeps P along (onward {a} {b} e w) h = walk_keeps P along w (along a b e h)
