-- Which stored variables may keep one content from an earlier time.
use Rattle.std.specs.Prelude.{ℕ, List}
use Rattle.flat_core.specs.System.{System}
use Rattle.alias_rules.specs.Uses.{IsStored, IsLast}
use Rattle.alias_rules.specs.Roots.{IsRoot, ComesFromLast}

module _ (s : System) (set : List ℕ) where
  -- The least such relation that is reflexive and symmetric. It need not be transitive: two variables may share with a third by one root
  -- each.
  pub data Shares : ℕ → ℕ → Type 0 where
    itself : {v : ℕ} → IsStored s v → Shares v v
    turned : {v w : ℕ} → Shares v w → Shares w v
    common_root : {v w : ℕ} → (r : ℕ) → IsStored s v → IsStored s w → IsRoot s set r v → IsRoot s set r w → Shares v w
    last_roots : {v w u x : ℕ} → IsStored s v → IsStored s w → ComesFromLast s set v u → ComesFromLast s set w x → Shares u x → Shares v w
    last_root : {v w u : ℕ} → IsStored s v → ComesFromLast s set v u → Shares u w → Shares v w

  -- two roots may begin with one content
  pub data Alias : ℕ → ℕ → Type 0 where
    same : {r : ℕ} → Alias r r
    lasts : {r q v w : ℕ} → IsLast s v r → IsLast s w q → Shares v w → Alias r q
