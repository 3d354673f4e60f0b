-- Sharing and aliasing.
use Rattle.std.proofs.Common.{ℕ, List}
use Rattle.flat_core.specs.System.{System}
use Rattle.alias_rules.specs.inner.Laws.{AreStored}
use Rattle.alias_rules.specs.Roots.{IsRoot}
use Rattle.alias_rules.specs.Sharing.{Shares, itself, turned, common_root, last_roots, last_root, Alias, same, lasts}
use Rattle.alias_rules.specs.Uses.{IsStored}

pub both_stored : (s : System) (set : List ℕ) (v w : ℕ) → Shares s set v w → AreStored s v w
both_stored s set v w (itself h) = record { first = h; second = h }
both_stored s set v w (turned h) = let both = both_stored s set w v h in record { first = both.second; second = both.first }
both_stored s set v w (common_root r a b p q) = record { first = a; second = b }
both_stored s set v w (last_roots a b p q h) = record { first = a; second = b }
both_stored s set v w (last_root {u} a p h) = record { first = a; second = (both_stored s set u w h).second }

pub aliased_share : (s : System) (set : List ℕ) (r q v w : ℕ) → IsStored s v → IsStored s w → IsRoot s set r v → IsRoot s set q w → Alias s set r q → Shares s set v w
aliased_share s set r q v w a b p t same = common_root r a b p t
aliased_share s set r q v w a b p t (lasts l m h) = last_roots a b (record { root = r; is_root = p; last = l }) (record { root = q; is_root = t; last = m }) h

pub alias_turned : (s : System) (set : List ℕ) (r q : ℕ) → Alias s set r q → Alias s set q r
alias_turned s set r q same = same
alias_turned s set r q (lasts l m h) = lasts m l (turned h)
