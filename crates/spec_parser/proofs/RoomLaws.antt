-- More room changes no outcome but that of a level too deep.
use Rattle.std.proofs.Common.{◌≡◌, ℕ, zero, suc, ◌+◌, ◌-◌, ◌≤◌, List, subst, arith}
use Rattle.spec_lexer.specs.declared.token.Token.{Token}
use Rattle.token_reader.specs.inner.Reader.{many}
use Rattle.token_reader.proofs.RoomLaws.{RisesTo, IsBelow, rises_same, rises_on, below_same, below-bind}
use Rattle.spec_parser.specs.inner.Reading.{items_at, ended, specification}
use Rattle.spec_parser.proofs.ItemLaws.{items_fine}

pub specification_rises : (room : ℕ) → IsBelow (specification room) (specification (suc room))
specification_rises room = below-bind (many (items_at room)) (many (items_at (suc room))) ended ended (items_fine room).below (λ items. below_same (ended items))

-- so any more room
rises_by : (k room : ℕ) (ts : List Token) → RisesTo (specification room ts) (specification (room + k) ts)
rises_by zero room ts = let same : room ≡ room + 0 = omega arith in subst (λ r. RisesTo (specification room ts) (specification r ts)) same (rises_same (specification room ts))
rises_by (suc k) room ts =
    let same : suc (room + k) ≡ room + suc k = omega arith in
    subst (λ r. RisesTo (specification room ts) (specification r ts)) same
    (rises_on (specification room ts) (specification (room + k) ts) (specification (suc (room + k)) ts) (rises_by k room ts) (specification_rises (room + k) ts))

pub rises_above : (room deeper : ℕ) (ts : List Token) → room ≤ deeper → RisesTo (specification room ts) (specification deeper ts)
rises_above room deeper ts h = let same : room + (deeper - room) ≡ deeper = omega arith in subst (λ r. RisesTo (specification room ts) (specification r ts)) same (rises_by (deeper - room) room ts)
