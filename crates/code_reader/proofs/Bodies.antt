-- Bodies that are no deeper than there is room.
use Rattle.std.proofs.Common.{◌≡◌, ℕ, zero, suc, ◌-◌, List, [], ◌∷◌, length, None, ap, refl, arith}
use Rattle.lift_func.specs.BodyTree.{BodyTree}
use Rattle.code_file.specs.inner.Reading.{Read, body_at, node_at}

pub no_room : (room : ℕ) (bytes : List ℕ) → room ≡ 0 → body_at room bytes ≡ None
unfolding body_at
no_room room bytes is = ap (λ (r : ℕ). body_at r bytes) is

pub some_room : (room : ℕ) (bytes : List ℕ) → (room ≡ 0 → ⊥) → body_at room bytes ≡ node_at (body_at (room - 1)) bytes
unfolding body_at
some_room zero bytes some = absurd (some refl)
some_room (suc room) bytes some = let same : room ≡ suc room - 1 = omega arith in ap (λ (r : ℕ). node_at (body_at r) bytes) same

pub nothing_left : (part : List ℕ → Read BodyTree) (bytes : List ℕ) → length bytes ≡ 0 → node_at part bytes ≡ None
nothing_left part [] none = refl
nothing_left part (b ∷ bytes) none = absurd (omega arith)
