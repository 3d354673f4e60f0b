-- Characters have one list of tokens or one fault, and not both.
use Rattle.std.proofs.Common.{◌≡◌, ℕ, List, [], ◌∷◌, ◌++◌, length, take, drop, refl, sym, ap, subst, ◌∙◌, Option, Some, None, Result, Ok, Err}
use Rattle.std.proofs.Math.Seq.{take-append_seam, drop-append_seam}
use Rattle.std.specs.Prelude.{nat_lt}
use Rattle.tsl_value.specs.declared.place.Place.{Place}
use Rattle.spec_lexer.specs.declared.fault.LexFault.{LexFault}
use Rattle.spec_lexer.specs.declared.piece.Piece.{Piece}
use Rattle.spec_lexer.specs.declared.piece.Piece.TheVariants.{Blank, LineEnd, Made}
use Rattle.spec_lexer.specs.declared.token.TokenKind.{TokenKind}
use Rattle.spec_lexer.specs.declared.token.Token.{Token}
use Rattle.spec_lexer.specs.Found.{found}
use Rattle.spec_lexer.specs.Pieces.{place_after, IsSkipped, Makes, IsWrong}
use Rattle.spec_lexer.specs.Source.{Lexes, end, skip, token, Fails, here, past_skip, past_token, start}
use Rattle.spec_lexer.proofs.Complete.{Reads, ReadsFront, FailsFront, skip_reads, make_reads, wrong_reads}

-- a piece, a token of a kind or none
data IsPiece : List ℕ → List ℕ → Option TokenKind → Type 0 where
  skipped : {front rest : List ℕ} → IsSkipped front rest → IsPiece front rest None
  made : {front rest : List ℕ} {k : TokenKind} → Makes front rest k → IsPiece front rest (Some k)

piece_reads : {all front rest : List ℕ} {o : Option TokenKind} (at : Place) → all ≡ front ++ rest → IsPiece front rest o → ReadsFront at all (length front) o
piece_reads at is (skipped {front = front} s) = subst (λ l. ReadsFront at l (length front) None) (sym is) (skip_reads at s)
piece_reads at is (made {front = front} {k = k} m) = subst (λ l. ReadsFront at l (length front) (Some k)) (sym is) (make_reads at m)

fault_reads : {all front rest : List ℕ} {e : LexFault} (at : Place) → all ≡ front ++ rest → IsWrong at front rest e → FailsFront at all e
fault_reads {e = e} at is w = subst (λ l. FailsFront at l e) (sym is) (wrong_reads at w)

same_reads : (r : Result Piece LexFault) (n m : ℕ) (o p : Option TokenKind) → Reads r n o → Reads r m p → (n ≡ m) × (o ≡ p)
same_reads (Ok (Blank l)) n m None None a b = (sym a ∙ b, refl)
same_reads (Ok (Blank l)) n m None (Some k) a b = absurd b
same_reads (Ok (Blank l)) n m (Some k) p a b = absurd a
same_reads (Ok LineEnd) n m None None a b = (sym a ∙ b, refl)
same_reads (Ok LineEnd) n m None (Some k) a b = absurd b
same_reads (Ok LineEnd) n m (Some k) p a b = absurd a
same_reads (Ok (Made l j)) n m None p a b = absurd a
same_reads (Ok (Made l j)) n m (Some k) None a b = absurd b
same_reads (Ok (Made l j)) n m (Some k) (Some q) a b = (sym a.0 ∙ b.0, ap Some (sym a.1 ∙ b.1))
same_reads (Err e) n m o p a b = absurd a

same_size : (at : Place) (all : List ℕ) (n m : ℕ) (o p : Option TokenKind) → ReadsFront at all n o → ReadsFront at all m p → (n ≡ m) × (o ≡ p)
same_size at [] n m o p a b = absurd a
same_size at (c ∷ cs) n m o p a b = same_reads (found at c cs) n m o p a b

same_piece : (all f r g s : List ℕ) (o p : Option TokenKind) → all ≡ f ++ r → IsPiece f r o → all ≡ g ++ s → IsPiece g s p → (f ≡ g) × (r ≡ s) × (o ≡ p)
same_piece all f r g s o p is piece same other =
    let parts = same_size start all (length f) (length g) o p (piece_reads start is piece) (piece_reads start same other) in
    let fronts : f ≡ g = sym (take-append_seam f r) ∙ (λ i. take (parts.0 i) ((sym is ∙ same) i)) ∙ take-append_seam g s in
    let rests : r ≡ s = sym (drop-append_seam f r) ∙ (λ i. drop (parts.0 i) ((sym is ∙ same) i)) ∙ drop-append_seam g s in
    (fronts, rests, parts.1)

-- a fault and a piece never stand in one front
clash : (at : Place) (all : List ℕ) (n : ℕ) (o : Option TokenKind) (e : LexFault) → ReadsFront at all n o → FailsFront at all e → ⊥
clash at [] n o e a b = a
clash at (c ∷ cs) n o e a b = subst (λ r. Reads r n o) b a

same_fault : (at : Place) (all : List ℕ) (d e : LexFault) → FailsFront at all d → FailsFront at all e → d ≡ e
same_fault at [] d e a b = absurd a
same_fault at (c ∷ cs) d e a b = let same = sym a ∙ b in cc

lexes_along : (at : Place) {last : ℕ} {f g r s : List ℕ} {ts : List Token} → f ≡ g → r ≡ s → Lexes (place_after at g) last s ts → Lexes (place_after at f) last r ts
lexes_along at {last = last} {f = f} {s = s} {ts = ts} fronts rests l = subst (λ r. Lexes (place_after at f) last r ts) (sym rests) (subst (λ f. Lexes (place_after at f) last s ts) (sym fronts) l)

fails_along : (at : Place) {f g r s : List ℕ} {e : LexFault} → f ≡ g → r ≡ s → Fails (place_after at g) s e → Fails (place_after at f) r e
fails_along at {f = f} {s = s} {e = e} fronts rests l = subst (λ r. Fails (place_after at f) r e) (sym rests) (subst (λ f. Fails (place_after at f) s e) (sym fronts) l)

pub one_lexing : {at : Place} {last : ℕ} {all : List ℕ} {ts us : List Token} → Lexes at last all ts → Lexes at last all us → ts ≡ us
one_lexing end end = refl
one_lexing end (skip is s l) = absurd (piece_reads start is (skipped s))
one_lexing end (token is m l) = absurd (piece_reads start is (made m))
one_lexing (skip is s l) end = absurd (piece_reads start is (skipped s))
one_lexing (token is m l) end = absurd (piece_reads start is (made m))
one_lexing (skip {at = at} {all = all} {front = f} {rest = r} is s l) (skip {front = g} {rest = q} same t k) =
    let parts = same_piece all f r g q None None is (skipped s) same (skipped t) in one_lexing l (lexes_along at parts.0 parts.1 k)
one_lexing (skip {all = all} {front = f} {rest = r} is s l) (token {front = g} {rest = q} {kind = k} same m n) =
    let parts = same_piece all f r g q None (Some k) is (skipped s) same (made m) in let no = parts.2 in cc
one_lexing (token {all = all} {front = f} {rest = r} {kind = k} is m l) (skip {front = g} {rest = q} same s n) =
    let parts = same_piece all f r g q (Some k) None is (made m) same (skipped s) in let no = parts.2 in cc
one_lexing (token {at = at} {last = last} {all = all} {front = f} {rest = r} {kind = k} {tokens = ts} is m l) (token {front = g} {rest = q} {kind = j} {tokens = us} same n o) =
    let parts = same_piece all f r g q (Some k) (Some j) is (made m) same (made n) in
    let kinds : k ≡ j = let some = parts.2 in cc in
    let others = one_lexing l (lexes_along at parts.0 parts.1 o) in
    λ i. record { kind = kinds i; place = at; first = nat_lt last at.line } ∷ others i

pub one_fault : {at : Place} {all : List ℕ} {d e : LexFault} → Fails at all d → Fails at all e → d ≡ e
one_fault (here {at = at} {all = all} {fault = d} is w) (here {fault = e} same v) = same_fault at all d e (fault_reads at is w) (fault_reads at same v)
one_fault (here {at = at} {all = all} {fault = d} is w) (past_skip {front = g} same s l) = absurd (clash at all (length g) None d (piece_reads at same (skipped s)) (fault_reads at is w))
one_fault (here {at = at} {all = all} {fault = d} is w) (past_token {front = g} {kind = k} same m l) = absurd (clash at all (length g) (Some k) d (piece_reads at same (made m)) (fault_reads at is w))
one_fault (past_skip {at = at} {all = all} {front = f} is s l) (here {fault = e} same v) = absurd (clash at all (length f) None e (piece_reads at is (skipped s)) (fault_reads at same v))
one_fault (past_token {at = at} {all = all} {front = f} {kind = k} is m l) (here {fault = e} same v) = absurd (clash at all (length f) (Some k) e (piece_reads at is (made m)) (fault_reads at same v))
one_fault (past_skip {at = at} {all = all} {front = f} {rest = r} is s l) (past_skip {front = g} {rest = q} same t k) =
    let parts = same_piece all f r g q None None is (skipped s) same (skipped t) in one_fault l (fails_along at parts.0 parts.1 k)
one_fault (past_token {at = at} {all = all} {front = f} {rest = r} {kind = k} is m l) (past_token {front = g} {rest = q} {kind = j} same n o) =
    let parts = same_piece all f r g q (Some k) (Some j) is (made m) same (made n) in one_fault l (fails_along at parts.0 parts.1 o)
one_fault (past_skip {all = all} {front = f} {rest = r} is s l) (past_token {front = g} {rest = q} {kind = k} same m n) =
    let parts = same_piece all f r g q None (Some k) is (skipped s) same (made m) in let no = parts.2 in cc
one_fault (past_token {all = all} {front = f} {rest = r} {kind = k} is m l) (past_skip {front = g} {rest = q} same s n) =
    let parts = same_piece all f r g q (Some k) None is (made m) same (skipped s) in let no = parts.2 in cc

pub never_both : {at : Place} {last : ℕ} {all : List ℕ} {ts : List Token} {e : LexFault} → Lexes at last all ts → Fails at all e → ⊥
never_both {e = e} end (here {at = at} is w) = fault_reads at is w
never_both end (past_skip is s l) = piece_reads start is (skipped s)
never_both end (past_token is m l) = piece_reads start is (made m)
never_both (skip {at = at} {all = all} {front = f} is s l) (here {fault = e} same w) = clash at all (length f) None e (piece_reads at is (skipped s)) (fault_reads at same w)
never_both (token {at = at} {all = all} {front = f} {kind = k} is m l) (here {fault = e} same w) = clash at all (length f) (Some k) e (piece_reads at is (made m)) (fault_reads at same w)
never_both (skip {at = at} {all = all} {front = f} {rest = r} is s l) (past_skip {front = g} {rest = q} same t k) =
    let parts = same_piece all f r g q None None is (skipped s) same (skipped t) in never_both l (fails_along at parts.0 parts.1 k)
never_both (token {at = at} {all = all} {front = f} {rest = r} {kind = k} is m l) (past_token {front = g} {rest = q} {kind = j} same n o) =
    let parts = same_piece all f r g q (Some k) (Some j) is (made m) same (made n) in never_both l (fails_along at parts.0 parts.1 o)
never_both (skip {all = all} {front = f} {rest = r} is s l) (past_token {front = g} {rest = q} {kind = k} same m n) =
    let parts = same_piece all f r g q None (Some k) is (skipped s) same (made m) in let no = parts.2 in cc
never_both (token {all = all} {front = f} {rest = r} {kind = k} is m l) (past_skip {front = g} {rest = q} same s n) =
    let parts = same_piece all f r g q (Some k) None is (made m) same (skipped s) in let no = parts.2 in cc
