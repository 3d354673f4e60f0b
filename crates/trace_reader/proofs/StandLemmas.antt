-- What the calls of a reader keep.
use Rattle.std.proofs.Common.{◌≡◌, ◌≤◌, ℕ, zero, suc, ◌+◌, ◌-◌, min, Bool, true, false, List, [], ◌++◌, length, take, Option, Some, None, refl, sym, ap, subst, ◌∙◌, arith, append_assoc, inl, inr}
use Rattle.std.proofs.lemmas.List.{append-nil, length-append, take_all}
use Rattle.std.proofs.lemmas.Bool.{cases_lt}
use Rattle.std.proofs.lemmas.Option.{slice_get_past}
use Rattle.std.proofs.Math.Seq.{take-length}
use Rattle.std.specs.Prelude.{slice_get}
use Rattle.std.specs.Option.{option_or}
use Rattle.flat_core.specs.System.{System}
use Rattle.flat_core.specs.Line.{Line}
use Rattle.trace_reader.specs.Reading.{Reading, reading, read_on}
use Rattle.trace_reader.specs.inner.Reader.{Reader, left_of}
use Rattle.trace_reader.specs.inner.Reads.{Reads, after}
use Rattle.trace_reader.proofs.CutLemmas.{slice_get-append, take-append}
use Rattle.trace_reader.proofs.LawLemmas.{reading_refused}
use Rattle.trace_reader.proofs.PassedLemmas.{passed_piece}

-- a list of bytes that takes nothing
pub take-nil : (n : ℕ) → let none : List ℕ = [] in take n none ≡ none
take-nil zero = refl
take-nil (suc n) = refl

-- a reader that was fed nothing
abbrev pub fresh : System → Bool → ℕ → Reader
fresh s strict limit = record { system = s; strict = strict; limit = limit; taken = 0; unread = []; beyond = None; ended = false; count = 0; last = None; seen = []; refused = None }

pub reads_fresh : (s : System) (strict : Bool) (limit : ℕ) → Reads (fresh s strict limit) s strict limit [] [] false
unfolding reading
reads_fresh s strict limit =
    let whole : limit ≡ limit - 0 = omega arith in
    record {
      system = refl;
      strict_is = refl;
      limit_is = refl;
      taken_is = refl;
      ended_is = refl;
      last = refl;
      seen = λ i. refl;
      passed = λ unended. record { past = []; parts = take-nil limit; whole = refl; counted = refl };
      goes_on = λ more e may k. read_on s strict [] 1 (take (whole k) more) (slice_get more (whole k)) e;
      refused = λ f is. absurd (cc);
    }

-- all that a list has is taken
take_min : (n : ℕ) (bytes : List ℕ) → take (min (length bytes) n) bytes ≡ take n bytes
take_min n bytes = elim (cases_lt n (length bytes)) [
  | inl low ↦ let same : min (length bytes) n ≡ n = omega arith in ap (λ m. take m bytes) same
  | inr high ↦
      let same : min (length bytes) n ≡ length bytes = omega arith in
      let all : length bytes ≤ n = omega arith in
      ap (λ m. take m bytes) same ∙ take-length bytes ∙ sym (take_all n bytes all)
]

-- the byte after as much as is taken
get_min : (n : ℕ) (bytes : List ℕ) → slice_get bytes (min (length bytes) n) ≡ slice_get bytes n
get_min n bytes = elim (cases_lt n (length bytes)) [
  | inl low ↦ let same : min (length bytes) n ≡ n = omega arith in ap (slice_get bytes) same
  | inr high ↦
      let all : length bytes ≤ n = omega arith in
      let least : length bytes ≤ min (length bytes) n = omega arith in
      slice_get_past bytes (min (length bytes) n) least ∙ sym (slice_get_past bytes n all)
]

-- a piece, of which as much is taken as is left
pub take_fits : (left : ℕ) (piece : List ℕ) (fits : ℕ) → fits ≡ min (length piece) left → take fits piece ≡ take left piece
take_fits left piece fits least = ap (λ n. take n piece) least ∙ take_min left piece

pub get_fits : (left : ℕ) (piece : List ℕ) (fits : ℕ) → fits ≡ min (length piece) left → slice_get piece fits ≡ slice_get piece left
get_fits left piece fits least = ap (slice_get piece) least ∙ get_min left piece

or_assoc : (a b c : Option ℕ) → option_or (option_or a b) c ≡ option_or a (option_or b c)
or_assoc None b c = refl
or_assoc (Some x) b c = refl

-- A piece: as much of it is kept as is within the limit, and the byte after that.
abbrev pub fed_more : Reader → List ℕ → Reader
fed_more r piece =
    record r { taken = r.taken + length piece; unread = r.unread ++ take (left_of r) piece; beyond = option_or r.beyond (slice_get piece (left_of r)) }

module _ (r : Reader) (s : System) (strict : Bool) (limit : ℕ) (fed : List ℕ) (given : List Line) where
  pub reads_piece : (piece : List ℕ) → r.refused ≡ None → Reads r s strict limit fed given false → Reads (fed_more r piece) s strict limit (fed ++ piece) given false
  reads_piece piece accepted reads =
      let left = left_of r in
      let fewer : left - length piece ≡ r.limit - (r.taken + length piece) = omega arith in
      let limit_is = reads.limit_is in
      let taken_is = reads.taken_is in
      let same : limit - length fed ≡ left = omega arith in
      let taken : r.taken + length piece ≡ length (fed ++ piece) = omega (arith, length-append fed piece) in
      record {
        system = reads.system;
        strict_is = reads.strict_is;
        limit_is = reads.limit_is;
        taken_is = taken;
        ended_is = reads.ended_is;
        last = reads.last;
        seen = reads.seen;
        passed = λ unended. passed_piece limit r.count r.unread fed piece left same (reads.passed unended);
        goes_on = λ more e may.
            ap (λ bytes. reading s strict limit bytes e) (append_assoc fed piece more)
            ∙ reads.goes_on (piece ++ more) e tt
            ∙ (let bytes : r.unread ++ take left (piece ++ more) ≡ r.unread ++ take left piece ++ take (left - length piece) more =
            ap (λ bs. r.unread ++ bs) (take-append left piece more) ∙ sym (append_assoc r.unread (take left piece) (take (left - length piece) more)) in
            let first : option_or r.beyond (slice_get (piece ++ more) left) ≡ option_or (option_or r.beyond (slice_get piece left)) (slice_get more (left - length piece)) =
            ap (option_or r.beyond) (slice_get-append piece more left) ∙ sym (or_assoc r.beyond (slice_get piece left) (slice_get more (left - length piece))) in
            λ k. after given (read_on s strict given (r.count + 1) (bytes k) (first k) e))
            ∙ λ k. after given (read_on s strict given (r.count + 1) (r.unread ++ take left piece ++ take (fewer k) more) (option_or (option_or r.beyond (slice_get piece left)) (slice_get more (fewer k))) e);
        refused = λ f is. absurd (cc);
      }

  -- The end of the trace: where a fault was answered before, it stays.
  pub reads_end : Reads r s strict limit fed given false → Reads (record r { ended = true }) s strict limit fed given true
  reads_end reads = record {
    system = reads.system;
    strict_is = reads.strict_is;
    limit_is = reads.limit_is;
    taken_is = reads.taken_is;
    ended_is = refl;
    last = reads.last;
    seen = reads.seen;
    passed = λ unended. absurd (cc);
    goes_on = λ more e may. reads.goes_on more e tt;
    refused = λ f is.
        let stood = reads.refused f is in
        ap (λ bytes. reading s strict limit bytes true) (sym (append-nil fed)) ∙ reading_refused s strict limit fed [] true f (ap (λ (r : Reading). r.refused) stood) ∙ stood;
  }

  -- a piece of which as much is taken as is within the limit
  pub reads_fed : (piece unread : List ℕ) (fits : ℕ) (beyond : Option ℕ) → r.refused ≡ None → r.beyond ≡ None → fits ≡ min (length piece) (left_of r) → unread ≡ r.unread ++ take fits piece → beyond ≡ slice_get piece fits →
      Reads r s strict limit fed given false →
      Reads (record r { taken = r.taken + length piece; unread = unread; beyond = beyond }) s strict limit (fed ++ piece) given false
  reads_fed piece unread fits beyond accepted within least is next reads =
      let left = left_of r in
      let bytes : r.unread ++ take left piece ≡ unread = ap (λ bs. r.unread ++ bs) (sym (take_fits left piece fits least)) ∙ sym is in
      let first : option_or r.beyond (slice_get piece left) ≡ beyond = ap (λ o. option_or o (slice_get piece left)) within ∙ sym (get_fits left piece fits least) ∙ sym next in
      subst (λ (new : Reader). Reads new s strict limit (fed ++ piece) given false) (λ k. record r { taken = r.taken + length piece; unread = bytes k; beyond = first k }) (reads_piece piece accepted reads)
