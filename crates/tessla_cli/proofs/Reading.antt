-- A file as it is read, a piece at a time.
use Rattle.std.proofs.Common.{◌≡◌, inl, inr, ℕ, ◌≤◌, ◌<◌, Bool, true, false, ◌||◌, if◌then◌else◌, List, [], ◌∷◌, ◌++◌, length, refl, sym, ◌∙◌, ap, subst, IsTrue, take, zero, suc, nat_eq, arith}
use Rattle.std.proofs.lemmas.Grind.{common_steps}
use Rattle.std.proofs.lemmas.List.{append-nil}
use Rattle.tsl_world.specs.declared.outside.Did.{Did}
use Rattle.tsl_world.specs.declared.outside.Did.TheVariants.{Took, NotTook}
use Rattle.tsl_world.specs.declared.outside.Slot.{Slot}
use Rattle.tsl_world.specs.declared.outside.Slot.TheVariants as slot
use Rattle.tsl_world.specs.Journal.{taken, ended, same_slot, Each, IsAny, IsDone, IsRead}
use Rattle.tsl_world.specs.Runs.{Runs}
use Rattle.tsl_world.specs.Standing.{Standing}
use Rattle.tsl_world.proofs.Runs.{go_on, one_call}
use Rattle.tsl_world.proofs.Journals.{taken-append, ended-append, Each-append}
use Rattle.trace_monitor.specs.Next.{is_nothing}
use Rattle.tessla_cli.specs.inner.RunPhases.{IsTake, MayReadFile, ReadsFile, GivesFile}
use Rattle.trace_run.proofs.Watching.{not_zero}
use Rattle.tsl_world.proofs.Places.{at_none, at_one, stops_one}
use Rattle.trace_reader.specs.declared.limits.TheConstants.{MOST_PIECE_BYTES}

pub same_slot_itself : (from : Slot) → same_slot from from ≡ true
same_slot_itself slot.Spec = refl
same_slot_itself slot.Trace = refl
same_slot_itself slot.State = refl
same_slot_itself slot.Code = refl

module _ (from : Slot) (most : ℕ) where
  -- these bytes of the file were read, and not its end
  pub record HasRead (bytes : List ℕ) (part : List Did) : Type 0 where
    pub bytes_are : taken from part ≡ bytes
    pub unended : ended from part ≡ false
    pub done : Each IsDone part
    pub reads : ReadsFile from most part

  pub has_read_none : HasRead [] []
  has_read_none = record {
    bytes_are = refl;
    unended = refl;
    done = tt;
    reads = record { only = tt; reads = at_none (IsRead from) (MayReadFile from most); stops = at_none IsAny (Each IsDone) };
  }

  module _ (bytes : List ℕ) (part : List Did) (h : HasRead bytes part) where
    -- before a read
    may_read : length bytes ≤ most → MayReadFile from most part
    may_read within = record { unended = h.unended; within = subst (λ (l : List ℕ). length l ≤ most) (sym h.bytes_are) within }

    -- one read more
    pub reads_more : (piece : List ℕ) → length bytes ≤ most → length piece ≤ MOST_PIECE_BYTES → ReadsFile from most (part ++ Took from piece ∷ [])
    reads_more piece within short = record {
      only = Each-append (IsTake from) part (Took from piece ∷ []) h.reads.only ((refl, short), tt);
      reads = at_one (IsRead from) (MayReadFile from most) part (Took from piece) h.reads.reads (may_read within);
      stops = stops_one part (Took from piece) h.done;
    }

    -- a read more that failed
    pub reads_failed : length bytes ≤ most → ReadsFile from most (part ++ NotTook from ∷ [])
    reads_failed within = record {
      only = Each-append (IsTake from) part (NotTook from ∷ []) h.reads.only (refl, tt);
      reads = at_one (IsRead from) (MayReadFile from most) part (NotTook from) h.reads.reads (may_read within);
      stops = stops_one part (NotTook from) h.done;
    }

    one_taken : (piece : List ℕ) → taken from (Took from piece ∷ []) ≡ piece
    one_taken piece = ap (λ (b : Bool). (if b then piece else []) ++ []) (same_slot_itself from) ∙ append-nil piece

    took_bytes : (piece : List ℕ) → taken from (part ++ Took from piece ∷ []) ≡ bytes ++ piece
    took_bytes piece =
        taken-append from part (Took from piece ∷ []) ∙ ap (λ (l : List ℕ). taken from part ++ l) (one_taken piece) ∙ ap (λ (l : List ℕ). l ++ piece) h.bytes_are

    took_end : (piece : List ℕ) → ended from (part ++ Took from piece ∷ []) ≡ is_nothing piece
    took_end [] = ended-append from part (Took from [] ∷ []) ∙ ap (λ (b : Bool). b || (same_slot from from || false)) h.unended ∙ ap (λ (b : Bool). b || false) (same_slot_itself from)
    took_end (x ∷ piece) = ended-append from part (Took from (x ∷ piece) ∷ []) ∙ ap (λ (b : Bool). b || false) h.unended ∙ not_zero (length piece)

    -- a piece that is not the end
    pub has_read_more : (piece : List ℕ) → length bytes ≤ most → length piece ≤ MOST_PIECE_BYTES → is_nothing piece ≡ false → HasRead (bytes ++ piece) (part ++ Took from piece ∷ [])
    has_read_more piece within short some = record {
      bytes_are = took_bytes piece;
      unended = took_end piece ∙ some;
      done = Each-append IsDone part (Took from piece ∷ []) h.done (tt, tt);
      reads = reads_more piece within short;
    }

    -- the end
    pub has_read_all : (piece : List ℕ) → is_nothing piece ≡ true → GivesFile from most bytes (part ++ Took from piece ∷ [])
    has_read_all [] none = record {
      bytes_are = took_bytes [] ∙ append-nil bytes;
      whole = inl (took_end [] ∙ none);
      done = Each-append IsDone part (Took from [] ∷ []) h.done (tt, tt);
    }
    has_read_all (b ∷ piece) none = absurd (let e : false ≡ true = not_zero (length piece) ∙ none in cc)

    -- past the limit
    pub has_read_enough : most < length bytes → GivesFile from most bytes part
    has_read_enough over = record { bytes_are = h.bytes_are; whole = inr (subst (λ (l : List ℕ). most < length l) (sym h.bytes_are) over); done = h.done }

-- one read of a file more, told or not
module _ {W : Type 0} (told : W → Bool) (journal : W → List Did) (standing : W → Standing) where
  pub file_read_on : (from : Slot) (most : ℕ) (old mid new : W) (bytes : List ℕ) (did : Did) (P : List Did → Type 0) → Runs told journal standing old mid (HasRead from most bytes)
      → ((part : List Did) → HasRead from most bytes part → P (part ++ did ∷ [])) → (IsTrue (told new) → IsTrue (told mid)) → standing new ≡ standing mid
      → (IsTrue (told new) → journal new ≡ journal mid ++ did ∷ []) → Runs told journal standing old new P
  file_read_on from most old mid new bytes did P calls says kept stands adds =
      go_on told journal standing old mid new _ (λ q. q ≡ did ∷ []) P calls
      (one_call told journal standing mid new did (λ q. q ≡ did ∷ []) kept stands adds refl)
      (λ p q at is. subst (λ (l : List Did). P (p ++ l)) (sym is) (says p at))

above_zero : (n : ℕ) → (n ≡ 0 → ⊥) → nat_eq n 0 ≡ false
above_zero zero is = absurd (is refl)
above_zero (suc n) is = sym (not_zero n)

-- what one read gives is nothing exactly where its count is 0
pub none_taken : (n : ℕ) (buf : List ℕ) → n ≡ 0 → is_nothing (take n buf) ≡ true
none_taken n buf is = ap (λ (k : ℕ). is_nothing (take k buf)) is

pub some_taken : (n : ℕ) (buf : List ℕ) → n ≤ length buf → (n ≡ 0 → ⊥) → is_nothing (take n buf) ≡ false
some_taken n buf fits some =
    let same : length (take n buf) ≡ n = grind (arith, common_steps) in
    ap (λ (k : ℕ). nat_eq k 0) same ∙ above_zero n some
