-- Reading items one after the other, as a loop does.
use Rattle.std.proofs.Common.{◌≡◌, ℕ, suc, ◌-◌, ◌+◌, ◌≤◌, ◌<◌, List, [], ◌∷◌, ◌++◌, Some, None, refl, sym, ap, ◌∙◌, append_assoc, arith}
use Rattle.std.proofs.lemmas.List.{append-nil}
use Rattle.code_file.specs.declared.fault.CodeFault.{CodeFault}
use Rattle.code_file.specs.declared.fault.CodeFault.TheVariants as fault
use Rattle.code_file.specs.inner.Reading.{◌>>=◌, Read, items_at}
use Rattle.code_reader.specs.inner.Gives.{Fails}
use Rattle.code_file.proofs.Fields.{got}

module _ {A : Type 0} (read : List ℕ → Read A) where
  -- what was read before, and what is still read
  abbrev pub with_front : List A → Read (List A) → Read (List A)
  with_front front items = items >>= λ x. Some (front ++ x.0, x.1)

  regroup : (front : List A) (x : A) (items : Read (List A)) → with_front front (items >>= λ xs. Some (x ∷ xs.0, xs.1)) ≡ with_front (front ++ x ∷ []) items
  regroup front x (Some xs) = ap (λ (ys : List A). got ys xs.1) (sym (append_assoc front (x ∷ []) xs.0))
  regroup front x None = refl

  pub goes_on : (front : List A) (count i : ℕ) (bytes : List ℕ) (x : A) (after : List ℕ) (total : Read (List A)) → i < count → read bytes ≡ Some (x, after)
      → with_front front (items_at read (count - i) bytes) ≡ total → with_front (front ++ x ∷ []) (items_at read (count - (i + 1)) after) ≡ total
  unfolding items_at
  goes_on front count i bytes x after total lt h so_far =
      let k : count - i ≡ suc (count - (i + 1)) = omega arith in
      let one : with_front front (items_at read (count - i) bytes) ≡ with_front (front ++ x ∷ []) (items_at read (count - (i + 1)) after) = rw (k, h) (regroup front x (items_at read (count - (i + 1)) after)) in
      sym one ∙ so_far

  none_left : (front : List A) (count i : ℕ) (bytes : List ℕ) → i < count → read bytes ≡ None → with_front front (items_at read (count - i) bytes) ≡ None
  unfolding items_at
  none_left front count i bytes lt h =
      let k : count - i ≡ suc (count - (i + 1)) = omega arith in
      rw (k, h) refl

  pub ends : (e : CodeFault) (front : List A) (count i : ℕ) (bytes : List ℕ) (total : Read (List A)) → i < count → Fails e (read bytes)
      → with_front front (items_at read (count - i) bytes) ≡ total → Fails e total
  ends fault.WrongForm front count i bytes total lt h so_far = sym so_far ∙ none_left front count i bytes lt h
  ends fault.Memory front count i bytes total lt h so_far = tt
  ends _ front count i bytes total lt h so_far = absurd h

  pub is_done : (front : List A) (count i : ℕ) (bytes : List ℕ) (total : Read (List A)) → count ≤ i → with_front front (items_at read (count - i) bytes) ≡ total → total ≡ Some (front, bytes)
  unfolding items_at
  is_done front count i bytes total le so_far =
      let k : count - i ≡ 0 = omega arith in
      let one : with_front front (items_at read (count - i) bytes) ≡ Some (front, bytes) = rw k (ap (λ (xs : List A). got xs bytes) (append-nil front)) in
      sym so_far ∙ one
