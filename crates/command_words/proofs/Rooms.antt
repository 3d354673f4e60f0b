-- Whether the pieces in `clap`'s matches have room.
use Rattle.std.proofs.Common.{◌≡◌, ◌∙◌, ap, sym, refl, arith, ℕ, ◌≤◌, ◌<◌, Bool, true, false, zero, suc, List, [], ◌∷◌, length, Option, Some, None, codes, slice_get, option_map, Bor}
use Rattle.std.specs.Prelude.{is_none, is_some, nat_le}
use Rattle.std.proofs.lemmas.Bool.{le-leb, leb-true}
use Rattle.clap.specs.Matches.{first_value}
use Rattle.clap.specs.Walk.{Text}
use Rattle.clap.specs.declared.parser.matches.Found.{Found}
use Rattle.command_words.specs.inner.Reader.{Holds}
use Rattle.command_words.specs.Words.{Piece, plains}

-- a text stands at a place, or the list ends before it
stands_at : (k : ℕ) (texts : List Text) → is_some (slice_get texts k) ≡ true → suc k ≤ length texts
stands_at k [] some = let bad : false ≡ true = some in cc
stands_at zero (t ∷ ts) some = omega arith
stands_at (suc k) (t ∷ ts) some = let more = stands_at k ts some in omega arith

ends_at : (k : ℕ) (texts : List Text) → is_some (slice_get texts k) ≡ false → length texts ≤ k
ends_at k [] none = omega arith
ends_at zero (t ∷ ts) none = let bad : true ≡ false = none in cc
ends_at (suc k) (t ∷ ts) none = let more = ends_at k ts none in omega arith

now_some : (o : Option (Bor Text)) (t : Option Text) → option_map (λ b. b.now) o ≡ t → is_some t ≡ is_some o
now_some None t e = ap is_some (sym e)
now_some (Some b) t e = ap is_some (sym e)

module _ (ps : List Piece) (found : Found) (h : Holds ps found) where
  pub four : (fourth : Option (Bor Text)) → option_map (λ b. b.now) fourth ≡ first_value found (codes "fourth") → is_some fourth ≡ true → 4 ≡ length (plains ps)
  four fourth is some =
      let more = stands_at 3 (plains ps) (now_some fourth _ (is ∙ h.fourth) ∙ some) in
      let few = h.few_words in omega arith

  pub three : (third fourth : Option (Bor Text)) → option_map (λ b. b.now) fourth ≡ first_value found (codes "fourth") → is_some fourth ≡ false
      → option_map (λ b. b.now) third ≡ first_value found (codes "third") → is_some third ≡ true → 3 ≡ length (plains ps)
  three third fourth is none is_too some =
      let few = ends_at 3 (plains ps) (now_some fourth _ (is ∙ h.fourth) ∙ none) in
      let more = stands_at 2 (plains ps) (now_some third _ (is_too ∙ h.third) ∙ some) in omega arith

  pub two : (second third : Option (Bor Text)) → option_map (λ b. b.now) third ≡ first_value found (codes "third") → is_some third ≡ false
      → option_map (λ b. b.now) second ≡ first_value found (codes "second") → is_some second ≡ true → 2 ≡ length (plains ps)
  two second third is none is_too some =
      let few = ends_at 2 (plains ps) (now_some third _ (is ∙ h.third) ∙ none) in
      let more = stands_at 1 (plains ps) (now_some second _ (is_too ∙ h.second) ∙ some) in omega arith

  pub one : (second : Option (Bor Text)) → option_map (λ b. b.now) second ≡ first_value found (codes "second") → is_some second ≡ false → 1 ≡ length (plains ps)
  one second is none =
      let few = ends_at 1 (plains ps) (now_some second _ (is ∙ h.second) ∙ none) in
      let some = h.some_word in omega arith

-- what stands once at most has room for one
pub room_for_one : (count most : ℕ) → count ≤ 1 → 0 < most → true ≡ nat_le count most
room_for_one count most once some = sym (le-leb count most (omega arith))

no_room : (count most : ℕ) → most ≡ 0 → nat_le count most ≡ nat_le count 0
no_room count most none = ap (λ k. nat_le count k) none

too_many : (n : ℕ) (q : Bool) → nat_le (suc n) 0 ≡ q → false ≡ q
too_many n true h = let bad : suc n ≤ 0 = leb-true (suc n) 0 h in let no : ⊥ = omega arith in absurd no
too_many n false h = refl

-- what does not stand has room, and else it has none
pub none_fits : (value : Option (Bor Text)) (texts : List Text) (most : ℕ) → option_map (λ b. b.now) value ≡ slice_get texts 0 → most ≡ 0 → is_none value ≡ nat_le (length texts) most
none_fits value texts most is none = go value texts is ∙ sym (no_room (length texts) most none)
  where
    go : (value : Option (Bor Text)) (texts : List Text) → option_map (λ b. b.now) value ≡ slice_get texts 0 → is_none value ≡ nat_le (length texts) 0
    go None [] e = refl
    go (Some b) [] e = let bad : Some b.now ≡ None = e in cc
    go None (t ∷ ts) e = let bad : None ≡ Some t = e in cc
    go (Some b) (t ∷ ts) e = too_many (length ts) (nat_le (length (t ∷ ts)) 0) refl
