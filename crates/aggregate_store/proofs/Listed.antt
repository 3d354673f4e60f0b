-- The text of a list, piece by piece.
use Rattle.std.proofs.Common.{◌≡◌, ℕ, ◌≤◌, List, [], ◌∷◌, ◌++◌, map, take, drop, length, codes, refl, sym, ap, ◌∙◌, append_assoc, arith, length-take}
use Rattle.std.proofs.lemmas.List.{append-nil, take-append-le, take-append-drop}
use Rattle.std.proofs.Math.Seq.{take-append_seam}
use Rattle.std.specs.List.{flat_map}
use Rattle.tsl_value.specs.Print.{listed, scalar_text}
use Rattle.tsl_value.specs.declared.scalar.Scalar.{Scalar}

abbrev pub entry_text : Scalar × Scalar → List ℕ
entry_text e = scalar_text e.0 ++ (codes " -> " ++ scalar_text e.1)

module _ {X : Type 0} (f : X → List ℕ) where
  -- what stands after the first item
  abbrev pub more_text : List X → List ℕ
  more_text xs = flat_map (λ x. codes ", " ++ f x) xs

  pub listed-cons : (x : X) (xs : List X) → listed (map f (x ∷ xs)) ≡ f x ++ more_text xs
  listed-cons x [] = sym (append-nil (f x))
  listed-cons x (y ∷ ys) =
      ap (λ t. f x ++ (codes ", " ++ t)) (listed-cons y ys)
      ∙ ap (λ t. f x ++ t) (sym (append_assoc (codes ", ") (f y) (more_text ys)))

-- what a text begins with stays
pub begins_still : (start text more : List ℕ) → take (length start) text ≡ start → take (length start) (text ++ more) ≡ start
begins_still start text more begins =
    let counted : length (take (length start) text) ≡ length start = ap length begins in
    let long : length start ≤ length text = omega (arith, length-take (length start) text) in
    take-append-le (length start) text more long ∙ begins

pub begins_through : (start middle text : List ℕ) → take (length start) middle ≡ start → take (length middle) text ≡ middle → take (length start) text ≡ start
begins_through start middle text first rest =
    ap (take (length start)) (sym (take-append-drop (length middle) text) ∙ ap (λ t. t ++ drop (length middle) text) rest)
    ∙ begins_still start middle (drop (length middle) text) first

pub begins_with : (start more text : List ℕ) → text ≡ start ++ more → take (length start) text ≡ start
begins_with start more text is = ap (take (length start)) is ∙ take-append_seam start more

pub none_left : {X : Type 0} (xs : List X) → length xs ≡ 0 → xs ≡ []
none_left [] none = refl
none_left (x ∷ xs) none = absurd (omega arith)

module _ {X : Type 0} (f : X → List ℕ) where
  pub first_printed : (out text : List ℕ) (x : X) (left all : List X) → text ≡ out ++ f x → all ≡ x ∷ left → text ++ more_text f left ≡ out ++ listed (map f all)
  first_printed out text x left all is all_is =
      ap (λ t. t ++ more_text f left) is ∙ append_assoc out (f x) (more_text f left)
      ∙ ap (λ t. out ++ t) (sym (ap (λ xs. listed (map f xs)) all_is ∙ listed-cons f x left))

  pub all_printed : (text whole : List ℕ) (left : List X) → text ++ more_text f left ≡ whole → left ≡ [] → text ≡ whole
  all_printed text whole left is none = sym (append-nil text) ∙ sym (ap (λ xs. text ++ more_text f xs) none) ∙ is

  pub none_printed : (text : List ℕ) (all : List X) → all ≡ [] → text ≡ text ++ listed (map f all)
  none_printed text all none = sym (append-nil text) ∙ sym (ap (λ xs. text ++ listed (map f xs)) none)
