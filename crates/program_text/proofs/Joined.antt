-- Texts that are printed one after the other.
use Rattle.std.proofs.Common.{◌≡◌, ℕ, List, ◌++◌, length, take, drop, sym, ap, ◌∙◌, append_assoc}
use Rattle.std.proofs.lemmas.List.{take-append-drop}
use Rattle.std.proofs.Math.Seq.{take-append_seam}

-- what begins with more begins with less
pub kept : (a b c more : List ℕ) → b ≡ a ++ more → take (length b) c ≡ b → take (length a) c ≡ a
kept a b c more h k =
    let whole : c ≡ a ++ (more ++ drop (length b) c) = sym (take-append-drop (length b) c) ∙ ap (λ x. x ++ drop (length b) c) (k ∙ h) ∙ append_assoc a more (drop (length b) c) in
    ap (take (length a)) whole ∙ take-append_seam a (more ++ drop (length b) c)
