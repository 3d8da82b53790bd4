-- Pieces that were written one after the other.
use Rattle.std.proofs.Common.{◌≡◌, ℕ, ◌+◌, List, ◌++◌, take, drop, ap, ◌∙◌, append_assoc}
use Rattle.std.proofs.Math.Seq.{take-add}

-- a front of a text and then a front of what is left of it
pub written_on : (first middle last text : List ℕ) (n m : ℕ) → middle ≡ first ++ take n text
    → last ≡ middle ++ take m (drop n text) →
    last ≡ first ++ take (n + m) text
written_on first middle last text n m one two =
    rw take-add (two ∙ ap (λ (bytes : List ℕ). bytes ++ take m (drop n text)) one
    ∙ append_assoc first (take n text) (take m (drop n text)))
