-- Parts in a stack, and lists behind one another.
use Rattle.std.proofs.Common.{◌≡◌, ℕ, List, [], ◌∷◌, ◌++◌, append_assoc, sym, ◌∙◌, ap}
use Rattle.std.proofs.lemmas.List.{append-nil}
use Rattle.cq_prelude.specs.declared.left.Part.{Part}
use Rattle.cq_prelude.specs.Pending.{in_part, pending}

pub list_assoc : {A : Type 0} (xs ys zs : List A) → (xs ++ ys) ++ zs ≡ xs ++ (ys ++ zs)
list_assoc xs ys zs = append_assoc xs ys zs

pub append_nil : {A : Type 0} (xs : List A) → xs ++ [] ≡ xs
append_nil xs = append-nil xs

pub pending_push : (parts : List Part) (part : Part) → pending (parts ++ part ∷ []) ≡ in_part part ++ pending parts
unfolding pending
pending_push [] part = sym (append-nil (in_part part))
pending_push (other ∷ parts) part = ap (λ (tokens : List ℕ). tokens ++ in_part other) (pending_push parts part)
    ∙ append_assoc (in_part part) (pending parts) (in_part other)
