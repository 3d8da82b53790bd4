-- Tasks in a stack, and lists behind one another.
use Rattle.std.proofs.Common.{◌≡◌, List, [], ◌∷◌, ◌++◌, append_assoc, sym, ◌∙◌, ap, subst}
use Rattle.std.proofs.lemmas.List.{append-nil}
use Rattle.tape_ops.specs.declared.op.Op.{Op}
use Rattle.c_tape.specs.declared.todo.Task.{Task}
use Rattle.c_tape.specs.Pending.{pending, task_tape}

pub list_assoc : {A : Type 0} (xs ys zs : List A) → (xs ++ ys) ++ zs ≡ xs ++ (ys ++ zs)
list_assoc xs ys zs = append_assoc xs ys zs

pub append_nil : {A : Type 0} (xs : List A) → xs ++ [] ≡ xs
append_nil xs = append-nil xs

pub pending_push : (ts : List Task) (t : Task) → pending (ts ++ t ∷ []) ≡ task_tape t ++ pending ts
unfolding pending
pending_push [] t = sym (append-nil (task_tape t))
pending_push (u ∷ ts) t =
    ap (λ (tape : List Op). tape ++ task_tape u) (pending_push ts t)
    ∙ append_assoc (task_tape t) (pending ts) (task_tape u)

-- what holds of a tree holds of an equal one
pub as_tree : {T : Type 0} (P : T → Type 0) (here there : T) → here ≡ there → P there → P here
as_tree P here there same holds = subst P (sym same) holds
