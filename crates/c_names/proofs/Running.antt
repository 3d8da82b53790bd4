-- The fold of steps, an op at a time.
use Rattle.std.proofs.Common.{arith, ◌≡◌, ℕ, zero, suc, ◌+◌, ◌<◌, List, [], ◌∷◌, length, drop, slice_index_or, ◌∙◌, ap}
use Rattle.tape_ops.specs.declared.op.Op.{Op}
use Rattle.name_rules.specs.Spellings.{Spelling}
use Rattle.name_rules.specs.NameSteps.State.{State}
use Rattle.name_rules.specs.NameSteps.Steps.{step, run}

-- behind one op more, the steps along the ops left are those along the tape from that op on
pub runs_on : (u : Spelling) (tape : List Op) (i : ℕ) (op : Op) (s after : State) → op ≡ slice_index_or tape i op
    → i < length tape → after ≡ step u s op
    → run u (drop (i + 1) tape) after ≡ run u (drop i tape) s
runs_on u [] i op s after is lt made = absurd (omega arith)
runs_on u (x ∷ tape) zero op s after is lt made = ap (run u tape) (made ∙ ap (step u s) is)
runs_on u (x ∷ tape) (suc i) op s after is lt made =
    let e : suc i + 1 ≡ suc (i + 1) = omega arith in rw e (runs_on u tape i op s after is (omega arith) made)
