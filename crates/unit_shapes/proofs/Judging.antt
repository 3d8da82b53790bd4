-- The fold of faults, an op at a time.
use Rattle.std.proofs.Common.{arith, ◌≡◌, ℕ, zero, suc, ◌+◌, ◌<◌, List, [], ◌∷◌, ◌++◌, length, drop, slice_index_or, Option, sym, ◌∙◌, ap}
use Rattle.tape_ops.specs.declared.op.Op.{Op}
use Rattle.name_rules.specs.Spellings.{Spelling}
use Rattle.name_rules.specs.Faults.{Fault}
use Rattle.name_rules.specs.Scopes.{Names}
use Rattle.name_rules.specs.ShapeSteps.State.{State}
use Rattle.name_rules.specs.ShapeSteps.Steps.{step}
use Rattle.name_rules.specs.ShapeSteps.OpFaults.{op_faults}
use Rattle.name_rules.specs.ShapeSteps.Found.{faults_found}
use Rattle.unit_shapes.specs.Faults.{keep}
use Rattle.unit_shapes.proofs.Keeping.{keep_append}

-- behind one op more, with its faults kept, the faults along the ops left give the best that those from the op on gave
pub judges_on : (u : Spelling) (s : Names) (tape : List Op) (i : ℕ) (op : Op) (st after : State)
    (best next : Option Fault)
    → op ≡ slice_index_or tape i op → i < length tape → after ≡ step u s st op → next ≡ keep best (op_faults u s st op)
    → keep next (faults_found u s after (drop (i + 1) tape)) ≡ keep best (faults_found u s st (drop i tape))
judges_on u s [] i op st after best next is lt made noted = absurd (omega arith)
judges_on u s (x ∷ tape) zero op st after best next is lt made noted =
    ap (λ (st : State). keep next (faults_found u s st tape)) made
    ∙ ap (λ (o : Option Fault). keep o (faults_found u s (step u s st op) tape)) noted
    ∙ sym (keep_append best (op_faults u s st op) (faults_found u s (step u s st op) tape))
    ∙ ap (λ (o : Op). keep best (op_faults u s st o ++ faults_found u s (step u s st o) tape)) is
judges_on u s (x ∷ tape) (suc i) op st after best next is lt made noted =
    let e : suc i + 1 ≡ suc (i + 1) = omega arith in
    rw e (judges_on u s tape i op st after best next is (omega arith) made noted)
