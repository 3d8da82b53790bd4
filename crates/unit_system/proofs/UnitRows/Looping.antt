-- Rows are added op by op.
use Rattle.std.proofs.Common.{◌≡◌, ◌<◌, ◌≤◌, ◌+◌, ℕ, zero, suc, List, [], ◌∷◌, ◌++◌, length, take, drop, get_or, refl, sym, ◌∙◌, ap, subst, arith, append_assoc}
use Rattle.std.proofs.lemmas.List.{take_more, append-nil}
use Rattle.flow_graph.specs.declared.constraint.Constraint.{Constraint}
use Rattle.flow_graph.specs.declared.graph.GraphFault.{GraphFault}
use Rattle.flow_graph.specs.declared.graph.GraphFault.TheVariants.{NoMemory}
use Rattle.flow_graph.specs.System.{System}
use Rattle.flow_rules.specs.Adding.{with}
use Rattle.tape_ops.specs.declared.op.Op.{Op}
use Rattle.row_rules.specs.Worlds.{World}
use Rattle.row_rules.specs.RowSteps.State.{State, nothing}
use Rattle.row_rules.specs.RowSteps.Steps.{step, run}
use Rattle.row_rules.specs.RowSteps.OpRows.{op_row}
use Rattle.row_rules.specs.RowSteps.Found.{rows_found}
use Rattle.row_adding.specs.Adding.{StopsEarly}
use Rattle.unit_system.proofs.UnitRows.RowLists.{with_more, with_none, stops_within}

run_more : (w : World) (st : State) (xs ys : List Op) → run w st (xs ++ ys) ≡ run w (run w st xs) ys
run_more w st [] ys = refl
run_more w st (x ∷ xs) ys = run_more w (step w st x) xs ys

-- rows found along two tapes in a row are those of the first, then those of the second from the state behind it
rows_more : (w : World) (st : State) (xs ys : List Op) →
    rows_found w st (xs ++ ys) ≡ rows_found w st xs ++ rows_found w (run w st xs) ys
rows_more w st [] ys = refl
rows_more w st (x ∷ xs) ys =
    ap (λ (cs : List Constraint). op_row w st x ++ cs) (rows_more w (step w st x) xs ys)
    ∙ sym (append_assoc (op_row w st x) (rows_found w (step w st x) xs) (rows_found w (run w (step w st x) xs) ys))

-- what stands in the graph, and what the stacks stand for, behind so many ops
pub record Reached (w : World) (old now : System) (st : State) (ops : List Op) : Type 0 where
  pub rows : now ≡ with old (rows_found w nothing ops)
  pub state : st ≡ run w nothing ops

pub at_first : (w : World) (old : System) (st : State) → st ≡ nothing → Reached w old old st []
at_first w old st e = record { rows = with_none old; state = e }

-- behind one op more the graph has its row too, and the state is its step
pub at_next : (w : World) (old now new : System) (st after : State) (ops : List Op) (op : Op)
    → Reached w old now st ops →
    new ≡ with now (op_row w st op) → after ≡ step w st op → Reached w old new after (ops ++ (op ∷ []))
at_next w old now new st after ops op so row next = record {
  rows =
      row
      ∙ ap (λ (sys : System). with sys (op_row w st op)) so.rows
      ∙ with_more old (rows_found w nothing ops) (op_row w st op)
      ∙ ap (λ (s : State). with old (rows_found w nothing ops ++ op_row w s op)) so.state
      ∙ ap (λ (cs : List Constraint). with old (rows_found w nothing ops ++ cs))
      (sym (append-nil (op_row w (run w nothing ops) op)))
      ∙ ap (with old) (sym (rows_more w nothing ops (op ∷ [])));
  state =
      next ∙ ap (λ (s : State). step w s op) so.state ∙ sym (run_more w nothing ops (op ∷ []));
}

-- the rows along a tape are those before an op, the row of the op, and those behind it
rows_split : (w : World) (ops rest : List Op) (op : Op) (st : State) → st ≡ run w nothing ops →
    rows_found w nothing (ops ++ (op ∷ rest)) ≡ rows_found w nothing ops
    ++ (op_row w st op ++ rows_found w (step w st op) rest)
rows_split w ops rest op st e =
    rows_more w nothing ops (op ∷ rest)
    ∙ ap (λ (s : State). rows_found w nothing ops ++ (op_row w s op ++ rows_found w (step w s op) rest)) (sym e)

-- the row of an op is refused
pub at_refused : (w : World) (old now new : System) (fault : GraphFault) (st : State)
    (ops rest tape : List Op) (op : Op) →
    Reached w old now st ops → tape ≡ ops ++ (op ∷ rest) → StopsEarly now new fault (op_row w st op) →
    StopsEarly old new fault (rows_found w nothing tape)
at_refused w old now new fault st ops rest tape op so split stop =
    stops_within old now new fault (rows_found w nothing ops) (op_row w st op) (rows_found w (step w st op) rest)
    (rows_found w nothing tape) so.rows (ap (rows_found w nothing) split ∙ rows_split w ops rest op st so.state) stop

-- where a whole list was added and memory is wanting then, it was a part of the list that was added
all_added : (new now : System) (list : List Constraint) → new ≡ with now list → StopsEarly now new NoMemory list
all_added new now list e = record {
  added = length list;
  within = omega arith;
  part = e ∙ ap (with now) (sym (whole list));
  full = λ many. absurd (cc many);
} where
  whole : {A : Type 0} (xs : List A) → take (length xs) xs ≡ xs
  whole [] = refl
  whole {A} (x ∷ xs) = ap (λ (ys : List A). x ∷ ys) (whole xs)

-- the stacks want memory in vain
pub at_want : (w : World) (old now new : System) (fault : GraphFault) (st : State) (ops rest tape : List Op) (op : Op) →
    Reached w old now st ops → tape ≡ ops ++ (op ∷ rest) → new ≡ with now (op_row w st op) → fault ≡ NoMemory →
    StopsEarly old new fault (rows_found w nothing tape)
at_want w old now new fault st ops rest tape op so split row e =
    at_refused w old now new fault st ops rest tape op so split
    (subst (λ (f : GraphFault). StopsEarly now new f (op_row w st op)) (sym e) (all_added new now (op_row w st op) row))

-- a tape is its front before an index, the op there, and the ops behind
pub split_at : (tape : List Op) (i : ℕ) (op : Op) → op ≡ get_or tape i op → i < length tape →
    tape ≡ take i tape ++ (op ∷ drop (suc i) tape)
split_at [] i op is lt = absurd (omega arith)
split_at (x ∷ xs) zero op is lt = ap (λ (y : Op). y ∷ xs) (sym is)
split_at (x ∷ xs) (suc i) op is lt = ap (λ (ys : List Op). x ∷ ys) (split_at xs i op is (omega arith))

pub one_more : (tape : List Op) (i : ℕ) (op : Op) → op ≡ get_or tape i op → i < length tape →
    take i tape ++ (op ∷ []) ≡ take (i + 1) tape
one_more tape i op is lt =
    sym (take_more tape i op lt ∙ ap (λ (x : Op). take i tape ++ (x ∷ [])) (sym is))

-- at its end or past it the front of a tape is the tape
pub all_taken : (tape : List Op) (i : ℕ) → length tape ≤ i → take i tape ≡ tape
all_taken [] zero le = refl
all_taken [] (suc i) le = refl
all_taken (x ∷ xs) zero le = absurd (omega arith)
all_taken (x ∷ xs) (suc i) le = ap (λ (ys : List Op). x ∷ ys) (all_taken xs i (omega arith))
