-- From which states to which a tape leads, with the constraints that it gives on the way.
use Rattle.std.proofs.Common.{◌≡◌, ℕ, Bool, true, false, List, [], ◌∷◌, ◌++◌, ◌∙◌, ap, append_assoc, refl, sym}
use Rattle.std.specs.Prelude.{if◌then◌else◌}
use Rattle.std.proofs.lemmas.List.{append-nil}
use Rattle.flow_graph.specs.declared.constraint.Constraint.{Constraint}
use Rattle.tape_ops.specs.declared.op.Op.{Op}
use Rattle.qual_types.specs.Skel.{Skel, no_skeleton}
use Rattle.name_rules.specs.ShapeSteps.State.{OpenDeclaration}
use Rattle.row_rules.specs.Worlds.{World}
use Rattle.row_rules.specs.RowSteps.Rounds.{Rounds, is_quiet, silenced}
use Rattle.row_rules.specs.RowSteps.State.{Operand, Braces, State}
use Rattle.row_rules.specs.RowSteps.Steps.{step, run}
use Rattle.row_rules.specs.RowSteps.OpRows.{op_row}
use Rattle.row_rules.specs.RowSteps.Found.{rows_found}

-- what a tape is gone through with, and whether it is asked which constraints it gives
pub record Over : Type 0 where
  pub world : World
  pub asked : Bool

-- what is quiet gives none
abbrev pub unless : Bool → List Constraint → List Constraint
unless quiet rows = if quiet then [] else rows

pub unless_none : (quiet : Bool) → unless quiet [] ≡ []
unless_none true = refl
unless_none false = refl

unless_both : (quiet : Bool) (xs ys : List Constraint) → unless quiet xs ++ unless quiet ys ≡ unless quiet (xs ++ ys)
unless_both true xs ys = refl
unless_both false xs ys = refl

pub run_append : (w : World) (xs ys : List Op) (st : State) → run w st (xs ++ ys) ≡ run w (run w st xs) ys
run_append w [] ys st = refl
run_append w (op ∷ xs) ys st = run_append w xs ys (step w st op)

-- rows found along two tapes in a row are those of the first, then those of the second from the state behind it
pub rows_append : (w : World) (xs ys : List Op) (st : State) →
    rows_found w st (xs ++ ys) ≡ rows_found w st xs ++ rows_found w (run w st xs) ys
rows_append w [] ys st = refl
rows_append w (op ∷ xs) ys st =
    ap (λ (rows : List Constraint). op_row w st op ++ rows) (rows_append w xs ys (step w st op))
    ∙ sym (append_assoc (op_row w st op) (rows_found w (step w st op) xs)
    (rows_found w (run w (step w st op) xs) ys))

-- the stacks of a state
pub record Stacks : Type 0 where
  pub operands : List Operand
  pub bases : List ℕ
  pub braces : List Braces
  pub declarations : List OpenDeclaration

-- the stacks of a state, without its rounds, its registers and what is left of items
abbrev pub stacks_of : State → Stacks
stacks_of st =
    record {
      operands = st.operands;
      bases = st.bases;
      braces = st.braces;
      declarations = st.declarations;
    }

-- what is of no use behind what it is for: the skeleton of the compound literal that was gone through last, and the
-- pointer by which the last place was come to that is only addressed
pub record Registers : Type 0 where
  pub literal : Skel
  pub carried : Skel

abbrev pub no_registers : Registers
no_registers = record { literal = no_skeleton; carried = no_skeleton }

abbrev pub registers_of : State → Registers
registers_of st = record { literal = st.literal; carried = st.carried }

-- a state in which neither an argument nor an item is being taken
abbrev pub state : Rounds → Stacks → Registers → State
state r c s =
    record {
      operands = c.operands;
      bases = c.bases;
      braces = c.braces;
      leaves = [];
      literal = s.literal;
      carried = s.carried;
      declarations = c.declarations;
      rounds = r;
      passed = 0;
    }

abbrev pub as_is : Stacks → Stacks
as_is c = c

-- From each state of a family to one of another, giving these constraints where it is not quiet. The registers may
-- change.
pub record Runs (k : Over) (quiet : Bool) (A : Type 0) (tape : List Op) (f g : A → Registers → State)
    (rows : List Constraint) : Type 0 where
  pub behind : A → Registers → Registers
  pub goes : (a : A) (s : Registers) → run k.world (f a s) tape ≡ g a (behind a s)
  pub found : k.asked ≡ true → (a : A) (s : Registers) → rows_found k.world (f a s) tape ≡ unless quiet rows

pub stay : {k : Over} {quiet : Bool} {A : Type 0} {f : A → Registers → State} → Runs k quiet A [] f f []
stay {quiet = quiet} =
    record { behind = λ a s. s; goes = λ a s. refl; found = λ y a s. sym (unless_none quiet) }

-- one op
pub op_runs : {k : Over} {quiet : Bool} {A : Type 0} {op : Op} {f : A → Registers → State} (rows : List Constraint) →
    (k.asked ≡ true → (a : A) (s : Registers) → op_row k.world (f a s) op ≡ unless quiet rows)
    → Runs k quiet A (op ∷ []) f (λ a s. step k.world (f a s) op) rows
op_runs {k} {op = op} {f} rows e =
    record {
      behind = λ a s. s;
      goes = λ a s. refl;
      found = λ y a s. append-nil (op_row k.world (f a s) op) ∙ e y a s;
    }

-- one tape behind another
pub chain : {k : Over} {quiet : Bool} {A : Type 0} {xs ys : List Op} {f g h : A → Registers → State}
    {fs gs : List Constraint} → Runs k quiet A xs f g fs → Runs k quiet A ys g h gs →
    Runs k quiet A (xs ++ ys) f h (fs ++ gs)
chain {k} {quiet} {A} {xs} {ys} {f} {g} {h} {fs} {gs} p q = record {
  behind = λ a s. q.behind a (p.behind a s);
  goes = λ a s. run_append k.world xs ys (f a s) ∙
      (ap (λ (st : State). run k.world st ys) (p.goes a s) ∙ q.goes a (p.behind a s));
  found = λ y a s. rows_append k.world xs ys (f a s) ∙
      (ap (λ (rows : List Constraint). rows ++ rows_found k.world (run k.world (f a s) xs) ys) (p.found y a s)
      ∙ (ap (λ (st : State). unless quiet fs ++ rows_found k.world st ys) (p.goes a s)
      ∙ (ap (λ (rows : List Constraint). unless quiet fs ++ rows) (q.found y a (p.behind a s))
      ∙ unless_both quiet fs gs)));
}

-- what a tape does from some states, it does from those of them that are reached by these changes
pub started_from : {k : Over} {quiet : Bool} {A B : Type 0} {tape : List Op} {g h : A → Registers → State}
    {rows : List Constraint} (m : B → A) (n : B → Registers → Registers) → Runs k quiet A tape g h rows
    → Runs k quiet B tape (λ b s. g (m b) (n b s)) (λ b s. h (m b) s) rows
started_from m n p =
    record {
      behind = λ b s. p.behind (m b) (n b s);
      goes = λ b s. p.goes (m b) (n b s);
      found = λ y b s. p.found y (m b) (n b s);
    }

-- constraints said in another way
pub giving : {k : Over} {quiet : Bool} {A : Type 0} {tape : List Op} {f g : A → Registers → State}
    {fs gs : List Constraint} → Runs k quiet A tape f g fs → (k.asked ≡ true → fs ≡ gs) → Runs k quiet A tape f g gs
giving {quiet = quiet} p e =
    record {
      behind = p.behind;
      goes = p.goes;
      found = λ y a s. p.found y a s ∙ ap (unless quiet) (e y);
    }

-- states said in another way
pub ending : {k : Over} {quiet : Bool} {A : Type 0} {tape : List Op} {f g : A → Registers → State}
    {rows : List Constraint} (h : A → Registers → State) → Runs k quiet A tape f g rows →
    ((a : A) (s : Registers) → g a s ≡ h a s) → Runs k quiet A tape f h rows
ending h p e =
    record { behind = p.behind; goes = λ a s. p.goes a s ∙ e a (p.behind a s); found = p.found }

-- and with other registers
pub ending_at : {k : Over} {quiet : Bool} {A : Type 0} {tape : List Op} {f g : A → Registers → State}
    {rows : List Constraint} (h : A → Registers → State) (n : A → Registers → Registers)
    → Runs k quiet A tape f g rows →
    ((a : A) (s : Registers) → g a s ≡ h a (n a s)) → Runs k quiet A tape f h rows
ending_at h n p e =
    record {
      behind = λ a s. n a (p.behind a s);
      goes = λ a s. p.goes a s ∙ e a (p.behind a s);
      found = p.found;
    }

-- from each stacks f c to g c, with what is around as it was
pub record Goes (k : Over) (r : Rounds) (tape : List Op) (f g : Stacks → Stacks) (rows : List Constraint) : Type 0 where
  pub runs : Runs k (is_quiet r) Stacks tape (λ c s. state r (f c) s) (λ c s. state r (g c) s) rows

pub nowhere : {k : Over} {r : Rounds} {f : Stacks → Stacks} → Goes k r [] f f []
nowhere = record { runs = stay }

-- one op
pub one : {k : Over} {r : Rounds} {op : Op} {f : Stacks → Stacks} (rows : List Constraint) →
    (k.asked ≡ true → (c : Stacks) (s : Registers) → op_row k.world (state r (f c) s) op ≡ unless (is_quiet r) rows)
    → ((c : Stacks) (s : Registers) → step k.world (state r (f c) s) op ≡
    state r (stacks_of (step k.world (state r (f c) no_registers) op)) s)
    → Goes k r (op ∷ []) f (λ c. stacks_of (step k.world (state r (f c) no_registers) op)) rows
one {k} {r} {op} {f} rows e d = record { runs = ending _ (op_runs rows e) d }

-- one op that changes registers
pub one_at : {k : Over} {r : Rounds} {op : Op} {f : Stacks → Stacks} (g : Stacks → Stacks)
    (n : Stacks → Registers → Registers)
    (rows : List Constraint) →
    (k.asked ≡ true → (c : Stacks) (s : Registers) → op_row k.world (state r (f c) s) op ≡ unless (is_quiet r) rows)
    → ((c : Stacks) (s : Registers) → step k.world (state r (f c) s) op ≡ state r (g c) (n c s))
    → Goes k r (op ∷ []) f g rows
one_at {r = r} g n rows e d = record { runs = ending_at (λ c s. state r (g c) s) n (op_runs rows e) d }

-- One op behind a tape that leaves this pointer as the one by which its place was come to: what the op gives may use
-- it.
pub carried_on : {k : Over} {r : Rounds} {xs : List Op} {f g h : Stacks → Stacks} {fs : List Constraint} (op : Op)
    (by : Skel) (rows : List Constraint)
    → Goes k r xs f g fs →
    ((c : Stacks) (s : Registers) → (run k.world (state r (f c) s) xs).carried ≡ by) →
    (k.asked ≡ true → (c : Stacks) (s : Registers) → s.carried ≡ by →
    op_row k.world (state r (g c) s) op ≡ unless (is_quiet r) rows) →
    ((c : Stacks) (s : Registers) → step k.world (state r (g c) s) op ≡ state r (h c) s) →
    Goes k r (xs ++ op ∷ []) f h (fs ++ rows)
carried_on {k} {r} {xs} {f} {g} {h} {fs} op by rows p left e d = record {
  runs = record {
    behind = p.runs.behind;
    goes = λ c s. run_append k.world xs (op ∷ []) (state r (f c) s) ∙
        (ap (λ (st : State). run k.world st (op ∷ [])) (p.runs.goes c s) ∙ d c (p.runs.behind c s));
    found = λ y c s. rows_append k.world xs (op ∷ []) (state r (f c) s) ∙
        (ap (λ (all : List Constraint). all ++ rows_found k.world (run k.world (state r (f c) s) xs) (op ∷ []))
        (p.runs.found y c s)
        ∙ (ap (λ (st : State). unless (is_quiet r) fs ++ rows_found k.world st (op ∷ [])) (p.runs.goes c s)
        ∙ (ap (λ (all : List Constraint). unless (is_quiet r) fs ++ all)
        (append-nil (op_row k.world (state r (g c) (p.runs.behind c s)) op)
        ∙ e y c (p.runs.behind c s) (ap (λ (st : State). st.carried) (sym (p.runs.goes c s)) ∙ left c s))
        ∙ unless_both (is_quiet r) fs rows)));
  };
}

-- one tape behind another
pub join : {k : Over} {r : Rounds} {xs ys : List Op} {f g h : Stacks → Stacks} {fs gs : List Constraint} →
    Goes k r xs f g fs → Goes k r ys g h gs → Goes k r (xs ++ ys) f h (fs ++ gs)
join p q = record { runs = chain p.runs q.runs }

-- what a tape does from some stacks, it does from those of them that are reached by f
pub from : {k : Over} {r : Rounds} {tape : List Op} {g h : Stacks → Stacks} {rows : List Constraint}
    (f : Stacks → Stacks) → Goes k r tape g h rows → Goes k r tape (λ c. g (f c)) (λ c. h (f c)) rows
from f p = record { runs = started_from f (λ c s. s) p.runs }

pub next : {k : Over} {r : Rounds} {xs ys : List Op} {f g h : Stacks → Stacks} {fs gs : List Constraint} →
    Goes k r xs f g fs → Goes k r ys as_is h gs → Goes k r (xs ++ ys) f (λ c. h (g c)) (fs ++ gs)
next {g = g} p q = join p (from g q)

-- constraints said in another way
pub same : {k : Over} {r : Rounds} {tape : List Op} {f g : Stacks → Stacks} {fs gs : List Constraint} →
    Goes k r tape f g fs → fs ≡ gs → Goes k r tape f g gs
same p e = record { runs = giving p.runs (λ y. e) }

-- stacks said in another way
pub reaching : {k : Over} {r : Rounds} {tape : List Op} {f g : Stacks → Stacks} {rows : List Constraint}
    (h : Stacks → Stacks) → Goes k r tape f g rows → ((c : Stacks) → g c ≡ h c) → Goes k r tape f h rows
reaching {r = r} h p e = record { runs = ending _ p.runs (λ c s. ap (λ (it : Stacks). state r it s) (e c)) }

-- without constraints behind
pub without : {k : Over} {r : Rounds} {xs ys : List Op} {f g h : Stacks → Stacks} {fs : List Constraint} →
    Goes k r xs f g fs → Goes k r ys g h [] → Goes k r (xs ++ ys) f h fs
without {fs = fs} p q = same (join p q) (append-nil fs)

-- what is gone through in quiet gives none
pub silent_runs : {k : Over} {r : Rounds} {tape : List Op} {f g : Stacks → Stacks} {rows : List Constraint} →
    Goes k (silenced r) tape f g rows →
    Runs k (is_quiet r) Stacks tape (λ c s. state (silenced r) (f c) s) (λ c s. state (silenced r) (g c) s) []
silent_runs {r = r} p =
    record {
      behind = p.runs.behind;
      goes = p.runs.goes;
      found = λ y c s. p.runs.found y c s ∙ sym (unless_none (is_quiet r));
    }

-- constraints in another grouping

pub group_two : (xs ys zs : List Constraint) → (xs ++ ys) ++ zs ≡ xs ++ (ys ++ zs)
group_two xs ys zs = append_assoc xs ys zs

pub group_three : (xs ys zs us : List Constraint) → ((xs ++ ys) ++ zs) ++ us ≡ xs ++ (ys ++ (zs ++ us))
group_three xs ys zs us = append_assoc (xs ++ ys) zs us ∙ append_assoc xs ys (zs ++ us)
