-- From which states to which a tape leads, with the weight of the faults that it finds on the way.
--
-- Faults are compared by their weights, whatever weight each may have, since a tape meets them in another order than a
-- definition on trees.
use Rattle.std.proofs.Common.{◌≡◌, ℕ, ◌+◌, List, [], ◌∷◌, ◌++◌, ◌∙◌, ap, append_assoc, arith, refl}
use Rattle.tape_ops.specs.declared.op.Op.{Op}
use Rattle.name_rules.specs.Spellings.{Spelling}
use Rattle.name_rules.specs.Faults.{Fault}
use Rattle.name_rules.specs.Scopes.{Names}
use Rattle.name_rules.specs.ShapeSteps.State.{State}
use Rattle.name_rules.specs.ShapeSteps.Steps.{step}
use Rattle.name_rules.specs.ShapeSteps.OpFaults.{op_faults}

-- what a tape is gone through with, and how much each fault weighs
pub record Over : Type 0 where
  pub spelling : Spelling
  pub names : Names
  pub weight : Fault → ℕ

abbrev pub total : (Fault → ℕ) → List Fault → ℕ
total w [] = 0
total w (fault ∷ faults) = w fault + total w faults

pub total_append : (w : Fault → ℕ) (xs ys : List Fault) → total w (xs ++ ys) ≡ total w xs + total w ys
total_append w [] ys = omega arith
total_append w (x ∷ xs) ys = let e : total w (xs ++ ys) ≡ total w xs + total w ys = total_append w xs ys in omega arith

-- faults in another order

pub total_end : (w : Fault → ℕ) (xs : List Fault) → total w (xs ++ []) ≡ total w xs
total_end w xs = omega (arith, total_append w xs [])

pub total_group : (w : Fault → ℕ) (xs ys zs : List Fault) → total w ((xs ++ ys) ++ zs) ≡ total w (xs ++ (ys ++ zs))
total_group w xs ys zs = ap (total w) (append_assoc xs ys zs)

pub total_last_first : (w : Fault → ℕ) (xs ys zs : List Fault) → total w ((xs ++ ys) ++ zs) ≡ total w (ys ++ (zs ++ xs))
total_last_first w xs ys zs = omega (arith, total_append w)

pub total_group_three : (w : Fault → ℕ) (xs ys zs us : List Fault) → total w (((xs ++ ys) ++ zs) ++ us) ≡
    total w (xs ++ (ys ++ (zs ++ us)))
total_group_three w xs ys zs us = omega (arith, total_append w)

pub total_operation : (w : Fault → ℕ) (xs ys zs us : List Fault) → total w (((xs ++ ys) ++ zs) ++ us) ≡
    total w (us ++ (xs ++ (ys ++ zs)))
total_operation w xs ys zs us = omega (arith, total_append w)

-- a state, and the weight of the faults so far
pub record Sum : Type 0 where
  pub state : State
  pub weight : ℕ

abbrev pub at : State → ℕ → Sum
at st n = record { state = st; weight = n }

abbrev pub behind_op : Over → Op → Sum → Sum
behind_op k op it = at (step k.spelling k.names it.state op)
    (it.weight + total k.weight (op_faults k.spelling k.names it.state op))

abbrev pub behind : Over → List Op → Sum → Sum
behind k [] it = it
behind k (op ∷ tape) it = behind k tape (behind_op k op it)

pub behind_append : (k : Over) (xs ys : List Op) (it : Sum) → behind k (xs ++ ys) it ≡ behind k ys (behind k xs it)
behind_append k [] ys it = refl
behind_append k (op ∷ xs) ys it = behind_append k xs ys (behind_op k op it)

abbrev pub as_is : State → State
as_is st = st

-- from each state f st to g st, with these faults
pub record Goes (k : Over) (tape : List Op) (f g : State → State) (faults : List Fault) : Type 0 where
  pub goes : (st : State) (n : ℕ) → behind k tape (at (f st) n) ≡ at (g st) (n + total k.weight faults)

pub nowhere : {k : Over} {f : State → State} → Goes k [] f f []
nowhere {k} {f} = record { goes = λ st n. ap (at (f st)) (omega arith) }

-- one op
pub one : {k : Over} {op : Op} {f : State → State} (faults : List Fault) →
    ((st : State) → op_faults k.spelling k.names (f st) op ≡ faults) →
    Goes k (op ∷ []) f (λ st. step k.spelling k.names (f st) op) faults
one {k} {op} {f} faults same =
    record {
      goes = λ st n. ap (λ (fs : List Fault). at (step k.spelling k.names (f st) op) (n + total k.weight fs))
          (same st);
    }

-- one tape behind another
pub join : {k : Over} {xs ys : List Op} {f g h : State → State} {fs gs : List Fault} → Goes k xs f g fs →
    Goes k ys g h gs → Goes k (xs ++ ys) f h (fs ++ gs)
join {k} {xs} {ys} {f} {g} {h} {fs} {gs} p q = record {
  goes = λ st n. behind_append k xs ys (at (f st) n) ∙
      (ap (behind k ys) (p.goes st n) ∙ (q.goes st (n + total k.weight fs)
      ∙ ap (at (h st)) (let e : total k.weight (fs ++ gs) ≡ total k.weight fs + total k.weight gs =
      total_append k.weight fs gs in omega arith)));
}

-- what a tape does from some states, it does from those of them that are reached by f
pub from : {k : Over} {tape : List Op} {g h : State → State} {fs : List Fault} (f : State → State) →
    Goes k tape g h fs → Goes k tape (λ st. g (f st)) (λ st. h (f st)) fs
from f p = record { goes = λ st n. p.goes (f st) n }

pub next : {k : Over} {xs ys : List Op} {f g h : State → State} {fs gs : List Fault} → Goes k xs f g fs →
    Goes k ys as_is h gs → Goes k (xs ++ ys) f (λ st. h (g st)) (fs ++ gs)
next {g = g} p q = join p (from g q)

-- faults in another order
pub same : {k : Over} {tape : List Op} {f g : State → State} {fs gs : List Fault} → Goes k tape f g fs →
    total k.weight fs ≡ total k.weight gs → Goes k tape f g gs
same {g = g} p e = record { goes = λ st n. p.goes st n ∙ ap (λ (m : ℕ). at (g st) (n + m)) e }

-- states said in another way
pub reaching : {k : Over} {tape : List Op} {f g : State → State} {fs : List Fault} (h : State → State) →
    Goes k tape f g fs → ((st : State) → g st ≡ h st) → Goes k tape f h fs
reaching {k} {fs = fs} h p e =
    record { goes = λ st n. p.goes st n ∙ ap (λ (it : State). at it (n + total k.weight fs)) (e st) }

-- without faults behind
pub without : {k : Over} {xs ys : List Op} {f g h : State → State} {fs : List Fault} → Goes k xs f g fs →
    Goes k ys g h [] → Goes k (xs ++ ys) f h fs
without {k} {fs = fs} p q = same (join p q) (total_end k.weight fs)

-- with the faults behind before the others
pub swapped : {k : Over} {xs ys : List Op} {f g h : State → State} {fs gs : List Fault} → Goes k xs f g fs →
    Goes k ys g h gs → Goes k (xs ++ ys) f h (gs ++ fs)
swapped {k} {fs = fs} {gs} p q = same (join p q) (omega (arith, total_append k.weight))
