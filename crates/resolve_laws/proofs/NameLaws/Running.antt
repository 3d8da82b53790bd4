-- Runs of steps over parts of a tape, one after the other.
use Rattle.std.proofs.Common.{◌≡◌, Bool, List, [], ◌∷◌, ◌++◌, Option, refl, sym, ◌∙◌, ap, subst, append_assoc}
use Rattle.std.proofs.lemmas.List.{append-nil}
use Rattle.c_words.specs.declared.kinds.Keyword.{Keyword}
use Rattle.tape_ops.specs.declared.op.Op.{Op}
use Rattle.type_table.specs.Types.{Words, CType}
use Rattle.name_rules.specs.Spellings.{Spelling, Named}
use Rattle.name_rules.specs.Scopes.{Names}
use Rattle.name_rules.specs.NameSteps.State.{State, no_specifiers}
use Rattle.name_rules.specs.NameSteps.Steps.{run, step, names_step, passed_on}

-- between parts: these names, and no specifiers that are being read
abbrev pub between : State → Names → State
between st s = record st { names = s; specifiers = no_specifiers }

-- among specifiers: their type, annotation words and storage words so far, and whether a struct without a tag is one
abbrev pub among_words : State → CType → Words → List Keyword → Bool → Names → State
among_words st t ws storage untagged s =
    record st {
      names = s;
      specifiers = record { type = t; words = ws; storage = storage; is_untagged = untagged };
    }

-- in a declaration with these specifiers: the name and the type of its declarator so far, and the lists of parameters
-- that ended in it
abbrev pub declaring : State → CType → List Keyword → Bool → Option Named → CType → List (List CType) → Names → State
declaring st t storage untagged name declared finished s =
    record st {
      names = s;
      specifiers = no_specifiers;
      finished = finished;
      declarations = record {
        type = t;
        storage = storage;
        is_untagged = untagged;
        name = name;
        declared = declared;
      } ∷ st.declarations;
    }

pub run_parts : (u : Spelling) (ops others : List Op) (st : State)
    → run u (ops ++ others) st ≡ run u others (run u ops st)
run_parts u [] others st = refl
run_parts u (op ∷ ops) others st = run_parts u ops others (step u st op)

-- a state behind these ops
abbrev pub heard : List Op → State → State
heard passed st = record st { passed = passed }

-- the steps of a tape lead from one state to another, behind any ops
pub record Goes (u : Spelling) (tape : List Op) (before after : State) : Type 0 where
  pub is : (passed : List Op) → run u tape (heard passed before) ≡ heard (passed ++ tape) after

pub stays : (u : Spelling) (st : State) → Goes u [] st st
stays u st = record { is = λ passed. ap (λ (ops : List Op). heard ops st) (sym (append-nil passed)) }

-- one op that does not look at those before it
pub one : (u : Spelling) (op : Op) (st : State) →
    ((passed : List Op) → names_step u (heard passed st) op ≡ heard passed (names_step u st op)) →
    Goes u (op ∷ []) st (names_step u st op)
one u op st same = record { is = λ passed. ap (passed_on op) (same passed) }

-- a state said in another way
pub arriving : {u : Spelling} {ops : List Op} {st after other : State} → Goes u ops st after → after ≡ other →
    Goes u ops st other
arriving {ops = ops} p e = record { is = λ passed. p.is passed ∙ ap (heard (passed ++ ops)) e }

infixl 20 ◌▸◌
-- steps that lead over one part of a tape and on over the next lead over both
pub ◌▸◌ : {u : Spelling} {ops others : List Op} {st between after : State} → Goes u ops st between
    → Goes u others between after → Goes u (ops ++ others) st after
◌▸◌ {u = u} {ops = ops} {others = others} {st = st} {after = after} p q =
    record {
      is = λ passed. run_parts u ops others (heard passed st) ∙ ap (run u others) (p.is passed) ∙ q.is (passed ++ ops)
          ∙ ap (λ (all : List Op). heard all after) (append_assoc passed ops others);
    }

-- of three parts, the last two of which go together
pub in_turn : {u : Spelling} {ops : List Op} {st middle after : State} (others last : List Op) → Goes u ops st middle
    → Goes u (others ++ last) middle after → Goes u (ops ++ others ++ last) st after
in_turn {u = u} {ops = ops} {st = st} {after = after} others last p q =
    subst (λ (tape : List Op). Goes u tape st after) (sym (append_assoc ops others last)) (p ▸ q)
