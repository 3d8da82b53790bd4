-- Units: what the steps over tapes find are the constraints that the definitions on trees say.
use Rattle.std.proofs.Common.{◌≡◌, ℕ, Bool, true, false, List, [], ◌∷◌, ◌++◌, Option, None, Some, refl, sym, ◌∙◌, ap}
use Rattle.std.specs.Prelude.{All}
use Rattle.std.proofs.lemmas.List.{append-nil}
use Rattle.std.proofs.lemmas.List.Elements.{All-head, All-tail}
use Rattle.flow_graph.specs.declared.constraint.Constraint.{Constraint}
use Rattle.tape_ops.specs.declared.op.Op.{Op}
use Rattle.c_tree.specs.Tree.{SpecWords, Declr, BlockItems}
use Rattle.c_tree.specs.declared.lexeme.Lexeme.{Lexeme}
use Rattle.c_tree.specs.WellFormed.{AreSpecWords, AreBlockItems}
use Rattle.c_tree.specs.Unit.{Item, function_item, old_function_item, decl_item, asm_item, semi_item, IsItem}
use Rattle.c_tape.specs.Tape.{declr, stmt, expr_tape, words_tape, specs_with, pieces, block_items_tape, item_tape, tape_of}
use Rattle.tape_ops.specs.declared.declarator.DeclrOp.TheVariants as declrs
use Rattle.tape_ops.specs.declared.statement.StmtOp.TheVariants as stmts
use Rattle.name_rules.specs.Spellings.{Named}
use Rattle.type_rules.specs.Tokens.{declared_name}
use Rattle.qual_types.specs.Skel.{Skel}
use Rattle.row_rules.specs.Worlds.{World}
use Rattle.row_rules.specs.Rows.{row_of_name, own_skeleton}
use Rattle.type_rules.specs.Program.{Source}
use Rattle.constraint_rules.specs.Systems.{Program, world_of, demands_among}
use Rattle.constraint_rules.specs.Demands.{demand, words_demand, declr_demand, old_declr_demand, block_items_demand, item_demand, items_demand}
use Rattle.row_rules.specs.RowSteps.Rounds.{Rounds, file}
use Rattle.row_rules.specs.RowSteps.State.{Operand, State, nothing, operand_put}
use Rattle.row_rules.specs.RowSteps.Steps.{run}
use Rattle.row_rules.specs.RowSteps.OpRows.{function_skeleton}
use Rattle.row_laws.specs.Laws.{with_registers, IsSound, ValuesAreLeft, RowsAreFound, UnitsLeaveNothing, rows_among, ConstraintsAreFound}
use Rattle.row_laws.proofs.Goes.{Registers, no_registers, registers_of, Over, stacks_of, state, Runs, op_runs, chain, giving, Goes, as_is, nowhere, one, join, from, next, reaching, without, group_two}
use Rattle.row_laws.proofs.Stacks.{operand_of, with_expr, none_kept, declaring, token_of, token_in}
use Rattle.row_laws.proofs.Idle.{pieces_idle}
use Rattle.row_laws.proofs.Parts.{IsOwn}
use Rattle.row_laws.proofs.Trees.{expr_goes, words_go, contents_go, old_contents_go, named_row, decl_goes, block_items_go}
use Rattle.row_laws.proofs.Alike.{inside, run_alike, rows_alike}

abbrev over : World → Bool → Over
over w asked = record { world = w; asked = asked }

-- what is found with the function around that the tree has, is found with any
looped : {w : World} {o : Option Skel} {asked quiet : Bool} {A : Type 0} {tape : List Op} {f g : A → Registers → State}
    {rows : List Constraint} → Runs (over (inside o w) asked) quiet A tape f g rows →
    Runs (over w asked) quiet A tape f g rows
looped {w} {o} {tape = tape} {f = f} p =
    record {
      behind = p.behind;
      goes = λ a s. sym (run_alike w o tape (f a s)) ∙ p.goes a s;
      found = λ y a s. sym (rows_alike w o tape (f a s)) ∙ p.found y a s;
    }

body_own : (w : World) (it : Option Named) →
    function_skeleton (inside (own_skeleton w it) w) (token_of it) ≡ own_skeleton w it
body_own w None = refl
body_own w (Some it) = refl

-- the groups of constraints of a function's item, in the grouping of the rules
function_rows : (xs ys zs : List Constraint) → (((((xs ++ ys) ++ []) ++ zs) ++ []) ++ []) ≡ xs ++ (ys ++ zs)
function_rows xs ys zs =
    append-nil ((((xs ++ ys) ++ []) ++ zs) ++ [])
    ∙ (append-nil (((xs ++ ys) ++ []) ++ zs)
    ∙ (ap (λ (rows : List Constraint). rows ++ zs) (append-nil (xs ++ ys)) ∙ group_two xs ys zs))

-- in the body of the function whose name is at this token
abbrev body_rounds : Option ℕ → Rounds
body_rounds token = record (file false) { body = token }

module _ (w : World) (asked : Bool) (at_file : IsOwn (over w asked) (file false)) (all : List Lexeme) where
  -- a function's declarator, with its specifiers, by what the declarator's contents do
  head_goes : (ws : SpecWords) → AreSpecWords all ws → (d : Declr) {contents_ops : List Op} {rows : List Constraint} →
      Goes (over w asked) (file false) contents_ops (declaring None None) (declaring (token_in d) None) rows →
      Goes (over w asked) (file false) (specs_with (words_tape false ws) ++ contents_ops ++ pieces d
      ++ declr declrs.Declare) as_is (declaring None (token_in d)) (words_demand w ws ++ rows)
  head_goes ws h d p =
      without (without (join (without (words_go (over w asked) all ws h (file false) at_file false)
      (one [] (λ y c s. refl) (λ c s. refl))) p)
      (from (declaring (token_in d) None) (pieces_idle (over w asked) (file false) d)))
      (one [] (λ y c s. refl) (λ c s. refl))

  -- a function's body
  body_runs : (it : Option Named) (items : BlockItems) → AreBlockItems all items →
      Goes (over (inside (own_skeleton w it) w) asked) (body_rounds (token_of it)) (block_items_tape false items) as_is
      as_is (block_items_demand (inside (own_skeleton w it) w) items)
  body_runs it items h =
      reaching as_is (block_items_go (over (inside (own_skeleton w it) w) asked) all items h (body_rounds (token_of it))
      (λ y. body_own w it) (λ y. refl) false) (none_kept (over (inside (own_skeleton w it) w) asked) items)

  -- a function, by its head
  function_goes : (ws : SpecWords) (d : Declr) (items : BlockItems) → AreBlockItems all items
      → {head : List Op} (rows : List Constraint) →
      Goes (over w asked) (file false) head as_is (declaring None (token_in d)) (words_demand w ws ++ rows) →
      Goes (over w asked) (file false)
      (head ++ stmt stmts.FunctionBody ++ block_items_tape false items ++ stmt stmts.FunctionEnd
      ++ declr declrs.DeclarationEnd) as_is as_is
      (words_demand w ws ++ (rows ++ block_items_demand (inside (own_skeleton w (declared_name d)) w) items))
  function_goes ws d items h rows p =
      record {
        runs = giving (chain (chain (chain (chain p.runs (op_runs [] (λ y c s. refl)))
            (looped (from (declaring None (token_in d)) (body_runs (declared_name d) items h)).runs))
            (op_runs [] (λ y c s. refl))) (op_runs [] (λ y c s. refl)))
            (λ y. function_rows (words_demand w ws) rows
            (block_items_demand (inside (own_skeleton w (declared_name d)) w) items));
      }

  item_goes : (item : Item) → IsItem all item
      → Goes (over w asked) (file false) (item_tape item) as_is as_is (item_demand w item)
  item_goes (function_item exts ws d attrs opening items closing) h =
      function_goes ws d items h.7 (declr_demand w row_of_name (own_skeleton w (declared_name d)) d)
      (head_goes ws h.1 d (contents_go (over w asked) all d h.4 (file false) at_file row_of_name
      (named_row (over w asked) (file false) (λ y. refl) (declared_name d)) true None))
  item_goes (old_function_item exts ws d attrs ds opening items closing) h =
      function_goes ws d items h.8 (old_declr_demand w (own_skeleton w (declared_name d)) ds d)
      (head_goes ws h.1 d (old_contents_go (over w asked) all ds h.7 d h.4 h.5 (file false) at_file
      (λ y. refl) None))
  item_goes (decl_item d) h = decl_goes (over w asked) all d h (file false) at_file (λ y. refl)
  item_goes (asm_item keyword group semi) h = nowhere
  item_goes (semi_item semi) h = nowhere

  items_go : (items : List Item) → All (IsItem all) items →
      Goes (over w asked) (file false) (tape_of items) as_is as_is (items_demand w items)
  items_go [] h = nowhere
  items_go (item ∷ items) h =
      next (item_goes item (All-head (IsItem all) item items h)) (items_go items (All-tail (IsItem all) item items h))

pub rows_are_found : RowsAreFound
rows_are_found w all items unit outside =
    (items_go w true (λ y. sym outside) all items unit.parts).runs.found refl (stacks_of nothing) no_registers

-- a state with these registers
abbrev registered : Registers → State → State
registered s st = record st { literal = s.literal; carried = s.carried }

-- the tape of a unit leaves nothing on the stacks
pub units_leave_nothing : UnitsLeaveNothing
units_leave_nothing w all items unit =
    left ∙ ap (λ (it : State). with_registers it nothing) (sym left)
  where
    goes : Goes (over w false) (file false) (tape_of items) as_is as_is (items_demand w items)
    goes = items_go w false (λ y. absurd cc) all items unit.parts

    left : run w nothing (tape_of items) ≡ registered (goes.runs.behind (stacks_of nothing) no_registers) nothing
    left = goes.runs.goes (stacks_of nothing) no_registers

-- programs

-- the constraints on the tapes of sources are those that the definitions on their trees say
found_among : (p : Program) (sources : List Source) → All IsSound sources
    → rows_among p sources ≡ demands_among p sources
found_among p [] h = refl
found_among p (it ∷ sources) h =
    let sound : IsSound it = All-head IsSound it sources h in
    ap (λ (rows : List Constraint). rows ++ rows_among p sources)
    (rows_are_found (world_of p it) sound.0 it.items sound.1 refl)
    ∙ ap (λ (rows : List Constraint). items_demand (world_of p it) it.items ++ rows)
    (found_among p sources (All-tail IsSound it sources h))

pub constraints_are_found : ConstraintsAreFound
constraints_are_found p h = found_among p p.sources h

-- a state without items left and arguments passed is that of its rounds, stacks and registers
settled : (st : State) → st.leaves ≡ [] → st.passed ≡ 0 → state st.rounds (stacks_of st) (registers_of st) ≡ st
settled st taken passed =
    ap (λ (operands : List Operand). record st { leaves = operands; passed = 0 }) (sym taken)
    ∙ ap (λ (n : ℕ). record st { passed = n }) (sym passed)

-- the tape of a well-formed expression leaves one operand more: its skeleton, and whether it is a zero
pub values_are_left : ValuesAreLeft
values_are_left w all e called st is taken passed =
    left ∙ ap (λ (it : State). with_registers it (operand_put 0 (operand_of (over w false) e) st)) (sym left)
  where
    goes : Goes (over w false) st.rounds (expr_tape called e) as_is (with_expr (over w false) e)
        (demand w e)
    goes = expr_goes (over w false) all e is st.rounds (λ y. absurd cc) called false

    left : run w st (expr_tape called e) ≡
        registered (goes.runs.behind (stacks_of st) (registers_of st))
        (operand_put 0 (operand_of (over w false) e) st)
    left =
        ap (λ (it : State). run w it (expr_tape called e)) (sym (settled st taken passed))
        ∙ (goes.runs.goes (stacks_of st) (registers_of st)
        ∙ ap (λ (it : State). registered (goes.runs.behind (stacks_of st) (registers_of st))
        (operand_put 0 (operand_of (over w false) e) it)) (settled st taken passed))
