-- Units and programs: what the steps over tapes find are the faults that the definitions on trees say.
use Rattle.std.proofs.Common.{◌≡◌, ℕ, ◌+◌, true, false, List, [], ◌∷◌, ◌++◌, None, refl, sym, ◌∙◌, ap, arith}
use Rattle.tape_ops.specs.declared.op.Op.{Op}
use Rattle.c_tree.specs.Unit.{Item, function_item, old_function_item, decl_item, asm_item, semi_item}
use Rattle.c_tape.specs.Tape.{expr_tape, addressed_tape, old_contents, item_tape, tape_of}
use Rattle.name_rules.specs.Spellings.{Spelling}
use Rattle.name_rules.specs.Faults.{Fault, IsFirst}
use Rattle.name_rules.specs.Scopes.{Names}
use Rattle.name_rules.specs.Linking.{body_faults}
use Rattle.type_rules.specs.Judging.{item_faults, items_faults_of}
use Rattle.type_rules.specs.Program.{Source, names_of, judged, faults_of}
use Rattle.name_rules.specs.ShapeSteps.State.{nothing, opened}
use Rattle.name_rules.specs.ShapeSteps.Steps.{step, run}
use Rattle.name_rules.specs.ShapeSteps.OpFaults.{op_faults}
use Rattle.name_rules.specs.ShapeSteps.Found.{faults_found}
use Rattle.resolve_laws.specs.ShapeLaws.Laws.{ShapesAreLeft, AddressedAreLeft, OldNamesAreLeft, UnitsLeaveNothing, FaultsAreFound, found_on, all_found, FirstFaultIsFound, NoneIsFound}
use Rattle.resolve_laws.proofs.ShapeLaws.Goes.{Over, total, total_append, Sum, at, behind, behind_op, Goes, as_is, nowhere, one, join, from, next, same, reaching, without}
use Rattle.resolve_laws.proofs.ShapeLaws.Stacks.{declaring, token_in, none_kept}
use Rattle.resolve_laws.proofs.ShapeLaws.Idle.{pieces_idle}
use Rattle.resolve_laws.proofs.ShapeLaws.Trees.{expr_goes, words_go, contents_go, old_contents_go, decl_goes, block_items_go}
use Rattle.resolve_laws.proofs.ShapeLaws.Weights.{SameTotals, same_faults, no_faults}

-- a tape, with states and faults apart

state_behind : (k : Over) (tape : List Op) (it : Sum) → (behind k tape it).state ≡ run k.spelling k.names it.state tape
state_behind k [] it = refl
state_behind k (op ∷ tape) it = state_behind k tape (behind_op k op it)

-- the weight behind a tape is that before it and the weight of all faults found along the tape
weight_behind : (k : Over) (tape : List Op) (it : Sum) → (behind k tape it).weight ≡
    it.weight + total k.weight (faults_found k.spelling k.names it.state tape)
weight_behind k [] it = omega arith
weight_behind k (op ∷ tape) it =
    let others = weight_behind k tape (behind_op k op it) in
    let e = total_append k.weight (op_faults k.spelling k.names it.state op)
    (faults_found k.spelling k.names (step k.spelling k.names it.state op) tape) in omega arith

module _ (k : Over) where
  item_goes : (item : Item) → Goes k (item_tape item) as_is as_is (item_faults k.spelling k.names item)
  item_goes (function_item exts ws d attrs opening items closing) =
      same (without (without (next
      (without (without (without
      (join (without (words_go k ws false) (one [] (λ st. refl))) (contents_go k d true None))
      (from (declaring (token_in d) None) (pieces_idle k d)))
      (one [] (λ st. refl))) (one [] (λ st. refl))) (reaching as_is (block_items_go k items false) (none_kept k items)))
      (one [] (λ st. refl))) (one [] (λ st. refl)))
      (omega (arith, total_append k.weight))
  item_goes (old_function_item exts ws d attrs ds opening items closing) =
      same (without (without (next
      (without (without (without
      (join (without (words_go k ws false) (one [] (λ st. refl))) (old_contents_go k ds d None))
      (from (declaring (token_in d) None) (pieces_idle k d)))
      (one [] (λ st. refl))) (one [] (λ st. refl))) (reaching as_is (block_items_go k items false) (none_kept k items)))
      (one [] (λ st. refl))) (one [] (λ st. refl)))
      (omega (arith, total_append k.weight))
  item_goes (decl_item d) = decl_goes k d
  item_goes (asm_item keyword group semi) = nowhere
  item_goes (semi_item semi) = nowhere

  items_go : (items : List Item) → Goes k (tape_of items) as_is as_is (items_faults_of k.spelling k.names items)
  items_go [] = nowhere
  items_go (item ∷ items) = next (item_goes item) (items_go items)

over : Spelling → Names → (Fault → ℕ) → Over
over u s w = record { spelling = u; names = s; weight = w }

pub shapes_are_left : ShapesAreLeft
unfolding over
shapes_are_left u s e called st =
    sym (state_behind (over u s (λ f. 0)) (expr_tape called e) (at st 0)) ∙
    ap (λ (it : Sum). it.state) ((expr_goes (over u s (λ f. 0)) e called false).goes st 0)

pub addressed_are_left : AddressedAreLeft
unfolding over
addressed_are_left u s e st =
    sym (state_behind (over u s (λ f. 0)) (addressed_tape e) (at st 0)) ∙
    ap (λ (it : Sum). it.state) ((expr_goes (over u s (λ f. 0)) e false true).goes st 0)

pub old_names_are_left : OldNamesAreLeft
unfolding over
old_names_are_left u s ds d st =
    sym (state_behind (over u s (λ f. 0)) (old_contents ds d) (at (opened st) 0)) ∙
    ap (λ (it : Sum). it.state) ((old_contents_go (over u s (λ f. 0)) ds d None).goes st 0)

pub units_leave_nothing : UnitsLeaveNothing
unfolding over
units_leave_nothing u s items st =
    sym (state_behind (over u s (λ f. 0)) (tape_of items) (at st 0)) ∙
    ap (λ (it : Sum). it.state) ((items_go (over u s (λ f. 0)) items).goes st 0)

unit_totals : (u : Spelling) (s : Names) (items : List Item) →
    SameTotals (faults_found u s nothing (tape_of items)) (items_faults_of u s items)
unfolding over
unit_totals u s items w =
    let found = weight_behind (over u s w) (tape_of items) (at nothing 0) in let known =
    ap (λ (it : Sum). it.weight) ((items_go (over u s w) items).goes nothing 0) in omega arith

pub faults_are_found : FaultsAreFound
faults_are_found u s items f = same_faults _ _ (unit_totals u s items) f

-- programs

append_totals : (fs gs hs is : List Fault) → SameTotals fs gs → SameTotals hs is → SameTotals (fs ++ hs) (gs ++ is)
append_totals fs gs hs is first second w = let e = first w in let e2 = second w in omega (arith, total_append w)

-- what is found along the tapes of sources weighs as much as the faults by the definitions on trees
found_totals : (sources : List Source) (s : Names) → SameTotals (found_on sources s) (judged sources s)
found_totals [] s = λ w. refl
found_totals (it ∷ sources) s =
    append_totals (faults_found it.spelling s nothing (tape_of it.items)) (items_faults_of it.spelling s it.items)
    (found_on sources s) (judged sources s)
    (unit_totals it.spelling s it.items) (found_totals sources s)

-- what is found of a whole program weighs as much as its faults by the definitions
program_totals : (sources : List Source) → SameTotals (all_found sources) (faults_of sources)
program_totals sources =
    append_totals (names_of sources).faults (names_of sources).faults _ _ (λ w. refl)
    (append_totals (body_faults (names_of sources)) (body_faults (names_of sources)) _ _ (λ w. refl)
    (found_totals sources (names_of sources)))

same_first : (fs gs : List Fault) → SameTotals fs gs → (f : Fault) → IsFirst f fs → IsFirst f gs
same_first fs gs e f first =
    record { there = (same_faults fs gs e f).0 first.there; first = λ g c. first.first g ((same_faults fs gs e g).1 c) }

-- a fault is first among those found along the tapes where it is the first fault of the program
pub first_fault_is_found : FirstFaultIsFound
first_fault_is_found sources f = (
  same_first (all_found sources) (faults_of sources) (program_totals sources) f,
  same_first (faults_of sources)
      (all_found sources) (λ w. sym (program_totals sources w)) f,
)

-- nothing is found along the tapes just where the program has no fault
pub none_is_found : NoneIsFound
none_is_found sources = (
  no_faults (all_found sources) (faults_of sources) (program_totals sources),
  no_faults (faults_of sources)
      (all_found sources) (λ w. sym (program_totals sources w)),
)
