-- Units and programs: where skeletons begin along tapes is where they begin on trees.
use Rattle.std.proofs.Common.{◌≡◌, ℕ, Bool, true, false, List, [], ◌∷◌, ◌++◌, Option, None, Some, refl, ◌∙◌, ap, append_assoc}
use Rattle.std.specs.Prelude.{All}
use Rattle.std.proofs.lemmas.List.{append-nil}
use Rattle.std.proofs.lemmas.List.Elements.{All-head, All-tail}
use Rattle.tape_ops.specs.declared.op.Op.{Op}
use Rattle.tape_ops.specs.declared.op.Op.TheVariants as ops
use Rattle.tape_ops.specs.declared.specifier.SpecOp.TheVariants as specs
use Rattle.tape_ops.specs.declared.declarator.DeclrOp.TheVariants as declrs
use Rattle.tape_ops.specs.declared.statement.StmtOp.TheVariants as stmts
use Rattle.c_tree.specs.Tree.{SpecWords, Declr, BlockItems}
use Rattle.c_tree.specs.declared.lexeme.Lexeme.{Lexeme}
use Rattle.c_tree.specs.WellFormed.{AreSpecWords, AreBlockItems}
use Rattle.c_tree.specs.Unit.{Item, function_item, old_function_item, decl_item, asm_item, semi_item, IsItem}
use Rattle.c_tape.specs.Tape.{specs_with, words_tape, contents, old_contents, pieces, block_items_tape, declr, stmt, spec, item_tape, tape_of}
use Rattle.name_rules.specs.Spellings.{Spelling, Place, Named}
use Rattle.name_rules.specs.Scopes.{Names}
use Rattle.type_rules.specs.Tokens.{declared_name}
use Rattle.type_rules.specs.Program.{Source, names_of}
use Rattle.name_rules.specs.ShapeSteps.State.{State, nothing as no_operands, declared_last, opened}
use Rattle.resolve_laws.specs.ShapeLaws.Laws.{ShapesAreLeft, AddressedAreLeft, OldNamesAreLeft}
use Rattle.row_rules.specs.Starting.{Start, Around, Having, with_skeleton, of_function, declared_function}
use Rattle.row_rules.specs.RowSteps.Rounds.{Rounds, file}
use Rattle.row_rules.specs.RowSteps.Starting.{function_at}
use Rattle.constraint_rules.specs.Starts.{words_starts, declr_starts, old_declr_starts, block_items_starts, item_starts, items_starts}
use Rattle.constraint_rules.specs.Systems.{starts_among}
use Rattle.row_laws.specs.StartLaws.Laws.{StartsAreFound, IsSound, found_on, StartsOfProgramAreFound}
use Rattle.row_laws.proofs.StartLaws.Found.{Over, at, behind, found, rounds_behind, run_append, found_append, rounds_append, Finds, without, silent}
use Rattle.row_laws.proofs.StartLaws.States.{declaring, token_of, words_left, contents_left}
use Rattle.row_laws.proofs.StartLaws.Idle.{pieces_plain}
use Rattle.row_laws.proofs.StartLaws.Parts.{OwnFinds, own_of, own_behind}
use Rattle.row_laws.proofs.StartLaws.Trees.{words_find, own_contents_find, old_contents_find, decl_finds, block_items_find}

same_function : (u : Spelling) (s : Names) (name : Option Named) →
    function_at u s (token_of name) ≡ declared_function u s name
same_function u s None = refl
same_function u s (Some it) = refl

module _ (access : Bool) (k : Over) (all : List Lexeme) where
  -- from file scope to file scope
  record FindsAtFile (tape : List Op) (starts : List Start) : Type 0 where
    finds : (st : State) → found k st (file access) tape ≡ starts
    stays : (st : State) → rounds_behind k st (file access) tape ≡ file access

  -- in a body
  abbrev body_of : Option ℕ → Rounds
  body_of token = record (file access) { body = token }

  specs_left : (ws : SpecWords) (st : State) → behind k st (specs_with (words_tape false ws)) ≡ opened st
  specs_left ws st = run_append k (words_tape false ws) (spec specs.SpecsEnd) st ∙ ap opened (words_left k ws st)

  -- a function before its body, by the contents of its declarator
  head_tape : SpecWords → Declr → List Op → List Op
  head_tape ws d named = specs_with (words_tape false ws) ++ named ++ pieces d ++ declr declrs.Declare

  head_finds : (ws : SpecWords) (d : Declr) (named : List Op) (f : Around → List Start) → AreSpecWords all ws →
      OwnFinds k with_skeleton named f → Finds k with_skeleton (head_tape ws d named) (λ a. words_starts a ws ++ f a)
  unfolding head_tape
  head_finds ws d named f w p =
      without (ops.Declr declrs.Declare)
      (silent (own_behind (without (ops.Spec specs.SpecsEnd) (words_find k all ws w false with_skeleton) (λ st r. refl)
      (λ ds r. refl)) (specs_left ws) p) ((pieces_plain k d).none with_skeleton))
      (λ st r. refl) (λ ds r. refl)

  -- the contents leave the name
  abbrev LeavesName : Declr → List Op → Type 0
  LeavesName d named = (st : State) → behind k (opened st) named ≡ declaring (token_of (declared_name d)) None st

  head_left : (ws : SpecWords) (d : Declr) (named : List Op) → LeavesName d named → (st : State) →
      declared_last (behind k st (head_tape ws d named)).declarations ≡ token_of (declared_name d)
  unfolding head_tape
  head_left ws d named left st =
      ap (λ (it : State). declared_last it.declarations)
      (run_append k (specs_with (words_tape false ws) ++ named ++ pieces d) (declr declrs.Declare) st
      ∙ ap (λ (it : State). behind k it (declr declrs.Declare))
      (run_append k (specs_with (words_tape false ws) ++ named) (pieces d) st
      ∙ ((pieces_plain k d).left (behind k st (specs_with (words_tape false ws) ++ named))
      ∙ (run_append k (specs_with (words_tape false ws)) named st
      ∙ (ap (λ (it : State). behind k it named) (specs_left ws st) ∙ left st)))))

  -- a body behind the declarator of its function

  opened_tape : SpecWords → Declr → List Op → List Op
  opened_tape ws d named = head_tape ws d named ++ stmt stmts.FunctionBody

  opened_finds : (ws : SpecWords) (d : Declr) (named : List Op) (f : Around → List Start) → AreSpecWords all ws →
      OwnFinds k with_skeleton named f → (st : State) →
      found k st (file access) (opened_tape ws d named) ≡ words_starts (at k (file access)) ws ++ f (at k (file access))
  unfolding opened_tape
  opened_finds ws d named f w p st =
      found_append k (head_tape ws d named) (stmt stmts.FunctionBody) st (file access)
      ∙ (append-nil (found k st (file access) (head_tape ws d named))
      ∙ (head_finds ws d named f w p).finds st (file access) refl)

  opened_inside : (ws : SpecWords) (d : Declr) (named : List Op) (f : Around → List Start) → AreSpecWords all ws →
      OwnFinds k with_skeleton named f → LeavesName d named → (st : State) →
      rounds_behind k st (file access) (opened_tape ws d named) ≡ body_of (token_of (declared_name d))
  unfolding opened_tape
  opened_inside ws d named f w p left st =
      rounds_append k (head_tape ws d named) (stmt stmts.FunctionBody) st (file access)
      ∙ (ap (λ (r : Rounds). rounds_behind k (behind k st (head_tape ws d named)) r (stmt stmts.FunctionBody))
      ((head_finds ws d named f w p).stays st (file access))
      ∙ ap body_of (head_left ws d named left st))

  filled_tape : SpecWords → Declr → List Op → BlockItems → List Op
  filled_tape ws d named items = opened_tape ws d named ++ block_items_tape false items

  filled_finds : (ws : SpecWords) (d : Declr) (named : List Op) (f : Around → List Start) (items : BlockItems) →
      AreSpecWords all ws → OwnFinds k with_skeleton named f → LeavesName d named → AreBlockItems all items
      → (st : State) →
      found k st (file access) (filled_tape ws d named items) ≡
      (words_starts (at k (file access)) ws ++ f (at k (file access)))
      ++ block_items_starts (at k (body_of (token_of (declared_name d)))) items
  unfolding filled_tape
  filled_finds ws d named f items w p left v st =
      found_append k (opened_tape ws d named) (block_items_tape false items) st (file access)
      ∙ (ap (λ (r : Rounds). found k st (file access) (opened_tape ws d named)
      ++ found k (behind k st (opened_tape ws d named)) r (block_items_tape false items))
      (opened_inside ws d named f w p left st)
      ∙ (ap (λ (starts : List Start). starts
      ++ found k (behind k st (opened_tape ws d named)) (body_of (token_of (declared_name d)))
      (block_items_tape false items)) (opened_finds ws d named f w p st)
      ∙ ap (λ (starts : List Start).
      (words_starts (at k (file access)) ws ++ f (at k (file access))) ++ starts)
      ((block_items_find k all items v false).finds (behind k st (opened_tape ws d named))
      (body_of (token_of (declared_name d))) refl)))

  filled_inside : (ws : SpecWords) (d : Declr) (named : List Op) (f : Around → List Start) (items : BlockItems) →
      AreSpecWords all ws → OwnFinds k with_skeleton named f → LeavesName d named → AreBlockItems all items
      → (st : State) →
      rounds_behind k st (file access) (filled_tape ws d named items) ≡ body_of (token_of (declared_name d))
  unfolding filled_tape
  filled_inside ws d named f items w p left v st =
      rounds_append k (opened_tape ws d named) (block_items_tape false items) st (file access)
      ∙ ((block_items_find k all items v false).stays (behind k st (opened_tape ws d named))
      (rounds_behind k st (file access) (opened_tape ws d named))
      ∙ opened_inside ws d named f w p left st)

  -- the end of a function
  ended : (tape : List Op) {starts : List Start} {token : Option ℕ} →
      ((st : State) → found k st (file access) tape ≡ starts) →
      ((st : State) → rounds_behind k st (file access) tape ≡ body_of token) →
      FindsAtFile (tape ++ stmt stmts.FunctionEnd ++ declr declrs.DeclarationEnd) starts
  ended tape p inside = record {
    finds = λ st.
        found_append k (tape ++ stmt stmts.FunctionEnd) (declr declrs.DeclarationEnd) st (file access)
        ∙ (append-nil (found k st (file access) (tape ++ stmt stmts.FunctionEnd))
        ∙ (found_append k tape (stmt stmts.FunctionEnd) st (file access)
        ∙ (append-nil (found k st (file access) tape) ∙ p st)));
    stays = λ st.
        rounds_append k (tape ++ stmt stmts.FunctionEnd) (declr declrs.DeclarationEnd) st (file access)
        ∙ (rounds_append k tape (stmt stmts.FunctionEnd) st (file access)
        ∙ ap (λ (r : Rounds). rounds_behind k (behind k st tape) r (stmt stmts.FunctionEnd)) (inside st));
  }

  said : {tape : List Op} {starts others : List Start} → FindsAtFile tape starts → starts ≡ others →
      FindsAtFile tape others
  said p e = record { finds = λ st. p.finds st ∙ e; stays = p.stays }

  -- items

  -- a function, whose own parameters have what the function at its name is
  function_finds : (ws : SpecWords) (d : Declr) (named : List Op) (f : Around → Having → List Start)
      (items : BlockItems) →
      AreSpecWords all ws → OwnFinds k with_skeleton named (λ a. f a (own_of k d)) → LeavesName d named
      → AreBlockItems all items →
      FindsAtFile
      (specs_with (words_tape false ws) ++ named ++ pieces d ++ declr declrs.Declare ++ stmt stmts.FunctionBody
      ++ block_items_tape false items ++ stmt stmts.FunctionEnd ++ declr declrs.DeclarationEnd)
      (words_starts (at k (file access)) ws
      ++ (f (at k (file access)) (of_function (declared_function k.spelling k.names (declared_name d)))
      ++ block_items_starts
      (record (at k (file access)) { enclosing = declared_function k.spelling k.names (declared_name d) }) items))
  unfolding filled_tape opened_tape head_tape
  function_finds ws d named f items w p left v =
      said (ended (filled_tape ws d named items) (filled_finds ws d named (λ a. f a (own_of k d)) items w p left v)
      (filled_inside ws d named (λ a. f a (own_of k d)) items w p left v))
      (append_assoc (words_starts (at k (file access)) ws) (f (at k (file access)) (own_of k d))
      (block_items_starts (at k (body_of (token_of (declared_name d)))) items)
      ∙ ap (λ (it : Option Place). words_starts (at k (file access)) ws ++ (f (at k (file access)) (of_function it)
      ++ block_items_starts (record (at k (file access)) { enclosing = it }) items))
      (same_function k.spelling k.names (declared_name d)))

  none_at_file : FindsAtFile [] []
  none_at_file = record { finds = λ st. refl; stays = λ st. refl }

  item_finds : (item : Item) → IsItem all item
      → FindsAtFile (item_tape item) (item_starts access k.spelling k.names item)
  item_finds (function_item exts ws d attrs opening items closing) w =
      function_finds ws d (contents true d) (λ a own. declr_starts a with_skeleton own d) items w.1
      (own_contents_find k all d w.4 with_skeleton) (contents_left k d true None) w.7
  item_finds (old_function_item exts ws d attrs ds opening items closing) w =
      function_finds ws d (old_contents ds d) (λ a own. old_declr_starts a own ds d) items w.1
      (old_contents_find k all ds w.7 d w.4 w.5) (λ st. k.named k.spelling k.names ds d st) w.8
  item_finds (decl_item d) w =
      record {
        finds = λ st. (decl_finds k all d w).finds st (file access) refl;
        stays = λ st. (decl_finds k all d w).stays st (file access);
      }
  item_finds (asm_item keyword group semi) w = none_at_file
  item_finds (semi_item semi) w = none_at_file

  items_find : (items : List Item) → All (IsItem all) items → (st : State) →
      found k st (file access) (tape_of items) ≡ items_starts access k.spelling k.names items
  items_find [] w st = refl
  items_find (item ∷ items) w st =
      let it : FindsAtFile (item_tape item) (item_starts access k.spelling k.names item) =
      item_finds item (All-head (IsItem all) item items w) in
      found_append k (item_tape item) (tape_of items) st (file access)
      ∙ (ap (λ (r : Rounds). found k st (file access) (item_tape item)
      ++ found k (behind k st (item_tape item)) r (tape_of items)) (it.stays st)
      ∙ (ap (λ (starts : List Start). starts
      ++ found k (behind k st (item_tape item)) (file access) (tape_of items)) (it.finds st)
      ∙ ap (λ (starts : List Start). item_starts access k.spelling k.names item ++ starts)
      (items_find items (All-tail (IsItem all) item items w) (behind k st (item_tape item)))))

-- along the tape of a unit the skeletons begin that begin on its tree, in their order
pub starts_are_found : ShapesAreLeft → AddressedAreLeft → OldNamesAreLeft → StartsAreFound
starts_are_found shaped addressed named access u s all items unit =
    items_find access (record { spelling = u; names = s; shaped = shaped; addressed = addressed; named = named }) all
    items unit.parts no_operands

-- programs

-- the skeletons on the tapes of sources are those that begin on their trees
sources_find : StartsAreFound → (access : Bool) (s : Names) (sources : List Source) → All IsSound sources →
    found_on access s sources ≡ starts_among access s sources
sources_find law access s [] h = refl
sources_find law access s (it ∷ sources) h =
    let sound : IsSound it = All-head IsSound it sources h in
    ap (λ (starts : List Start). starts ++ found_on access s sources)
    (law access it.spelling s sound.0 it.items sound.1)
    ∙ ap (λ (starts : List Start). items_starts access it.spelling s it.items ++ starts)
    (sources_find law access s sources (All-tail IsSound it sources h))

pub starts_of_program_are_found : StartsAreFound → StartsOfProgramAreFound
starts_of_program_are_found law access sources h = sources_find law access (names_of sources) sources h
