-- The tape of each item of a well-formed unit, and of the whole of it, says of names what the item says.
use Rattle.std.proofs.Common.{◌≡◌, ℕ, Bool, true, false, ◌||◌, if◌then◌else◌, List, [], ◌∷◌, ◌++◌, ◌⊎◌, inl, inr, Option, None, Some, refl, sym, ◌∙◌, ap, subst}
use Rattle.std.specs.Prelude.{not, Contains, All}
use Rattle.std.specs.List.{last_or}
use Rattle.std.proofs.lemmas.List.Elements.{Contains-push, Contains-append_left, Contains-append_right, All-head, All-tail}
use Rattle.c_words.specs.declared.kinds.Keyword.{Keyword}
use Rattle.c_words.specs.declared.kinds.Keyword.TheVariants as keywords
use Rattle.c_tree.specs.declared.lexeme.Lexeme.{Lexeme}
use Rattle.c_tree.specs.Tree.{SpecWords, Declr, pointer, declr_name, declr_paren, array, params, abs_pointer, abs_paren, abs_array, abs_params, identifiers, base_name, BlockItems, Declaration}
use Rattle.c_tree.specs.WellFormed.{IsDeclr, AreSpecWords, AreBlockItems, lists_identifiers}
use Rattle.c_tree.specs.Unit.{Item, function_item, old_function_item, decl_item, asm_item, semi_item, is_round_name, IsItem}
use Rattle.c_tree.specs.Specifiers.{storage_words}
use Rattle.tape_ops.specs.declared.op.Op.{Op}
use Rattle.tape_ops.specs.declared.op.Op.TheVariants as ops
use Rattle.tape_ops.specs.declared.statement.StmtOp.TheVariants as stmts
use Rattle.tape_ops.specs.declared.declarator.DeclrOp.TheVariants as declrs
use Rattle.type_table.specs.Types.{Words, CType, base, CTypes}
use Rattle.name_rules.specs.Spellings.{Place, Spelling, place, Named}
use Rattle.name_rules.specs.Scopes.{Declared, Names, is_place, is_at_file, sized}
use Rattle.name_rules.specs.Pieces.{Piece, to_function, piece_of, applied, is_function}
use Rattle.name_rules.specs.Declaring.{body_left, is_counted_by, has_word, static_where, thing_where, declared_by, typedef_known, untagged_number, declared_thing, linked, body_entered}
use Rattle.name_rules.specs.NameSteps.State.{State}
use Rattle.name_rules.specs.NameSteps.Steps.{body_entered_by, linked_some}
use Rattle.resolve_laws.specs.ShapeLaws.Laws.{ShapesAreLeft}
use Rattle.type_rules.specs.Naming.{Typed, Pieced, with_typed, with_pieced, said_words, block_items_named, words_named, declr_named, old_declr_named, function_by, old_function_by, item_named, items_named}
use Rattle.c_tape.specs.Tape.{declr, stmt, specs_with, words_tape, block_items_tape, contents, old_contents, pieces, item_tape, tape_of}
use Rattle.type_rules.proofs.Named.{listing_name, round_name}
use Rattle.resolve_laws.proofs.NameLaws.Running.{between, declaring, Goes, ◌▸◌, one, arriving}
use Rattle.resolve_laws.proofs.NameLaws.Saying.{Says, ◌>>◌, nothing}
use Rattle.resolve_laws.proofs.NameLaws.Pieces.{applied_push, lists_of, Makes, pieces_make}
use Rattle.resolve_laws.proofs.NameLaws.Storage.{same_said, same_typedef}
use Rattle.resolve_laws.proofs.NameLaws.Forms.{storage_behind, untagged_behind, inside}
use Rattle.resolve_laws.proofs.NameLaws.Identified.{bare_same, old_pieces_make, old_law}
use Rattle.resolve_laws.proofs.NameLaws.Whole.{specs_law, declr_law, decl_law, block_items_law}

-- words that hold no `typedef` fail the test for it
pub no_typedef : (words : List Keyword) → ¬ Contains words keywords.Typedef → has_word keywords.Typedef words ≡ false
no_typedef [] h = refl
no_typedef (keywords.Typedef ∷ words) h =
    absurd (h (Contains-append_left (keywords.Typedef ∷ []) words keywords.Typedef (Contains-push [] keywords.Typedef)))
no_typedef (word ∷ words) h =
    no_typedef words (λ there. h (Contains-append_right (word ∷ []) words keywords.Typedef there))

last_push : {A : Type 0} (o : Option A) (xs : List A) (x : A) → last_or o (xs ++ x ∷ []) ≡ Some x
last_push o [] x = refl
last_push o (y ∷ xs) x = last_push (Some y) xs x

-- pieces that make a function of every type
abbrev MakeFunctions : List Piece → Type 0
MakeFunctions made = (t : CType) → is_function (applied made t) ≡ true

push_makes : (made : List Piece) (p : Piece) → MakeFunctions made → MakeFunctions (made ++ p ∷ [])
push_makes made p all t = ap is_function (applied_push made p t) ∙ all (piece_of p t)

not_none : {made : List Piece} → ((made ≡ []) × (false ≡ true)) ⊎ MakeFunctions made → MakeFunctions made
not_none (inl (none, apart)) = absurd cc
not_none (inr all) = all

function_last : (made : List Piece) (ts : CTypes) (e : Option Words)
    → ((made ≡ []) × (true ≡ true)) ⊎ MakeFunctions made → MakeFunctions (made ++ to_function ts e ∷ [])
function_last made ts e (inl (none, same)) t = rw none
function_last made ts e (inr all) t = push_makes made (to_function ts e) all t

module _ (u : Spelling) where
  function_made : (d : Declr) (above : Bool) (own : Option Place) (s : Names) → is_round_name d above ≡ true
      → (((declr_named u own d s).pieces ≡ []) × (above ≡ true)) ⊎ MakeFunctions (declr_named u own d s).pieces
  function_made (declr_name token name) above own s h = inl (refl, h)
  function_made (declr_paren opening attrs d closing) above own s h = function_made d above own s h
  function_made (params d opening ps dots closing) above own s h =
      inr (function_last (declr_named u own d s).pieces _ _ (function_made d true own s h))
  function_made (pointer star words d) above own s h =
      inr (push_makes (declr_named u own d s).pieces _ (not_none (function_made d false own s h)))
  function_made (array d opening words size closing) above own s h =
      inr (push_makes (declr_named u own d s).pieces _ (not_none (function_made d false own s h)))
  function_made (abs_pointer star words d) above own s h = absurd cc
  function_made (abs_paren opening attrs d closing) above own s h = absurd cc
  function_made (abs_array d opening words size closing) above own s h = absurd cc
  function_made (abs_params d opening ps dots closing) above own s h = absurd cc
  function_made (identifiers d opening names closing) above own s h = absurd cc
  function_made (base_name token) above own s h = absurd cc

  old_function_made : (all : List Lexeme) (ds : List Declaration) (d : Declr) (own : Option Place) (s : Names)
      → IsDeclr all d
      → lists_identifiers d ≡ true → MakeFunctions (old_declr_named u own ds d s).pieces
  old_function_made all ds (identifiers d opening names closing) own s h is =
      function_last (declr_named u None d s).pieces _ _
      (inl (ap (λ (it : Pieced). it.pieces) (bare_same u d None s h.1), refl))
  old_function_made all ds (pointer star words d) own s h is =
      push_makes (old_declr_named u own ds d s).pieces _ (old_function_made all ds d own s h.1 is)
  old_function_made all ds (declr_paren opening attrs d closing) own s h is = old_function_made all ds d own s h.1 is
  old_function_made all ds (array d opening words size closing) own s h is =
      push_makes (old_declr_named u own ds d s).pieces _ (old_function_made all ds d own s h.0 is)
  old_function_made all ds (params d opening ps dots closing) own s h is =
      push_makes (old_declr_named u own ds d s).pieces _ (old_function_made all ds d own s h.0 is)
  old_function_made all ds (declr_name token name) own s h is = absurd cc
  old_function_made all ds (base_name token) own s h is = absurd cc
  old_function_made all ds (abs_pointer star words d) own s h is = absurd cc
  old_function_made all ds (abs_paren opening attrs d closing) own s h is = absurd cc
  old_function_made all ds (abs_array d opening words size closing) own s h is = absurd cc
  old_function_made all ds (abs_params d opening ps dots closing) own s h is = absurd cc

  thing_declared : (words : List Keyword) (at : Place) (name : ℕ) (t : CType) (s : Names)
      → has_word keywords.Typedef words ≡ false → is_function t ≡ true
      → declared_by words at name t s ≡ declared_thing words at name t s
  thing_declared words at name t s untyped is = rw (untyped, is) (by_file _ _ (is_at_file s))
    where
      by_file : {A : Type 0} (x y : A) (b : Bool) → (if b || true then x else y) ≡ x
      by_file x y true = refl
      by_file x y false = refl

  -- what is declared without `typedef` makes no struct known
  nothing_known : (words : List Keyword) (name : ℕ) (untagged : Option ℕ) (s : Names)
      → has_word keywords.Typedef words ≡ false → typedef_known words name untagged s ≡ s
  nothing_known words name None s untyped = refl
  nothing_known words name (Some n) s untyped = rw untyped refl

  -- the body of the function that was declared last
  body_begins : (words : List Keyword) (is_plain is_counted : Bool) (at : Place) (name : ℕ) (t : CType) (s : Names)
      → body_entered_by is_plain is_counted (last_or None (declared_thing words at name t s).declared)
      (declared_thing words at name t s)
      ≡ body_entered at (linked name at s) is_plain is_counted (declared_thing words at name t s)
  body_begins words is_plain is_counted at name t s =
      ap (λ (d : Option Declared). body_entered_by is_plain is_counted d (declared_thing words at name t s))
      (last_push None before.declared _)
    where
      before : Names
      before =
          static_where (has_word keywords.Static words) at.0 name
          (thing_where (is_place (linked name at s) at) name at s)

  -- a function behind its specifiers, from what its declarator says
  abbrev function_from : SpecWords → Named → (Names → Pieced) → BlockItems → Names → Names
  function_from ws it found items s =
      with_typed (words_named u false ws (base []) [] s)
      (λ t s. with_pieced (found s)
      (λ ps s. body_left (block_items_named u items
      (body_entered (place u it.token) (linked (u.key it.name) (place u it.token) s)
      (not (has_word keywords.Inline (said_words ws))) (is_counted_by u.wide (said_words ws))
      (declared_thing (said_words ws) (place u it.token) (u.key it.name) (applied ps t)
      (sized (place u it.token) (applied ps t) s))))))

module _ (u : Spelling) (left : ShapesAreLeft) (all : List Lexeme) where
  -- from the ops of its declarator's contents and of its pieces
  function_goes : (ws : SpecWords) (contents_ops pieces_ops : List Op) (items : BlockItems) (it : Named)
      (found : Names → Pieced)
      → AreSpecWords all ws → AreBlockItems all items → has_word keywords.Typedef (storage_words ws) ≡ false
      → ((st : State) (t : CType) (k : List Keyword) (b : Bool) (finished : List (List CType)) (s : Names)
      → Goes u contents_ops (declaring st t k b None t finished s)
      (declaring st t k b (Some it) t (lists_of (found s).pieces finished) (found s).names))
      → ((s : Names) → Makes u pieces_ops (found s).pieces)
      → ((s : Names) → MakeFunctions (found s).pieces)
      → (st : State) (s : Names)
      → Goes u
      (specs_with (words_tape false ws) ++ contents_ops ++ pieces_ops ++ declr declrs.Declare ++ stmt stmts.FunctionBody
      ++ block_items_tape false items ++ stmt stmts.FunctionEnd ++ declr declrs.DeclarationEnd)
      (between st s) (between st (function_from u ws it found items s))
  function_goes ws contents_ops pieces_ops items it found hw hi untyped parts makes functions st s =
      rw (same_said ws)
      (specs_law u left all false ws hw st (base []) []
      [] false s ▸ parts st specified.type words b st.finished specified.names
      ▸ makes specified.names st specified.type words b (Some it) specified.type st.finished pieced.names
      ▸ declares ▸ begins ▸ inside u
      (block_items_law u left all false items hi) st specified.type words false None specified.type st.finished _
      ▸ one u (ops.Stmt stmts.FunctionEnd) _ (λ passed. refl) ▸ one u (ops.Declr declrs.DeclarationEnd) _
      (λ passed. refl))
    where
      words : List Keyword
      words = storage_behind ws []

      b : Bool
      b = untagged_behind ws false

      at : Place
      at = place u it.token

      name : ℕ
      name = u.key it.name

      specified : Typed
      specified = words_named u false ws (base []) [] s

      pieced : Pieced
      pieced = found specified.names

      made : CType
      made = applied pieced.pieces specified.type

      declared : Names
      declared = declared_thing words at name made (sized at made pieced.names)

      plainly : has_word keywords.Typedef words ≡ false
      plainly = same_typedef ws ∙ untyped

      declares : Goes u (declr declrs.Declare)
          (declaring st specified.type words b (Some it) made st.finished pieced.names)
          (declaring st specified.type words false None specified.type st.finished declared)
      declares = arriving (one u (ops.Declr declrs.Declare) _ (λ passed. refl))
          (ap (λ (s : Names). declaring st specified.type words false None specified.type st.finished s)
          (nothing_known u words name (untagged_number b specified.type) _ plainly
          ∙ thing_declared u words at name made (sized at made pieced.names) plainly
          (functions specified.names specified.type)))

      begins : Goes u (stmt stmts.FunctionBody)
          (declaring st specified.type words false None specified.type st.finished declared)
          (declaring st specified.type words false None specified.type st.finished
          (body_entered at (linked name at pieced.names) (not (has_word keywords.Inline words))
          (is_counted_by u.wide words) declared))
      begins = arriving (one u (ops.Stmt stmts.FunctionBody) _ (λ passed. refl))
          (ap (λ (s : Names). declaring st specified.type words false None specified.type st.finished s)
          (body_begins u words (not (has_word keywords.Inline words)) (is_counted_by u.wide words) at name made
          (sized at made pieced.names)))

  item_law : (item : Item) → IsItem all item → Says u (item_tape item) (item_named u item)
  item_law (function_item exts ws d attrs opening items closing) h =
      let named = round_name d false h.5 in
      record {
        goes = λ st s. subst (λ (n : Option Named). Goes u
            (item_tape (function_item exts ws d attrs opening items closing)) (between st s)
            (between st (function_by u n ws d items s))) (sym named.1) (function_goes ws (contents true d)
            (pieces d) items named.0 (λ s. declr_named u (own named.0 s) d s) h.1 h.7
            (no_typedef (storage_words ws) h.3) (λ st t k b finished s. subst (λ (n : Option Named). Goes u
            (contents true d) (declaring st t k b None t finished s) (declaring st t k b n t (lists_of
            (declr_named u (linked_some u n s) d s).pieces finished) (declr_named u (linked_some u n s) d s).names))
            named.1 (declr_law u left all true d h.4 st t k b finished s)) (λ s. pieces_make u d (own named.0 s) s)
            (λ s. not_none (function_made u d false (own named.0 s) s h.5)) st s);
      }
    where
      own : Named → Names → Option Place
      own it s = Some (linked (u.key it.name) (place u it.token) s)
  item_law (old_function_item exts ws d attrs ds opening items closing) h =
      let named = listing_name all d h.4 h.5 in
      record {
        goes = λ st s. subst (λ (n : Option Named). Goes u
            (item_tape (old_function_item exts ws d attrs ds opening items closing)) (between st s)
            (between st (old_function_by u n ws d ds items s))) (sym named.1) (function_goes ws (old_contents ds d)
            (pieces d) items named.0 (λ s. old_declr_named u (own named.0 s) ds d s) h.1 h.8
            (no_typedef (storage_words ws) h.3) (λ st t k b finished s. subst
            (λ (n : Option Named). Goes u (old_contents ds d) (declaring st t k b None t finished s)
            (declaring st t k b n t (lists_of (old_declr_named u (linked_some u n s) ds d s).pieces finished)
            (old_declr_named u (linked_some u n s) ds d s).names)) named.1
            (old_law u left all ds h.7 d h.4 h.5 st t k b finished s)) (λ s. old_pieces_make u ds d
            (own named.0 s) s h.5) (λ s. old_function_made u all ds d (own named.0 s) s h.4 h.5) st s);
      }
    where
      own : Named → Names → Option Place
      own it s = Some (linked (u.key it.name) (place u it.token) s)
  item_law (decl_item d) h = decl_law u left all d h
  item_law (asm_item keyword group semi) h = nothing u
  item_law (semi_item semi) h = nothing u

  pub items_law : (items : List Item) → All (IsItem all) items → Says u (tape_of items) (items_named u items)
  items_law [] h = nothing u
  items_law (item ∷ items) h =
      item_law item (All-head (IsItem all) item items h) >> items_law items (All-tail (IsItem all) item items h)
