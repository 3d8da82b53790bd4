-- Functions with lists of identifiers: what the ops of their declarators make of names.
use Rattle.std.proofs.Common.{◌≡◌, ℕ, Bool, true, false, if◌then◌else◌, List, [], ◌∷◌, ◌++◌, Option, None, refl, sym, ◌∙◌, ap, subst, append_assoc}
use Rattle.std.specs.Prelude.{All}
use Rattle.std.proofs.lemmas.List.{append-nil}
use Rattle.std.proofs.lemmas.List.Elements.{All-head, All-tail}
use Rattle.c_words.specs.declared.kinds.Keyword.{Keyword}
use Rattle.c_words.specs.declared.kinds.Keyword.TheVariants as keywords
use Rattle.c_syntax.specs.declared.parts.Identifier.{Identifier}
use Rattle.c_tree.specs.declared.lexeme.Lexeme.{Lexeme}
use Rattle.c_tree.specs.Tree.{SpecWords, Declr, pointer, declr_name, declr_paren, array, params, abs_pointer, abs_paren, abs_array, abs_params, identifiers, base_name, InitDeclrs, no_init_declrs, more_init_declrs, Declaration, declaration}
use Rattle.c_tree.specs.WellFormed.{IsDeclr, AreInitDeclrs, IsDeclaration, is_bare_name, lists_identifiers}
use Rattle.tape_ops.specs.declared.op.Op.{Op}
use Rattle.tape_ops.specs.declared.op.Op.TheVariants as ops
use Rattle.tape_ops.specs.declared.declarator.DeclrOp.TheVariants as declrs
use Rattle.type_table.specs.Types.{CType, base, function}
use Rattle.name_rules.specs.Spellings.{Place, Spelling, Named}
use Rattle.name_rules.specs.Scopes.{Names, enter}
use Rattle.name_rules.specs.Pieces.{types_in, decayed, to_function, applied}
use Rattle.name_rules.specs.Declaring.{has_word, declared_some, untagged_number, keep}
use Rattle.name_rules.specs.Identifiers.{Olds, old_declared_some, old_faults, old_types}
use Rattle.name_rules.specs.NameSteps.State.{State, no_specifiers}
use Rattle.name_rules.specs.NameSteps.Steps.{linked_some, passed_on}
use Rattle.resolve_laws.specs.ShapeLaws.Laws.{ShapesAreLeft}
use Rattle.type_rules.specs.Naming.{Pieced, Typed, words_named, declr_named, some_init_named, is_tag_alone, auto_declrs_named, identifiers_named, old_declrs_named, old_declaration_named, old_declarations_named, old_declr_named}
use Rattle.type_rules.specs.Tokens.{declared_name, are_auto}
use Rattle.c_tape.specs.Tests as tests
use Rattle.c_tape.specs.Tape.{declr, pieces, auto_declrs_tape, identifiers_tape, old_declrs_tape, old_declaration_tape, old_declarations_tape, old_contents}
use Rattle.resolve_laws.proofs.NameLaws.Running.{declaring, heard, Goes, ◌▸◌, one, stays, arriving}
use Rattle.resolve_laws.proofs.NameLaws.Agreeing.{same_alone, same_auto}
use Rattle.resolve_laws.proofs.NameLaws.Pieces.{listed_behind, lists_of, lists_push, types_back, Makes, one_more, pointer_makes, array_makes, function_makes, pieces_make}
use Rattle.resolve_laws.proofs.NameLaws.Storage.{same_said, same_untagged}
use Rattle.resolve_laws.proofs.NameLaws.Forms.{storage_behind, untagged_behind, untagged_left, inside, list_goes}
use Rattle.resolve_laws.proofs.NameLaws.Typing.{AutoLaw}
use Rattle.resolve_laws.proofs.NameLaws.Whole.{specs_law, declr_law, some_size_law, params_law, some_init_law, auto_law, auto_is}

-- types that are listed are those of the list
types_listed : (xs ys : List CType) → listed_behind xs (types_in ys) ≡ xs ++ ys
types_listed xs [] = sym (append-nil xs)
types_listed xs (y ∷ ys) = types_listed (xs ++ y ∷ []) ys ∙ append_assoc xs (y ∷ []) ys

-- behind a list of identifiers, among the declarations of their parameters
abbrev olding : State → Option Place → Olds → State
olding st own it =
    record st {
      names = it.names;
      specifiers = no_specifiers;
      parameters = record { own = own; types = []; identifiers = it.list } ∷ st.parameters;
    }

module _ (u : Spelling) where
  -- a declarator that is its name makes nothing of a type, and says nothing of names
  pub bare_same : (d : Declr) (own : Option Place) (s : Names) → is_bare_name d ≡ true
      → declr_named u own d s ≡ record { pieces = []; names = s }
  bare_same (declr_name token name) own s h = refl
  bare_same (declr_paren opening attrs d closing) own s h = bare_same d own s h
  bare_same (pointer star words d) own s h = absurd cc
  bare_same (array d opening words size closing) own s h = absurd cc
  bare_same (params d opening ps dots closing) own s h = absurd cc
  bare_same (abs_pointer star words d) own s h = absurd cc
  bare_same (abs_paren opening attrs d closing) own s h = absurd cc
  bare_same (abs_array d opening words size closing) own s h = absurd cc
  bare_same (abs_params d opening ps dots closing) own s h = absurd cc
  bare_same (identifiers d opening names closing) own s h = absurd cc
  bare_same (base_name token) own s h = absurd cc

  identifiers_go : (names : List Identifier) (st : State) (own : Option Place) (it : Olds)
      → Goes u (identifiers_tape names) (olding st own it) (olding st own (identifiers_named u names it))
  identifiers_go [] st own it = stays u _
  identifiers_go (name ∷ names) st own it =
      one u (ops.Declr (declrs.Identifier name.token name.name)) _ (λ passed. refl) ▸ identifiers_go names st own _

  -- a declarator behind such a list ends: it declares a type, or a parameter
  abbrev old_one : Option Place → List Keyword → Bool → CType → Option Named → CType → Olds → Olds
  old_one own k b t name m it =
      if has_word keywords.Typedef k then record it { names = declared_some u (untagged_number b t) name k m it.names }
      else old_declared_some u own name (decayed m) it

  old_param_goes : (name : Option Named) (st : State) (own : Option Place) (t : CType) (k : List Keyword)
      (b : Bool) (m : CType)
      (finished : List (List CType)) (it : Olds)
      → Goes u (declr declrs.OldParam) (declaring (olding st own it) t k b name m finished it.names)
      (declaring (olding st own (old_one own k b t name m it)) t k false None t finished
      (old_one own k b t name m it).names)
  old_param_goes name st own t k b m finished it =
      record { is = λ passed. by_typedef passed (has_word keywords.Typedef k) }
    where
      typed : Olds
      typed = record it { names = declared_some u (untagged_number b t) name k m it.names }

      named : Olds
      named = old_declared_some u own name (decayed m) it

      ended : Olds → State
      ended it = declaring (olding st own it) t k false None t finished it.names

      by_typedef : (passed : List Op) (is : Bool)
          → passed_on (ops.Declr declrs.OldParam)
          (if is then heard passed (ended typed) else heard passed (ended named))
          ≡ heard (passed ++ declr declrs.OldParam) (ended (if is then typed else named))
      by_typedef passed true = refl
      by_typedef passed false = refl

  abbrev OldDeclrsLaw : InitDeclrs → Type 0
  OldDeclrsLaw ds =
      (st : State) (own : Option Place) (t : CType) (k : List Keyword) (b : Bool) (finished : List (List CType))
      (it : Olds)
      → Goes u (old_declrs_tape ds) (declaring (olding st own it) t k b None t finished it.names)
      (declaring (olding st own (old_declrs_named u own k b t ds it)) t k (untagged_left ds b) None t finished
      (old_declrs_named u own k b t ds it).names)

  -- behind specifiers, by one test or by the other one
  old_behind_specs : (ws : SpecWords) (ds : InitDeclrs) (semi : ℕ) → OldDeclrsLaw ds
      → (are_auto ws ds ≡ true → AutoLaw u semi ds)
      → (st : State) (own : Option Place) (t : CType) (k : List Keyword) (b : Bool)
      (finished : List (List CType)) (it : Olds)
      → Goes u (if tests.are_auto ws ds then auto_declrs_tape semi ds else old_declrs_tape ds)
      (declaring (olding st own it) t k b None t finished it.names)
      (declaring (olding st own (if are_auto ws ds then record it { names = auto_declrs_named u k b semi t ds it.names }
      else old_declrs_named u own k b t ds it)) t k
      (if are_auto ws ds then false else untagged_left ds b) None t finished
      (if are_auto ws ds then record it { names = auto_declrs_named u k b semi t ds it.names }
      else old_declrs_named u own k b t ds it).names)
  old_behind_specs ws ds semi q r st own t k b finished it =
      subst (λ (tape : List Op). Goes u tape (declaring (olding st own it) t k b None t finished it.names)
      (ended (are_auto ws ds)))
      (ap (λ (is : Bool). if is then auto_declrs_tape semi ds else old_declrs_tape ds) (sym (same_auto ws ds)))
      (by_auto (are_auto ws ds) refl)
    where
      found : Bool → Olds
      found is = if is then record it { names = auto_declrs_named u k b semi t ds it.names }
          else old_declrs_named u own k b t ds it

      ended : Bool → State
      ended is =
          declaring (olding st own (found is)) t k (if is then false else untagged_left ds b) None t finished
          (found is).names

      by_auto : (is : Bool) → are_auto ws ds ≡ is
          → Goes u (if is then auto_declrs_tape semi ds else old_declrs_tape ds)
          (declaring (olding st own it) t k b None t finished it.names) (ended is)
      by_auto true is = r is (olding st own it) t k b finished it.names
      by_auto false is = q st own t k b finished it

  -- the type of a function with a list of identifiers is made of those of its parameters

  old_function_makes : (ts : List CType) → Makes u (declr (declrs.Function false)) (to_function (types_in ts) None ∷ [])
  old_function_makes ts st t storage b name m finished s =
      arriving (one u (ops.Declr (declrs.Function false)) _ (λ passed. refl))
      (ap (λ us. declaring st t storage b name (function [] us (decayed m) None) finished s) (types_back (types_in ts)))

  pub old_pieces_make : (ds : List Declaration) (d : Declr) (own : Option Place) (s : Names)
      → lists_identifiers d ≡ true
      → Makes u (pieces d) (old_declr_named u own ds d s).pieces
  old_pieces_make ds (identifiers d opening names closing) own s h =
      one_more u (declr_named u None d s).pieces _ (old_function_makes _) (pieces_make u d None s)
  old_pieces_make ds (pointer star words d) own s h =
      one_more u (old_declr_named u own ds d s).pieces _ (pointer_makes u words) (old_pieces_make ds d own s h)
  old_pieces_make ds (declr_paren opening attrs d closing) own s h = old_pieces_make ds d own s h
  old_pieces_make ds (array d opening words size closing) own s h =
      one_more u (old_declr_named u own ds d s).pieces _ (array_makes u words) (old_pieces_make ds d own s h)
  old_pieces_make ds (params d opening ps dots closing) own s h =
      one_more u (old_declr_named u own ds d s).pieces _ (function_makes u ps dots _) (old_pieces_make ds d own s h)
  old_pieces_make ds (declr_name token name) own s h = absurd cc
  old_pieces_make ds (base_name token) own s h = absurd cc
  old_pieces_make ds (abs_pointer star words d) own s h = absurd cc
  old_pieces_make ds (abs_paren opening attrs d closing) own s h = absurd cc
  old_pieces_make ds (abs_array d opening words size closing) own s h = absurd cc
  old_pieces_make ds (abs_params d opening ps dots closing) own s h = absurd cc

module _ (u : Spelling) (left : ShapesAreLeft) (all : List Lexeme) where
  old_declrs_law : (ds : InitDeclrs) → AreInitDeclrs all ds → OldDeclrsLaw u ds
  old_declrs_law no_init_declrs h st own t k b finished it = stays u _
  old_declrs_law (more_init_declrs attrs d asm_label attrs2 init ds) h st own t k b finished it =
      declr_law u left all false d h.1 (olding st own it) t k b finished it.names
      ▸ pieces_make u d None it.names (olding st own it) t k b (declared_name d) t finished found.names
      ▸ old_param_goes u (declared_name d) st own t k b (applied found.pieces t) finished
      (record it { names = found.names })
      ▸ inside u (some_init_law u left all init h.5) (olding st own declared) t k false None t finished declared.names
      ▸ old_declrs_law ds h.6 st own t k false finished
      (record declared { names = some_init_named u init declared.names })
    where
      found : Pieced
      found = declr_named u None d it.names

      declared : Olds
      declared = old_one u own k b t (declared_name d) (applied found.pieces t) (record it { names = found.names })

  old_declaration_goes : (d : Declaration) → IsDeclaration all d → (st : State) (own : Option Place) (it : Olds)
      → Goes u (old_declaration_tape d) (olding st own it) (olding st own (old_declaration_named u own d it))
  old_declaration_goes (declaration exts ws ds semi) h st own it =
      rw (same_alone ws ds, same_said ws, same_untagged ws) (specs_law u left all (is_tag_alone ws ds) ws h.1
      (olding st own it) (base []) [] [] false it.names ▸ old_behind_specs u ws ds semi (old_declrs_law ds h.3)
      (λ is. auto_law u left all semi ws ds (auto_is u ws ds is h.4) h.3) st own specified.type (storage_behind ws [])
      (untagged_behind ws false) st.finished (record it { names = specified.names }) ▸ one u
      (ops.Declr declrs.DeclarationEnd) _ (λ passed. refl))
    where
      specified : Typed
      specified = words_named u (is_tag_alone ws ds) ws (base []) [] it.names

  old_declarations_go : (ds : List Declaration) → All (IsDeclaration all) ds
      → (st : State) (own : Option Place) (it : Olds)
      → Goes u (old_declarations_tape ds) (olding st own it) (olding st own (old_declarations_named u own ds it))
  old_declarations_go [] h st own it = stays u _
  old_declarations_go (d ∷ ds) h st own it =
      old_declaration_goes d (All-head (IsDeclaration all) d ds h) st own it
      ▸ old_declarations_go ds (All-tail (IsDeclaration all) d ds h) st own _

  -- a list of identifiers, with the declarations behind it
  identifiers_end : (st : State) (own : Option Place) (t : CType) (k : List Keyword) (b : Bool) (name : Option Named)
      (finished : List (List CType)) (s : Names) (it : Olds)
      → Goes u (declr declrs.ParamsEnd) (olding (declaring st t k b name t finished s) own it)
      (declaring st t k b name t (listed_behind [] (types_in (old_types it.list)) ∷ finished)
      (keep own (old_faults u it.list it.names)))
  identifiers_end st own t k b name finished s it =
      arriving (one u (ops.Declr declrs.ParamsEnd) _ (λ passed. refl))
      (ap (λ (ts : List CType). declaring st t k b name t (ts ∷ finished) (keep own (old_faults u it.list it.names)))
      (sym (types_listed [] (old_types it.list))))

  pub old_law : (ds : List Declaration) → All (IsDeclaration all) ds → (d : Declr) → IsDeclr all d
      → lists_identifiers d ≡ true
      → (st : State) (t : CType) (k : List Keyword) (b : Bool) (finished : List (List CType)) (s : Names)
      → Goes u (old_contents ds d) (declaring st t k b None t finished s)
      (declaring st t k b (declared_name d) t
      (lists_of (old_declr_named u (linked_some u (declared_name d) s) ds d s).pieces finished)
      (old_declr_named u (linked_some u (declared_name d) s) ds d s).names)
  old_law ds hs (identifiers d opening names closing) h is st t k b finished s =
      rw (bare_same u d None s h.1)
      (arriving (declr_law u left all false d h.0 st t k b finished s)
      (ap (λ (it : Pieced). declaring st t k b (declared_name d) t (lists_of it.pieces finished) it.names)
      (bare_same u d None s h.1))
      ▸ one u (ops.Declr (declrs.ParamsBegin true)) _ (λ passed. refl)
      ▸ identifiers_go u names named own (record { list = []; names = enter s })
      ▸ old_declarations_go ds hs named own _
      ▸ identifiers_end st own t k b (declared_name d) finished s _)
    where
      own : Option Place
      own = linked_some u (declared_name d) s

      named : State
      named = declaring st t k b (declared_name d) t finished s
  old_law ds hs (pointer star words d) h is st t k b finished s =
      rw (lists_push (old_declr_named u (linked_some u (declared_name d) s) ds d s).pieces _ finished)
      (old_law ds hs d h.1 is st t k b finished s)
  old_law ds hs (declr_paren opening attrs d closing) h is st t k b finished s =
      old_law ds hs d h.1 is st t k b finished s
  old_law ds hs (array d opening words size closing) h is st t k b finished s =
      rw (lists_push (old_declr_named u (linked_some u (declared_name d) s) ds d s).pieces _ finished)
      (old_law ds hs d h.0 is st t k b finished s
      ▸ inside u (some_size_law u left all size h.4) st t k b (declared_name d) t _ _)
  old_law ds hs (params d opening ps dots closing) h is st t k b finished s =
      rw (lists_push (old_declr_named u (linked_some u (declared_name d) s) ds d s).pieces _ finished)
      (old_law ds hs d h.0 is st t k b finished s
      ▸ list_goes u ps (params_law u left all ps h.3) false st t k b (declared_name d) t _ _ None refl)
  old_law ds hs (declr_name token name) h is st t k b finished s = absurd cc
  old_law ds hs (base_name token) h is st t k b finished s = absurd cc
  old_law ds hs (abs_pointer star words d) h is st t k b finished s = absurd cc
  old_law ds hs (abs_paren opening attrs d closing) h is st t k b finished s = absurd cc
  old_law ds hs (abs_array d opening words size closing) h is st t k b finished s = absurd cc
  old_law ds hs (abs_params d opening ps dots closing) h is st t k b finished s = absurd cc
