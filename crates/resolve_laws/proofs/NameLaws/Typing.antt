-- Types by expressions: the ops of a part, gone through with what is known of names behind it, leave the shape of its
-- expression.
use Rattle.std.proofs.Common.{◌≡◌, ℕ, Bool, false, List, [], ◌∷◌, ◌++◌, length, Option, None, Some, refl, ◌∙◌, ap, append_assoc}
use Rattle.std.specs.Prelude.{drop}
use Rattle.std.specs.List.{last_or}
use Rattle.std.proofs.lemmas.List.{append-nil}
use Rattle.std.proofs.Math.Seq.{drop-append_seam}
use Rattle.c_words.specs.declared.kinds.Keyword.{Keyword}
use Rattle.c_syntax.specs.declared.parts.Attr.{Attr}
use Rattle.c_syntax.specs.declared.parts.Word.{Word}
use Rattle.tape_ops.specs.declared.op.Op.{Op}
use Rattle.tape_ops.specs.declared.op.Op.TheVariants as ops
use Rattle.tape_ops.specs.declared.specifier.SpecOp.TheVariants as specs
use Rattle.tape_ops.specs.declared.declarator.DeclrOp.TheVariants as declrs
use Rattle.tape_ops.specs.declared.initialiser.InitOp.TheVariants as inits
use Rattle.tape_ops.specs.declared.statement.StmtOp.TheVariants as stmts
use Rattle.c_tree.specs.Tree.{Expr, SpecWords, SomeDeclr, InitDeclrs, no_init_declrs, more_init_declrs, declr_name, some_init, init_value, typeof_value, typeof_type, base_name}
use Rattle.c_tree.specs.Firsts as tokens
use Rattle.c_tape.specs.Tape.{tape_in, type_name_with, words_tape, some_declr_tape, auto_declrs_tape, auto_init_tape}
use Rattle.type_table.specs.Types.{Words, CType, base, words_of}
use Rattle.name_rules.specs.Spellings.{Spelling, Named, place}
use Rattle.name_rules.specs.Faults.{no_type, fault_where}
use Rattle.name_rules.specs.Scopes.{Names, TypeNamed, with_faults}
use Rattle.name_rules.specs.Pieces.{applied, bare, with_words}
use Rattle.name_rules.specs.Identifiers.{is_unknown}
use Rattle.name_rules.specs.Values.{Shape, value}
use Rattle.name_rules.specs.Declaring.{declared_some, type_named, untagged_number}
use Rattle.name_rules.specs.NameSteps.State.{State, Specifiers, no_specifiers}
use Rattle.name_rules.specs.NameSteps.Steps as steps
use Rattle.name_rules.specs.NameSteps.Steps.{run, names_step, passed_on, bare_or_base, shape_of_part}
use Rattle.name_rules.specs.ShapeSteps.State.{nothing, shape_at}
use Rattle.name_rules.specs.ShapeSteps.Steps as shapes
use Rattle.resolve_laws.specs.ShapeLaws.Laws.{ShapesAreLeft}
use Rattle.type_rules.specs.Naming as names
use Rattle.type_rules.specs.Naming.{Typed, Pieced, expr_named, words_named, some_declr_named, with_typed, with_pieced, auto_declrs_named, auto_named}
use Rattle.type_rules.specs.Shapes.{shape_of}
use Rattle.c_tree.specs.Firsts.{first_word}
use Rattle.resolve_laws.proofs.NameLaws.Running.{between, among_words, declaring, heard, Goes, ◌▸◌, one, stays, run_parts}
use Rattle.resolve_laws.proofs.NameLaws.Saying.{Says}
use Rattle.resolve_laws.proofs.NameLaws.Forms.{WordLaw, SpecsLaw, SomeDeclrLaw, type_name_says}

-- with a part that is open: the specifiers outside, and how many ops are before it
abbrev parted : State → Specifiers → ℕ → State
parted st outer from = record st { parts = record { outer = outer; from = from } ∷ st.parts }

-- these specifiers, which are read on behind a part
abbrev pub reading : State → Specifiers → Names → State
reading st outer s = record st { names = s; specifiers = outer }

-- the ops so far, before a part's first, that one, those of the part and one behind it
regroup : (passed tape : List Op) (first last : Op)
    → ((passed ++ first ∷ []) ++ tape) ++ last ∷ [] ≡ passed ++ (first ∷ (tape ++ last ∷ []))
regroup passed tape first last =
    ap (λ (all : List Op). all ++ last ∷ []) (append_assoc passed (first ∷ []) tape)
    ∙ append_assoc passed (first ∷ tape) (last ∷ [])

-- of all ops up to its end, those of a part are left
own_ops : (passed tape : List Op) (first : Op) → drop (length passed) ((passed ++ first ∷ []) ++ tape) ≡ first ∷ tape
own_ops passed tape first =
    ap (drop (length passed)) (append_assoc passed (first ∷ []) tape) ∙ drop-append_seam passed (first ∷ tape)

last_push : {A : Type 0} (o : Option A) (xs : List A) (x : A) → last_or o (xs ++ x ∷ []) ≡ Some x
last_push o [] x = refl
last_push o (y ∷ xs) x = last_push (Some y) xs x

no_faults : (s : Names) → with_faults [] s ≡ s
no_faults s = ap (λ fs. record s { faults = fs }) (append-nil s.faults)

module _ (u : Spelling) where
  -- A part, begun by an op that notes the ops so far: what the op at its end makes of a state is what is behind it.
  part_goes : (first last : Op) (tape : List Op) (f : Names → Names) (st after : State) (outer : Specifiers) (s : Names)
      → ((passed : List Op) → names_step u (heard passed (reading st outer s)) first
      ≡ heard passed (between (parted st outer (length passed)) s))
      → Says u tape f
      → ((passed : List Op)
      → names_step u (heard ((passed ++ first ∷ []) ++ tape) (between (parted st outer (length passed)) (f s))) last
      ≡ heard ((passed ++ first ∷ []) ++ tape) after)
      → Goes u (first ∷ (tape ++ last ∷ [])) (reading st outer s) after
  part_goes first last tape f st after outer s begins p ends = record { is = gone }
    where
      gone : (passed : List Op) → run u (first ∷ (tape ++ last ∷ [])) (heard passed (reading st outer s))
          ≡ heard (passed ++ (first ∷ (tape ++ last ∷ []))) after
      gone passed =
          ap (λ (it : State). run u (tape ++ last ∷ []) (passed_on first it)) (begins passed)
          ∙ run_parts u tape (last ∷ []) (heard (passed ++ first ∷ []) (between (parted st outer (length passed)) s))
          ∙ ap (run u (last ∷ [])) ((p.goes (parted st outer (length passed)) s).is (passed ++ first ∷ []))
          ∙ ap (passed_on last) (ends passed)
          ∙ ap (λ (all : List Op). heard all after) (regroup passed tape first last)

  -- what a type by an expression is, with the fault where there is none
  typed_same : (token : ℕ) (t : Option CType) (w : Words) (k : List Keyword) (b : Bool) (st : State) (s : Names)
      → among_words st (bare_or_base t) w k b (with_faults (fault_where (is_unknown t) (place u token) no_type) s)
      ≡ among_words st (names.typed_by u token t s).type w k b (names.typed_by u token t s).names
  typed_same token None w k b st s = refl
  typed_same token (Some t) w k b st s = ap (among_words st (bare t) w k b) (no_faults s)

  -- the declarators of names that have the types of their initialisers
  abbrev pub AutoLaw : ℕ → InitDeclrs → Type 0
  AutoLaw semi ds = (st : State) (t : CType) (k : List Keyword) (b : Bool) (finished : List (List CType)) (s : Names)
      → Goes u (auto_declrs_tape semi ds) (declaring st t k b None t finished s)
      (declaring st t k false None t finished (auto_declrs_named u k b semi t ds s))

  -- what a name declared behind its initialiser's value is, with the fault where there is no type
  auto_same : (semi : ℕ) (v : Option CType) (t : CType) (k : List Keyword) (b : Bool) (name : Option Named) (st : State)
      (finished : List (List CType)) (s : Names)
      → declaring st t k false None t finished (declared_some u (untagged_number b t) name k
      (with_words (words_of t) (bare_or_base v)) (with_faults (fault_where (is_unknown v) (place u semi) no_type) s))
      ≡ declaring st t k false None t finished (with_typed (names.typed_by u semi v s)
      (λ bare s. declared_some u (untagged_number b t) name k (with_words (words_of t) bare) s))
  auto_same semi None t k b name st finished s = refl
  auto_same semi (Some v) t k b name st finished s =
      ap (λ (x : Names). declaring st t k false None t finished
      (declared_some u (untagged_number b t) name k (with_words (words_of t) (bare v)) x)) (no_faults s)

  -- the type of the name of a type that was named last
  pub word_typeof_type : (alone : Bool) (word : Word) (opening : ℕ) (ws : SpecWords) (d : SomeDeclr) (closing : ℕ)
      → SpecsLaw u false ws → SomeDeclrLaw u d → WordLaw u alone (typeof_type word opening ws d closing)
  word_typeof_type alone word opening ws d closing p q st t w k b s =
      part_goes (ops.Spec specs.PartBegin) (ops.Spec specs.TypeEnd) _ named st after outer s (λ passed. refl)
      (type_name_says u ws d p q) (λ passed.
      ap (λ (it : Option TypeNamed). heard ((passed ++ ops.Spec specs.PartBegin ∷ [])
      ++ type_name_with (words_tape false ws) (some_declr_tape d) (tokens.first_word ws))
      (among_words st (steps.type_or t it) w k b (named s))) (last_push None found.names.type_names it))
    where
      outer : Specifiers
      outer = record { type = t; words = w; storage = k; is_untagged = b }

      specified : Typed
      specified = words_named u false ws (base []) [] s

      found : Pieced
      found = some_declr_named u d specified.names

      it : TypeNamed
      it = record { at = place u (first_word ws); type = applied found.pieces specified.type }

      named : Names → Names
      named s = with_typed (words_named u false ws (base []) [] s)
          (λ t s. with_pieced (some_declr_named u d s) (λ ps s. type_named (place u (first_word ws)) (applied ps t) s))

      after : State
      after = among_words st (names.word_named u alone (typeof_type word opening ws d closing) t s).type w k b (named s)

module _ (u : Spelling) (left : ShapesAreLeft) where
  -- the shape that the ops of a part leave
  shape_of_ops : (first : Op) (e : Expr) (s : Names) (passed : List Op) (st : State) (outer : Specifiers)
      → shapes.step u s nothing first ≡ nothing
      → shape_of_part u
      (heard ((passed ++ first ∷ []) ++ tape_in false false e) (between (parted st outer (length passed)) s))
      ≡ shape_of u s e
  shape_of_ops first e s passed st outer none =
      ap (λ (tape : List Op). shape_at 0 (shapes.run u s nothing tape)) (own_ops passed (tape_in false false e) first)
      ∙ ap (λ it. shape_at 0 (shapes.run u s it (tape_in false false e))) none
      ∙ ap (shape_at 0) (left u s e false nothing)

  pub word_typeof : (alone : Bool) (keyword opening : ℕ) (e : Expr) (closing : ℕ)
      → Says u (tape_in false false e) (expr_named u false e) → WordLaw u alone (typeof_value keyword opening e closing)
  word_typeof alone keyword opening e closing p st t w k b s =
      one u (ops.Stmt stmts.Quiet) _ (λ passed. refl) ▸ part_goes u (ops.Spec specs.PartBegin)
      (ops.Spec (specs.TypeofEnd closing)) (tape_in false false e) (expr_named u false e) st
      (typed (shape_of u known e).type) outer s (λ passed. refl) p ends ▸ one u (ops.Stmt stmts.Loud) _ (λ passed. refl)
    where
      outer : Specifiers
      outer = record { type = t; words = w; storage = k; is_untagged = b }

      known : Names
      known = expr_named u false e s

      typed : Option CType → State
      typed v = among_words st (names.typed_by u closing v known).type w k b (names.typed_by u closing v known).names

      ends : (passed : List Op)
          → names_step u (heard ((passed ++ ops.Spec specs.PartBegin ∷ []) ++ tape_in false false e)
          (between (parted st outer (length passed)) known)) (ops.Spec (specs.TypeofEnd closing))
          ≡ heard ((passed ++ ops.Spec specs.PartBegin ∷ []) ++ tape_in false false e) (typed (shape_of u known e).type)
      ends passed =
          ap (λ (it : Shape). heard ((passed ++ ops.Spec specs.PartBegin ∷ []) ++ tape_in false false e)
          (among_words st (bare_or_base it.type) w k b
          (with_faults (fault_where (is_unknown it.type) (place u closing) no_type) known)))
          (shape_of_ops (ops.Spec specs.PartBegin) e known passed st outer refl)
          ∙ ap (heard ((passed ++ ops.Spec specs.PartBegin ∷ []) ++ tape_in false false e))
          (typed_same u closing (shape_of u known e).type w k b st known)

  auto_goes : (e : Expr) (semi : ℕ) → Says u (tape_in false false e) (expr_named u false e)
      → (st : State) (t : CType) (k : List Keyword) (b : Bool) (name : Option Named) (m : CType)
      (finished : List (List CType)) (s : Names) (equal : ℕ)
      → Goes u (auto_init_tape semi (some_init equal (init_value e))) (declaring st t k b name m finished s)
      (declaring st t k false None t finished (auto_named u k b semi t name (some_init equal (init_value e)) s))
  auto_goes e semi p st t k b name m finished s equal =
      part_goes u (ops.Declr declrs.AutoBegin) (ops.Declr (declrs.AutoEnd semi)) (tape_in false false e)
      (expr_named u false e)
      (declaring st t k b name m finished s) (typed (value (shape_of u known e))) no_specifiers s
      (λ passed. refl) p ends
      ▸ one u (ops.Init (inits.Value _ _)) _ (λ passed. refl)
    where
      known : Names
      known = expr_named u false e s

      typed : Option CType → State
      typed v = declaring st t k false None t finished (with_typed (names.typed_by u semi v known)
          (λ bare s. declared_some u (untagged_number b t) name k (with_words (words_of t) bare) s))

      ends : (passed : List Op)
          → names_step u (heard ((passed ++ ops.Declr declrs.AutoBegin ∷ []) ++ tape_in false false e)
          (between (parted (declaring st t k b name m finished s) no_specifiers (length passed)) known))
          (ops.Declr (declrs.AutoEnd semi))
          ≡ heard ((passed ++ ops.Declr declrs.AutoBegin ∷ []) ++ tape_in false false e)
          (typed (value (shape_of u known e)))
      ends passed =
          ap (λ (it : Shape). heard ((passed ++ ops.Declr declrs.AutoBegin ∷ []) ++ tape_in false false e)
          (declaring st t k false None t finished (declared_some u (untagged_number b t) name k
          (with_words (words_of t) (bare_or_base (value it)))
          (with_faults (fault_where (is_unknown (value it)) (place u semi) no_type) known))))
          (shape_of_ops (ops.Declr declrs.AutoBegin) e known passed
          (declaring st t k b name m finished s) no_specifiers refl)
          ∙ ap (heard ((passed ++ ops.Declr declrs.AutoBegin ∷ []) ++ tape_in false false e))
          (auto_same u semi (value (shape_of u known e)) t k b name st finished known)

  -- a base word in place of a name declares nothing
  pub auto_base : (attrs attrs2 : List Attr) (token : ℕ) (equal semi : ℕ) (e : Expr)
      → Says u (tape_in false false e) (expr_named u false e)
      → AutoLaw u semi
      (more_init_declrs attrs (base_name token) None attrs2 (some_init equal (init_value e)) no_init_declrs)
  auto_base attrs attrs2 token equal semi e p st t k b finished s =
      stays u _ ▸ auto_goes e semi p st t k b None t finished s equal ▸ stays u _

  pub auto_one : (attrs attrs2 : List Attr) (token name : ℕ) (equal semi : ℕ) (e : Expr)
      → Says u (tape_in false false e) (expr_named u false e)
      → AutoLaw u semi
      (more_init_declrs attrs (declr_name token name) None attrs2 (some_init equal (init_value e)) no_init_declrs)
  auto_one attrs attrs2 token name equal semi e p st t k b finished s =
      one u (ops.Declr (declrs.DeclName token name)) _ (λ passed. refl)
      ▸ auto_goes e semi p st t k b (Some (record { token = token; name = name })) t finished s equal
      ▸ stays u _
