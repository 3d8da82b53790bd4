-- A function that is declared has a skeleton: a declaration that stands directly in a list of parameters stands in own
-- ones.
use Rattle.std.proofs.Common.{◌≡◌, ℕ, Bool, true, false, List, [], ◌∷◌, ◌++◌, map, length, Option, None, Some, refl, sym, ◌∙◌, ap, subst, ◌⊎◌, inl, inr}
use Rattle.std.proofs.lemmas.List.Elements.{All-head, All-tail}
use Rattle.std.specs.Prelude.{All, slice_get, if◌then◌else◌}
use Rattle.c_words.specs.declared.kinds.Keyword.{Keyword}
use Rattle.c_words.specs.declared.kinds.Keyword.TheVariants as keywords
use Rattle.tape_ops.specs.declared.op.Op.{Op}
use Rattle.tape_ops.specs.declared.op.Op.TheVariants as ops
use Rattle.tape_ops.specs.declared.form.FormOp.{FormOp}
use Rattle.tape_ops.specs.declared.form.FormOp.TheVariants as forms
use Rattle.tape_ops.specs.declared.specifier.SpecOp.{SpecOp}
use Rattle.tape_ops.specs.declared.specifier.SpecOp.TheVariants as specs
use Rattle.tape_ops.specs.declared.declarator.DeclrOp.{DeclrOp}
use Rattle.tape_ops.specs.declared.declarator.DeclrOp.TheVariants as declrs
use Rattle.tape_ops.specs.declared.statement.StmtOp.{StmtOp}
use Rattle.tape_ops.specs.declared.statement.StmtOp.TheVariants as stmts
use Rattle.owned_laws.specs.TapeLaws.Marks.{Mark, in_declaration, in_params, in_tag, in_scope, in_quiet, in_part, in_body, is_open, turn, IsBracketed, function_token, ItemsAreBracketed}
use Rattle.type_table.specs.Types.{CType, pointer, words_of}
use Rattle.name_rules.specs.Spellings.{Spelling, Place, place, Named}
use Rattle.name_rules.specs.Faults.{no_type, defined_twice, fault_where}
use Rattle.name_rules.specs.Scopes.{function_role, Declared, declared_at, Names, is_place, with_faults}
use Rattle.name_rules.specs.Values.{value}
use Rattle.name_rules.specs.Pieces.{decayed, with_words}
use Rattle.name_rules.specs.Declaring.{untagged_number, declared_some, declared_param, declared_member, has_word}
use Rattle.name_rules.specs.Identifiers.{Olds, is_typed, is_unknown, number_of_identifier, old_declared, old_declared_some, old_faults}
use Rattle.name_rules.specs.Units.{no_names, unit_begun}
use Rattle.name_rules.specs.NameSteps.State.{OpenDeclaration, State, no_declaration, innermost_or, with_innermost, without_innermost, with_names}
use Rattle.name_rules.specs.NameSteps.Steps.{declaration, body, parameters, shape_of_part, bare_or_base, olds, with_olds, name_ended, name_declared, auto_typed, is_counted, is_plain, specifier_step, declarator_step, statement_step, step, run}
use Rattle.name_rules.specs.NameSteps.Units.{tapes_named}
use Rattle.resolve_laws.specs.NameLaws.NameLaws.{tape_of_source, IsSound}
use Rattle.std.specs.List.{last_or}
use Rattle.name_rules.specs.ShapeSteps.State as shapes
use Rattle.name_rules.specs.ShapeSteps.Steps as shape_steps
use Rattle.row_rules.specs.Starting.{Start, owner_there, named_start, declared_start, some_declared_start, had_name}
use Rattle.row_rules.specs.RowSteps.Rounds.{Naming, a_name, own_param, other_param, identified_param, Rounds, file, naming, round_step}
use Rattle.row_rules.specs.RowSteps.Starting.{around, function_at, naming_has, op_starts, starts_found}
use Rattle.c_tree.specs.declared.lexeme.Lexeme.{Lexeme}
use Rattle.c_tree.specs.Unit.{Item, IsItem}
use Rattle.c_tape.specs.Tape.{item_tape, tape_of}
use Rattle.type_rules.specs.Program.{Source}
use Rattle.constraint_rules.specs.Starts.{items_starts}
use Rattle.constraint_rules.specs.Systems.{starts_among}
use Rattle.row_laws.specs.StartLaws.Laws.{StartsAreFound}
use Rattle.owned_laws.specs.OwnerLaws.Fitting.{start_at}
use Rattle.owned_laws.specs.Names.{FunctionsBegin}
use Rattle.name_rules.proofs.MeaningLaws.Lists.{place_itself}
use Rattle.name_rules.proofs.MeaningLaws.Growing.{adds_some, names, names_kept, used_same, tag_body_same, untagged_same, keep_same, old_faults_same, entered_same, expr_declarations, expr_same}
use Rattle.owned_laws.proofs.ScopeLaws.Places.{declared_place}
use Rattle.owned_laws.proofs.Opening.{shape_opens}
use Rattle.owned_laws.proofs.Contexts.{HasSome, may_declare, Aligned, aligned, outer_aligned, takes_naming}
use Rattle.owned_laws.proofs.TapeLaws.Turns.{declares_its, Declaring, quiet_was, tag_was, scope_was, declaration_was, params_were, named_was, begun_was, param_was, declared_was, member_was, body_begins, body_was, part_was, identified_was, old_was, AutoEnding, auto_was}

-- a skeleton begins there

abbrev Has : List Start → Place → Type 0
Has xs p = start_at xs p ≡ None → ⊥

-- what begins in the first of two lists of skeletons begins in both together
has_left : (xs ys : List Start) (p : Place) → Has xs p → Has (xs ++ ys) p
has_left xs ys p h none = h (left xs ys p none)
  where
    left : (xs ys : List Start) (p : Place) → start_at (xs ++ ys) p ≡ None → start_at xs p ≡ None
    left [] ys p e = refl
    left (x ∷ xs) ys p e = by (is_place x.at p) e (left xs ys p)
      where
        by : (b : Bool) → (if b then Some x else start_at (xs ++ ys) p) ≡ None →
            (start_at (xs ++ ys) p ≡ None → start_at xs p ≡ None) → (if b then Some x else start_at xs p) ≡ None
        by true e next = absurd cc
        by false e next = next e

-- what begins in the second of two lists of skeletons begins in both together
has_right : (xs ys : List Start) (p : Place) → Has ys p → Has (xs ++ ys) p
has_right [] ys p h none = h none
has_right (x ∷ xs) ys p h none = by (is_place x.at p) none (has_right xs ys p h)
  where
    by : (b : Bool) → (if b then Some x else start_at (xs ++ ys) p) ≡ None → (start_at (xs ++ ys) p ≡ None → ⊥) → ⊥
    by true e next = absurd cc
    by false e next = next e

module _ (s : Names) (starts : List Start) where
  -- a function that is declared there has a skeleton there
  abbrev Begun : Place → Type 0
  Begun p = (d : Declared) → declared_at s.declared p ≡ Some d → d.role ≡ function_role → Has starts p

  abbrev AllBegun : List Declared → Type 0
  AllBegun [] = Unit {0}
  AllBegun (d ∷ ds) = (d.role ≡ function_role → Begun d.at) × AllBegun ds

  one_more : (ds : List Declared) (d : Declared) → AllBegun ds → (d.role ≡ function_role → Begun d.at) →
      AllBegun (ds ++ d ∷ [])
  one_more [] d h k = (k, tt)
  one_more (x ∷ ds) d h k = (h.0, one_more ds d h.1 k)

  abbrev NameBegins : Spelling → List Mark → Option Named → Type 0
  NameBegins u m None = Unit {0}
  NameBegins u m (Some it) = may_declare m ≡ true → Begun (place u it.token)

  -- of each declaration that may declare a function the name has a skeleton
  abbrev NamesBegin : Spelling → List Mark → List (Option Named) → Type 0
  NamesBegin u [] ds = Unit {0}
  NamesBegin u (in_declaration x c own ∷ m) [] = ⊥
  NamesBegin u (in_declaration x c own ∷ m) (d ∷ ds) = NameBegins u m d × NamesBegin u m ds
  NamesBegin u (mark ∷ m) ds = NamesBegin u m ds

  -- at the name of a declarator

  abbrev the_start : Option Place → Declared → Start
  the_start f d = record { at = d.at; type = pointer [] d.type; owner = owner_there s f d; calls = None }

  named_there : (f : Option Place) (d : Declared) (p : Place) → d.at ≡ p → start_at (named_start s f d) p ≡ None → ⊥
  named_there f d p at none =
      by (is_place d.at p) (subst (λ (q : Place). is_place d.at q ≡ true) at (place_itself d.at)) none
    where
      by : (b : Bool) → b ≡ true → (if b then Some (the_start f d) else None) ≡ None → ⊥
      by true e none = cc
      by false e none = cc

  -- the function around it
  abbrev around_it : Spelling → Rounds → Naming → Option Place
  around_it u r a_name = function_at u s r.body
  around_it u r (own_param g n) = function_at u s g
  around_it u r other_param = None
  around_it u r (identified_param g) = function_at u s g

  had_there : (u : Spelling) (r : Rounds) (token : ℕ) (it : Naming) → HasSome it →
      had_name (naming_has u s it) (around u s r) token
      ≡ some_declared_start s (around_it u r it) (declared_at s.declared (place u token))
  had_there u r token a_name h = refl
  had_there u r token (own_param g n) h = refl
  had_there u r token other_param h = absurd h
  had_there u r token (identified_param g) h = refl

  name_begins : (u : Spelling) (r : Rounds) (token : ℕ) → HasSome (naming r) →
      ((p : Place) → Has (had_name (naming_has u s (naming r)) (around u s r) token) p → Has starts p) →
      Begun (place u token)
  name_begins u r token e inside d there role =
      inside (place u token)
      (λ none. named_there f d (place u token) (declared_place s.declared (place u token) d there)
      (ap (λ (xs : List Start). start_at xs (place u token)) (sym same) ∙ none))
    where
      f : Option Place
      f = around_it u r (naming r)

      same : had_name (naming_has u s (naming r)) (around u s r) token ≡ named_start s f d
      same =
          had_there u r token (naming r) e ∙ (ap (some_declared_start s f) there ∙ ap (declared_start s f d) role)

  -- steps

  back : (u : Spelling) (m n : List Mark) (ds : List (Option Named)) → m ≡ n → NamesBegin u m ds → NamesBegin u n ds
  back u m n ds same h = subst (λ (it : List Mark). NamesBegin u it ds) same h

  moved : (u : Spelling) (m n : List Mark) (ds : List (Option Named)) → Some m ≡ Some n → NamesBegin u m ds →
      NamesBegin u n ds
  moved u m n ds e h = let same : m ≡ n = cc in back u m n ds same h

  left_declaration : (u : Spelling) (x c : Option ℕ) (own : Bool) (n : List Mark) (ds : List OpenDeclaration) →
      NamesBegin u (in_declaration x c own ∷ n) (names ds) → NamesBegin u n (names (without_innermost ds))
  left_declaration u x c own n [] h = absurd h
  left_declaration u x c own n (d ∷ ds) h = h.1

  -- another name of the innermost declaration
  renamed : (u : Spelling) (x c x2 c2 : Option ℕ) (own own2 : Bool) (n : List Mark) (ds : List OpenDeclaration)
      (d : OpenDeclaration) → NamesBegin u (in_declaration x c own ∷ n) (names ds) → NameBegins u n d.name →
      NamesBegin u (in_declaration x2 c2 own2 ∷ n) (names (with_innermost d ds))
  renamed u x c x2 c2 own own2 n [] d h k = absurd h
  renamed u x c x2 c2 own own2 n (it ∷ ds) d h k = (k, h.1)

  -- what the mark of a declaration says does not matter
  marked : (u : Spelling) (x c : Option ℕ) (own own2 : Bool) (n : List Mark) (ds : List (Option Named)) →
      NamesBegin u (in_declaration x c own ∷ n) ds → NamesBegin u (in_declaration x c own2 ∷ n) ds
  marked u x c own own2 n [] h = absurd h
  marked u x c own own2 n (it ∷ ds) h = h

  kept_name : (u : Spelling) (m : List Mark) (ds : List OpenDeclaration) (t : CType) → NamesBegin u m (names ds) →
      NamesBegin u m (names (with_innermost (record (innermost_or no_declaration ds) { declared = t }) ds))
  kept_name u m ds t h = subst (λ (it : List (Option Named)). NamesBegin u m it) (sym (names_kept ds t)) h

  module _ (u : Spelling) (t : Option ℕ) (m n : List Mark) (st : State) (r : Rounds) (ods : List shapes.OpenDeclaration)
      (h : NamesBegin u m (names st.declarations)) where
    abbrev ds : List OpenDeclaration
    ds = st.declarations

    form_names : (op : FormOp) → turn t m (ops.Form op) ≡ Some n → NamesBegin u n (names ds)
    form_names (forms.Sizeof token) e = back u m (in_quiet ∷ n) (names ds) (quiet_was m n e) h
    form_names (forms.Offset token) e = back u m (in_quiet ∷ n) (names ds) (quiet_was m n e) h
    form_names (forms.Compat token) e = back u m (in_quiet ∷ n) (names ds) (quiet_was m n e) h
    form_names forms.Control e = back u m (in_quiet ∷ n) (names ds) (quiet_was m n e) h
    form_names op e = moved u m n (names ds) e h

    spec_names : (op : SpecOp) → turn t m (ops.Spec op) ≡ Some n →
        NamesBegin u n (names (specifier_step u st op).declarations)
    spec_names (specs.TagBody kind token name) e = moved u (in_tag ∷ m) n (names ds) e h
    spec_names (specs.Untagged kind token) e = moved u (in_tag ∷ m) n (names ds) e h
    spec_names specs.BodyEnd e = back u m (in_tag ∷ n) (names ds) (tag_was m n e) h
    spec_names specs.PartBegin e = moved u (in_part ∷ m) n (names ds) e h
    spec_names (specs.TypeofEnd token) e = back u m (in_part ∷ n) (names ds) (part_was m n e) h
    spec_names specs.TypeEnd e = back u m (in_part ∷ n) (names ds) (part_was m n e) h
    spec_names specs.SpecsEnd e = moved u (in_declaration None None false ∷ m) n (None ∷ names ds) e (tt, h)
    spec_names op e = moved u m n (names ds) e h

    -- in a declaration

    here : (d : Declaring m) → NamesBegin u (in_declaration d.name d.last d.own ∷ d.outer) (names ds)
    here d = back u m (in_declaration d.name d.last d.own ∷ d.outer) (names ds) d.is h

    gone : (d : Declaring m) → n ≡ d.outer → NamesBegin u n (names (without_innermost ds))
    gone d is =
        back u d.outer n (names (without_innermost ds)) (sym is)
        (left_declaration u d.name d.last d.own d.outer ds (here d))

    named_now : (d : Declaring m) (x c : Option ℕ) (new : OpenDeclaration) → n ≡ in_declaration x c d.own ∷ d.outer →
        NameBegins u d.outer new.name → NamesBegin u n (names (with_innermost new ds))
    named_now d x c new is k =
        back u (in_declaration x c d.own ∷ d.outer) n (names (with_innermost new ds)) (sym is)
        (renamed u d.name d.last x c d.own d.own d.outer ds new (here d) k)

    closed_now : turn t m (ops.Declr declrs.DeclarationEnd) ≡ Some n → NamesBegin u n (names (without_innermost ds))
    closed_now e = let was = declaration_was m n e in gone was.0 was.1

    -- behind the name that comes, where its declaration may declare
    abbrev NextBegins : ℕ → Type 0
    NextBegins token = (d : Declaring m) → may_declare d.outer ≡ true → Begun (place u token)

    -- behind a name of the type of its initialiser
    auto_names : AutoEnding m n → (type : CType) (new : OpenDeclaration) → new.name ≡ None →
        NamesBegin u n (names (with_innermost new (with_innermost (record (declaration st) { declared = type }) ds)))
    auto_names it type new unnamed =
        let d = it.declaring in
        let open_ = with_innermost (record (declaration st) { declared = type }) ds in
        let inner = back u it.inner (in_declaration d.name d.last d.own ∷ d.outer) (names ds) d.is
        (back u m (in_part ∷ it.inner) (names ds) it.was h) in
        back u (in_declaration None d.name d.own ∷ d.outer) n (names (with_innermost new open_)) (sym it.is)
        (renamed u d.name d.last None d.name d.own d.own d.outer open_ new
        (kept_name u (in_declaration d.name d.last d.own ∷ d.outer) ds type inner)
        (subst (NameBegins u d.outer) (sym unnamed) tt))

    -- behind a declaration behind a list of identifiers
    old_names : (d : Declaring m) → n ≡ in_declaration None d.name d.own ∷ d.outer → (it : Olds) (b : Bool) →
        NamesBegin u n (names (if b then name_declared u st else name_ended (with_olds it st)).declarations)
    old_names d is it true =
        named_now d None d.name
        (record (declaration st) { is_untagged = false; name = None; declared = (declaration st).type }) is tt
    old_names d is it false =
        named_now d None d.name
        (record (declaration st) { is_untagged = false; name = None; declared = (declaration st).type }) is tt

    declr_names : (op : DeclrOp) → turn t m (ops.Declr op) ≡ Some n →
        ((token name : ℕ) → op ≡ declrs.DeclName token name → NextBegins token) →
        NamesBegin u n (names (declarator_step u st op).declarations)
    declr_names (declrs.DeclName token name) e begins =
        let was = named_was token m n e in
        named_now was.0 (Some token) was.0.last
        (record (declaration st) { name = Some (record { token = token; name = name }) }) was.1
        (begins token name refl was.0)
    declr_names (declrs.ParamsBegin is_own) e begins =
        back u (in_params is_own ∷ m) n (names ds) (sym (begun_was t is_own m n e).is) h
    declr_names declrs.Param e begins = let was = param_was m n e in gone was.0 (was.4 ∙ sym was.3)
    declr_names declrs.ParamsEnd e begins =
        let it = params_were m n e in
        let own = if it.params then true else it.own in
        back u (in_declaration it.name it.last own ∷ it.outer) n (names ds) (sym it.is)
        (marked u it.name it.last it.own own it.outer (names ds)
        (back u m (in_params it.params ∷ (in_declaration it.name it.last it.own ∷ it.outer)) (names ds) it.was h))
    declr_names declrs.Pointer e begins = kept_name u n ds _ (moved u m n (names ds) e h)
    declr_names declrs.Array e begins = kept_name u n ds _ (moved u m n (names ds) e h)
    declr_names (declrs.Function has_ellipsis) e begins = kept_name u n ds _ (moved u m n (names ds) e h)
    declr_names declrs.Declare e begins =
        let was = declared_was m n e in
        named_now was.0 None was.0.name
        (record (declaration st) { is_untagged = false; name = None; declared = (declaration st).type }) was.1 tt
    declr_names declrs.AutoBegin e begins = moved u (in_part ∷ m) n (names ds) e h
    declr_names (declrs.AutoEnd token) e begins = auto_names (auto_was m n e) _ _ refl
    declr_names (declrs.Identifier token name) e begins =
        back u m n (names ds) (sym (identified_was m n e).2) h
    declr_names declrs.OldParam e begins =
        let was = old_was m n e in
        old_names was.0 was.3 (old_declared_some u (parameters st).own (declaration st).name
        (decayed (declaration st).declared) (olds st)) (has_word keywords.Typedef (declaration st).storage)
    declr_names declrs.Member e begins =
        let was = member_was m n e in
        named_now was.0 None was.0.last
        (record (declaration st) { name = None; declared = (declaration st).type }) was.1 tt
    declr_names (declrs.TypeName first) e begins = closed_now e
    declr_names declrs.DeclarationEnd e begins = closed_now e

    stmt_names : (op : StmtOp) → turn t m (ops.Stmt op) ≡ Some n →
        NamesBegin u n (names (statement_step u st op).declarations)
    stmt_names stmts.Quiet e = moved u (in_quiet ∷ m) n (names ds) e h
    stmt_names stmts.Loud e = back u m (in_quiet ∷ n) (names ds) (quiet_was m n e) h
    stmt_names stmts.Enter e = moved u (in_scope ∷ m) n (names ds) e h
    stmt_names stmts.Leave e = back u m (in_scope ∷ n) (names ds) (scope_was m n e) h
    stmt_names stmts.FunctionBody e = back u (in_body ∷ m) n (names ds) (sym (body_begins t m n e).3) h
    stmt_names stmts.FunctionEnd e =
        let was = body_was m n e in
        back u (in_declaration was.0 was.1 false ∷ was.3) n (names ds) (sym was.5)
        (marked u was.0 was.1 was.2 false was.3 (names ds)
        (back u m (in_body ∷ (in_declaration was.0 was.1 was.2 ∷ was.3)) (names ds) was.4 h))
    stmt_names op e = moved u m n (names ds) e h

    name_there : (sst : shapes.State) (op : DeclrOp) → Aligned t m ods r.around →
        ((p : Place) → Has (op_starts u s sst r (ops.Declr op)) p → Has starts p) → (token name : ℕ) →
        op ≡ declrs.DeclName token name → NextBegins token
    name_there sst op same inside token name is d o =
        name_begins u r token
        (takes_naming t d.outer (shapes.without_innermost ods) r.around o (outer_aligned t m n ods r same d))
        (subst (λ (it : DeclrOp). (p : Place) → Has (op_starts u s sst r (ops.Declr it)) p → Has starts p) is inside)

    names_begin : (sst : shapes.State) (op : Op) → Aligned t m ods r.around → turn t m op ≡ Some n →
        ((p : Place) → Has (op_starts u s sst r op) p → Has starts p) →
        NamesBegin u n (names (step u st op).declarations)
    names_begin sst (ops.Expr op) same e inside =
        subst (λ (it : List OpenDeclaration). NamesBegin u n (names it)) (sym (expr_declarations u st op))
        (moved u m n (names ds) e h)
    names_begin sst (ops.Form op) same e inside = form_names op e
    names_begin sst (ops.Init op) same e inside = moved u m n (names ds) e h
    names_begin sst (ops.Spec op) same e inside = spec_names op e
    names_begin sst (ops.Declr op) same e inside = declr_names op e (name_there sst op same inside)
    names_begin sst (ops.Stmt op) same e inside = stmt_names op e

    -- declarations

    same_begun : (new : List Declared) → new ≡ st.names.declared → AllBegun st.names.declared → AllBegun new
    same_begun new is k = subst AllBegun (sym is) k

    top_begins : (x c : Option ℕ) (own : Bool) (outer : List Mark) (xs : List OpenDeclaration) →
        NamesBegin u (in_declaration x c own ∷ outer) (names xs)
        → NameBegins u outer (innermost_or no_declaration xs).name
    top_begins x c own outer [] k = absurd k
    top_begins x c own outer (d ∷ xs) k = k.0

    some_begun : (outer : List Mark) (old : Names) (untagged : Option ℕ) (it : Option Named)
        (words : List Keyword) (t : CType) →
        may_declare outer ≡ true → NameBegins u outer it → AllBegun old.declared →
        AllBegun (declared_some u untagged it words t old).declared
    some_begun outer old untagged None words t o begins k = k
    some_begun outer old untagged (Some it) words t o begins k =
        let adds = adds_some u untagged (Some it) words t old in
        subst AllBegun (sym adds.2)
        (one_more old.declared adds.0 k (λ role. subst Begun (sym adds.1) (begins o)))

    param_begun : (old : Names) (it : Option Named) (i : ℕ) (own : Option Place) (t : CType) → AllBegun old.declared →
        AllBegun (declared_param u it i own t old).declared
    param_begun old None i own t k = k
    param_begun old (Some it) i own t k = one_more old.declared _ k (λ role. absurd cc)

    open_may : (outer : List Mark) → is_open outer ≡ true → may_declare outer ≡ true
    open_may [] o = refl
    open_may (in_scope ∷ outer) o = refl
    open_may (in_body ∷ outer) o = refl
    open_may (in_declaration x c own ∷ outer) o = absurd cc
    open_may (in_params own ∷ outer) o = absurd cc
    open_may (in_tag ∷ outer) o = absurd cc
    open_may (in_quiet ∷ outer) o = absurd cc
    open_may (in_part ∷ outer) o = absurd cc

    own_may : (d outer : List Mark) → d ≡ in_params true ∷ outer → may_declare d ≡ true
    own_may d outer is = ap may_declare is

    may : (d : List Mark) → (is_open d ≡ true) ⊎ ((outer : List Mark) × (d ≡ in_params true ∷ outer))
        → may_declare d ≡ true
    may d (inl o) = open_may d o
    may d (inr own) = own_may d own.0 own.1

    auto_begun : (token : ℕ) (type : Option CType) → AutoEnding m n → AllBegun st.names.declared →
        AllBegun (auto_typed u token type st).names.declared
    auto_begun token type it k =
        let d = it.declaring in
        let t = with_words (words_of (declaration st).type) (bare_or_base type) in
        let open_ = with_innermost (record (declaration st) { declared = t }) ds in
        let inner = back u it.inner (in_declaration d.name d.last d.own ∷ d.outer) (names ds) d.is
        (back u m (in_part ∷ it.inner) (names ds) it.was h) in
        some_begun d.outer (with_faults (fault_where (is_unknown type) (place u token) no_type) st.names) _ _ _ _
        (may d.outer it.takes)
        (top_begins d.name d.last d.own d.outer open_
        (kept_name u (in_declaration d.name d.last d.own ∷ d.outer) ds t inner)) k

    old_begun : (own : Option Place) (it : Option Named) (t : CType) (its : Olds) → AllBegun its.names.declared →
        AllBegun (old_declared_some u own it t its).names.declared
    old_begun own None t its k = k
    old_begun own (Some it) t its k = by (number_of_identifier (u.key it.name) its.list)
      where
        by : (i : Option ℕ) → AllBegun (old_declared u own it t i its).names.declared
        by None = k
        by (Some i) =
            param_begun
            (with_faults (fault_where (is_typed (slice_get its.list i)) (place u it.token) defined_twice) its.names)
            (Some it) i own t k

    name_begun : (d : Declaring m) → may_declare d.outer ≡ true → AllBegun st.names.declared →
        AllBegun (name_declared u st).names.declared
    name_begun d o k =
        some_begun d.outer st.names (untagged_number (declaration st).is_untagged (declaration st).type)
        (declaration st).name
        (declaration st).storage (declaration st).declared o
        (top_begins d.name d.last d.own d.outer ds (here d)) k

    old_param_begun : (d : Declaring m) → may_declare d.outer ≡ true → AllBegun st.names.declared → (b : Bool) →
        AllBegun (if b then name_declared u st else name_ended (with_olds (old_declared_some u (parameters st).own
        (declaration st).name (decayed (declaration st).declared) (olds st)) st)).names.declared
    old_param_begun d o k true = name_begun d o k
    old_param_begun d o k false =
        old_begun (parameters st).own (declaration st).name (decayed (declaration st).declared) (olds st) k

    member_begun : (it : Option Named) (number : ℕ) (t : CType) → AllBegun st.names.declared →
        AllBegun (declared_member u it number t st.names).declared
    member_begun None number t k = k
    member_begun (Some it) number t k = one_more st.names.declared _ k (λ role. absurd cc)

    spec_begun : (op : SpecOp) → AllBegun st.names.declared → AllBegun (specifier_step u st op).names.declared
    spec_begun (specs.TagUse kind token name) k = same_begun _ (used_same u false kind token name st.names) k
    spec_begun (specs.TagAlone kind token name) k = same_begun _ (used_same u true kind token name st.names) k
    spec_begun (specs.TagBody kind token name) k = same_begun _ (tag_body_same u st kind token name) k
    spec_begun (specs.Untagged kind token) k = same_begun _ (untagged_same u st kind token) k
    spec_begun (specs.Enumerator token name) k = one_more st.names.declared _ k (λ role. absurd cc)
    spec_begun (specs.UnnamedMember token) k = one_more st.names.declared _ k (λ role. absurd cc)
    spec_begun op k = k

    declr_begun : (op : DeclrOp) → turn t m (ops.Declr op) ≡ Some n → AllBegun st.names.declared →
        AllBegun (declarator_step u st op).names.declared
    declr_begun declrs.Param e k =
        param_begun st.names (declaration st).name (length (parameters st).types) (parameters st).own
        (decayed (declaration st).declared) k
    declr_begun declrs.ParamsEnd e k =
        same_begun _ (keep_same (parameters st).own (old_faults u (parameters st).identifiers st.names)
        ∙ old_faults_same u (parameters st).identifiers st.names) k
    declr_begun declrs.Declare e k =
        let was = declared_was m n e in name_begun was.0 (open_may was.0.outer was.2) k
    declr_begun (declrs.AutoEnd token) e k = auto_begun token (value (shape_of_part u st)) (auto_was m n e) k
    declr_begun declrs.OldParam e k =
        let was = old_was m n e in
        old_param_begun was.0 (own_may was.0.outer was.1 was.2) k (has_word keywords.Typedef (declaration st).storage)
    declr_begun declrs.Member e k =
        member_begun (declaration st).name (body st).members_of (declaration st).declared k
    declr_begun op e k = k

    stmt_begun : (op : StmtOp) → AllBegun st.names.declared → AllBegun (statement_step u st op).names.declared
    stmt_begun stmts.FunctionBody k =
        same_begun _ (entered_same (is_plain st) (is_counted u st) (last_or None st.names.declared) st.names) k
    stmt_begun op k = k

    all_begun : (op : Op) → turn t m op ≡ Some n → AllBegun st.names.declared → AllBegun (step u st op).names.declared
    all_begun (ops.Expr op) e k = same_begun _ (expr_same u st op) k
    all_begun (ops.Form op) e k = k
    all_begun (ops.Init op) e k = k
    all_begun (ops.Spec op) e k = spec_begun op k
    all_begun (ops.Declr op) e k = declr_begun op e k
    all_begun (ops.Stmt op) e k = stmt_begun op k

  -- behind the tape of an item comes more
  item_begun : (u : Spelling) (t : Option ℕ) (more : List Op) →
      ((st : State) (sst : shapes.State) (r : Rounds) → r.around ≡ [] → AllBegun st.names.declared →
      ((p : Place) → Has (starts_found u s sst r more) p → Has starts p) → AllBegun (run u more st).names.declared) →
      (tape : List Op) (m : List Mark) (st : State) (sst : shapes.State) (r : Rounds) → IsBracketed t m tape [] →
      Aligned t m sst.declarations r.around → NamesBegin u m (names st.declarations) → AllBegun st.names.declared →
      ((p : Place) → Has (starts_found u s sst r (tape ++ more)) p → Has starts p) →
      AllBegun (run u (tape ++ more) st).names.declared
  item_begun u t more next [] m st sst r b same h k inside =
      next st sst r (subst (λ (it : List Mark). Aligned t it sst.declarations r.around) b same) k inside
  item_begun u t more next (op ∷ tape) m st sst r b same h k inside =
      item_begun u t more next tape b.0 (step u st op) (shape_steps.step u s sst op) next_round b.2
      (subst (λ (ds : List shapes.OpenDeclaration). Aligned t b.0 ds next_round.around) (sym (shape_opens u s sst op))
      (aligned t m b.0 sst.declarations r same op b.1))
      (names_begin u t m b.0 st r sst.declarations h sst op same b.1
      (λ p has. inside p (has_left (op_starts u s sst r op)
      (starts_found u s (shape_steps.step u s sst op) next_round (tape ++ more)) p has)))
      (all_begun u t m b.0 st r sst.declarations h op b.1 k)
      (λ p has. inside p (has_right (op_starts u s sst r op)
      (starts_found u s (shape_steps.step u s sst op) next_round (tape ++ more)) p has))
    where
      next_round : Rounds
      next_round = round_step sst.declarations r op

  module _ (bracketed : ItemsAreBracketed) (begins : StartsAreFound) where
    items_begun : (u : Spelling) (all : List Lexeme) (items : List Item) → All (IsItem all) items →
        (st : State) (sst : shapes.State) (r : Rounds) → r.around ≡ [] → AllBegun st.names.declared →
        ((p : Place) → Has (starts_found u s sst r (tape_of items)) p → Has starts p) →
        AllBegun (run u (tape_of items) st).names.declared
    items_begun u all [] well st sst r h k inside = k
    items_begun u all (item ∷ items) well st sst r h k inside =
        item_begun u (function_token item) (tape_of items)
        (items_begun u all items (All-tail (IsItem all) item items well)) (item_tape item) [] st sst r
        (bracketed item (declares_its all item (All-head (IsItem all) item items well))) h tt k inside

    sources_begun : (access : Bool) (sources : List Source) (old : Names) → All IsSound sources
        → AllBegun old.declared →
        ((p : Place) → Has (starts_among access s sources) p → Has starts p) →
        AllBegun (tapes_named (map tape_of_source sources) old).declared
    sources_begun access [] old sound k inside = k
    sources_begun access (it ∷ sources) old sound k inside =
        let unit = All-head IsSound it sources sound in
        sources_begun access sources _ (All-tail IsSound it sources sound)
        (items_begun it.spelling unit.0 it.items unit.1.parts
        (with_names (unit_begun it.spelling.unit old)) shapes.nothing
        (file access) refl k
        (subst (λ (xs : List Start). (p : Place) → Has xs p → Has starts p)
        (sym (begins access it.spelling s unit.0 it.items unit.1))
        (λ p has.
        inside p (has_left (items_starts access it.spelling s it.items) (starts_among access s sources) p has))))
        (λ p has.
        inside p (has_right (items_starts access it.spelling s it.items) (starts_among access s sources) p has))

  begun_found : (ds : List Declared) (p : Place) (d : Declared) → AllBegun ds → declared_at ds p ≡ Some d →
      d.role ≡ function_role → Begun d.at
  begun_found [] p d k e role = absurd cc
  begun_found (x ∷ ds) p d k e role = by (is_place x.at p) e (begun_found ds p d k.1)
    where
      by : (b : Bool) → (if b then Some x else declared_at ds p) ≡ Some d →
          (declared_at ds p ≡ Some d → d.role ≡ function_role → Begun d.at) → Begun d.at
      by true e next =
          let same : x ≡ d = cc in
          subst (λ (it : Declared). it.role ≡ function_role → Begun it.at) same k.0 role
      by false e next = next e role

  pub functions_begin : ItemsAreBracketed → StartsAreFound → (access : Bool) (sources : List Source)
      → All IsSound sources →
      tapes_named (map tape_of_source sources) no_names ≡ s → starts_among access s sources ≡ starts →
      FunctionsBegin starts s
  functions_begin bracketed begins access sources sound named all p d e role own none =
      begun_found s.declared p d
      (subst (λ (it : Names). AllBegun it.declared) named
      (sources_begun bracketed begins access sources no_names sound tt
      (subst (λ (xs : List Start). (q : Place) → Has (starts_among access s sources) q → Has xs q) all (λ q has. has))))
      e role d (subst (λ (q : Place). declared_at s.declared q ≡ Some d) (sym (declared_place s.declared p d e)) e) role
      none
