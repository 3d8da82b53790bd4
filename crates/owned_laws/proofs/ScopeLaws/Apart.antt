-- Declarations are at different places, and at no token of an expression, where the places at which skeletons may begin
-- differ.
use Rattle.std.proofs.Common.{◌≡◌, ◌⊎◌, inl, inr, ℕ, Bool, true, false, List, [], ◌∷◌, ◌++◌, map, length, Option, None, Some, refl, sym, ◌∙◌, ap, subst, append_assoc, append-nil}
use Rattle.std.specs.Prelude.{slice_get, if◌then◌else◌}
use Rattle.std.specs.List.{last_or}
use Rattle.c_words.specs.declared.kinds.Keyword.TheVariants as keywords
use Rattle.tape_ops.specs.declared.op.Op.{Op}
use Rattle.tape_ops.specs.declared.op.Op.TheVariants as ops
use Rattle.tape_ops.specs.declared.specifier.SpecOp.{SpecOp}
use Rattle.tape_ops.specs.declared.specifier.SpecOp.TheVariants as specs
use Rattle.tape_ops.specs.declared.declarator.DeclrOp.{DeclrOp}
use Rattle.tape_ops.specs.declared.declarator.DeclrOp.TheVariants as declrs
use Rattle.tape_ops.specs.declared.statement.StmtOp.{StmtOp}
use Rattle.tape_ops.specs.declared.statement.StmtOp.TheVariants as stmts
use Rattle.type_table.specs.Types.{CType, words_of}
use Rattle.name_rules.specs.Spellings.{Spelling, Place, place, Named}
use Rattle.name_rules.specs.Faults.{no_type, defined_twice, fault_where}
use Rattle.name_rules.specs.Scopes.{Declared, declared_at, Names, is_place, with_faults}
use Rattle.name_rules.specs.Values.{value}
use Rattle.name_rules.specs.Pieces.{decayed, with_words}
use Rattle.name_rules.specs.Declaring.{untagged_number, has_word}
use Rattle.name_rules.specs.Identifiers.{is_typed, is_unknown, number_of_identifier, old_declared, old_declared_some, old_faults}
use Rattle.name_rules.specs.Units.{no_names, unit_begun}
use Rattle.name_rules.specs.NameSteps.State.{OpenDeclaration, State, no_declaration, innermost_or, with_innermost, without_innermost, with_names}
use Rattle.name_rules.specs.NameSteps.Steps.{declaration, body, parameters, expression_step, specifier_step, declarator_step, shape_of_part, bare_or_base, olds, with_olds, name_ended, name_declared, auto_typed, is_counted, is_plain, statement_step, step, run}
use Rattle.name_rules.specs.NameSteps.Units.{tapes_named}
use Rattle.resolve_laws.specs.NameLaws.NameLaws.{tape_of_source, NamesOfTapes}
use Rattle.c_tape.specs.Tape.{tape_of}
use Rattle.type_rules.specs.Program.{Source, names_of}
use Rattle.row_rules.specs.Sites.{AreDifferent, has_place}
use Rattle.name_rules.specs.MeaningLaws.Meanings.{Differ}
use Rattle.row_laws.specs.KeyLaws.Keys.{fresh_key, op_key, spec_key, declr_key, key_place, key_places, KeyIsApart, KeysAreApart}
use Rattle.row_laws.specs.KeyLaws.Differing.{keys_among}
use Rattle.name_rules.proofs.MeaningLaws.Lists.{place_is, other_way}
use Rattle.name_rules.proofs.MeaningLaws.Growing.{Adds, adds_some, adds_param, adds_member, names, names_kept, used_same, tag_body_same, untagged_same, keep_same, old_faults_same, entered_same, expr_declarations, expr_same}
use Rattle.owned_laws.specs.ScopeLaws.Apart.{AllApart, DeclarationsDiffer, NamesAreApart}
use Rattle.owned_laws.proofs.ScopeLaws.Places.{not_same, last_or_before, tail_has, tail_has_not, head_has_not, has_not, has_not_left, has_not_right, has_left, has_right, has_itself, differ_before}

-- declarations

-- a place where nothing is declared stays so behind one declaration more that is not there
none_more : (ds : List Declared) (d : Declared) (q : Place) → declared_at ds q ≡ None → is_place d.at q ≡ false →
    declared_at (ds ++ d ∷ []) q ≡ None
none_more [] d q e k = ap (λ (b : Bool). if b then Some d else None) k
none_more (x ∷ ds) d q e k = by (is_place x.at q) e (λ h. none_more ds d q h k)
  where
    by : (b : Bool) → (if b then Some x else declared_at ds q) ≡ None →
        (declared_at ds q ≡ None → declared_at (ds ++ d ∷ []) q ≡ None) →
        (if b then Some x else declared_at (ds ++ d ∷ []) q) ≡ None
    by true e next = absurd cc
    by false e next = next e

-- where nothing is declared at a place, the first declaration is not there
not_head : (x : Declared) (ds : List Declared) (q : Place) → declared_at (x ∷ ds) q ≡ None → is_place x.at q ≡ false
not_head x ds q e = by (is_place x.at q) e
  where
    by : (b : Bool) → (if b then Some x else declared_at ds q) ≡ None → b ≡ false
    by true e = absurd cc
    by false e = refl

-- where nothing is declared at a place, nothing is behind the first declaration either
not_tail : (x : Declared) (ds : List Declared) (q : Place) → declared_at (x ∷ ds) q ≡ None → declared_at ds q ≡ None
not_tail x ds q e = by (is_place x.at q) e
  where
    by : (b : Bool) → (if b then Some x else declared_at ds q) ≡ None → declared_at ds q ≡ None
    by true e = absurd cc
    by false e = e

-- declarations at different places differ with one more at a place where nothing is declared
differ_more : (ds : List Declared) (d : Declared) → Differ ds → declared_at ds d.at ≡ None → Differ (ds ++ d ∷ [])
differ_more [] d h e = (refl, tt)
differ_more (x ∷ ds) d h e =
    (none_more ds d x.at h.0 (other_way x.at d.at (not_head x ds d.at e)), differ_more ds d h.1 (not_tail x ds d.at e))

-- What is declared and what is read of names, by the places of ops so far, and by those of them that expressions have.
record Kept (keys fresh : List Place) (ds : List Declared) (opens : List Place) : Type 0 where
  pub differ : Differ ds
  pub covered : (p : Place) → has_place keys p ≡ false → declared_at ds p ≡ None
  pub apart : AreDifferent opens
  pub new : (p : Place) → has_place opens p ≡ true → declared_at ds p ≡ None
  pub known : (p : Place) → has_place keys p ≡ false → has_place opens p ≡ false
  pub within : (p : Place) → has_place keys p ≡ false → has_place fresh p ≡ false
  pub fresh_declared : (p : Place) → has_place fresh p ≡ true → declared_at ds p ≡ None
  pub fresh_open : (p : Place) → has_place fresh p ≡ true → has_place opens p ≡ false

module _ {keys fresh : List Place} {ds : List Declared} where
  with_fresh : {opens : List Place} (p : Place) → has_place keys p ≡ false → Kept keys fresh ds opens →
      Kept (keys ++ p ∷ []) (fresh ++ p ∷ []) ds opens
  with_fresh {opens} p none h = record {
    differ = h.differ;
    covered = λ q e. h.covered q (has_not_left keys (p ∷ []) q e);
    apart = h.apart;
    new = h.new;
    known = λ q e. h.known q (has_not_left keys (p ∷ []) q e);
    within = λ q e. has_not fresh (p ∷ []) q (h.within q (has_not_left keys (p ∷ []) q e))
        (has_not_right keys (p ∷ []) q e);
    fresh_declared = λ q e. declared q (last_or_before fresh p q e);
    fresh_open = λ q e. open_ q (last_or_before fresh p q e);
  } where
    declared : (q : Place) → (has_place fresh q ≡ true) ⊎ (p ≡ q) → declared_at ds q ≡ None
    declared q (inl e) = h.fresh_declared q e
    declared q (inr e) = subst (λ (x : Place). declared_at ds x ≡ None) e (h.covered p none)

    open_ : (q : Place) → (has_place fresh q ≡ true) ⊎ (p ≡ q) → has_place opens q ≡ false
    open_ q (inl e) = h.fresh_open q e
    open_ q (inr e) = subst (λ (x : Place). has_place opens x ≡ false) e (h.known p none)

  with_open : {opens : List Place} (p : Place) → has_place keys p ≡ false → Kept keys fresh ds opens →
      Kept (keys ++ p ∷ []) fresh ds (p ∷ opens)
  with_open {opens} p none h = record {
    differ = h.differ;
    covered = λ q e. h.covered q (has_not_left keys (p ∷ []) q e);
    apart = (h.known p none, h.apart);
    new = λ q e. new q (is_place p q) (place_is p q) e;
    known = λ q e. head_has_not p q opens (not_same p q (p ∷ []) (has_itself p []) (has_not_right keys (p ∷ []) q e))
        (h.known q (has_not_left keys (p ∷ []) q e));
    within = λ q e. h.within q (has_not_left keys (p ∷ []) q e);
    fresh_declared = h.fresh_declared;
    fresh_open = λ q e. head_has_not p q opens (other_way q p (not_same q p fresh e (h.within p none)))
        (h.fresh_open q e);
  } where
    new : (q : Place) (b : Bool) → (b ≡ true → p ≡ q) → (if b then true else has_place opens q) ≡ true →
        declared_at ds q ≡ None
    new q true is e = subst (λ (x : Place). declared_at ds x ≡ None) (is refl) (h.covered p none)
    new q false is e = h.new q e

  without_open : {opens : List Place} (p : Place) → Kept keys fresh ds (p ∷ opens) → Kept keys fresh ds opens
  without_open {opens} p h = record {
    differ = h.differ;
    covered = h.covered;
    apart = h.apart.1;
    new = λ q e. h.new q (tail_has p q opens e);
    known = λ q e. tail_has_not p q opens (h.known q e);
    within = h.within;
    fresh_declared = h.fresh_declared;
    fresh_open = λ q e. tail_has_not p q opens (h.fresh_open q e);
  }

  none_open : {opens : List Place} → Kept keys fresh ds opens → Kept keys fresh ds []
  none_open h = record {
    differ = h.differ;
    covered = h.covered;
    apart = tt;
    new = λ q e. absurd cc;
    known = λ q e. refl;
    within = h.within;
    fresh_declared = h.fresh_declared;
    fresh_open = λ q e. refl;
  }

  with_declared : {opens : List Place} (d : Declared) → Kept keys fresh ds (d.at ∷ opens) →
      Kept keys fresh (ds ++ d ∷ []) opens
  with_declared {opens} d h = record {
    differ = differ_more ds d h.differ (h.new d.at (has_itself d.at opens));
    covered = λ q e. none_more ds d q (h.covered q e)
        (not_same d.at q (d.at ∷ []) (has_itself d.at []) (has_not_left (d.at ∷ []) opens q (h.known q e)));
    apart = h.apart.1;
    new = λ q e. none_more ds d q (h.new q (tail_has d.at q opens e))
        (other_way q d.at (not_same q d.at opens e h.apart.0));
    known = λ q e. tail_has_not d.at q opens (h.known q e);
    within = h.within;
    fresh_declared = λ q e. none_more ds d q (h.fresh_declared q e)
        (not_same d.at q (d.at ∷ []) (has_itself d.at []) (has_not_left (d.at ∷ []) opens q (h.fresh_open q e)));
    fresh_open = λ q e. tail_has_not d.at q opens (h.fresh_open q e);
  }

-- names that are read

-- the places of the names that are read and not declared yet
abbrev opened : Spelling → List (Option Named) → List Place
opened u [] = []
opened u (None ∷ xs) = opened u xs
opened u (Some it ∷ xs) = place u it.token ∷ opened u xs

module _ (u : Spelling) where
  abbrev Holds : List Place → List Place → State → Type 0
  Holds keys fresh st = Kept keys fresh st.names.declared (opened u (names st.declarations))

  plain : {keys fresh : List Place} {ds : List Declared} {opens : List Place} → Kept keys fresh ds opens →
      Kept (keys ++ []) (fresh ++ []) ds opens
  plain {keys} {fresh} {ds} {opens} h =
      subst (λ (xs : List Place). Kept xs (fresh ++ []) ds opens) (sym (append-nil keys))
      (subst (λ (xs : List Place). Kept keys xs ds opens) (sym (append-nil fresh)) h)

  -- no key, and this has no fresh one
  only : {fresh more : List Place} {ds : List Declared} {opens : List Place} → Kept more fresh ds opens →
      Kept more (fresh ++ []) ds opens
  only {fresh} {more} {ds} {opens} h =
      subst (λ (xs : List Place). Kept more xs ds opens) (sym (append-nil fresh)) h

  fresh_key_kept : {keys fresh : List Place} {ds : List Declared} {opens : List Place} (key : Option ℕ) →
      ((token : ℕ) → key ≡ Some token → has_place keys (place u token) ≡ false) → Kept keys fresh ds opens →
      Kept (keys ++ key_place u key) (fresh ++ key_place u key) ds opens
  fresh_key_kept None none h = plain h
  fresh_key_kept (Some token) none h = with_fresh (place u token) (none token refl) h

  module _ {keys fresh : List Place} (st : State) (h : Holds keys fresh st) where
    abbrev ds : List OpenDeclaration
    ds = st.declarations

    -- the innermost declaration without its name
    top_gone : (xs : List OpenDeclaration) → Kept keys fresh st.names.declared (opened u (names xs)) →
        Kept keys fresh st.names.declared (opened u (names (without_innermost xs)))
    top_gone [] k = k
    top_gone (x ∷ xs) k = by x.name k
      where
        by : (name : Option Named) → Kept keys fresh st.names.declared (opened u (name ∷ names xs)) →
            Kept keys fresh st.names.declared (opened u (names xs))
        by None k = k
        by (Some it) k = without_open (place u it.token) k

    name_gone : (name : Option Named) (xs : List (Option Named)) (new : List Declared)
        → Adds u name st.names.declared new →
        Kept keys fresh st.names.declared (opened u (name ∷ xs)) → Kept keys fresh new (opened u xs)
    name_gone None xs new a k = subst (λ (it : List Declared). Kept keys fresh it (opened u xs)) (sym a) k
    name_gone (Some it) xs new a k =
        subst (λ (new : List Declared). Kept keys fresh new (opened u xs)) (sym a.2)
        (with_declared a.0 (subst (λ (p : Place). Kept keys fresh st.names.declared (p ∷ opened u xs)) (sym a.1) k))

    closing : (xs : List OpenDeclaration) (new : List Declared) →
        Adds u (innermost_or no_declaration xs).name st.names.declared new →
        Kept keys fresh st.names.declared (opened u (names xs)) →
        Kept keys fresh new (opened u (names (without_innermost xs)))
    closing [] new a k = subst (λ (it : List Declared). Kept keys fresh it []) (sym a) k
    closing (x ∷ xs) new a k = name_gone x.name (names xs) new a k

    -- a name behind a list of identifiers: where none is its own, it is not declared
    old_closing : (own : Option Place) (t : CType) (xs : List OpenDeclaration) →
        Kept keys fresh st.names.declared (opened u (names xs)) →
        Kept keys fresh (old_declared_some u own (innermost_or no_declaration xs).name t (olds st)).names.declared
        (opened u (names (without_innermost xs)))
    old_closing own t [] k = k
    old_closing own t (x ∷ xs) k = by x.name k
      where
        numbered : (it : Named) (i : Option ℕ) →
            Kept keys fresh st.names.declared (opened u (Some it ∷ names xs)) →
            Kept keys fresh (old_declared u own it t i (olds st)).names.declared (opened u (names xs))
        numbered it None k = without_open (place u it.token) k
        numbered it (Some i) k =
            name_gone (Some it) (names xs) _ (adds_param u (Some it) i own t
            (with_faults
            (fault_where (is_typed (slice_get (olds st).list i)) (place u it.token) defined_twice) st.names)) k

        by : (name : Option Named) → Kept keys fresh st.names.declared (opened u (name ∷ names xs)) →
            Kept keys fresh (old_declared_some u own name t (olds st)).names.declared (opened u (names xs))
        by None k = k
        by (Some it) k = numbered it (number_of_identifier (u.key it.name) (olds st).list) k

    unnamed_top : (xs : List OpenDeclaration) (d : OpenDeclaration) (new : List Declared) → d.name ≡ None →
        Kept keys fresh new (opened u (names (without_innermost xs))) →
        Kept keys fresh new (opened u (names (with_innermost d xs)))
    unnamed_top [] d new e k = k
    unnamed_top (x ∷ xs) d new e k =
        subst (λ (name : Option Named). Kept keys fresh new (opened u (name ∷ names xs))) (sym e) k

    -- behind a declarator whose name is declared
    abbrev ended : List OpenDeclaration → List OpenDeclaration
    ended xs =
        with_innermost (record (innermost_or no_declaration xs) {
          is_untagged = false;
          name = None;
          declared = (innermost_or no_declaration xs).type;
        }) xs

    name_closed : (xs : List OpenDeclaration) (new : List Declared) →
        Adds u (innermost_or no_declaration xs).name st.names.declared new →
        Kept keys fresh st.names.declared (opened u (names xs)) → Kept keys fresh new (opened u (names (ended xs)))
    name_closed xs new a k =
        unnamed_top xs (record (innermost_or no_declaration xs) {
          is_untagged = false;
          name = None;
          declared = (innermost_or no_declaration xs).type;
        }) new refl (closing xs new a k)

    same_names : (new : List Declared) → new ≡ st.names.declared → Kept keys fresh new (opened u (names ds))
    same_names new e = subst (λ (it : List Declared). Kept keys fresh it (opened u (names ds))) (sym e) h

    at_key : (token : ℕ) (d : Declared) → d.at ≡ place u token → has_place keys (place u token) ≡ false →
        Kept (keys ++ place u token ∷ []) (fresh ++ []) (st.names.declared ++ d ∷ []) (opened u (names ds))
    at_key token d at none =
        only (with_declared d (subst (λ (p : Place). Kept (keys ++ place u token ∷ []) fresh st.names.declared
        (p ∷ opened u (names ds))) (sym at) (with_open (place u token) none h)))

    abbrev NoKey : Option ℕ → Type 0
    NoKey key = (token : ℕ) → key ≡ Some token → has_place keys (place u token) ≡ false

    abbrev Next : Option ℕ → State → Type 0
    Next key next =
        Kept (keys ++ key_place u key) (fresh ++ []) next.names.declared (opened u (names next.declarations))

    spec_kept : (op : SpecOp) → NoKey (spec_key op) → Next (spec_key op) (specifier_step u st op)
    spec_kept (specs.TagUse kind token name) none = plain (same_names _ (used_same u false kind token name st.names))
    spec_kept (specs.TagAlone kind token name) none = plain (same_names _ (used_same u true kind token name st.names))
    spec_kept (specs.TagBody kind token name) none = plain (same_names _ (tag_body_same u st kind token name))
    spec_kept (specs.Untagged kind token) none = plain (same_names _ (untagged_same u st kind token))
    spec_kept (specs.Enumerator token name) none = at_key token _ refl (none token refl)
    spec_kept (specs.UnnamedMember token) none = at_key token _ refl (none token refl)
    spec_kept op none = plain h

    name_kept : (token name : ℕ) → has_place keys (place u token) ≡ false → (xs : List OpenDeclaration) →
        Kept keys fresh st.names.declared (opened u (names (without_innermost xs))) →
        Kept (keys ++ place u token ∷ []) fresh st.names.declared
        (opened u (names (with_innermost (record (innermost_or no_declaration xs) {
          name = Some (record { token = token; name = name });
        }) xs)))
    name_kept token name none [] k = without_open (place u token) (with_open (place u token) none k)
    name_kept token name none (x ∷ xs) k = with_open (place u token) none k

    kept_name : (t : CType) →
        Kept keys fresh st.names.declared
        (opened u (names (with_innermost (record (innermost_or no_declaration ds) { declared = t }) ds)))
    kept_name t =
        subst (λ (xs : List (Option Named)). Kept keys fresh st.names.declared (opened u xs)) (sym (names_kept ds t)) h

    declare_kept : Kept keys fresh (name_declared u st).names.declared
        (opened u (names (name_declared u st).declarations))
    declare_kept =
        name_closed ds _ (adds_some u (untagged_number (declaration st).is_untagged (declaration st).type)
        (declaration st).name (declaration st).storage (declaration st).declared st.names) h

    auto_kept : (token : ℕ) (t : Option CType) →
        Kept keys fresh (auto_typed u token t st).names.declared
        (opened u (names (auto_typed u token t st).declarations))
    auto_kept token t =
        name_closed open_ _ (adds_some u (untagged_number d.is_untagged d.type) d.name d.storage d.declared
        (with_faults (fault_where (is_unknown t) (place u token) no_type) st.names)) (kept_name type)
      where
        type : CType
        type = with_words (words_of (declaration st).type) (bare_or_base t)

        open_ : List OpenDeclaration
        open_ = with_innermost (record (declaration st) { declared = type }) ds

        d : OpenDeclaration
        d = innermost_or no_declaration open_

    old_kept : (b : Bool) →
        Kept keys fresh (if b then name_declared u st else name_ended (with_olds
        (old_declared_some u (parameters st).own (declaration st).name (decayed (declaration st).declared)
        (olds st)) st)).names.declared
        (opened u (names (if b then name_declared u st else name_ended (with_olds
        (old_declared_some u (parameters st).own (declaration st).name (decayed (declaration st).declared)
        (olds st)) st)).declarations))
    old_kept true = declare_kept
    old_kept false =
        unnamed_top ds (record (declaration st) {
          is_untagged = false;
          name = None;
          declared = (declaration st).type;
        }) _ refl (old_closing (parameters st).own (decayed (declaration st).declared) ds h)

    declr_kept : (op : DeclrOp) → NoKey (declr_key op) → Next (declr_key op) (declarator_step u st op)
    declr_kept (declrs.DeclName token name) none = only (name_kept token name (none token refl) ds (top_gone ds h))
    declr_kept (declrs.ParamsBegin is_own) none = plain h
    declr_kept declrs.Param none =
        plain (closing ds _ (adds_param u (declaration st).name (length (parameters st).types) (parameters st).own
        (decayed (declaration st).declared) st.names) h)
    declr_kept declrs.ParamsEnd none =
        plain (same_names _ (keep_same (parameters st).own (old_faults u (parameters st).identifiers st.names)
        ∙ old_faults_same u (parameters st).identifiers st.names))
    declr_kept declrs.Pointer none = plain (kept_name _)
    declr_kept declrs.Array none = plain (kept_name _)
    declr_kept (declrs.Function has_ellipsis) none = plain (kept_name _)
    declr_kept declrs.Declare none = plain declare_kept
    declr_kept declrs.AutoBegin none = plain h
    declr_kept (declrs.AutoEnd token) none = plain (auto_kept token (value (shape_of_part u st)))
    declr_kept (declrs.Identifier token name) none = plain h
    declr_kept declrs.OldParam none = plain (old_kept (has_word keywords.Typedef (declaration st).storage))
    declr_kept declrs.Member none =
        plain (unnamed_top ds (record (declaration st) { name = None; declared = (declaration st).type }) _ refl
        (closing ds _ (adds_member u (declaration st).name (body st).members_of (declaration st).declared st.names) h))
    declr_kept (declrs.TypeName first) none = plain (top_gone ds h)
    declr_kept declrs.DeclarationEnd none = plain (top_gone ds h)

    stmt_kept : (op : StmtOp) → Next None (statement_step u st op)
    stmt_kept stmts.FunctionBody =
        plain (same_names _ (entered_same (is_plain st) (is_counted u st) (last_or None st.names.declared) st.names))
    stmt_kept op = plain h

    op_kept : (op : Op) → NoKey (op_key op) →
        Kept (keys ++ key_place u (op_key op)) (fresh ++ key_place u (fresh_key op)) (step u st op).names.declared
        (opened u (names (step u st op).declarations))
    op_kept (ops.Expr op) none =
        fresh_key_kept (op_key (ops.Expr op)) none
        (subst (λ (xs : List OpenDeclaration). Kept keys fresh (expression_step u st op).names.declared
        (opened u (names xs))) (sym (expr_declarations u st op)) (same_names _ (expr_same u st op)))
    op_kept (ops.Form op) none = fresh_key_kept (op_key (ops.Form op)) none h
    op_kept (ops.Init op) none = fresh_key_kept (op_key (ops.Init op)) none h
    op_kept (ops.Spec op) none = spec_kept op none
    op_kept (ops.Declr op) none = declr_kept op none
    op_kept (ops.Stmt op) none = stmt_kept op

  abbrev fresh_places : List Op → List Place
  fresh_places [] = []
  fresh_places (op ∷ tape) = key_place u (fresh_key op) ++ fresh_places tape

  key_is_new : (keys qs : List Place) (key : Option ℕ) → AreDifferent (keys ++ (key_place u key ++ qs)) →
      (token : ℕ) → key ≡ Some token → has_place keys (place u token) ≡ false
  key_is_new keys qs None d token e = absurd cc
  key_is_new keys qs (Some t) d token e =
      let same : t ≡ token = cc in
      subst (λ (n : ℕ). has_place keys (place u n) ≡ false) same
      (differ_before keys (place u t ∷ qs) (place u t) d (has_itself (place u t) qs))

  tape_kept : (tape : List Op) (keys fresh rest : List Place) (st : State) → Holds keys fresh st →
      AreDifferent (keys ++ (key_places u tape ++ rest)) →
      Kept (keys ++ key_places u tape) (fresh ++ fresh_places tape) (run u tape st).names.declared []
  tape_kept [] keys fresh rest st h d = plain (none_open h)
  tape_kept (op ∷ tape) keys fresh rest st h d =
      subst (λ (xs : List Place). Kept xs (fresh ++ (key_place u (fresh_key op) ++ fresh_places tape))
      (run u tape (step u st op)).names.declared []) (append_assoc keys key (key_places u tape))
      (subst (λ (xs : List Place). Kept ((keys ++ key) ++ key_places u tape) xs
      (run u tape (step u st op)).names.declared [])
      (append_assoc fresh (key_place u (fresh_key op)) (fresh_places tape))
      (tape_kept tape (keys ++ key) (fresh ++ key_place u (fresh_key op)) rest (step u st op)
      (op_kept st h op (key_is_new keys (key_places u tape ++ rest) (op_key op) one))
      (subst AreDifferent (sym (append_assoc keys key (key_places u tape ++ rest))) one)))
    where
      key : List Place
      key = key_place u (op_key op)

      one : AreDifferent (keys ++ (key ++ (key_places u tape ++ rest)))
      one = subst (λ (xs : List Place). AreDifferent (keys ++ xs)) (append_assoc key (key_places u tape) rest) d

  apart_along : (s : Names) (tape : List Op) →
      ((p : Place) → has_place (fresh_places tape) p ≡ true → declared_at s.declared p ≡ None) → KeysAreApart u s tape
  apart_along s [] h = tt
  apart_along s (op ∷ tape) h = (
    by (fresh_key op) (λ p e. h p (has_left (key_place u (fresh_key op)) (fresh_places tape) p e)),
    apart_along s tape (λ p e. h p (has_right (key_place u (fresh_key op)) (fresh_places tape) p e)),
  )
    where
      by : (key : Option ℕ) →
          ((p : Place) → has_place (key_place u key) p ≡ true → declared_at s.declared p ≡ None) → KeyIsApart u s key
      by None k = tt
      by (Some token) k = k (place u token) (has_itself (place u token) [])

-- units

abbrev fresh_among : List Source → List Place
fresh_among [] = []
fresh_among (it ∷ sources) = fresh_places it.spelling (tape_of it.items) ++ fresh_among sources

-- declarations and fresh skeletons keep to the places of the units, where these all differ
sources_kept : (sources : List Source) (keys fresh : List Place) (s : Names) → Kept keys fresh s.declared [] →
    AreDifferent (keys ++ keys_among sources) →
    Kept (keys ++ keys_among sources) (fresh ++ fresh_among sources)
    (tapes_named (map tape_of_source sources) s).declared []
sources_kept [] keys fresh s h d =
    subst (λ (xs : List Place). Kept xs (fresh ++ []) s.declared []) (sym (append-nil keys))
    (subst (λ (xs : List Place). Kept keys xs s.declared []) (sym (append-nil fresh)) h)
sources_kept (it ∷ sources) keys fresh s h d =
    subst (λ (xs : List Place). Kept xs (fresh ++ (fresh_places u (tape_of it.items) ++ fresh_among sources))
    (tapes_named (map tape_of_source sources) next).declared [])
    (append_assoc keys (key_places u (tape_of it.items)) (keys_among sources))
    (subst (λ (xs : List Place). Kept ((keys ++ key_places u (tape_of it.items)) ++ keys_among sources) xs
    (tapes_named (map tape_of_source sources) next).declared [])
    (append_assoc fresh (fresh_places u (tape_of it.items)) (fresh_among sources))
    (sources_kept sources (keys ++ key_places u (tape_of it.items)) (fresh ++ fresh_places u (tape_of it.items)) next
    (tape_kept u (tape_of it.items) keys fresh (keys_among sources) (with_names (unit_begun u.unit s)) h d)
    (subst AreDifferent (sym (append_assoc keys (key_places u (tape_of it.items)) (keys_among sources))) d)))
  where
    u : Spelling
    u = it.spelling

    next : Names
    next = (run u (tape_of it.items) (with_names (unit_begun u.unit s))).names

-- before the first unit there are no places and no declarations
nothing_kept : Kept [] [] [] []
nothing_kept = record {
  differ = tt;
  covered = λ p e. refl;
  apart = tt;
  new = λ p e. refl;
  known = λ p e. refl;
  within = λ p e. refl;
  fresh_declared = λ p e. refl;
  fresh_open = λ p e. refl;
}

-- where no fresh place of any unit is one of a declaration, expressions and declarations are apart in each
all_apart : (s : Names) (sources : List Source) →
    ((p : Place) → has_place (fresh_among sources) p ≡ true → declared_at s.declared p ≡ None) → AllApart s sources
all_apart s [] h = tt
all_apart s (it ∷ sources) h = (
  apart_along it.spelling s (tape_of it.items)
      (λ p e. h p (has_left (fresh_places it.spelling (tape_of it.items)) (fresh_among sources) p e)),
  all_apart s sources
      (λ p e. h p (has_right (fresh_places it.spelling (tape_of it.items)) (fresh_among sources) p e)),
)

-- behind all units
module _ (sources : List Source) (s : Names) (differ : AreDifferent (keys_among sources))
    (named : tapes_named (map tape_of_source sources) no_names ≡ s) where
  whole : Kept (keys_among sources) (fresh_among sources) s.declared []
  whole =
      subst (λ (it : Names). Kept (keys_among sources) (fresh_among sources) it.declared []) named
      (sources_kept sources [] [] no_names nothing_kept differ)

  pub declared_differ : Differ s.declared
  declared_differ = whole.differ

  names_apart : AllApart s sources
  names_apart = all_apart s sources whole.fresh_declared

pub declarations_differ : NamesOfTapes → DeclarationsDiffer
declarations_differ names sources sound differ =
    declared_differ sources (names_of sources) differ (names sources sound)

pub names_are_apart : NamesOfTapes → NamesAreApart
names_are_apart names sources sound differ = names_apart sources (names_of sources) differ (names sources sound)
