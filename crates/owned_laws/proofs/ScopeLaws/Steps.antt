-- Each op of an item keeps of which places its names are.
use Rattle.std.proofs.Common.{◌≡◌, ℕ, Bool, true, false, List, [], ◌∷◌, ◌++◌, length, Option, None, Some, refl, sym, ◌∙◌, ap, subst}
use Rattle.std.specs.Prelude.{if◌then◌else◌}
use Rattle.std.specs.List.{last_or}
use Rattle.c_words.specs.declared.kinds.Keyword.{Keyword}
use Rattle.c_words.specs.declared.kinds.Keyword.TheVariants as keywords
use Rattle.tape_ops.specs.declared.op.Op.{Op}
use Rattle.tape_ops.specs.declared.op.Op.TheVariants as ops
use Rattle.tape_ops.specs.declared.expression.ExprOp.{ExprOp}
use Rattle.tape_ops.specs.declared.expression.ExprOp.TheVariants as exprs
use Rattle.tape_ops.specs.declared.form.FormOp.{FormOp}
use Rattle.tape_ops.specs.declared.form.FormOp.TheVariants as forms
use Rattle.tape_ops.specs.declared.specifier.SpecOp.{SpecOp}
use Rattle.tape_ops.specs.declared.specifier.SpecOp.TheVariants as specs
use Rattle.tape_ops.specs.declared.declarator.DeclrOp.{DeclrOp}
use Rattle.tape_ops.specs.declared.declarator.DeclrOp.TheVariants as declrs
use Rattle.tape_ops.specs.declared.statement.StmtOp.{StmtOp}
use Rattle.tape_ops.specs.declared.statement.StmtOp.TheVariants as stmts
use Rattle.type_table.specs.Types.{CType, base, words_of}
use Rattle.owned_laws.specs.TapeLaws.Marks.{IsBracketed, named, params_begun, Mark, in_declaration, in_params, in_tag, in_scope, in_quiet, in_part, in_body, turn, form_turn, spec_turn, declr_turn, stmt_turn}
use Rattle.name_rules.specs.Spellings.{Spelling, Place, place, Named}
use Rattle.name_rules.specs.Faults.{no_type, undeclared, fault_where}
use Rattle.name_rules.specs.Scopes.{enumerator_role, Declared, Names, innermost, with_faults}
use Rattle.name_rules.specs.Values.{value}
use Rattle.name_rules.specs.Pieces.{with_words, piece_of, to_pointer, to_function, types_in, decayed}
use Rattle.name_rules.specs.Declaring.{used, declared_member, declared_param, tag_used, tag_begun, untagged_begun, unnamed_member, own_where, keep, declared_here, untagged_number, declared_some, scope_kept, has_word}
use Rattle.name_rules.specs.Identifiers.{OldParameter, Olds, is_unknown, old_declared_some, old_faults}
use Rattle.name_rules.specs.NameSteps.State.{OpenDeclaration, State, without_innermost, with_innermost, innermost_or}
use Rattle.name_rules.specs.NameSteps.Steps.{part_begun, part_ended, shape_of_part, bare_or_base, olds, with_olds, with_identifier, name_ended, name_declared, auto_typed, is_counted, let_go, ellipsis_where, run, with_declared, declaration, body, parameters, linked_some, expression_step, specifier_step, declarator_step, body_entered_by, is_plain, statement_step, step}
use Rattle.row_rules.specs.Sites.{has_place}
use Rattle.name_rules.specs.MeaningLaws.Meanings.{Differ}
use Rattle.row_laws.specs.KeyLaws.Keys.{key_place, key_places, op_key, spec_key, declr_key, expr_key}
use Rattle.owned_laws.specs.ScopeLaws.Staying.{IsOfFile, IsWithin}
use Rattle.owned_laws.proofs.ScopeLaws.Places.{has_itself, has_left, has_right}
use Rattle.name_rules.proofs.MeaningLaws.Growing.{adds_some, names, names_kept, run_grown, then_grown, Grown, keep_same, old_faults_same}
use Rattle.owned_laws.proofs.TapeLaws.Turns.{quiet_was, tag_was, scope_was, Declaring, declaration_was, named_was, declared_was, member_was, param_was, Beginning, begun_was, Ending, params_were, body_begins, body_was, part_was, identified_was, old_was, AutoEnding, auto_was}
use Rattle.owned_laws.proofs.ScopeLaws.Fitting.{Around, AtTop, HasLastIn, last_in, owns_same, params_left, scope_left, body_left, Keeps, keeps_some, body_ends_alone, body_around, owns, owns_kept, OwnIs, Owning, owning_top, HasName, HasLast, NameIn, Reading, reading_more, reading_top, reading_with, reading_own}
use Rattle.owned_laws.proofs.ScopeLaws.Changes.{adds_then, adds_none, Fit, Fits, AddsTo, Goes, enumerator_goes, param_goes, member_goes, unnamed_goes, use_goes, tag_used_goes, tag_begun_goes, untagged_goes, some_goes, old_goes}

-- where a name was declared last, there is a last declaration
last_some : (token : ℕ) (ds : List Declared) → HasLast (Some token) ds → (d : Declared) × (last_or None ds ≡ Some d)
last_some token [] h = absurd h
last_some token (d ∷ ds) h = some d ds
  where
    some : (d : Declared) (ds : List Declared) → (it : Declared) × (last_or (Some d) ds ≡ Some it)
    some d [] = (d, refl)
    some d (x ∷ ds) = some x ds

last_new : (token : ℕ) (ds : List Declared) (d : Declared) → HasLast (Some token) (ds ++ d ∷ [])
last_new token [] d = tt
last_new token (x ∷ ds) d = tt

-- a name that is declared is one more declaration
last_declared : (m : List Mark) (u : Spelling) (untagged name : Option ℕ) (it : Option Named)
    (words : List Keyword) (t : CType)
    (s : Names) → HasName name it → HasLastIn m name (declared_some u untagged it words t s).declared
last_declared m u untagged None it words t s h = last_in m None _ tt
last_declared m u untagged (Some token) None words t s h = absurd h
last_declared m u untagged (Some token) (Some it) words t s h =
    let adds = adds_some u untagged (Some it) words t s in
    last_in m (Some token) _ (subst (HasLast (Some token)) (sym adds.2) (last_new token s.declared adds.0))

-- a list of own parameters that begins has a function, where a name is read before it
own_begun : (u : Spelling) (own : Bool) (name : Option Named) (s : Names) →
    (own ≡ true → (token : ℕ) × HasName (Some token) name) → OwnIs own (own_where own (linked_some u name s))
own_begun u false name s h = tt
own_begun u true None s h = absurd (h refl).1
own_begun u true (Some it) s h = tt

module _ (S : Names) (differ : Differ S.declared) (keys : List Place) (u : Spelling) where
  -- what is known where these marks are
  abbrev pub Holds : List Mark → State → Type 0
  Holds m st =
      Reading u keys m (names st.declarations) st.names.declared × Owning m (owns st.parameters)
      × Fits S differ keys m st.names

  abbrev pub Next : List Mark → State → State → Type 0
  Next n st next = Holds n next × AddsTo S differ keys st.names next.names

  abbrev KeyIn : Option ℕ → Type 0
  KeyIn key = (token : ℕ) → key ≡ Some token → has_place keys (place u token) ≡ true

  refit : (m n : List Mark) (s : Names) →
      (Around (IsOfFile S) (IsWithin S keys) m s.scopes → Around (IsOfFile S) (IsWithin S keys) n s.scopes) →
      (Keeps (IsWithin S keys) m s.kept → Keeps (IsWithin S keys) n s.kept) → Fits S differ keys m s →
      Fits S differ keys n s
  refit m n s f g h = record { around = f h.around; keeps = g h.keeps; things = h.things; round = h.round }

  read_on : (m : List Mark) (xs : List (Option Named)) (s next : Names) → AddsTo S differ keys s next →
      Reading u keys m xs s.declared → Reading u keys m xs next.declared
  read_on m xs s next g h =
      subst (λ (ds : List Declared). Reading u keys m xs ds) (sym g.declared_is)
      (reading_more u keys m xs s.declared g.more h)

  back : (m n : List Mark) (st : State) → m ≡ n → Holds m st → Holds n st
  back m n st e h = subst (λ (it : List Mark). Holds it st) e h

  next_is : (m n : List Mark) (st next : State) → n ≡ m → Next m st next → Next n st next
  next_is m n st next e h = subst (λ (it : List Mark). Next it st next) (sym e) h

  some_is : (m n : List Mark) → Some m ≡ Some n → n ≡ m
  some_is m n e = cc

  module _ (m n : List Mark) (st : State) (h : Holds m st) where
    abbrev ds : List OpenDeclaration
    ds = st.declarations

    same : Some m ≡ Some n → Next n st st
    same e = (back m n st (sym (some_is m n e)) h, adds_none)

    -- other names
    changed : (s : Names) → Some m ≡ Some n → Goes S differ keys m st.names s → Next n st (record st { names = s })
    changed s e g =
        next_is m n st (record st { names = s }) (some_is m n e)
        ((read_on m (names ds) st.names s g.1 h.0, h.1, g.0), g.1)

    tag_begins : (s : Names) → Some (in_tag ∷ m) ≡ Some n → Goes S differ keys m st.names s →
        Next n st (record st { names = s })
    tag_begins s e g =
        next_is (in_tag ∷ m) n st (record st { names = s }) (some_is (in_tag ∷ m) n e)
        ((read_on m (names ds) st.names s g.1 h.0, h.1, refit m (in_tag ∷ m) s (λ a. a) (λ k. k) g.0), g.1)

    quiet_ends : m ≡ in_quiet ∷ n → Next n st st
    quiet_ends e =
        let k = back m (in_quiet ∷ n) st e h in
        ((k.0, k.1, refit (in_quiet ∷ n) n st.names (λ a. a) (λ k. k) k.2), adds_none)

    part_begins : Some (in_part ∷ m) ≡ Some n → Next n st (part_begun st)
    part_begins e =
        next_is (in_part ∷ m) n st (part_begun st) (some_is (in_part ∷ m) n e)
        ((h.0, h.1, refit m (in_part ∷ m) st.names (λ a. a) (λ k. k) h.2), adds_none)

    form_next : (op : FormOp) → form_turn m op ≡ Some n → Next n st st
    form_next (forms.Sizeof token) e = quiet_ends (quiet_was m n e)
    form_next (forms.Offset token) e = quiet_ends (quiet_was m n e)
    form_next (forms.Compat token) e = quiet_ends (quiet_was m n e)
    form_next forms.Control e = quiet_ends (quiet_was m n e)
    form_next op e = same e

    spec_next : (op : SpecOp) → spec_turn m op ≡ Some n → KeyIn (spec_key op) →
        Grown (specifier_step u st op).names.declared S.declared → Next n st (specifier_step u st op)
    spec_next (specs.TagUse kind token name) e key g =
        changed (tag_used u false kind token name st.names).names e
        (tag_used_goes S differ keys m st.names h.2 u false kind token name)
    spec_next (specs.TagAlone kind token name) e key g =
        changed (tag_used u true kind token name st.names).names e
        (tag_used_goes S differ keys m st.names h.2 u true kind token name)
    spec_next (specs.TagBody kind token name) e key g =
        tag_begins (tag_begun u kind token name st.names).names e
        (tag_begun_goes S differ keys m st.names h.2 u kind token name)
    spec_next (specs.Untagged kind token) e key g =
        tag_begins (untagged_begun (place u token) kind st.names).names e
        (untagged_goes S differ keys m st.names h.2 (place u token) kind)
    spec_next specs.BodyEnd e key g =
        let k = back m (in_tag ∷ n) st (tag_was m n e) h in
        ((k.0, k.1, refit (in_tag ∷ n) n st.names (λ a. a) (λ k. k) k.2), adds_none)
    spec_next (specs.Enumerator token name) e key g =
        changed (declared_here (place u token) (u.key name) enumerator_role (base []) None st.names) e
        (enumerator_goes S differ keys m st.names h.2 (place u token) (u.key name) (key token refl) g)
    spec_next (specs.UnnamedMember token) e key g =
        changed (unnamed_member (place u token) (body st).members_of (declaration st).type st.names) e
        (unnamed_goes S differ keys m st.names h.2 (place u token) (body st).members_of (declaration st).type
        (key token refl))
    spec_next specs.PartBegin e key g = part_begins e
    spec_next (specs.TypeofEnd token) e key g =
        let k = back m (in_part ∷ n) st (part_was m n e) h in
        ((k.0, k.1, refit (in_part ∷ n) n st.names (λ a. a) (λ k. k) k.2), adds_none)
    spec_next specs.TypeEnd e key g =
        let k = back m (in_part ∷ n) st (part_was m n e) h in
        ((k.0, k.1, refit (in_part ∷ n) n st.names (λ a. a) (λ k. k) k.2), adds_none)
    spec_next specs.SpecsEnd e key g =
        next_is (in_declaration None None false ∷ m) n st (specifier_step u st specs.SpecsEnd) (some_is _ n e) (
          (
            (tt, tt, last_in m None st.names.declared tt, h.0),
            h.1,
            refit m (in_declaration None None false ∷ m) st.names (λ a. a) (λ k. (tt, k)) h.2,
          ),
          adds_none,
        )
    spec_next op e key g = same e

    body_next : (name : Option ℕ) (token : ℕ) → m ≡ in_declaration name (Some token) true ∷ [] →
        n ≡ in_body ∷ (in_declaration name (Some token) true ∷ []) → Next n st (statement_step u st stmts.FunctionBody)
    body_next name token was is =
        next_is (in_body ∷ (in_declaration name (Some token) true ∷ [])) n st
        (statement_step u st stmts.FunctionBody) is
        (subst (λ (it : Option Declared). Next (in_body ∷ (in_declaration name (Some token) true ∷ [])) st
        (record st { names = body_entered_by (is_plain st) (is_counted u st) it st.names })) (sym some.1)
        (by (is_counted u st)))
      where
        k : Holds (in_declaration name (Some token) true ∷ []) st
        k = back m (in_declaration name (Some token) true ∷ []) st was h

        inside : Fit S differ keys (in_body ∷ (in_declaration name (Some token) true ∷ []))
            (scope_kept st.names.kept st.names.scopes) None st.names.things st.names.round
        inside = record {
          around = body_around (IsOfFile S) (IsWithin S keys) st.names.kept name (Some token) st.names.scopes
              k.2.keeps.0 k.2.around;
          keeps = tt;
          things = k.2.things;
          round = k.2.round;
        }

        some : (d : Declared) × (last_or None st.names.declared ≡ Some d)
        some = last_some token st.names.declared
            (reading_top u keys name (Some token) true [] ds st.names.declared k.0).2

        -- whether the body is counted says nothing of scopes
        by : (counted : Bool) → Next (in_body ∷ (in_declaration name (Some token) true ∷ [])) st
            (record st { names = body_entered_by (is_plain st) counted (Some some.0) st.names })
        by true = ((k.0, k.1, inside), adds_none)
        by false = ((k.0, k.1, inside), adds_none)

    body_ends : (name last : Option ℕ) (own : Bool) (outer : List Mark) →
        m ≡ in_body ∷ (in_declaration name last own ∷ outer) → n ≡ in_declaration name last false ∷ outer →
        Next n st (statement_step u st stmts.FunctionEnd)
    body_ends name last own outer was is =
        next_is (in_declaration name last false ∷ outer) n st (statement_step u st stmts.FunctionEnd) is (
          (
            reading_own u keys name last own false outer (names ds) st.names.declared k.0,
            k.1,
            record {
              around = body_left (IsOfFile S) (IsWithin S keys) (in_declaration name last own ∷ outer) st.names.scopes
                  k.2.around;
              keeps = body_ends_alone (IsWithin S keys) name last own outer st.names.kept k.2.keeps;
              things = k.2.things;
              round = k.2.round;
            },
          ),
          adds_none,
        )
      where
        k : Holds (in_body ∷ (in_declaration name last own ∷ outer)) st
        k = back m (in_body ∷ (in_declaration name last own ∷ outer)) st was h

    stmt_next : (t : Option ℕ) (op : StmtOp) → stmt_turn t m op ≡ Some n → Next n st (statement_step u st op)
    stmt_next t stmts.Quiet e =
        next_is (in_quiet ∷ m) n st st (some_is (in_quiet ∷ m) n e)
        ((h.0, h.1, refit m (in_quiet ∷ m) st.names (λ a. a) (λ k. k) h.2), adds_none)
    stmt_next t stmts.Loud e = quiet_ends (quiet_was m n e)
    stmt_next t stmts.Enter e =
        next_is (in_scope ∷ m) n st (statement_step u st stmts.Enter) (some_is (in_scope ∷ m) n e) (
          (
            h.0,
            h.1,
            record {
              around = (tt, h.2.around);
              keeps = h.2.keeps;
              things = h.2.things;
              round = h.2.round;
            },
          ),
          adds_none,
        )
    stmt_next t stmts.Leave e =
        let k = back m (in_scope ∷ n) st (scope_was m n e) h in (
          (
            k.0,
            k.1,
            record {
              around = scope_left (IsOfFile S) (IsWithin S keys) n st.names.scopes k.2.around;
              keeps = k.2.keeps;
              things = k.2.things;
              round = k.2.round;
            },
          ),
          adds_none,
        )
    stmt_next t stmts.FunctionBody e = let it = body_begins t m n e in
        body_next it.0 it.1 it.2 (it.3 ∙ ap (λ (marks : List Mark). in_body ∷ marks) it.2)
    stmt_next t stmts.FunctionEnd e = let it = body_was m n e in body_ends it.0 it.1 it.2 it.3 it.4 it.5
    stmt_next t op e = same e

    -- declarators

    -- another type of what is declared
    typed_next : (t : CType) → Some m ≡ Some n → Next n st (with_declared t st)
    typed_next t e =
        next_is m n st (with_declared t st) (some_is m n e) (
          (
            subst (λ (xs : List (Option Named)). Reading u keys m xs st.names.declared) (sym (names_kept ds t)) h.0,
            h.1,
            h.2,
          ),
          adds_none,
        )

    name_next : (token name : ℕ) → named token m ≡ Some n → has_place keys (place u token) ≡ true →
        Next n st (declarator_step u st (declrs.DeclName token name))
    name_next token name e key =
        next_is (in_declaration (Some token) d.last d.own ∷ d.outer) n st
        (declarator_step u st (declrs.DeclName token name)) was.1 (
          (
            reading_with u keys d.name d.last (Some token) d.last d.own d.own d.outer ds
                (record (declaration st) { name = Some (record { token = token; name = name }) })
                st.names.declared k.0 tt key
                (reading_top u keys d.name d.last d.own d.outer ds st.names.declared k.0).2,
            k.1,
            refit (in_declaration d.name d.last d.own ∷ d.outer)
                (in_declaration (Some token) d.last d.own ∷ d.outer) st.names
                (λ a. a) (λ k. k) k.2,
          ),
          adds_none,
        )
      where
        was : (d : Declaring m) × (n ≡ in_declaration (Some token) d.last d.own ∷ d.outer)
        was = named_was token m n e

        d : Declaring m
        d = was.0

        k : Holds (in_declaration d.name d.last d.own ∷ d.outer) st
        k = back m (in_declaration d.name d.last d.own ∷ d.outer) st d.is h

    -- the parameters of a function, where they are its own, are behind its name
    begun_next : (t : Option ℕ) (own : Bool) → params_begun t own m ≡ Some n →
        Next n st (declarator_step u st (declrs.ParamsBegin own))
    begun_next t own e =
        next_is (in_params own ∷ m) n st (declarator_step u st (declrs.ParamsBegin own)) it.is (
          (
            h.0,
            (own_begun u own (declaration st).name st.names named, h.1),
            record {
              around = (tt, h.2.around);
              keeps = h.2.keeps;
              things = h.2.things;
              round = h.2.round;
            },
          ),
          adds_none,
        )
      where
        it : Beginning t own m n
        it = begun_was t own m n e

        d : Declaring m
        d = it.declaring

        named : own ≡ true → (token : ℕ) × HasName (Some token) (declaration st).name
        named is =
            let name = it.named is in (
              name.0,
              subst (λ (it : Option ℕ). HasName it (declaration st).name) name.1
                  (reading_top u keys d.name d.last d.own d.outer ds st.names.declared
                  (back m (in_declaration d.name d.last d.own ∷ d.outer) st d.is h).0).0,
            )

    param_next : (name last : Option ℕ) (b own : Bool) (rest : List Mark) →
        m ≡ in_declaration name last b ∷ (in_params own ∷ rest) → n ≡ in_params own ∷ rest →
        Next n st (declarator_step u st declrs.Param)
    param_next name last b own rest was is =
        next_is (in_params own ∷ rest) n st (declarator_step u st declrs.Param) is (
          (
            read_on (in_params own ∷ rest) (names (without_innermost ds)) st.names next goes.1 top.3,
            subst (λ (ps : List (Option Place)). Owning (in_params own ∷ rest) ps)
                (sym (owns_kept st.parameters ((parameters st).types ++ decayed (declaration st).declared ∷ []))) k.1,
            goes.0,
          ),
          goes.1,
        )
      where
        k : Holds (in_declaration name last b ∷ (in_params own ∷ rest)) st
        k = back m (in_declaration name last b ∷ (in_params own ∷ rest)) st was h

        top : HasName name (declaration st).name × NameIn u keys (declaration st).name
            × HasLastIn (in_params own ∷ rest) last st.names.declared
            × Reading u keys (in_params own ∷ rest) (names (without_innermost ds)) st.names.declared
        top = reading_top u keys name last b (in_params own ∷ rest) ds st.names.declared k.0

        next : Names
        next = declared_param u (declaration st).name (length (parameters st).types) (parameters st).own
            (decayed (declaration st).declared) st.names

        goes : Goes S differ keys (in_params own ∷ rest) st.names next
        goes = param_goes S differ keys (in_params own ∷ rest) st.names
            (refit (in_declaration name last b ∷ (in_params own ∷ rest)) (in_params own ∷ rest) st.names (λ a. a)
            (λ k. k.1) k.2) u (declaration st).name (length (parameters st).types) (parameters st).own
            (decayed (declaration st).declared) top.1 (λ q k. k)

    ended : (s : Names) (own : Option Place) (params : Bool) (name last : Option ℕ) (flag : Bool) (outer : List Mark) →
        OwnIs params own → Fits S differ keys (in_params params ∷ (in_declaration name last flag ∷ outer)) s →
        Fits S differ keys (in_declaration name last (if params then true else flag) ∷ outer) (keep own s)
    ended s None true name last flag outer is k = absurd is
    ended s None false name last flag outer is k = record {
      around = (params_left (IsOfFile S) (IsWithin S keys) false outer s.scopes k.around).1;
      keeps = k.keeps;
      things = k.things;
      round = k.round;
    }
    ended s (Some p) true name last flag outer is k =
        let inner = params_left (IsOfFile S) (IsWithin S keys) true outer s.scopes k.around in
        record {
          around = inner.1;
          keeps = (
            inner.0,
            keeps_some (IsWithin S keys) outer s.kept (innermost s.scopes) k.keeps.1 inner.0,
          );
          things = k.things;
          round = k.round;
        }
    ended s (Some p) false name last flag outer is k =
        let inner = params_left (IsOfFile S) (IsWithin S keys) false outer s.scopes k.around in
        record {
          around = inner.1;
          keeps = keeps_some (IsWithin S keys) (in_declaration name last flag ∷ outer) s.kept
              (innermost s.scopes) k.keeps inner.0;
          things = k.things;
          round = k.round;
        }

    keep_adds : (s : Names) (own : Option Place) → AddsTo S differ keys s (keep own s)
    keep_adds s None = adds_none
    keep_adds s (Some p) = adds_none

    -- identifiers without a declaration are faults, and say nothing else
    faults_fit : (marks : List Mark) (its : List OldParameter) (s : Names) → Fits S differ keys marks s →
        Fits S differ keys marks (old_faults u its s)
    faults_fit marks [] s k = k
    faults_fit marks (it ∷ its) s k =
        faults_fit marks its (with_faults (fault_where (is_unknown it.type) (place u it.token) undeclared) s)
        (record { around = k.around; keeps = k.keeps; things = k.things; round = k.round })

    faults_add : (its : List OldParameter) (s : Names) → AddsTo S differ keys s (old_faults u its s)
    faults_add [] s = adds_none
    faults_add (it ∷ its) s =
        faults_add its (with_faults (fault_where (is_unknown it.type) (place u it.token) undeclared) s)

    ended_next : Ending m n → Next n st (declarator_step u st declrs.ParamsEnd)
    ended_next it =
        next_is (in_declaration it.name it.last (if it.params then true else it.own) ∷ it.outer) n st
        (declarator_step u st declrs.ParamsEnd) it.is (
          (
            reading_own u keys it.name it.last it.own (if it.params then true else it.own) it.outer (names ds)
                (keep (parameters st).own behind).declared
                (subst (λ (all : List Declared).
                Reading u keys (in_declaration it.name it.last it.own ∷ it.outer) (names ds) all)
                (sym (keep_same (parameters st).own behind
                ∙ old_faults_same u (parameters st).identifiers st.names)) k.0),
            own.1,
            ended behind (parameters st).own it.params it.name it.last it.own it.outer own.0
                (faults_fit _ (parameters st).identifiers st.names k.2),
          ),
          adds_then st.names.uses behind.uses (keep (parameters st).own behind).uses st.names.declared behind.declared
              (keep (parameters st).own behind).declared (faults_add (parameters st).identifiers st.names)
              (keep_adds behind (parameters st).own),
        )
      where
        k : Holds (in_params it.params ∷ (in_declaration it.name it.last it.own ∷ it.outer)) st
        k = back m (in_params it.params ∷ (in_declaration it.name it.last it.own ∷ it.outer)) st it.was h

        behind : Names
        behind = old_faults u (parameters st).identifiers st.names

        own : OwnIs it.params (parameters st).own × Owning it.outer (owns (without_innermost st.parameters))
        own = owning_top it.params (in_declaration it.name it.last it.own ∷ it.outer) st.parameters k.1

    -- the innermost declaration
    module _ (d : Declaring m) where
      abbrev here : List Mark
      here = in_declaration d.name d.last d.own ∷ d.outer

      at_here : Holds here st
      at_here = back m here st d.is h

      top : HasName d.name (declaration st).name × NameIn u keys (declaration st).name
          × HasLastIn d.outer d.last st.names.declared
          × Reading u keys d.outer (names (without_innermost ds)) st.names.declared
      top = reading_top u keys d.name d.last d.own d.outer ds st.names.declared at_here.0

      declared_next : n ≡ in_declaration None d.name d.own ∷ d.outer →
          Grown (declarator_step u st declrs.Declare).names.declared S.declared →
          Next n st (declarator_step u st declrs.Declare)
      declared_next is g =
          next_is (in_declaration None d.name d.own ∷ d.outer) n st (declarator_step u st declrs.Declare) is (
            (
              reading_with u keys d.name d.last None d.name d.own d.own d.outer ds _ next.declared
                  (read_on here (names ds) st.names next goes.1 at_here.0) tt tt (last_declared d.outer u untagged
                  d.name (declaration st).name (declaration st).storage (declaration st).declared st.names top.0),
              at_here.1,
              refit here (in_declaration None d.name d.own ∷ d.outer) next (λ a. a) (λ k. k) goes.0,
            ),
            goes.1,
          )
        where
          untagged : Option ℕ
          untagged = untagged_number (declaration st).is_untagged (declaration st).type

          next : Names
          next =
              declared_some u untagged (declaration st).name (declaration st).storage (declaration st).declared st.names

          goes : Goes S differ keys here st.names next
          goes =
              some_goes S differ keys here st.names at_here.2 u untagged (declaration st).name (declaration st).storage
              (declaration st).declared top.1 g

      member_next : n ≡ in_declaration None d.last d.own ∷ d.outer → Next n st (declarator_step u st declrs.Member)
      member_next is =
          next_is (in_declaration None d.last d.own ∷ d.outer) n st (declarator_step u st declrs.Member) is (
            (
              reading_with u keys d.name d.last None d.last d.own d.own d.outer ds _ next.declared read tt tt
                  (reading_top u keys d.name d.last d.own d.outer ds next.declared read).2,
              at_here.1,
              refit here (in_declaration None d.last d.own ∷ d.outer) next (λ a. a) (λ k. k) goes.0,
            ),
            goes.1,
          )
        where
          next : Names
          next = declared_member u (declaration st).name (body st).members_of (declaration st).declared st.names

          goes : Goes S differ keys here st.names next
          goes = member_goes S differ keys here st.names at_here.2 u (declaration st).name (body st).members_of
              (declaration st).declared top.1

          read : Reading u keys here (names ds) next.declared
          read = read_on here (names ds) st.names next goes.1 at_here.0

      gone_next : n ≡ d.outer → Next n st (let_go st)
      gone_next is =
          next_is d.outer n st (let_go st) is
          ((top.3, at_here.1, refit here d.outer st.names (λ a. a) (λ k. k.1) at_here.2), adds_none)

      type_name_next : (first : ℕ) → n ≡ d.outer → Next n st (declarator_step u st (declrs.TypeName first))
      type_name_next first is =
          next_is d.outer n st (declarator_step u st (declrs.TypeName first)) is
          ((top.3, at_here.1, refit here d.outer st.names (λ a. a) (λ k. k.1) at_here.2), adds_none)

    -- lists of identifiers

    identified_next : (token name : ℕ) → n ≡ m → Next n st (with_identifier u token name st)
    identified_next token name is =
        next_is m n st (with_identifier u token name st) is (
          (
            h.0,
            subst (λ (ps : List (Option Place)). Owning m ps) (sym (owns_same st.parameters _)) h.1,
            refit m m (with_identifier u token name st).names (λ a. a) (λ k. k)
                (record { around = h.2.around; keeps = h.2.keeps; things = h.2.things; round = h.2.round }),
          ),
          adds_none,
        )

    module _ (d : Declaring m) (outer : List Mark) (among : d.outer ≡ in_params true ∷ outer)
        (is : n ≡ in_declaration None d.name d.own ∷ d.outer) where
      abbrev found : Olds
      found =
          old_declared_some u (parameters st).own (declaration st).name (decayed (declaration st).declared) (olds st)

      old_inside : (q : Place) → IsWithin S keys q → AtTop (IsOfFile S) (IsWithin S keys) d.outer q
      old_inside q k =
          subst (λ (it : List Mark). AtTop (IsOfFile S) (IsWithin S keys) it q) (sym among) k

      old_last : (ds : List Declared) → HasLastIn d.outer d.name ds
      old_last ds = subst (λ (it : List Mark). HasLastIn it d.name ds) (sym among) tt

      param_declared : Next n st (name_ended (with_olds found st))
      param_declared =
          next_is (in_declaration None d.name d.own ∷ d.outer) n st (name_ended (with_olds found st)) is (
            (
              reading_with u keys d.name d.last None d.name d.own d.own d.outer ds _ found.names.declared
                  (read_on (here d) (names ds) st.names found.names goes.1 (at_here d).0) tt tt
                  (old_last found.names.declared),
              subst (λ (ps : List (Option Place)). Owning (in_declaration None d.name d.own ∷ d.outer) ps)
                  (sym (owns_same st.parameters found.list)) (at_here d).1,
              refit (here d) (in_declaration None d.name d.own ∷ d.outer) found.names (λ a. a) (λ k. k) goes.0,
            ),
            goes.1,
          )
        where
          goes : Goes S differ keys (here d) st.names found.names
          goes = old_goes S differ keys (here d) (olds st) (at_here d).2 u (parameters st).own (declaration st).name
              (decayed (declaration st).declared) (top d).1 old_inside

      old_next : (b : Bool) →
          Grown (if b then name_declared u st else name_ended (with_olds found st)).names.declared S.declared →
          Next n st (if b then name_declared u st else name_ended (with_olds found st))
      old_next true g = declared_next d is g
      old_next false g = param_declared

  -- a name of the type of its initialiser is declared with that type
  auto_next : (m n : List Mark) (st : State) → Holds m st → (token : ℕ) (t : Option CType) → AutoEnding m n →
      Grown (auto_typed u token t st).names.declared S.declared → Next n st (auto_typed u token t st)
  auto_next m n st h token t it g =
      declared_next it.inner n typed (
        subst (λ (xs : List (Option Named)). Reading u keys it.inner xs st.names.declared)
            (sym (names_kept st.declarations type)) k.0,
        k.1,
        refit (in_part ∷ it.inner) it.inner typed.names (λ a. a) (λ k. k)
            (record { around = k.2.around; keeps = k.2.keeps; things = k.2.things; round = k.2.round }),
      ) it.declaring it.is g
    where
      k : Holds (in_part ∷ it.inner) st
      k = back m (in_part ∷ it.inner) st it.was h

      type : CType
      type = with_words (words_of (declaration st).type) (bare_or_base t)

      typed : State
      typed = record (part_ended st) {
        names = with_faults (fault_where (is_unknown t) (place u token) no_type) st.names;
        declarations = with_innermost (record (declaration st) { declared = type }) st.declarations;
      }

  module _ (m n : List Mark) (st : State) (h : Holds m st) where
    declr_next : (t : Option ℕ) (op : DeclrOp) → declr_turn t m op ≡ Some n → KeyIn (declr_key op) →
        Grown (declarator_step u st op).names.declared S.declared → Next n st (declarator_step u st op)
    declr_next t (declrs.DeclName token name) e key g = name_next m n st h token name e (key token refl)
    declr_next t (declrs.ParamsBegin own) e key g = begun_next m n st h t own e
    declr_next t declrs.Param e key g =
        let was = param_was m n e in
        param_next m n st h was.0.name was.0.last was.0.own was.1 was.2
        (was.0.is ∙ ap (λ (outer : List Mark). in_declaration was.0.name was.0.last was.0.own ∷ outer) was.3) was.4
    declr_next t declrs.ParamsEnd e key g = ended_next m n st h (params_were m n e)
    declr_next t declrs.Pointer e key g =
        typed_next m n st h (piece_of (to_pointer st.specifiers.words) (declaration st).declared) e
    declr_next t declrs.Array e key g =
        typed_next m n st h (piece_of (to_pointer st.specifiers.words) (declaration st).declared) e
    declr_next t (declrs.Function has_ellipsis) e key g =
        typed_next m n st h (piece_of (to_function (types_in (innermost_or [] st.finished))
        (ellipsis_where has_ellipsis st.specifiers.words)) (declaration st).declared) e
    declr_next t declrs.Declare e key g = let was = declared_was m n e in declared_next m n st h was.0 was.1 g
    declr_next t declrs.AutoBegin e key g = part_begins m n st h e
    declr_next t (declrs.AutoEnd token) e key g =
        auto_next m n st h token (value (shape_of_part u st)) (auto_was m n e) g
    declr_next t (declrs.Identifier token name) e key g = identified_next m n st h token name (identified_was m n e).2
    declr_next t declrs.OldParam e key g =
        let was = old_was m n e in
        old_next m n st h was.0 was.1 was.2 was.3 (has_word keywords.Typedef (declaration st).storage) g
    declr_next t declrs.Member e key g = let was = member_was m n e in member_next m n st h was.0 was.1
    declr_next t (declrs.TypeName first) e key g =
        let was = declaration_was m n e in type_name_next m n st h was.0 first was.1
    declr_next t declrs.DeclarationEnd e key g = let was = declaration_was m n e in gone_next m n st h was.0 was.1

    expr_next : (op : ExprOp) → Some m ≡ Some n → KeyIn (expr_key op) → Next n st (expression_step u st op)
    expr_next (exprs.Name is_called token name) e key =
        changed m n st h (used u is_called token name st.names) e
        (use_goes S differ keys m st.names h.2 u is_called token name (key token refl))
    expr_next op e key = same m n st h e

    op_next : (t : Option ℕ) (op : Op) → turn t m op ≡ Some n → KeyIn (op_key op) →
        Grown (step u st op).names.declared S.declared → Next n st (step u st op)
    op_next t (ops.Expr op) e key g = expr_next op e key
    op_next t (ops.Form op) e key g = form_next m n st h op e
    op_next t (ops.Init op) e key g = same m n st h e
    op_next t (ops.Spec op) e key g = spec_next m n st h op e key g
    op_next t (ops.Declr op) e key g = declr_next t op e key g
    op_next t (ops.Stmt op) e key g = stmt_next m n st h t op e

  then_next : (m n : List Mark) (st st2 st3 : State) → Next m st st2 → Next n st2 st3 → Next n st st3
  then_next m n st st2 st3 g h = (
    h.0,
    adds_then st.names.uses st2.names.uses st3.names.uses st.names.declared st2.names.declared
        st3.names.declared g.1 h.1,
  )

  -- along a tape
  pub run_next : (t : Option ℕ) (tape : List Op) (m n : List Mark) (st : State) → IsBracketed t m tape n →
      ((p : Place) → has_place (key_places u tape) p ≡ true → has_place keys p ≡ true) →
      Grown (run u tape st).names.declared S.declared → Holds m st → Next n st (run u tape st)
  run_next t [] m n st is inside g h = (back m n st is h, adds_none)
  run_next t (op ∷ tape) m n st b inside g h =
      then_next b.0 n st (step u st op) (run u tape (step u st op)) one
      (run_next t tape b.0 n (step u st op) b.2
      (λ p e. inside p (has_right (key_place u (op_key op)) (key_places u tape) p e)) g one.0)
    where
      key_in : (key : Option ℕ) → ((p : Place) → has_place (key_place u key) p ≡ true → has_place keys p ≡ true)
          → KeyIn key
      key_in None k token e = absurd cc
      key_in (Some it) k token e =
          let same : it ≡ token = cc in
          subst (λ (n : ℕ). has_place keys (place u n) ≡ true) same (k (place u it) (has_itself (place u it) []))

      one : Next b.0 st (step u st op)
      one = op_next m b.0 st h t op b.1
          (key_in (op_key op) (λ p e. inside p (has_left (key_place u (op_key op)) (key_places u tape) p e)))
          (then_grown (step u st op).names.declared (run u tape (step u st op)).names.declared S.declared
          (run_grown u tape (step u st op)) g)
