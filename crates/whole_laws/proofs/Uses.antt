-- Names are used along tapes at the places of their ops, and nowhere else.
use Rattle.std.proofs.Common.{◌≡◌, ℕ, Bool, true, false, List, [], ◌∷◌, ◌++◌, map, length, Option, None, Some, refl, sym, ◌∙◌, ap, subst, append_assoc}
use Rattle.std.specs.Prelude.{All, ◌&&◌, ◌||◌, if◌then◌else◌}
use Rattle.std.specs.List.{last_or}
use Rattle.c_words.specs.declared.kinds.Keyword.{Keyword}
use Rattle.c_words.specs.declared.kinds.Keyword.TheVariants as keywords
use Rattle.tape_ops.specs.declared.op.Op.{Op}
use Rattle.tape_ops.specs.declared.op.Op.TheVariants as ops
use Rattle.tape_ops.specs.declared.expression.ExprOp.{ExprOp}
use Rattle.tape_ops.specs.declared.expression.ExprOp.TheVariants as exprs
use Rattle.tape_ops.specs.declared.specifier.SpecOp.{SpecOp}
use Rattle.tape_ops.specs.declared.specifier.SpecOp.TheVariants as specs
use Rattle.tape_ops.specs.declared.specifier.TagKind.{TagKind}
use Rattle.tape_ops.specs.declared.declarator.DeclrOp.{DeclrOp}
use Rattle.tape_ops.specs.declared.declarator.DeclrOp.TheVariants as declrs
use Rattle.tape_ops.specs.declared.statement.StmtOp.{StmtOp}
use Rattle.tape_ops.specs.declared.statement.StmtOp.TheVariants as stmts
use Rattle.type_table.specs.Types.{CType, words_of}
use Rattle.c_tape.specs.Tape.{tape_of}
use Rattle.name_rules.specs.Spellings.{Spelling, Place, place, Named}
use Rattle.name_rules.specs.Scopes.{object_role, Declared, NameUse, Names, is_at_file, innermost, tag_in, tag_through, body_of, has_body, sized, is_place, with_key, with_faults}
use Rattle.name_rules.specs.Pieces.{is_function, decayed, with_words}
use Rattle.name_rules.specs.Values.{value}
use Rattle.name_rules.specs.Declaring.{Numbered, found_or_new, tag_used, untagged, untagged_number, opened, tag_known, begun_in, linked, thing_where, static_where, declared_by, declared_here, declared_thing, declared_typedef, typedef_known, declared_some, declared_param, declared_member, has_word, keep}
use Rattle.name_rules.specs.Faults.{no_type, undeclared, fault_where}
use Rattle.name_rules.specs.Identifiers.{OldParameter, Olds, number_of_identifier, old_declared, old_declared_some, is_unknown, old_faults}
use Rattle.name_rules.specs.Units.{no_names, unit_begun}
use Rattle.name_rules.specs.NameSteps.State.{State, with_names, with_innermost}
use Rattle.name_rules.specs.NameSteps.Steps.{declaration, body, parameters, expression_step, specifier_step, shape_of_part, part_ended, bare_or_base, olds, with_olds, name_ended, name_declared, declarator_step, body_entered_by, is_counted, is_plain, statement_step, step, run}
use Rattle.name_rules.specs.NameSteps.Units.{tapes_named}
use Rattle.type_rules.specs.Program.{Source, names_of}
use Rattle.resolve_laws.specs.NameLaws.NameLaws.{IsSound, NamesOfTapes, tape_of_source}
use Rattle.row_rules.specs.Sites.{AreDifferent}
use Rattle.row_laws.specs.KeyLaws.Keys.{expr_key, op_key, key_place, key_places}
use Rattle.row_laws.specs.KeyLaws.Differing.{keys_among}
use Rattle.missing_laws.specs.Programs.{use_places}
use Rattle.whole_laws.proofs.Parts.{IsPart, none, part_differs, further_part, joined_part, same_part}

uses_joined : (xs ys : List NameUse) → use_places (xs ++ ys) ≡ use_places xs ++ use_places ys
uses_joined [] ys = refl
uses_joined (x ∷ xs) ys = ap (λ (ps : List Place). x.at ∷ ps) (uses_joined xs ys)

-- what declares nothing but names and tags uses none

-- a typedef that names a struct without a tag leaves the uses of names as they were
known_same : (words : List Keyword) (name : ℕ) (untagged : Option ℕ) (s : Names) →
    (typedef_known words name untagged s).uses ≡ s.uses
known_same words name None s = refl
known_same words name (Some n) s = by (has_word keywords.Typedef words && is_at_file s)
  where
    by : (b : Bool) → (if b then with_key n true name s else s).uses ≡ s.uses
    by true = refl
    by false = refl

-- a thing that is new or `static` leaves the uses of names as they were
thing_same : (b c : Bool) (unit name : ℕ) (at : Place) (s : Names) →
    (static_where b unit name (thing_where c name at s)).uses ≡ s.uses
thing_same true true unit name at s = refl
thing_same true false unit name at s = refl
thing_same false true unit name at s = refl
thing_same false false unit name at s = refl

-- a declarator, be it with a name or without, leaves the uses of names as they were
some_same : (u : Spelling) (untagged : Option ℕ) (it : Option Named) (words : List Keyword) (t : CType) (s : Names) →
    (declared_some u untagged it words t s).uses ≡ s.uses
some_same u untagged None words t s = refl
some_same u untagged (Some it) words t s =
    known_same words (u.key it.name) untagged (declared_by words (place u it.token) (u.key it.name) t old)
    ∙ by (has_word keywords.Typedef words) (is_at_file old || (is_function t || has_word keywords.Extern words))
  where
    old : Names
    old = sized (place u it.token) t s

    own : Option Place
    own = if has_word keywords.Static words then None else old.enclosing

    by : (b c : Bool) → (if b then declared_typedef (place u it.token) (u.key it.name) t old
        else if c then declared_thing words (place u it.token) (u.key it.name) t old
        else declared_here (place u it.token) (u.key it.name) object_role t own old).uses ≡ s.uses
    by true c = refl
    by false true =
        thing_same (has_word keywords.Static words) (is_place (linked (u.key it.name) (place u it.token) old)
        (place u it.token)) (place u it.token).0 (u.key it.name) (place u it.token) old
    by false false = refl

param_same : (u : Spelling) (it : Option Named) (i : ℕ) (own : Option Place) (t : CType) (s : Names) →
    (declared_param u it i own t s).uses ≡ s.uses
param_same u None i own t s = refl
param_same u (Some it) i own t s = refl

member_same : (u : Spelling) (it : Option Named) (n : ℕ) (t : CType) (s : Names) →
    (declared_member u it n t s).uses ≡ s.uses
member_same u None n t s = refl
member_same u (Some it) n t s = refl

tag_same : (found : Option ℕ) (u : Spelling) (kind : TagKind) (token tag : ℕ) (s : Names) →
    (found_or_new found u kind token tag s).names.uses ≡ s.uses
tag_same (Some n) u kind token tag s = refl
tag_same None u kind token tag s = refl

-- a use of a tag leaves the uses of names as they were
tag_used_same : (u : Spelling) (alone : Bool) (kind : TagKind) (token tag : ℕ) (s : Names) →
    (tag_used u alone kind token tag s).names.uses ≡ s.uses
tag_used_same u alone kind token tag s =
    tag_same (if alone then tag_in (innermost s.scopes).tags kind (u.key tag)
    else tag_through s.scopes kind (u.key tag)) u kind token tag s

-- a tag that is known leaves the uses of names as they were
tag_known_same : (tag : Option ℕ) (n : ℕ) (s : Names) → (tag_known tag n s).uses ≡ s.uses
tag_known_same None n s = refl
tag_known_same (Some tag) n s = by (is_at_file s)
  where
    by : (b : Bool) → (if b then with_key n false tag s else s).uses ≡ s.uses
    by true = refl
    by false = refl

begun_same : (b : Bool) (at : Place) (kind : TagKind) (tag : Option ℕ) (it : Numbered) →
    (begun_in b at kind tag it).names.uses ≡ it.names.uses
begun_same true at kind tag it = refl
begun_same false at kind tag it = tag_known_same tag it.number (opened it.number it.names)

keep_same : (own : Option Place) (s : Names) → (keep own s).uses ≡ s.uses
keep_same None s = refl
keep_same (Some own) s = refl

-- the entry into the body of a function leaves the uses of names as they were
entered_same : (plain counted : Bool) (d : Option Declared) (s : Names)
    → (body_entered_by plain counted d s).uses ≡ s.uses
entered_same plain counted None s = refl
entered_same plain true (Some d) s = refl
entered_same plain false (Some d) s = refl

-- lists of identifiers

-- faults of parameters behind a list of identifiers leave the uses of names as they were
unknown_same : (u : Spelling) (its : List OldParameter) (s : Names) → (old_faults u its s).uses ≡ s.uses
unknown_same u [] s = refl
unknown_same u (it ∷ its) s =
    unknown_same u its (with_faults (fault_where (is_unknown it.type) (place u it.token) undeclared) s)

old_same : (u : Spelling) (own : Option Place) (it : Named) (t : CType) (i : Option ℕ) (olds : Olds) →
    (old_declared u own it t i olds).names.uses ≡ olds.names.uses
old_same u own it t None olds = refl
old_same u own it t (Some i) olds = refl

some_old_same : (u : Spelling) (own : Option Place) (it : Option Named) (t : CType) (olds : Olds) →
    (old_declared_some u own it t olds).names.uses ≡ olds.names.uses
some_old_same u own None t olds = refl
some_old_same u own (Some it) t olds = old_same u own it t (number_of_identifier (u.key it.name) olds.list) olds

-- steps

module _ (u : Spelling) where
  spec_same : (st : State) (op : SpecOp) → (specifier_step u st op).names.uses ≡ st.names.uses
  spec_same st (specs.TagUse kind token name) = tag_used_same u false kind token name st.names
  spec_same st (specs.TagAlone kind token name) = tag_used_same u true kind token name st.names
  spec_same st (specs.TagBody kind token name) =
      let it = tag_used u true kind token name st.names in
      begun_same (has_body (body_of it.names.aggregates it.number)) (place u token) kind (Some (u.key name)) it
      ∙ tag_used_same u true kind token name st.names
  spec_same st (specs.Untagged kind token) =
      let it = untagged (place u token) kind st.names in
      begun_same (has_body (body_of it.names.aggregates it.number)) (place u token) kind None it
  spec_same st op = refl

  name_same : (st : State) → (name_declared u st).names.uses ≡ st.names.uses
  name_same st =
      some_same u (untagged_number (declaration st).is_untagged (declaration st).type) (declaration st).name
      (declaration st).storage (declaration st).declared st.names

  declr_same : (st : State) (op : DeclrOp) → (declarator_step u st op).names.uses ≡ st.names.uses
  declr_same st declrs.Param =
      param_same u (declaration st).name (length (parameters st).types) (parameters st).own
      (decayed (declaration st).declared) st.names
  declr_same st declrs.ParamsEnd =
      keep_same (parameters st).own (old_faults u (parameters st).identifiers st.names)
      ∙ unknown_same u (parameters st).identifiers st.names
  declr_same st declrs.Declare = name_same st
  declr_same st (declrs.AutoEnd token) =
      let t = value (shape_of_part u st) in
      name_same (record (part_ended st) {
        names = with_faults (fault_where (is_unknown t) (place u token) no_type) st.names;
        declarations = with_innermost
            (record (declaration st) { declared = with_words (words_of (declaration st).type) (bare_or_base t) })
            st.declarations;
      })
  declr_same st declrs.OldParam = by (has_word keywords.Typedef (declaration st).storage)
    where
      by : (b : Bool) → (if b then name_declared u st else name_ended (with_olds
          (old_declared_some u (parameters st).own (declaration st).name (decayed (declaration st).declared)
          (olds st)) st)).names.uses
          ≡ st.names.uses
      by true = name_same st
      by false =
          some_old_same u (parameters st).own (declaration st).name (decayed (declaration st).declared) (olds st)
  declr_same st declrs.Member =
      member_same u (declaration st).name (body st).members_of (declaration st).declared st.names
  declr_same st op = refl

  stmt_same : (st : State) (op : StmtOp) → (statement_step u st op).names.uses ≡ st.names.uses
  stmt_same st stmts.FunctionBody =
      entered_same (is_plain st) (is_counted u st) (last_or None st.names.declared) st.names
  stmt_same st op = refl

  module _ (st : State) (keys : List Place) (h : IsPart (use_places st.names.uses) keys) where
    unchanged : (uses : List NameUse) (key : Option ℕ) → uses ≡ st.names.uses →
        IsPart (use_places uses) (keys ++ key_place u key)
    unchanged uses key e =
        subst (λ (it : List NameUse). IsPart (use_places it) (keys ++ key_place u key)) (sym e)
        (further_part (key_place u key) h)

    expr_part : (op : ExprOp)
        → IsPart (use_places (expression_step u st op).names.uses) (keys ++ key_place u (expr_key op))
    expr_part (exprs.Name is_called token name) =
        subst (λ (ps : List Place). IsPart ps (keys ++ place u token ∷ [])) (sym (uses_joined st.names.uses _))
        (joined_part h (same_part (place u token)))
    expr_part op = further_part (key_place u (expr_key op)) h

    step_part : (op : Op) → IsPart (use_places (step u st op).names.uses) (keys ++ key_place u (op_key op))
    step_part (ops.Expr op) = expr_part op
    step_part (ops.Form op) = further_part (key_place u (op_key (ops.Form op))) h
    step_part (ops.Init op) = further_part (key_place u (op_key (ops.Init op))) h
    step_part (ops.Spec op) = unchanged _ (op_key (ops.Spec op)) (spec_same st op)
    step_part (ops.Declr op) = unchanged _ (op_key (ops.Declr op)) (declr_same st op)
    step_part (ops.Stmt op) = unchanged _ (op_key (ops.Stmt op)) (stmt_same st op)

  tape_part : (tape : List Op) (st : State) (keys : List Place) → IsPart (use_places st.names.uses) keys →
      IsPart (use_places (run u tape st).names.uses) (keys ++ key_places u tape)
  tape_part [] st keys h = further_part [] h
  tape_part (op ∷ tape) st keys h =
      subst (IsPart (use_places (run u tape (step u st op)).names.uses))
      (append_assoc keys (key_place u (op_key op)) (key_places u tape))
      (tape_part tape (step u st op) (keys ++ key_place u (op_key op)) (step_part st keys h op))

-- units

-- the uses of names along the tapes of sources are at places of their ops, in their order, behind earlier ones
sources_part : (sources : List Source) (s : Names) (keys : List Place) → IsPart (use_places s.uses) keys →
    IsPart (use_places (tapes_named (map tape_of_source sources) s).uses) (keys ++ keys_among sources)
sources_part [] s keys h = further_part [] h
sources_part (it ∷ sources) s keys h =
    subst (IsPart (use_places (tapes_named (map tape_of_source sources) next).uses))
    (append_assoc keys (key_places it.spelling (tape_of it.items)) (keys_among sources))
    (sources_part sources next (keys ++ key_places it.spelling (tape_of it.items))
    (tape_part it.spelling (tape_of it.items) (with_names (unit_begun it.spelling.unit s)) keys h))
  where
    next : Names
    next = (run it.spelling (tape_of it.items) (with_names (unit_begun it.spelling.unit s))).names

-- the uses of names in a program are at different places, where its ops are
pub uses_differ : NamesOfTapes → (sources : List Source) → All IsSound sources → AreDifferent (keys_among sources) →
    AreDifferent (use_places (names_of sources).uses)
uses_differ names sources sound differ =
    subst (λ (s : Names). AreDifferent (use_places s.uses)) (names sources sound)
    (part_differs (sources_part sources no_names [] none) differ)
