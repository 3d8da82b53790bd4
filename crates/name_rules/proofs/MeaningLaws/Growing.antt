-- What each step adds to the declarations, behind those that are there, and what it leaves as it is.
use Rattle.std.proofs.Common.{◌≡◌, ℕ, Bool, true, false, List, [], ◌∷◌, ◌++◌, length, Option, None, Some, refl, sym, ◌∙◌, ap, subst, append_assoc, append-nil}
use Rattle.std.specs.Prelude.{◌&&◌, ◌||◌, if◌then◌else◌, slice_get}
use Rattle.std.specs.List.{last_or}
use Rattle.c_words.specs.declared.kinds.Keyword.{Keyword}
use Rattle.c_words.specs.declared.kinds.Keyword.TheVariants as keywords
use Rattle.tape_ops.specs.declared.op.Op.{Op}
use Rattle.tape_ops.specs.declared.op.Op.TheVariants as ops
use Rattle.tape_ops.specs.declared.expression.ExprOp.{ExprOp}
use Rattle.tape_ops.specs.declared.expression.ExprOp.TheVariants as exprs
use Rattle.tape_ops.specs.declared.specifier.SpecOp.{SpecOp}
use Rattle.tape_ops.specs.declared.specifier.SpecOp.TheVariants as specs
use Rattle.tape_ops.specs.declared.specifier.TagKind.{TagKind}
use Rattle.tape_ops.specs.declared.declarator.DeclrOp.{DeclrOp}
use Rattle.tape_ops.specs.declared.declarator.DeclrOp.TheVariants as declrs
use Rattle.tape_ops.specs.declared.statement.StmtOp.{StmtOp}
use Rattle.tape_ops.specs.declared.statement.StmtOp.TheVariants as stmts
use Rattle.type_table.specs.Types.{CType, words_of}
use Rattle.name_rules.specs.Spellings.{Spelling, Place, place, Named}
use Rattle.name_rules.specs.Scopes.{object_role, function_role, Declared, Names, is_place, is_at_file, innermost, tag_in, tag_through, body_of, has_body, sized, with_key, with_faults}
use Rattle.name_rules.specs.Pieces.{is_function, decayed, with_words}
use Rattle.name_rules.specs.Declaring.{Numbered, found_or_new, tag_used, untagged, opened, tag_known, begun_in, untagged_number, linked, owner_where, thing_where, static_where, declared_here, declared_thing, declared_typedef, declared_by, typedef_known, declared_some, declared_param, declared_member, has_word, keep}
use Rattle.name_rules.specs.Units.{unit_begun}
use Rattle.name_rules.specs.Faults.{undeclared, defined_twice, no_type, fault_where}
use Rattle.name_rules.specs.Identifiers.{OldParameter, Olds, is_typed, is_unknown, number_of_identifier, old_declared, old_declared_some, old_faults}
use Rattle.name_rules.specs.Values.{value}
use Rattle.name_rules.specs.NameSteps.State.{OpenDeclaration, State, no_declaration, innermost_or, with_innermost, with_names}
use Rattle.name_rules.specs.NameSteps.Steps.{declaration, body, parameters, expression_step, specifier_step, declarator_step, name_ended, name_declared, olds, with_olds, with_old_parameter, part_ended, shape_of_part, auto_typed, bare_or_base, body_entered_by, is_plain, is_counted, statement_step, step, run}
use Rattle.name_rules.specs.NameSteps.Units.{Tape, tape_named, tapes_named}

-- the second ones are the first ones and others behind them
pub record Grown (old new : List Declared) : Type 0 where
  pub added : List Declared
  pub is : new ≡ old ++ added

pub same : (old new : List Declared) → new ≡ old → Grown old new
same old new e = record { added = []; is = e ∙ sym (append-nil old) }

-- declarations that grew from some that grew from others grew from those
pub then_grown : (a b c : List Declared) → Grown a b → Grown b c → Grown a c
then_grown a b c g h = record {
  added = g.added ++ h.added;
  is = h.is ∙ (ap (λ (ds : List Declared). ds ++ h.added) g.is ∙ append_assoc a g.added h.added);
}

-- what a declarator that ends adds: a declaration at its name, where it has one
abbrev pub Adds : Spelling → Option Named → List Declared → List Declared → Type 0
Adds u None old new = new ≡ old
Adds u (Some it) old new = (d : Declared) × (d.at ≡ place u it.token) × (new ≡ old ++ d ∷ [])

-- a struct that becomes known by its typedef leaves the declarations as they are
pub known_same : (words : List Keyword) (name : ℕ) (untagged : Option ℕ) (s : Names) →
    (typedef_known words name untagged s).declared ≡ s.declared
known_same words name None s = refl
known_same words name (Some n) s = by (has_word keywords.Typedef words && is_at_file s)
  where
    by : (b : Bool) → (if b then with_key n true name s else s).declared ≡ s.declared
    by true = refl
    by false = refl

-- a thing and a `static` that are noted leave the declarations as they are
thing_same : (b c : Bool) (unit name : ℕ) (at : Place) (s : Names) →
    (static_where b unit name (thing_where c name at s)).declared ≡ s.declared
thing_same true true unit name at s = refl
thing_same true false unit name at s = refl
thing_same false true unit name at s = refl
thing_same false false unit name at s = refl

-- a declarator adds one declaration at its name, or none where it has no name
pub adds_some : (u : Spelling) (untagged : Option ℕ) (it : Option Named) (words : List Keyword)
    (t : CType) (s : Names) →
    Adds u it s.declared (declared_some u untagged it words t s).declared
adds_some u untagged None words t s = refl
adds_some u untagged (Some it) words t s =
    subst (Adds u (Some it) s.declared) (sym (known_same words (u.key it.name) untagged
    (declared_by words at (u.key it.name) t old)))
    (by (has_word keywords.Typedef words) (is_at_file old || (is_function t || has_word keywords.Extern words)))
  where
    at : Place
    at = place u it.token

    old : Names
    old = sized at t s

    own : Option Place
    own = if has_word keywords.Static words then None else old.enclosing

    is_static : Bool
    is_static = has_word keywords.Static words

    first : Place
    first = linked (u.key it.name) at old

    is_new : Bool
    is_new = is_place first at

    thing : Declared
    thing = record {
      at = at;
      role = if is_function t then function_role else object_role;
      first = first;
      type = t;
      owner =
          owner_where (static_where is_static at.0 (u.key it.name) (thing_where is_new (u.key it.name) at old)) first at
          (if is_function t then Some at else None);
    }

    by : (b c : Bool) → Adds u (Some it) s.declared (if b then declared_typedef at (u.key it.name) t old
        else if c then declared_thing words at (u.key it.name) t old
        else declared_here at (u.key it.name) object_role t own old).declared
    by true c = (_, refl, refl)
    by false true = (
      thing,
      refl,
      ap (λ (ds : List Declared). ds ++ thing ∷ []) (thing_same is_static is_new at.0 (u.key it.name) at old),
    )
    by false false = (_, refl, refl)

pub adds_param : (u : Spelling) (it : Option Named) (i : ℕ) (own : Option Place) (t : CType) (s : Names) →
    Adds u it s.declared (declared_param u it i own t s).declared
adds_param u None i own t s = refl
adds_param u (Some it) i own t s = (_, refl, refl)

pub adds_member : (u : Spelling) (it : Option Named) (n : ℕ) (t : CType) (s : Names) →
    Adds u it s.declared (declared_member u it n t s).declared
adds_member u None n t s = refl
adds_member u (Some it) n t s = (_, refl, refl)

adds_grown : (u : Spelling) (it : Option Named) (old new : List Declared) → Adds u it old new → Grown old new
adds_grown u None old new e = same old new e
adds_grown u (Some it) old new a = record { added = a.0 ∷ []; is = a.2 }

tag_same : (found : Option ℕ) (u : Spelling) (kind : TagKind) (token tag : ℕ) (s : Names) →
    (found_or_new found u kind token tag s).names.declared ≡ s.declared
tag_same (Some n) u kind token tag s = refl
tag_same None u kind token tag s = refl

-- a use of a tag leaves the declarations as they are
pub used_same : (u : Spelling) (alone : Bool) (kind : TagKind) (token tag : ℕ) (s : Names) →
    (tag_used u alone kind token tag s).names.declared ≡ s.declared
used_same u alone kind token tag s =
    tag_same (if alone then tag_in (innermost s.scopes).tags kind (u.key tag)
    else tag_through s.scopes kind (u.key tag)) u kind token tag s

-- a struct that becomes known by its tag leaves the declarations as they are
tag_known_same : (tag : Option ℕ) (n : ℕ) (s : Names) → (tag_known tag n s).declared ≡ s.declared
tag_known_same None n s = refl
tag_known_same (Some tag) n s = by (is_at_file s)
  where
    by : (b : Bool) → (if b then with_key n false tag s else s).declared ≡ s.declared
    by true = refl
    by false = refl

begun_same : (b : Bool) (at : Place) (kind : TagKind) (tag : Option ℕ) (it : Numbered) →
    (begun_in b at kind tag it).names.declared ≡ it.names.declared
begun_same true at kind tag it = refl
begun_same false at kind tag it = tag_known_same tag it.number (opened it.number it.names)

pub keep_same : (own : Option Place) (s : Names) → (keep own s).declared ≡ s.declared
keep_same None s = refl
keep_same (Some own) s = refl

-- a body that a function enters leaves the declarations as they are
pub entered_same : (plain counted : Bool) (d : Option Declared) (s : Names) →
    (body_entered_by plain counted d s).declared ≡ s.declared
entered_same plain counted None s = refl
entered_same plain true (Some d) s = refl
entered_same plain false (Some d) s = refl

-- lists of identifiers

-- the faults of identifiers without declarations leave the declarations as they are
pub old_faults_same : (u : Spelling) (its : List OldParameter) (s : Names) → (old_faults u its s).declared ≡ s.declared
old_faults_same u [] s = refl
old_faults_same u (it ∷ others) s =
    old_faults_same u others (with_faults (fault_where (is_unknown it.type) (place u it.token) undeclared) s)

-- the declarations grow, or stay, where a parameter is declared behind a list of identifiers
old_declared_grown : (u : Spelling) (own : Option Place) (it : Named) (t : CType) (i : Option ℕ) (its : Olds) →
    Grown its.names.declared (old_declared u own it t i its).names.declared
old_declared_grown u own it t None its = same _ _ refl
old_declared_grown u own it t (Some i) its =
    adds_grown u (Some it) _ _ (adds_param u (Some it) i own t
    (with_faults (fault_where (is_typed (slice_get its.list i)) (place u it.token) defined_twice) its.names))

old_some_grown : (u : Spelling) (own : Option Place) (it : Option Named) (t : CType) (its : Olds) →
    Grown its.names.declared (old_declared_some u own it t its).names.declared
old_some_grown u own None t its = same _ _ refl
old_some_grown u own (Some it) t its = old_declared_grown u own it t (number_of_identifier (u.key it.name) its.list) its

-- the names that are read

abbrev pub names : List OpenDeclaration → List (Option Named)
names [] = []
names (d ∷ ds) = d.name ∷ names ds

pub names_kept : (ds : List OpenDeclaration) (t : CType) →
    names (with_innermost (record (innermost_or no_declaration ds) { declared = t }) ds) ≡ names ds
names_kept [] t = refl
names_kept (d ∷ ds) t = refl

-- steps

module _ (u : Spelling) where
  pub tag_body_same : (st : State) (kind : TagKind) (token name : ℕ) →
      (specifier_step u st (specs.TagBody kind token name)).names.declared ≡ st.names.declared
  tag_body_same st kind token name =
      begun_same (has_body (body_of (tag_used u true kind token name st.names).names.aggregates
      (tag_used u true kind token name st.names).number)) (place u token) kind (Some (u.key name))
      (tag_used u true kind token name st.names) ∙ used_same u true kind token name st.names

  pub untagged_same : (st : State) (kind : TagKind) (token : ℕ) →
      (specifier_step u st (specs.Untagged kind token)).names.declared ≡ st.names.declared
  untagged_same st kind token =
      begun_same (has_body (body_of (untagged (place u token) kind st.names).names.aggregates
      (untagged (place u token) kind st.names).number)) (place u token) kind None
      (untagged (place u token) kind st.names)

  spec_grown : (st : State) (op : SpecOp) → Grown st.names.declared (specifier_step u st op).names.declared
  spec_grown st (specs.TagUse kind token name) = same _ _ (used_same u false kind token name st.names)
  spec_grown st (specs.TagAlone kind token name) = same _ _ (used_same u true kind token name st.names)
  spec_grown st (specs.TagBody kind token name) = same _ _ (tag_body_same st kind token name)
  spec_grown st (specs.Untagged kind token) = same _ _ (untagged_same st kind token)
  spec_grown st (specs.Enumerator token name) = record { added = _; is = refl }
  spec_grown st (specs.UnnamedMember token) = record { added = _; is = refl }
  spec_grown st op = same _ _ refl

  name_grown : (st : State) → Grown st.names.declared (name_declared u st).names.declared
  name_grown st =
      adds_grown u (declaration st).name _ _
      (adds_some u (untagged_number (declaration st).is_untagged (declaration st).type) (declaration st).name
      (declaration st).storage (declaration st).declared st.names)

  auto_grown : (token : ℕ) (t : Option CType) (st : State)
      → Grown st.names.declared (auto_typed u token t st).names.declared
  auto_grown token t st = name_grown (record (part_ended st) {
    names = with_faults (fault_where (is_unknown t) (place u token) no_type) st.names;
    declarations = with_innermost
        (record (declaration st) { declared = with_words (words_of (declaration st).type) (bare_or_base t) })
        st.declarations;
  })

  old_grown : (st : State) → Grown st.names.declared (with_old_parameter u st).names.declared
  old_grown st = by (has_word keywords.Typedef (declaration st).storage)
    where
      its : Olds
      its = old_declared_some u (parameters st).own (declaration st).name (decayed (declaration st).declared) (olds st)

      by : (b : Bool)
          → Grown st.names.declared (if b then name_declared u st else name_ended (with_olds its st)).names.declared
      by true = name_grown st
      by false =
          old_some_grown u (parameters st).own (declaration st).name (decayed (declaration st).declared) (olds st)

  declr_grown : (st : State) (op : DeclrOp) → Grown st.names.declared (declarator_step u st op).names.declared
  declr_grown st declrs.Param =
      adds_grown u (declaration st).name _ _ (adds_param u (declaration st).name (length (parameters st).types)
      (parameters st).own (decayed (declaration st).declared) st.names)
  declr_grown st declrs.ParamsEnd =
      same _ _ (keep_same (parameters st).own (old_faults u (parameters st).identifiers st.names)
      ∙ old_faults_same u (parameters st).identifiers st.names)
  declr_grown st declrs.Declare = name_grown st
  declr_grown st (declrs.AutoEnd token) = auto_grown token (value (shape_of_part u st)) st
  declr_grown st declrs.OldParam = old_grown st
  declr_grown st declrs.Member =
      adds_grown u (declaration st).name _ _
      (adds_member u (declaration st).name (body st).members_of (declaration st).declared st.names)
  declr_grown st op = same _ _ refl

  stmt_grown : (st : State) (op : StmtOp) → Grown st.names.declared (statement_step u st op).names.declared
  stmt_grown st stmts.FunctionBody =
      same _ _ (entered_same (is_plain st) (is_counted u st) (last_or None st.names.declared) st.names)
  stmt_grown st op = same _ _ refl

  pub expr_same : (st : State) (op : ExprOp) → (expression_step u st op).names.declared ≡ st.names.declared
  expr_same st (exprs.Name is_called token name) = refl
  expr_same st op = refl

  pub expr_declarations : (st : State) (op : ExprOp) → (expression_step u st op).declarations ≡ st.declarations
  expr_declarations st (exprs.Name is_called token name) = refl
  expr_declarations st op = refl

  step_grown : (st : State) (op : Op) → Grown st.names.declared (step u st op).names.declared
  step_grown st (ops.Expr op) = same _ _ (expr_same st op)
  step_grown st (ops.Spec op) = spec_grown st op
  step_grown st (ops.Declr op) = declr_grown st op
  step_grown st (ops.Stmt op) = stmt_grown st op
  step_grown st op = same _ _ refl

  pub run_grown : (tape : List Op) (st : State) → Grown st.names.declared (run u tape st).names.declared
  run_grown [] st = same _ _ refl
  run_grown (op ∷ tape) st =
      then_grown st.names.declared (step u st op).names.declared (run u tape (step u st op)).names.declared
      (step_grown st op) (run_grown tape (step u st op))

-- the declarations grow along tapes
pub tapes_grown : (tapes : List Tape) (s : Names) → Grown s.declared (tapes_named tapes s).declared
tapes_grown [] s = same _ _ refl
tapes_grown (it ∷ tapes) s =
    then_grown s.declared next.declared (tapes_named tapes next).declared
    (run_grown it.spelling it.ops (with_names (unit_begun it.spelling.unit s))) (tapes_grown tapes next)
  where
    next : Names
    next = tape_named it (unit_begun it.spelling.unit s)
