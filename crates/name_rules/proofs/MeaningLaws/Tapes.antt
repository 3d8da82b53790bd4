-- Along tapes.
use Rattle.std.proofs.Common.{◌≡◌, ℕ, Bool, true, false, List, [], ◌∷◌, length, Option, None, Some, sym, ◌∙◌, ap, subst}
use Rattle.std.specs.Prelude.{if◌then◌else◌, slice_get}
use Rattle.std.specs.List.{last_or}
use Rattle.tape_ops.specs.declared.op.Op.{Op}
use Rattle.tape_ops.specs.declared.op.Op.TheVariants as ops
use Rattle.tape_ops.specs.declared.expression.ExprOp.{ExprOp}
use Rattle.tape_ops.specs.declared.expression.ExprOp.TheVariants as exprs
use Rattle.tape_ops.specs.declared.specifier.SpecOp.{SpecOp}
use Rattle.tape_ops.specs.declared.specifier.SpecOp.TheVariants as specs
use Rattle.tape_ops.specs.declared.declarator.DeclrOp.{DeclrOp}
use Rattle.tape_ops.specs.declared.declarator.DeclrOp.TheVariants as declrs
use Rattle.tape_ops.specs.declared.statement.StmtOp.{StmtOp}
use Rattle.tape_ops.specs.declared.statement.StmtOp.TheVariants as stmts
use Rattle.type_table.specs.Types.{CType, base, words_of}
use Rattle.name_rules.specs.Spellings.{Spelling, Place, place, Named}
use Rattle.name_rules.specs.Scopes.{enumerator_role, Declared, declared_at, Names, is_place, body_of, with_faults}
use Rattle.name_rules.specs.Pieces.{decayed, with_words}
use Rattle.name_rules.specs.Declaring.{untagged_number, has_word}
use Rattle.name_rules.specs.Faults.{undeclared, defined_twice, no_type, fault_where}
use Rattle.name_rules.specs.Identifiers.{OldParameter, Olds, is_typed, is_unknown, number_of_identifier, old_declared, old_declared_some, old_faults}
use Rattle.name_rules.specs.Values.{value}
use Rattle.c_words.specs.declared.kinds.Keyword.TheVariants as keywords
use Rattle.name_rules.specs.Units.{no_names, unit_begun}
use Rattle.name_rules.specs.NameSteps.State.{State, with_names, with_innermost}
use Rattle.name_rules.specs.NameSteps.Steps.{declaration, body, parameters, expression_step, specifier_step, declarator_step, name_ended, name_declared, olds, with_olds, with_old_parameter, part_ended, shape_of_part, auto_typed, bare_or_base, body_entered_by, is_plain, is_counted, statement_step, step, run}
use Rattle.name_rules.specs.NameSteps.Units.{Tape, tape_named, tapes_named}
use Rattle.name_rules.specs.MeaningLaws.Meanings.{Differ, IsFirst, IsNobodys, IsMember, HasFirst, AllFirst, AreFirst, NamesAreFirst, MeaningsAreFirst}
use Rattle.name_rules.proofs.MeaningLaws.Growing.{Grown, run_grown, tapes_grown}
use Rattle.name_rules.proofs.MeaningLaws.Lists.{declared_place, differ_before, use_found, member_found, body_of_is, own_of_found}
use Rattle.name_rules.proofs.MeaningLaws.Changes.{is_declared_here, is_declared_some, is_declared_param, is_declared_member, is_unnamed_member, is_tag_used, is_tag_begun, is_untagged_begun, is_used, is_entered, is_left, is_kept, is_body_entered, is_body_left, is_unit_begun, no_names_are}
use Rattle.name_rules.proofs.MeaningLaws.Links.{has_link}

differ_old : (old new : List Declared) → Grown old new → Differ new → Differ old
differ_old old new g h = differ_before old g.added (subst Differ g.is h)

module _ (u : Spelling) where
  spec_first : (st : State) (op : SpecOp) → Differ (specifier_step u st op).names.declared → AreFirst st.names →
      AreFirst (specifier_step u st op).names
  spec_first st (specs.TagUse kind token name) d h = is_tag_used u false kind token name st.names h
  spec_first st (specs.TagAlone kind token name) d h = is_tag_used u true kind token name st.names h
  spec_first st (specs.TagBody kind token name) d h = is_tag_begun u kind token name st.names h
  spec_first st (specs.Untagged kind token) d h = is_untagged_begun (place u token) kind st.names h
  spec_first st (specs.Enumerator token name) d h =
      is_declared_here (place u token) (u.key name) enumerator_role (base []) None st.names (λ e. absurd cc) d h
  spec_first st (specs.UnnamedMember token) d h =
      is_unnamed_member (place u token) (body st).members_of (declaration st).type st.names d h
  spec_first st op d h = h

  name_first : (st : State) → Differ (name_declared u st).names.declared → AreFirst st.names →
      AreFirst (name_declared u st).names
  name_first st d h =
      is_declared_some u (untagged_number (declaration st).is_untagged (declaration st).type) (declaration st).name
      (declaration st).storage (declaration st).declared st.names d h

  auto_first : (token : ℕ) (t : Option CType) (st : State) → Differ (auto_typed u token t st).names.declared →
      AreFirst st.names → AreFirst (auto_typed u token t st).names
  auto_first token t st d h =
      name_first (record (part_ended st) {
        names = with_faults (fault_where (is_unknown t) (place u token) no_type) st.names;
        declarations = with_innermost
            (record (declaration st) { declared = with_words (words_of (declaration st).type) (bare_or_base t) })
            st.declarations;
      }) d h

  -- lists of identifiers

  old_faults_first : (its : List OldParameter) (s : Names) → AreFirst s → AreFirst (old_faults u its s)
  old_faults_first [] s h = h
  old_faults_first (it ∷ others) s h =
      old_faults_first others (with_faults (fault_where (is_unknown it.type) (place u it.token) undeclared) s) h

  old_declared_first : (own : Option Place) (it : Named) (t : CType) (i : Option ℕ) (its : Olds) →
      Differ (old_declared u own it t i its).names.declared → AreFirst its.names →
      AreFirst (old_declared u own it t i its).names
  old_declared_first own it t None its d h = h
  old_declared_first own it t (Some i) its d h =
      is_declared_param u (Some it) i own t
      (with_faults (fault_where (is_typed (slice_get its.list i)) (place u it.token) defined_twice) its.names) d h

  old_some_first : (own : Option Place) (it : Option Named) (t : CType) (its : Olds) →
      Differ (old_declared_some u own it t its).names.declared → AreFirst its.names →
      AreFirst (old_declared_some u own it t its).names
  old_some_first own None t its d h = h
  old_some_first own (Some it) t its d h =
      old_declared_first own it t (number_of_identifier (u.key it.name) its.list) its d h

  old_first : (st : State) → Differ (with_old_parameter u st).names.declared → AreFirst st.names →
      AreFirst (with_old_parameter u st).names
  old_first st d h = by (has_word keywords.Typedef (declaration st).storage) d
    where
      its : Olds
      its = old_declared_some u (parameters st).own (declaration st).name (decayed (declaration st).declared) (olds st)

      by : (b : Bool) → Differ (if b then name_declared u st else name_ended (with_olds its st)).names.declared →
          AreFirst (if b then name_declared u st else name_ended (with_olds its st)).names
      by true d = name_first st d h
      by false d =
          old_some_first (parameters st).own (declaration st).name (decayed (declaration st).declared) (olds st) d h

  declr_first : (st : State) (op : DeclrOp) → Differ (declarator_step u st op).names.declared → AreFirst st.names →
      AreFirst (declarator_step u st op).names
  declr_first st (declrs.ParamsBegin is_own) d h = is_entered st.names h
  declr_first st declrs.Param d h =
      is_declared_param u (declaration st).name (length (parameters st).types) (parameters st).own
      (decayed (declaration st).declared) st.names d h
  declr_first st declrs.ParamsEnd d h =
      is_kept (parameters st).own (old_faults u (parameters st).identifiers st.names)
      (old_faults_first (parameters st).identifiers st.names h)
  declr_first st declrs.Declare d h = name_first st d h
  declr_first st (declrs.AutoEnd token) d h = auto_first token (value (shape_of_part u st)) st d h
  declr_first st declrs.OldParam d h = old_first st d h
  declr_first st declrs.Member d h =
      is_declared_member u (declaration st).name (body st).members_of (declaration st).declared st.names d h
  declr_first st op d h = h

  entered_first : (plain counted : Bool) (d : Option Declared) (s : Names) → AreFirst s →
      AreFirst (body_entered_by plain counted d s)
  entered_first plain counted None s h = h
  entered_first plain counted (Some d) s h = is_body_entered d.at d.first plain counted s h

  stmt_first : (st : State) (op : StmtOp) → AreFirst st.names → AreFirst (statement_step u st op).names
  stmt_first st stmts.Enter h = is_entered st.names h
  stmt_first st stmts.Leave h = is_left st.names h
  stmt_first st stmts.FunctionBody h =
      entered_first (is_plain st) (is_counted u st) (last_or None st.names.declared) st.names h
  stmt_first st stmts.FunctionEnd h = is_body_left st.names h
  stmt_first st op h = h

  expr_first : (st : State) (op : ExprOp) → AreFirst st.names → AreFirst (expression_step u st op).names
  expr_first st (exprs.Name is_called token name) h = is_used u is_called token name st.names h
  expr_first st op h = h

  step_first : (st : State) (op : Op) → Differ (step u st op).names.declared → AreFirst st.names →
      AreFirst (step u st op).names
  step_first st (ops.Expr op) d h = expr_first st op h
  step_first st (ops.Spec op) d h = spec_first st op d h
  step_first st (ops.Declr op) d h = declr_first st op d h
  step_first st (ops.Stmt op) d h = stmt_first st op h
  step_first st op d h = h

  run_first : (tape : List Op) (st : State) → Differ (run u tape st).names.declared → AreFirst st.names →
      AreFirst (run u tape st).names
  run_first [] st d h = h
  run_first (op ∷ tape) st d h =
      run_first tape (step u st op) d (step_first st op
      (differ_old (step u st op).names.declared (run u tape (step u st op)).names.declared
      (run_grown u tape (step u st op)) d) h)

-- names that mean first declarations do so behind tapes, where no two declarations are at one place
tapes_first : (tapes : List Tape) (s : Names) → Differ (tapes_named tapes s).declared → AreFirst s →
    AreFirst (tapes_named tapes s)
tapes_first [] s d h = h
tapes_first (it ∷ tapes) s d h =
    tapes_first tapes next d (run_first it.spelling it.ops (with_names (unit_begun it.spelling.unit s))
    (differ_old next.declared (tapes_named tapes next).declared (tapes_grown tapes next) d)
    (is_unit_begun it.spelling.unit s h))
  where
    next : Names
    next = tape_named it (unit_begun it.spelling.unit s)

-- a declaration that is found among those that all have a first one has one
first_found : (all ds : List Declared) (p : Place) (d : Declared) → AllFirst all ds → declared_at ds p ≡ Some d →
    HasFirst all d
first_found all [] p d h e = absurd cc
first_found all (x ∷ ds) p d h e = by (is_place x.at p) e (first_found all ds p d h.1)
  where
    by : (b : Bool) → (if b then Some x else declared_at ds p) ≡ Some d →
        (declared_at ds p ≡ Some d → HasFirst all d) → HasFirst all d
    by true e next = let found : x ≡ d = cc in subst (HasFirst all) found h.0
    by false e next = next e

nobodys : (ds : List Declared) (p : Place) → IsMember ds p → IsNobodys ds p
nobodys ds p h = record { it = h.it; there = h.there; none = h.none }

-- where names mean first declarations, so do uses; members are nobody's, and what is linked is declared
known : (s : Names) → AreFirst s → NamesAreFirst s
known s h = record {
  uses = λ p q e. use_found (IsFirst s.declared) s.uses p q h.uses e;
  firsts = λ p d e. first_found s.declared s.declared p d h.firsts e;
  known = λ n name it e. nobodys s.declared it.at (member_found (IsMember s.declared) (body_of s.aggregates n) name it
      (body_of_is (IsMember s.declared) s.aggregates n h.members) e);
  own = λ n i it e. nobodys s.declared it.at (own_of_found (IsMember s.declared) s.aggregates n i it h.members e);
  links = λ p d e f. let at = declared_place s.declared p d e in
      has_link s h d (ap (declared_at s.declared) at ∙ e) (f ∙ sym at);
  things = h.things;
}

pub meanings_are_first : MeaningsAreFirst
meanings_are_first tapes differ = known (tapes_named tapes no_names) (tapes_first tapes no_names differ no_names_are)
