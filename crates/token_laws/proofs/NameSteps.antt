-- What is known of names along a tape is at good places, where each token that the tape carries is one.
use Rattle.std.proofs.Common.{ℕ, Bool, true, false, List, [], ◌∷◌, ◌++◌, length, Option, None, Some}
use Rattle.std.specs.Prelude.{if◌then◌else◌}
use Rattle.std.specs.List.{last_or}
use Rattle.c_words.specs.declared.kinds.Keyword.TheVariants as keywords
use Rattle.tape_ops.specs.declared.op.Op.{Op}
use Rattle.tape_ops.specs.declared.op.Op.TheVariants as ops
use Rattle.tape_ops.specs.declared.expression.ExprOp.{ExprOp}
use Rattle.tape_ops.specs.declared.expression.ExprOp.TheVariants as exprs
use Rattle.tape_ops.specs.declared.specifier.SpecOp.{SpecOp}
use Rattle.tape_ops.specs.declared.specifier.SpecOp.TheVariants as specs
use Rattle.tape_ops.specs.declared.declarator.DeclrOp.{DeclrOp}
use Rattle.tape_ops.specs.declared.declarator.DeclrOp.TheVariants as declrs
use Rattle.tape_ops.specs.declared.statement.StmtOp.{StmtOp}
use Rattle.tape_ops.specs.declared.statement.StmtOp.TheVariants as stmts
use Rattle.type_table.specs.Types.{Words, CType, words_of, words_or_none}
use Rattle.name_rules.specs.Spellings.{Place, Spelling, place, annotation_at}
use Rattle.name_rules.specs.Faults.{no_type, fault_where}
use Rattle.name_rules.specs.Scopes.{Declared, TypeNamed, Names, meaning}
use Rattle.name_rules.specs.Values.{value}
use Rattle.name_rules.specs.Pieces.{with_words, decayed, piece_of, to_pointer, to_function, types_in}
use Rattle.name_rules.specs.Declaring.{use_by, tag_used, tag_begun, untagged_begun, untagged_number, has_word}
use Rattle.name_rules.specs.Identifiers.{Olds, is_unknown, old_types}
use Rattle.name_rules.specs.NameSteps.State.{Specifiers, OpenBody, OpenDeclaration, OpenParameters, OpenPart, State, with_names, no_specifiers, no_declaration, no_body, no_parameters, no_part, innermost_or, with_innermost, without_innermost}
use Rattle.name_rules.specs.NameSteps.Steps.{declaration, body, parameters, part_begun, part, shape_of_part, part_ended, bare_or_base, type_or, ellipsis_where, specifier_step, olds, with_olds, name_ended, name_declared, declarator_step, expression_step, statement_step, body_entered_by, is_counted, is_plain, names_step, step, run}
use Rattle.token_laws.proofs.Texts.{AllIn, AllOps}
use Rattle.token_laws.specs.Ops.{op_tokens, expr_tokens, spec_tokens, declr_tokens}
use Rattle.token_laws.proofs.Types.{AllWords, Ok, ListOk, words_append, words_are, worded, decayed_ok, bare_ok, pieced, listed, list_append, tagged, DeclaredOk, SomeDeclaredOk, TypesNamedOk, fault_ok, Sound, NamedAt, meant, type_by_ok}
use Rattle.token_laws.proofs.Names.{faults_there, used_there, type_named_there, tag_used_there, tag_begun_there, untagged_begun_there, declared_here_there, declared_some_there, declared_param_there, declared_member_there, unnamed_there, enter_there, leave_there, keep_there, body_entered_there, body_left_there}
use Rattle.token_laws.proofs.Olds.{OldsOk, BothOk, identified_there, old_declared_there, old_faults_there, old_types_there}

module _ (S : Place → Type 0) (u : Spelling) where
  pub record SpecsOk (it : Specifiers) : Type 0 where
    pub type : Ok S it.type
    pub words : AllWords S it.words

  pub record OpenOk (it : OpenDeclaration) : Type 0 where
    pub type : Ok S it.type
    pub name : NamedAt S u it.name
    pub declared : Ok S it.declared

  abbrev BodiesOpen : List OpenBody → Type 0
  BodiesOpen [] = Unit {0}
  BodiesOpen (it ∷ outer) = SpecsOk it.outer × BodiesOpen outer

  abbrev DeclarationsOpen : List OpenDeclaration → Type 0
  DeclarationsOpen [] = Unit {0}
  DeclarationsOpen (it ∷ outer) = OpenOk it × DeclarationsOpen outer

  abbrev PartsOpen : List OpenPart → Type 0
  PartsOpen [] = Unit {0}
  PartsOpen (it ∷ outer) = SpecsOk it.outer × PartsOpen outer

  pub record ListOpen (it : OpenParameters) : Type 0 where
    pub types : ListOk S it.types
    pub identifiers : OldsOk S u it.identifiers

  abbrev ParametersOpen : List OpenParameters → Type 0
  ParametersOpen [] = Unit {0}
  ParametersOpen (it ∷ outer) = ListOpen it × ParametersOpen outer

  abbrev ListsOk : List (List CType) → Type 0
  ListsOk [] = Unit {0}
  ListsOk (ts ∷ lists) = ListOk S ts × ListsOk lists

  pub record Kept (st : State) : Type 0 where
    pub names : Sound S st.names
    pub specifiers : SpecsOk st.specifiers
    pub bodies : BodiesOpen st.bodies
    pub declarations : DeclarationsOpen st.declarations
    pub parameters : ParametersOpen st.parameters
    pub finished : ListsOk st.finished
    pub parts : PartsOpen st.parts

  no_specs : SpecsOk no_specifiers
  no_specs = record { type = tt; words = tt }

  pub begun : (s : Names) → Sound S s → Kept (with_names s)
  begun s h = record {
    names = h;
    specifiers = no_specs;
    bodies = tt;
    declarations = tt;
    parameters = tt;
    finished = tt;
    parts = tt;
  }

  -- the innermost of what is begun

  this_one : (st : State) → Kept st → OpenOk (declaration st)
  this_one st h = by st.declarations h.declarations
    where
      by : (its : List OpenDeclaration) → DeclarationsOpen its → OpenOk (innermost_or no_declaration its)
      by [] i = record { type = tt; name = tt; declared = tt }
      by (it ∷ outer) i = i.0

  this_body : (st : State) → Kept st → SpecsOk (body st).outer
  this_body st h = by st.bodies h.bodies
    where
      by : (its : List OpenBody) → BodiesOpen its → SpecsOk (innermost_or no_body its).outer
      by [] i = no_specs
      by (it ∷ outer) i = i.0

  this_list : (st : State) → Kept st → ListOpen (parameters st)
  this_list st h = by st.parameters h.parameters
    where
      by : (its : List OpenParameters) → ParametersOpen its → ListOpen (innermost_or no_parameters its)
      by [] i = record { types = tt; identifiers = tt }
      by (it ∷ outer) i = i.0

  this_part : (st : State) → Kept st → SpecsOk (part st).outer
  this_part st h = by st.parts h.parts
    where
      by : (its : List OpenPart) → PartsOpen its → SpecsOk (innermost_or no_part its).outer
      by [] i = no_specs
      by (it ∷ outer) i = i.0

  fewer_parts : (its : List OpenPart) → PartsOpen its → PartsOpen (without_innermost its)
  fewer_parts [] h = tt
  fewer_parts (it ∷ outer) h = h.1

  those_types : (lists : List (List CType)) → ListsOk lists → ListOk S (innermost_or [] lists)
  those_types [] h = tt
  those_types (ts ∷ lists) h = h.0

  fewer_lists : (lists : List (List CType)) → ListsOk lists → ListsOk (without_innermost lists)
  fewer_lists [] h = tt
  fewer_lists (ts ∷ lists) h = h.1

  fewer_bodies : (its : List OpenBody) → BodiesOpen its → BodiesOpen (without_innermost its)
  fewer_bodies [] h = tt
  fewer_bodies (it ∷ outer) h = h.1

  fewer : (its : List OpenDeclaration) → DeclarationsOpen its → DeclarationsOpen (without_innermost its)
  fewer [] h = tt
  fewer (it ∷ outer) h = h.1

  fewer_parameters : (its : List OpenParameters) → ParametersOpen its → ParametersOpen (without_innermost its)
  fewer_parameters [] h = tt
  fewer_parameters (it ∷ outer) h = h.1

  other : (it : OpenDeclaration) (its : List OpenDeclaration) → OpenOk it → DeclarationsOpen its →
      DeclarationsOpen (with_innermost it its)
  other it [] o h = tt
  other it (x ∷ outer) o h = (o, h.1)

  other_parameters : (it : OpenParameters) (its : List OpenParameters) → ListOpen it → ParametersOpen its →
      ParametersOpen (with_innermost it its)
  other_parameters it [] o h = tt
  other_parameters it (x ∷ outer) o h = (o, h.1)

  last_declared : (d : Option Declared) (ds : List Declared) → SomeDeclaredOk S d → DeclaredOk S ds →
      SomeDeclaredOk S (last_or d ds)
  last_declared d [] o h = o
  last_declared d (x ∷ ds) o h = last_declared (Some x) ds h.0 h.1

  word_there : (token : ℕ) → S (place u token) → AllWords S (annotation_at u token)
  word_there token is = by (u.annotates token)
    where
      by : (b : Bool) → AllWords S (if b then place u token ∷ [] else [])
      by true = (is, tt)
      by false = tt

  renamed : (st : State) (s : Names) → Sound S s → Kept st → Kept (record st { names = s })
  renamed st s n h = record {
    names = n;
    specifiers = h.specifiers;
    bodies = h.bodies;
    declarations = h.declarations;
    parameters = h.parameters;
    finished = h.finished;
    parts = h.parts;
  }

  -- parts

  part_begins : (st : State) → Kept st → Kept (part_begun st)
  part_begins st h = record {
    names = h.names;
    specifiers = no_specs;
    bodies = h.bodies;
    declarations = h.declarations;
    parameters = h.parameters;
    finished = h.finished;
    parts = (h.specifiers, h.parts);
  }

  part_ends : (st : State) → Kept st → Kept (part_ended st)
  part_ends st h = record {
    names = h.names;
    specifiers = this_part st h;
    bodies = h.bodies;
    declarations = h.declarations;
    parameters = h.parameters;
    finished = h.finished;
    parts = fewer_parts st.parts h.parts;
  }

  bare_or_ok : (t : Option CType) → Ok S (bare_or_base t)
  bare_or_ok None = tt
  bare_or_ok (Some t) = bare_ok S t

  abbrev SomeNamedOk : Option TypeNamed → Type 0
  SomeNamedOk None = Unit {0}
  SomeNamedOk (Some it) = Ok S it.type

  last_named : (it : Option TypeNamed) (its : List TypeNamed) → SomeNamedOk it → TypesNamedOk S its →
      SomeNamedOk (last_or it its)
  last_named it [] o h = o
  last_named it (x ∷ its) o h = last_named (Some x) its h.0 h.1

  or_type_ok : (t : CType) (it : Option TypeNamed) → Ok S t → SomeNamedOk it → Ok S (type_or t it)
  or_type_ok t None h i = h
  or_type_ok t (Some it) h i = i

  -- steps

  specifiers_kept : (st : State) (op : SpecOp) → AllIn (λ n. S (place u n)) (spec_tokens op) → Kept st →
      Kept (specifier_step u st op)
  specifiers_kept st (specs.Word token) is h = record {
    names = h.names;
    specifiers = record {
      type = h.specifiers.type;
      words = words_append S st.specifiers.words (annotation_at u token) h.specifiers.words (word_there token is.0);
    };
    bodies = h.bodies;
    declarations = h.declarations;
    parameters = h.parameters;
    finished = h.finished;
    parts = h.parts;
  }
  specifiers_kept st (specs.Storage keyword) is h = record {
    names = h.names;
    specifiers = record { type = h.specifiers.type; words = h.specifiers.words };
    bodies = h.bodies;
    declarations = h.declarations;
    parameters = h.parameters;
    finished = h.finished;
    parts = h.parts;
  }
  specifiers_kept st specs.Void is h = record {
    names = h.names;
    specifiers = record { type = tt; words = h.specifiers.words };
    bodies = h.bodies;
    declarations = h.declarations;
    parameters = h.parameters;
    finished = h.finished;
    parts = h.parts;
  }
  specifiers_kept st (specs.Typedef token name) is h = record {
    names = h.names;
    specifiers = record {
      type = type_by_ok S (meaning st.names (u.key name))
          (meant S st.names.scopes st.names.round (u.key name) h.names.scopes);
      words = h.specifiers.words;
    };
    bodies = h.bodies;
    declarations = h.declarations;
    parameters = h.parameters;
    finished = h.finished;
    parts = h.parts;
  }
  specifiers_kept st (specs.TagUse kind token name) is h = record {
    names = tag_used_there u false kind token name st.names h.names;
    specifiers = record {
      type = tagged S kind (tag_used u false kind token name st.names).number st.specifiers.type h.specifiers.type;
      words = h.specifiers.words;
    };
    bodies = h.bodies;
    declarations = h.declarations;
    parameters = h.parameters;
    finished = h.finished;
    parts = h.parts;
  }
  specifiers_kept st (specs.TagAlone kind token name) is h = record {
    names = tag_used_there u true kind token name st.names h.names;
    specifiers = record {
      type = tagged S kind (tag_used u true kind token name st.names).number st.specifiers.type h.specifiers.type;
      words = h.specifiers.words;
    };
    bodies = h.bodies;
    declarations = h.declarations;
    parameters = h.parameters;
    finished = h.finished;
    parts = h.parts;
  }
  specifiers_kept st (specs.TagBody kind token name) is h = record {
    names = tag_begun_there u kind token name st.names is.0 h.names;
    specifiers = no_specs;
    bodies = (
      record {
        type = tagged S kind (tag_begun u kind token name st.names).number st.specifiers.type h.specifiers.type;
        words = h.specifiers.words;
      },
      h.bodies,
    );
    declarations = h.declarations;
    parameters = h.parameters;
    finished = h.finished;
    parts = h.parts;
  }
  specifiers_kept st (specs.Untagged kind token) is h = record {
    names = untagged_begun_there (place u token) kind st.names is.0 h.names;
    specifiers = no_specs;
    bodies = (
      record {
        type = tagged S kind (untagged_begun (place u token) kind st.names).number st.specifiers.type h.specifiers.type;
        words = h.specifiers.words;
      },
      h.bodies,
    );
    declarations = h.declarations;
    parameters = h.parameters;
    finished = h.finished;
    parts = h.parts;
  }
  specifiers_kept st specs.BodyEnd is h = record {
    names = h.names;
    specifiers = this_body st h;
    bodies = fewer_bodies st.bodies h.bodies;
    declarations = h.declarations;
    parameters = h.parameters;
    finished = h.finished;
    parts = h.parts;
  }
  specifiers_kept st (specs.Enumerator token name) is h = record {
    names = declared_here_there (place u token) (u.key name) _ _ None is.0 tt h.names;
    specifiers = h.specifiers;
    bodies = h.bodies;
    declarations = h.declarations;
    parameters = h.parameters;
    finished = h.finished;
    parts = h.parts;
  }
  specifiers_kept st (specs.UnnamedMember token) is h = record {
    names = unnamed_there (place u token) (body st).members_of (declaration st).type is.0 (this_one st h).type h.names;
    specifiers = h.specifiers;
    bodies = h.bodies;
    declarations = h.declarations;
    parameters = h.parameters;
    finished = h.finished;
    parts = h.parts;
  }
  specifiers_kept st specs.PartBegin is h = part_begins st h
  specifiers_kept st (specs.TypeofEnd token) is h =
      let ends = part_ends st h in
      let t = (shape_of_part u st).type in
      record {
        names = faults_there (fault_where (is_unknown t) (place u token) no_type)
            (fault_ok S (is_unknown t) (place u token) no_type is.0) h.names;
        specifiers = record { type = bare_or_ok t; words = ends.specifiers.words };
        bodies = h.bodies;
        declarations = h.declarations;
        parameters = h.parameters;
        finished = h.finished;
        parts = ends.parts;
      }
  specifiers_kept st specs.TypeEnd is h =
      let ends = part_ends st h in
      record {
        names = h.names;
        specifiers = record {
          type = or_type_ok (part st).outer.type (last_or None st.names.type_names) ends.specifiers.type
              (last_named None st.names.type_names tt h.names.type_names);
          words = ends.specifiers.words;
        };
        bodies = h.bodies;
        declarations = h.declarations;
        parameters = h.parameters;
        finished = h.finished;
        parts = ends.parts;
      }
  specifiers_kept st specs.SpecsEnd is h =
      let ok : Ok S (with_words st.specifiers.words st.specifiers.type) =
      worded S st.specifiers.words st.specifiers.type h.specifiers.words h.specifiers.type in
      record {
        names = h.names;
        specifiers = no_specs;
        bodies = h.bodies;
        declarations = (record { type = ok; name = tt; declared = ok }, h.declarations);
        parameters = h.parameters;
        finished = h.finished;
        parts = h.parts;
      }

  ellipsis_ok : (b : Bool) (ws : Words) → AllWords S ws → AllWords S (words_or_none (ellipsis_where b ws))
  ellipsis_ok true ws h = h
  ellipsis_ok false ws h = tt

  pointed_kept : (st : State) → Kept st → Ok S (piece_of (to_pointer st.specifiers.words) (declaration st).declared)
  pointed_kept st h =
      pieced S (to_pointer st.specifiers.words) (declaration st).declared h.specifiers.words (this_one st h).declared

  with_open : (st : State) (it : OpenDeclaration) → OpenOk it → Kept st →
      Kept (record st { specifiers = no_specifiers; declarations = with_innermost it st.declarations })
  with_open st it o h = record {
    names = h.names;
    specifiers = no_specs;
    bodies = h.bodies;
    declarations = other it st.declarations o h.declarations;
    parameters = h.parameters;
    finished = h.finished;
    parts = h.parts;
  }

  -- behind a declarator

  name_ends : (st : State) → Kept st → Kept (name_ended st)
  name_ends st h = record {
    names = h.names;
    specifiers = h.specifiers;
    bodies = h.bodies;
    declarations = other _ st.declarations
        (record { type = (this_one st h).type; name = tt; declared = (this_one st h).type }) h.declarations;
    parameters = h.parameters;
    finished = h.finished;
    parts = h.parts;
  }

  name_kept : (st : State) → Kept st → Kept (name_declared u st)
  name_kept st h = renamed (name_ended st) _
      (declared_some_there u (untagged_number (declaration st).is_untagged (declaration st).type) (declaration st).name
      (declaration st).storage (declaration st).declared (this_one st h).name (this_one st h).declared h.names)
      (name_ends st h)

  these_olds : (st : State) → Kept st → BothOk S u (olds st)
  these_olds st h = record { list = (this_list st h).identifiers; names = h.names }

  olds_kept : (st : State) (it : Olds) → BothOk S u it → Kept st → Kept (with_olds it st)
  olds_kept st it o h = record {
    names = o.names;
    specifiers = h.specifiers;
    bodies = h.bodies;
    declarations = h.declarations;
    parameters = other_parameters (record (parameters st) { identifiers = it.list }) st.parameters
        (record { types = (this_list st h).types; identifiers = o.list }) h.parameters;
    finished = h.finished;
    parts = h.parts;
  }

  either_kept : (b : Bool) {st other : State} → Kept st → Kept other → Kept (if b then st else other)
  either_kept true h i = h
  either_kept false h i = i

  declarator_kept : (st : State) (op : DeclrOp) → AllIn (λ n. S (place u n)) (declr_tokens op) → Kept st →
      Kept (declarator_step u st op)
  declarator_kept st (declrs.DeclName token name) is h = record {
    names = h.names;
    specifiers = h.specifiers;
    bodies = h.bodies;
    declarations =
        other (record (declaration st) { name = Some (record { token = token; name = name }) }) st.declarations
        (record { type = (this_one st h).type; name = is.0; declared = (this_one st h).declared }) h.declarations;
    parameters = h.parameters;
    finished = h.finished;
    parts = h.parts;
  }
  declarator_kept st (declrs.ParamsBegin is_own) is h = record {
    names = enter_there h.names;
    specifiers = h.specifiers;
    bodies = h.bodies;
    declarations = h.declarations;
    parameters = (record { types = tt; identifiers = tt }, h.parameters);
    finished = h.finished;
    parts = h.parts;
  }
  declarator_kept st declrs.Param is h =
      let ok : Ok S (decayed (declaration st).declared) =
      decayed_ok S (declaration st).declared (this_one st h).declared in
      record {
        names = declared_param_there u (declaration st).name (length (parameters st).types) (parameters st).own
            (decayed (declaration st).declared) (this_one st h).name ok h.names;
        specifiers = h.specifiers;
        bodies = h.bodies;
        declarations = fewer st.declarations h.declarations;
        parameters = other_parameters
            (record (parameters st)
            { types = (parameters st).types ++ decayed (declaration st).declared ∷ [] }) st.parameters
            (record {
              types = list_append S (parameters st).types (decayed (declaration st).declared ∷ [])
                  (this_list st h).types (ok, tt);
              identifiers = (this_list st h).identifiers;
            }) h.parameters;
        finished = h.finished;
        parts = h.parts;
      }
  declarator_kept st declrs.ParamsEnd is h = record {
    names = keep_there (parameters st).own
        (old_faults_there S u (parameters st).identifiers (this_list st h).identifiers h.names);
    specifiers = h.specifiers;
    bodies = h.bodies;
    declarations = h.declarations;
    parameters = fewer_parameters st.parameters h.parameters;
    finished = (
      list_append S (parameters st).types (old_types (parameters st).identifiers) (this_list st h).types
          (old_types_there S u (parameters st).identifiers (this_list st h).identifiers),
      h.finished,
    );
    parts = h.parts;
  }
  declarator_kept st declrs.Pointer is h =
      with_open st _
      (record { type = (this_one st h).type; name = (this_one st h).name; declared = pointed_kept st h }) h
  declarator_kept st declrs.Array is h =
      with_open st _
      (record { type = (this_one st h).type; name = (this_one st h).name; declared = pointed_kept st h }) h
  declarator_kept st (declrs.Function has_ellipsis) is h =
      let types = listed S (innermost_or [] st.finished) (those_types st.finished h.finished) in
      let further = ellipsis_ok has_ellipsis st.specifiers.words h.specifiers.words in
      let ok =
      pieced S (to_function (types_in (innermost_or [] st.finished)) (ellipsis_where has_ellipsis st.specifiers.words))
      (declaration st).declared (types, further) (this_one st h).declared in
      record {
        names = h.names;
        specifiers = no_specs;
        bodies = h.bodies;
        declarations = other _ st.declarations
            (record { type = (this_one st h).type; name = (this_one st h).name; declared = ok }) h.declarations;
        parameters = h.parameters;
        finished = fewer_lists st.finished h.finished;
        parts = h.parts;
      }
  declarator_kept st declrs.Declare is h = name_kept st h
  declarator_kept st declrs.AutoBegin is h = part_begins st h
  declarator_kept st (declrs.AutoEnd token) is h =
      let t = value (shape_of_part u st) in
      let ok : Ok S (with_words (words_of (declaration st).type) (bare_or_base t)) =
      worded S (words_of (declaration st).type) (bare_or_base t)
      (words_are S (declaration st).type (this_one st h).type)
      (bare_or_ok t) in
      name_kept _ (record {
        names = faults_there (fault_where (is_unknown t) (place u token) no_type)
            (fault_ok S (is_unknown t) (place u token) no_type is.0) h.names;
        specifiers = (part_ends st h).specifiers;
        bodies = h.bodies;
        declarations = other _ st.declarations
            (record { type = (this_one st h).type; name = (this_one st h).name; declared = ok }) h.declarations;
        parameters = h.parameters;
        finished = h.finished;
        parts = (part_ends st h).parts;
      })
  declarator_kept st (declrs.Identifier token name) is h =
      olds_kept st _ (identified_there S u token name (olds st) is.0 (these_olds st h)) h
  declarator_kept st declrs.OldParam is h =
      either_kept (has_word keywords.Typedef (declaration st).storage) (name_kept st h)
      (name_ends _ (olds_kept st _ (old_declared_there S u (parameters st).own (declaration st).name
      (decayed (declaration st).declared) (olds st) (this_one st h).name
      (decayed_ok S (declaration st).declared (this_one st h).declared) (these_olds st h)) h))
  declarator_kept st declrs.Member is h = record {
    names = declared_member_there u (declaration st).name (body st).members_of (declaration st).declared
        (this_one st h).name
        (this_one st h).declared h.names;
    specifiers = h.specifiers;
    bodies = h.bodies;
    declarations = other _ st.declarations
        (record { type = (this_one st h).type; name = tt; declared = (this_one st h).type }) h.declarations;
    parameters = h.parameters;
    finished = h.finished;
    parts = h.parts;
  }
  declarator_kept st (declrs.TypeName first) is h = record {
    names = type_named_there (place u first) (declaration st).declared is.0 (this_one st h).declared h.names;
    specifiers = h.specifiers;
    bodies = h.bodies;
    declarations = fewer st.declarations h.declarations;
    parameters = h.parameters;
    finished = h.finished;
    parts = h.parts;
  }
  declarator_kept st declrs.DeclarationEnd is h = record {
    names = h.names;
    specifiers = h.specifiers;
    bodies = h.bodies;
    declarations = fewer st.declarations h.declarations;
    parameters = h.parameters;
    finished = h.finished;
    parts = h.parts;
  }

  expression_kept : (st : State) (op : ExprOp) → AllIn (λ n. S (place u n)) (expr_tokens op) → Kept st →
      Kept (expression_step u st op)
  expression_kept st (exprs.Name is_called token name) is h =
      renamed st _ (used_there (place u token) (use_by (meaning st.names (u.key name)) is_called) is.0 h.names) h
  expression_kept st (exprs.Number token) is h = h
  expression_kept st (exprs.Char token) is h = h
  expression_kept st (exprs.Text token) is h = h
  expression_kept st (exprs.Paren token) is h = h
  expression_kept st (exprs.Ext token) is h = h
  expression_kept st (exprs.Comma token) is h = h
  expression_kept st (exprs.Assign sign token first last) is h = h
  expression_kept st (exprs.Cond has_middle token first last) is h = h
  expression_kept st (exprs.Binary sign token first last) is h = h
  expression_kept st (exprs.Prefix sign token last aims) is h = h
  expression_kept st (exprs.Post sign token first) is h = h
  expression_kept st (exprs.Index token first last aims) is h = h
  expression_kept st (exprs.Arg behind first last) is h = h
  expression_kept st (exprs.Call token count) is h = h
  expression_kept st (exprs.Arrow token first last aims) is h = h
  expression_kept st (exprs.Dot token member name) is h = h
  expression_kept st (exprs.Label token) is h = h

  entered : (plain counted : Bool) (d : Option Declared) {s : Names} → SomeDeclaredOk S d → Sound S s →
      Sound S (body_entered_by plain counted d s)
  entered plain counted None o h = h
  entered plain counted (Some d) o h = body_entered_there d.at d.first plain counted o.0 h

  statement_kept : (st : State) (op : StmtOp) → Kept st → Kept (statement_step u st op)
  statement_kept st stmts.Quiet h = h
  statement_kept st stmts.Loud h = h
  statement_kept st stmts.Pop h = h
  statement_kept st (stmts.Return token last) h = h
  statement_kept st stmts.Enter h = renamed st _ (enter_there h.names) h
  statement_kept st stmts.Leave h = renamed st _ (leave_there h.names) h
  statement_kept st stmts.FunctionBody h =
      renamed st _ (entered (is_plain st) (is_counted u st) (last_or None st.names.declared)
      (last_declared None st.names.declared tt h.names.declared) h.names) h
  statement_kept st stmts.FunctionEnd h = renamed st _ (body_left_there h.names) h

  names_kept : (st : State) (op : Op) → AllIn (λ n. S (place u n)) (op_tokens op) → Kept st → Kept (names_step u st op)
  names_kept st (ops.Expr op) is h = expression_kept st op is h
  names_kept st (ops.Form op) is h = h
  names_kept st (ops.Init op) is h = h
  names_kept st (ops.Spec op) is h = specifiers_kept st op is h
  names_kept st (ops.Declr op) is h = declarator_kept st op is h
  names_kept st (ops.Stmt op) is h = statement_kept st op h

  step_kept : (st : State) (op : Op) → AllIn (λ n. S (place u n)) (op_tokens op) → Kept st → Kept (step u st op)
  step_kept st op is h =
      let n = names_kept st op is h in
      record {
        names = n.names;
        specifiers = n.specifiers;
        bodies = n.bodies;
        declarations = n.declarations;
        parameters = n.parameters;
        finished = n.finished;
        parts = n.parts;
      }

  pub run_kept : (tape : List Op) (st : State) → AllOps (λ n. S (place u n)) tape → Kept st → Kept (run u tape st)
  run_kept [] st is h = h
  run_kept (op ∷ tape) st is h = run_kept tape (step u st op) is.1 (step_kept st op is.0 h)
