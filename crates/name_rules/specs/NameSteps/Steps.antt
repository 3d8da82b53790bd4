-- Names by one loop over a tape: what each op makes of what is known before it.
use Rattle.std.specs.Prelude.{ℕ, Bool, true, false, not, List, [], ◌∷◌, ◌++◌, length, drop, Option, None, Some, if◌then◌else◌}
use Rattle.std.specs.List.{last_or}
use Rattle.c_words.specs.declared.kinds.Keyword.{Keyword}
use Rattle.c_words.specs.declared.kinds.Keyword.TheVariants as keywords
use Rattle.tape_ops.specs.declared.op.Op.{Op}
use Rattle.tape_ops.specs.declared.op.Op.TheVariants as ops
use Rattle.tape_ops.specs.declared.expression.ExprOp.{ExprOp}
use Rattle.tape_ops.specs.declared.expression.ExprOp.TheVariants as exprs
use Rattle.tape_ops.specs.declared.specifier.SpecOp.{SpecOp}
use Rattle.tape_ops.specs.declared.specifier.SpecOp.TheVariants as specs
use Rattle.tape_ops.specs.declared.specifier.TagKind.{TagKind}
use Rattle.tape_ops.specs.declared.specifier.TagKind.TheVariants as tags
use Rattle.tape_ops.specs.declared.declarator.DeclrOp.{DeclrOp}
use Rattle.tape_ops.specs.declared.declarator.DeclrOp.TheVariants as declrs
use Rattle.tape_ops.specs.declared.statement.StmtOp.{StmtOp}
use Rattle.tape_ops.specs.declared.statement.StmtOp.TheVariants as stmts
use Rattle.type_table.specs.Types.{Words, CType, base, void, words_of}
use Rattle.name_rules.specs.Spellings.{Place, Spelling, place, annotation_at, Named}
use Rattle.name_rules.specs.Faults.{no_type, fault_where}
use Rattle.name_rules.specs.Scopes.{enumerator_role, Declared, TypeNamed, Names, meaning, enter, leave, with_faults}
use Rattle.name_rules.specs.Values.{Shape, value}
use Rattle.name_rules.specs.ShapeSteps.State.{nothing, shape_at}
use Rattle.name_rules.specs.ShapeSteps.Steps as shapes
use Rattle.name_rules.specs.Pieces.{bare, with_words, decayed, piece_of, to_pointer, to_function, types_in}
use Rattle.name_rules.specs.Declaring.{used, type_named, type_by, Numbered, tag_used, tag_type, Begun, tag_begun, untagged_begun, untagged_number, declared_here, linked, has_word, declared_some, declared_param, declared_member, unnamed_member, own_where, keep, body_entered, body_left, is_counted_by}
use Rattle.name_rules.specs.NameSteps.State.{OpenBody, OpenDeclaration, OpenParameters, OpenPart, State, no_specifiers, no_declaration, no_body, no_parameters, no_part, innermost_or, with_innermost, without_innermost}
use Rattle.name_rules.specs.Identifiers.{Olds, identified, old_declared_some, is_unknown, old_faults, old_types}

-- the innermost of what is begun

-- the innermost declaration that is open
abbrev pub declaration : State → OpenDeclaration
declaration st = innermost_or no_declaration st.declarations

-- the innermost body of a tag that is open
abbrev pub body : State → OpenBody
body st = innermost_or no_body st.bodies

-- the innermost list of parameters that is open
abbrev pub parameters : State → OpenParameters
parameters st = innermost_or no_parameters st.parameters

-- specifiers

-- the specifiers have this type from here on
abbrev pub with_type : CType → State → State
with_type t st = record st { specifiers = record st.specifiers { type = t } }

-- the annotation word at a token belongs to the specifiers, or to the pointer, array or ellipsis that follows
abbrev pub with_word : Spelling → ℕ → State → State
with_word u token st =
    record st { specifiers = record st.specifiers { words = st.specifiers.words ++ annotation_at u token } }

-- a storage word or `inline` belongs to the specifiers
abbrev pub with_storage : Keyword → State → State
with_storage word st = record st { specifiers = record st.specifiers { storage = st.specifiers.storage ++ word ∷ [] } }

-- a struct or union without a tag is a word of the specifiers
abbrev pub untagged_by : TagKind → Bool → Bool
untagged_by tags.Struct known = true
untagged_by tags.Union known = true
untagged_by tags.Enum known = known

-- the specifiers note that a struct or union without a tag is a word of them
abbrev pub without_tag : TagKind → State → State
without_tag kind st =
    record st {
      specifiers = record st.specifiers { is_untagged = untagged_by kind st.specifiers.is_untagged };
    }

-- a tag without a body is a word of the specifiers, whose type it is but for an enum
abbrev pub with_tag : TagKind → Numbered → State → State
with_tag kind it st = record (with_type (tag_type kind it.number st.specifiers.type) st) { names = it.names }

-- a body of a tag begins, and specifiers of its members or enumerators are to come
abbrev pub with_body : TagKind → Begun → State → State
with_body kind it st =
    record st {
      names = it.names;
      specifiers = no_specifiers;
      bodies = record {
        outer = (with_type (tag_type kind it.number st.specifiers.type) st).specifiers;
        members_of = it.members_of;
      } ∷ st.bodies;
    }

-- a body of a tag ends, and the specifiers go on of which it is a word
abbrev pub body_ended : State → State
body_ended st = record st { specifiers = (body st).outer; bodies = without_innermost st.bodies }

-- the specifiers are whole, and the declaration that they begin is open
abbrev pub specifiers_ended : State → State
specifiers_ended st =
    record st {
      specifiers = no_specifiers;
      declarations = record {
        type = with_words st.specifiers.words st.specifiers.type;
        storage = st.specifiers.storage;
        is_untagged = st.specifiers.is_untagged;
        name = None;
        declared = with_words st.specifiers.words st.specifiers.type;
      } ∷ st.declarations;
    }

-- an enumerator is declared in the innermost scope (6.7.2.2)
abbrev pub with_enumerator : Place → ℕ → State → State
with_enumerator at name st = record st { names = declared_here at name enumerator_role (base []) None st.names }

-- the specifiers of the innermost declaration are a member without a name of the innermost body
abbrev pub with_unnamed_member : Place → State → State
with_unnamed_member at st = record st { names = unnamed_member at (body st).members_of (declaration st).type st.names }

-- Types by expressions: the ops since one began are gone through once more, with the names that are known at its end
-- and nothing on the stacks, and leave the shape of the expression.

-- a part begins; the op that it begins with is the first of its own
abbrev pub part_begun : State → State
part_begun st =
    record st {
      specifiers = no_specifiers;
      parts = record { outer = st.specifiers; from = length st.passed } ∷ st.parts;
    }

-- the innermost part that is open
abbrev pub part : State → OpenPart
part st = innermost_or no_part st.parts

-- what the expression of the innermost part is: place or value, and of which type
abbrev pub shape_of_part : Spelling → State → Shape
shape_of_part u st = shape_at 0 (shapes.run u st.names nothing (drop (part st).from st.passed))

-- the innermost part ends, and the specifiers outside of it go on
abbrev pub part_ended : State → State
part_ended st = record st { specifiers = (part st).outer; parts = without_innermost st.parts }

-- a type by an expression, without annotation words, and the base type where there is none
abbrev pub bare_or_base : Option CType → CType
bare_or_base None = base []
bare_or_base (Some t) = bare t

-- a part ends, and gives its type to the specifiers; without a type it is at fault at this token
abbrev pub typed_by : Spelling → ℕ → Option CType → State → State
typed_by u token t st =
    record (with_type (bare_or_base t) (part_ended st))
    { names = with_faults (fault_where (is_unknown t) (place u token) no_type) st.names }

-- `typeof` of an expression ends: the specifiers have the type of what is in its place, or of its value
abbrev pub typeof_ended : Spelling → ℕ → State → State
typeof_ended u token st = typed_by u token (shape_of_part u st).type st

-- the type of a type's name, where there is one, or else this one
abbrev pub type_or : CType → Option TypeNamed → CType
type_or t None = t
type_or t (Some it) = it.type

-- `typeof` or `_Atomic` of a type's name ends: the specifiers have that type
abbrev pub type_ended : State → State
type_ended st =
    with_type (type_or (part_ended st).specifiers.type (last_or None st.names.type_names)) (part_ended st)

-- what an op of specifiers makes of what is known
abbrev pub specifier_step : Spelling → State → SpecOp → State
specifier_step u st (specs.Word token) = with_word u token st
specifier_step u st (specs.Storage keyword) = with_storage keyword st
specifier_step u st specs.Void = with_type (void []) st
specifier_step u st (specs.Typedef token name) = with_type (type_by (meaning st.names (u.key name))) st
specifier_step u st (specs.TagUse kind token name) = with_tag kind (tag_used u false kind token name st.names) st
specifier_step u st (specs.TagAlone kind token name) = with_tag kind (tag_used u true kind token name st.names) st
specifier_step u st (specs.TagBody kind token name) = with_body kind (tag_begun u kind token name st.names) st
specifier_step u st (specs.Untagged kind token) =
    with_body kind (untagged_begun (place u token) kind st.names) (without_tag kind st)
specifier_step u st specs.BodyEnd = body_ended st
specifier_step u st (specs.Enumerator token name) = with_enumerator (place u token) (u.key name) st
specifier_step u st (specs.UnnamedMember token) = with_unnamed_member (place u token) st
specifier_step u st specs.PartBegin = part_begun st
specifier_step u st (specs.TypeofEnd token) = typeof_ended u token st
specifier_step u st specs.TypeEnd = type_ended st
specifier_step u st specs.SpecsEnd = specifiers_ended st

-- declarators

-- the declarator of the innermost declaration has this name
abbrev pub with_name : ℕ → ℕ → State → State
with_name token name st =
    record st {
      declarations = with_innermost
          (record (declaration st) { name = Some (record { token = token; name = name }) }) st.declarations;
    }

-- the type so far, of which this is made, uses the annotation words before it
abbrev pub with_declared : CType → State → State
with_declared t st =
    record st {
      specifiers = no_specifiers;
      declarations = with_innermost (record (declaration st) { declared = t }) st.declarations;
    }

-- the declarator is a pointer to its type so far, or an array of it
abbrev pub pointed : State → State
pointed st = with_declared (piece_of (to_pointer st.specifiers.words) (declaration st).declared) st

-- the annotation words before an ellipsis, where there is one
abbrev pub ellipsis_where : Bool → Words → Option Words
ellipsis_where true words = Some words
ellipsis_where false words = None

-- the declarator is a function that gives its type so far, with the parameters of the last list that ended
abbrev pub called_with : Bool → State → State
called_with has_ellipsis st =
    record (with_declared (piece_of (to_function (types_in (innermost_or [] st.finished))
    (ellipsis_where has_ellipsis st.specifiers.words)) (declaration st).declared) st)
    { finished = without_innermost st.finished }

-- the object or function of the file that has this name
abbrev pub linked_some : Spelling → Option Named → Names → Option Place
linked_some u None s = None
linked_some u (Some it) s = Some (linked (u.key it.name) (place u it.token) s)

-- a list of parameters begins, with a scope of its own (6.2.1)
abbrev pub parameters_begun : Option Place → State → State
parameters_begun own st =
    record st
    { names = enter st.names; parameters = record { own = own; types = []; identifiers = [] } ∷ st.parameters }

-- a declaration ends
abbrev pub let_go : State → State
let_go st = record st { declarations = without_innermost st.declarations }

-- a declarator is the next parameter of the innermost list, and its declaration ends
abbrev pub with_parameter : Spelling → State → State
with_parameter u st =
    record (let_go st) {
      names = declared_param u (declaration st).name (length (parameters st).types) (parameters st).own
          (decayed (declaration st).declared) st.names;
      parameters = with_innermost
          (record (parameters st) { types = (parameters st).types ++ decayed (declaration st).declared ∷ [] })
          st.parameters;
    }

-- lists of identifiers

-- the innermost list of identifiers, with what is known of names
abbrev pub olds : State → Olds
olds st = record { list = (parameters st).identifiers; names = st.names }

-- the innermost list of identifiers and the names are these from here on
abbrev pub with_olds : Olds → State → State
with_olds it st =
    record st {
      names = it.names;
      parameters = with_innermost (record (parameters st) { identifiers = it.list }) st.parameters;
    }

-- one more identifier of the innermost list
abbrev pub with_identifier : Spelling → ℕ → ℕ → State → State
with_identifier u token name st = with_olds (identified u token name (olds st)) st

-- a list of parameters ends, and its scope, and its types are there for the function that is made of it
abbrev pub parameters_ended : Spelling → State → State
parameters_ended u st =
    record st {
      names = keep (parameters st).own (old_faults u (parameters st).identifiers st.names);
      parameters = without_innermost st.parameters;
      finished = ((parameters st).types ++ old_types (parameters st).identifiers) ∷ st.finished;
    }

-- a declarator ends: the next one, without a name so far, is made of the type of the specifiers
abbrev pub declarator_ended : State → State
declarator_ended st =
    record st {
      declarations = with_innermost
          (record (declaration st) { name = None; declared = (declaration st).type }) st.declarations;
    }

-- the first name of a declaration may be what a struct without a tag is known by
abbrev pub name_ended : State → State
name_ended st =
    record st {
      declarations = with_innermost
          (record (declaration st) { is_untagged = false; name = None; declared = (declaration st).type })
          st.declarations;
    }

-- the declarator of the innermost declaration declares its name
abbrev pub name_declared : Spelling → State → State
name_declared u st =
    record (name_ended st) {
      names = declared_some u (untagged_number (declaration st).is_untagged (declaration st).type)
          (declaration st).name (declaration st).storage (declaration st).declared st.names;
    }

-- a declarator behind a list of identifiers declares a parameter of it, or a typedef
abbrev pub with_old_parameter : Spelling → State → State
with_old_parameter u st =
    if has_word keywords.Typedef (declaration st).storage then name_declared u st
    else name_ended (with_olds
    (old_declared_some u (parameters st).own (declaration st).name (decayed (declaration st).declared) (olds st)) st)

-- a name of the type of the value of its initialiser, with the words of its specifiers
abbrev pub auto_typed : Spelling → ℕ → Option CType → State → State
auto_typed u token t st =
    name_declared u (record (part_ended st) {
      names = with_faults (fault_where (is_unknown t) (place u token) no_type) st.names;
      declarations = with_innermost
          (record (declaration st) { declared = with_words (words_of (declaration st).type) (bare_or_base t) })
          st.declarations;
    })

-- the initialiser of `__auto_type` ends, and its name is declared with the type of its value
abbrev pub auto_ended : Spelling → ℕ → State → State
auto_ended u token st = auto_typed u token (value (shape_of_part u st)) st

-- the declarator of the innermost declaration is a member of the innermost body
abbrev pub with_member : Spelling → State → State
with_member u st =
    record (declarator_ended st) {
      names = declared_member u (declaration st).name (body st).members_of (declaration st).declared st.names;
    }

-- the declarator of the innermost declaration is a type's name, and the declaration ends
abbrev pub with_type_name : Place → State → State
with_type_name at st = record (let_go st) { names = type_named at (declaration st).declared st.names }

-- what an op of declarators makes of what is known
abbrev pub declarator_step : Spelling → State → DeclrOp → State
declarator_step u st (declrs.DeclName token name) = with_name token name st
declarator_step u st (declrs.ParamsBegin is_own) =
    parameters_begun (own_where is_own (linked_some u (declaration st).name st.names)) st
declarator_step u st declrs.Param = with_parameter u st
declarator_step u st declrs.ParamsEnd = parameters_ended u st
declarator_step u st declrs.Pointer = pointed st
declarator_step u st declrs.Array = pointed st
declarator_step u st (declrs.Function has_ellipsis) = called_with has_ellipsis st
declarator_step u st declrs.Declare = name_declared u st
declarator_step u st declrs.AutoBegin = part_begun st
declarator_step u st (declrs.AutoEnd token) = auto_ended u token st
declarator_step u st (declrs.Identifier token name) = with_identifier u token name st
declarator_step u st declrs.OldParam = with_old_parameter u st
declarator_step u st declrs.Member = with_member u st
declarator_step u st (declrs.TypeName first) = with_type_name (place u first) st
declarator_step u st declrs.DeclarationEnd = let_go st

-- expressions, statements

-- what an op of expressions makes of what is known: of names only uses say something
abbrev pub expression_step : Spelling → State → ExprOp → State
expression_step u st (exprs.Name is_called token name) = record st { names = used u is_called token name st.names }
expression_step u st (exprs.Number token) = st
expression_step u st (exprs.Char token) = st
expression_step u st (exprs.Text token) = st
expression_step u st (exprs.Paren token) = st
expression_step u st (exprs.Ext token) = st
expression_step u st (exprs.Comma token) = st
expression_step u st (exprs.Assign sign token first last) = st
expression_step u st (exprs.Cond has_middle token first last) = st
expression_step u st (exprs.Binary sign token first last) = st
expression_step u st (exprs.Prefix sign token last aims) = st
expression_step u st (exprs.Post sign token first) = st
expression_step u st (exprs.Index token first last aims) = st
expression_step u st (exprs.Arg behind first last) = st
expression_step u st (exprs.Call token count) = st
expression_step u st (exprs.Arrow token first last aims) = st
expression_step u st (exprs.Dot token member name) = st
expression_step u st (exprs.Label token) = st

-- the body of the function that was declared last
abbrev pub body_entered_by : Bool → Bool → Option Declared → Names → Names
body_entered_by is_plain is_counted None s = s
body_entered_by is_plain is_counted (Some d) s = body_entered d.at d.first is_plain is_counted s

-- whether a body of the innermost declaration counts, for whether a function has two
abbrev pub is_counted : Spelling → State → Bool
is_counted u st = is_counted_by u.wide (declaration st).storage

-- whether the innermost declaration is without `inline`
abbrev pub is_plain : State → Bool
is_plain st = not (has_word keywords.Inline (declaration st).storage)

-- what an op of statements makes of what is known: scopes and bodies of functions begin and end
abbrev pub statement_step : Spelling → State → StmtOp → State
statement_step u st stmts.Quiet = st
statement_step u st stmts.Loud = st
statement_step u st stmts.Pop = st
statement_step u st (stmts.Return token last) = st
statement_step u st stmts.Enter = record st { names = enter st.names }
statement_step u st stmts.Leave = record st { names = leave st.names }
statement_step u st stmts.FunctionBody =
    record st { names = body_entered_by (is_plain st) (is_counted u st) (last_or None st.names.declared) st.names }
statement_step u st stmts.FunctionEnd = record st { names = body_left st.names }

-- ops of the forms with type names and of initialisers say nothing of names
abbrev pub names_step : Spelling → State → Op → State
names_step u st (ops.Expr op) = expression_step u st op
names_step u st (ops.Form op) = st
names_step u st (ops.Init op) = st
names_step u st (ops.Spec op) = specifier_step u st op
names_step u st (ops.Declr op) = declarator_step u st op
names_step u st (ops.Stmt op) = statement_step u st op

-- one more op was passed
abbrev pub passed_on : Op → State → State
passed_on op st = record st { passed = st.passed ++ op ∷ [] }

-- what is known behind an op
abbrev pub step : Spelling → State → Op → State
step u st op = passed_on op (names_step u st op)

-- what is known behind a list of ops
abbrev pub run : Spelling → List Op → State → State
run u [] st = st
run u (op ∷ rest) st = run u rest (step u st op)
