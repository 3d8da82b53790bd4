-- What is begun along a tape and not at its end: declarations, lists of parameters, bodies, scopes, and what is quiet.
use Rattle.std.specs.Prelude.{◌≡◌, ℕ, nat_eq, Bool, true, false, List, [], ◌∷◌, Option, None, Some, if◌then◌else◌}
use Rattle.tape_ops.specs.declared.op.Op.{Op}
use Rattle.tape_ops.specs.declared.op.Op.TheVariants as ops
use Rattle.tape_ops.specs.declared.form.FormOp.{FormOp}
use Rattle.tape_ops.specs.declared.form.FormOp.TheVariants as forms
use Rattle.tape_ops.specs.declared.specifier.SpecOp.{SpecOp}
use Rattle.tape_ops.specs.declared.specifier.SpecOp.TheVariants as specs
use Rattle.tape_ops.specs.declared.declarator.DeclrOp.{DeclrOp}
use Rattle.tape_ops.specs.declared.declarator.DeclrOp.TheVariants as declrs
use Rattle.tape_ops.specs.declared.statement.StmtOp.{StmtOp}
use Rattle.tape_ops.specs.declared.statement.StmtOp.TheVariants as stmts
use Rattle.c_tree.specs.Tree.{Declr, pointer, declr_name, declr_paren, array, params, abs_pointer, abs_paren, abs_array, abs_params, SomeDeclr, no_declr, some_declr, identifiers, base_name}
use Rattle.c_tree.specs.Unit.{Item, function_item, decl_item, asm_item, semi_item, declares_function, old_function_item}
use Rattle.c_tape.specs.Tests.{is_name}
use Rattle.c_tape.specs.Tape.{item_tape}

-- something that is begun and not at its end
pub data Mark : Type 0 where
  -- a declaration, from the end of its specifiers on: the tokens of the name that is read, where there is one, and of
  -- the name that was declared last, and whether the own parameters of a function are behind us
  in_declaration : Option ℕ → Option ℕ → Bool → Mark
  -- a list of parameters; whether they are a function's own
  in_params : Bool → Mark
  -- the body of a struct, a union or an enum
  in_tag : Mark
  in_scope : Mark
  in_quiet : Mark
  -- a type by what stands in parentheses, or the initialiser that gives its type to a name
  in_part : Mark
  -- the body of a function
  in_body : Mark

-- where a declaration may declare: in the file, in a block, and in the body of a function
abbrev pub is_open : List Mark → Bool
is_open [] = true
is_open (in_scope ∷ marks) = true
is_open (in_body ∷ marks) = true
is_open (in_declaration n d own ∷ marks) = false
is_open (in_params own ∷ marks) = false
is_open (in_tag ∷ marks) = false
is_open (in_quiet ∷ marks) = false
is_open (in_part ∷ marks) = false

-- both are the same token
abbrev pub is_token : Option ℕ → Option ℕ → Bool
is_token None t = false
is_token (Some n) None = false
is_token (Some n) (Some m) = nat_eq n m

-- what is quiet ends, which must be what was begun last
abbrev pub quiet_ended : List Mark → Option (List Mark)
quiet_ended (in_quiet ∷ marks) = Some marks
quiet_ended marks = None

-- the body of a struct, union or enum ends, which must be what was begun last
abbrev pub tag_ended : List Mark → Option (List Mark)
tag_ended (in_tag ∷ marks) = Some marks
tag_ended marks = None

-- a scope ends, which must be what was begun last
abbrev pub scope_ended : List Mark → Option (List Mark)
scope_ended (in_scope ∷ marks) = Some marks
scope_ended marks = None

-- a list of parameters ends; where it was a function's own, its declaration has that behind it
abbrev pub params_ended : List Mark → Option (List Mark)
params_ended (in_params true ∷ (in_declaration n d own ∷ marks)) = Some (in_declaration n d true ∷ marks)
params_ended (in_params false ∷ (in_declaration n d own ∷ marks)) = Some (in_declaration n d own ∷ marks)
params_ended marks = None

-- the body of a function ends, and its declaration goes on
abbrev pub body_ended : List Mark → Option (List Mark)
body_ended (in_body ∷ (in_declaration n d own ∷ marks)) = Some (in_declaration n d false ∷ marks)
body_ended marks = None

-- a declaration ends, which must be what was begun last
abbrev pub declaration_ended : List Mark → Option (List Mark)
declaration_ended (in_declaration n d own ∷ marks) = Some marks
declaration_ended marks = None

-- the declaration that was begun last reads a name at this token
abbrev pub named : ℕ → List Mark → Option (List Mark)
named token (in_declaration n d own ∷ marks) = Some (in_declaration (Some token) d own ∷ marks)
named token marks = None

-- a function's own parameters are in a declaration of the file, behind its name, which is the one at this token
abbrev pub params_begun : Option ℕ → Bool → List Mark → Option (List Mark)
params_begun t false (in_declaration n d own ∷ marks) = Some (in_params false ∷ (in_declaration n d own ∷ marks))
params_begun t true (in_declaration n d own ∷ []) =
    if is_token n t then Some (in_params true ∷ (in_declaration n d own ∷ [])) else None
params_begun t own marks = None

-- the declaration of a parameter ends, in a list of parameters
abbrev pub param_ended : List Mark → Option (List Mark)
param_ended (in_declaration n d b ∷ (in_params own ∷ marks)) = Some (in_params own ∷ marks)
param_ended marks = None

-- the name that was read is declared, where a declaration may declare
abbrev pub declared : List Mark → Option (List Mark)
declared (in_declaration n d own ∷ marks) = if is_open marks then Some (in_declaration None n own ∷ marks) else None
declared marks = None

-- the name that was read is declared as a member, in the body of a struct or union
abbrev pub member_declared : List Mark → Option (List Mark)
member_declared (in_declaration n d own ∷ (in_tag ∷ marks)) = Some (in_declaration None d own ∷ (in_tag ∷ marks))
member_declared marks = None

-- the body of a function is in a declaration of the file, behind the function's own parameters, and its name was
-- declared last
abbrev pub body_begun : Option ℕ → List Mark → Option (List Mark)
body_begun t (in_declaration n d true ∷ []) =
    if is_token d t then Some (in_body ∷ (in_declaration n d true ∷ [])) else None
body_begun t marks = None

-- a type by what stands in parentheses ends, which must be what was begun last
abbrev pub part_ended : List Mark → Option (List Mark)
part_ended (in_part ∷ marks) = Some marks
part_ended marks = None

-- a name with the type of its initialiser is declared where a declaration may declare, or among a function's own
-- parameters
abbrev pub auto_ended : List Mark → Option (List Mark)
auto_ended (in_part ∷ (in_declaration n d own ∷ (in_params true ∷ marks))) =
    Some (in_declaration None n own ∷ (in_params true ∷ marks))
auto_ended (in_part ∷ marks) = declared marks
auto_ended marks = None

-- identifiers and the declarations of their parameters stand in the own parameters of a function
abbrev pub identified : List Mark → Option (List Mark)
identified (in_params true ∷ marks) = Some (in_params true ∷ marks)
identified marks = None

-- a parameter of a list of identifiers is declared behind it
abbrev pub old_declared : List Mark → Option (List Mark)
old_declared (in_declaration n d own ∷ (in_params true ∷ marks)) =
    Some (in_declaration None n own ∷ (in_params true ∷ marks))
old_declared marks = None

-- what is begun behind an op of the forms with type names
abbrev pub form_turn : List Mark → FormOp → Option (List Mark)
form_turn marks (forms.Cast token last) = Some marks
form_turn marks (forms.Sizeof token) = quiet_ended marks
form_turn marks (forms.StmtExpr has_value token) = Some marks
form_turn marks (forms.VaArg token last) = Some marks
form_turn marks (forms.VaStart token last) = Some marks
form_turn marks (forms.VaCopy token last) = Some marks
form_turn marks (forms.OffsetMember token name) = Some marks
form_turn marks (forms.OffsetIndex token) = Some marks
form_turn marks (forms.Offset token) = quiet_ended marks
form_turn marks (forms.Compat token) = quiet_ended marks
form_turn marks forms.Control = quiet_ended marks
form_turn marks forms.NoType = Some marks
form_turn marks (forms.Choose token) = Some marks
form_turn marks (forms.Generic token count) = Some marks

-- what is begun behind an op of specifiers
abbrev pub spec_turn : List Mark → SpecOp → Option (List Mark)
spec_turn marks (specs.Word token) = Some marks
spec_turn marks (specs.Storage keyword) = Some marks
spec_turn marks specs.Void = Some marks
spec_turn marks (specs.Typedef token name) = Some marks
spec_turn marks (specs.TagUse kind token name) = Some marks
spec_turn marks (specs.TagAlone kind token name) = Some marks
spec_turn marks (specs.TagBody kind token name) = Some (in_tag ∷ marks)
spec_turn marks (specs.Untagged kind token) = Some (in_tag ∷ marks)
spec_turn marks specs.BodyEnd = tag_ended marks
spec_turn marks (specs.Enumerator token name) = Some marks
spec_turn marks (specs.UnnamedMember token) = Some marks
spec_turn marks specs.PartBegin = Some (in_part ∷ marks)
spec_turn marks (specs.TypeofEnd token) = part_ended marks
spec_turn marks specs.TypeEnd = part_ended marks
spec_turn marks specs.SpecsEnd = Some (in_declaration None None false ∷ marks)

-- what is begun behind an op of declarators
abbrev pub declr_turn : Option ℕ → List Mark → DeclrOp → Option (List Mark)
declr_turn t marks (declrs.DeclName token name) = named token marks
declr_turn t marks (declrs.ParamsBegin is_own) = params_begun t is_own marks
declr_turn t marks declrs.Param = param_ended marks
declr_turn t marks declrs.ParamsEnd = params_ended marks
declr_turn t marks declrs.Pointer = Some marks
declr_turn t marks declrs.Array = Some marks
declr_turn t marks (declrs.Function has_ellipsis) = Some marks
declr_turn t marks declrs.Declare = declared marks
declr_turn t marks declrs.AutoBegin = Some (in_part ∷ marks)
declr_turn t marks (declrs.AutoEnd token) = auto_ended marks
declr_turn t marks (declrs.Identifier token name) = identified marks
declr_turn t marks declrs.OldParam = old_declared marks
declr_turn t marks declrs.Member = member_declared marks
declr_turn t marks (declrs.TypeName first) = declaration_ended marks
declr_turn t marks declrs.DeclarationEnd = declaration_ended marks

-- what is begun behind an op of statements
abbrev pub stmt_turn : Option ℕ → List Mark → StmtOp → Option (List Mark)
stmt_turn t marks stmts.Quiet = Some (in_quiet ∷ marks)
stmt_turn t marks stmts.Loud = quiet_ended marks
stmt_turn t marks stmts.Pop = Some marks
stmt_turn t marks (stmts.Return token last) = Some marks
stmt_turn t marks stmts.Enter = Some (in_scope ∷ marks)
stmt_turn t marks stmts.Leave = scope_ended marks
stmt_turn t marks stmts.FunctionBody = body_begun t marks
stmt_turn t marks stmts.FunctionEnd = body_ended marks

-- What is begun behind an op, by what is before it; none where the op ends or needs what is not there. Own parameters
-- and a body are those of the function whose name is at the token `t`.
abbrev pub turn : Option ℕ → List Mark → Op → Option (List Mark)
turn t marks (ops.Expr op) = Some marks
turn t marks (ops.Form op) = form_turn marks op
turn t marks (ops.Init op) = Some marks
turn t marks (ops.Spec op) = spec_turn marks op
turn t marks (ops.Declr op) = declr_turn t marks op
turn t marks (ops.Stmt op) = stmt_turn t marks op

-- a tape whose ops each end what is begun last, from these marks to those
abbrev pub IsBracketed : Option ℕ → List Mark → List Op → List Mark → Type 0
IsBracketed t marks [] behind = marks ≡ behind
IsBracketed t marks (op ∷ tape) behind =
    (next : List Mark) × (turn t marks op ≡ Some next) × IsBracketed t next tape behind

-- the token of a declarator's name
abbrev mutual
  -- the token of the name that a declarator declares
  pub name_token : Declr → Option ℕ
  name_token (pointer star words d) = name_token d
  name_token (declr_name token name) = Some token
  name_token (declr_paren opening attrs d closing) = name_token d
  name_token (array d opening words size closing) = name_token d
  name_token (params d opening ps dots closing) = name_token d
  name_token (abs_pointer star words d) = some_name_token d
  name_token (abs_paren opening attrs d closing) = name_token d
  name_token (abs_array d opening words size closing) = some_name_token d
  name_token (abs_params d opening ps dots closing) = some_name_token d
  name_token (identifiers d opening names closing) = name_token d
  name_token (base_name token) = None

  -- the same of a declarator that may be left out
  pub some_name_token : SomeDeclr → Option ℕ
  some_name_token no_declr = None
  some_name_token (some_declr d) = name_token d

-- the token of the name of the function that an item is
abbrev pub function_token : Item → Option ℕ
function_token (function_item exts ws d attrs opening items closing) = name_token d
function_token (old_function_item exts ws d attrs ds opening items closing) = name_token d
function_token (decl_item d) = None
function_token (asm_item keyword group semi) = None
function_token (semi_item semi) = None

-- whether a list of identifiers stands directly around a name, parentheses aside
abbrev pub lists_own : Declr → Bool
lists_own (identifiers d opening names closing) = is_name d
lists_own (declr_name token name) = false
lists_own (declr_paren opening attrs d closing) = lists_own d
lists_own (params d opening ps dots closing) = lists_own d
lists_own (pointer star words d) = lists_own d
lists_own (array d opening words size closing) = lists_own d
lists_own (abs_pointer star words d) = false
lists_own (abs_paren opening attrs d closing) = false
lists_own (abs_array d opening words size closing) = false
lists_own (abs_params d opening ps dots closing) = false
lists_own (base_name token) = false

-- the declarator of a function declares one, by a list of parameters or of identifiers
abbrev pub DeclaresIts : Item → Type 0
DeclaresIts (function_item exts ws d attrs opening items closing) = declares_function d ≡ true
DeclaresIts (old_function_item exts ws d attrs ds opening items closing) = lists_own d ≡ true
DeclaresIts (decl_item d) = Unit {0}
DeclaresIts (asm_item keyword group semi) = Unit {0}
DeclaresIts (semi_item semi) = Unit {0}

-- the tape of an item ends all that it begins, each behind what is begun in it
abbrev pub ItemsAreBracketed : Type 0
ItemsAreBracketed = (item : Item) → DeclaresIts item → IsBracketed (function_token item) [] (item_tape item) []
