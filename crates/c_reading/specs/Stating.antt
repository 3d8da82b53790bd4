-- Readers of declarations, blocks and statements (C99, 6.7 and 6.8), over readers of the parts inside.
use Rattle.std.specs.Prelude.{ℕ, ◌+◌, ◌-◌, Bool, true, false, not, ◌&&◌, List, [], ◌∷◌, ◌++◌, Option, None, Some, if◌then◌else◌}
use Rattle.c_words.specs.declared.kinds.TokenKind.{TokenKind}
use Rattle.c_words.specs.declared.kinds.TokenKind.TheVariants as kinds
use Rattle.c_words.specs.declared.kinds.Punct.TheVariants as puncts
use Rattle.c_words.specs.declared.kinds.Keyword.{Keyword}
use Rattle.c_words.specs.declared.kinds.Keyword.TheVariants as keywords
use Rattle.c_syntax.specs.declared.parts.Attr.{Attr}
use Rattle.c_syntax.specs.declared.parts.AsmLabel.{AsmLabel}
use Rattle.c_tree.specs.Tree.{Expr, init_value, SomeExpr, no_expr, some_expr, SpecWords, no_words, more_words, typedef_name, Declr, base_name, SomeInit, no_init, some_init, Declaration, declaration, decl_declaration, decl_assert, BlockItem, block_decl, block_stmt, Stmt, block, expr_stmt, attr_stmt, label, case_stmt, default_stmt, if_stmt, switch_stmt, while_stmt, do_stmt, for_stmt, goto_stmt, continue_stmt, break_stmt, return_stmt, asm_stmt, SomeElse, no_else, some_else, ForStart, start_declaration, start_value, case_range, goto_value, block_labels}
use Rattle.c_tree.specs.Height.{specs_height}
use Rattle.c_tree.specs.Specifiers.{storage_words}
use Rattle.c_tree.specs.WellFormed.{has_auto}
use Rattle.typedef_scope.specs.declared.kind.Kind.TheVariants.{Value}
use Rattle.typedef_scope.specs.declared.kind.Kind.{Kind}
use Rattle.c_units.specs.HeldScopes.{is_wide, names_type, enter, leave, release}
use Rattle.c_units.specs.Scoping.{at_name, declared_kind, has_typedef_word}
use Rattle.c_reading.specs.declared.kinds.FaultKind.TheVariants.{Unexpected}
use Rattle.c_reading.specs.declared.kinds.Reach.TheVariants.{Whole, Assigned, Conditional}
use Rattle.c_reading.specs.declared.kinds.Role.TheVariants.{Declaring}
use Rattle.c_reading.specs.declared.kinds.StmtStart.{StmtStart}
use Rattle.c_reading.specs.declared.kinds.StmtStart.TheVariants as starts
use Rattle.c_reading.specs.Reading.{Reader, Read, ◌>>=◌, ends, refuses, fits, kind_at, behind_first, take_one, token_at, repeated, listed, Next, one_more}
use Rattle.c_reading.specs.Tokens.{is_open_paren, is_close_paren, is_open_brace, is_close_brace, is_colon, is_semicolon, is_equal, is_asm, is_while, is_else, is_extension, is_attribute, is_static_assert, is_label_word, is_dots, is_star, is_base_word, spelled_name, name_at, extensions_at, attrs_at, asm_words_at, group_at, assert_at}
use Rattle.c_reading.specs.Specifying.{begins_specs, present, specs_here, named_declr}
use Rattle.c_reading.specs.Declaring.{name_held, names_list, words_of_attrs}
use Rattle.c_reading.specs.Expressing.{begins_expr}
use Rattle.c_reading.specs.Initialising.{init_with}
use Rattle.c_reading.specs.Parts.{Inner, Begun, nothing, extensions, Block, DeclrItem, init_declrs_from, block_items_from}

-- what a statement begins with where its first token is neither a keyword nor a name
abbrev pub punct_stmt : TokenKind → StmtStart
punct_stmt (kinds.Punct puncts.OpenBrace) = starts.Block
punct_stmt (kinds.Punct puncts.Semicolon) = starts.Semicolon
punct_stmt kind = starts.Value

-- what a statement begins with where its first token is a keyword
abbrev pub keyword_stmt : Keyword → StmtStart
keyword_stmt keywords.Attribute = starts.Attribute
keyword_stmt keywords.Case = starts.Case
keyword_stmt keywords.Default = starts.Default
keyword_stmt keywords.If = starts.If
keyword_stmt keywords.Switch = starts.Switch
keyword_stmt keywords.While = starts.While
keyword_stmt keywords.Do = starts.Do
keyword_stmt keywords.For = starts.For
keyword_stmt keywords.Goto = starts.Goto
keyword_stmt keywords.Continue = starts.Continue
keyword_stmt keywords.Break = starts.Break
keyword_stmt keywords.Return = starts.Return
keyword_stmt keywords.Asm = starts.Asm
keyword_stmt keyword = starts.Value

-- what a statement begins with, by its first token
abbrev pub stmt_start : TokenKind → StmtStart
stmt_start (kinds.Keyword keyword) = keyword_stmt keyword
stmt_start (kinds.Name name) = starts.Name name
stmt_start kind = punct_stmt kind

-- in a scope of its own
abbrev pub in_own : {A : Type 0} → Reader A → Reader A
in_own read s ts = read (enter s) ts >>= λ x. ends x.tree (leave x.scopes) x.rest

-- [asm bal]
unfoldable pub label_at : Reader (Option AsmLabel)
label_at s ts =
    if is_asm (kind_at ts) then (take_one s ts >>= λ keyword. group_at keyword.scopes keyword.rest >>= λ group.
    ends (Some (record { keyword = keyword.tree; group = group.tree })) group.scopes group.rest)
    else ends None s ts

module _ (inner : Inner) where
  -- [= init]
  unfoldable pub some_init_with : ℕ → Reader SomeInit
  some_init_with room s ts =
      if is_equal (kind_at ts) then (take_one s ts >>= λ equal. init_with inner (room - 1) equal.scopes equal.rest
      >>= λ init. ends (some_init equal.tree init.tree) init.scopes init.rest)
      else ends no_init s ts

  -- [AsmLabel] Attr* [= init], behind a declarator whose name is declared
  unfoldable pub declr_behind : List Attr → Declr → ℕ → Reader DeclrItem
  declr_behind before d room s ts = do
    name ← label_at s ts
    attrs ← attrs_at room name.scopes name.rest
    init ← some_init_with room attrs.scopes attrs.rest
    ends (record { before = before; declr = d; label = name.tree; attrs = attrs.tree; init = init.tree })
        init.scopes init.rest

  -- InitDeclr = declr [AsmLabel] Attr* [= init]
  unfoldable pub init_declr_with : List Attr → Kind → ℕ → Reader DeclrItem
  init_declr_with before kind room s ts = do
    d ← named_declr inner (Some kind) (room - 1) s ts
    declr_behind before d.tree room (release kind d.scopes) d.rest

  -- Attr* InitDeclr, behind a comma
  unfoldable pub next_init_declr : Kind → ℕ → ℕ → Reader (Next DeclrItem ⊥)
  next_init_declr kind room token s ts = do
    attrs ← attrs_at room s ts
    d ← init_declr_with attrs.tree kind room attrs.scopes attrs.rest
    ends (one_more d.tree) d.scopes d.rest

  -- (, Attr* InitDeclr)* ;  behind the first, which `first` reads
  unfoldable pub declrs_with : List ℕ → SpecWords → Kind → ℕ → Reader DeclrItem → Reader Declaration
  declrs_with exts words kind room first s ts = do
    ds ← listed first (next_init_declr kind (room - 1)) s ts
    semi ← token_at is_semicolon ds.scopes ds.rest
    ends (declaration exts words (init_declrs_from ds.tree.items) semi.tree) semi.scopes semi.rest

  -- ;  behind the words alone
  unfoldable pub bare_declaration : List ℕ → SpecWords → ℕ → Reader Declaration
  bare_declaration exts words room s ts = fits (1 + specs_height words) room ts (take_one s ts >>= λ semi.
      ends (declaration exts words (init_declrs_from []) semi.tree) semi.scopes semi.rest)

  -- AutoDeclr ;  behind words with `__auto_type`, in a declaration of this room: the name is declared behind its
  -- initialiser
  unfoldable pub auto_declr : List ℕ → SpecWords → Declr → ℕ → Reader Declaration
  auto_declr exts words d room s ts = do
    attrs ← attrs_at room s ts
    equal ← token_at is_equal attrs.scopes attrs.rest
    e ← inner.expr Assigned nothing (room - 1) equal.scopes equal.rest
    semi ← token_at is_semicolon (release Value e.scopes) e.rest
    ends (declaration exts words (init_declrs_from (record {
      before = [];
      declr = d;
      label = None;
      attrs = attrs.tree;
      init = some_init equal.tree (init_value e.tree);
    } ∷ [])) semi.tree) semi.scopes semi.rest

  -- the name behind `__auto_type`, which is held
  abbrev pub auto_name : Option ℕ → ℕ → Reader Declr
  auto_name None room s ts = refuses Unexpected ts
  auto_name (Some name) room s ts =
      name_held name room (at_name (Some Value) name s) s ts >>= λ d. present d.tree.declr d.scopes d.rest

  -- behind `typedef` a base word stands in the place of the name
  abbrev pub auto_declarator : Bool → ℕ → Reader Declr
  auto_declarator true room s ts =
      if is_base_word (kind_at ts) then fits 1 room ts
      (take_one s ts >>= λ token. ends (base_name token.tree) token.scopes token.rest) else refuses Unexpected ts
  auto_declarator false room s ts = auto_name (spelled_name (kind_at ts)) room s ts

  -- AutoDeclr ;  behind words with `__auto_type`
  unfoldable pub auto_behind : List ℕ → SpecWords → ℕ → Reader Declaration
  auto_behind exts words room s ts =
      auto_declarator (has_typedef_word (storage_words words)) (room - 2) s ts >>= λ d.
      auto_declr exts words d.tree (room - 1) d.scopes d.rest

  -- [InitDeclr (, Attr* InitDeclr)*] ;  behind the words, or AutoDeclr ;
  unfoldable pub declaration_behind : List ℕ → SpecWords → ℕ → Reader Declaration
  declaration_behind exts words room s ts =
      if has_auto words then auto_behind exts words room s ts
      else if is_semicolon (kind_at ts) then bare_declaration exts words room s ts
      else declrs_with exts words (declared_kind words) room (init_declr_with [] (declared_kind words) (room - 1)) s ts

  -- Declaration = ext* Specs [InitDeclr (, Attr* InitDeclr)*] ;  behind ext*
  unfoldable pub declaration_with : List ℕ → ℕ → Reader Declaration
  declaration_with exts room s ts = do
    words ← specs_here inner Declaring room s ts
    declaration_behind exts words.tree room words.scopes words.rest

  -- the same behind words that were read already
  unfoldable pub declaration_from : SpecWords → ℕ → Reader Declaration
  declaration_from known room s ts = do
    words ← inner.specs Declaring known (room - 1) s ts
    declaration_behind [] words.tree room words.scopes words.rest

  -- a declaration as an item of a block
  abbrev pub as_item : Read Declaration → Read BlockItem
  as_item read = read >>= λ d. ends (block_decl (decl_declaration d.tree)) d.scopes d.rest

  -- a statement as an item of a block
  abbrev pub as_stmt : Read Stmt → Read BlockItem
  as_stmt read = read >>= λ t. ends (block_stmt t.tree) t.scopes t.rest

  -- ExprStmt = expr ;  behind what of its first operand was read already
  unfoldable pub expr_stmt_with : Begun → ℕ → Reader Stmt
  expr_stmt_with begun room s ts = do
    e ← inner.expr Whole begun (room - 1) s ts
    semi ← token_at is_semicolon e.scopes e.rest
    ends (expr_stmt (some_expr e.tree) semi.tree) semi.scopes semi.rest

  -- Label = Name : Attr* stmt
  unfoldable pub label_with : ℕ → Reader Stmt
  label_with room s ts = do
    name ← name_at s ts
    colon ← token_at is_colon name.scopes name.rest
    attrs ← attrs_at room colon.scopes colon.rest
    t ← inner.stmt (room - 1) attrs.scopes attrs.rest
    ends (label name.tree colon.tree attrs.tree t.tree) t.scopes t.rest

  -- a label, a declaration or an expression, by the token behind the name and the name's kind
  unfoldable pub named_item : ℕ → ℕ → Reader BlockItem
  named_item name room s ts = fits 2 room ts (
      if is_colon (kind_at (behind_first ts)) then as_stmt (label_with room s ts)
      else if names_type s name
      then (take_one s ts >>= λ token. as_item (declaration_from
      (more_words (typedef_name (record { token = token.tree; name = name })) no_words) room token.scopes token.rest))
      else as_stmt (expr_stmt_with nothing room s ts))

  -- a declaration or an expression behind ext+, by the token there
  unfoldable pub extended_item : ℕ → Reader BlockItem
  extended_item room s ts = do
    exts ← extensions_at room s ts
    if begins_specs exts.scopes (kind_at exts.rest) then as_item (declaration_with exts.tree room exts.scopes exts.rest)
        else as_stmt (expr_stmt_with (extensions exts.tree) room exts.scopes exts.rest)

  -- AttrStmt = Attr+ ;  or a declaration that begins with the attributes, by the token behind them
  unfoldable pub attr_item_by : List Attr → ℕ → Reader BlockItem
  attr_item_by attrs room s ts =
      if is_semicolon (kind_at ts)
      then (take_one s ts >>= λ semi. ends (block_stmt (attr_stmt attrs semi.tree)) semi.scopes semi.rest)
      else if begins_specs s (kind_at ts) then as_item (declaration_from (words_of_attrs attrs) room s ts)
      else refuses Unexpected ts

  -- AttrStmt or a declaration that begins with attributes, at the first of them
  unfoldable pub attr_item : ℕ → Reader BlockItem
  attr_item room s ts = attrs_at room s ts >>= λ attrs. attr_item_by attrs.tree room attrs.scopes attrs.rest

  -- an item that begins with a name, with a word of specifiers, or as a statement
  unfoldable pub other_item : Option ℕ → ℕ → Reader BlockItem
  other_item (Some name) room s ts = named_item name room s ts
  other_item None room s ts =
      if begins_specs s (kind_at ts) then as_item (declaration_with [] room s ts)
      else as_stmt (inner.stmt room s ts)

  -- an item of a block: decl | stmt
  unfoldable pub block_item_with : ℕ → Reader BlockItem
  block_item_with room s ts =
      if is_static_assert (kind_at ts)
      then fits 1 room ts (assert_at s ts >>= λ it. ends (block_decl (decl_assert it.tree)) it.scopes it.rest)
      else if is_extension (kind_at ts) then extended_item room s ts
      else if is_attribute (kind_at ts) then attr_item room s ts
      else other_item (spelled_name (kind_at ts)) room s ts

  -- LabelDecl = __label__ Name (, Name)* ;
  unfoldable pub labels_with : ℕ → Reader BlockItem
  labels_with room s ts = fits 1 room ts (do
    keyword ← take_one s ts
    names ← names_list name_at keyword.scopes keyword.rest
    semi ← token_at is_semicolon names.scopes names.rest
    ends (block_labels keyword.tree names.tree semi.tree) semi.scopes semi.rest)

  -- { LabelDecl* (decl | stmt)* }, at the brace, in a scope that is open
  unfoldable pub block_body : ℕ → Reader Block
  block_body room s ts = do
    opening ← take_one s ts
    labels ← repeated is_label_word (labels_with (room - 1)) opening.scopes opening.rest
    items ← repeated (λ kind. not (is_close_brace kind)) (block_item_with (room - 1)) labels.scopes labels.rest
    closing ← token_at is_close_brace items.scopes items.rest
    ends (record {
      opening = opening.tree;
      items = block_items_from (labels.tree ++ items.tree);
      closing = closing.tree;
    }) closing.scopes closing.rest

  -- Block = { (decl | stmt)* }
  unfoldable pub block_with : ℕ → Reader Block
  block_with room s ts =
      if is_open_brace (kind_at ts) then fits 1 room ts (in_own (block_body room) s ts)
      else refuses Unexpected ts

  -- a direct part of a statement, in a scope of its own
  abbrev pub part_with : ℕ → Reader Stmt
  part_with room s ts = in_own (inner.stmt room) s ts

  -- [expr], before a token that passes a test
  unfoldable pub some_expr_with : (TokenKind → Bool) → ℕ → Reader SomeExpr
  some_expr_with test room s ts =
      if test (kind_at ts) then ends no_expr s ts
      else inner.expr Whole nothing room s ts >>= λ e. ends (some_expr e.tree) e.scopes e.rest

  -- ... cond : stmt, behind the first value
  unfoldable pub range_behind : ℕ → Expr → ℕ → Reader Stmt
  range_behind keyword first room s ts = do
    dots ← take_one s ts
    e ← inner.expr Conditional nothing (room - 1) dots.scopes dots.rest
    colon ← token_at is_colon e.scopes e.rest
    t ← inner.stmt (room - 1) colon.scopes colon.rest
    ends (case_range keyword first dots.tree e.tree colon.tree t.tree) t.scopes t.rest

  -- : stmt, behind the value
  unfoldable pub value_behind : ℕ → Expr → ℕ → Reader Stmt
  value_behind keyword e room s ts = do
    colon ← token_at is_colon s ts
    t ← inner.stmt (room - 1) colon.scopes colon.rest
    ends (case_stmt keyword e colon.tree t.tree) t.scopes t.rest

  -- Case = case cond : stmt, in wider C case cond ... cond : stmt too
  unfoldable pub case_with : ℕ → Reader Stmt
  case_with room s ts = fits 2 room ts (do
    keyword ← take_one s ts
    e ← inner.expr Conditional nothing (room - 1) keyword.scopes keyword.rest
    if is_wide e.scopes && is_dots (kind_at e.rest) then range_behind keyword.tree e.tree room e.scopes e.rest
        else value_behind keyword.tree e.tree room e.scopes e.rest)

  -- Default = default : stmt
  unfoldable pub default_with : ℕ → Reader Stmt
  default_with room s ts = fits 2 room ts (do
    keyword ← take_one s ts
    colon ← token_at is_colon keyword.scopes keyword.rest
    t ← inner.stmt (room - 1) colon.scopes colon.rest
    ends (default_stmt keyword.tree colon.tree t.tree) t.scopes t.rest)

  -- [else stmt]
  unfoldable pub some_else_with : ℕ → Reader SomeElse
  some_else_with room s ts =
      if is_else (kind_at ts) then (take_one s ts >>= λ keyword. part_with room keyword.scopes keyword.rest >>= λ t.
      ends (some_else keyword.tree t.tree) t.scopes t.rest)
      else ends no_else s ts

  -- If = if ( expr ) stmt [else stmt], in its scope
  unfoldable pub if_inside : ℕ → Reader Stmt
  if_inside room s ts = do
    keyword ← take_one s ts
    opening ← token_at is_open_paren keyword.scopes keyword.rest
    e ← inner.expr Whole nothing (room - 1) opening.scopes opening.rest
    closing ← token_at is_close_paren e.scopes e.rest
    t ← part_with (room - 1) closing.scopes closing.rest
    other ← some_else_with (room - 1) t.scopes t.rest
    ends (if_stmt keyword.tree opening.tree e.tree closing.tree t.tree other.tree) other.scopes other.rest

  -- Switch = switch ( expr ) stmt, and While likewise, in its scope
  unfoldable pub headed_inside : (ℕ → ℕ → Expr → ℕ → Stmt → Stmt) → ℕ → Reader Stmt
  headed_inside make room s ts = do
    keyword ← take_one s ts
    opening ← token_at is_open_paren keyword.scopes keyword.rest
    e ← inner.expr Whole nothing (room - 1) opening.scopes opening.rest
    closing ← token_at is_close_paren e.scopes e.rest
    t ← part_with (room - 1) closing.scopes closing.rest
    ends (make keyword.tree opening.tree e.tree closing.tree t.tree) t.scopes t.rest

  -- Do = do stmt while ( expr ) ; , in its scope
  unfoldable pub do_inside : ℕ → Reader Stmt
  do_inside room s ts = do
    keyword ← take_one s ts
    t ← part_with (room - 1) keyword.scopes keyword.rest
    keyword2 ← token_at is_while t.scopes t.rest
    opening ← token_at is_open_paren keyword2.scopes keyword2.rest
    e ← inner.expr Whole nothing (room - 1) opening.scopes opening.rest
    closing ← token_at is_close_paren e.scopes e.rest
    semi ← token_at is_semicolon closing.scopes closing.rest
    ends (do_stmt keyword.tree t.tree keyword2.tree opening.tree e.tree closing.tree semi.tree) semi.scopes semi.rest

  -- a declaration as the first clause of a `for`
  abbrev pub as_start : Read Declaration → Read ForStart
  as_start read = read >>= λ d. ends (start_declaration d.tree) d.scopes d.rest

  -- expr ;  behind what of its first operand was read already
  unfoldable pub start_value_with : Begun → ℕ → Reader ForStart
  start_value_with begun room s ts = do
    e ← inner.expr Whole begun room s ts
    semi ← token_at is_semicolon e.scopes e.rest
    ends (start_value (some_expr e.tree) semi.tree) semi.scopes semi.rest

  -- a declaration or an expression behind ext+, by the token there
  unfoldable pub extended_start : ℕ → Reader ForStart
  extended_start room s ts = do
    exts ← extensions_at room s ts
    if begins_specs exts.scopes (kind_at exts.rest)
        then as_start (declaration_with exts.tree room exts.scopes exts.rest)
        else start_value_with (extensions exts.tree) room exts.scopes exts.rest

  -- Declaration | [expr] ;  whose height is at most the room
  unfoldable pub for_start_with : ℕ → Reader ForStart
  for_start_with room s ts =
      if is_semicolon (kind_at ts)
      then (take_one s ts >>= λ semi. ends (start_value no_expr semi.tree) semi.scopes semi.rest)
      else if is_extension (kind_at ts) then extended_start room s ts
      else if begins_specs s (kind_at ts) then as_start (declaration_with [] room s ts)
      else start_value_with nothing room s ts

  -- For = for ( (Declaration | [expr] ;) [expr] ; [expr] ) stmt, in its scope
  unfoldable pub for_inside : ℕ → Reader Stmt
  for_inside room s ts = do
    keyword ← take_one s ts
    opening ← token_at is_open_paren keyword.scopes keyword.rest
    start ← for_start_with (room - 1) opening.scopes opening.rest
    e ← some_expr_with is_semicolon (room - 1) start.scopes start.rest
    semi ← token_at is_semicolon e.scopes e.rest
    e2 ← some_expr_with is_close_paren (room - 1) semi.scopes semi.rest
    closing ← token_at is_close_paren e2.scopes e2.rest
    t ← part_with (room - 1) closing.scopes closing.rest
    ends (for_stmt keyword.tree opening.tree start.tree e.tree semi.tree e2.tree closing.tree t.tree) t.scopes t.rest

  -- * expr ;  behind `goto`
  unfoldable pub goto_value_with : ℕ → ℕ → Reader Stmt
  goto_value_with keyword room s ts = fits 2 room ts (do
    star ← take_one s ts
    e ← inner.expr Whole nothing (room - 1) star.scopes star.rest
    semi ← token_at is_semicolon e.scopes e.rest
    ends (goto_value keyword star.tree e.tree semi.tree) semi.scopes semi.rest)

  -- Name ;  behind `goto`
  unfoldable pub goto_name : ℕ → Reader Stmt
  goto_name keyword s ts = do
    name ← name_at s ts
    semi ← token_at is_semicolon name.scopes name.rest
    ends (goto_stmt keyword name.tree semi.tree) semi.scopes semi.rest

  -- Goto = goto Name ; , in wider C GotoValue = goto * expr ; too
  unfoldable pub goto_with : ℕ → Reader Stmt
  goto_with room s ts = fits 1 room ts (do
    keyword ← take_one s ts
    if is_wide keyword.scopes && is_star (kind_at keyword.rest)
        then goto_value_with keyword.tree room keyword.scopes keyword.rest
        else goto_name keyword.tree keyword.scopes keyword.rest)

  -- Continue = continue ; , and Break likewise
  unfoldable pub jump_with : (ℕ → ℕ → Stmt) → ℕ → Reader Stmt
  jump_with make room s ts = fits 1 room ts (do
    keyword ← take_one s ts
    semi ← token_at is_semicolon keyword.scopes keyword.rest
    ends (make keyword.tree semi.tree) semi.scopes semi.rest)

  -- Return = return [expr] ;
  unfoldable pub return_with : ℕ → Reader Stmt
  return_with room s ts = fits 1 room ts (do
    keyword ← take_one s ts
    e ← some_expr_with is_semicolon (room - 1) keyword.scopes keyword.rest
    semi ← token_at is_semicolon e.scopes e.rest
    ends (return_stmt keyword.tree e.tree semi.tree) semi.scopes semi.rest)

  -- Asm = asm (volatile | goto | inline)* bal ;
  unfoldable pub asm_with : ℕ → Reader Stmt
  asm_with room s ts = fits 1 room ts (do
    keyword ← take_one s ts
    words ← asm_words_at keyword.scopes keyword.rest
    group ← group_at words.scopes words.rest
    semi ← token_at is_semicolon group.scopes group.rest
    ends (asm_stmt keyword.tree words.tree group.tree semi.tree) semi.scopes semi.rest)

  -- AttrStmt = Attr+ ;
  unfoldable pub attr_stmt_with : ℕ → Reader Stmt
  attr_stmt_with room s ts = do
    attrs ← attrs_at room s ts
    semi ← token_at is_semicolon attrs.scopes attrs.rest
    ends (attr_stmt attrs.tree semi.tree) semi.scopes semi.rest

  -- a label or an expression; a typedef name that is no label is refused at the token behind it
  unfoldable pub named_stmt : ℕ → ℕ → Reader Stmt
  named_stmt name room s ts = fits 2 room ts (
      if is_colon (kind_at (behind_first ts)) then label_with room s ts
      else if names_type s name then refuses Unexpected (behind_first ts)
      else expr_stmt_with nothing room s ts)

  -- stmt = Block | ExprStmt | AttrStmt | Label | Case | Default | If | Switch | While | Do | For | Goto | Continue |
  -- Break
  -- | Return | Asm, by what it begins with
  unfoldable pub stmt_by : StmtStart → ℕ → Reader Stmt
  stmt_by starts.Block room s ts =
      block_with room s ts >>= λ b. ends (block b.tree.opening b.tree.items b.tree.closing) b.scopes b.rest
  stmt_by starts.Semicolon room s ts =
      fits 1 room ts (take_one s ts >>= λ semi. ends (expr_stmt no_expr semi.tree) semi.scopes semi.rest)
  stmt_by starts.Attribute room s ts = attr_stmt_with room s ts
  stmt_by (starts.Name name) room s ts = named_stmt name room s ts
  stmt_by starts.Case room s ts = case_with room s ts
  stmt_by starts.Default room s ts = default_with room s ts
  stmt_by starts.If room s ts = fits 2 room ts (in_own (if_inside room) s ts)
  stmt_by starts.Switch room s ts = fits 2 room ts (in_own (headed_inside switch_stmt room) s ts)
  stmt_by starts.While room s ts = fits 2 room ts (in_own (headed_inside while_stmt room) s ts)
  stmt_by starts.Do room s ts = fits 2 room ts (in_own (do_inside room) s ts)
  stmt_by starts.For room s ts = fits 2 room ts (in_own (for_inside room) s ts)
  stmt_by starts.Goto room s ts = goto_with room s ts
  stmt_by starts.Continue room s ts = jump_with continue_stmt room s ts
  stmt_by starts.Break room s ts = jump_with break_stmt room s ts
  stmt_by starts.Return room s ts = return_with room s ts
  stmt_by starts.Asm room s ts = asm_with room s ts
  stmt_by starts.Value room s ts =
      if begins_expr s (kind_at ts) then fits 2 room ts (expr_stmt_with nothing room s ts) else refuses Unexpected ts

  -- a statement, by its first token
  unfoldable pub stmt_with : ℕ → Reader Stmt
  stmt_with room s ts = stmt_by (stmt_start (kind_at ts)) room s ts
