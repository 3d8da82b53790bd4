-- What is to be shown of the reader of each nonterminal, and what of the readers inside may be taken for that.
--
-- A family of readers is shown over any readers inside that have `Laws`, over `TokenLaws` and `FirstLaws`; so the
-- families do not wait for each other.
use Rattle.std.proofs.Common.{◌≡◌, ℕ, suc, ◌<◌, ◌≤◌, Bool, true, false, List, [], ◌∷◌, Option, Some, None}
use Rattle.std.specs.Prelude.{if◌then◌else◌, ◌+◌, max, not, ◌&&◌, ◌||◌, ◌⊎◌, is_some, option_map, All}
use Rattle.c_words.specs.declared.kinds.TokenKind.{TokenKind}
use Rattle.c_words.specs.declared.kinds.TokenKind.TheVariants as kinds
use Rattle.c_words.specs.declared.kinds.Punct.{Punct}
use Rattle.c_words.specs.declared.kinds.Keyword.TheVariants as keywords
use Rattle.c_words.specs.declared.kinds.Punct.TheVariants as puncts
use Rattle.c_tree.specs.declared.lexeme.Lexeme.{Lexeme}
use Rattle.c_syntax.specs.declared.parts.Attr.{Attr}
use Rattle.c_syntax.specs.declared.parts.Assert.{Assert}
use Rattle.c_syntax.specs.declared.parts.Group.{Group}
use Rattle.c_syntax.specs.declared.parts.Qual.{Qual}
use Rattle.c_syntax.specs.declared.parts.PointerWord.{PointerWord}
use Rattle.c_syntax.specs.declared.parts.PointerWord.TheVariants as pointer_words
use Rattle.c_syntax.specs.declared.parts.ArrayWord.{ArrayWord}
use Rattle.c_syntax.specs.declared.parts.Word.{Word}
use Rattle.c_tree.specs.Tree.{Assoc, Expr, operation, extension, prefix, SpecWords, no_words, StructItem, MemDeclr, SomeValue, Declr, SomeDeclr, no_declr, some_declr, Init, InitList, Desig, old_desig, SomeInit, Declaration, BlockItem, Stmt}
use Rattle.c_tree.specs.Text.{sign_text, keyword_text, group_text, attrs_text, assert_text, quals_text, pointer_words_text, array_words_text, words_text, extensions_text, texts_text, identifier_text, label_text, expr_text, assoc_text, operator_text, spec_words_text, struct_item_text, mem_declr_text, some_value_text, declr_text, some_declr_text, init_text, init_list_text, desigs_text, desig_text, some_sign_text, some_init_text, declaration_text, block_items_text, block_item_text, stmt_text}
use Rattle.c_tree.specs.Height.{attrs_height, label_height, expr_height, assoc_height, specs_height, struct_item_height, mem_declr_height, some_value_height, declr_height, some_declr_height, init_height, init_list_height, desigs_height, desig_height, step_height, some_init_height, declaration_height, block_height, block_item_height, stmt_height}
use Rattle.c_tree.specs.Levels.{expr_level}
use Rattle.c_tree.specs.Groups.{IsGroup}
use Rattle.c_tree.specs.Specifiers.{IsMix}
use Rattle.c_tree.specs.WellFormed.{is_asm_word, IsQual, IsWordQual, has_auto, lists_identifiers, some_lists_identifiers, begins_base, IsAssoc, IsPointerWord, IsArrayWord, AreAttrs, IsLabel, is_named, ends_starred, IsParamEnd, IsExpr, AreTypeWords, AreSpecWords, IsStructItem, IsMemDeclr, IsSomeValue, IsDeclr, IsSomeAbstract, IsSomeDeclr, IsInit, IsInitList, AreDesigs, IsDesig, IsStep, IsDesignated, IsSomeInit, IsDeclaration, AreBlockItems, AreLabelsFirst, IsBlockItem, IsStmt, takes_else}
use Rattle.c_tree.specs.Unit.{Item, item_text, item_height, IsItem}
use Rattle.c_specs.specs.Reading.{append_words}
use Rattle.c_specs.specs.declared.mix.Class.TheVariants as classes
use Rattle.c_specs.specs.Mix.{goes_on}
use Rattle.typedef_scope.specs.declared.kind.Kind.{Kind}
use Rattle.typedef_scope.specs.declared.kind.Kind.TheVariants.{Constant, Value}
use Rattle.c_units.specs.HeldScopes.{HeldScopes, HeldScope, is_typedef, enter, innermost, release, declare}
use Rattle.c_units.specs.Scoping.{behind, in_own_scope, at_name, where_true, expr_scopes, assoc_scopes, spec_words_scopes, struct_item_scopes, mem_declr_scopes, some_value_scopes, declr_scopes, some_declr_scopes, some_shows_no_type, params_scopes, init_scopes, init_list_scopes, desigs_scopes, desig_scopes, some_init_scopes, declaration_scopes, block_items_scopes, block_item_scopes, stmt_scopes}
use Rattle.c_units.specs.Units.{OwnParams, own_params, item_scopes}
use Rattle.c_reading.specs.declared.kinds.SpecStart.TheVariants as starts
use Rattle.c_reading.specs.declared.kinds.Reach.{Reach}
use Rattle.c_reading.specs.declared.kinds.Reach.TheVariants.{Whole, Assigned, Conditional, Castable, Unary}
use Rattle.c_reading.specs.declared.kinds.Role.{Role}
use Rattle.c_reading.specs.declared.kinds.Role.TheVariants.{Declaring, Typed, Naming}
use Rattle.c_reading.specs.declared.kinds.Mode.{Mode}
use Rattle.c_reading.specs.declared.kinds.Mode.TheVariants.{Named, Abstract, Either}
use Rattle.c_reading.specs.declared.kinds.PostfixForm.{PostfixForm}
use Rattle.c_reading.specs.declared.kinds.PostfixForm.TheVariants as forms
use Rattle.c_reading.specs.declared.kinds.Infix.{Infix}
use Rattle.c_reading.specs.declared.kinds.Infix.TheVariants as infixes
use Rattle.c_reading.specs.Reading.{Found, Reader, kind_at, IsTail}
use Rattle.c_reading.specs.Tokens.{is_open_paren, is_open_bracket, is_open_brace, is_star, is_colon, is_asm, is_attribute, is_extension, is_else, is_text, spelled_name, is_made, qual_of, word_qual_of, is_base_word, array_word_of, asm_word_of, begins_pointer_word, extensions_at, texts_at, quals_at, array_words_at, asm_words_at, group_at, align_at, attr_at, attrs_at, pointer_words_at, assert_at}
use Rattle.c_reading.specs.Parts.{Begun, nothing, extensions, star, TypeName, type_name_height, Block, Declared, Inner, MemberItem, EnumItem, ParamItem, ListItem, DeclrItem}
use Rattle.c_reading.specs.Specifying.{is_start, may_stand, start_at, begins_specs, ends_before as words_end}
use Rattle.c_reading.specs.Declaring.{takes_name}
use Rattle.c_reading.specs.Expressing.{form_of, infix_of, begins_expr}
use Rattle.c_reading.proofs.Binding.{found, done}
use Rattle.c_reading.proofs.Forms.{Form, Falls, Shrinks, Takes, IsSound, IsComplete, always}

-- Which tokens do not go on with what was read.

abbrev pub is_no_form : PostfixForm → Bool
is_no_form forms.Nothing = true
is_no_form form = false

-- whether an expression of a reach ends before what a token is between two operands
abbrev pub ends_before : Reach → Infix → Bool
ends_before reach infixes.Nothing = true
ends_before Whole infix_form = false
ends_before Assigned infixes.Comma = true
ends_before Assigned infix_form = false
ends_before Conditional infixes.Comma = true
ends_before Conditional infix_form = false
ends_before Castable infix_form = true
ends_before Unary infix_form = true

abbrev pub ends_unary : TokenKind → Bool
ends_unary kind = is_no_form (form_of kind) && not (is_text kind) && not (is_open_brace kind)

abbrev pub ends_expr : Reach → TokenKind → Bool
ends_expr reach kind = ends_unary kind && ends_before reach (infix_of kind)

-- specifiers in which a type stands
abbrev pub ends_specs : TokenKind → Bool
ends_specs kind = not (is_start (start_at [] true kind)) && not (is_open_brace kind)

-- in wider C a base word ends the words of a `typedef` that it does not continue: it is the name there
abbrev pub IsBaseEnd : HeldScopes → SpecWords → TokenKind → Type 0
IsBaseEnd s ws kind = (is_base_word kind ≡ true) × (words_end s ws (starts.Basic keywords.BaseWord) ≡ true)

abbrev pub EndsWords : HeldScopes → SpecWords → TokenKind → Type 0
EndsWords s ws kind = (ends_specs kind ≡ true) ⊎ IsBaseEnd s ws kind

-- a declarator that does not end with a star; none; one that ends with a star
abbrev pub ends_suffix : TokenKind → Bool
ends_suffix kind = not (is_open_paren kind) && not (is_open_bracket kind)

abbrev pub ends_none : Mode → TokenKind → Bool
ends_none mode kind = ends_suffix kind && not (is_star kind) && not (takes_name mode && is_some (spelled_name kind))

abbrev pub ends_star : Mode → TokenKind → Bool
ends_star mode kind = ends_none mode kind && not (begins_pointer_word kind)

abbrev pub ends_declr : Mode → SomeDeclr → TokenKind → Bool
ends_declr mode no_declr kind = ends_none mode kind
ends_declr mode (some_declr d) kind = if ends_starred d then ends_star mode kind else ends_suffix kind

abbrev pub ends_type_name : TokenKind → Bool
ends_type_name kind = ends_specs kind && ends_none Abstract kind

-- a parameter
abbrev pub ends_param : TokenKind → Bool
ends_param kind = ends_specs kind && ends_star Either kind

-- a declarator of a member, an enumerator, a declarator of a declaration, with what stands behind it
abbrev pub ends_member : TokenKind → Bool
ends_member kind = ends_expr Conditional kind && not (is_attribute kind) && not (is_colon kind)

abbrev pub ends_enumerator : TokenKind → Bool
ends_enumerator kind = ends_expr Conditional kind && not (is_attribute kind)

abbrev pub ends_init_declr : TokenKind → Bool
ends_init_declr kind = ends_expr Assigned kind && not (is_attribute kind) && not (is_asm kind)

-- a statement that takes an `else`
abbrev pub ends_stmt : Stmt → TokenKind → Bool
ends_stmt t kind = not (takes_else t && is_else kind)

-- a first token of a declarator with a name, and of one without
abbrev pub begins_named : TokenKind → Bool
begins_named kind = is_star kind || is_open_paren kind || is_some (spelled_name kind) || is_base_word kind

abbrev pub begins_abstract : TokenKind → Bool
begins_abstract kind = is_star kind || is_open_paren kind || is_open_bracket kind

-- Levels, rooms and scopes.

-- the least level of an expression of each reach, from 0 with commas to 14 of unary forms
abbrev pub reach_level : Reach → ℕ
reach_level Whole = 0
reach_level Assigned = 1
reach_level Conditional = 2
reach_level Castable = 13
reach_level Unary = 14

-- of operands and operators
abbrev pub is_row : Reach → Bool
is_row Whole = true
is_row Assigned = true
is_row Conditional = true
is_row Castable = false
is_row Unary = false

-- a node of two levels at least has attributes, or `__extension__` before it
abbrev pub least_with : {A : Type 0} → List A → ℕ
least_with [] = 0
least_with (x ∷ xs) = 2

-- the least height of a pointer's words: 2 where an attribute is one, else 0
abbrev pub least_pointer_words : List PointerWord → ℕ
least_pointer_words [] = 0
least_pointer_words (pointer_words.Qual q ∷ ws) = least_pointer_words ws
least_pointer_words (pointer_words.Attr a ∷ ws) = 2

-- the scope of the parameters directly around the name of a declarator, where a kind is wanted of the name
abbrev pub own_scope_in : Option Kind → Option OwnParams → HeldScopes → Option HeldScopes
own_scope_in wanted None s = None
own_scope_in wanted (Some own) s = behind (at_name wanted own.name s) (λ t. params_scopes own.params (enter t))

abbrev pub some_own_params : SomeDeclr → Option OwnParams
some_own_params no_declr = None
some_own_params (some_declr d) = own_params d

abbrev pub closed_of : Option Kind → SomeDeclr → HeldScopes → Option HeldScope
closed_of wanted d s = option_map innermost (own_scope_in wanted (some_own_params d) s)

-- what the reader answers of a declarator
abbrev pub declared_as : Option Kind → SomeDeclr → HeldScopes → Declared
declared_as wanted d s = record { declr = d; closed = closed_of wanted d s }

-- a declarator that may be a function's has room for one level more where it is
abbrev pub declr_room : Bool → Option HeldScope → ℕ → ℕ
declr_room true (Some scope) room = suc room
declr_room true None room = room
declr_room false closed room = room

abbrev pub declr_number : Bool → ℕ → ℕ
declr_number true room = suc room
declr_number false room = room

-- a parameter's name is declared behind its declarator
abbrev pub param_scopes : SpecWords → SomeDeclr → HeldScopes → Option HeldScopes
param_scopes ws d s =
    behind (behind (behind (spec_words_scopes ws s) (λ t. where_true (some_shows_no_type t d) t))
    (some_declr_scopes (Some Value) d)) (λ t. Some (release Value t))

-- What of the first operand was read already.

-- what was read of a first operand, spelled before other tokens
abbrev pub begun_text : Begun → List Lexeme → List Lexeme
begun_text nothing k = k
begun_text (extensions tokens) k = extensions_text tokens k
begun_text (star token) k = sign_text puncts.Star token k

-- an expression begins with these `__extension__` keywords
abbrev pub exts_begin : List ℕ → Expr → Type 0
exts_begin tokens (operation e op token e2) = exts_begin tokens e
exts_begin [] e = Unit {0}
exts_begin (token ∷ tokens) (extension keyword e) = (token ≡ keyword) × exts_begin tokens e
exts_begin (token ∷ tokens) e = ⊥

-- an expression begins with the `*` of this token
abbrev pub star_begins : ℕ → Expr → Type 0
star_begins token (operation e op token2 e2) = star_begins token e
star_begins token (prefix token2 p e) = (token ≡ token2) × (p ≡ puncts.Star)
star_begins token e = ⊥

-- the first operand begins with what was read
abbrev pub IsBegun : Begun → Expr → Type 0
IsBegun nothing e = Unit {0}
IsBegun (extensions tokens) e = exts_begin tokens e
IsBegun (star token) e = star_begins token e

abbrev pub is_old : Desig → Bool
is_old (old_desig name colon) = true
is_old d = false

-- an item of an initialiser, which goes on with no colon
abbrev pub ends_item : TokenKind → Bool
ends_item kind = ends_expr Assigned kind && not (is_colon kind)

module _ (all : List Lexeme) where
  -- the tokens behind what was read
  abbrev pub behind_exts : List ℕ → Expr → List Lexeme → List Lexeme
  behind_exts tokens (operation e op token e2) k =
      behind_exts tokens e (operator_text all op token (expr_text all e2 k))
  behind_exts [] e k = expr_text all e k
  behind_exts (token ∷ tokens) (extension keyword e) k = behind_exts tokens e k
  behind_exts (token ∷ tokens) e k = k

  abbrev pub behind_star : Expr → List Lexeme → List Lexeme
  behind_star (operation e op token e2) k = behind_star e (operator_text all op token (expr_text all e2 k))
  behind_star (prefix token p e) k = expr_text all e k
  behind_star e k = k

  abbrev pub behind_begun : Begun → Expr → List Lexeme → List Lexeme
  behind_begun nothing e k = expr_text all e k
  behind_begun (extensions tokens) e k = behind_exts tokens e k
  behind_begun (star token) e k = behind_star e k

  -- Kinds of trees.

  abbrev pub exts_form : Form (List ℕ)
  exts_form = record { text = extensions_text; Fits = λ xs. Unit {0}; scopes = λ xs s. Some s; height = least_with }

  abbrev pub texts_form : Form (List ℕ)
  texts_form = record { text = texts_text; Fits = λ xs. Unit {0}; scopes = λ xs s. Some s; height = λ xs. 0 }

  abbrev pub quals_form : Form (List Qual)
  quals_form = record { text = quals_text all; Fits = All (IsWordQual all); scopes = λ xs s. Some s; height = λ xs. 0 }

  abbrev pub array_words_form : Form (List ArrayWord)
  array_words_form =
      record { text = array_words_text all; Fits = All (IsArrayWord all); scopes = λ xs s. Some s; height = λ xs. 0 }

  abbrev pub asm_words_form : Form (List Word)
  asm_words_form = record {
    text = words_text;
    Fits = All (λ w. is_asm_word w.keyword ≡ true);
    scopes = λ xs s. Some s;
    height = λ xs. 0;
  }

  abbrev pub group_form : Form Group
  group_form = record { text = group_text all; Fits = IsGroup all; scopes = λ g s. Some s; height = λ g. 0 }

  abbrev pub attrs_form : Form (List Attr)
  attrs_form = record { text = attrs_text all; Fits = AreAttrs all; scopes = λ xs s. Some s; height = least_with }

  abbrev pub align_form : Form Attr
  align_form = record {
    text = λ a k. keyword_text keywords.Alignas a.keyword (group_text all a.group k);
    Fits = λ a. IsGroup all a.group;
    scopes = λ a s. Some s;
    height = λ a. 0;
  }

  abbrev pub pointer_words_form : Form (List PointerWord)
  pointer_words_form = record {
    text = pointer_words_text all;
    Fits = All (IsPointerWord all);
    scopes = λ xs s. Some s;
    height = least_pointer_words;
  }

  abbrev pub assert_form : Form Assert
  assert_form =
      record { text = assert_text all; Fits = λ it. IsGroup all it.group; scopes = λ it s. Some s; height = λ it. 0 }

  abbrev pub expr_form : Reach → Form Expr
  expr_form reach = record {
    text = expr_text all;
    Fits = λ e. IsExpr all e × (reach_level reach ≤ expr_level e);
    scopes = expr_scopes;
    height = expr_height;
  }

  abbrev pub assoc_form : Form Assoc
  assoc_form = record { text = assoc_text all; Fits = IsAssoc all; scopes = assoc_scopes; height = assoc_height }

  abbrev pub type_name_form : Form TypeName
  type_name_form = record {
    text = λ t k. spec_words_text all t.words (some_declr_text all t.declr k);
    Fits = λ t. IsMix t.words × AreTypeWords all t.words × IsSomeAbstract all t.declr;
    scopes = λ t s. behind (spec_words_scopes t.words s) (some_declr_scopes None t.declr);
    height = type_name_height;
  }

  abbrev pub some_value_form : Punct → Form SomeValue
  some_value_form mark = record {
    text = some_value_text all mark;
    Fits = IsSomeValue all;
    scopes = some_value_scopes;
    height = some_value_height;
  }

  abbrev pub struct_item_form : Form StructItem
  struct_item_form = record {
    text = struct_item_text all;
    Fits = IsStructItem all;
    scopes = struct_item_scopes;
    height = struct_item_height;
  }

  abbrev pub mem_declr_form : Form MemDeclr
  mem_declr_form =
      record { text = mem_declr_text all; Fits = IsMemDeclr all; scopes = mem_declr_scopes; height = mem_declr_height }

  abbrev pub member_form : Form MemberItem
  member_form = record {
    text = λ x k. attrs_text all x.attrs (mem_declr_text all x.declr k);
    Fits = λ x. AreAttrs all x.attrs × IsMemDeclr all x.declr;
    scopes = λ x s. mem_declr_scopes x.declr s;
    height = λ x. max (attrs_height x.attrs) (mem_declr_height x.declr);
  }

  abbrev pub enumerator_form : Form EnumItem
  enumerator_form = record {
    text = λ x k. identifier_text x.name (attrs_text all x.attrs (some_value_text all puncts.Equal x.value k));
    Fits = λ x. AreAttrs all x.attrs × IsSomeValue all x.value;
    scopes = λ x s. behind (declare x.name.name Constant s)
        (λ t. behind (some_value_scopes x.value s) (declare x.name.name Constant));
    height = λ x. max (attrs_height x.attrs) (some_value_height x.value) + 1;
  }

  abbrev pub param_form : Form ParamItem
  param_form = record {
    text = λ x k. spec_words_text all x.words (some_declr_text all x.declr (attrs_text all x.attrs k));
    Fits = λ x. IsMix x.words × AreSpecWords all x.words × (has_auto x.words ≡ false) × IsSomeDeclr all x.declr
        × AreAttrs all x.attrs × IsParamEnd x.declr x.attrs × (some_lists_identifiers x.declr ≡ false);
    scopes = λ x s. param_scopes x.words x.declr s;
    height = λ x. max (specs_height x.words) (max (some_declr_height x.declr) (attrs_height x.attrs)) + 1;
  }

  abbrev pub init_form : Form Init
  init_form = record { text = init_text all; Fits = IsInit all; scopes = init_scopes; height = init_height }

  abbrev pub init_list_form : Form InitList
  init_list_form =
      record { text = init_list_text all; Fits = IsInitList all; scopes = init_list_scopes; height = init_list_height }

  -- of a row of designators, of which an `m:` is none
  abbrev pub desig_form : Form Desig
  desig_form = record {
    text = desig_text all;
    Fits = λ d. IsDesig all d × (is_old d ≡ false);
    scopes = desig_scopes;
    height = desig_height;
  }

  abbrev pub step_form : Form Desig
  step_form = record { text = desig_text all; Fits = IsStep all; scopes = desig_scopes; height = step_height }

  abbrev pub list_item_form : Form ListItem
  list_item_form = record {
    text = λ x k. desigs_text all x.desigs (some_sign_text puncts.Equal x.equal (init_text all x.init k));
    Fits = λ x. AreDesigs all x.desigs × IsDesignated x.desigs x.equal × IsInit all x.init;
    scopes = λ x s. behind (desigs_scopes x.desigs s) (init_scopes x.init);
    height = λ x. max (desigs_height x.desigs) (init_height x.init) + 1;
  }

  abbrev pub some_init_form : Form SomeInit
  some_init_form =
      record { text = some_init_text all; Fits = IsSomeInit all; scopes = some_init_scopes; height = some_init_height }

  abbrev pub declr_item_form : Kind → Form DeclrItem
  declr_item_form kind = record {
    text = λ x k. attrs_text all x.before
        (declr_text all x.declr (label_text all x.label (attrs_text all x.attrs (some_init_text all x.init k))));
    Fits = λ x. AreAttrs all x.before × IsDeclr all x.declr × (is_named x.declr ≡ true) × IsLabel all x.label
        × AreAttrs all x.attrs × IsSomeInit all x.init × (lists_identifiers x.declr ≡ false);
    scopes = λ x s. behind (declr_scopes (Some kind) x.declr s) (λ t. some_init_scopes x.init (release kind t));
    height = λ x. max (attrs_height x.before) (max (declr_height x.declr)
        (max (label_height x.label) (max (attrs_height x.attrs) (some_init_height x.init)))) + 1;
  }

  abbrev pub declaration_form : Form Declaration
  declaration_form = record {
    text = declaration_text all;
    Fits = IsDeclaration all;
    scopes = declaration_scopes;
    height = declaration_height;
  }

  abbrev pub block_form : Form Block
  block_form = record {
    text = λ b k.
        sign_text puncts.OpenBrace b.opening (block_items_text all b.items (sign_text puncts.CloseBrace b.closing k));
    Fits = λ b. AreBlockItems all b.items × AreLabelsFirst b.items;
    scopes = λ b s. in_own_scope (block_items_scopes b.items) s;
    height = λ b. block_height b.items;
  }

  abbrev pub block_item_form : Form BlockItem
  block_item_form = record {
    text = block_item_text all;
    Fits = IsBlockItem all;
    scopes = block_item_scopes;
    height = block_item_height;
  }

  abbrev pub stmt_form : Form Stmt
  stmt_form = record { text = stmt_text all; Fits = IsStmt all; scopes = stmt_scopes; height = stmt_height }

  abbrev pub item_form : Form Item
  item_form = record { text = item_text all; Fits = IsItem all; scopes = item_scopes; height = item_height }

  -- Rows of tokens and groups, which no reader inside is needed for.

  pub record TokenLaws : Type 0 where
    pub exts_falls : (room : ℕ) → Falls (extensions_at room)
    pub exts_sound : (room : ℕ) → IsSound all exts_form room (extensions_at room)
    pub exts_complete : (room : ℕ) → IsComplete exts_form (λ xs kind. not (is_extension kind)) room (extensions_at room)
    pub texts_falls : Falls texts_at
    pub texts_sound : (room : ℕ) → IsSound all texts_form room texts_at
    pub texts_complete : (room : ℕ) → IsComplete texts_form (λ xs kind. not (is_text kind)) room texts_at
    pub quals_falls : Falls quals_at
    pub quals_sound : (room : ℕ) → IsSound all quals_form room quals_at
    pub quals_complete : (room : ℕ) → IsComplete quals_form (λ xs kind. not (is_made (word_qual_of kind))) room quals_at
    pub array_words_falls : Falls array_words_at
    pub array_words_sound : (room : ℕ) → IsSound all array_words_form room array_words_at
    pub array_words_complete : (room : ℕ)
        → IsComplete array_words_form (λ xs kind. not (is_made (array_word_of kind))) room array_words_at
    pub asm_words_falls : Falls asm_words_at
    pub asm_words_sound : (room : ℕ) → IsSound all asm_words_form room asm_words_at
    pub asm_words_complete : (room : ℕ)
        → IsComplete asm_words_form (λ xs kind. not (is_made (asm_word_of kind))) room asm_words_at
    pub group_shrinks : Shrinks group_at
    pub group_sound : (room : ℕ) → IsSound all group_form room group_at
    pub group_complete : (room : ℕ) → IsComplete group_form always room group_at
    pub attr_shrinks : Shrinks attr_at
    pub attr_sound : (room : ℕ) (s : HeldScopes) (ts : List Lexeme) (x : Found Attr) → IsTail all ts
        → attr_at s ts ≡ done x → Takes all attrs_form 2 s ts (found (x.tree ∷ []) x.scopes x.rest)
    pub attr_complete : (a : Attr) (s : HeldScopes) (k : List Lexeme) → IsGroup all a.group
        → attr_at s (attrs_text all (a ∷ []) k) ≡ done (found a s k)
    pub align_shrinks : Shrinks align_at
    pub align_sound : (room : ℕ) (s : HeldScopes) (ts : List Lexeme) (x : Found Attr) → IsTail all ts
        → kind_at ts ≡ kinds.Keyword keywords.Alignas → align_at s ts ≡ done x →
        Takes all align_form room s ts x
    pub align_complete : (room : ℕ) → IsComplete align_form always room align_at
    pub attrs_falls : (room : ℕ) → Falls (attrs_at room)
    pub attrs_sound : (room : ℕ) → IsSound all attrs_form room (attrs_at room)
    pub attrs_complete : (room : ℕ) → IsComplete attrs_form (λ xs kind. not (is_attribute kind)) room (attrs_at room)
    pub pointer_words_falls : (room : ℕ) → Falls (pointer_words_at room)
    pub pointer_words_sound : (room : ℕ) → IsSound all pointer_words_form room (pointer_words_at room)
    pub pointer_words_complete : (room : ℕ)
        → IsComplete pointer_words_form (λ xs kind. not (begins_pointer_word kind)) room (pointer_words_at room)
    pub assert_shrinks : Shrinks assert_at
    pub assert_sound : (room : ℕ) → IsSound all assert_form room assert_at
    pub assert_complete : (room : ℕ) → IsComplete assert_form always room assert_at

  -- First tokens.

  abbrev pub FitsRole : Role → SpecWords → Type 0
  FitsRole Declaring ws = AreSpecWords all ws
  FitsRole Typed ws = AreSpecWords all ws × (has_auto ws ≡ false)
  FitsRole Naming ws = AreTypeWords all ws

  pub record FirstLaws : Type 0 where
    pub words_begin : (ws : SpecWords) (s s' : HeldScopes) (k : List Lexeme) → IsMix ws → AreSpecWords all ws
        → spec_words_scopes ws s ≡ Some s' →
        begins_specs s (kind_at (spec_words_text all ws k)) ≡ true
    pub type_words_begin : (ws : SpecWords) (s s' : HeldScopes) (k : List Lexeme) → IsMix ws → AreTypeWords all ws
        → spec_words_scopes ws s ≡ Some s' →
        begins_specs s (kind_at (spec_words_text all ws k)) ≡ true
    pub words_stand : (role : Role) (ws : SpecWords) (s s' : HeldScopes) (k : List Lexeme) → IsMix ws → FitsRole role ws
        → spec_words_scopes ws s ≡ Some s' →
        may_stand role (start_at s false (kind_at (spec_words_text all ws k))) ≡ true
    pub expr_begins : (e : Expr) (s s' : HeldScopes) (k : List Lexeme) → IsExpr all e → expr_scopes e s ≡ Some s'
        → begins_expr s (kind_at (expr_text all e k)) ≡ true
    pub named_begins : (d : Declr) (k : List Lexeme) → IsDeclr all d → is_named d ≡ true
        → begins_named (kind_at (declr_text all d k)) ≡ true
    pub named_base : (d : Declr) (k : List Lexeme) → IsDeclr all d → is_named d ≡ true
        → is_base_word (kind_at (declr_text all d k)) ≡ begins_base d
    pub abstract_begins : (d : Declr) (k : List Lexeme) → IsDeclr all d → is_named d ≡ false
        → begins_abstract (kind_at (declr_text all d k)) ≡ true

  -- Expressions.

  -- What was read behind what of the first operand stood already.
  pub record TakesBegun (reach : Reach) (begun : Begun) (room : ℕ) (s : HeldScopes) (ts : List Lexeme)
      (x : Found Expr) : Type 0 where
    pub spelled : begun_text begun ts ≡ expr_text all x.tree x.rest
    pub fits : IsExpr all x.tree × (reach_level reach ≤ expr_level x.tree)
    pub named : expr_scopes x.tree s ≡ Some x.scopes
    pub low : expr_height x.tree ≤ room
    pub left : IsTail all x.rest

  pub record ExprLaws (n : ℕ) (expr : Reach → Begun → ℕ → Reader Expr) : Type 0 where
    pub shrinks : (reach : Reach) (begun : Begun) (room : ℕ) → Shrinks (expr reach begun room)
    pub sound : (reach : Reach) (room : ℕ) → IsSound all (expr_form reach) room (expr reach nothing room)
    pub complete : (reach : Reach) (room : ℕ) → room < n
        → IsComplete (expr_form reach) (λ e. ends_expr reach) room (expr reach nothing room)
    pub begun_sound : (reach : Reach) (begun : Begun) (room : ℕ) → is_row reach ≡ true
        → (s : HeldScopes) (ts : List Lexeme) (x : Found Expr) → IsTail all ts →
        expr reach begun room s ts ≡ done x → TakesBegun reach begun room s ts x
    pub begun_complete : (reach : Reach) (begun : Begun) (room : ℕ) → is_row reach ≡ true → room < n
        → (e : Expr) (s s' : HeldScopes) (k : List Lexeme) → IsExpr all e → reach_level reach ≤ expr_level e →
        IsBegun begun e → expr_scopes e s ≡ Some s' → expr_height e ≤ room → ends_expr reach (kind_at k) ≡ true
        → expr reach begun room s (behind_begun begun e k) ≡ done (found e s' k)

  -- Names of types.

  pub record TypeNameLaws (n : ℕ) (type_name : ℕ → Reader TypeName) : Type 0 where
    pub shrinks : (room : ℕ) → Shrinks (type_name room)
    pub sound : (room : ℕ) → IsSound all type_name_form room (type_name room)
    pub complete : (room : ℕ) → room < n → IsComplete type_name_form (λ t. ends_type_name) room (type_name room)

  -- Specifiers, behind words that were read already.

  -- What was read behind words that stood already: they are a mix with these. The room is asked for where a word was
  -- read.
  pub record TakesWords (role : Role) (words : SpecWords) (room : ℕ) (s : HeldScopes) (ts : List Lexeme)
      (x : Found SpecWords) : Type 0 where
    pub rest : SpecWords
    pub words_are : x.tree ≡ append_words words rest
    pub mix : IsMix x.tree
    pub spelled : ts ≡ spec_words_text all rest x.rest
    pub fits : FitsRole role rest
    pub stops : is_base_word (kind_at x.rest) ≡ true → goes_on x.tree (classes.Spells keywords.BaseWord) ≡ false
    pub named : spec_words_scopes rest s ≡ Some x.scopes
    pub low : (rest ≡ no_words) ⊎ (specs_height x.tree ≤ room)
    pub left : IsTail all x.rest

  pub record SpecsLaws (n : ℕ) (specs : Role → SpecWords → ℕ → Reader SpecWords) : Type 0 where
    pub falls : (role : Role) (words : SpecWords) (room : ℕ) → Falls (specs role words room)
    pub shrinks : (role : Role) (room : ℕ) → Shrinks (specs role no_words room)
    pub sound : (role : Role) (words : SpecWords) (room : ℕ) (s : HeldScopes) (ts : List Lexeme) (x : Found SpecWords)
        → IsTail all ts → specs role words room s ts ≡ done x →
        TakesWords role words room s ts x
    pub complete : (role : Role) (words rest : SpecWords) (room : ℕ) → room < n → (s s' : HeldScopes) (k : List Lexeme)
        → IsMix (append_words words rest) → FitsRole role rest →
        spec_words_scopes rest s ≡ Some s' → (rest ≡ no_words) ⊎ (specs_height (append_words words rest) ≤ room)
        → EndsWords s' (append_words words rest) (kind_at k) →
        specs role words room s (spec_words_text all rest k) ≡ done (found (append_words words rest) s' k)

  -- Declarators.

  abbrev pub IsNamed : SomeDeclr → Type 0
  IsNamed no_declr = ⊥
  IsNamed (some_declr d) = IsDeclr all d × (is_named d ≡ true)

  abbrev pub FitsMode : Mode → SomeDeclr → HeldScopes → Type 0
  FitsMode Named d s = IsNamed d
  FitsMode Abstract d s = IsSomeAbstract all d
  FitsMode Either d s = IsSomeDeclr all d × (some_shows_no_type s d ≡ true)

  -- a typedef name is declared only where a name must come
  abbrev pub MayName : Mode → Option Kind → Type 0
  MayName Named wanted = Unit {0}
  MayName Abstract wanted = is_typedef wanted ≡ false
  MayName Either wanted = is_typedef wanted ≡ false

  pub record TakesDeclr (mode : Mode) (wanted : Option Kind) (flag : Bool) (room : ℕ) (s : HeldScopes)
      (ts : List Lexeme) (x : Found Declared) : Type 0 where
    pub spelled : ts ≡ some_declr_text all x.tree.declr x.rest
    pub fits : FitsMode mode x.tree.declr s
    pub plain : flag ≡ false → some_lists_identifiers x.tree.declr ≡ false
    pub named : some_declr_scopes wanted x.tree.declr s ≡ Some x.scopes
    pub closed : x.tree.closed ≡ closed_of wanted x.tree.declr s
    pub low : some_declr_height x.tree.declr ≤ declr_room flag x.tree.closed room
    pub left : IsTail all x.rest

  pub record DeclrLaws (n : ℕ) (declr : Mode → Option Kind → Bool → ℕ → Reader Declared) : Type 0 where
    pub falls : (mode : Mode) (wanted : Option Kind) (flag : Bool) (room : ℕ) → Falls (declr mode wanted flag room)
    pub shrinks : (wanted : Option Kind) (flag : Bool) (room : ℕ) → Shrinks (declr Named wanted flag room)
    pub sound : (mode : Mode) (wanted : Option Kind) (flag : Bool) (room : ℕ) (s : HeldScopes) (ts : List Lexeme)
        (x : Found Declared)
        → IsTail all ts → declr mode wanted flag room s ts ≡ done x →
        TakesDeclr mode wanted flag room s ts x
    pub complete : (mode : Mode) (wanted : Option Kind) (flag : Bool) (room : ℕ) → declr_number flag room < n
        → MayName mode wanted → (d : SomeDeclr) (s s' : HeldScopes) (k : List Lexeme) → FitsMode mode d s
        → (flag ≡ true) ⊎ (some_lists_identifiers d ≡ false) →
        some_declr_scopes wanted d s ≡ Some s' → some_declr_height d ≤ declr_room flag (closed_of wanted d s) room
        → ends_declr mode d (kind_at k) ≡ true →
        declr mode wanted flag room s (some_declr_text all d k) ≡ done (found (declared_as wanted d s) s' k)

  -- Initialisers in braces, blocks, statements.

  pub record InitListLaws (n : ℕ) (list : ℕ → Reader InitList) : Type 0 where
    pub shrinks : (room : ℕ) → Shrinks (list room)
    pub sound : (room : ℕ) → IsSound all init_list_form room (list room)
    pub complete : (room : ℕ) → room < n → IsComplete init_list_form always room (list room)

  pub record BlockLaws (n : ℕ) (block : ℕ → Reader Block) : Type 0 where
    pub shrinks : (room : ℕ) → Shrinks (block room)
    pub sound : (room : ℕ) → IsSound all block_form room (block room)
    pub complete : (room : ℕ) → room < n → IsComplete block_form always room (block room)

  -- no `else` stands behind a statement that takes one
  pub record StmtLaws (n : ℕ) (stmt : ℕ → Reader Stmt) : Type 0 where
    pub shrinks : (room : ℕ) → Shrinks (stmt room)
    pub sound : (room : ℕ) → IsSound all stmt_form room (stmt room)
    pub ended : (room : ℕ) (s : HeldScopes) (ts : List Lexeme) (x : Found Stmt) → stmt room s ts ≡ done x
        → takes_else x.tree ≡ true → is_else (kind_at x.rest) ≡ false
    pub complete : (room : ℕ) → room < n → IsComplete stmt_form ends_stmt room (stmt room)

  -- of readers of all nonterminals that read trees lower than a number
  pub record Laws (n : ℕ) (inner : Inner) : Type 0 where
    pub exprs : ExprLaws n inner.expr
    pub types : TypeNameLaws n inner.type_name
    pub words : SpecsLaws n inner.specs
    pub declrs : DeclrLaws n inner.declr
    pub lists : InitListLaws n inner.init_list
    pub blocks : BlockLaws n inner.block
    pub stmts : StmtLaws n inner.stmt
