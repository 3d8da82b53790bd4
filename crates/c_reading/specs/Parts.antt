-- What readers answer that is no tree of its own, the lists of trees as lists of their items, and the readers of the
-- parts inside, which each reader stands over.
use Rattle.std.specs.Prelude.{ℕ, ◌+◌, max, Bool, List, [], ◌∷◌, Option}
use Rattle.c_syntax.specs.declared.parts.Identifier.{Identifier}
use Rattle.c_syntax.specs.declared.parts.Attr.{Attr}
use Rattle.c_syntax.specs.declared.parts.AsmLabel.{AsmLabel}
use Rattle.c_tree.specs.Tree.{Expr, Exprs, no_exprs, more_exprs, SpecWords, StructItems, no_struct_items, more_struct_items, StructItem, MemDeclrs, no_mem_declrs, more_mem_declrs, MemDeclr, SomeValue, Enumerators, no_enumerators, more_enumerators, Declr, SomeDeclr, Params, no_params, more_params, Init, InitList, InitItems, no_init_items, more_init_items, Desigs, no_desigs, more_desigs, Desig, SomeInit, InitDeclrs, no_init_declrs, more_init_declrs, BlockItems, no_block_items, more_block_items, BlockItem, Stmt, Assocs, no_assocs, more_assocs, Assoc}
use Rattle.c_tree.specs.Height.{specs_height, some_declr_height}
use Rattle.typedef_scope.specs.declared.kind.Kind.{Kind}
use Rattle.c_units.specs.HeldScopes.{HeldScope}
use Rattle.c_reading.specs.declared.kinds.FaultKind.TheVariants.{Unexpected}
use Rattle.c_reading.specs.declared.kinds.Reach.{Reach}
use Rattle.c_reading.specs.declared.kinds.Role.{Role}
use Rattle.c_reading.specs.declared.kinds.Mode.{Mode}
use Rattle.c_reading.specs.Reading.{Reader, refuses}

-- Specs [absdeclr]
pub record TypeName : Type 0 where
  pub words : SpecWords
  pub declr : SomeDeclr

-- the height of a type name, which is a node
abbrev pub type_name_height : TypeName → ℕ
type_name_height t = max (specs_height t.words) (some_declr_height t.declr) + 1

-- { item* }
pub record Block : Type 0 where
  pub opening : ℕ
  pub items : BlockItems
  pub closing : ℕ

-- a declarator, and the scope of the parameters directly around its name
pub record Declared : Type 0 where
  pub declr : SomeDeclr
  pub closed : Option HeldScope

-- what of the first operand of an expression was read already: `__extension__` again and again, or a star
pub data Begun : Type 0 where
  nothing : Begun
  extensions : List ℕ → Begun
  star : ℕ → Begun

-- the readers of the parts inside; those with a room read trees of at most this height
pub record Inner : Type 0 where
  pub expr : Reach → Begun → ℕ → Reader Expr
  pub type_name : ℕ → Reader TypeName
  pub specs : Role → SpecWords → ℕ → Reader SpecWords
  pub declr : Mode → Option Kind → Bool → ℕ → Reader Declared
  pub init_list : ℕ → Reader InitList
  pub block : ℕ → Reader Block
  pub stmt : ℕ → Reader Stmt

-- readers that no reader calls
abbrev pub never : Inner
never = record {
  expr = λ reach begun room s ts. refuses Unexpected ts;
  type_name = λ room s ts. refuses Unexpected ts;
  specs = λ role words room s ts. refuses Unexpected ts;
  declr = λ mode wanted flag room s ts. refuses Unexpected ts;
  init_list = λ room s ts. refuses Unexpected ts;
  block = λ room s ts. refuses Unexpected ts;
  stmt = λ room s ts. refuses Unexpected ts;
}

-- a declarator of a member's declaration, with the attributes before it
pub record MemberItem : Type 0 where
  pub attrs : List Attr
  pub declr : MemDeclr

-- an enumerator, with its attributes and value
pub record EnumItem : Type 0 where
  pub name : Identifier
  pub attrs : List Attr
  pub value : SomeValue

-- a parameter
pub record ParamItem : Type 0 where
  pub words : SpecWords
  pub declr : SomeDeclr
  pub attrs : List Attr

-- an item of a braced list of initialisers, with its designators
pub record ListItem : Type 0 where
  pub desigs : Desigs
  pub equal : Option ℕ
  pub init : Init

-- a declarator of a declaration, with the attributes before it, its `asm` label, its attributes and its initialiser
pub record DeclrItem : Type 0 where
  pub before : List Attr
  pub declr : Declr
  pub label : Option AsmLabel
  pub attrs : List Attr
  pub init : SomeInit

-- arguments as a tree
abbrev pub exprs_from : List Expr → Exprs
exprs_from [] = no_exprs
exprs_from (e ∷ es) = more_exprs e (exprs_from es)

-- associations of `_Generic` as a tree
abbrev pub assocs_from : List Assoc → Assocs
assocs_from [] = no_assocs
assocs_from (x ∷ xs) = more_assocs x (assocs_from xs)

-- members of a struct or union as a tree
abbrev pub struct_items_from : List StructItem → StructItems
struct_items_from [] = no_struct_items
struct_items_from (x ∷ xs) = more_struct_items x (struct_items_from xs)

-- declarators of a member's declaration as a tree
abbrev pub mem_declrs_from : List MemberItem → MemDeclrs
mem_declrs_from [] = no_mem_declrs
mem_declrs_from (x ∷ xs) = more_mem_declrs x.attrs x.declr (mem_declrs_from xs)

-- enumerators as a tree
abbrev pub enumerators_from : List EnumItem → Enumerators
enumerators_from [] = no_enumerators
enumerators_from (x ∷ xs) = more_enumerators x.name x.attrs x.value (enumerators_from xs)

-- parameters as a tree
abbrev pub params_from : List ParamItem → Params
params_from [] = no_params
params_from (x ∷ xs) = more_params x.words x.declr x.attrs (params_from xs)

-- designators as a tree
abbrev pub desigs_from : List Desig → Desigs
desigs_from [] = no_desigs
desigs_from (x ∷ xs) = more_desigs x (desigs_from xs)

-- items of a braced list of initialisers as a tree
abbrev pub init_items_from : List ListItem → InitItems
init_items_from [] = no_init_items
init_items_from (x ∷ xs) = more_init_items x.desigs x.equal x.init (init_items_from xs)

-- declarators of a declaration as a tree
abbrev pub init_declrs_from : List DeclrItem → InitDeclrs
init_declrs_from [] = no_init_declrs
init_declrs_from (x ∷ xs) = more_init_declrs x.before x.declr x.label x.attrs x.init (init_declrs_from xs)

-- items of a block as a tree
abbrev pub block_items_from : List BlockItem → BlockItems
block_items_from [] = no_block_items
block_items_from (x ∷ xs) = more_block_items x (block_items_from xs)
