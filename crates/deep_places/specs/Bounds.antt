-- How many tokens stand before a refusal for the height, and how high a tree is for its tokens: eight levels a token,
-- and a few more.
use Rattle.std.specs.Prelude.{◌≡◌, ℕ, ◌+◌, ◌*◌, ◌≤◌, max, List, [], ◌∷◌, ◌++◌, length, Bool, Option, Some, None, Ok, Err}
use Rattle.c_tree.specs.declared.lexeme.Lexeme.{Lexeme}
use Rattle.c_reading.specs.declared.kinds.FaultKind.TheVariants.{TooDeep}
use Rattle.c_tree.specs.Tree.{SpecWords}
use Rattle.c_tree.specs.Height.{attrs_height, expr_height, specs_height, some_declr_height, declr_height, init_list_height, block_height, stmt_height, mem_declr_height, some_value_height, desigs_height, init_height, label_height, some_init_height}
use Rattle.c_units.specs.HeldScopes.{HeldScopes}
use Rattle.typedef_scope.specs.declared.kind.Kind.{Kind}
use Rattle.c_reading.specs.declared.kinds.Reach.{Reach}
use Rattle.c_reading.specs.declared.kinds.Role.{Role}
use Rattle.c_reading.specs.declared.kinds.Mode.{Mode}
use Rattle.c_reading.specs.Parts.{Inner, Begun, nothing, extensions, star, type_name_height, Block, Declared, MemberItem, EnumItem, ParamItem, ListItem, DeclrItem}
use Rattle.c_reading.specs.Reading.{Read}

-- these tokens were taken, and the height is few levels for them
pub record LowAt (ts rest : List Lexeme) (height more : ℕ) : Type 0 where
  pub before : List Lexeme
  pub parts : ts ≡ before ++ rest
  pub low : height ≤ 8 * length before + more

-- the refused token stands behind these, and the room is few levels for them
pub record DeepAt (ts : List Lexeme) (at room more : ℕ) : Type 0 where
  pub before : List Lexeme
  pub first : Lexeme
  pub rest : List Lexeme
  pub parts : ts ≡ before ++ first ∷ rest
  pub place : at ≡ first.at
  pub deep : room ≤ 8 * length before + more

-- what was answered is low, and what was refused for the height is late
abbrev pub Bounded : {A : Type 0} → (A → ℕ) → ℕ → ℕ → ℕ → List Lexeme → Read A → Type 0
Bounded height c room d ts (Ok x) = LowAt ts x.rest (height x.tree) c
Bounded height c room d ts (Err e) = e.0 ≡ TooDeep → DeepAt ts e.1 room d

-- the answer of a reader is so bounded
pub record BoundAt {A : Type 0} (height : A → ℕ) (c room d : ℕ) (ts : List Lexeme) (r : Read A) : Type 0 where
  pub held : Bounded height c room d ts r

-- the answer of a turn of a loop is so bounded, where the loop goes on
abbrev pub StepAt : {A : Type 0} → (A → ℕ) → ℕ → ℕ → ℕ → List Lexeme → Option (Read A) → Type 0
StepAt height c room d ts None = Unit {0}
StepAt height c room d ts (Some read) = BoundAt height c room d ts read

-- the greatest of items
abbrev pub most_of : {T : Type 0} → (T → ℕ) → List T → ℕ
most_of height [] = 0
most_of height (x ∷ xs) = max (height x) (most_of height xs)

-- what of the first operand was read already is so many levels
abbrev pub begun_levels : Begun → ℕ
begun_levels nothing = 0
begun_levels (extensions tokens) = length tokens
begun_levels (star token) = 1

-- the height of a declarator, 0 where there is none
abbrev pub declared_height : Declared → ℕ
declared_height d = some_declr_height d.declr

-- the height of a block
abbrev pub block_tree_height : Block → ℕ
block_tree_height b = block_height b.items

-- the height of a member's declarator, with the attributes before it
abbrev pub member_height : MemberItem → ℕ
member_height x = max (attrs_height x.attrs) (mem_declr_height x.declr)

-- the height of an enumerator
abbrev pub enum_item_height : EnumItem → ℕ
enum_item_height x = max (attrs_height x.attrs) (some_value_height x.value) + 1

-- the height of a parameter
abbrev pub param_item_height : ParamItem → ℕ
param_item_height x = max (specs_height x.words) (max (some_declr_height x.declr) (attrs_height x.attrs)) + 1

-- the height of an item of a braced list, with its designators
abbrev pub list_item_height : ListItem → ℕ
list_item_height x = max (desigs_height x.desigs) (init_height x.init) + 1

-- the height of a declarator of a declaration, with its attributes and initialiser
abbrev pub declr_item_height : DeclrItem → ℕ
declr_item_height x =
    max (attrs_height x.before)
    (max (declr_height x.declr) (max (label_height x.label) (max (attrs_height x.attrs) (some_init_height x.init)))) + 1

-- what the readers of the parts inside owe
pub record InnerBounds (inner : Inner) : Type 0 where
  pub expr : (reach : Reach) (begun : Begun) (room : ℕ) (s : HeldScopes) (ts : List Lexeme)
      → BoundAt expr_height (1 + begun_levels begun) room (10 + begun_levels begun) ts
      (inner.expr reach begun room s ts)
  pub type_name : (room : ℕ) (s : HeldScopes) (ts : List Lexeme)
      → BoundAt type_name_height 2 room 12 ts (inner.type_name room s ts)
  pub specs : (role : Role) (words : SpecWords) (room : ℕ) (s : HeldScopes) (ts : List Lexeme)
      → BoundAt specs_height (specs_height words) room (specs_height words + 10) ts (inner.specs role words room s ts)
  pub declr : (mode : Mode) (wanted : Option Kind) (flag : Bool) (room : ℕ) (s : HeldScopes) (ts : List Lexeme)
      → BoundAt declared_height 0 room 10 ts (inner.declr mode wanted flag room s ts)
  pub init_list : (room : ℕ) (s : HeldScopes) (ts : List Lexeme)
      → BoundAt init_list_height 1 room 10 ts (inner.init_list room s ts)
  pub block : (room : ℕ) (s : HeldScopes) (ts : List Lexeme)
      → BoundAt block_tree_height 1 room 13 ts (inner.block room s ts)
  pub stmt : (room : ℕ) (s : HeldScopes) (ts : List Lexeme) → BoundAt stmt_height 2 room 14 ts (inner.stmt room s ts)
