-- What each reader of the parts inside owes: that it answers and refuses as it should, and with what it can be
-- completed.
use Rattle.std.specs.Prelude.{◌≡◌, ℕ, suc, ◌<◌, ◌≤◌, Bool, true, false, not, ◌&&◌, List, ◌∷◌, ◌++◌, length, Option, is_some, Ok}
use Rattle.c_words.specs.declared.kinds.TokenKind.TheVariants as kinds
use Rattle.c_words.specs.declared.kinds.Punct.TheVariants.{OpenParen, CloseParen}
use Rattle.c_tree.specs.declared.lexeme.Lexeme.{Lexeme}
use Rattle.c_tree.specs.Tree.{Expr, SpecWords, no_words, Declr, some_declr, InitList, Stmt}
use Rattle.c_tree.specs.Height.{specs_height}
use Rattle.c_tree.specs.Specifiers.{storage_words}
use Rattle.c_tree.specs.WellFormed.{has_auto}
use Rattle.c_specs.specs.Mix.{mix_of}
use Rattle.typedef_scope.specs.declared.kind.Kind.{Kind}
use Rattle.c_units.specs.HeldScopes.{HeldScopes, names_type}
use Rattle.c_units.specs.Scoping.{has_typedef_word}
use Rattle.c_reading.specs.declared.kinds.Reach.{Reach}
use Rattle.c_reading.specs.declared.kinds.Role.{Role}
use Rattle.c_reading.specs.declared.kinds.Mode.{Mode}
use Rattle.c_reading.specs.declared.kinds.Mode.TheVariants.{Named, Abstract, Either}
use Rattle.c_reading.specs.Reading.{Found, Reader, ends, kind_at}
use Rattle.c_reading.specs.Tokens.{is_open_brace, is_semicolon, is_star, is_base_word}
use Rattle.c_reading.specs.Parts.{Inner, Begun, nothing, TypeName, Declared, Block}
use Rattle.reading_steps.specs.Steps.{Good, Ready, any}
use Rattle.reading_steps.specs.Stops.{is_number, is_int, is_name_kind, stops_expr, stops_type, stops_specs, stops_named, stops_declr, stops_stmt, begun_levels}

-- Expressions: a number is one, behind what was begun with a room for it; so are `( 0 )` and a name that is no type's.
pub record ExprPlaces (n : ℕ) (expr : Reach → Begun → ℕ → Reader Expr) : Type 0 where
  pub good : (reach : Reach) (begun : Begun) (room : ℕ) → room < n → (s : HeldScopes) (ts : List Lexeme)
      → Good true (expr reach begun room) (stops_expr reach) s ts
  pub ready : (reach : Reach) (begun : Begun) (room : ℕ) → room < n → begun_levels begun < room
      → (s : HeldScopes) (at : ℕ) → Ready true (expr reach begun room) is_number (stops_expr reach) s at
  pub number : (reach : Reach) (begun : Begun) (room : ℕ) → room < n → begun_levels begun < room
      → (s : HeldScopes) (at : ℕ) →
      (e : Expr) × ((k : List Lexeme) → stops_expr reach (kind_at k) ≡ true
      → expr reach begun room s (record { kind = kinds.Number; at = at } ∷ k) ≡ ends e s k)
  pub opens : (reach : Reach) (room : ℕ) → room < n → 2 ≤ room → (s : HeldScopes) (one two three : ℕ) →
      (e : Expr) × ((k : List Lexeme) → stops_expr reach (kind_at k) ≡ true
      → expr reach nothing room s
      (record { kind = kinds.Punct OpenParen; at = one } ∷ record { kind = kinds.Number; at = two }
      ∷ record { kind = kinds.Punct CloseParen; at = three } ∷ k) ≡ ends e s k)
  pub named : (reach : Reach) (room : ℕ) → room < n → 1 ≤ room → (s : HeldScopes) (name at : ℕ)
      → names_type s name ≡ false →
      (e : Expr) × ((k : List Lexeme) → stops_expr reach (kind_at k) ≡ true
      → expr reach nothing room s (record { kind = kinds.Name name; at = at } ∷ k) ≡ ends e s k)

-- Names of types: `int`.
pub record TypeNamePlaces (n : ℕ) (type_name : ℕ → Reader TypeName) : Type 0 where
  pub good : (room : ℕ) → room < n → 1 ≤ room → (s : HeldScopes) (ts : List Lexeme)
      → Good true (type_name room) stops_type s ts
  pub ready : (room : ℕ) → room < n → 2 ≤ room → (s : HeldScopes) (at : ℕ)
      → Ready true (type_name room) is_int stops_type s at

-- behind `__auto_type` a name and its value are to stand: there is room for a declarator
abbrev pub AutoFits : ℕ → SpecWords → Type 0
AutoFits room words = has_auto words ≡ true → 2 ≤ room

-- words with `__auto_type` and `typedef`, behind which a base word stands for the name
abbrev pub takes_base : SpecWords → Bool
takes_base words = has_auto words && has_typedef_word (storage_words words)

-- Specifiers behind words with which a mix begins: nothing or a word of a type. With a room of one they are one high.
pub record SpecsPlaces (n : ℕ) (specs : Role → SpecWords → ℕ → Reader SpecWords) : Type 0 where
  pub good : (role : Role) (words : SpecWords) (room : ℕ) → room < n → (s : HeldScopes) (ts : List Lexeme)
      → Good true (specs role words room) stops_specs s ts
  pub ready : (role : Role) (words : SpecWords) (room : ℕ) → room < n → 1 ≤ room → specs_height words ≤ room
      → is_some (mix_of words) ≡ true → (s : HeldScopes) (at : ℕ) →
      Ready true (specs role words room) any stops_specs s at
  pub begins : (role : Role) (room : ℕ) → room < n → 1 ≤ room → (s : HeldScopes) (at : ℕ)
      → Ready true (specs role no_words room) is_int stops_specs s at
  -- where a token was taken there was room for what was known
  pub room : (role : Role) (words : SpecWords) (room : ℕ) (s : HeldScopes) (ts : List Lexeme) (x : Found SpecWords)
      → specs role words room s ts ≡ Ok x → length x.rest < length ts → specs_height words ≤ room
  pub low : (role : Role) (words : SpecWords) (s : HeldScopes) (ts : List Lexeme) (x : Found SpecWords)
      → specs role words 1 s ts ≡ Ok x → length x.rest < length ts → specs_height x.tree ≤ 1
  pub auto : (role : Role) (words : SpecWords) (room : ℕ) (s : HeldScopes) (ts : List Lexeme) (x : Found SpecWords)
      → AutoFits room words → specs role words room s ts ≡ Ok x → AutoFits room x.tree
  -- what is read before each token that begins no word is read before a base word too, where that stands for the name
  pub based : (role : Role) (words : SpecWords) (room : ℕ) → room < n
      → (s : HeldScopes) (b : List Lexeme) (tree : SpecWords) (scopes : HeldScopes) →
      ((k : List Lexeme) → stops_specs (kind_at k) ≡ true → specs role words room s (b ++ k) ≡ ends tree scopes k)
      → takes_base tree ≡ true → (k : List Lexeme) → is_base_word (kind_at k) ≡ true →
      specs role words room s (b ++ k) ≡ ends tree scopes k

-- the room of a declarator that may be a function's counts as one more
abbrev pub number_of : Bool → ℕ → ℕ
number_of true room = suc room
number_of false room = room

-- whether a declarator's name is not held in the innermost scope
abbrev pub holds_none : Option Kind → Bool
holds_none wanted = not (is_some wanted)

-- whether no name, and no declarator, must stand
abbrev pub may_be_absent : Mode → Bool
may_be_absent Named = false
may_be_absent Abstract = true
may_be_absent Either = true

-- Declarators: one fresh name, or nothing where none must stand. Where a token was taken there is one.
pub record DeclrPlaces (n : ℕ) (declr : Mode → Option Kind → Bool → ℕ → Reader Declared) : Type 0 where
  pub good : (mode : Mode) (wanted : Option Kind) (flag : Bool) (room : ℕ) → number_of flag room < n
      → (s : HeldScopes) (ts : List Lexeme) →
      Good (holds_none wanted) (declr mode wanted flag room) (stops_declr mode) s ts
  pub named : (wanted : Option Kind) (flag : Bool) (room : ℕ) → number_of flag room < n → 1 ≤ room
      → (s : HeldScopes) (at : ℕ) →
      Ready (holds_none wanted) (declr Named wanted flag room) is_name_kind stops_named s at
  pub absent : (wanted : Option Kind) (flag : Bool) (room : ℕ) → number_of flag room < n → (s : HeldScopes) (at : ℕ)
      → Ready true (declr Abstract wanted flag room) stops_type stops_type s at
  pub either : (wanted : Option Kind) (flag : Bool) (room : ℕ) → number_of flag room < n → (s : HeldScopes) (at : ℕ)
      → Ready true (declr Either wanted flag room) stops_type stops_type s at
  pub starred : (mode : Mode) (wanted : Option Kind) (flag : Bool) (room : ℕ) → may_be_absent mode ≡ true
      → number_of flag room < n → 1 ≤ room → (s : HeldScopes) (at : ℕ)
      → Ready true (declr mode wanted flag room) is_star stops_type s at
  pub there : (mode : Mode) (wanted : Option Kind) (flag : Bool) (room : ℕ) (s : HeldScopes) (ts : List Lexeme)
      (x : Found Declared)
      → declr mode wanted flag room s ts ≡ Ok x →
      length x.rest < length ts → (d : Declr) × (x.tree.declr ≡ some_declr d)
  pub room : (mode : Mode) (wanted : Option Kind) (flag : Bool) (room : ℕ) (s : HeldScopes) (ts : List Lexeme)
      (x : Found Declared)
      → declr mode wanted flag room s ts ≡ Ok x →
      length x.rest < length ts → 1 ≤ room

-- Initialisers in braces: `{ }`.
pub record InitListPlaces (n : ℕ) (list : ℕ → Reader InitList) : Type 0 where
  pub good : (room : ℕ) → room < n → (s : HeldScopes) (ts : List Lexeme) → Good true (list room) any s ts
  pub ready : (room : ℕ) → room < n → 1 ≤ room → (s : HeldScopes) (at : ℕ)
      → Ready true (list room) is_open_brace any s at

-- Blocks: `{ }`.
pub record BlockPlaces (n : ℕ) (block : ℕ → Reader Block) : Type 0 where
  pub good : (room : ℕ) → room < n → (s : HeldScopes) (ts : List Lexeme) → Good true (block room) any s ts
  pub ready : (room : ℕ) → room < n → 1 ≤ room → (s : HeldScopes) (at : ℕ)
      → Ready true (block room) is_open_brace any s at

-- Statements: `;`.
pub record StmtPlaces (n : ℕ) (stmt : ℕ → Reader Stmt) : Type 0 where
  pub good : (room : ℕ) → room < n → (s : HeldScopes) (ts : List Lexeme) → Good true (stmt room) stops_stmt s ts
  pub ready : (room : ℕ) → room < n → 1 ≤ room → (s : HeldScopes) (at : ℕ)
      → Ready true (stmt room) is_semicolon stops_stmt s at

-- what readers of all nonterminals owe whose rooms are below a number
pub record InnerLaws (n : ℕ) (inner : Inner) : Type 0 where
  pub exprs : ExprPlaces n inner.expr
  pub types : TypeNamePlaces n inner.type_name
  pub words : SpecsPlaces n inner.specs
  pub declrs : DeclrPlaces n inner.declr
  pub lists : InitListPlaces n inner.init_list
  pub blocks : BlockPlaces n inner.block
  pub stmts : StmtPlaces n inner.stmt
