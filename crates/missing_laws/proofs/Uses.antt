-- Uses of names at places of their own, declarators without names, and what has skeletons.
use Rattle.std.proofs.Common.{◌≡◌, ◌⊎◌, inl, inr, ℕ, Bool, true, false, List, [], ◌∷◌, ◌++◌, Option, None, Some, refl, sym, ap, subst, arith}
use Rattle.std.specs.Prelude.{if◌then◌else◌}
use Rattle.c_words.specs.declared.kinds.Punct.{Punct}
use Rattle.c_words.specs.declared.kinds.Punct.TheVariants as signs
use Rattle.c_tree.specs.Tree.{Expr, operation, cast, prefix, sizeof_value, sizeof_type, extension, index, call, dot, arrow, post, compound, name_use, number_use, char_use, text_use, paren, statement_expr, va_arg, va_start, va_copy, offset, comma, assign, cond, binary, Declr, pointer, declr_name, declr_paren, array, params, abs_pointer, abs_paren, abs_array, abs_params, SomeDeclr, no_declr, some_declr, complex_part, label_use, compat, choose, generic, typeof_value, typeof_type, align, auto_word, range_desig, old_desig, case_range, goto_value, block_labels, identifiers, base_name, Assocs, no_assocs, more_assocs, Assoc, typed_assoc, default_assoc}
use Rattle.type_table.specs.Types.{CType}
use Rattle.name_rules.specs.Spellings.{Place}
use Rattle.name_rules.specs.Declaring.{own_where}
use Rattle.type_rules.specs.Tokens.{declared_name, some_declared_name}
use Rattle.std.specs.Prelude.{◌≤◌, ◌+◌}
use Rattle.std.proofs.Math.Dec.{ltb}
use Rattle.std.proofs.lemmas.Bool.{le-ltb, ltb-false}
use Rattle.c_tree.specs.declared.lexeme.Lexeme.{Lexeme}
use Rattle.c_tree.specs.Levels.{binary_level, expr_level}
use Rattle.c_tree.specs.WellFormed.{IsDeclr, IsSomeAbstract, IsSomeDirect, is_named, prefix_level}
use Rattle.type_table.specs.Types.{pointer}
use Rattle.name_rules.specs.Scopes.{NameUse, TypeNamed, Use, is_place}
use Rattle.name_rules.specs.Uses.{type_named_at, use_at}
use Rattle.name_rules.proofs.MeaningLaws.Lists.{place_is, place_itself}
use Rattle.row_rules.specs.Starting.{Having, having_where, of_function, with_skeleton, without_skeleton}
use Rattle.missing_laws.specs.Finding.{IsPrefix}

-- uses of names are at different places

abbrev pub NoUse : List NameUse → Place → Type 0
NoUse [] p = Unit {0}
NoUse (it ∷ uses) p = (is_place it.at p ≡ false) × NoUse uses p

abbrev pub UsesDiffer : List NameUse → Type 0
UsesDiffer [] = Unit {0}
UsesDiffer (it ∷ uses) = NoUse uses it.at × UsesDiffer uses

pub no_use_at : (xs ys : List NameUse) (it : NameUse) (p : Place) → NoUse (xs ++ it ∷ ys) p → is_place it.at p ≡ false
no_use_at [] ys it p h = h.0
no_use_at (x ∷ xs) ys it p h = no_use_at xs ys it p h.1

-- two places are the same whichever is asked first
other_way : (p q : Place) → is_place q p ≡ false → is_place p q ≡ true → ⊥
other_way p q e is = let same : p ≡ q = place_is p q is in
    let itself : is_place q p ≡ true = subst (λ (r : Place). is_place q r ≡ true) (sym same) (place_itself q) in
    absurd cc

use_where : (b : Bool) (x y z : Use) → (b ≡ true → ⊥) → y ≡ z → (if b then x else y) ≡ z
use_where true x y z g h = absurd (g refl)
use_where false x y z g h = h

-- among uses at different places, each is the one found at its place
pub use_there : (xs ys : List NameUse) (it : NameUse) → UsesDiffer (xs ++ it ∷ ys)
    → use_at (xs ++ it ∷ ys) it.at ≡ it.use_of
use_there [] ys it h = ap (λ (b : Bool). if b then it.use_of else use_at ys it.at) (place_itself it.at)
use_there (x ∷ xs) ys it h = use_where (is_place x.at it.at) x.use_of _ it.use_of
    (λ e. other_way x.at it.at (no_use_at xs ys it x.at h.0) e) (use_there xs ys it h.1)

type_where : (b : Bool) (x : CType) (o : Option CType) → (t : CType) × (o ≡ Some t) →
    (t : CType) × ((if b then Some x else o) ≡ Some t)
type_where true x o h = (x, refl)
type_where false x o h = h

-- a type that was named has its entry where more come behind
pub type_there : (xs ys : List TypeNamed) (it : TypeNamed)
    → (t : CType) × (type_named_at (xs ++ it ∷ ys) it.at ≡ Some t)
type_there [] ys it =
    (it.type, ap (λ (b : Bool). if b then Some it.type else type_named_at ys it.at) (place_itself it.at))
type_there (x ∷ xs) ys it = type_where (is_place x.at it.at) x.type _ (type_there xs ys it)

-- an abstract declarator has no name

mutual
  nameless : (all : List Lexeme) (d : Declr) → IsDeclr all d → is_named d ≡ false → declared_name d ≡ None
  nameless all (pointer star words d) h e = absurd cc
  nameless all (declr_name token name) h e = absurd cc
  nameless all (declr_paren opening attrs d closing) h e = absurd cc
  nameless all (array d opening words size closing) h e = absurd cc
  nameless all (params d opening ps dots closing) h e = absurd cc
  nameless all (identifiers d opening names closing) h e = absurd cc
  nameless all (base_name token) h e = absurd cc
  nameless all (abs_pointer star words d) h e = some_nameless all d h.1
  nameless all (abs_paren opening attrs d closing) h e = nameless all d h.1 h.2
  nameless all (abs_array d opening words size closing) h e = direct_nameless all d h.0
  nameless all (abs_params d opening ps dots closing) h e = direct_nameless all d h.0

  pub some_nameless : (all : List Lexeme) (d : SomeDeclr) → IsSomeAbstract all d → some_declared_name d ≡ None
  some_nameless all no_declr h = refl
  some_nameless all (some_declr d) h = nameless all d h.0 h.1

  direct_nameless : (all : List Lexeme) (d : SomeDeclr) → IsSomeDirect all d → some_declared_name d ≡ None
  direct_nameless all no_declr h = refl
  direct_nameless all (some_declr d) h = nameless all d h.0 h.1

-- a function's declarator has a name

-- names that have skeletons
abbrev pub Has : Having → Type 0
Has with_skeleton = Unit {0}
Has (of_function f) = Unit {0}
Has without_skeleton = ⊥

abbrev pub OwnOk : Option Place → Having → Type 0
OwnOk None g = Unit {0}
OwnOk (Some p) g = Has g

abbrev pub is_own : Option Place → Bool
is_own None = false
is_own (Some p) = true

pub own_has : (o : Option Place) (h : Having) → OwnOk o h → is_own o ≡ true → Has h
own_has None h ok e = absurd cc
own_has (Some p) h ok e = ok

pub keeps : (o : Option Place) → (o ≡ None) ⊎ (is_own o ≡ true)
keeps None = inl refl
keeps (Some p) = inr refl

-- where own parameters need a skeleton of their function and have it, those of a bare name have it, and others need
-- none
pub where_ok : (bare : Bool) (o : Option Place) (h : Having) → OwnOk o h
    → OwnOk (own_where bare o) (having_where bare h)
where_ok true o h ok = ok
where_ok false None h ok = tt
where_ok false (Some p) h ok = tt

-- a binary operator has a level of at most 16
binary_low : (p : Punct) → ltb 16 (binary_level p + 2) ≡ false
binary_low signs.BarBar = refl
binary_low signs.AmpersandAmpersand = refl
binary_low signs.Bar = refl
binary_low signs.Caret = refl
binary_low signs.Ampersand = refl
binary_low signs.EqualEqual = refl
binary_low signs.BangEqual = refl
binary_low signs.Less = refl
binary_low signs.Greater = refl
binary_low signs.LessEqual = refl
binary_low signs.GreaterEqual = refl
binary_low signs.ShiftLeft = refl
binary_low signs.ShiftRight = refl
binary_low signs.Plus = refl
binary_low signs.Minus = refl
binary_low signs.Star = refl
binary_low signs.Slash = refl
binary_low signs.Percent = refl
binary_low p = refl

-- an expression has a level of at most 16
expr_low : (e : Expr) → ltb 16 (expr_level e) ≡ false
expr_low (operation e comma token e2) = refl
expr_low (operation e (assign p) token e2) = refl
expr_low (operation e (cond middle colon) token e2) = refl
expr_low (operation e (binary p) token e2) = binary_low p
expr_low (cast opening ws d closing e) = refl
expr_low (prefix token p e) = refl
expr_low (sizeof_value word e) = refl
expr_low (sizeof_type word opening ws d closing) = refl
expr_low (extension keyword e) = refl
expr_low (index e opening e2 closing) = refl
expr_low (call e opening es closing) = refl
expr_low (dot e token name) = refl
expr_low (arrow e token name) = refl
expr_low (post e token p) = refl
expr_low (compound opening ws d closing list) = refl
expr_low (name_use token name) = refl
expr_low (number_use token) = refl
expr_low (char_use token) = refl
expr_low (text_use texts) = refl
expr_low (paren opening e closing) = refl
expr_low (statement_expr opening opening2 items closing closing2) = refl
expr_low (va_arg keyword opening e separator ws d closing) = refl
expr_low (va_start keyword opening e separator e2 closing) = refl
expr_low (va_copy keyword opening e separator e2 closing) = refl
expr_low (offset keyword opening ws d separator name steps closing) = refl
expr_low (complex_part keyword e) = refl
expr_low (label_use token name) = refl
expr_low (compat keyword opening ws d separator ws2 d2 closing) = refl
expr_low (choose keyword opening e separator e2 separator2 e3 closing) = refl
expr_low (generic keyword opening e xs closing) = refl

low : (n m : ℕ) → n ≤ m → ltb 16 m ≡ false → ltb 16 n ≡ false
low n m h k = let top : m ≤ 16 = ltb-false 16 m k in le-ltb 16 n (omega arith)

-- a sign whose level as a prefix is at most that of its operand is a prefix operator
pub prefix_is : (p : Punct) (e : Expr) → prefix_level p ≤ expr_level e → IsPrefix p
prefix_is p e h = by p (low (prefix_level p) (expr_level e) h (expr_low e))
  where
    by : (p : Punct) → ltb 16 (prefix_level p) ≡ false → IsPrefix p
    by signs.PlusPlus h = refl
    by signs.MinusMinus h = refl
    by signs.Ampersand h = refl
    by signs.Star h = refl
    by signs.Plus h = refl
    by signs.Minus h = refl
    by signs.Tilde h = refl
    by signs.Bang h = refl
    by p h = absurd cc
