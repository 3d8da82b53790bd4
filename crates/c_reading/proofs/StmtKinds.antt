-- What the first tokens of expressions and specifiers say of statements and of items of blocks.
use Rattle.std.proofs.Common.{◌≡◌, ℕ, ◌≤◌, true, false, List, [], ◌∷◌, ◌++◌, Some, inl, inr, refl, sym, ◌∙◌, ap, subst, arith}
use Rattle.std.specs.Prelude.{◌⊎◌, Any, IsPermutation}
use Rattle.c_words.specs.declared.kinds.TokenKind.{TokenKind}
use Rattle.c_words.specs.declared.kinds.TokenKind.TheVariants as kinds
use Rattle.c_words.specs.declared.kinds.Punct.{Punct}
use Rattle.c_words.specs.declared.kinds.Punct.TheVariants as puncts
use Rattle.c_words.specs.declared.kinds.Keyword.{Keyword}
use Rattle.c_words.specs.declared.kinds.Keyword.TheVariants as keywords
use Rattle.c_tree.specs.declared.lexeme.Lexeme.{Lexeme}
use Rattle.c_syntax.specs.declared.parts.Attr.{Attr}
use Rattle.c_syntax.specs.declared.parts.Qual.TheVariants as quals
use Rattle.c_tree.specs.Tree.{Expr, operation, cast, prefix, sizeof_value, sizeof_type, extension, index, call, dot, arrow, post, name_use, text_use, Operator, comma, assign, cond, binary, SpecWords, no_words, more_words, SpecWord, qualifier, enum_type, attribute, enum_of}
use Rattle.c_tree.specs.Text.{sign_text, keyword_text, extensions_text, attrs_text, attr_text, expr_text, operator_text, spec_words_text, spec_word_text}
use Rattle.c_tree.specs.Height.{expr_height}
use Rattle.c_tree.specs.Levels.{IsOperator, expr_level, operator_level}
use Rattle.c_tree.specs.Specifiers.{IsMix, type_count, type_words, basic_types}
use Rattle.c_tree.specs.WellFormed.{IsExpr, AreSpecWords, IsSpecWord, is_sizeof, is_postfix, IsElementKind}
use Rattle.c_tree.proofs.NoType.{no_type_of_none}
use Rattle.c_ops.proofs.Levels.{level_most}
use Rattle.c_specs.specs.Reading.{append_words}
use Rattle.c_units.specs.HeldScopes.{HeldScopes}
use Rattle.c_units.specs.Scoping.{behind, expr_scopes, operator_scopes, spec_words_scopes}
use Rattle.c_reading.specs.declared.kinds.StmtStart.TheVariants as starts
use Rattle.c_reading.specs.Reading.{kind_at, behind_first, IsNumbered}
use Rattle.c_reading.specs.Tokens.{is_colon, is_extension, spelled_name}
use Rattle.c_reading.specs.Declaring.{words_of_attrs}
use Rattle.c_reading.specs.Expressing.{begins_expr}
use Rattle.c_reading.specs.Stating.{stmt_start}
use Rattle.c_reading.proofs.Forms.{behind_ok}
use Rattle.c_reading.proofs.Tails.{element_spelled}
use Rattle.c_reading.proofs.Aims.{least_with, exts_begin, behind_exts, FirstLaws}
use Rattle.c_reading.proofs.SpecsCompleteBodies.{expr_high}

-- a statement that begins as an expression does
pub expr_starts : (s : HeldScopes) (kind : TokenKind) → begins_expr s kind ≡ true
    → (stmt_start kind ≡ starts.Value) ⊎ ((name : ℕ) × (kind ≡ kinds.Name name))
expr_starts s (kinds.Name name) e = inr (name, refl)
expr_starts s (kinds.Punct puncts.OpenBrace) e = absurd cc
expr_starts s (kinds.Punct puncts.Semicolon) e = absurd cc
expr_starts s (kinds.Punct p) e = inl refl
expr_starts s (kinds.Keyword keywords.Attribute) e = absurd cc
expr_starts s (kinds.Keyword keywords.Case) e = absurd cc
expr_starts s (kinds.Keyword keywords.Default) e = absurd cc
expr_starts s (kinds.Keyword keywords.If) e = absurd cc
expr_starts s (kinds.Keyword keywords.Switch) e = absurd cc
expr_starts s (kinds.Keyword keywords.While) e = absurd cc
expr_starts s (kinds.Keyword keywords.Do) e = absurd cc
expr_starts s (kinds.Keyword keywords.For) e = absurd cc
expr_starts s (kinds.Keyword keywords.Goto) e = absurd cc
expr_starts s (kinds.Keyword keywords.Continue) e = absurd cc
expr_starts s (kinds.Keyword keywords.Break) e = absurd cc
expr_starts s (kinds.Keyword keywords.Return) e = absurd cc
expr_starts s (kinds.Keyword keywords.Asm) e = absurd cc
expr_starts s (kinds.Keyword keyword) e = inl refl
expr_starts s kind e = inl refl

-- what stands between two operands, and behind one, is no colon
operator_no_colon : (p : Punct) → IsOperator (binary p) → is_colon (kinds.Punct p) ≡ false
operator_no_colon puncts.Colon h = absurd (omega (arith, h))
operator_no_colon p h = refl

assign_no_colon : (p : Punct) → IsOperator (assign p) → is_colon (kinds.Punct p) ≡ false
assign_no_colon puncts.Colon h = absurd cc
assign_no_colon p h = refl

postfix_no_colon : (p : Punct) → is_postfix p ≡ true → is_colon (kinds.Punct p) ≡ false
postfix_no_colon puncts.Colon h = absurd cc
postfix_no_colon p h = refl

sizeof_no_ext : (keyword : Keyword) → is_sizeof keyword ≡ true → is_extension (kinds.Keyword keyword) ≡ false
sizeof_no_ext keywords.Extension e = absurd cc
sizeof_no_ext keyword e = refl

-- `__extension__` that an expression begins with
abbrev pub lead_exts : Expr → List ℕ
lead_exts (operation e op token e2) = lead_exts e
lead_exts (extension keyword e) = keyword ∷ lead_exts e
lead_exts e = []

-- an expression begins with the `__extension__` keywords that lead it
pub lead_begin : (e : Expr) → exts_begin (lead_exts e) e
lead_begin (operation e op token e2) = lead_begin e
lead_begin (extension keyword e) = (refl, lead_begin e)
lead_begin e = tt

-- an expression is at least as high as those that lead it ask for
pub lead_low : (e : Expr) → least_with (lead_exts e) ≤ expr_height e
lead_low (operation e op token e2) =
    let rest : least_with (lead_exts e) ≤ expr_height e = lead_low e in
    omega (arith, rest)
lead_low (extension keyword e) = let some : 1 ≤ expr_height e = expr_high e in omega (arith, some)
lead_low e = omega arith

module _ (all : List Lexeme) where
  operator_next : (op : Operator) (token : ℕ) (k : List Lexeme) → IsOperator op
      → is_colon (kind_at (operator_text all op token k)) ≡ false
  operator_next comma token k h = refl
  operator_next (assign p) token k h = assign_no_colon p h
  operator_next (cond e colon) token k h = refl
  operator_next (binary p) token k h = operator_no_colon p h

  -- behind a name that an expression begins with stands no colon
  pub name_no_colon : (e : Expr) (name : ℕ) (k : List Lexeme) → IsExpr all e → is_colon (kind_at k) ≡ false
      → spelled_name (kind_at (expr_text all e k)) ≡ Some name
      → is_colon (kind_at (behind_first (expr_text all e k))) ≡ false
  name_no_colon (operation e op token e2) name k h c is =
      name_no_colon e name (operator_text all op token (expr_text all e2 k)) h.0
      (operator_next op token (expr_text all e2 k) h.2) is
  name_no_colon (index e opening e2 closing) name k h c is = name_no_colon e name _ h.0 refl is
  name_no_colon (call e opening es closing) name k h c is = name_no_colon e name _ h.0 refl is
  name_no_colon (dot e token member) name k h c is = name_no_colon e name _ h.0 refl is
  name_no_colon (arrow e token member) name k h c is = name_no_colon e name _ h.0 refl is
  name_no_colon (post e token p) name k h c is =
      name_no_colon e name (sign_text p token k) h.0 (postfix_no_colon p h.1) is
  name_no_colon (name_use token other) name k h c is = c
  name_no_colon (text_use []) name k h c is = absurd (h refl)
  name_no_colon (text_use (t ∷ ts)) name k h c is = absurd cc
  name_no_colon e name k h c is = absurd cc

  -- the text of an expression, from what it begins with on
  pub lead_text : (e : Expr) (k : List Lexeme)
      → expr_text all e k ≡ extensions_text (lead_exts e) (behind_exts all (lead_exts e) e k)
  lead_text (operation e op token e2) k = lead_text e (operator_text all op token (expr_text all e2 k))
  lead_text (extension keyword e) k = ap (keyword_text keywords.Extension keyword) (lead_text e k)
  lead_text e k = refl

  operation_low : (op : Operator) → 13 ≤ operator_level op → ⊥
  operation_low op h = let most = level_most op in omega (arith, most, h)

  -- a primary expression with its postfix forms begins with no `__extension__`
  primary_no_ext : (e : Expr) (k : List Lexeme) → IsExpr all e → 15 ≤ expr_level e
      → is_extension (kind_at (expr_text all e k)) ≡ false
  primary_no_ext (operation e op token e2) k h l = absurd (operation_low op (omega (arith, l)))
  primary_no_ext (cast opening ws d closing e) k h l = refl
  primary_no_ext (prefix token p e) k h l = refl
  primary_no_ext (sizeof_value word e) k h l = sizeof_no_ext word.keyword h.1
  primary_no_ext (sizeof_type word opening ws d closing) k h l = sizeof_no_ext word.keyword h.3
  primary_no_ext (extension keyword e) k h l = absurd (omega (arith, l))
  primary_no_ext (index e opening e2 closing) k h l = primary_no_ext e _ h.0 h.2
  primary_no_ext (call e opening es closing) k h l = primary_no_ext e _ h.0 h.2
  primary_no_ext (dot e token name) k h l = primary_no_ext e _ h.0 h.1
  primary_no_ext (arrow e token name) k h l = primary_no_ext e _ h.0 h.1
  primary_no_ext (post e token p) k h l = primary_no_ext e _ h.0 h.2
  primary_no_ext (text_use []) k h l = absurd (h refl)
  primary_no_ext (text_use (t ∷ ts)) k h l = refl
  primary_no_ext e k h l = refl

  -- behind what it begins with stands no more of that
  pub lead_ends : (e : Expr) (k : List Lexeme) → IsExpr all e
      → is_extension (kind_at (behind_exts all (lead_exts e) e k)) ≡ false
  lead_ends (operation e op token e2) k h = lead_ends e (operator_text all op token (expr_text all e2 k)) h.0
  lead_ends (extension keyword e) k h = lead_ends e k h.0
  lead_ends (sizeof_value word e) k h = sizeof_no_ext word.keyword h.1
  lead_ends (sizeof_type word opening ws d closing) k h = sizeof_no_ext word.keyword h.3
  lead_ends (index e opening e2 closing) k h = primary_no_ext e _ h.0 h.2
  lead_ends (call e opening es closing) k h = primary_no_ext e _ h.0 h.2
  lead_ends (dot e token name) k h = primary_no_ext e _ h.0 h.1
  lead_ends (arrow e token name) k h = primary_no_ext e _ h.0 h.1
  lead_ends (post e token p) k h = primary_no_ext e _ h.0 h.2
  lead_ends (text_use []) k h = absurd (h refl)
  lead_ends (text_use (t ∷ ts)) k h = refl
  lead_ends e k h = refl

  module _ (firsts : FirstLaws all) where
    pub lead_begins : (e : Expr) (s s' : HeldScopes) (k : List Lexeme) → IsExpr all e → expr_scopes e s ≡ Some s'
        → begins_expr s (kind_at (behind_exts all (lead_exts e) e k)) ≡ true
    lead_begins (operation e op token e2) s s' k h named =
        let a = behind_ok (behind (expr_scopes e s) (operator_scopes op)) (expr_scopes e2) s' named in
        let b = behind_ok (expr_scopes e s) (operator_scopes op) a.0 a.1 in
        lead_begins e s b.0 (operator_text all op token (expr_text all e2 k)) h.0 b.1
    lead_begins (extension keyword e) s s' k h named = lead_begins e s s' k h.0 named
    lead_begins e s s' k h named = firsts.expr_begins e s s' k h named

    -- an expression, split behind what it begins with
    pub record IsLead (e : Expr) (s : HeldScopes) (k : List Lexeme) (exts : List ℕ) : Type 0 where
      pub same : expr_text all e k ≡ extensions_text exts (behind_exts all exts e k)
      pub begins : begins_expr s (kind_at (behind_exts all exts e k)) ≡ true
      pub ended : is_extension (kind_at (behind_exts all exts e k)) ≡ false
      pub begun : exts_begin exts e
      pub low : least_with exts ≤ expr_height e

    pub lead_of : (e : Expr) (s s' : HeldScopes) (k : List Lexeme) → IsExpr all e → expr_scopes e s ≡ Some s'
        → IsLead e s k (lead_exts e)
    lead_of e s s' k h named = record {
      same = lead_text e k;
      begins = lead_begins e s s' k h named;
      ended = lead_ends e k h;
      begun = lead_begin e;
      low = lead_low e;
    }

-- attributes that words begin with, and the words behind them
abbrev pub lead_attrs : SpecWords → List Attr
lead_attrs (more_words (attribute a) ws) = a ∷ lead_attrs ws
lead_attrs ws = []

abbrev pub lead_words : SpecWords → SpecWords
lead_words (more_words (attribute a) ws) = lead_words ws
lead_words ws = ws

-- the attributes that lead words, followed by the rest, are the words
pub lead_is : (ws : SpecWords) → append_words (words_of_attrs (lead_attrs ws)) (lead_words ws) ≡ ws
lead_is no_words = refl
lead_is (more_words (attribute a) ws) = ap (more_words (attribute a)) (lead_is ws)
lead_is (more_words w ws) = refl

-- words are spelled as the attributes that lead them, then the rest
pub lead_words_text : (all : List Lexeme) (ws : SpecWords) (k : List Lexeme)
    → spec_words_text all ws k ≡ attrs_text all (lead_attrs ws) (spec_words_text all (lead_words ws) k)
lead_words_text all no_words k = refl
lead_words_text all (more_words (attribute a) ws) k = ap (attr_text all a) (lead_words_text all ws k)
lead_words_text all (more_words w ws) k = refl

-- the rest of well-formed words behind their leading attributes is well formed
pub lead_words_fit : (all : List Lexeme) (ws : SpecWords) → AreSpecWords all ws → AreSpecWords all (lead_words ws)
lead_words_fit all no_words h = h
lead_words_fit all (more_words (attribute a) ws) h = lead_words_fit all ws h.1
lead_words_fit all (more_words w ws) h = h

-- words give the scopes that they give without their leading attributes
pub lead_words_named : (ws : SpecWords) (s : HeldScopes) → spec_words_scopes (lead_words ws) s ≡ spec_words_scopes ws s
lead_words_named no_words s = refl
lead_words_named (more_words (attribute a) ws) s = lead_words_named ws s
lead_words_named (more_words w ws) s = refl

-- attributes alone are no mix
attrs_no_type : (attrs : List Attr) → (type_count (words_of_attrs attrs) ≡ 0) × (type_words (words_of_attrs attrs) ≡ [])
attrs_no_type [] = (refl, refl)
attrs_no_type (a ∷ attrs) = attrs_no_type attrs

pub attrs_no_mix : (attrs : List Attr) → IsMix (words_of_attrs attrs) → ⊥
attrs_no_mix attrs (inl one, stores) =
    no_type_of_none (subst (λ (ws : List Keyword). Any (IsPermutation ws) basic_types) (attrs_no_type attrs).1 one.1)
attrs_no_mix attrs (inr one, stores) =
    let zero_is_one : 0 ≡ 1 = sym (attrs_no_type attrs).0 ∙ one.0 in
    omega (arith, zero_is_one)

-- the first token of a word is no colon
element_no_colon : (kind : TokenKind) → IsElementKind kind → is_colon kind ≡ false
element_no_colon (kinds.Punct puncts.Colon) h = absurd h
element_no_colon kind h = refl

-- no well-formed specifier begins with a colon
pub word_no_colon : (all : List Lexeme) → IsNumbered all → (w : SpecWord) (k : List Lexeme) → IsSpecWord all w
    → is_colon (kind_at (spec_word_text all w k)) ≡ false
word_no_colon all numbered (qualifier (quals.Element token)) k h =
    let e = element_spelled all numbered token h.0 in
    ap (λ (ts : List Lexeme). is_colon (kind_at (ts ++ k))) e.1 ∙ element_no_colon e.0.kind e.3
word_no_colon all numbered (qualifier (quals.Word w)) k h = refl
word_no_colon all numbered (qualifier (quals.Index token)) k h = refl
word_no_colon all numbered (enum_type (enum_of keyword attrs tag body)) k h = refl
word_no_colon all numbered w k h = refl

-- only a name begins a statement as a name does
pub start_name : (kind : TokenKind) (name : ℕ) → stmt_start kind ≡ starts.Name name → kind ≡ kinds.Name name
start_name (kinds.Name n) name e = cc
start_name (kinds.Punct puncts.OpenBrace) name e = absurd cc
start_name (kinds.Punct puncts.Semicolon) name e = absurd cc
start_name (kinds.Punct p) name e = absurd cc
start_name (kinds.Keyword keywords.Attribute) name e = absurd cc
start_name (kinds.Keyword keywords.Case) name e = absurd cc
start_name (kinds.Keyword keywords.Default) name e = absurd cc
start_name (kinds.Keyword keywords.If) name e = absurd cc
start_name (kinds.Keyword keywords.Switch) name e = absurd cc
start_name (kinds.Keyword keywords.While) name e = absurd cc
start_name (kinds.Keyword keywords.Do) name e = absurd cc
start_name (kinds.Keyword keywords.For) name e = absurd cc
start_name (kinds.Keyword keywords.Goto) name e = absurd cc
start_name (kinds.Keyword keywords.Continue) name e = absurd cc
start_name (kinds.Keyword keywords.Break) name e = absurd cc
start_name (kinds.Keyword keywords.Return) name e = absurd cc
start_name (kinds.Keyword keywords.Asm) name e = absurd cc
start_name (kinds.Keyword keyword) name e = absurd cc
start_name kind name e = absurd cc
