-- Groups of tokens in which brackets match.
use Rattle.std.specs.Prelude.{◌≡◌, Bool, true, false, List, [], ◌∷◌, ◌++◌}
use Rattle.c_words.specs.declared.kinds.Punct.TheVariants.{OpenParen, CloseParen, OpenBracket, CloseBracket, OpenBrace, CloseBrace}
use Rattle.c_words.specs.declared.kinds.TokenKind.{TokenKind}
use Rattle.c_words.specs.declared.kinds.TokenKind.TheVariants as kinds
use Rattle.c_tree.specs.declared.lexeme.Lexeme.{Lexeme}
use Rattle.c_syntax.specs.declared.parts.Group.{Group}
use Rattle.c_tree.specs.Text.{tokens_between}

-- whether a token is no bracket, and not the end of the unit
abbrev pub is_inner : TokenKind → Bool
is_inner (kinds.Punct OpenParen) = false
is_inner (kinds.Punct CloseParen) = false
is_inner (kinds.Punct OpenBracket) = false
is_inner (kinds.Punct CloseBracket) = false
is_inner (kinds.Punct OpenBrace) = false
is_inner (kinds.Punct CloseBrace) = false
is_inner kinds.End = false
is_inner _ = true

-- whether two tokens are an opening bracket and the closing one of the same kind
abbrev pub are_brackets : TokenKind → TokenKind → Bool
are_brackets (kinds.Punct OpenParen) (kinds.Punct CloseParen) = true
are_brackets (kinds.Punct OpenBracket) (kinds.Punct CloseBracket) = true
are_brackets (kinds.Punct OpenBrace) (kinds.Punct CloseBrace) = true
are_brackets _ _ = false

-- tokens in which each bracket has its match of the same kind, and brackets nest
pub data IsBalanced : List Lexeme → Type 0 where
  nothing : IsBalanced []
  inner : (t : Lexeme) (k : List Lexeme) → is_inner t.kind ≡ true → IsBalanced k → IsBalanced (t ∷ k)
  bracketed : (opening closing : Lexeme) (inside k : List Lexeme) → are_brackets opening.kind closing.kind ≡ true
      → IsBalanced inside → IsBalanced k → IsBalanced (opening ∷ (inside ++ closing ∷ k))

-- a group of the unit, from a parenthesis to its own
pub record IsGroup (all : List Lexeme) (g : Group) : Type 0 where
  pub inside : List Lexeme
  pub tokens : tokens_between all g.first g.last ≡ record { kind = kinds.Punct OpenParen; at = g.first }
      ∷ (inside ++ record { kind = kinds.Punct CloseParen; at = g.last } ∷ [])
  pub balanced : IsBalanced inside
