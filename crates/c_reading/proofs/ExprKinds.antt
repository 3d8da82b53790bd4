-- What a token is that opens an operand, stands behind one, or stands between two.
use Rattle.std.proofs.Common.{◌≡◌, ℕ, zero, suc, ◌≤◌, Bool, true, false, refl, arith}
use Rattle.std.specs.Prelude.{if◌then◌else◌}
use Rattle.c_words.specs.declared.kinds.TokenKind.{TokenKind}
use Rattle.c_words.specs.declared.kinds.TokenKind.TheVariants as kinds
use Rattle.c_words.specs.declared.kinds.Punct.{Punct}
use Rattle.c_words.specs.declared.kinds.Punct.TheVariants as puncts
use Rattle.c_words.specs.declared.kinds.Keyword.TheVariants as keywords
use Rattle.c_tree.specs.Levels.{binary_level, is_assignment}
use Rattle.c_tree.specs.WellFormed.{prefix_level, is_postfix, is_sizeof}
use Rattle.c_reading.specs.declared.kinds.Opening.{Opening}
use Rattle.c_reading.specs.declared.kinds.Opening.TheVariants as openings
use Rattle.c_reading.specs.declared.kinds.PostfixForm.{PostfixForm}
use Rattle.c_reading.specs.declared.kinds.PostfixForm.TheVariants as forms
use Rattle.c_reading.specs.declared.kinds.Infix.{Infix}
use Rattle.c_reading.specs.declared.kinds.Infix.TheVariants as infixes
use Rattle.c_reading.specs.Expressing.{opening_of, form_of, infix_of, binary_or_nothing}
use Rattle.c_reading.proofs.Aims.{reach_level}

-- the token of a postfix form is the one that it is named by
abbrev pub IsForm : PostfixForm → TokenKind → Type 0
IsForm forms.Index kind = kind ≡ kinds.Punct puncts.OpenBracket
IsForm forms.Call kind = kind ≡ kinds.Punct puncts.OpenParen
IsForm forms.Dot kind = kind ≡ kinds.Punct puncts.Dot
IsForm forms.Arrow kind = kind ≡ kinds.Punct puncts.Arrow
IsForm (forms.Post p) kind = (kind ≡ kinds.Punct p) × (is_postfix p ≡ true)
IsForm forms.Nothing kind = Unit {0}

-- a token is the sign of the postfix form that it is taken for
pub form_is : (kind : TokenKind) → IsForm (form_of kind) kind
form_is (kinds.Punct puncts.OpenBracket) = refl
form_is (kinds.Punct puncts.OpenParen) = refl
form_is (kinds.Punct puncts.Dot) = refl
form_is (kinds.Punct puncts.Arrow) = refl
form_is (kinds.Punct puncts.PlusPlus) = (refl, refl)
form_is (kinds.Punct puncts.MinusMinus) = (refl, refl)
form_is kind = tt

-- the token that opens an operand is the one that the opening is named by
abbrev pub IsOpening : Opening → TokenKind → Type 0
IsOpening (openings.Prefix p reach) kind = (kind ≡ kinds.Punct p) × (prefix_level p ≡ reach_level reach)
IsOpening (openings.Sizeof keyword) kind = (kind ≡ kinds.Keyword keyword) × (is_sizeof keyword ≡ true)
IsOpening openings.Extension kind = kind ≡ kinds.Keyword keywords.Extension
IsOpening (openings.Name name) kind = kind ≡ kinds.Name name
IsOpening openings.Number kind = kind ≡ kinds.Number
IsOpening openings.Char kind = kind ≡ kinds.Char
IsOpening openings.Text kind = kind ≡ kinds.Text
IsOpening openings.Paren kind = kind ≡ kinds.Punct puncts.OpenParen
IsOpening openings.VaArg kind = kind ≡ kinds.Keyword keywords.VaArg
IsOpening openings.VaStart kind = kind ≡ kinds.Keyword keywords.VaStart
IsOpening openings.VaCopy kind = kind ≡ kinds.Keyword keywords.VaCopy
IsOpening openings.Offset kind = kind ≡ kinds.Keyword keywords.Offsetof
IsOpening openings.Part kind = kind ≡ kinds.Keyword keywords.Part
IsOpening openings.Label kind = kind ≡ kinds.Punct puncts.AmpersandAmpersand
IsOpening openings.Compat kind = kind ≡ kinds.Keyword keywords.Compatible
IsOpening openings.Choose kind = kind ≡ kinds.Keyword keywords.Choose
IsOpening openings.Generic kind = kind ≡ kinds.Keyword keywords.Generic
IsOpening openings.Nothing kind = Unit {0}

-- a token is the sign of the opening that it is taken for
pub opening_is : (kind : TokenKind) → IsOpening (opening_of kind) kind
opening_is (kinds.Punct puncts.OpenParen) = refl
opening_is (kinds.Punct puncts.PlusPlus) = (refl, refl)
opening_is (kinds.Punct puncts.MinusMinus) = (refl, refl)
opening_is (kinds.Punct puncts.Ampersand) = (refl, refl)
opening_is (kinds.Punct puncts.Star) = (refl, refl)
opening_is (kinds.Punct puncts.Plus) = (refl, refl)
opening_is (kinds.Punct puncts.Minus) = (refl, refl)
opening_is (kinds.Punct puncts.Tilde) = (refl, refl)
opening_is (kinds.Punct puncts.Bang) = (refl, refl)
opening_is (kinds.Keyword keywords.Sizeof) = (refl, refl)
opening_is (kinds.Keyword keywords.Alignof) = (refl, refl)
opening_is (kinds.Keyword keywords.Extension) = refl
opening_is (kinds.Keyword keywords.VaArg) = refl
opening_is (kinds.Keyword keywords.VaStart) = refl
opening_is (kinds.Keyword keywords.VaCopy) = refl
opening_is (kinds.Keyword keywords.Offsetof) = refl
opening_is (kinds.Punct puncts.AmpersandAmpersand) = refl
opening_is (kinds.Keyword keywords.Part) = refl
opening_is (kinds.Keyword keywords.Compatible) = refl
opening_is (kinds.Keyword keywords.Choose) = refl
opening_is (kinds.Keyword keywords.Generic) = refl
opening_is (kinds.Name name) = refl
opening_is kinds.Number = refl
opening_is kinds.Char = refl
opening_is kinds.Text = refl
opening_is kind = tt

-- the token between two operands is the one that the infix is named by
abbrev pub IsInfix : Infix → TokenKind → Type 0
IsInfix infixes.Comma kind = kind ≡ kinds.Punct puncts.Comma
IsInfix (infixes.Assign p) kind = (kind ≡ kinds.Punct p) × (is_assignment p ≡ true)
IsInfix infixes.Question kind = kind ≡ kinds.Punct puncts.Question
IsInfix (infixes.Binary p) kind = (kind ≡ kinds.Punct p) × (1 ≤ binary_level p)
IsInfix infixes.Nothing kind = Unit {0}

-- a punctuator that is no comma or `?` is an assignment, a binary operator of level 1 at least, or nothing
infix_punct : (p : Punct)
    → IsInfix (if is_assignment p then infixes.Assign p else binary_or_nothing p (binary_level p)) (kinds.Punct p)
infix_punct p = by_assign (is_assignment p) refl
  where
    by_level : (n : ℕ) → binary_level p ≡ n → IsInfix (binary_or_nothing p n) (kinds.Punct p)
    by_level zero is = tt
    by_level (suc n) is = (refl, omega (arith, is))

    by_assign : (b : Bool) → is_assignment p ≡ b
        → IsInfix (if b then infixes.Assign p else binary_or_nothing p (binary_level p)) (kinds.Punct p)
    by_assign true is = (refl, is)
    by_assign false is = by_level (binary_level p) refl

-- a token is the sign of the infix that it is taken for
pub infix_is : (kind : TokenKind) → IsInfix (infix_of kind) kind
infix_is (kinds.Punct puncts.Comma) = refl
infix_is (kinds.Punct puncts.Question) = refl
infix_is (kinds.Punct p) = infix_punct p
infix_is kind = tt
