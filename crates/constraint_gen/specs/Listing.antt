-- The variables that a report lists: those of the names that a source declares.
use Rattle.std.specs.Prelude.{ℕ, zero, suc, ◌+◌, nat_eq, not, Bool, true, false, ◌&&◌, List, [], ◌∷◌, ◌++◌, slice_get, Option, Some, None, is_some, if◌then◌else◌}
use Rattle.c_words.specs.declared.kinds.TokenKind.{TokenKind}
use Rattle.c_words.specs.declared.kinds.TokenKind.TheVariants as kinds
use Rattle.c_lexer.specs.declared.token.Token.{Token}
use Rattle.c_lexer.specs.Tokens.{Lexed}
use Rattle.type_table.specs.Types.{size}
use Rattle.qual_types.specs.Positions.{PositionView}
use Rattle.name_rules.specs.Spellings.{Place}
use Rattle.name_rules.specs.Scopes.{Names, declared_at}
use Rattle.row_rules.specs.Starting.{Start}

-- whether a token is a name
abbrev pub is_name : TokenKind → Bool
is_name (kinds.Name n) = true
is_name kind = false

-- whether there is a token, and it is a name
abbrev pub is_name_token : Option Token → Bool
is_name_token None = false
is_name_token (Some token) = is_name token.kind

-- the token at a place of one of some units is a name
abbrev pub is_name_at : List Lexed → Place → Bool
is_name_at [] p = false
is_name_at (lexed ∷ units) p =
    if nat_eq lexed.unit p.0 then is_name_token (slice_get lexed.tokens p.1) else is_name_at units p

-- the unit of a place is no prelude
abbrev pub is_of_source : Place → Bool
is_of_source p = not (nat_eq p.0 0)

-- a source declares a name there
abbrev pub is_listed : List Lexed → Names → Place → Bool
is_listed units s p = is_of_source p && (is_name_at units p && is_some (declared_at s.declared p))

-- the variables that stand at such places, by where each of them stands, the first of them with this number
abbrev pub listed_at : (Place → Bool) → ℕ → List PositionView → List ℕ
listed_at is v [] = []
listed_at is v (p ∷ positions) =
    if is (p.unit, p.token) then v ∷ listed_at is (suc v) positions else listed_at is (suc v) positions

-- the same by skeletons, which stand one behind the other

-- so many numbers, from n on
abbrev pub numbers : ℕ → ℕ → List ℕ
numbers zero n = []
numbers (suc count) n = n ∷ numbers count (suc n)

-- the variables of the skeletons that begin at such places, the first variable of all having the number n
abbrev pub listed_from : (Place → Bool) → ℕ → List Start → List ℕ
listed_from is n [] = []
listed_from is n (start ∷ starts) =
    (if is start.at then numbers (size start.type) n else []) ++ listed_from is (n + size start.type) starts
