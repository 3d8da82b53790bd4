-- The loops of readers: each turn that goes on takes a token, so that as many turns as there are tokens are enough.
use Rattle.std.specs.Prelude.{◌≡◌, ℕ, ◌<◌, Bool, not, List, length, Some, Ok}
use Rattle.c_words.specs.declared.kinds.TokenKind.{TokenKind}
use Rattle.c_tree.specs.declared.lexeme.Lexeme.{Lexeme}
use Rattle.c_units.specs.HeldScopes.{HeldScopes}
use Rattle.typedef_scope.specs.declared.kind.Kind.{Kind}
use Rattle.c_reading.specs.declared.kinds.Reach.{Reach}
use Rattle.c_reading.specs.declared.kinds.Role.{Role}
use Rattle.c_reading.specs.Reading.{Found, Turn, comma_turn, repeated_turn}
use Rattle.c_reading.specs.Tokens.{is_open_brace, is_close_brace, is_label_word, is_end}
use Rattle.c_reading.specs.Expressing.{begins_desig, next_argument, next_assoc, postfix_turn, step_with, operation_turn}
use Rattle.c_reading.specs.Specifying.{next_member, struct_item_with, next_enumerator, word_turn}
use Rattle.c_reading.specs.Declaring.{next_param, suffix_turn}
use Rattle.c_reading.specs.Initialising.{desig_with, next_init_item}
use Rattle.c_reading.specs.Stating.{next_init_declr, block_item_with, labels_with}
use Rattle.c_reading.specs.Items.{item_with, old_declaration}
use Rattle.c_reading.specs.Knot.{knot}

-- a turn that goes on leaves fewer tokens than it began with
abbrev pub TakesToken : {S : Type 0} → Turn S → Type 0
TakesToken {S} turn =
    (a : S) (s : HeldScopes) (ts : List Lexeme) (x : Found S) → turn a s ts ≡ Some (Ok x) → length x.rest < length ts

-- the items of a body or block go on: any token but `}`
abbrev pub no_close_brace : TokenKind → Bool
no_close_brace kind = not (is_close_brace kind)

-- the declarations before a function's body go on: any token but `{`
abbrev pub no_open_brace : TokenKind → Bool
no_open_brace kind = not (is_open_brace kind)

-- the items of a unit go on: any token but its end
abbrev pub no_end : TokenKind → Bool
no_end kind = not (is_end kind)

-- the loops of the readers of a number
pub record TurnsTakeTokens (n : ℕ) : Type 0 where
  pub arguments : (room : ℕ) → TakesToken (comma_turn (next_argument (knot n) room))
  pub associations : (room : ℕ) → TakesToken (comma_turn (next_assoc (knot n) room))
  pub postfixes : (room : ℕ) → TakesToken (postfix_turn (knot n) room)
  pub steps : (room : ℕ) → TakesToken (repeated_turn begins_desig (step_with (knot n) room))
  pub operations : (reach : Reach) (room : ℕ) → TakesToken (operation_turn (knot n) reach room)
  pub words : (role : Role) (room : ℕ) → TakesToken (word_turn (knot n) role room)
  pub members : (room : ℕ) → TakesToken (comma_turn (next_member (knot n) room))
  pub struct_items : (room : ℕ) → TakesToken (repeated_turn no_close_brace (struct_item_with (knot n) room))
  pub enumerators : (room : ℕ) → TakesToken (comma_turn (next_enumerator (knot n) room))
  pub params : (room : ℕ) → TakesToken (comma_turn (next_param (knot n) room))
  pub suffixes : (flag : Bool) (room : ℕ) → TakesToken (suffix_turn (knot n) flag room)
  pub desigs : (room : ℕ) → TakesToken (repeated_turn begins_desig (desig_with (knot n) room))
  pub init_items : (room : ℕ) → TakesToken (comma_turn (next_init_item (knot n) room))
  pub declrs : (kind : Kind) (room : ℕ) → TakesToken (comma_turn (next_init_declr (knot n) kind room))
  pub block_items : (room : ℕ) → TakesToken (repeated_turn no_close_brace (block_item_with (knot n) room))
  pub labels : (room : ℕ) → TakesToken (repeated_turn is_label_word (labels_with (knot n) room))
  pub old_declarations : (room : ℕ) → TakesToken (repeated_turn no_open_brace (old_declaration (knot n) room))
  pub items : (room : ℕ) → TakesToken (repeated_turn no_end (item_with (knot n) room))
