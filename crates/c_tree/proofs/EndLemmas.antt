-- The tokens of an expression begin with its first.
use Rattle.std.proofs.Common.{◌≡◌, List, [], ◌∷◌, Some, refl}
use Rattle.c_tree.specs.declared.lexeme.Lexeme.{Lexeme}
use Rattle.c_tree.specs.Tree.{Expr, operation, index, call, dot, arrow, post, text_use}
use Rattle.c_tree.specs.Text.{expr_text}
use Rattle.c_tree.specs.WellFormed.{IsExpr}
use Rattle.c_tree.specs.Ends.{first_token, number_of_first}

-- the tokens of a well-formed expression begin with the number of its first token
pub first_is : (all : List Lexeme) (e : Expr) (k : List Lexeme) → IsExpr all e
    → number_of_first (expr_text all e k) ≡ Some (first_token e)
first_is all (operation e op token e2) k h = first_is all e _ h.0
first_is all (index e opening e2 closing) k h = first_is all e _ h.0
first_is all (call e opening es closing) k h = first_is all e _ h.0
first_is all (dot e token name) k h = first_is all e _ h.0
first_is all (arrow e token name) k h = first_is all e _ h.0
first_is all (post e token p) k h = first_is all e _ h.0
first_is all (text_use []) k h = absurd (h refl)
first_is all (text_use (token ∷ tokens)) k h = refl
first_is all _ k h = refl
