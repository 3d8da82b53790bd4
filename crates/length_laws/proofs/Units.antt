-- A unit's tape has at most two ops for each of its tokens but the end.
use Rattle.std.proofs.Common.{List, [], ◌∷◌, length, ap, arith}
use Rattle.c_words.specs.declared.kinds.TokenKind.TheVariants as kinds
use Rattle.c_tree.specs.declared.lexeme.Lexeme.{Lexeme}
use Rattle.length_laws.specs.Short.{TapesAreShort}
use Rattle.length_laws.proofs.Trees.{items_fit}

-- the tape of a well-formed unit has at most two ops for each of its tokens, and none for its end
pub tapes_are_short : TapesAreShort
tapes_are_short all items tokens rules =
    let end : List Lexeme = record { kind = kinds.End; at = tokens.last } ∷ [] in
    let fits = (items_fit all items rules.parts end).most in
    let long = ap length tokens.spelled in
    omega (arith, fits, long)
