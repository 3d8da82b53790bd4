use Rattle.std.proofs.Common.{◌≡◌, ℕ, List, ◌++◌, ◌-◌, length}
use Rattle.annotate.specs.Annotated.{behind, pieces_from, with_comments}
use Rattle.annotate.specs.Comments.{HoldComments}
use Rattle.annotate.proofs.annotated.put_pieces.Given as goal

-- invariant of the loop: what is written, with the pieces still to come, is the text with all comments
abbrev pub invariant-loop-n : goal.invariant-loop-n
invariant-loop-n l =
    (items : ℕ → List (List ℕ)) → HoldComments items l.comments →
    l.out.items ++ with_comments (pieces_from items (behind l.tokens) l.at l.left l.n (length l.tokens.tokens - l.n))
    ≡ l.fn.out.items ++ with_comments (pieces_from items (behind l.tokens) 0 l.tokens.bytes 0 (length l.tokens.tokens))
