use Rattle.std.proofs.Common.{◌≡◌, [], length}
use Rattle.annotate.specs.Comments.{HoldComments}
use Rattle.annotate.proofs.annotated.empty_texts.Given as goal

abbrev pub invariant-loop : goal.invariant-loop
invariant-loop l = (length l.texts.items ≡ l.counter) × HoldComments (λ token. []) l.texts.items
