use Rattle.std.proofs.Common.{◌≡◌, ◌+◌, [], List, Vec, ℕ, length, sym, subst, arith}
use Rattle.std.specs.Global.{Global}
use Rattle.annotate.specs.Comments.{HoldComments}
use Rattle.annotate.proofs.Annotating.{hold_one_more, hold_none}
use Rattle.annotate.proofs.annotated.empty_texts.Goals as goal

-- at first there is no text
pub loop-init : goal.loop-init
loop-init c =
    let Hold : List (Vec ℕ Global) → Type 0 = λ texts. (length texts ≡ 0) × HoldComments (λ token. []) texts in
    subst Hold (sym c.new-texts.ensures.items) hold_none

-- one empty text more keeps all texts empty
pub loop-preserved : goal.loop-preserved
loop-preserved c =
    let Hold : List (Vec ℕ Global) → Type 0 = λ texts. (length texts ≡ c.loop.counter + 1)
    × HoldComments (λ token. []) texts in
    subst Hold (sym c.in_ok-push.ensures.items)
    (grind arith, hold_one_more c.loop.texts.items c.new.result c.new.ensures.items c.loop.invariant.1)

pub returns : goal.returns
returns c = (omega arith, c.loop.invariant.1)
