use Rattle.std.proofs.Common.{◌≡◌, length, take}
use Rattle.annotate.specs.Texts.{Scene}
use Rattle.annotate.specs.Scenes.{Shows}
use Rattle.annotate.specs.Comments.{AreComments}
use Rattle.annotate.proofs.annotated.comments_of.Given as goal

-- invariant of the loop: there is a text for each token, with the items of the elements so far
abbrev pub invariant-loop-listing : goal.invariant-loop-listing
invariant-loop-listing l =
    (length l.comments.items ≡ l.count) × ((s : Scene) → Shows l.scene s →
    AreComments s l.unit (take l.listing-index l.listings) l.comments.items)
