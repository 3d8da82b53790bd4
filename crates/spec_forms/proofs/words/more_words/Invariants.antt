use Rattle.std.proofs.Common.{◌≡◌, length}
use Rattle.spec_forms.specs.Forms.{words_at}
use Rattle.spec_forms.proofs.words.more_words.Given as goal

-- the specifiers so far, with those read from here on, are what the whole loop gives from the first ones
abbrev pub invariant-loop : goal.invariant-loop
invariant-loop g l =
    words_at l.depth l.role l.words l.room l.cursor.scopes l.cursor.rest.now
    ≡ words_at l.depth l.role l.fn.words l.room l.fn.cursor.scopes l.fn.cursor.rest.now

abbrev pub decreases-loop : goal.decreases-loop
decreases-loop g l = length l.cursor.rest.now
