use Rattle.std.proofs.Common.{◌≡◌, length}
use Rattle.reader_base.specs.Lent.{declared_of}
use Rattle.declr_forms.specs.Views.{more_suffixes}
use Rattle.declr_forms.proofs.suffixes.suffixes.Given as goal

-- the declarator so far, with the suffixes read from here on, is what the whole loop gives from its core
abbrev pub invariant-loop-known : goal.invariant-loop-known
invariant-loop-known g l =
    more_suffixes l.depth l.flag l.room (declared_of l.known) l.cursor.scopes l.cursor.rest.now
    ≡ more_suffixes l.depth l.flag l.room (declared_of l.fn.core) l.fn.cursor.scopes l.fn.cursor.rest.now

abbrev pub decreases-loop-known : goal.decreases-loop-known
decreases-loop-known g l = length l.cursor.rest.now
