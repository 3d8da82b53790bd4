use Rattle.reader_base.specs.Lent.{declared_of}
use Rattle.declr_forms.proofs.suffixes.suffixes.Goals as goal

-- each turn that reads one more suffix of a declarator takes a token
pub loop-known-smaller : goal.loop-known-smaller
loop-known-smaller g c =
    c.suffixes_step.ensures.takes (declared_of c.loop-known.known)
    (declared_of c.suffix_turn.new.known) c.loop-known.cursor.scopes c.suffix_turn.new.cursor.scopes
    c.loop-known.cursor.rest.now c.suffix_turn.new.cursor.rest.now (rw c.if-branch.true at c.in_ok-suffix_turn.ensures)
