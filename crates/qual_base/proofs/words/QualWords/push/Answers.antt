use Rattle.std.proofs.Common.{◌≡◌, ◌∙◌, true, false, ap, sym, is_some}
use Rattle.qual_base.specs.Words.{meaning_of}
use Rattle.qual_base.proofs.WordLemmas.{looked_up, put_new, unchanged, with_known, with_new}
use Rattle.qual_base.proofs.words.QualWords.push.Goals as goal

known : (c : goal.Then-contains_key) → is_some (meaning_of c.args.self.now c.args.word.now) ≡ true
known c =
    rw (← c.self.view_is, ← looked_up c.self.inside.pairs.entries c.args.word.now)
    (sym c.contains_key.ensures ∙ c.if-contains_key.true)

new : (c : goal.In_ok-insert) → is_some (meaning_of c.args.self.now c.args.word.now) ≡ false
new c = rw (← c.self.view_is, ← looked_up c.self.inside.pairs.entries c.args.word.now)
    (sym c.contains_key.ensures ∙ c.if-contains_key.false)

pub returns-then-contains_key-clause-pairs : goal.returns-then-contains_key-clause-pairs
returns-then-contains_key-clause-pairs c =
    sym (with_known c.args.self.now (c.args.word.now, (c.args.lattice, c.args.elem)) (known c))

pub returns-then-contains_key-clause-means : goal.returns-then-contains_key-clause-means
returns-then-contains_key-clause-means c =
    unchanged c.args.self.now (c.args.word.now, (c.args.lattice, c.args.elem)) (known c)

-- a word that had no meaning has the new one, and the others have theirs
pub returns-clause-pairs : goal.returns-clause-pairs
returns-clause-pairs c =
    put_new c.self.inside.pairs.entries c.insert.new.self.entries c.args.self.now c.in_ok-key.key c.args.word.now
    (c.args.lattice, c.args.elem) c.self.view_is c.in_ok-insert.ensures.entries c.in_ok-key.ensures.items (new c)
    ∙ sym (with_new c.args.self.now (c.args.word.now, (c.args.lattice, c.args.elem)) (new c))

-- a new pair behind the others means what it says where none of them has its word
pub returns-clause-means : goal.returns-clause-means
returns-clause-means c = λ word.
    ap (λ pairs. meaning_of pairs word)
    (put_new c.self.inside.pairs.entries c.insert.new.self.entries c.args.self.now c.in_ok-key.key c.args.word.now
    (c.args.lattice, c.args.elem) c.self.view_is c.in_ok-insert.ensures.entries c.in_ok-key.ensures.items (new c))
