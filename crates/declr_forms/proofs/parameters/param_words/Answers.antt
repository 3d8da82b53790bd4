use Rattle.std.proofs.Common.{◌≤◌, length}
use Rattle.c_reading.specs.Knot.{knot}
use Rattle.declr_forms.proofs.Words.{words_behind}
use Rattle.declr_forms.proofs.parameters.param_words.Goals as goal

-- the specifiers of a parameter go on with the words that were read already, where there are some
pub returns-in-len1-up : goal.returns-in-len1-up
returns-in-len1-up g c =
    let some : 1 ≤ length c.args.known.words.items = rw c.as_slice.ensures.value at c.in-len1-up.len_at_least in
    rw (words_behind
    (knot c.args.depth) c.args.known.words.items c.args.room c.args.cursor.now.scopes c.args.cursor.now.rest.now some)
    (rw c.saturating_sub-inner.ensures at c.specs_inside.ensures)
