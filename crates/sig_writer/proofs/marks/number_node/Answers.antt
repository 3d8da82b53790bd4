use Rattle.std.proofs.Common.{◌≡◌, ◌+◌, Bool, Some, false, slice_get, sym, ◌∙◌, ap, arith}
use Rattle.std.proofs.lemmas.Option.{slice_get-get_or}
use Rattle.sig_writer.specs.Marking.{IsMarked}
use Rattle.sig_writer.proofs.Numbering.{before_few, before_marked_one, before_other_one, up_to_marked, up_to_other}
use Rattle.sig_writer.proofs.marks.number_node.Goals as goal

-- where a node is not marked, the count stays that of the marked nodes up to it
pub returns-then-not-marks-n-clause-numbered : goal.returns-then-not-marks-n-clause-numbered
returns-then-not-marks-n-clause-numbered c =
    let marks = c.args.marks.now in
    let other : slice_get marks c.args.n ≡ Some false = slice_get-get_or marks c.args.n false
    (omega (arith, c.requires.marks.count, c.requires.node)) ∙ ap (λ (b : Bool). Some b) c.if-not-marks-n.true in
    c.requires.numbered ∙ sym (before_other_one marks c.args.n other)

-- where a node is not marked, the lists stay those of the nodes up to it
pub returns-then-not-marks-n-clause-lists : goal.returns-then-not-marks-n-clause-lists
returns-then-not-marks-n-clause-lists c =
    let marks = c.args.marks.now in
    let other : slice_get marks c.args.n ≡ Some false = slice_get-get_or marks c.args.n false
    (omega (arith, c.requires.marks.count, c.requires.node)) ∙ ap (λ (b : Bool). Some b) c.if-not-marks-n.true in
    up_to_other c.args.nodes c.args.summaries.now marks c.requires.marks c.args.lists.now.items c.args.n other
    c.requires.lists

pub overflow_add-numbered : goal.overflow_add-numbered
overflow_add-numbered c = let few = before_few c.args.marks.now c.args.n in
    omega (arith, few, c.requires.numbered, c.requires.few)

pub overflow_add-result : goal.overflow_add-result
overflow_add-result c = let few = before_few c.args.marks.now c.args.n in
    omega (arith, few, c.requires.numbered, c.requires.few)

pub add_node-requires-clause-size : goal.add_node-requires-clause-size
add_node-requires-clause-size c = c.requires.lists.count ∙ c.requires.marks.count

-- where a node is marked, the count goes up by one
pub returns-clause-numbered : goal.returns-clause-numbered
returns-clause-numbered c =
    let marks = c.args.marks.now in
    let marked : IsMarked marks c.args.n = slice_get-get_or marks c.args.n false
    (omega (arith, c.requires.marks.count, c.requires.node)) ∙ ap (λ (b : Bool). Some b) c.if-not-marks-n.false in
    let more = before_marked_one marks c.args.n marked in
    omega (arith, more, c.requires.numbered)

-- where a node is marked, the lists with its number are those of the nodes up to it
pub returns-clause-lists : goal.returns-clause-lists
returns-clause-lists c =
    let marks = c.args.marks.now in
    let marked : IsMarked marks c.args.n = slice_get-get_or marks c.args.n false
    (omega (arith, c.requires.marks.count, c.requires.node)) ∙ ap (λ (b : Bool). Some b) c.if-not-marks-n.false in
    up_to_marked c.args.nodes c.args.summaries.now marks c.requires.marks c.args.lists.now.items
    c.add_node.new.lists.items c.args.n (c.args.numbered + 1) marked
    (omega (arith, c.requires.numbered)) c.in_ok-add_node.ensures c.requires.lists
