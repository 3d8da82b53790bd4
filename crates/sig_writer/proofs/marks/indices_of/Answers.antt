use Rattle.std.proofs.Common.{◌≡◌, ◌+◌, ℕ, List, Bool, length, sym, ◌∙◌, ap, subst, arith}
use Rattle.sig_writer.specs.Marks.{AreMarks}
use Rattle.sig_writer.specs.Marking.{AreUpTo, marked_before}
use Rattle.sig_writer.proofs.Numbering.{before_none, up_to_all, up_to_none}
use Rattle.sig_writer.proofs.marks.indices_of.Goals as goal

-- before the first node none is numbered, and all lists are empty
pub loop-n-init : goal.loop-n-init
loop-n-init c =
    let marks = c.in_ok-marks.marks.items in
    let are : AreMarks c.args.nodes c.args.summaries.now marks = c.in_ok-marks.ensures in
    record {
      numbered = sym (before_none marks);
      lists = up_to_none c.args.nodes c.args.summaries.now marks are c.in_ok-lists.lists.items
          (c.in_ok-lists.ensures.size ∙ c.count.ensures ∙ sym are.count) c.in_ok-lists.ensures.empty;
    }

pub number_node-requires-clause-marks : goal.number_node-requires-clause-marks
number_node-requires-clause-marks c = subst (λ (marks : List Bool). AreMarks c.args.nodes c.args.summaries.now marks)
    (sym c.deref.ensures.value) c.in_ok-marks.ensures

pub number_node-requires-clause-numbered : goal.number_node-requires-clause-numbered
number_node-requires-clause-numbered c = c.loop-n.invariant.numbered
    ∙ ap (λ (marks : List Bool). marked_before marks c.loop-n.n) (sym c.deref.ensures.value)

-- the lists up to a node are those of the marks that are lent to `number_node`
pub number_node-requires-clause-lists : goal.number_node-requires-clause-lists
number_node-requires-clause-lists c = subst
    (λ (marks : List Bool). AreUpTo c.args.nodes c.args.summaries.now marks c.loop-n.n c.loop-n.lists.items)
    (sym c.deref.ensures.value) c.loop-n.invariant.lists

-- one node more keeps the count and the lists those of the marked nodes so far
pub loop-n-preserved : goal.loop-n-preserved
loop-n-preserved c =
    let step = c.in_ok-numbered.ensures in
    record {
      numbered = step.numbered ∙ ap (λ (marks : List Bool). marked_before marks (c.loop-n.n + 1)) c.deref.ensures.value;
      lists = subst (λ (marks : List Bool). AreUpTo c.args.nodes c.args.summaries.now marks (c.loop-n.n + 1)
          c.number_node.new.lists.items) c.deref.ensures.value step.lists;
    }

-- behind the last node the lists are the index numbers of all nodes
pub returns : goal.returns
returns c =
    let marks = c.in_ok-marks.marks.items in
    let rows = c.args.summaries.now in
    let are : AreMarks c.args.nodes rows marks = c.in_ok-marks.ensures in
    let count = are.count in
    let all : c.loop-n.n ≡ length marks = omega
    (arith, count, c.count-n-end.ensures, c.loop-n-test.false, c.loop-n.auto.n-end) in
    up_to_all c.args.nodes rows marks are c.loop-n.lists.items
    (subst (λ (n : ℕ). AreUpTo c.args.nodes rows marks n c.loop-n.lists.items) all c.loop-n.invariant.lists)
