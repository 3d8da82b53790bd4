use Rattle.std.proofs.Common.{◌∙◌, sym}
use Rattle.flow_graph.specs.PathProofs.{steps_of}
use Rattle.path_checker.proofs.Sameness.{first_is, second_is, walk_parts}
use Rattle.path_checker.proofs.checking.walk_fault.Goals as goal

-- a fault of the sub-paths is the first fault of the walk
pub returns-in-Some : goal.returns-in-Some
returns-in-Some c =
    let found = rw (c.new-elem.ensures, c.deref.ensures.value) at c.in-Some.ensures in
    let w = c.args.walk.now in
    first_is _ _ _ (sym found)
    ∙ walk_parts c.args.graph.now c.args.lattice c.args.from c.args.to (steps_of w.subs.items) w.steps.items w.end

-- where the sub-paths have no fault, one of the walk's own steps is the first
pub returns-in-Some-path_fault : goal.returns-in-Some-path_fault
returns-in-Some-path_fault c =
    let none = rw (c.new-elem.ensures, c.deref.ensures.value) at c.in_default.ensures in
    let found =
    rw (c.new-elem.ensures, c.deref-2.ensures.value, c.deref-3.ensures.value) at c.in-Some-path_fault.ensures in
    let w = c.args.walk.now in
    second_is _ _ _ (sym none) (first_is _ _ _ (sym found))
    ∙ walk_parts c.args.graph.now c.args.lattice c.args.from c.args.to (steps_of w.subs.items) w.steps.items w.end

-- where all steps hold, what is left is whether the walk ends at its last variable
pub returns : goal.returns
returns c =
    let none = rw (c.new-elem.ensures, c.deref.ensures.value) at c.in_default.ensures in
    let none_here =
    rw (c.new-elem.ensures, c.deref-2.ensures.value, c.deref-3.ensures.value) at c.in_default-path_fault.ensures in
    let last = rw c.deref-4.ensures.value at c.walk_end_fault.ensures in
    let w = c.args.walk.now in
    second_is _ _ _ (sym none) (second_is _ _ _ (sym none_here) last)
    ∙ walk_parts c.args.graph.now c.args.lattice c.args.from c.args.to (steps_of w.subs.items) w.steps.items w.end
