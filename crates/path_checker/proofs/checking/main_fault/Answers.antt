use Rattle.std.proofs.Common.{◌∙◌, sym}
use Rattle.flow_graph.specs.PathProofs.{steps_of}
use Rattle.path_checker.proofs.Sameness.{first_is, main_parts, second_is}
use Rattle.path_checker.proofs.checking.main_fault.Goals as goal

-- a fault of the first step is the first fault of the proof
pub returns-in-Some : goal.returns-in-Some
returns-in-Some c =
    let found = rw c.deref.ensures.value at c.in-Some.ensures in
    let p = c.args.proof.now in
    first_is _ _ _ (sym found)
    ∙ main_parts c.args.graph.now c.args.lattices.now c.args.lattice c.args.elem
    (steps_of p.subs.items) c.args.first.now c.args.rest.now p.end

-- where the first step has no fault, one of the sub-paths is the first
pub returns-in-Some-subs_fault : goal.returns-in-Some-subs_fault
returns-in-Some-subs_fault c =
    let none = rw c.deref.ensures.value at c.in_default.ensures in
    let found = rw c.deref-2.ensures.value at c.in-Some-subs_fault.ensures in
    let p = c.args.proof.now in
    second_is _ _ _ (sym none) (first_is _ _ _ (sym found))
    ∙ main_parts c.args.graph.now c.args.lattices.now c.args.lattice c.args.elem
    (steps_of p.subs.items) c.args.first.now c.args.rest.now p.end

-- where first step and sub-paths have no fault, one of the main path is the first
pub returns-in-Some-path_fault : goal.returns-in-Some-path_fault
returns-in-Some-path_fault c =
    let none = rw c.deref.ensures.value at c.in_default.ensures in
    let none_inside = rw c.deref-2.ensures.value at c.in_default-subs_fault.ensures in
    let found = rw (c.deref-3.ensures.value, c.deref-4.ensures.value, c.requires) at c.in-Some-path_fault.ensures in
    let p = c.args.proof.now in
    second_is _ _ _ (sym none) (second_is _ _ _ (sym none_inside) (first_is _ _ _ (sym found)))
    ∙ main_parts c.args.graph.now c.args.lattices.now c.args.lattice c.args.elem
    (steps_of p.subs.items) c.args.first.now c.args.rest.now p.end

-- where all steps hold, what is left is whether the main path ends in a bound
pub returns : goal.returns
returns c =
    let none = rw c.deref.ensures.value at c.in_default.ensures in
    let none_inside = rw c.deref-2.ensures.value at c.in_default-subs_fault.ensures in
    let none_here =
    rw (c.deref-3.ensures.value, c.deref-4.ensures.value, c.requires) at c.in_default-path_fault.ensures in
    let last = rw (c.deref-5.ensures.value, c.requires) at c.end_fault.ensures in
    let p = c.args.proof.now in
    second_is _ _ _ (sym none) (second_is _ _ _ (sym none_inside) (second_is _ _ _ (sym none_here) last))
    ∙ main_parts c.args.graph.now c.args.lattices.now c.args.lattice c.args.elem
    (steps_of p.subs.items) c.args.first.now c.args.rest.now p.end
