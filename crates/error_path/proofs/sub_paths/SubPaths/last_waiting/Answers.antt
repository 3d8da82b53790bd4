use Rattle.std.proofs.Common.{List, subst}
use Rattle.error_path.specs.declared.sub_paths.Draft.{Draft}
use Rattle.error_path.specs.Drafts.{AreDrafts}
use Rattle.error_path.proofs.Drafting.{drafts_last, drafts_rest, empty_draft_of}
use Rattle.error_path.proofs.sub_paths.SubPaths.last_waiting.Goals as goal

pub loop-draft-init : goal.loop-draft-init
loop-draft-init c = λ sys lattice rows subs all. all

-- what still waits when one is taken are drafts, as all that waited are
pub returns-then-is_none-clause-waiting : goal.returns-then-is_none-clause-waiting
returns-then-is_none-clause-waiting c = λ sys lattice rows subs all.
    let Of : List Draft → Type 0 = λ xs. AreDrafts sys lattice rows subs xs in
    drafts_rest sys lattice rows subs c.pop.new.self.items c.in-Some.draft
    (subst Of c.in-Some.ensures.items (c.loop-draft.invariant sys lattice rows subs all))

-- what was taken is a draft, as all that waited are
pub returns-then-is_none-clause-draft : goal.returns-then-is_none-clause-draft
returns-then-is_none-clause-draft c = λ sys lattice rows subs all pair.
    let Of : List Draft → Type 0 = λ xs. AreDrafts sys lattice rows subs xs in
    drafts_last sys lattice rows subs c.pop.new.self.items c.in-Some.draft
    (subst Of c.in-Some.ensures.items (c.loop-draft.invariant sys lattice rows subs all))

-- what waits are drafts still when the last one is let go
pub loop-draft-preserved : goal.loop-draft-preserved
loop-draft-preserved c = λ sys lattice rows subs all.
    let Of : List Draft → Type 0 = λ xs. AreDrafts sys lattice rows subs xs in
    drafts_rest sys lattice rows subs c.pop.new.self.items c.in-Some.draft
    (subst Of c.in-Some.ensures.items (c.loop-draft.invariant sys lattice rows subs all))

pub returns-clause-draft : goal.returns-clause-draft
returns-clause-draft c = λ sys lattice rows subs all pair.
    empty_draft_of sys lattice rows subs c.new.result c.args.pair.now c.new.ensures.pair c.new.ensures.at
    c.new.ensures.steps pair
