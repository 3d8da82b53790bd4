use Rattle.std.proofs.Common.{◌++◌, ℕ, List, ◌∙◌, ap}
use Rattle.qual_types.specs.Rows.{skel_of}
use Rattle.sig_writer.specs.Library.{external_by}
use Rattle.sig_writer.proofs.LineLemmas.{lined, not_refused, refused}
use Rattle.sig_writer.proofs.Roots.{rooted}
use Rattle.sig_writer.proofs.lines.put_said.Goals as goal

-- a refusal of what is said of the function at a place is the fault of that place
pub returns-in-Some-clause-refused : goal.returns-in-Some-clause-refused
returns-in-Some-clause-refused c =
    let skel = rooted c.args.library.now.skeletons.now c.args.at.now c.vars-vars.result.now c.root_at-root.result
    c.vars-vars.ensures c.law.ensures.few c.root_at-root.ensures in
    λ it are. refused it c.args.known.now.lattice.now (external_by c.args.library.now c.args.at.now) c.args.said.now are
    (skel_of c.vars-vars.result.now c.root_at-root.result) skel
    c.refusal_of.result c.in-Some.refusal c.fault_at.result c.refusal_of.ensures c.in-Some.is c.fault_at.ensures

-- where nothing refuses the function, its line comes behind the text that was there
pub returns-clause-line : goal.returns-clause-line
returns-clause-line c =
    let skel = rooted c.args.library.now.skeletons.now c.args.at.now c.vars-vars.result.now c.root_at-root.result
    c.vars-vars.ensures c.law.ensures.few c.root_at-root.ensures in
    λ it are.
    let lattice = c.args.known.now.lattice.now in
    let f = external_by c.args.library.now c.args.at.now in
    let s = skel_of c.vars-vars.result.now c.root_at-root.result in (
      not_refused it lattice f c.args.said.now are s skel c.refusal_of.result c.refusal_of.ensures c.in_default.is,
      c.in_ok-put_line.ensures
          ∙ ap (λ (t : List ℕ). c.args.out.now.items ++ t)
          (lined it lattice f c.args.said.now are s skel c.name_at.result.now (c.name_at.ensures c.requires.units)),
    )
