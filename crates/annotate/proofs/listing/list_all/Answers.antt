use Rattle.std.proofs.Common.{List, ◌+◌, take, sym, subst, arith}
use Rattle.std.proofs.lemmas.List.{take_all}
use Rattle.annotate.specs.declared.listing.Listing.{Listing}
use Rattle.annotate.specs.Reports.{Listings, NoVar}
use Rattle.annotate.proofs.ReportLemmas.{next_listed}
use Rattle.annotate.proofs.listing.list_all.Goals as goal

-- before the first variable nothing is listed
pub loop-var-init : goal.loop-var-init
loop-var-init c =
    let Of : List Listing → Type 0 = λ list. Listings c.args.scene.now.lattices.now c.args.graph.now
    (take 0 c.args.scene.now.listed.now) list in
    subst Of (sym c.new-list.ensures.items) NoVar

-- what is listed of one variable more comes behind that of those so far
pub loop-var-preserved : goal.loop-var-preserved
loop-var-preserved c =
    let lattices = c.args.scene.now.lattices.now in
    let listed = c.args.scene.now.listed.now in
    let Of : List Listing → Type 0 =
    λ list. Listings lattices c.args.graph.now (take (c.loop-var.var-index + 1) listed) list in
    subst Of (sym c.in_ok-list_var.ensures.added)
    (next_listed lattices c.args.graph.now listed c.loop-var.var-index c.var-item.result c.loop-var.list.items
    c.in_ok-list_var.ensures.here (omega arith) (sym c.var-item.is) c.loop-var.invariant
    c.in_ok-list_var.ensures.is)

-- behind the last variable what is listed is that of all
pub returns : goal.returns
returns c =
    let Of : List _ → Type 0 =
    λ vars. Listings c.args.scene.now.lattices.now c.args.graph.now vars c.loop-var.list.items in
    subst Of (take_all c.loop-var.var-index c.args.scene.now.listed.now (omega arith)) c.loop-var.invariant
