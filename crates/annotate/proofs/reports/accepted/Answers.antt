use Rattle.std.proofs.Common.{ℕ, List, ◌++◌, ◌∙◌, ap, sym, subst}
use Rattle.lattice_core.specs.View.{LatticeView}
use Rattle.annotate.specs.declared.listing.Listing.{Listing}
use Rattle.annotate.specs.Texts.{accepted_text}
use Rattle.annotate.specs.Annotated.{annotation}
use Rattle.annotate.specs.Reports.{Listings}
use Rattle.annotate.specs.Solutions.{AreSolutions, AreKept}
use Rattle.annotate.proofs.LatticeLemmas.{accepted_all, at_once_all}
use Rattle.annotate.proofs.ReportLemmas.{accepted_with}
use Rattle.annotate.proofs.reports.accepted.Goals as goal

-- what is listed, and the annotated source behind it, are the text of the accepted program
pub returns : goal.returns
returns c =
    λ s shows.
    let list = c.in_ok-listings.listings.items in
    let Solved : List LatticeView → Type 0 = λ ls. AreSolutions c.args.graph.now ls c.args.solutions.now in
    let Kept : List LatticeView → Type 0 = λ ls. AreKept c.args.graph.now ls c.args.solutions.now in
    let Of : List LatticeView → Type 0 = λ ls. Listings ls c.args.graph.now s.listed list in
    let By : List _ → Type 0 = λ listed. Listings c.args.scene.now.lattices.now c.args.graph.now listed list in
    let solutions = subst Solved (sym shows.lattices) c.requires.solutions in
    let kept = subst Kept (sym shows.lattices) c.requires.kept in
    accepted_with s c.args.graph.now c.args.unit list c.put_annotation.new.out.items
    (accepted_all c.args.graph.now s.lattices c.args.solutions.now solutions kept)
    (at_once_all c.args.graph.now s.lattices c.args.solutions.now solutions kept)
    (subst Of (sym shows.lattices) (subst By (sym shows.listed) c.in_ok-listings.ensures))
    (c.in_ok-put_annotation.ensures.is s shows
    ∙ ap (λ (t : List ℕ). t ++ annotation s c.args.unit c.deref-2.result.now) (c.in_ok-put_accepted.ensures.is s shows
    ∙ ap (λ (t : List ℕ). t ++ accepted_text s c.deref.result.now) c.new-text.ensures.items)
    ∙ ap (λ (l : List Listing). accepted_text s l
    ++ annotation s c.args.unit c.deref-2.result.now) c.deref.ensures.value
    ∙ ap (λ (l : List Listing). accepted_text s list ++ annotation s c.args.unit l) c.deref-2.ensures.value)
