use Rattle.std.proofs.Common.{◌∙◌, List, take, sym, subst, arith}
use Rattle.std.proofs.lemmas.List.{take_all}
use Rattle.annotate.specs.declared.listing.Listing.{Listing}
use Rattle.annotate.specs.Comments.{AreComments}
use Rattle.annotate.proofs.ReportLemmas.{taken_more}
use Rattle.annotate.proofs.annotated.comments_of.Goals as goal

pub loop-listing-init : goal.loop-listing-init
loop-listing-init c = (c.in_ok-comments.ensures.0, λ s shows. c.in_ok-comments.ensures.1)

-- one element more keeps the comments those of the elements so far
pub loop-listing-preserved : goal.loop-listing-preserved
loop-listing-preserved c = (
  c.in_ok-add_listing.ensures.count ∙ c.loop-listing.invariant.0,
  λ s shows.
      let Of : List Listing → Type 0 =
      λ listings. AreComments s c.args.unit listings c.add_listing.new.comments.items in
      subst Of (taken_more c.args.listings.now c.loop-listing.listing-index c.listing-item.result (omega arith)
      (sym c.listing-item.is))
      (c.in_ok-add_listing.ensures.added s shows (take c.loop-listing.listing-index c.args.listings.now)
      (c.loop-listing.invariant.1 s shows)),
)

-- behind the last element the comments are those of all that is listed
pub returns : goal.returns
returns c = (
  c.loop-listing.invariant.0,
  λ s shows.
      let Of : List Listing → Type 0 = λ listings. AreComments s c.args.unit listings c.loop-listing.comments.items in
      subst Of (take_all c.loop-listing.listing-index c.args.listings.now (omega arith))
      (c.loop-listing.invariant.1 s shows),
)
