use Rattle.std.proofs.Common.{take}
use Rattle.annotate.specs.Scenes.{Writes}
use Rattle.annotate.specs.Texts.{listing_lines}
use Rattle.annotate.proofs.reports.put_listings.Given as goal

abbrev pub invariant-loop-listing : goal.invariant-loop-listing
invariant-loop-listing l =
    Writes l.scene l.fn.out.items l.out.items (λ s. listing_lines s (take l.listing-index l.listings))
