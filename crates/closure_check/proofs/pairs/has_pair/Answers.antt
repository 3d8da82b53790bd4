use Rattle.std.proofs.Common.{◌≡◌, ℕ, false, true, Some, arith, sym, ◌∙◌, ap}
use Rattle.std.proofs.lemmas.Option.{slice_get-get_or, slice_get_within}
use Rattle.qual_base.proofs.Tests.{same_test}
use Rattle.closure_check.specs.Parts.{is_among, is_that}
use Rattle.closure_check.proofs.Sorted.{among_place, found_is, is_that_one, not_before, place_among, that_is}
use Rattle.closure_check.proofs.pairs.has_pair.Goals as goal

-- where the place is past the last pair, all pairs come before the two variables, so theirs is not there
pub returns-then-at-pairs : goal.returns-then-at-pairs
returns-then-at-pairs c =
    let pairs = c.args.pairs.now in
    same_test false (is_among pairs c.args.from c.args.to) (λ (no : false ≡ true). absurd cc) (λ yes.
    let place = place_among pairs c.args.from c.args.to yes in
    let late =
    not_before pairs c.place_of-at.result c.args.from c.args.to c.place_of-at.ensures.before place.0 place.1 in
    let inside = slice_get_within pairs place.0 (c.args.from, c.args.to) place.1 in
    absurd (omega (arith, late, inside, c.if-at-pairs.true)))

-- the pair of two variables is there just if it is at the first place that does not come before them
pub returns : goal.returns
returns c =
    let at : ℕ = c.place_of-at.result in
    let pairs = c.args.pairs.now in
    let there =
    slice_get-get_or pairs at c.index-pairs-at.result c.if-at-pairs.false ∙ ap Some (sym c.index-pairs-at.is) in
    c.is_that.ensures
    ∙ same_test (is_that c.index-pairs-at.result c.args.from c.args.to) (is_among pairs c.args.from c.args.to)
    (λ is. among_place pairs at c.args.from c.args.to
    (there ∙ ap Some (that_is c.index-pairs-at.result c.args.from c.args.to is)))
    (λ yes.
    let found =
    found_is pairs at c.args.from c.args.to c.place_of-at.ensures.before c.requires c.index-pairs-at.result there
    (c.place_of-at.ensures.behind at c.index-pairs-at.result (omega arith) there)
    (place_among pairs c.args.from c.args.to yes) in
    ap (λ q. is_that q c.args.from c.args.to) found ∙ is_that_one c.args.from c.args.to)
