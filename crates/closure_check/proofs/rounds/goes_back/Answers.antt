use Rattle.std.proofs.Common.{◌≡◌, ℕ, ap, refl, sym, ◌∙◌}
use Rattle.std.proofs.lemmas.Bool.{eqb-true, not-false}
use Rattle.flow_graph.specs.declared.constraint.Link.{Link}
use Rattle.flow_graph.specs.declared.constraint.Link.TheVariants.{Leave}
use Rattle.closure_check.proofs.Returns.{by_goes, goes_by}
use Rattle.closure_check.proofs.rounds.goes_back.Goals as goal

-- a return of the site goes back just if it goes on where its variables are a pair
pub returns-else-ne : goal.returns-else-ne
returns-else-ne c =
    let back = c.in-Some.back in
    let same : back.site ≡ c.args.site = eqb-true back.site c.args.site (not-false _ (sym c.if-ne.ensures)) in
    let At : ℕ → Link = λ s. Leave s back.from back.to in
    let is = c.in-Some.ensures ∙ ap At same in
    let it = c.constraint-constraint in (
      λ yes. goes_by c.args.given.now c.args.going.now c.args.site c.args.inner c.args.edge back.from back.to it.result
          it.ensures.there is (c.goes_out.ensures.0 yes),
      λ all. c.goes_out.ensures.1 (by_goes c.args.given.now c.args.going.now c.args.site c.args.inner c.args.edge
          back.from back.to it.result it.ensures.there is (c.if-not-is_in.ensures.0 refl) all),
    )
