use Rattle.std.proofs.Common.{◌≡◌, ℕ, refl, subst}
use Rattle.flow_graph.specs.System.{Stands}
use Rattle.flow_graph.specs.Index.{link_site}
use Rattle.flow_graph.specs.declared.constraint.Link.{Link}
use Rattle.flow_graph.specs.declared.constraint.Link.TheVariants.{Leave}
use Rattle.match_summary.proofs.Followed.{key_of_link, stands_in}
use Rattle.match_summary.proofs.closure.close.Goals as goal

-- an `Enter`, a path inside and a `Leave` of its site are a group that ends where the `Leave` does
pub extend-requires-clause-part : goal.extend-requires-clause-part
extend-requires-clause-part c =
    let link : Link = Leave c.in-Some.back.site c.in-Some.back.from c.in-Some.back.to in
    let st = stands_in c.args.given.now.graph.now c.args.given.now.lattice c.args.other c.constraint-constraint.result
    c.constraint-constraint.ensures.there link c.in-Some.ensures (c.if-not-is_in.ensures.0 refl) in
    let key =
    key_of_link c.args.given.now.graph.now c.args.given.now.lattice c.args.other c.constraint-constraint.result
    c.constraint-constraint.ensures.there link_site c.args.call.now.site link c.in-Some.ensures c.requires.other in
    let site : c.in-Some.back.site ≡ c.args.call.now.site = cc in
    let joined = c.if-not-joins.ensures.0 refl in (
      c.args.call.now.site,
      c.args.call.now.to,
      c.in-Some.back.from,
      c.requires.call,
      joined.0,
      joined.1,
      subst (λ (s : ℕ). Stands c.args.given.now.graph.now c.args.given.now.lattice c.args.other
          (Leave s c.in-Some.back.from c.in-Some.back.to)) site st,
    )
