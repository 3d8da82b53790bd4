-- What is crossed at the place of a token is crossed at the token.
use Rattle.std.proofs.Common.{◌≡◌, ℕ, ◌∙◌, ap, subst}
use Rattle.qual_base.specs.declared.places.Span.{Span}
use Rattle.flow_graph.specs.declared.graph.GraphFault.{GraphFault}
use Rattle.flow_graph.specs.System.{System}
use Rattle.flow_rules.specs.Adding.{with}
use Rattle.flow_rules.specs.Lists.{cross}
use Rattle.name_rules.specs.Spellings.{Place}
use Rattle.row_rules.specs.Worlds.{World, at, skeleton, site_number, span, in_all}
use Rattle.row_adding.specs.Adding.{StopsEarly}
use Rattle.row_adding.specs.Parts.{instance_row}

module _ (w : World) (token : ℕ) (p here : Place) (s : Span) where
  crossing : here ≡ at w token → s ≡ span w token token
      → in_all w s (cross (site_number w here) (skeleton w p) (skeleton w here)) ≡ instance_row w token p
  crossing place spanned =
      ap (λ (q : Place). in_all w s (cross (site_number w q) (skeleton w p) (skeleton w q))) place
      ∙ ap
      (λ (x : Span). in_all w x (cross (site_number w (at w token)) (skeleton w p) (skeleton w (at w token)))) spanned

  pub crossed : here ≡ at w token → s ≡ span w token token → (old new : System)
      → new ≡ with old (in_all w s (cross (site_number w here) (skeleton w p) (skeleton w here)))
      → new ≡ with old (instance_row w token p)
  crossed place spanned old new is = is ∙ ap (with old) (crossing place spanned)

  pub crossing_stops : here ≡ at w token → s ≡ span w token token → (old new : System) (f : GraphFault)
      → StopsEarly old new f (in_all w s (cross (site_number w here) (skeleton w p) (skeleton w here)))
      → StopsEarly old new f (instance_row w token p)
  crossing_stops place spanned old new f stop = subst (StopsEarly old new f) (crossing place spanned) stop
