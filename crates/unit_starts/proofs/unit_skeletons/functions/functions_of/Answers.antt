use Rattle.std.proofs.Common.{◌≡◌, ◌++◌, ◌∷◌, [], Bool, true, false, List, map, sym, ◌∙◌, ap, subst}
use Rattle.type_table.specs.Rows.{type_of}
use Rattle.name_rules.specs.Spellings.{Place}
use Rattle.name_rules.specs.Linking.{link_of}
use Rattle.name_rules.specs.Scopes.{Bodied}
use Rattle.row_rules.specs.Sites.{first_place, is_first_function}
use Rattle.name_state.specs.declared.unit_names.names.Names.{Names}
use Rattle.name_state.specs.UnitNames.Shown.{names_of, declared_of}
use Rattle.unit_shapes.specs.Views.{names_in}
use Rattle.unit_starts.specs.UnitSkeletons.Bodies.{AreFirsts}
use Rattle.unit_starts.proofs.UnitSkeletons.Gathering.{functions_next}
use Rattle.unit_starts.proofs.unit_skeletons.functions.functions_of.Goals.{then-is_first_function+in_ok-push, else-is_first_function}
use Rattle.unit_starts.proofs.unit_skeletons.functions.functions_of.Goals as goal

-- one declaration more keeps the functions found and still to come those of all declarations
pub loop-declared-preserved : goal.loop-declared-preserved
loop-declared-preserved c =
    let t = type_of c.args.types.now in
    let s = names_in c.args.types.now c.args.names.now in
    let it = c.declared-item.result in
    let bodies = map first_place s.bodies in
    let found = c.loop-declared.found in
    let are = subst (λ (all : List Bodied). AreFirsts all c.in_ok-bodies.bodies)
    (c.bodies.ensures t ∙ ap (λ (n : Names). (names_of t n).bodies) c.names.ensures) c.in_ok-bodies.ensures in
    let tested : c.is_first_function.result ≡ is_first_function bodies (declared_of t it) =
    c.is_first_function.ensures s.bodies are in
    let next = λ (b : Bool).
    functions_next (link_of s) bodies (declared_of t) c.declared-all.result.now c.loop-declared.declared-index it found
    c.if-is_first_function.found b c.loop-declared-test.true c.declared-item.is in
    elim c.if-is_first_function.branch [
      | then-is_first_function+in_ok-push w ↦
          next true (sym w.if-is_first_function.true ∙ tested)
          (w.found-is ∙ w.in_ok-push.ensures.pushed ∙ ap (λ (at : Place). found ++ at ∷ []) (w.link.ensures t))
          ∙ c.loop-declared.invariant
      | else-is_first_function w ↦
          next false (sym w.if-is_first_function.false ∙ tested) w.found-is ∙ c.loop-declared.invariant
    ]
