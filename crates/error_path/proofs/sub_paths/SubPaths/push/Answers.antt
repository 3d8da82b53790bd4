use Rattle.std.proofs.Common.{rules, ◌≡◌, List, [], ◌∷◌, ◌++◌, length, sym, ◌∙◌, ap, subst, refl, arith, Some}
use Rattle.std.proofs.lemmas.Result.{on_ok_weaker}
use Rattle.flow_graph.specs.declared.proof.SubPath.{SubPath}
use Rattle.flow_graph.specs.PathProofs.{steps_of}
use Rattle.error_path.specs.Made.{AreMade, place_of, subs_in}
use Rattle.error_path.proofs.Making.{made_push}
use Rattle.error_path.proofs.sub_paths.SubPaths.push.Goals as goal

steps_push : (subs : List SubPath) (s : SubPath) → steps_of (subs ++ s ∷ []) ≡ steps_of subs ++ s.steps.items ∷ []
steps_push [] s = refl
steps_push (x ∷ subs) s = ap (λ xs. x.steps.items ∷ xs) (steps_push subs s)

steps_count : (subs : List SubPath) → length (steps_of subs) ≡ length subs
steps_count [] = refl
steps_count (x ∷ subs) = let rest = steps_count subs in omega (arith, rest)

-- pushing a sub-path puts it behind the others
pub returns-clause-extends : goal.returns-clause-extends
returns-clause-extends c =
    on_ok_weaker c.insert.result
    (λ here. record {
      more = c.args.steps.items ∷ [];
      is = ap steps_of c.in-Ok.ensures.items ∙ steps_push c.args.self.now.paths.items _;
      lattice = refl;
    }) c.insert.ensures.here

-- a right sub-path of a pair that had none, with its place, leaves the sub-paths right
pub returns-clause-made : goal.returns-clause-made
returns-clause-made c =
    let at : c.len-at.result ≡ length c.args.self.now.paths.items = search rules in
    on_ok_weaker c.insert.result
    (λ here sys made sub free.
    let count = steps_count c.args.self.now.paths.items in
    let room = c.if-at-ge-MOST_SUB_PATHS.false in
    let subs = subs_in c.args.self.now in
    let new =
    place_of (record { lattice = c.args.self.now.lattice; paths = c.push.new.self; places = c.insert.new.self }) in
    subst (λ xs. AreMade sys c.args.self.now.lattice xs new)
    (sym (ap steps_of c.in-Ok.ensures.items ∙ steps_push c.args.self.now.paths.items _))
    (made_push sys c.args.self.now.lattice subs
    (place_of c.args.self.now) new c.args.pair.from c.args.pair.to c.args.steps.items made sub free
    (omega (arith, count, room, at)) (here ∙ ap (λ n. Some n) (at ∙ sym count)) c.insert.ensures.others))
    c.insert.ensures.here
