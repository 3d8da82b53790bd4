use Rattle.std.proofs.Common.{arith, ◌≤◌, ◌<◌, length, refl, ap, ◌∙◌}
use Rattle.name_rules.specs.Scopes.{changed_at}
use Rattle.c_names.specs.Identifiers.{typed_once}
use Rattle.c_names.proofs.Numbering.{typed_numbered, changed, unchanged, past}
use Rattle.c_names.proofs.identifiers.Identifiers.set_type.Goals as goal

-- where there is no identifier of a number, no type is set, and the list stays as it is
pub returns-in_default : goal.returns-in_default
returns-in_default c =
    let all = c.self.inside.all in
    let size = all.ok.0 in
    let beyond : length all.items ≤ c.args.number = let p = past c.args.number _ c.in_default.ensures.variant.1 in
    omega arith in
    unchanged all.items c.args.number (typed_once c.args.ty) beyond
    ∙ ap (λ xs. changed_at xs c.args.number (typed_once c.args.ty)) c.self.view_is

-- where there is an identifier of a number, the list is changed there by the type, unless it has one
pub returns : goal.returns
returns c =
    let all = c.self.inside.all in
    let size = all.ok.0 in
    let there = c.in-Some.ensures.variant.0 refl in
    let within : c.args.number < length all.items = omega arith in
    changed all.items c.args.number c.in-Some.it.now c.set_type.new.self
    (typed_once c.args.ty) within c.in-Some.ensures.value c.set_type.ensures
    ∙ ap (λ xs. changed_at xs c.args.number (typed_once c.args.ty)) c.self.view_is

-- the numbers stay those of the identifiers where one of them gets its type
pub invariant_of-self-2 : goal.invariant_of-self-2
invariant_of-self-2 c =
    let all = c.self.inside.all in
    let size = all.ok.0 in
    let there = c.in-Some.ensures.variant.0 refl in
    let within : c.args.number < length all.items = omega arith in
    typed_numbered all.items _ c.args.number c.args.ty c.self.inside.numbers c.self.invariant
    (changed all.items c.args.number c.in-Some.it.now c.set_type.new.self
    (typed_once c.args.ty) within c.in-Some.ensures.value c.set_type.ensures)
