use Rattle.std.proofs.Common.{◌≡◌, ◌<◌, List, length, get_or, ◌∙◌, ap, subst, arith}
use Rattle.sig_writer.specs.declared.says.Elements.{Elements}
use Rattle.sig_writer.specs.Saying.{elements_of, said_at, Saying}
use Rattle.sig_writer.proofs.Sayings.{elements_else, elements_here}
use Rattle.sig_writer.proofs.says.Said.elements.Goals as goal

-- the elements at the index of a node are those that it says
pub returns-in-Some-get : goal.returns-in-Some-get
returns-in-Some-get c =
    let nodes = c.self.inside.nodes in
    let lists = c.self.inside.numbers.items in
    let elements = c.self.inside.elements.items in
    let at = c.in-Some.ensures.0 in
    let lt = c.in-Some.ensures.1 in
    let count = c.self.invariant.elements_are in
    let within : c.in-Some.n < length elements = omega (arith, at, lt, count) in
    let read = subst (λ (xs : List Elements). c.in-Some-get.elements.now ≡ get_or xs c.in-Some.n
    c.in-Some-get.elements.now) c.deref.ensures.value c.in-Some-get.ensures.lookup.1 in
    elements_here nodes lists elements c.self.invariant c.args.at c.in-Some.n c.in-Some-get.elements.now at lt within
    read
    ∙ ap (λ (s : Saying). elements_of (said_at s c.args.at).low (said_at s c.args.at).high) c.self.view_is

-- at a variable that is no node there are no elements
pub returns-in-None : goal.returns-in-None
returns-in-None c =
    c.no_elements-in-None.ensures
    ∙ elements_else c.self.inside.nodes c.self.inside.numbers.items c.self.inside.elements.items c.self.invariant
    c.args.at c.in-None.ensures
    ∙ ap (λ (s : Saying). elements_of (said_at s c.args.at).low (said_at s c.args.at).high) c.self.view_is
