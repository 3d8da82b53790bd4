use Rattle.std.proofs.Common.{◌≡◌, ◌<◌, ℕ, List, Vec, length, get_or, ◌∙◌, ap, subst, arith}
use Rattle.std.specs.Global.{Global}
use Rattle.sig_writer.specs.Saying.{said_at, Saying}
use Rattle.sig_writer.proofs.Sayings.{numbers_else, numbers_here}
use Rattle.sig_writer.proofs.says.Said.numbers.Goals as goal

-- the numbers at the index of a node are those that it says
pub returns-in-Some-get : goal.returns-in-Some-get
returns-in-Some-get c =
    let nodes = c.self.inside.nodes in
    let lists = c.self.inside.numbers.items in
    let elements = c.self.inside.elements.items in
    let at = c.in-Some.ensures.0 in
    let lt = c.in-Some.ensures.1 in
    let count = c.self.invariant.numbers_are in
    let within : c.in-Some.n < length lists = omega (arith, at, lt, count) in
    let read = subst (λ (xs : List (Vec ℕ Global)). c.in-Some-get.numbers.now ≡ get_or xs c.in-Some.n
    c.in-Some-get.numbers.now) c.deref.ensures.value c.in-Some-get.ensures.lookup.1 in
    c.deref-in-Some-get.ensures.value
    ∙ numbers_here nodes lists elements c.self.invariant c.args.at c.in-Some.n c.in-Some-get.numbers.now at lt within
    read
    ∙ ap (λ (s : Saying). (said_at s c.args.at).numbers) c.self.view_is

-- at a variable that is no node there are no numbers
pub returns-in-None : goal.returns-in-None
returns-in-None c =
    numbers_else c.self.inside.nodes c.self.inside.numbers.items c.self.inside.elements.items c.self.invariant
    c.args.at c.in-None.ensures
    ∙ ap (λ (s : Saying). (said_at s c.args.at).numbers) c.self.view_is
