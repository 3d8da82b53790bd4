use Rattle.missing_laws.specs.Finding.{FirstIsMet, RoleHasSkeleton, TokenBegins}
use Rattle.missing_laws.proofs.Typing.{items_typed_of}
use Rattle.missing_laws.proofs.Having.{items_have}
use Rattle.missing_laws.proofs.laws.expressions_have_skeletons.Goals as goal

pub returns : goal.returns
returns c w items it = items_have w it.members items it.settled
    (items_typed_of w (TokenBegins w) (FirstIsMet w) (RoleHasSkeleton w) items it.settled it.clean) it.starts
