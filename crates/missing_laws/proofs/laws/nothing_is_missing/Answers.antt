use Rattle.missing_laws.specs.Finding.{FirstIsMet, RoleHasSkeleton, TokenBegins}
use Rattle.missing_laws.proofs.Typing.{items_typed_of}
use Rattle.missing_laws.proofs.Items.{missing_nothing}
use Rattle.missing_laws.proofs.laws.nothing_is_missing.Goals as goal

pub returns : goal.returns
returns c w items it = missing_nothing w items it.members it.links it.settled
    (items_typed_of w (TokenBegins w) (FirstIsMet w) (RoleHasSkeleton w) items it.settled it.clean) it.starts
