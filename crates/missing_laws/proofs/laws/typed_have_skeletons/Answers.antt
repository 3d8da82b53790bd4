use Rattle.missing_laws.specs.Finding.{FirstIsMet, RoleHasSkeleton, TokenBegins}
use Rattle.missing_laws.proofs.Having.{has_its}
use Rattle.missing_laws.proofs.laws.typed_have_skeletons.Goals as goal

pub returns : goal.returns
returns c w f e t members settled starts is =
    has_its w (TokenBegins w) (FirstIsMet w) (RoleHasSkeleton w) f e t members settled starts is
