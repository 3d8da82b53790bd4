-- What well-formed trees are made of, as the walk over names wants it.
use Rattle.std.proofs.Common.{List}
use Rattle.c_tree.specs.declared.lexeme.Lexeme.{Lexeme}
use Rattle.c_tree.specs.Tree.{Desigs, no_desigs, more_desigs, member_desig, index_desig, range_desig, old_desig}
use Rattle.c_tree.specs.WellFormed.{AreDesigs, AreSteps, IsExpr}

-- the indices of designators are well formed
abbrev pub IndicesAre : List Lexeme → Desigs → Type 0
IndicesAre all no_desigs = Unit {0}
IndicesAre all (more_desigs (member_desig token name) ds) = IndicesAre all ds
IndicesAre all (more_desigs (index_desig opening e closing) ds) = IsExpr all e × IndicesAre all ds
IndicesAre all (more_desigs (range_desig opening e dots e2 closing) ds) =
    IsExpr all e × (IsExpr all e2 × IndicesAre all ds)
IndicesAre all (more_desigs (old_desig name colon) ds) = IndicesAre all ds

-- the indices of well-formed steps of an offset are well-formed expressions
pub steps_are : (all : List Lexeme) (ds : Desigs) → AreSteps all ds → IndicesAre all ds
steps_are all no_desigs h = tt
steps_are all (more_desigs (member_desig token name) ds) h = steps_are all ds h.1
steps_are all (more_desigs (index_desig opening e closing) ds) h = (h.0, steps_are all ds h.1)
steps_are all (more_desigs (range_desig opening e dots e2 closing) ds) h = absurd h.0
steps_are all (more_desigs (old_desig name colon) ds) h = absurd h.0

-- the indices of well-formed designators are well-formed expressions
pub desigs_are : (all : List Lexeme) (ds : Desigs) → AreDesigs all ds → IndicesAre all ds
desigs_are all no_desigs h = tt
desigs_are all (more_desigs (member_desig token name) ds) h = desigs_are all ds h.1
desigs_are all (more_desigs (index_desig opening e closing) ds) h = (h.0.0, desigs_are all ds h.1)
desigs_are all (more_desigs (range_desig opening e dots e2 closing) ds) h = (h.0.0, (h.0.2, desigs_are all ds h.1))
desigs_are all (more_desigs (old_desig name colon) ds) h = desigs_are all ds h.1

-- a function with a list of identifiers has a name
