use Rattle.std.proofs.Common.{sym, ◌∙◌, ap}
use Rattle.c_tree.specs.View.{declr_of}
use Rattle.c_tree.proofs.ViewLemmas.{array_is, params_is, abs_pointer_is, abs_array_is, abs_params_is}
use Rattle.c_shape.proofs.declarator.declarator_shape.Goals as goal

pub returns-in-Array : goal.returns-in-Array
returns-in-Array c = let d = c.in-Array in sym (ap declr_of d.is ∙ array_is d.inner d.«open» d.words d.size d.close)

pub returns-in-Params : goal.returns-in-Params
returns-in-Params c =
    let d = c.in-Params in
    sym (ap declr_of d.is ∙ params_is d.inner d.«open» d.params d.ellipsis d.close)

pub returns-in-AbsPointer : goal.returns-in-AbsPointer
returns-in-AbsPointer c = let d = c.in-AbsPointer in sym (ap declr_of d.is ∙ abs_pointer_is d.star d.words d.inner)

pub returns-in-AbsArray : goal.returns-in-AbsArray
returns-in-AbsArray c =
    let d = c.in-AbsArray in
    sym (ap declr_of d.is ∙ abs_array_is d.inner d.«open» d.words d.size d.close)

pub returns-in-AbsParams : goal.returns-in-AbsParams
returns-in-AbsParams c =
    let d = c.in-AbsParams in
    sym (ap declr_of d.is ∙ abs_params_is d.inner d.«open» d.params d.ellipsis d.close)
