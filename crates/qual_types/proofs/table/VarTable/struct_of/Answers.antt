use Rattle.std.proofs.Common.{◌∙◌, ap}
use Rattle.qual_types.specs.Skel.{struct_of}
use Rattle.qual_types.proofs.table.VarTable.struct_of.Goals as goal

pub returns-in-Flat : goal.returns-in-Flat
returns-in-Flat c = c.struct_in.ensures c.in-Flat.field-0 ∙ ap struct_of c.in-Flat.ensures.shown
