use Rattle.unit_system.proofs.Showing.{shared}
use Rattle.unit_system.proofs.system.constrain_units.Goals as goal

-- the names, the skeletons and the call sites of the numbering are what `add_units` shares
pub add_units-requires : goal.add_units-requires
add_units-requires c =
    shared _ c.args.numbering.skeletons c.found_names.ensures c.vars-2.ensures c.starts.ensures c.requires.skeletons
    c.requires.places c.requires.candidates c.access_lattices.ensures
