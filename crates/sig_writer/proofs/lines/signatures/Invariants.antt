use Rattle.std.proofs.Common.{◌≡◌, ◌++◌, map, drop}
use Rattle.std.specs.List.{flat_map}
use Rattle.sig_writer.specs.Signatures.{first_refusal, lines_of, nodes_of, Found}
use Rattle.sig_writer.specs.Saying.{IsKnownOf}
use Rattle.sig_writer.specs.Library.{external_by, externals_by}
use Rattle.sig_writer.proofs.lines.signatures.Given as goal

-- the functions so far have lines, or none to write, and what is left is as the whole
abbrev pub invariant-loop-at : goal.invariant-loop-at
invariant-loop-at l = (it : Found) → IsKnownOf l.known (flat_map nodes_of (externals_by l.library)) it →
    (first_refusal it l.known.lattice.now (externals_by l.library)
    ≡ first_refusal it l.known.lattice.now (map (external_by l.library) (drop l.at-index l.library.functions.now)))
    × (lines_of it l.known.lattice.now (externals_by l.library)
    ≡ l.text.items ++ lines_of it l.known.lattice.now
    (map (external_by l.library) (drop l.at-index l.library.functions.now)))
