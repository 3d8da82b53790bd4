-- A copy at a depth is one at each greater depth.
use Rattle.std.proofs.Common.{ℕ, ◌+◌, List, arith}
use Rattle.qual_base.specs.declared.places.Owner.{Owner}
use Rattle.qual_base.specs.declared.places.Owner.TheVariants.{Nobody, Function}
use Rattle.flow_graph.specs.System.{System, owner_of}
use Rattle.flow_graph.specs.CallStrings.{IsCopy, either}
use Rattle.flow_laws.specs.Laws.{LowerIsMet}

copy_is_deeper : (sys : System) (depth : ℕ) (owner : Owner) (sites : List ℕ) → IsCopy sys depth owner sites
    → IsCopy sys (depth + 1) owner sites
copy_is_deeper sys depth Nobody sites h = h
copy_is_deeper sys depth (Function f) sites h = (h.0, omega (arith, h.1))

-- an assignment that meets the unfolding at a depth meets it at the depth below
pub lower_is_met : LowerIsMet
lower_is_met sys lattice depth order map meets = record {
  rises = record {
    elements = meets.rises.elements;
    le = λ n u v sites s copy.
        meets.rises.le n u v sites s (copy_is_deeper sys depth (either (owner_of sys u) (owner_of sys v)) sites copy);
    const = λ n e v sites s copy.
        meets.rises.const n e v sites s (copy_is_deeper sys depth (owner_of sys v) sites copy);
    enter = λ n s u v site sites st there copy fits.
        meets.rises.enter n s u v site sites st there (copy_is_deeper sys depth site.owner sites copy) (omega arith);
    leave = λ n s u v site sites st there copy fits.
        meets.rises.leave n s u v site sites st there (copy_is_deeper sys depth site.owner sites copy) (omega arith);
  };
  bound = λ n e v sites s copy. meets.bound n e v sites s (copy_is_deeper sys depth (owner_of sys v) sites copy);
}
