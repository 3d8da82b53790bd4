use Rattle.std.proofs.Common.{◌≡◌, ◌*◌, ◌≤◌, ℕ, length, drop}
use Rattle.flow_graph.specs.System.{vars_of}
use Rattle.certificate_text.specs.Names.{ends_in, first_from, name_in}
use Rattle.certificate_text.proofs.names.name_table.Given as goal

-- the table has for each variable the first end at which it stands, of those from this one on
abbrev pub invariant-ends : goal.invariant-ends
invariant-ends l = record {
  size : length l.names.items ≡ vars_of l.graph;
  within : l.end ≤ 2 * length l.graph.constraints;
  known : (v : ℕ) → name_in l.names.items v ≡ first_from l.end (drop l.end (ends_in l.graph)) v;
}

abbrev pub decreases-ends : goal.decreases-ends
decreases-ends l = l.end
