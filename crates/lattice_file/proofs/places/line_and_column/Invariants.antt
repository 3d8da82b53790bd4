use Rattle.std.proofs.Common.{◌≡◌, ◌≤◌, ◌+◌, take}
use Rattle.lattice_file.specs.Places.{lines_in, after_last_line}
use Rattle.lattice_file.proofs.places.line_and_column.Given as goal

-- line and column are those behind the bytes so far, and no more than these and one
abbrev pub invariant-loop-byte : goal.invariant-loop-byte
invariant-loop-byte l = record {
  line : l.line ≡ lines_in (take l.byte-index l.byte-items) + 1;
  column : l.column ≡ after_last_line (take l.byte-index l.byte-items) 0 + 1;
  few_lines : l.line ≤ l.byte-index + 1;
  few_columns : l.column ≤ l.byte-index + 1;
}
