use Rattle.std.proofs.Common.{take, get_or}
use Rattle.std.proofs.Common.{◌==◌}
use Rattle.lattice_file.proofs.PlaceLemmas.{line_on, column_on, line_bound, column_bound}
use Rattle.lattice_file.proofs.places.line_and_column.Goals as goal

-- one more byte moves the line and the column as a line feed or another byte does
pub loop-byte-preserved : goal.loop-byte-preserved
loop-byte-preserved c =
    let front = take c.args.place c.args.bytes.now in
    let i = c.loop-byte.byte-index in
    let so_far = c.loop-byte.invariant in
    record {
      line = rw c.behind.ensures.line (line_on front i c.loop-byte.line c.loop-byte-test.true so_far.line);
      column = rw c.behind.ensures.column (column_on front i c.loop-byte.column c.loop-byte-test.true so_far.column);
      few_lines = rw c.behind.ensures.line (line_bound (get_or front i 0 == 10) c.loop-byte.line i so_far.few_lines);
      few_columns =
          rw c.behind.ensures.column (column_bound (get_or front i 0 == 10) c.loop-byte.column i so_far.few_columns);
    }
