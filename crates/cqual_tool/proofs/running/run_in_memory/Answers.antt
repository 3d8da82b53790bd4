use Rattle.std.proofs.Common.{map, string_bytes}
use Rattle.outside.specs.Readings.{since}
use Rattle.cqual_tool.specs.Inputs.{inputs_in}
use Rattle.cqual_tool.proofs.Runs.{reads_told}
use Rattle.cqual_tool.proofs.running.run_in_memory.Goals as goal

-- the readings of files in memory are of their contents by the words
pub returns-clause-reads : goal.returns-clause-reads
returns-clause-reads c =
    reads_told c.args.files.now.files (map string_bytes c.args.words.now)
    (since c.args.files.now.log c.run.new.files.log) c.run.ensures.there c.run.ensures.agrees

-- an answer over files in memory is that of their contents, and its text is written behind what was there
pub returns-clause-outcome : goal.returns-clause-outcome
returns-clause-outcome c = λ is.
    let words = map string_bytes c.args.words.now in
    let answer = c.run.ensures.outcome is in
    (answer.0, answer.2 (inputs_in c.args.files.now.files words) (returns-clause-reads c), answer.1)

-- after a write that failed, a front of the text for the contents of the files was written
pub returns-clause-front : goal.returns-clause-front
returns-clause-front c = λ is.
    let words = map string_bytes c.args.words.now in
    let answer = c.run.ensures.front is in
    (answer.0, answer.1, answer.3 (inputs_in c.args.files.now.files words) (returns-clause-reads c), answer.2)
